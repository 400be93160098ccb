-- One local instruction and its lines lead to the same place.
use Rattle.std.proofs.Common.{◌≡◌, ◌≢◌, ℕ, zero, suc, ◌+◌, ◌-◌, ◌*◌, ◌/◌, ◌%◌, ◌^◌, ◌≤◌, ◌<◌, Bool, true, false, ◌&&◌, not, List, length, Option, Some, None, ◌==◌, if◌then◌else◌, refl, ◌∙◌, ap, subst, arith}
use Rattle.std.specs.Prelude.{nat_lt}
use Rattle.std.proofs.lemmas.Bool.Decides.{nat_tests}
use Rattle.norm_lang.specs.declared.text.Reg.{Reg}
use Rattle.norm_lang.specs.declared.text.Reg.TheVariants.{Num, Ref}
use Rattle.norm_lang.specs.declared.text.Instr.{Instr}
use Rattle.norm_lang.specs.declared.text.Instr.TheVariants as instr
use Rattle.norm_lang.specs.declared.registers.Reference.{Reference}
use Rattle.norm_lang.specs.declared.registers.Registers.{Registers}
use Rattle.norm_lang.specs.Registers.{no_reference, number_in, reference_in, with_number, with_reference, same_reference, same_bool}
use Rattle.norm_lang.specs.Local.{Spot, local_step}
use Rattle.oa_words.specs.Packed.{ref_word, mark_bit, is_marked}
use Rattle.oa_words.proofs.Parts.{references_split}
use Rattle.caller_parts.specs.Operands.{packed, unpacked, with_word}
use Rattle.c_language.specs.declared.lines.Line.{Line}
use Rattle.c_language.specs.Steps.{Pool, Frame, Goes, stop, with_local, goes_to, branch, wrap}
use Rattle.c_language.specs.Runs.{Comes}
use Rattle.c_language.proofs.Walking.{here, walks, goes_if, goes_divided}
use Rattle.c_runtime.specs.KindLines.{HasLines}
use Rattle.c_emission.specs.Blocks.{local_of}
use Rattle.c_emission.specs.Locals.{local_block}
use Rattle.emission_laws.specs.Hands.{Holds, AreWords}
use Rattle.emission_laws.specs.Making.{HasNumber, FitsIn}
use Rattle.emission_laws.specs.Locals.{FitsLocal, AtSpot}
use Rattle.emission_laws.proofs.Tables.{set_apart, holds_word, holds_other, low_local}
use Rattle.emission_laws.proofs.Frames.{words_after}
use Rattle.emission_laws.proofs.Sides.{line_is}

-- what a local instruction leads to; none isn't one
abbrev pub OnSpot : Option Spot → (Spot → Type 0) → Type 0
OnSpot None P = Unit {0}
OnSpot (Some spot) P = P spot

-- within a block: the registers are those of its start
record Within (registers : Registers) (from f : Frame) : Type 0 where
  held : Holds registers f.locals
  words : AreWords registers
  others : (x : ℕ) → 16 ≤ x → x ≢ 31 → f.locals x ≡ from.locals x
  kept : f.kept ≡ from.kept

-- a word was put into a register by the last line of a block
arrives : (start : ℕ → ℕ) (at : ℕ) (registers later : Registers) (from f : Frame) (d : Reg) (word : ℕ) → HasNumber d → FitsIn d word → Within registers from f → f.at + 1 ≡ start (at + 1)
    → with_word registers d word ≡ later → AtSpot start (record { at = at + 1; registers = later }) from (with_local (local_of d) word f)
arrives start at registers later from f d word numbered fits w next is =
    subst (λ (x : Registers). AtSpot start (record { at = at + 1; registers = x }) from (with_local (local_of d) word f)) is (record {
      at = next;
      held = holds_word registers f.locals d word w.words numbered w.held;
      words = words_after registers d word fits w.words;
      others = λ x high ne. set_apart f.locals (local_of d) word x (λ e. (let low = low_local d numbered in omega (arith, low, e, high))) ∙ w.others x high ne;
      kept = w.kept;
    })

-- a scratch local was set
scratch : (registers : Registers) (from f : Frame) (word : ℕ) → Within registers from f → Within registers from (with_local 31 word f)
scratch registers from f word w = record {
  held = holds_other registers f.locals 31 word (omega arith) w.held;
  words = w.words;
  others = λ x high ne. set_apart f.locals 31 word x ne ∙ w.others x high ne;
  kept = w.kept;
}

-- ---- references as words

bit : (b : Bool) → mark_bit b ≤ 1
bit true = omega arith
bit false = omega arith

back : (x : Reference) → unpacked (packed x) ≡ x
back x =
    ap (λ (k : ℕ). record { node = k; marked = is_marked (packed x) }) (references_split.slot x.node x.marked) ∙ ap (λ (b : Bool). record { node = x.node; marked = b }) (references_split.mark x.node x.marked)

reference_of : (node word : ℕ) (marked : Bool) → word / 2 ≡ node → (word % 2 == 1) ≡ marked → ◌≡◌ {A = Reference} (unpacked word) (record { node = node; marked = marked })
reference_of node word marked n m = ap (λ (k : ℕ). record { node = k; marked = word % 2 == 1 }) n ∙ ap (λ (b : Bool). record { node = node; marked = b }) m

same_words : (x y : Reference) → (packed x == packed y) ≡ same_reference x y
same_words x y = of x.marked y.marked where
  of : (m n : Bool) → (ref_word x.node m == ref_word y.node n) ≡ ((x.node == y.node) && same_bool m n)
  of true true = go (x.node == y.node) refl where
    go : (b : Bool) → (x.node == y.node) ≡ b → (2 * x.node + 1 == 2 * y.node + 1) ≡ (b && true)
    go true e = grind (arith, nat_tests)
    go false e = grind (arith, nat_tests)
  of false false = go (x.node == y.node) refl where
    go : (b : Bool) → (x.node == y.node) ≡ b → (2 * x.node + 0 == 2 * y.node + 0) ≡ (b && not false)
    go true e = grind (arith, nat_tests)
    go false e = grind (arith, nat_tests)
  of true false = go (x.node == y.node) where
    go : (b : Bool) → (2 * x.node + 1 == 2 * y.node + 0) ≡ (b && false)
    go true = grind (arith, nat_tests)
    go false = grind (arith, nat_tests)
  of false true = go (x.node == y.node) where
    go : (b : Bool) → (2 * x.node + 0 == 2 * y.node + 1) ≡ (b && not true)
    go true = grind (arith, nat_tests)
    go false = grind (arith, nat_tests)

-- ---- jumps

jumps : (pool : Pool) (code : List Line) (start : ℕ → ℕ) (at to : ℕ) (registers : Registers) (from f : Frame) (test known : Bool) → stop pool code f ≡ Goes (branch test (start to) f) → test ≡ known
    → Within registers from f → f.at + 1 ≡ start (at + 1)
    → Comes pool code f (AtSpot start (record { at = if known then to else at + 1; registers = registers }) from)
jumps pool code start at to registers from f test true is same w next =
    goes_if {pool = pool} {code = code} {f = f} test true (start to) is same (here (record { at = refl; held = w.held; words = w.words; others = w.others; kept = w.kept }))
jumps pool code start at to registers from f test false is same w next =
    goes_if {pool = pool} {code = code} {f = f} test false (start to) is same (here (record { at = next; held = w.held; words = w.words; others = w.others; kept = w.kept }))

-- ---- one local instruction

pub one : (pool : Pool) (code : List Line) (start : ℕ → ℕ) (at : ℕ) (i : Instr) (registers : Registers) (from f : Frame) → FitsLocal i → HasLines code (start at) (local_block start i)
    → start (at + 1) ≡ start at + length (local_block start i) → AtSpot start (record { at = at; registers = registers }) from f
    → OnSpot (local_step i at registers) (λ spot. Comes pool code f (AtSpot start spot from))
one pool code start at (instr.Set (Num d) n) registers from f fits has next s =
    let here_at = s.at in
    walks (with_local d n f) (line_is pool code (start at) (local_block start (instr.Set (Num d) n)) f 0 has (omega arith) (omega (arith, here_at)))
    (here (arrives start at registers (with_number registers (Num d) n) from f (Num d) n fits tt (record { held = s.held; words = s.words; others = s.others; kept = s.kept }) (omega (arith, here_at, next)) refl))
one pool code start at (instr.Mov (Num d) (Num a)) registers from f fits has next s =
    let here_at = s.at in
    walks (with_local d (f.locals a) f) (line_is pool code (start at) (local_block start (instr.Mov (Num d) (Num a))) f 0 has (omega arith) (omega (arith, here_at)))
    (here (arrives start at registers (with_number registers (Num d) (number_in registers (Num a))) from f (Num d) (f.locals a) fits.0 tt (record { held = s.held; words = s.words; others = s.others; kept = s.kept }) (omega (arith, here_at, next))
    (ap (with_number registers (Num d)) (s.held.numbers a fits.1))))
one pool code start at (instr.Mov (Ref d) (Ref a)) registers from f fits has next s =
    let here_at = s.at in
    walks (with_local (8 + d) (f.locals (8 + a)) f) (line_is pool code (start at) (local_block start (instr.Mov (Ref d) (Ref a))) f 0 has (omega arith) (omega (arith, here_at)))
    (here (arrives start at registers (with_reference registers (Ref d) (reference_in registers (Ref a))) from f (Ref d) (f.locals (8 + a)) fits.0
    (let w = s.held.references a fits.1 in let node : (reference_in registers (Ref a)).node < 2 ^ 63 = s.words.small a in let one_bit = bit (reference_in registers (Ref a)).marked in omega (arith, w, node, one_bit))
    (record { held = s.held; words = s.words; others = s.others; kept = s.kept }) (omega (arith, here_at, next))
    (ap (with_reference registers (Ref d)) (ap unpacked (s.held.references a fits.1) ∙ back (reference_in registers (Ref a))))))
one pool code start at (instr.Add (Num d) (Num a) (Num b)) registers from f fits has next s =
    let here_at = s.at in
    walks (with_local d (wrap (f.locals a + f.locals b)) f) (line_is pool code (start at) (local_block start (instr.Add (Num d) (Num a) (Num b))) f 0 has (omega arith) (omega (arith, here_at)))
    (here (arrives start at registers (with_number registers (Num d) ((number_in registers (Num a) + number_in registers (Num b)) % 2 ^ 64)) from f (Num d) (wrap (f.locals a + f.locals b)) fits.0 tt
    (record { held = s.held; words = s.words; others = s.others; kept = s.kept }) (omega (arith, here_at, next))
    (ap (λ (x : ℕ). with_number registers (Num d) (wrap (x + f.locals b))) (s.held.numbers a fits.1) ∙ ap (λ (x : ℕ). with_number registers (Num d) (wrap (number_in registers (Num a) + x))) (s.held.numbers b fits.2))))
one pool code start at (instr.Sub (Num d) (Num a) (Num b)) registers from f fits has next s =
    let here_at = s.at in
    walks (with_local d (wrap (f.locals a + (2 ^ 64 - f.locals b))) f) (line_is pool code (start at) (local_block start (instr.Sub (Num d) (Num a) (Num b))) f 0 has (omega arith) (omega (arith, here_at)))
    (here (arrives start at registers (with_number registers (Num d) ((number_in registers (Num a) + (2 ^ 64 - number_in registers (Num b))) % 2 ^ 64)) from f (Num d) (wrap (f.locals a + (2 ^ 64 - f.locals b))) fits.0 tt
    (record { held = s.held; words = s.words; others = s.others; kept = s.kept }) (omega (arith, here_at, next))
    (ap (λ (x : ℕ). with_number registers (Num d) (wrap (x + (2 ^ 64 - f.locals b)))) (s.held.numbers a fits.1) ∙ ap (λ (x : ℕ). with_number registers (Num d) (wrap (number_in registers (Num a) + (2 ^ 64 - x)))) (s.held.numbers b fits.2))))
one pool code start at (instr.Null (Ref d)) registers from f fits has next s =
    let here_at = s.at in
    walks (with_local (8 + d) 0 f) (line_is pool code (start at) (local_block start (instr.Null (Ref d))) f 0 has (omega arith) (omega (arith, here_at)))
    (here (arrives start at registers (with_reference registers (Ref d) no_reference) from f (Ref d) 0 fits (omega arith) (record { held = s.held; words = s.words; others = s.others; kept = s.kept }) (omega (arith, here_at, next)) refl))
one pool code start at (instr.Unmark (Ref d) (Ref a)) registers from f fits has next s =
    let here_at = s.at in
    let w : f.locals (8 + a) ≡ packed (reference_in registers (Ref a)) = s.held.references a fits.1 in
    let node : (reference_in registers (Ref a)).node < 2 ^ 63 = s.words.small a in
    let one_bit = bit (reference_in registers (Ref a)).marked in
    let less : wrap (f.locals (8 + a) + (2 ^ 64 - f.locals (8 + a) % 2)) ≡ 2 * (reference_in registers (Ref a)).node = omega (arith, w, node, one_bit) in
    walks (with_local 31 (f.locals (8 + a) % 2) f) (line_is pool code (start at) (local_block start (instr.Unmark (Ref d) (Ref a))) f 0 has (omega arith) (omega (arith, here_at)))
    (walks (with_local (8 + d) (wrap (f.locals (8 + a) + (2 ^ 64 - f.locals (8 + a) % 2))) (with_local 31 (f.locals (8 + a) % 2) f))
    (line_is pool code (start at) (local_block start (instr.Unmark (Ref d) (Ref a))) (with_local 31 (f.locals (8 + a) % 2) f) 1 has (omega arith) (omega (arith, here_at))
    ∙ ap (λ (v : ℕ). Goes (with_local (8 + d) (wrap (v + (2 ^ 64 - f.locals (8 + a) % 2))) (with_local 31 (f.locals (8 + a) % 2) f))) (let low = fits.1 in set_apart f.locals 31 (f.locals (8 + a) % 2) (8 + a) (λ z. omega (arith, z, low))))
    (here (arrives start at registers (with_reference registers (Ref d) (record { node = (reference_in registers (Ref a)).node; marked = false })) from (with_local 31 (f.locals (8 + a) % 2) f) (Ref d)
    (wrap (f.locals (8 + a) + (2 ^ 64 - f.locals (8 + a) % 2))) fits.0 (omega (arith, less, node)) (scratch registers from f (f.locals (8 + a) % 2) (record { held = s.held; words = s.words; others = s.others; kept = s.kept }))
    (omega (arith, here_at, next)) (ap (with_reference registers (Ref d)) (ap unpacked less ∙ reference_of (reference_in registers (Ref a)).node (2 * (reference_in registers (Ref a)).node) false (omega arith) (grind (arith, nat_tests)))))))
one pool code start at (instr.Jump to) registers from f fits has next s =
    let here_at = s.at in
    walks (goes_to (start to) f) (line_is pool code (start at) (local_block start (instr.Jump to)) f 0 has (omega arith) (omega (arith, here_at)))
    (here (record { at = refl; held = s.held; words = s.words; others = s.others; kept = s.kept }))
one pool code start at (instr.IfEq (Num a) (Num b) to) registers from f fits has next s =
    let here_at = s.at in
    jumps pool code start at to registers from f (f.locals a == f.locals b) (number_in registers (Num a) == number_in registers (Num b))
    (line_is pool code (start at) (local_block start (instr.IfEq (Num a) (Num b) to)) f 0 has (omega arith) (omega (arith, here_at)))
    (ap (λ (x : ℕ). x == f.locals b) (s.held.numbers a fits.0) ∙ ap (λ (x : ℕ). number_in registers (Num a) == x) (s.held.numbers b fits.1))
    (record { held = s.held; words = s.words; others = s.others; kept = s.kept }) (omega (arith, here_at, next))
one pool code start at (instr.IfEq (Ref a) (Ref b) to) registers from f fits has next s =
    let here_at = s.at in
    jumps pool code start at to registers from f (f.locals (8 + a) == f.locals (8 + b)) (same_reference (reference_in registers (Ref a)) (reference_in registers (Ref b)))
    (line_is pool code (start at) (local_block start (instr.IfEq (Ref a) (Ref b) to)) f 0 has (omega arith) (omega (arith, here_at)))
    (ap (λ (x : ℕ). x == f.locals (8 + b)) (s.held.references a fits.0) ∙ (ap (λ (x : ℕ). packed (reference_in registers (Ref a)) == x) (s.held.references b fits.1) ∙ same_words (reference_in registers (Ref a)) (reference_in registers (Ref b))))
    (record { held = s.held; words = s.words; others = s.others; kept = s.kept }) (omega (arith, here_at, next))
one pool code start at (instr.IfLess (Num a) (Num b) to) registers from f fits has next s =
    let here_at = s.at in
    jumps pool code start at to registers from f (nat_lt (f.locals a) (f.locals b)) (nat_lt (number_in registers (Num a)) (number_in registers (Num b)))
    (line_is pool code (start at) (local_block start (instr.IfLess (Num a) (Num b) to)) f 0 has (omega arith) (omega (arith, here_at)))
    (ap (λ (x : ℕ). nat_lt x (f.locals b)) (s.held.numbers a fits.0) ∙ ap (λ (x : ℕ). nat_lt (number_in registers (Num a)) x) (s.held.numbers b fits.1))
    (record { held = s.held; words = s.words; others = s.others; kept = s.kept }) (omega (arith, here_at, next))
one pool code start at (instr.IfMarked (Ref a) to) registers from f fits has next s =
    let here_at = s.at in
    walks (with_local 31 (f.locals (8 + a) % 2) f) (line_is pool code (start at) (local_block start (instr.IfMarked (Ref a) to)) f 0 has (omega arith) (omega (arith, here_at)))
    (jumps pool code start at to registers from (with_local 31 (f.locals (8 + a) % 2) f) (f.locals (8 + a) % 2 == 1) (reference_in registers (Ref a)).marked
    (line_is pool code (start at) (local_block start (instr.IfMarked (Ref a) to)) (with_local 31 (f.locals (8 + a) % 2) f) 1 has (omega arith) (omega (arith, here_at)))
    (ap (λ (x : ℕ). x % 2 == 1) (s.held.references a fits) ∙ references_split.mark (reference_in registers (Ref a)).node (reference_in registers (Ref a)).marked)
    (scratch registers from f (f.locals (8 + a) % 2) (record { held = s.held; words = s.words; others = s.others; kept = s.kept })) (omega (arith, here_at, next)))
one pool code start at (instr.Rem (Num d) (Num a) zero) registers from f fits has next s = (let some = fits.2 in absurd (omega (arith, some)))
one pool code start at (instr.Rem (Num d) (Num a) (suc n)) registers from f fits has next s =
    let here_at = s.at in
    goes_divided {pool = pool} {code = code} {f = f} d (f.locals a % suc n) (suc n)
    (line_is pool code (start at) (local_block start (instr.Rem (Num d) (Num a) (suc n))) f 0 has (omega arith) (omega (arith, here_at))) (omega arith)
    (here (arrives start at registers (with_number registers (Num d) (number_in registers (Num a) % suc n)) from f (Num d) (f.locals a % suc n) fits.0 tt
    (record { held = s.held; words = s.words; others = s.others; kept = s.kept }) (omega (arith, here_at, next))
    (ap (λ (x : ℕ). with_number registers (Num d) (x % suc n)) (s.held.numbers a fits.1))))
one pool code start at (instr.Mark (Ref d) (Ref a)) registers from f fits has next s =
    let here_at = s.at in
    let low = fits.1 in
    let w : f.locals (8 + a) ≡ packed (reference_in registers (Ref a)) = s.held.references a fits.1 in
    let node : (reference_in registers (Ref a)).node < 2 ^ 63 = s.words.small a in
    let one_bit = bit (reference_in registers (Ref a)).marked in
    let less : wrap (f.locals (8 + a) + (2 ^ 64 - f.locals (8 + a) % 2)) ≡ 2 * (reference_in registers (Ref a)).node = omega (arith, w, node, one_bit) in
    let more : wrap (wrap (f.locals (8 + a) + (2 ^ 64 - f.locals (8 + a) % 2)) + 1) ≡ 2 * (reference_in registers (Ref a)).node + 1 = ap (λ (x : ℕ). wrap (x + 1)) less ∙ omega (arith, node) in
    walks (with_local 31 (f.locals (8 + a) % 2) f) (line_is pool code (start at) (local_block start (instr.Mark (Ref d) (Ref a))) f 0 has (omega arith) (omega (arith, here_at)))
    (walks (with_local 31 (wrap (f.locals (8 + a) + (2 ^ 64 - f.locals (8 + a) % 2))) (with_local 31 (f.locals (8 + a) % 2) f))
    (line_is pool code (start at) (local_block start (instr.Mark (Ref d) (Ref a))) (with_local 31 (f.locals (8 + a) % 2) f) 1 has (omega arith) (omega (arith, here_at))
    ∙ ap (λ (v : ℕ). Goes (with_local 31 (wrap (v + (2 ^ 64 - f.locals (8 + a) % 2))) (with_local 31 (f.locals (8 + a) % 2) f))) (set_apart f.locals 31 (f.locals (8 + a) % 2) (8 + a) (λ z. omega (arith, z, low))))
    (walks (with_local (8 + d) (wrap (wrap (f.locals (8 + a) + (2 ^ 64 - f.locals (8 + a) % 2)) + 1)) (with_local 31 (wrap (f.locals (8 + a) + (2 ^ 64 - f.locals (8 + a) % 2))) (with_local 31 (f.locals (8 + a) % 2) f)))
    (line_is pool code (start at) (local_block start (instr.Mark (Ref d) (Ref a))) (with_local 31 (wrap (f.locals (8 + a) + (2 ^ 64 - f.locals (8 + a) % 2))) (with_local 31 (f.locals (8 + a) % 2) f)) 2 has (omega arith) (omega (arith, here_at)))
    (here (arrives start at registers (with_reference registers (Ref d) (record { node = (reference_in registers (Ref a)).node; marked = true })) from
    (with_local 31 (wrap (f.locals (8 + a) + (2 ^ 64 - f.locals (8 + a) % 2))) (with_local 31 (f.locals (8 + a) % 2) f)) (Ref d)
    (wrap (wrap (f.locals (8 + a) + (2 ^ 64 - f.locals (8 + a) % 2)) + 1)) fits.0 (omega (arith, more, node))
    (scratch registers from (with_local 31 (f.locals (8 + a) % 2) f) (wrap (f.locals (8 + a) + (2 ^ 64 - f.locals (8 + a) % 2)))
    (scratch registers from f (f.locals (8 + a) % 2) (record { held = s.held; words = s.words; others = s.others; kept = s.kept })))
    (omega (arith, here_at, next)) (ap (with_reference registers (Ref d)) (ap unpacked more ∙ reference_of (reference_in registers (Ref a)).node (2 * (reference_in registers (Ref a)).node + 1) true (omega arith) (grind (arith, nat_tests))))))))
one pool code start at i registers from f fits has next s = absurd fits
