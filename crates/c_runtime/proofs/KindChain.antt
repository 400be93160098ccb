-- The lines that look for a slot's kind find it.
use Rattle.std.proofs.Common.{◌≡◌, ℕ, suc, ◌+◌, ◌-◌, ◌≤◌, ◌<◌, Bool, true, false, List, [], ◌∷◌, length, ◌==◌, if◌then◌else◌, refl, sym, ◌∙◌, ap, subst, arith}
use Rattle.std.specs.Prelude.{slice_get, nat_lt, nat_le}
use Rattle.std.proofs.lemmas.Bool.Decides.{nat_tests}
use Rattle.oa_words.specs.SlotKinds.{kind_of, kind_in, sum_before, first_of}
use Rattle.c_language.specs.declared.lines.Line.{Line}
use Rattle.c_language.specs.Steps.{Pool, Frame, Goes, stop, stop_at, set, with_local, onward, goes_to, branch}
use Rattle.c_language.specs.Runs.{Comes}
use Rattle.c_language.proofs.Walking.{here, walks, goes_if}
use Rattle.c_runtime.specs.KindLines.{kind_lines, HasLines, AtPush, KindsAreFound}

line_at : (pool : Pool) (code : List Line) (base : ℕ) (block : List Line) (f : Frame) (i : ℕ) → HasLines code base block → i < length block → f.at ≡ base + i
    → stop pool code f ≡ stop_at pool f (slice_get block i)
line_at pool code base block f i has lt at = ap (λ (k : ℕ). stop_at pool f (slice_get code k)) at ∙ ap (stop_at pool f) (has i lt)

set_other : (l : ℕ → ℕ) (x word : ℕ) → (x ≡ 12 → ⊥) → set l 12 word x ≡ l x
set_other l x word ne = ap (λ (b : Bool). if b then word else l x) (let other : (x == 12) ≡ false = grind (arith, nat_tests) in other)

-- from a kind on, with so many slots before it
go : (pool : Pool) (code : List Line) (push : ℕ) (counts : List ℕ) (t s base j : ℕ) (from f : Frame) → 1 ≤ length counts → s < j
    → ((i : ℕ) → i < length counts → first_of pool.sizes (t + i) ≡ 1 + (s + sum_before counts i))
    → HasLines code base (kind_lines push t (length counts)) → f.at ≡ base → f.locals 2 ≡ j
    → ((x : ℕ) → (x ≡ 12 → ⊥) → f.locals x ≡ from.locals x) → f.kept ≡ from.kept
    → Comes pool code f (AtPush push (t + kind_in counts (j - s)) from)
go pool code push [] t s base j from f some above firsts has at slot same kept = absurd (omega (arith, some))
go pool code push (count ∷ []) t s base j from f some above firsts has at slot same kept =
    walks (with_local 12 t f) (line_at pool code base (kind_lines push t 1) f 0 has (omega arith) (omega (arith, at)))
    (walks (goes_to push (with_local 12 t f)) (line_at pool code base (kind_lines push t 1) (with_local 12 t f) 1 has (omega arith) (omega (arith, at)))
    (here (record { line = refl; named = omega arith; others = λ x ne. set_other f.locals x t ne ∙ same x ne; kept = kept })))
go pool code push (count ∷ (next ∷ counts)) t s base j from f some above firsts has at slot same kept =
    walks (with_local 12 t f) (line_at pool code base (kind_lines push t (length (count ∷ (next ∷ counts)))) f 0 has (omega arith) (omega (arith, at)))
    (of (λ (g : Frame) at_next slot_next same_next kept_next above_next firsts_next has_next.
    go pool code push (next ∷ counts) (t + 1) (s + count) (base + 2) j from g (omega arith) above_next firsts_next has_next at_next slot_next same_next kept_next)
    (nat_lt (f.locals 2) (first_of pool.sizes (t + 1))) refl)
  where
    first : first_of pool.sizes (t + 1) ≡ 1 + (s + (count + 0))
    first = firsts 1 (omega arith)

    tested : stop pool code (with_local 12 t f) ≡ Goes (branch (nat_lt (f.locals 2) (first_of pool.sizes (t + 1))) push (with_local 12 t f))
    tested = line_at pool code base (kind_lines push t (length (count ∷ (next ∷ counts)))) (with_local 12 t f) 1 has (omega arith) (omega (arith, at))

    others : (x : ℕ) → (x ≡ 12 → ⊥) → set f.locals 12 t x ≡ from.locals x
    others x ne = set_other f.locals x t ne ∙ same x ne

    kind_here : (b : Bool) → nat_le (j - s) count ≡ b
        → t + kind_in (count ∷ (next ∷ counts)) (j - s) ≡ t + (if b then 0 else suc (kind_in (next ∷ counts) (j - s - count)))
    kind_here b is = ap (λ (x : Bool). t + (if x then 0 else suc (kind_in (next ∷ counts) (j - s - count)))) is

    of : ((g : Frame) → g.at ≡ base + 2 → g.locals 2 ≡ j → ((x : ℕ) → (x ≡ 12 → ⊥) → g.locals x ≡ from.locals x) → g.kept ≡ from.kept → s + count < j
        → ((i : ℕ) → i < length (next ∷ counts) → first_of pool.sizes (t + 1 + i) ≡ 1 + (s + count + sum_before (next ∷ counts) i))
        → HasLines code (base + 2) (kind_lines push (t + 1) (length (next ∷ counts)))
        → Comes pool code g (AtPush push (t + 1 + kind_in (next ∷ counts) (j - (s + count))) from))
        → (b : Bool) → nat_lt (f.locals 2) (first_of pool.sizes (t + 1)) ≡ b
        → Comes pool code (with_local 12 t f) (AtPush push (t + kind_in (count ∷ (next ∷ counts)) (j - s)) from)
    of further true is =
        let low : f.locals 2 < first_of pool.sizes (t + 1) = grind (arith, nat_tests) in
        let in_it : nat_le (j - s) count ≡ true = (let le : j - s ≤ count = omega (arith, low, first, slot, above) in grind (arith, nat_tests)) in
        goes_if {pool = pool} {code = code} {f = with_local 12 t f} (nat_lt (f.locals 2) (first_of pool.sizes (t + 1))) true push tested is
        (here (record { line = refl; named = omega arith ∙ sym (kind_here true in_it); others = others; kept = kept }))
    of further false is =
        let high : first_of pool.sizes (t + 1) ≤ f.locals 2 = grind (arith, nat_tests) in
        let past : nat_le (j - s) count ≡ false = (let gt : count < j - s = omega (arith, high, first, slot, above) in grind (arith, nat_tests)) in
        goes_if {pool = pool} {code = code} {f = with_local 12 t f} (nat_lt (f.locals 2) (first_of pool.sizes (t + 1))) false push tested is
        (subst (λ (k : ℕ). Comes pool code (onward (with_local 12 t f)) (AtPush push k from))
        (let rest : j - s - count ≡ j - (s + count) = omega arith in
        ap (λ (x : ℕ). t + 1 + kind_in (next ∷ counts) x) (sym rest) ∙ (omega arith ∙ sym (kind_here false past)))
        (further (onward (with_local 12 t f)) (omega (arith, at)) slot others kept (omega (arith, high, first, slot))
        (λ i lt. let same_place : t + 1 + i ≡ t + suc i = omega arith in ap (first_of pool.sizes) same_place ∙ (firsts (suc i) (omega (arith, lt)) ∙ omega arith))
        (λ i lt. ap (slice_get code) (omega arith) ∙ has (suc (suc i)) (omega (arith, lt)))))

pub found : (pool : Pool) (code : List Line) (base push j : ℕ) (f : Frame) → 1 ≤ length pool.sizes.kinds → 1 ≤ j
    → HasLines code base (kind_lines push 0 (length pool.sizes.kinds)) → f.at ≡ base → f.locals 2 ≡ j → Comes pool code f (AtPush push (kind_of pool.sizes j) f)
found pool code base push j f some least has at slot =
    subst (λ (k : ℕ). Comes pool code f (AtPush push k f)) (let e : j - 0 ≡ j = omega arith in ap (λ (x : ℕ). 0 + kind_in pool.sizes.kinds x) e ∙ omega arith)
    (go pool code push pool.sizes.kinds 0 0 base j f f some (omega (arith, least))
    (λ i lt. let same : 0 + i ≡ i = omega arith in ap (first_of pool.sizes) same ∙ omega arith) has at slot (λ x ne. refl) refl)

pub kinds_are_found : KindsAreFound
kinds_are_found = record { found = found }
