-- A clear makes a store for each guard that isn't 0 and isn't spared, in the order of numbers.
use Rattle.std.proofs.Common.{◌≡◌, ◌≢◌, ℕ, zero, suc, ◌+◌, ◌<◌, Bool, true, false, ◌&&◌, not, List, ◌∷◌, length, Option, Some, ◌==◌, if◌then◌else◌, refl, sym, ◌∙◌, ap, subst, arith, ⊎_elim}
use Rattle.std.specs.Prelude.{slice_get}
use Rattle.std.proofs.lemmas.Bool.{cases_eq}
use Rattle.std.proofs.lemmas.Bool.Decides.{nat_tests}
use Rattle.oa_words.specs.Words.{Hazard}
use Rattle.phase_pools.specs.Accesses.{Stores}
use Rattle.guard_words.specs.Guards.{Guards, IsRow, guard_at, with_guard, is_spared, is_to_clear, least_from, next_to_clear}
use Rattle.guard_words.proofs.Rows.{guards_follow}
use Rattle.c_language.specs.declared.lines.Parameter.TheVariants.{Own}
use Rattle.c_language.specs.declared.lines.Operand.TheVariants.{Number, Local, Of}
use Rattle.c_language.specs.declared.lines.Value.TheVariants as values
use Rattle.c_language.specs.declared.lines.Place.TheVariants as places
use Rattle.c_language.specs.declared.lines.Test.TheVariants as tests
use Rattle.c_language.specs.declared.lines.Line.{Line}
use Rattle.c_language.specs.declared.lines.Line.TheVariants as lines
use Rattle.c_language.specs.Steps.{Pool, Frame, Goes, Wants, stop, set, with_local, onward, goes_to, branch}
use Rattle.c_language.specs.Runs.{Comes}
use Rattle.c_language.proofs.Walking.{here, walks, leads, goes_if}
use Rattle.c_runtime.specs.KindLines.{HasLines}
use Rattle.c_emission.specs.Blocks.{clear_lines, clear_size}
use Rattle.emission_laws.specs.Hands.{HoldsSlots}
use Rattle.emission_laws.specs.Clears.{AtStore, ClearGoes, Clearing, ClearsAreMade}
use Rattle.emission_laws.proofs.Tables.{set_here, set_apart}
use Rattle.emission_laws.proofs.Sides.{line_is}

-- the lines for a register, and those after it
abbrev one_clear : List Bool → ℕ → ℕ → ℕ → List Line
one_clear spared base r n =
    lines.If (tests.Equal (Local (21 + r)) (Number 0)) (base + 3) ∷ lines.Store (places.Hazard (Of Own) (Number r)) (Number 0) ∷ lines.Let (21 + r) (values.Is (Number 0)) ∷ clear_lines spared (base + 3) (r + 1) n

-- lines after the first three
after_three : (code : List Line) (base : ℕ) (a b c : Line) (more : List Line) → HasLines code base (a ∷ b ∷ c ∷ more) → HasLines code (base + 3) more
after_three code base a b c more has i lt = ap (slice_get code) (omega arith) ∙ has (suc (suc (suc i))) (omega (arith, lt))

-- where a clear from a register on has come to, with all as it was
record Found (code : List Line) (spared : List Bool) (end : ℕ) (found : Option ℕ) (from f : Frame) : Type 0 where
  goes : ClearGoes code spared end found f
  locals : f.locals ≡ from.locals
  kept : f.kept ≡ from.kept

-- found from a frame with the same locals
found_from : (code : List Line) (spared : List Bool) (end : ℕ) (found : Option ℕ) (l : ℕ) (from f : Frame) → Found code spared end found (goes_to l from) f → Found code spared end found from f
found_from code spared end found l from f is = record { goes = is.goes; locals = is.locals; kept = is.kept }

clears : (pool : Pool) (code : List Line) (spared : List Bool) (guards : Guards) (end n r base : ℕ) (f : Frame) → r + n ≡ 8 → HasLines code base (clear_lines spared base r n)
    → end ≡ base + clear_size spared r n → f.at ≡ base → HoldsSlots guards.slots f.locals
    → Comes pool code f (Found code spared end (least_from (is_to_clear guards.slots spared) r n) f)
clears pool code spared guards end zero r base f whole has ends at held = here (record { goes = at ∙ sym (ends ∙ omega arith); locals = refl; kept = refl })
clears pool code spared guards end (suc n) r base f whole has ends at held =
    of (λ b g block last there same. clears pool code spared guards end n (r + 1) b g (omega (arith, whole)) block last there same) (is_spared spared r) refl has ends
  where
    of : ((b : ℕ) (g : Frame) → HasLines code b (clear_lines spared b (r + 1) n) → end ≡ b + clear_size spared (r + 1) n → g.at ≡ b → HoldsSlots guards.slots g.locals
        → Comes pool code g (Found code spared end (least_from (is_to_clear guards.slots spared) (r + 1) n) g)) → (b : Bool) → is_spared spared r ≡ b → HasLines code base (if b then clear_lines spared base (r + 1) n else one_clear spared base r n)
        → end ≡ base + (if b then clear_size spared (r + 1) n else 3 + clear_size spared (r + 1) n)
        → Comes pool code f (Found code spared end (least_from (is_to_clear guards.slots spared) r (suc n)) f)
    of further true is block last =
        subst (λ (o : Option ℕ). Comes pool code f (Found code spared end o f)) (sym (ap (λ (b : Bool). if b then Some r else least_from (is_to_clear guards.slots spared) (r + 1) n)
        (ap (λ (b : Bool). not (guard_at guards r == 0) && not b) is ∙ never (not (guard_at guards r == 0)))))
        (further base f block last at held)
      where
        never : (b : Bool) → (b && not true) ≡ false
        never true = refl
        never false = refl
    of further false is block last = judged (guard_at guards r == 0) refl where
      tested : stop pool code f ≡ Goes (branch (f.locals (21 + r) == 0) (base + 3) f)
      tested = line_is pool code base (one_clear spared base r n) f 0 block (omega arith) (omega (arith, at))

      same : f.locals (21 + r) ≡ guard_at guards r
      same = held r (omega (arith, whole))

      least : (b : Bool) → (guard_at guards r == 0) ≡ b → least_from (is_to_clear guards.slots spared) r (suc n) ≡ (if not b && not false then Some r else least_from (is_to_clear guards.slots spared) (r + 1) n)
      least b e = ap (λ (x : Bool). if not x && not (is_spared spared r) then Some r else least_from (is_to_clear guards.slots spared) (r + 1) n) e
          ∙ ap (λ (x : Bool). if not b && not x then Some r else least_from (is_to_clear guards.slots spared) (r + 1) n) is

      -- the same block, as the definition has it
      whole_block : HasLines code base (clear_lines spared base r (suc n))
      whole_block = has

      judged : (b : Bool) → (guard_at guards r == 0) ≡ b → Comes pool code f (Found code spared end (least_from (is_to_clear guards.slots spared) r (suc n)) f)
      judged true e =
          subst (λ (o : Option ℕ). Comes pool code f (Found code spared end o f)) (sym (least true e))
          (goes_if {pool = pool} {code = code} {f = f} (f.locals (21 + r) == 0) true (base + 3) tested (ap (λ (x : ℕ). x == 0) same ∙ e)
          (leads (further (base + 3) (goes_to (base + 3) f)
          (after_three code base (lines.If (tests.Equal (Local (21 + r)) (Number 0)) (base + 3)) (lines.Store (places.Hazard (Of Own) (Number r)) (Number 0)) (lines.Let (21 + r) (values.Is (Number 0))) (clear_lines spared (base + 3) (r + 1) n) block)
          (last ∙ omega arith) refl held)
          (λ g found. found_from code spared end (least_from (is_to_clear guards.slots spared) (r + 1) n) (base + 3) f g found)))
      judged false e =
          subst (λ (o : Option ℕ). Comes pool code f (Found code spared end o f)) (sym (least false e))
          (goes_if {pool = pool} {code = code} {f = f} (f.locals (21 + r) == 0) false (base + 3) tested (ap (λ (x : ℕ). x == 0) same ∙ e)
          (here (record { goes = record { base = base; more = n; has = whole_block; sum = whole; kept = is; at = omega (arith, at); ends = ends }; locals = refl; kept = refl })))

-- ---- from the first register on

skipped : (test : ℕ → Bool) (r n : ℕ) → ((k : ℕ) → k < r → test k ≡ false) → least_from test 0 (r + n) ≡ least_from test r n
skipped test r n none = go r 0 n (omega arith) none where
  go : (left s n : ℕ) → s + left ≡ r → ((k : ℕ) → k < r → test k ≡ false) → least_from test s (left + n) ≡ least_from test r n
  go zero s n sum none = ap (λ (k : ℕ). least_from test k (0 + n)) (omega (arith, sum)) ∙ ap (least_from test r) (omega arith)
  go (suc left) s n sum none =
      ap (least_from test s) (let one : suc left + n ≡ suc (left + n) = omega arith in one)
      ∙ (ap (λ (b : Bool). if b then Some s else least_from test (s + 1) (left + n)) (none s (omega (arith, sum))) ∙ go left (s + 1) n (omega (arith, sum)) none)

pub clear_begins : (pool : Pool) (code : List Line) (spared : List Bool) (base : ℕ) (guards : Guards) (f : Frame) → IsRow guards → HasLines code base (clear_lines spared base 0 8) → f.at ≡ base
    → HoldsSlots guards.slots f.locals → Comes pool code f (Clearing code spared (base + clear_size spared 0 8) guards f)
clear_begins pool code spared base guards f row has at held =
    leads (clears pool code spared guards (base + clear_size spared 0 8) 8 0 base f refl has refl at held) arrives
  where
    arrives : (g : Frame) → Found code spared (base + clear_size spared 0 8) (least_from (is_to_clear guards.slots spared) 0 8) f g → Clearing code spared (base + clear_size spared 0 8) guards f g
    arrives g found =
        let eight : length guards.slots ≡ 8 = row.slots in
        record {
          goes = subst (λ (k : ℕ). ClearGoes code spared (base + clear_size spared 0 8) (least_from (is_to_clear guards.slots spared) 0 k) g) (sym eight) found.goes;
          slots = λ r lt. ap (λ (l : ℕ → ℕ). l (21 + r)) found.locals ∙ held r lt;
          others = λ x apart. ap (λ (l : ℕ → ℕ). l x) found.locals;
          kept = found.kept;
        }

-- ---- from a store on

-- no register up to the one that was cleared is to be cleared any more
none_left : (guards : Guards) (spared : List Bool) (k : ℕ) → IsRow guards → next_to_clear guards spared ≡ Some k → (j : ℕ) → j < k + 1 → is_to_clear (with_guard guards k 0).slots spared j ≡ false
none_left guards spared k row next j lt =
    guards_follow.cleared guards spared k j row ∙ ⊎_elim
    (λ (is : j ≡ k). ap (λ (b : Bool). is_to_clear guards.slots spared j && not b) (let same : (j == k) ≡ true = grind (arith, nat_tests) in same) ∙ never (is_to_clear guards.slots spared j))
    (λ (ne : j ≢ k). ap (λ (b : Bool). b && not (j == k)) ((guards_follow.next_some guards spared k row next).2 j (omega (arith, lt, ne)))) (cases_eq j k)
  where
    never : (b : Bool) → (b && not true) ≡ false
    never true = refl
    never false = refl

pub clear_stores : (pool : Pool) (code : List Line) (spared : List Bool) (end k : ℕ) (guards : Guards) (f : Frame) → IsRow guards → AtStore code spared end k f → HoldsSlots guards.slots f.locals
    → next_to_clear guards spared ≡ Some k
    → (next : ℕ → Frame) × (stop pool code f ≡ Wants (Stores (Hazard pool.own k) 0) next) × ((word : ℕ) → Comes pool code (next word) (Clearing code spared end (with_guard guards k 0) f))
clear_stores pool code spared end k guards f row at held next = ((λ word. onward f), line_is pool code at.base (one_clear spared at.base k at.more) f 1 block (omega arith) (let here = at.at in omega (arith, here)), (λ word. on)) where
  block : HasLines code at.base (one_clear spared at.base k at.more)
  block = subst (λ (b : Bool). HasLines code at.base (if b then clear_lines spared at.base (k + 1) at.more else one_clear spared at.base k at.more)) at.kept at.has

  ends : end ≡ at.base + (3 + clear_size spared (k + 1) at.more)
  ends = subst (λ (b : Bool). end ≡ at.base + (if b then clear_size spared (k + 1) at.more else 3 + clear_size spared (k + 1) at.more)) at.kept at.ends

  low : k < 8
  low = let sum = at.sum in omega (arith, sum)

  row_now : IsRow (with_guard guards k 0)
  row_now = guards_follow.row_put guards k 0 row

  held_now : HoldsSlots (with_guard guards k 0).slots (set f.locals (21 + k) 0)
  held_now r lt = ⊎_elim
      (λ (is : r ≡ k). set_here f.locals (21 + k) 0 (21 + r) (ap (λ (x : ℕ). 21 + x) is) ∙ sym (ap (guard_at (with_guard guards k 0)) is ∙ guards_follow.put_slot guards k 0 row low))
      (λ (ne : r ≢ k). set_apart f.locals (21 + k) 0 (21 + r) (λ z. ne (omega (arith, z))) ∙ (held r lt ∙ sym (guards_follow.other_slot guards k 0 r ne))) (cases_eq r k)

  least : next_to_clear (with_guard guards k 0) spared ≡ least_from (is_to_clear (with_guard guards k 0).slots spared) (k + 1) at.more
  least =
      let eight = row_now.slots in
      let sum = at.sum in
      ap (least_from (is_to_clear (with_guard guards k 0).slots spared) 0) (omega (arith, eight, sum)) ∙ skipped (is_to_clear (with_guard guards k 0).slots spared) (k + 1) at.more (none_left guards spared k row next)

  arrives : (g : Frame) → Found code spared end (least_from (is_to_clear (with_guard guards k 0).slots spared) (k + 1) at.more) (with_local (21 + k) 0 (onward f)) g → Clearing code spared end (with_guard guards k 0) f g
  arrives g found = record {
    goes = subst (λ (o : Option ℕ). ClearGoes code spared end o g) (sym least) found.goes;
    slots = λ r lt. ap (λ (l : ℕ → ℕ). l (21 + r)) found.locals ∙ held_now r lt;
    others = λ x apart. ap (λ (l : ℕ → ℕ). l x) found.locals ∙ set_apart f.locals (21 + k) 0 x (apart k low);
    kept = found.kept;
  }

  on : Comes pool code (onward f) (Clearing code spared end (with_guard guards k 0) f)
  on =
      walks (with_local (21 + k) 0 (onward f)) (line_is pool code at.base (one_clear spared at.base k at.more) (onward f) 2 block (omega arith) (let here = at.at in omega (arith, here)))
      (leads (clears pool code spared (with_guard guards k 0) end at.more (k + 1) (at.base + 3) (with_local (21 + k) 0 (onward f)) (let sum = at.sum in omega (arith, sum))
      (after_three code at.base (lines.If (tests.Equal (Local (21 + k)) (Number 0)) (at.base + 3)) (lines.Store (places.Hazard (Of Own) (Number k)) (Number 0)) (lines.Let (21 + k) (values.Is (Number 0))) (clear_lines spared (at.base + 3) (k + 1) at.more) block)
      (ends ∙ omega arith) (let here = at.at in omega (arith, here)) held_now) arrives)

pub clears_are_made : ClearsAreMade
clears_are_made = record { begins = clear_begins; stores = clear_stores }
