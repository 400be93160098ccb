-- The hazards of a sweep, noted as bits.
use Rattle.std.proofs.Common.{◌≡◌, ℕ, ◌+◌, ◌≤◌, ◌<◌, Bool, true, false, ◌&&◌, ◌||◌, not, List, ◌==◌, if◌then◌else◌, refl, sym, ◌∙◌, ap, arith, inl}
use Rattle.std.specs.Prelude.{nat_lt, nat_le}
use Rattle.std.proofs.lemmas.Bool.Decides.{nat_tests}
use Rattle.oa_words.specs.Words.{Hazard}
use Rattle.guard_words.specs.Guards.{has_slot, with_slot}
use Rattle.guard_words.proofs.Rows.{gathered_follow}
use Rattle.phase_pools.specs.declared.stages.SweepStage.TheVariants as sweeps
use Rattle.phase_pools.specs.Accesses.{Loads}
use Rattle.phase_pools.specs.Pools.{sweep_goes, hazard_next}
use Rattle.c_language.specs.Steps.{Pool, Kept, Goes, set, with_local, wrap, defined, note}
use Rattle.c_language.proofs.Walking.{here, walks, goes_if}
use Rattle.c_runtime.specs.ClaimFrames.{Gathered}
use Rattle.c_runtime.specs.Laws.{Steps, FitsClaim}
use Rattle.c_runtime.proofs.Shapes.{frame, sweep_at, sweeping, SweepsTo}
use Rattle.c_runtime.proofs.Numbers.{sum}

-- a set bit is one more slot that was gathered
gathers : (gathered : List ℕ) (m : Kept) (word : ℕ) → Gathered gathered m → (j : ℕ) → 1 ≤ j → set m.noted word true j ≡ has_slot (with_slot gathered word) j
gathers gathered m word notes j some = of (j == word) refl ∙ sym (gathered_follow.added gathered word j) where
  of : (b : Bool) → (j == word) ≡ b → (if b then true else m.noted j) ≡ (has_slot gathered j || (not (word == 0) && (word == j)))
  of true e =
      let same : (word == j) ≡ true = grind (arith, nat_tests) in
      let other : (word == 0) ≡ false = grind (arith, nat_tests) in
      last (has_slot gathered j) ∙ ap (λ (b : Bool). has_slot gathered j || (not b && true)) (sym other) ∙ ap (λ (b : Bool). has_slot gathered j || (not (word == 0) && b)) (sym same)
    where
      last : (b : Bool) → true ≡ (b || (not false && true))
      last true = refl
      last false = refl
  of false e =
      let differs : (word == j) ≡ false = grind (arith, nat_tests) in
      notes j some ∙ last (has_slot gathered j) (word == 0) ∙ ap (λ (b : Bool). has_slot gathered j || (not (word == 0) && b)) (sym differs)
    where
      last : (b c : Bool) → b ≡ (b || (not c && false))
      last true c = refl
      last false true = refl
      last false false = refl

-- after the last register of a caller
hazards_on : (pool : Pool) (kind count s c : ℕ) (gathered : List ℕ) (l : ℕ → ℕ) (m : Kept) → FitsClaim pool → c < pool.sizes.callers → count < 2 → l 0 ≡ count → l 6 ≡ s → l 7 ≡ c
    → Gathered gathered m → ((j : ℕ) → pool.sizes.slots < j → m.noted j ≡ false)
    → (r : ℕ) (was : List ℕ) → SweepsTo pool kind count (sweeps.ReadHazard c r) s was (sweep_goes (sweep_at pool (sweeps.ReadHazard c r) s gathered) (if nat_lt (c + 1) pool.sizes.callers then sweeps.ReadHazard (c + 1) 0 else sweeps.ReadStatus pool.sizes.slots)) (frame 35 l m)
hazards_on pool kind count s c gathered l m within lt few same bound caller notes none r was = walks _ refl (of (nat_lt (c + 1) pool.sizes.callers) refl) where
  next : wrap (l 7 + 1) ≡ c + 1
  next = let few = within.callers in ap (λ (x : ℕ). wrap (x + 1)) caller ∙ sum c 1 (omega (arith, lt, few))

  of : (b : Bool) → nat_lt (c + 1) pool.sizes.callers ≡ b
      → SweepsTo pool kind count (sweeps.ReadHazard c r) s was (sweep_goes (sweep_at pool (sweeps.ReadHazard c r) s gathered) (if b then sweeps.ReadHazard (c + 1) 0 else sweeps.ReadStatus pool.sizes.slots)) (frame 36 (set l 7 (wrap (l 7 + 1))) m)
  of true e =
      goes_if (nat_lt (wrap (l 7 + 1)) pool.sizes.callers) true 30 refl (ap (λ (x : ℕ). nat_lt x pool.sizes.callers) next ∙ e)
      (walks _ refl (here (record { sweeps = same; few = few; knows = (refl, bound, next, refl, (notes, none)) })))
  of false e =
      goes_if (nat_lt (wrap (l 7 + 1)) pool.sizes.callers) false 30 refl (ap (λ (x : ℕ). nat_lt x pool.sizes.callers) next ∙ e)
      (walks _ refl (here (record { sweeps = same; few = few; knows = (refl, bound, refl, ((λ j some most. notes j some), none)) })))

pub hazard_read : (pool : Pool) (kind count s c r : ℕ) (gathered : List ℕ) (l : ℕ → ℕ) (m : Kept) → FitsClaim pool → c < pool.sizes.callers → r < 8 → count < 2 → l 0 ≡ count → l 6 ≡ s → l 7 ≡ c → l 8 ≡ r
    → Gathered gathered m → ((j : ℕ) → pool.sizes.slots < j → m.noted j ≡ false)
    → Steps pool kind (sweeping pool kind count (sweeps.ReadHazard c r) s gathered) (frame 31 l m)
hazard_read pool kind count s c r gathered l m within lt low few same bound caller register notes none = record {
  access = Loads (Hazard (l 7) (l 8));
  next = λ word. with_local 4 word (frame 31 l m);
  wants = refl;
  same = ap (λ (x : ℕ). Hazard x (l 8)) caller ∙ ap (λ (x : ℕ). Hazard c x) register;
  each = λ word told. inl (record { leaves = refl; follows = noting word told });
} where
  next : wrap (l 8 + 1) ≡ r + 1
  next = ap (λ (x : ℕ). wrap (x + 1)) register ∙ sum r 1 (omega (arith, low))

  above : (word : ℕ) → word ≤ pool.sizes.slots → (j : ℕ) → pool.sizes.slots < j → set m.noted word true j ≡ false
  above word told j past = of (j == word) refl where
    of : (b : Bool) → (j == word) ≡ b → (if b then true else m.noted j) ≡ false
    of true e = absurd (let is : j ≡ word = grind (arith, nat_tests) in omega (arith, is, told, past))
    of false e = none j past

  of : (word : ℕ) → word ≤ pool.sizes.slots → (b : Bool) → nat_lt (r + 1) 8 ≡ b
      → SweepsTo pool kind count (sweeps.ReadHazard c r) s gathered (sweep_goes (sweep_at pool (sweeps.ReadHazard c r) s (with_slot gathered word)) (if b then sweeps.ReadHazard c (r + 1) else (if nat_lt (c + 1) pool.sizes.callers then sweeps.ReadHazard (c + 1) 0 else sweeps.ReadStatus pool.sizes.slots)))
      (frame 33 (set l 4 word) (note word true m))
  of word told true e =
      walks _ refl
      (goes_if (nat_lt (wrap (l 8 + 1)) 8) true 31 refl (ap (λ (x : ℕ). nat_lt x 8) next ∙ e)
      (here (record { sweeps = same; few = few; knows = (refl, bound, caller, next, (gathers gathered m word notes, above word told)) })))
  of word told false e =
      walks _ refl
      (goes_if (nat_lt (wrap (l 8 + 1)) 8) false 31 refl (ap (λ (x : ℕ). nat_lt x 8) next ∙ e)
      (hazards_on pool kind count s c (with_slot gathered word) (set (set l 4 word) 8 (wrap (l 8 + 1))) (note word true m) within lt few same bound caller (gathers gathered m word notes) (above word told) r gathered))

  noting : (word : ℕ) → word ≤ pool.sizes.slots → SweepsTo pool kind count (sweeps.ReadHazard c r) s gathered (sweep_goes (sweep_at pool (sweeps.ReadHazard c r) s (with_slot gathered word)) (hazard_next pool.sizes c r)) (with_local 4 word (frame 31 l m))
  noting word told =
      let bit : nat_le word pool.sizes.slots ≡ true = grind (arith, nat_tests) in
      walks (frame 33 (set l 4 word) (note word true m)) (ap (λ (b : Bool). defined b (Goes (frame 33 (set l 4 word) (note word true m)))) bit) (of word told (nat_lt (r + 1) 8) refl)
