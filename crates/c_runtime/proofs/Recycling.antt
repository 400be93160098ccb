-- The statuses of a sweep.
use Rattle.std.proofs.Common.{◌≡◌, ◌≢◌, ◌⊎◌, ℕ, ◌+◌, ◌-◌, ◌*◌, ◌/◌, ◌%◌, ◌^◌, ◌≤◌, ◌<◌, Bool, true, false, ◌&&◌, not, List, Option, Some, None, ◌==◌, if◌then◌else◌, refl, sym, ◌∙◌, ap, arith, inl, inr, subst}
use Rattle.std.specs.Prelude.{nat_lt, nat_le}
use Rattle.std.proofs.lemmas.Bool.Decides.{nat_tests}
use Rattle.std.proofs.lemmas.Bool.{cases_eq}
use Rattle.oa_words.specs.declared.packed.Kind.{Kind}
use Rattle.oa_words.specs.declared.packed.Kind.TheVariants as kinds
use Rattle.oa_words.specs.Words.{Status, Sizes}
use Rattle.oa_words.specs.Packed.{status_parts, StatusParts, parts_by, status_kind_of}
use Rattle.guard_words.specs.Guards.{has_slot}
use Rattle.phase_pools.specs.declared.access.SweepEnd.TheVariants as swept
use Rattle.phase_pools.specs.declared.stages.SweepStage.{SweepStage}
use Rattle.phase_pools.specs.declared.stages.SweepStage.TheVariants as sweeps
use Rattle.phase_pools.specs.Accesses.{Loads}
use Rattle.phase_pools.specs.Pools.{Sweep, SweepTurn, sweep_goes, sweep_ends, sweep_on, status_read, freeing}
use Rattle.c_language.specs.Steps.{Pool, Kept, Goes, set, with_local, wrap, defined, branch, note}
use Rattle.c_language.proofs.Walking.{here, walks, goes_if}
use Rattle.c_runtime.specs.ClaimFrames.{GatheredTo, GatheredBelow}
use Rattle.c_runtime.specs.Laws.{Steps, FitsClaim}
use Rattle.c_runtime.proofs.Shapes.{frame, sweep_at, sweeping, SweepsTo}
use Rattle.c_runtime.proofs.Numbers.{fits, sum, less, status_fits, slot_fits}

-- on to the next lower slot, or to the sweep's end
pub next_on : (pool : Pool) (kind count s j : ℕ) (gathered : List ℕ) (was : SweepStage) (l : ℕ → ℕ) (m : Kept) → FitsClaim pool → 1 ≤ j → j ≤ pool.sizes.slots → count < 2 → l 0 ≡ count → l 6 ≡ s → l 2 ≡ j
    → GatheredBelow j gathered m
    → SweepsTo pool kind count was s gathered (sweep_on pool.sizes (sweep_at pool was s gathered) j) (frame 48 l m)
next_on pool kind count s j gathered was l m within some most few same bound slot notes = of (nat_lt 1 j) refl where
  small : j < 2 ^ 64
  small = slot_fits pool j within most

  of : (b : Bool) → nat_lt 1 j ≡ b
      → SweepsTo pool kind count was s gathered (if b then sweep_goes (sweep_at pool was s gathered) (sweeps.ReadStatus (j - 1)) else sweep_ends (sweep_at pool was s gathered) swept.Swept) (frame 48 l m)
  of true e =
      let more : 1 < j = grind (arith, nat_tests) in
      let lower : wrap (l 2 + (2 ^ 64 - 1)) ≡ j - 1 = ap (λ (x : ℕ). wrap (x + (2 ^ 64 - 1))) slot ∙ less j 1 some small in
      goes_if (nat_lt 1 (l 2)) true 50 refl (ap (λ (x : ℕ). nat_lt 1 x) slot ∙ e)
      (walks _ refl (walks _ refl (here (record { sweeps = same; few = few; knows = (refl, bound, lower, ((λ i first last. notes.0 i first (omega (arith, last, more))), (λ i past. notes.1 i (omega (arith, past))))) }))))
  of false e =
      let one : j ≡ 1 = grind (arith, nat_tests) in
      goes_if (nat_lt 1 (l 2)) false 50 refl (ap (λ (x : ℕ). nat_lt 1 x) slot ∙ e)
      (walks _ refl (walks _ refl (walks _ refl (here (record { sweeps = ap (λ (x : ℕ). wrap (x + 1)) same ∙ sum count 1 (omega (arith, few)); few = omega (arith, few); knows = (refl, λ i first. notes.1 i (omega (arith, first, one))) })))))

-- what a status that is no slot to recycle comes to
passes : (n : Sizes) (sweep : Sweep) (j : ℕ) (parts : Option StatusParts) → ((q : ℕ) → parts ≡ Some (record { phase = q; kind = kinds.Retired }) → (nat_lt q sweep.low && not (has_slot sweep.gathered j)) ≡ false)
    → status_read n sweep j parts ≡ sweep_on n sweep j
passes n sweep j None never = refl
passes n sweep j (Some parts) never = of parts.kind refl where
  of : (kind : Kind) → parts.kind ≡ kind → freeing n sweep j parts.phase kind ≡ sweep_on n sweep j
  of kinds.Ready is = refl
  of kinds.Used is = refl
  of kinds.Retired is = ap (λ (b : Bool). if b then sweep_goes sweep (sweeps.MakeReady j parts.phase) else sweep_on n sweep j) (never parts.phase (ap (λ (k : Kind). Some (record { phase = parts.phase; kind = k })) is))

-- only a word that leaves 2 is retired
two_retired : (word : ℕ) → word % 4 ≡ 2 → status_parts word ≡ Some (record { phase = word / 4; kind = kinds.Retired })
two_retired word is = ap (λ (n : ℕ). parts_by (word / 4) (status_kind_of n)) is

abbrev phase_in : Option StatusParts → ℕ
phase_in None = 0
phase_in (Some parts) = parts.phase

abbrev retired_kind : Kind → Bool
retired_kind kinds.Retired = true
retired_kind kinds.Ready = false
retired_kind kinds.Used = false

abbrev is_retired : Option StatusParts → Bool
is_retired None = false
is_retired (Some parts) = retired_kind parts.kind

kept : (phase : ℕ) (a b c : Bool) → c ≡ false → is_retired (parts_by phase (if a then Some kinds.Ready else (if b then Some kinds.Used else (if c then Some kinds.Retired else None)))) ≡ false
kept phase true b c is = refl
kept phase false true c is = refl
kept phase false false c is = ap (λ (x : Bool). is_retired (parts_by phase (if x then Some kinds.Retired else None))) is

apart : false ≡ true → ⊥
apart e = absurd cc

retired_two : (word q : ℕ) → status_parts word ≡ Some (record { phase = q; kind = kinds.Retired }) → (word % 4 ≡ 2) × (q ≡ word / 4)
retired_two word q is = of (word % 4) refl (cases_eq (word % 4) 2) where
  of : (n : ℕ) → word % 4 ≡ n → ((n ≡ 2) ⊎ (n ≢ 2)) → (word % 4 ≡ 2) × (q ≡ word / 4)
  of n e (inl two) =
      let same : Some (record { phase = word / 4; kind = kinds.Retired }) ≡ Some (record { phase = q; kind = kinds.Retired }) = sym (two_retired word (e ∙ two)) ∙ is in
      (e ∙ two, sym (ap phase_in same))
  of n e (inr other) = absurd (of_kind n other (sym (ap (λ (x : ℕ). parts_by (word / 4) (status_kind_of x)) e) ∙ is)) where
    of_kind : (x : ℕ) → x ≢ 2 → parts_by (word / 4) (status_kind_of x) ≡ Some (record { phase = q; kind = kinds.Retired }) → ⊥
    of_kind x ne bad = (let z : false ≡ true = sym (kept (word / 4) (x == 0) (x == 1) (x == 2) (grind (arith, nat_tests))) ∙ ap is_retired bad in apart z)

pub status_loaded : (pool : Pool) (kind count s j : ℕ) (gathered : List ℕ) (l : ℕ → ℕ) (m : Kept) → FitsClaim pool → s ≤ pool.last → 1 ≤ j → j ≤ pool.sizes.slots → count < 2 → l 0 ≡ count → l 6 ≡ s → l 2 ≡ j
    → GatheredTo j gathered m
    → Steps pool kind (sweeping pool kind count (sweeps.ReadStatus j) s gathered) (frame 38 l m)
status_loaded pool kind count s j gathered l m within fit some most few same bound slot notes = record {
  access = Loads (Status (l 2));
  next = λ word. with_local 9 word (frame 38 l m);
  wants = refl;
  same = ap (λ (x : ℕ). Status x) slot;
  each = λ word told. inl (record { leaves = refl; follows = noted word });
} where
  -- the bit is cleared, whatever it was
  cleared : GatheredBelow j gathered (note (l 2) false m)
  cleared = (below, above) where
    below : (i : ℕ) → 1 ≤ i → i < j → set m.noted (l 2) false i ≡ has_slot gathered i
    below i first last = ap (λ (b : Bool). if b then false else m.noted i) (let apart : (i == l 2) ≡ false = grind (arith, nat_tests) in apart) ∙ notes.0 i first (omega (arith, last))

    above : (i : ℕ) → j ≤ i → set m.noted (l 2) false i ≡ false
    above i past = of (i == l 2) refl where
      of : (b : Bool) → (i == l 2) ≡ b → (if b then false else m.noted i) ≡ false
      of true e = refl
      of false e = (let apart : i ≢ j = grind (arith, nat_tests) in notes.1 i (omega (arith, past, apart)))

  -- nothing is recycled
  on : (word : ℕ) (locals : ℕ → ℕ) → locals 0 ≡ count → locals 6 ≡ s → locals 2 ≡ j
      → ((q : ℕ) → status_parts word ≡ Some (record { phase = q; kind = kinds.Retired }) → (nat_lt q s && not (has_slot gathered j)) ≡ false)
      → SweepsTo pool kind count (sweeps.ReadStatus j) s gathered (status_read pool.sizes (sweep_at pool (sweeps.ReadStatus j) s gathered) j (status_parts word)) (frame 48 locals (note (l 2) false m))
  on word locals zeroth sixth second never =
      subst (λ (turn : SweepTurn). SweepsTo pool kind count (sweeps.ReadStatus j) s gathered turn (frame 48 locals (note (l 2) false m)))
      (sym (passes pool.sizes (sweep_at pool (sweeps.ReadStatus j) s gathered) j (status_parts word) never))
      (next_on pool kind count s j gathered (sweeps.ReadStatus j) locals (note (l 2) false m) within some most few zeroth sixth second cleared)

  -- it was retired before, and no guard names it
  recycles : (word : ℕ) → word % 4 ≡ 2 → nat_lt (word / 4) s ≡ true → has_slot gathered j ≡ false
      → SweepsTo pool kind count (sweeps.ReadStatus j) s gathered (status_read pool.sizes (sweep_at pool (sweeps.ReadStatus j) s gathered) j (status_parts word))
      (frame 45 (set (set (set l 9 word) 5 (word % 4)) 10 (word / 4)) (note (l 2) false m))
  recycles word two below away =
      subst (λ (parts : Option StatusParts). SweepsTo pool kind count (sweeps.ReadStatus j) s gathered (status_read pool.sizes (sweep_at pool (sweeps.ReadStatus j) s gathered) j parts)
      (frame 45 (set (set (set l 9 word) 5 (word % 4)) 10 (word / 4)) (note (l 2) false m))) (sym (two_retired word two))
      (subst (λ (b : Bool). SweepsTo pool kind count (sweeps.ReadStatus j) s gathered (if b then sweep_goes (sweep_at pool (sweeps.ReadStatus j) s gathered) (sweeps.MakeReady j (word / 4)) else sweep_on pool.sizes (sweep_at pool (sweeps.ReadStatus j) s gathered) j)
      (frame 45 (set (set (set l 9 word) 5 (word % 4)) 10 (word / 4)) (note (l 2) false m)))
      (sym (ap (λ (b : Bool). b && not (has_slot gathered j)) below ∙ ap not away))
      (walks _ refl (here (record { sweeps = same; few = few; knows = (refl, bound, slot, omega (arith, two), ready, cleared) }))))
    where
      ready : wrap (l 6 * 4) ≡ 4 * s + 0
      ready = let room = status_fits pool s within fit in ap (λ (x : ℕ). wrap (x * 4)) bound ∙ fits (s * 4) (omega (arith, room)) ∙ omega arith

  aged : (word : ℕ) → word % 4 ≡ 2 → has_slot gathered j ≡ false → (b : Bool) → nat_lt (word / 4) s ≡ b
      → SweepsTo pool kind count (sweeps.ReadStatus j) s gathered (status_read pool.sizes (sweep_at pool (sweeps.ReadStatus j) s gathered) j (status_parts word))
      (frame 43 (set (set (set l 9 word) 5 (word % 4)) 10 (word / 4)) (note (l 2) false m))
  aged word two away true e = goes_if (nat_lt (word / 4) (l 6)) true 45 refl (ap (λ (x : ℕ). nat_lt (word / 4) x) bound ∙ e) (recycles word two e away)
  aged word two away false e =
      goes_if (nat_lt (word / 4) (l 6)) false 45 refl (ap (λ (x : ℕ). nat_lt (word / 4) x) bound ∙ e)
      (walks _ refl (on word (set (set (set l 9 word) 5 (word % 4)) 10 (word / 4)) same bound slot
      (λ q is. ap (λ (x : ℕ). nat_lt x s && not (has_slot gathered j)) (retired_two word q is).1 ∙ ap (λ (b : Bool). b && not (has_slot gathered j)) e)))

  judged : (word : ℕ) → has_slot gathered j ≡ false → (b : Bool) → (word % 4 == 2) ≡ b
      → SweepsTo pool kind count (sweeps.ReadStatus j) s gathered (status_read pool.sizes (sweep_at pool (sweeps.ReadStatus j) s gathered) j (status_parts word))
      (frame 40 (set l 9 word) (note (l 2) false m))
  judged word away true e =
      walks _ refl (goes_if (not (word % 4 == 2)) false 48 refl (ap not e) (walks _ refl (aged word (let two : word % 4 ≡ 2 = grind (arith, nat_tests) in two) away (nat_lt (word / 4) s) refl)))
  judged word away false e =
      walks _ refl (goes_if (not (word % 4 == 2)) true 48 refl (ap not e)
      (on word (set (set l 9 word) 5 (word % 4)) same bound slot (λ q is. absurd (let two = (retired_two word q is).0 in let other : word % 4 ≢ 2 = grind (arith, nat_tests) in other two))))

  of : (word : ℕ) (b : Bool) → m.noted (l 2) ≡ b
      → SweepsTo pool kind count (sweeps.ReadStatus j) s gathered (status_read pool.sizes (sweep_at pool (sweeps.ReadStatus j) s gathered) j (status_parts word))
      (branch b 48 (frame 39 (set l 9 word) (note (l 2) false m)))
  of word true e =
      let gathered_it : has_slot gathered j ≡ true = sym (notes.0 j some (omega arith)) ∙ ap m.noted (sym slot) ∙ e in
      on word (set l 9 word) same bound slot (λ q is. ap (λ (b : Bool). nat_lt q s && not b) gathered_it ∙ never (nat_lt q s))
    where
      never : (b : Bool) → (b && not true) ≡ false
      never true = refl
      never false = refl
  of word false e =
      let away : has_slot gathered j ≡ false = sym (notes.0 j some (omega arith)) ∙ ap m.noted (sym slot) ∙ e in
      judged word away (word % 4 == 2) refl

  noted : (word : ℕ) → SweepsTo pool kind count (sweeps.ReadStatus j) s gathered (status_read pool.sizes (sweep_at pool (sweeps.ReadStatus j) s gathered) j (status_parts word))
      (with_local 9 word (frame 38 l m))
  noted word =
      let bit : nat_le (l 2) pool.sizes.slots ≡ true = grind (arith, nat_tests) in
      walks (branch (m.noted (l 2)) 48 (frame 39 (set l 9 word) (note (l 2) false m))) (ap (λ (b : Bool). defined b (Goes (branch (m.noted (l 2)) 48 (frame 39 (set l 9 word) (note (l 2) false m))))) bit)
      (of word (m.noted (l 2)) refl)
