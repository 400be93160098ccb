-- A claim over words that nobody else changes doesn't end with Full if a slot is ready or was retired.
use Rattle.std.proofs.Common.{ℕ, ◌≡◌, ◌≢◌, ◌==◌, ◌+◌, ◌≤◌, ◌<◌, ◌⊎◌, ◌∙◌, Bool, true, false, List, [], Option, Some, None, arith, inl, inr, ⊎_elim, sym, ap, subst, refl, max, if◌then◌else◌}
use Rattle.std.specs.Prelude.{nat_lt}
use Rattle.std.proofs.lemmas.Bool.{cases_eq}
use Rattle.std.proofs.lemmas.Bool.Decides.{nat_tests}
use Rattle.oa_words.specs.declared.packed.Kind.TheVariants as kinds
use Rattle.oa_words.specs.Words.{Sizes, Word, Phase, Hazard, Status, Head}
use Rattle.oa_words.specs.SlotKinds.{kind_of}
use Rattle.oa_words.specs.Packed.{StatusParts, HeadParts, status_word, status_parts, head_word, head_parts}
use Rattle.oa_words.proofs.Parts.{head_back, head_whole}
use Rattle.oa_words.specs.Memories.{store}
use Rattle.guard_words.specs.Guards.{has_slot, with_slot}
use Rattle.phase_pools.specs.declared.access.ClaimEnd.{ClaimEnd}
use Rattle.phase_pools.specs.declared.access.ClaimEnd.TheVariants as ends
use Rattle.phase_pools.specs.declared.access.SweepEnd.{SweepEnd}
use Rattle.phase_pools.specs.declared.access.SweepEnd.TheVariants as swept
use Rattle.phase_pools.specs.declared.stages.Scheme.{Scheme}
use Rattle.phase_pools.specs.declared.stages.Scheme.TheVariants.{Warned, Announced}
use Rattle.phase_pools.specs.declared.stages.SweepStage.{SweepStage}
use Rattle.phase_pools.specs.declared.stages.SweepStage.TheVariants as sweeps
use Rattle.phase_pools.specs.declared.stages.ClaimStage.{ClaimStage}
use Rattle.phase_pools.specs.declared.stages.ClaimStage.TheVariants as claims
use Rattle.phase_pools.specs.Accesses.{word_of}
use Rattle.chain_laws.specs.Chains.{top}
use Rattle.phase_pools.specs.Pools.{Claim, Sweep, claim_wants_at, claim_accepts_at, claim_goes, claim_ends, look_ended, look_begun, sweep_follows, sweep_ended, sweep_goes, sweep_ends, sweep_on, warn_wanted, sweep_wants_at, sweep_accepts_at, has_lower, phase_read, freeing, status_read, made_ready, push_read, pushed}
use Rattle.phase_pools.proofs.Keeping.{claim_stays}
use Rattle.phase_pools.proofs.Statuses.{from_slot, from_status}
use Rattle.chain_laws.proofs.Changes.{head_here, head_other}
use Rattle.oa_simulation.proofs.sim_relation.Words.{store_idle, each_status}
use Rattle.run_laws.proofs.lone_claims.Pools.{made, HasKind, reads}

-- a slot of the row that is ready, or that was retired before a phase
abbrev pub IsFree : (Word → ℕ) → ℕ → Type 0
IsFree m i = HasKind kinds.Ready m i

abbrev pub IsOld : (Word → ℕ) → ℕ → ℕ → Type 0
IsOld m i p = (q : ℕ) × (m (Status i) ≡ status_word q kinds.Retired) × (q < p)

-- a slot is on top of a kind's chain
abbrev pub HasTop : ℕ → (Word → ℕ) → ℕ → Type 0
HasTop tops m k = top tops m k ≢ 0

-- the sweep has gathered no slot, and recycles what was retired before the phase to which it raises
abbrev IsBare : Sweep → Type 0
IsBare sweep = (sweep.gathered ≡ []) × (sweep.low ≡ sweep.bound)

-- a slot that the sweep has made ready is of the kind, or the slot comes after it, or a slot of the kind is on top
abbrev IsAhead : Sizes → (Word → ℕ) → ℕ → ℕ → ℕ → ℕ → Type 0
IsAhead n m k i bound j = (kind_of n j ≡ k) ⊎ (IsOld m i bound × (i < j)) ⊎ HasTop n.tops m k

-- what a sweep knows of a slot of the kind: until the slot is read it was retired before the sweep's phase, and then one of the kind is on top
abbrev FreeSweep : Sizes → (Word → ℕ) → ℕ → ℕ → ℕ → SweepStage → Type 0
FreeSweep n m k i bound sweeps.ReadPhase = IsOld m i (m Phase + 1)
FreeSweep n m k i bound (sweeps.RaisePhase p) = (p ≡ m Phase) × IsOld m i (m Phase + 1)
FreeSweep n m k i bound (sweeps.Warn c) = IsOld m i bound
FreeSweep n m k i bound (sweeps.ReadHazard c r) = (c ≡ 0) × IsOld m i bound
FreeSweep n m k i bound (sweeps.ReadStatus j) = (1 ≤ j) × (j ≤ n.slots) × ((IsOld m i bound × (i ≤ j)) ⊎ HasTop n.tops m k)
FreeSweep n m k i bound (sweeps.MakeReady j q) = (1 ≤ j) × (j ≤ n.slots) × (((j ≡ i) × (m (Status j) ≡ status_word q kinds.Retired)) ⊎ (IsOld m i bound × (i < j)) ⊎ HasTop n.tops m k)
FreeSweep n m k i bound (sweeps.PushHead h j) = (1 ≤ j) × (j ≤ n.slots) × (h ≡ kind_of n j) × IsAhead n m k i bound j
FreeSweep n m k i bound (sweeps.PushLink j q t) = (1 ≤ j) × (j ≤ n.slots) × (m (Head (kind_of n j)) ≡ head_word n.tops q t) × IsAhead n m k i bound j
FreeSweep n m k i bound (sweeps.PushTop h j q t) = (1 ≤ j) × (j ≤ n.slots) × (h ≡ kind_of n j) × (m (Head h) ≡ head_word n.tops q t) × IsAhead n m k i bound j

abbrev FreeSwept : Sizes → (Word → ℕ) → ℕ → ℕ → Sweep → Option SweepEnd → Type 0
FreeSwept n m k i sweep None = IsBare sweep × FreeSweep n m k i sweep.bound sweep.stage
FreeSwept n m k i sweep (Some swept.Swept) = HasTop n.tops m k
FreeSwept n m k i sweep (Some (swept.PhasesOver p)) = Unit {0}

-- and a look: nobody else changes the heads
abbrev FreeStage : Sizes → (Word → ℕ) → ℕ → ℕ → ℕ → Sweep → ClaimStage → Type 0
FreeStage n m k i made sweep claims.ReadHead = ((made ≡ 0) × IsOld m i (m Phase + 1)) ⊎ HasTop n.tops m k
FreeStage n m k i made sweep (claims.ReadLink q t) = m (Head k) ≡ head_word n.tops q t
FreeStage n m k i made sweep (claims.Take q t next) = m (Head k) ≡ head_word n.tops q t
FreeStage n m k i made sweep (claims.StoreUsed q t) = Unit {0}
FreeStage n m k i made sweep (claims.Withdraw own) = ⊥
FreeStage n m k i made sweep claims.Sweeps = (made ≡ 0) × IsBare sweep × FreeSweep n m k i sweep.bound sweep.stage

abbrev FreeOn : Sizes → (Word → ℕ) → ℕ → Claim → Option ClaimEnd → Type 0
FreeOn n m i claim None = FreeStage n m claim.kind i claim.sweeps claim.sweep claim.stage
FreeOn n m i claim (Some (ends.Claimed j)) = Unit {0}
FreeOn n m i claim (Some ends.Full) = ⊥
FreeOn n m i claim (Some (ends.PhasesOver p)) = Unit {0}

module _ (n : Sizes) (i : ℕ) (least : 1 ≤ i) (most : i ≤ n.slots) (few : n.slots < n.tops) (lone : n.callers ≡ 1) where
  -- ---- looks, of claims whose sweeps warn the callers

  look_first : (m : Word → ℕ) (claim : Claim) → claim.sweep.scheme ≡ Warned → claim.sweeps ≡ 0 → IsOld m i (m Phase + 1) → FreeOn n m i (look_ended claim).claim (look_ended claim).ended
  look_first m claim warns none old = first (claim.sweeps == 2) refl where
    sweeps_first : (scheme : Scheme) → scheme ≡ Warned → FreeOn n m i (sweep_follows scheme claim.sweeps claim).claim (sweep_follows scheme claim.sweeps claim).ended
    sweeps_first scheme is = rw is (none, (refl, refl), old)

    first : (b : Bool) → (claim.sweeps == 2) ≡ b
        → FreeOn n m i (if b then claim_ends claim ends.Full else sweep_follows claim.sweep.scheme claim.sweeps claim).claim (if b then claim_ends claim ends.Full else sweep_follows claim.sweep.scheme claim.sweeps claim).ended
    first true is = let two : claim.sweeps ≡ 2 = grind (arith, nat_tests) in let no : ⊥ = omega (arith, two, none) in no
    first false is = sweeps_first claim.sweep.scheme warns

  looks : (m : Word → ℕ) (claim : Claim) → claim.sweep.scheme ≡ Warned → FreeStage n m claim.kind i claim.sweeps claim.sweep claims.ReadHead
      → FreeOn n m i (look_begun claim (head_parts n.tops (m (Head claim.kind)))).claim (look_begun claim (head_parts n.tops (m (Head claim.kind)))).ended
  looks m claim warns at = looked (head_parts n.tops (m (Head claim.kind))) refl where
    looked : (parts : HeadParts) → head_parts n.tops (m (Head claim.kind)) ≡ parts → FreeOn n m i (look_begun claim parts).claim (look_begun claim parts).ended
    looked parts same = of (parts.top == 0) refl at where
      of : (b : Bool) → (parts.top == 0) ≡ b → FreeStage n m claim.kind i claim.sweeps claim.sweep claims.ReadHead
          → FreeOn n m i (if b then look_ended claim else claim_goes claim (claims.ReadLink parts.phase parts.top)).claim (if b then look_ended claim else claim_goes claim (claims.ReadLink parts.phase parts.top)).ended
      of true is (inl first) = look_first m claim warns first.0 first.1
      of true is (inr some) = absurd (some (ap (λ (p : HeadParts). p.top) same ∙ grind (arith, nat_tests)))
      of false is at = sym (head_whole n.tops (m (Head claim.kind))) ∙ ap (λ (p : HeadParts). head_word n.tops p.phase p.top) same

  -- ---- sweeps

  -- a slot is on top after it was put there
  put_on_top : (m : Word → ℕ) (h q j : ℕ) → 1 ≤ j → j ≤ n.slots → HasTop n.tops (store m (Head h) (head_word n.tops q j)) h
  put_on_top m h q j low high z =
      let there : top n.tops (store m (Head h) (head_word n.tops q j)) h ≡ j = ap (λ (word : ℕ). (head_parts n.tops word).top) (head_here m h (head_word n.tops q j)) ∙ ap (λ (parts : HeadParts). parts.top) (head_back n.tops q j (omega (arith, high, few))) in
      let zero : j ≡ 0 = sym there ∙ z in
      omega (arith, low, zero)

  module _ (k : ℕ) (own : kind_of n i ≡ k) where
    swept_free : (m : Word → ℕ) (sweep : Sweep) (j : ℕ) → IsBare sweep → j ≤ n.slots → HasTop n.tops m k → FreeSwept n m k i (sweep_on n sweep j).sweep (sweep_on n sweep j).ended
    swept_free m sweep j none le some = from_slot (λ turn. FreeSwept n m k i turn.sweep turn.ended) n sweep j (λ more. (none, (omega (arith, more), omega (arith, le), inr some))) some

    swept_old : (m : Word → ℕ) (sweep : Sweep) (j : ℕ) → IsBare sweep → j ≤ n.slots → IsOld m i sweep.bound → i < j → FreeSwept n m k i (sweep_on n sweep j).sweep (sweep_on n sweep j).ended
    swept_old m sweep j none le old lt = let more : has_lower n j ≡ true = (let above : 1 < j = omega (arith, least, lt) in grind (arith, nat_tests)) in rw more (none, (omega (arith, least, lt), omega (arith, le), inl (old, omega (arith, lt))))

    -- another slot is read
    passes : (m : Word → ℕ) (sweep : Sweep) (j : ℕ) (o : Option StatusParts) → FreeSwept n m k i (sweep_on n sweep j).sweep (sweep_on n sweep j).ended
        → ((q : ℕ) → FreeSwept n m k i (record sweep { stage = sweeps.MakeReady j q }) None) → FreeSwept n m k i (status_read n sweep j o).sweep (status_read n sweep j o).ended
    passes m sweep j o on makes = from_status (λ turn. FreeSwept n m k i turn.sweep turn.ended) n sweep j o on (λ p is below away. makes p.phase)

    -- the slot itself
    makes_ready : (m : Word → ℕ) (sweep : Sweep) (q : ℕ) → IsBare sweep → m (Status i) ≡ status_word q kinds.Retired → q < sweep.bound → FreeSwept n m k i (freeing n sweep i q kinds.Retired).sweep (freeing n sweep i q kinds.Retired).ended
    makes_ready m sweep q none is lt =
        let low = none.1 in
        let below : nat_lt q sweep.low ≡ true = (let less : q < sweep.low = omega (arith, lt, low) in grind (arith, nat_tests, less)) in
        let away : has_slot sweep.gathered i ≡ false = ap (λ (g : List ℕ). has_slot g i) none.0 in
        rw (below, away) (none, (least, most, inl (refl, is)))

    reads_status : (m : Word → ℕ) (sweep : Sweep) (j : ℕ) → IsBare sweep → 1 ≤ j → j ≤ n.slots → (IsOld m i sweep.bound × (i ≤ j)) ⊎ HasTop n.tops m k
        → FreeSwept n m k i (status_read n sweep j (status_parts (m (Status j)))).sweep (status_read n sweep j (status_parts (m (Status j)))).ended
    reads_status m sweep j none low high (inl old) = ⊎_elim
        (λ (e : j ≡ i). subst (λ (l : ℕ). FreeSwept n m k i (status_read n sweep l (status_parts (m (Status l)))).sweep (status_read n sweep l (status_parts (m (Status l)))).ended) (sym e)
        (subst (λ (o : Option StatusParts). FreeSwept n m k i (status_read n sweep i o).sweep (status_read n sweep i o).ended) (sym (reads m i old.0.0 kinds.Retired old.0.1)) (makes_ready m sweep old.0.0 none old.0.1 old.0.2)))
        (λ (ne : j ≢ i). let le = old.1 in let lt : i < j = omega (arith, le, ne) in
        passes m sweep j (status_parts (m (Status j))) (swept_old m sweep j none high old.0 lt) (λ q. (none, (low, high, inr (inl (old.0, lt))))))
        (cases_eq j i)
    reads_status m sweep j none low high (inr some) = passes m sweep j (status_parts (m (Status j))) (swept_free m sweep j none high some) (λ q. (none, (low, high, inr (inr some))))

    -- the exchange of a slot's status
    other_status : (m : Word → ℕ) (j v : ℕ) → j ≢ i → store m (Status j) v (Status i) ≡ m (Status i)
    other_status m j v ne = each_status (λ l w. l ≢ j → w ≡ m (Status l)) m j v (λ no. absurd (no refl)) (λ l no far. refl) i (λ e. ne (sym e))

    -- a slot after this one leaves it as it was
    old_still : (m : Word → ℕ) (j v bound : ℕ) → IsOld m i bound → i < j → IsOld (store m (Status j) v) i bound
    old_still m j v bound old lt = let ne : j ≢ i = (λ e. (let no : ⊥ = omega (arith, lt, e) in no)) in (old.0, other_status m j v ne ∙ old.1, old.2)

    exchanges : (m : Word → ℕ) (sweep : Sweep) (j q : ℕ) → IsBare sweep → FreeSweep n m k i sweep.bound (sweeps.MakeReady j q)
        → FreeSwept n (made m (sweep_wants_at sweep.tops sweep.scheme (sweeps.MakeReady j q) sweep.bound)) k i (made_ready n sweep j q (m (Status j))).sweep (made_ready n sweep j q (m (Status j))).ended
    exchanges m sweep j q none at = of (m (Status j) == status_word q kinds.Retired) refl at.2 where
      of : (b : Bool) → (m (Status j) == status_word q kinds.Retired) ≡ b → ((j ≡ i) × (m (Status j) ≡ status_word q kinds.Retired)) ⊎ (IsOld m i sweep.bound × (i < j)) ⊎ HasTop n.tops m k
          → FreeSwept n (store m (Status j) (if b then status_word sweep.bound kinds.Ready else m (Status j))) k i (if b then sweep_goes sweep (sweeps.PushHead (kind_of n j) j) else sweep_on n sweep j).sweep (if b then sweep_goes sweep (sweeps.PushHead (kind_of n j) j) else sweep_on n sweep j).ended
      of true is (inl here) = (none, (at.0, at.1, refl, inl (ap (kind_of n) here.0 ∙ own)))
      of true is (inr (inl old)) = (none, (at.0, at.1, refl, inr (inl (old_still m j (status_word sweep.bound kinds.Ready) sweep.bound old.0 old.1, old.1))))
      of true is (inr (inr some)) = (none, (at.0, at.1, refl, inr (inr some)))
      of false is (inl here) = absurd (let e = here.1 in let no : true ≡ false = sym (let hit : (m (Status j) == status_word q kinds.Retired) ≡ true = grind (arith, nat_tests, e) in hit) ∙ is in cc)
      of false is (inr (inl old)) = swept_old (store m (Status j) (m (Status j))) sweep j none at.1 (old_still m j (m (Status j)) sweep.bound old.0 old.1) old.1
      of false is (inr (inr some)) = swept_free (store m (Status j) (m (Status j))) sweep j none at.1 some

    -- nobody else changes the heads, so that the push succeeds
    pushes : (m : Word → ℕ) (sweep : Sweep) (tops h j q t : ℕ) → tops ≡ n.tops → IsBare sweep → FreeSweep n m k i sweep.bound (sweeps.PushTop h j q t)
        → FreeSwept n (made m (sweep_wants_at tops sweep.scheme (sweeps.PushTop h j q t) sweep.bound)) k i (pushed n sweep j q t (m (Head h))).sweep (pushed n sweep j q t (m (Head h))).ended
    pushes m sweep tops h j q t same none at =
        let hit : (m (Head h) == head_word n.tops q t) ≡ true = (let e = at.3 in grind (arith, nat_tests, e)) in
        subst (λ (l : ℕ). FreeSwept n (made m (sweep_wants_at l sweep.scheme (sweeps.PushTop h j q t) sweep.bound)) k i (pushed n sweep j q t (m (Head h))).sweep (pushed n sweep j q t (m (Head h))).ended) (sym same)
        (rw hit (put (head_word n.tops (max q sweep.bound) j) (put_on_top m h (max q sweep.bound) j at.0 at.1)))
      where
        put : (word : ℕ) → HasTop n.tops (store m (Head h) word) h → FreeSwept n (store m (Head h) word) k i (sweep_on n sweep j).sweep (sweep_on n sweep j).ended
        put word there = ⊎_elim
            (λ (same : h ≡ k). swept_free (store m (Head h) word) sweep j none at.1 (subst (HasTop n.tops (store m (Head h) word)) same there))
            (λ (ne : h ≢ k). elsewhere ne at.4)
            (cases_eq h k)
          where
            elsewhere : h ≢ k → IsAhead n m k i sweep.bound j → FreeSwept n (store m (Head h) word) k i (sweep_on n sweep j).sweep (sweep_on n sweep j).ended
            elsewhere ne (inl same) = absurd (ne (at.2 ∙ same))
            elsewhere ne (inr (inl old)) = swept_old (store m (Head h) word) sweep j none at.1 old.0 old.1
            elsewhere ne (inr (inr some)) = swept_free (store m (Head h) word) sweep j none at.1 (λ z. some (sym (ap (λ (word : ℕ). (head_parts n.tops word).top) (head_other m h word k (λ e. ne (sym e)))) ∙ z))

    -- no hazard word of the caller is set
    abbrev NoHazards : (Word → ℕ) → Type 0
    NoHazards m = (r : ℕ) → m (Hazard 0 r) ≡ 0

    hazards : (m : Word → ℕ) (sweep : Sweep) (c r : ℕ) → IsBare sweep → NoHazards m → c ≡ 0 → IsOld m i sweep.bound
        → FreeSwept n m k i (sweep_accepts_at n 0 sweep (m (Hazard c r)) (sweeps.ReadHazard c r)).sweep (sweep_accepts_at n 0 sweep (m (Hazard c r)) (sweeps.ReadHazard c r)).ended
    hazards m sweep c r none zeros first old =
        let word : m (Hazard c r) ≡ 0 = ap (λ (d : ℕ). m (Hazard d r)) first ∙ zeros r in
        let gathered : with_slot sweep.gathered (m (Hazard c r)) ≡ [] = ap (λ (w : ℕ). with_slot sweep.gathered w) word ∙ none.0 in
        let last : nat_lt (c + 1) n.callers ≡ false = grind (arith, nat_tests, lone, first) in
        ((gathered, none.1), of (nat_lt (r + 1) 8) (nat_lt (c + 1) n.callers) last)
      where
        of : (a b : Bool) → b ≡ false → FreeSweep n m k i sweep.bound (if a then sweeps.ReadHazard c (r + 1) else (if b then sweeps.ReadHazard (c + 1) 0 else sweeps.ReadStatus n.slots))
        of true b is = (first, old)
        of false true is = absurd (let no : true ≡ false = is in cc)
        of false false is = (omega (arith, least, most), omega arith, inl (old, most))

    warned_all : (m : Word → ℕ) (sweep : Sweep) (c : ℕ) (scheme : Scheme) → scheme ≡ Warned → sweep.scheme ≡ scheme → IsBare sweep → IsOld m i sweep.bound
        → FreeSwept n (made m (sweep_wants_at sweep.tops scheme (sweeps.Warn c) sweep.bound)) k i (sweep_accepts_at n 0 sweep (m (word_of (sweep_wants_at sweep.tops scheme (sweeps.Warn c) sweep.bound))) (sweeps.Warn c)).sweep
        (sweep_accepts_at n 0 sweep (m (word_of (sweep_wants_at sweep.tops scheme (sweeps.Warn c) sweep.bound))) (sweeps.Warn c)).ended
    warned_all m sweep c scheme warns is none old = rw (warns, is ∙ warns) (none, of (nat_lt (c + 1) n.callers)) where
      of : (b : Bool) → FreeSweep n (made m (sweep_wants_at sweep.tops Warned (sweeps.Warn c) sweep.bound)) k i sweep.bound (if b then sweeps.Warn (c + 1) else sweeps.ReadHazard 0 0)
      of true = old
      of false = (refl, old)

    sweeps_on : (last : ℕ) (m : Word → ℕ) (sweep : Sweep) (stage : SweepStage) → sweep.scheme ≡ Warned → sweep.tops ≡ n.tops → NoHazards m → IsBare sweep → FreeSweep n m k i sweep.bound stage
        → FreeSwept n (made m (sweep_wants_at sweep.tops sweep.scheme stage sweep.bound)) k i (sweep_accepts_at n last sweep (m (word_of (sweep_wants_at sweep.tops sweep.scheme stage sweep.bound))) stage).sweep
        (sweep_accepts_at n last sweep (m (word_of (sweep_wants_at sweep.tops sweep.scheme stage sweep.bound))) stage).ended
    sweeps_on last m sweep sweeps.ReadPhase warns same zeros none at = subst (λ (w : Word → ℕ). FreeSwept n w k i (phase_read last sweep (m Phase)).sweep (phase_read last sweep (m Phase)).ended) (store_idle m Phase) (of (m Phase == last)) where
      of : (b : Bool) → FreeSwept n m k i (if b then sweep_ends sweep (swept.PhasesOver (m Phase)) else sweep_goes sweep (sweeps.RaisePhase (m Phase))).sweep (if b then sweep_ends sweep (swept.PhasesOver (m Phase)) else sweep_goes sweep (sweeps.RaisePhase (m Phase))).ended
      of true = tt
      of false = (none, (refl, at))
    sweeps_on last m sweep (sweeps.RaisePhase p) warns same zeros none at = let is = at.0 in let lt = at.1.2 in ((none.0, refl), (at.1.0, at.1.1, omega (arith, is, lt)))
    sweeps_on last m sweep (sweeps.Warn c) warns same zeros none at = warned_all m sweep c sweep.scheme warns refl none at
    sweeps_on last m sweep (sweeps.ReadHazard c r) warns same zeros none at = subst (λ (w : Word → ℕ). FreeSwept n w k i (sweep_accepts_at n last sweep (m (Hazard c r)) (sweeps.ReadHazard c r)).sweep (sweep_accepts_at n last sweep (m (Hazard c r)) (sweeps.ReadHazard c r)).ended) (store_idle m (Hazard c r))
        (hazards m sweep c r none zeros at.0 at.1)
    sweeps_on last m sweep (sweeps.ReadStatus j) warns same zeros none at = subst (λ (w : Word → ℕ). FreeSwept n w k i (status_read n sweep j (status_parts (m (Status j)))).sweep (status_read n sweep j (status_parts (m (Status j)))).ended) (store_idle m (Status j))
        (reads_status m sweep j none at.0 at.1 at.2)
    sweeps_on last m sweep (sweeps.MakeReady j q) warns same zeros none at = exchanges m sweep j q none at
    sweeps_on last m sweep (sweeps.PushHead h j) warns same zeros none at = subst (λ (w : Word → ℕ). FreeSwept n w k i (push_read sweep j (head_parts n.tops (m (Head h)))).sweep (push_read sweep j (head_parts n.tops (m (Head h)))).ended) (store_idle m (Head h))
        (none, (at.0, at.1, ap (λ (l : ℕ). m (Head l)) (sym at.2) ∙ sym (head_whole n.tops (m (Head h))), at.3))
    sweeps_on last m sweep (sweeps.PushLink j q t) warns same zeros none at = (none, (at.0, at.1, refl, at.2, at.3))
    sweeps_on last m sweep (sweeps.PushTop h j q t) warns same zeros none at = pushes m sweep sweep.tops h j q t same none at

  -- ---- the claim

  sweep_done : (m : Word → ℕ) (claim : Claim) (sweep : Sweep) (end : Option SweepEnd) → claim.stage ≡ claims.Sweeps → claim.sweeps ≡ 0 → FreeSwept n m claim.kind i sweep end → FreeOn n m i (sweep_ended claim sweep end).claim (sweep_ended claim sweep end).ended
  sweep_done m claim sweep None is zero_is on = subst (λ (stage : ClaimStage). FreeStage n m claim.kind i claim.sweeps sweep stage) (sym is) (zero_is, on.0, on.1)
  sweep_done m claim sweep (Some swept.Swept) is zero_is on = inr on
  sweep_done m claim sweep (Some (swept.PhasesOver p)) is zero_is on = tt

  turns : (last : ℕ) (m : Word → ℕ) (claim : Claim) (stage : ClaimStage) → claim.stage ≡ stage → kind_of n i ≡ claim.kind → claim.sweep.scheme ≡ Warned → claim.sweep.tops ≡ n.tops → ((r : ℕ) → m (Hazard 0 r) ≡ 0) → FreeStage n m claim.kind i claim.sweeps claim.sweep stage
      → FreeOn n (made m (claim_wants_at claim.sweep.tops claim.kind claim.sweep stage)) i (claim_accepts_at n last claim (m (word_of (claim_wants_at claim.sweep.tops claim.kind claim.sweep stage))) stage).claim (claim_accepts_at n last claim (m (word_of (claim_wants_at claim.sweep.tops claim.kind claim.sweep stage))) stage).ended
  turns last m claim claims.ReadHead is own warns same zeros at =
      subst (λ (w : Word → ℕ). FreeOn n w i (look_begun claim (head_parts n.tops (m (Head claim.kind)))).claim (look_begun claim (head_parts n.tops (m (Head claim.kind)))).ended) (store_idle m (Head claim.kind)) (looks m claim warns at)
  turns last m claim (claims.ReadLink q t) is own warns same zeros at = at
  turns last m claim (claims.Take q t next) is own warns same zeros at =
      let hit : (m (Head claim.kind) == head_word n.tops q t) ≡ true = grind (arith, nat_tests, at) in
      rw hit tt
  turns last m claim (claims.StoreUsed q t) is own warns same zeros at = tt
  turns last m claim (claims.Withdraw caller) is own warns same zeros at = absurd at
  turns last m claim claims.Sweeps is own warns same zeros at =
      let turn = sweep_accepts_at n last claim.sweep (m (word_of (sweep_wants_at claim.sweep.tops claim.sweep.scheme claim.sweep.stage claim.sweep.bound))) claim.sweep.stage in
      sweep_done (made m (sweep_wants_at claim.sweep.tops claim.sweep.scheme claim.sweep.stage claim.sweep.bound)) claim turn.sweep turn.ended is at.0 (sweeps_on claim.kind own last m claim.sweep claim.sweep.stage warns same zeros at.1 at.2)

  -- its accesses leave the hazard words as they are
  warning_spares : (m : Word → ℕ) (scheme : Scheme) (c bound r : ℕ) → made m (warn_wanted scheme c bound) (Hazard 0 r) ≡ m (Hazard 0 r)
  warning_spares m Warned c bound r = refl
  warning_spares m (Announced own) c bound r = refl

  sweep_spares : (m : Word → ℕ) (sweep : Sweep) (stage : SweepStage) (r : ℕ) → made m (sweep_wants_at sweep.tops sweep.scheme stage sweep.bound) (Hazard 0 r) ≡ m (Hazard 0 r)
  sweep_spares m sweep (sweeps.Warn c) r = warning_spares m sweep.scheme c sweep.bound r
  sweep_spares m sweep (sweeps.ReadHazard c k) r = sym (ap (λ (w : Word → ℕ). w (Hazard 0 r)) (store_idle m (Hazard c k)))
  sweep_spares m sweep _ r = refl

  spares : (m : Word → ℕ) (k : ℕ) (sweep : Sweep) (stage : ClaimStage) (r : ℕ) → made m (claim_wants_at sweep.tops k sweep stage) (Hazard 0 r) ≡ m (Hazard 0 r)
  spares m k sweep claims.Sweeps r = sweep_spares m sweep sweep.stage r
  spares m k sweep _ r = refl

  -- no hazard word is set, and the slot is free or will be
  pub record Frees (m : Word → ℕ) (claim : Claim) : Type 0 where
    pub own : kind_of n i ≡ claim.kind
    pub warns : claim.sweep.scheme ≡ Warned
    pub tops : claim.sweep.tops ≡ n.tops
    pub zeros : (r : ℕ) → m (Hazard 0 r) ≡ 0
    pub at : FreeStage n m claim.kind i claim.sweeps claim.sweep claim.stage

  pub frees_on : (last : ℕ) (m : Word → ℕ) (claim : Claim) → Frees m claim → (claim_accepts_at n last claim (m (word_of (claim_wants_at claim.sweep.tops claim.kind claim.sweep claim.stage))) claim.stage).ended ≡ None
      → Frees (made m (claim_wants_at claim.sweep.tops claim.kind claim.sweep claim.stage)) (claim_accepts_at n last claim (m (word_of (claim_wants_at claim.sweep.tops claim.kind claim.sweep claim.stage))) claim.stage).claim
  frees_on last m claim f is =
      let stays = claim_stays n last claim (m (word_of (claim_wants_at claim.sweep.tops claim.kind claim.sweep claim.stage))) in
      record {
        own = f.own ∙ sym stays.kind;
        warns = stays.scheme ∙ f.warns;
        tops = stays.tops ∙ f.tops;
        zeros = λ r. spares m claim.kind claim.sweep claim.stage r ∙ f.zeros r;
        at = subst (λ (o : Option ClaimEnd). FreeOn n (made m (claim_wants_at claim.sweep.tops claim.kind claim.sweep claim.stage)) i (claim_accepts_at n last claim (m (word_of (claim_wants_at claim.sweep.tops claim.kind claim.sweep claim.stage))) claim.stage).claim o) is
            (turns last m claim claim.stage refl f.own f.warns f.tops f.zeros f.at);
      }

  pub frees_full : (last : ℕ) (m : Word → ℕ) (claim : Claim) → Frees m claim → (claim_accepts_at n last claim (m (word_of (claim_wants_at claim.sweep.tops claim.kind claim.sweep claim.stage))) claim.stage).ended ≡ Some ends.Full → ⊥
  frees_full last m claim f is = subst (λ (o : Option ClaimEnd). FreeOn n (made m (claim_wants_at claim.sweep.tops claim.kind claim.sweep claim.stage)) i (claim_accepts_at n last claim (m (word_of (claim_wants_at claim.sweep.tops claim.kind claim.sweep claim.stage))) claim.stage).claim o) is
      (turns last m claim claim.stage refl f.own f.warns f.tops f.zeros f.at)
