-- What follows from what holds of the pool.
use Rattle.std.proofs.Common.{ℕ, ◌≡◌, ◌≢◌, ◌==◌, ◌≤◌, ◌<◌, ◌⊎◌, ◌∙◌, Bool, true, false, List, [], ◌∷◌, length, Option, Some, None, arith, inl, inr, ⊎_elim, sym, ap, subst, refl, if◌then◌else◌}
use Rattle.oa_words.specs.declared.packed.Kind.TheVariants as kinds
use Rattle.oa_words.specs.Words.{Word, Phase, Status, Head, Link, Sizes, slot_range, IsSlot}
use Rattle.oa_words.specs.SlotKinds.{kind_of}
use Rattle.oa_words.specs.Packed.{status_word, head_word}
use Rattle.phase_pools.specs.declared.stages.SweepStage.{SweepStage}
use Rattle.phase_pools.specs.declared.stages.SweepStage.TheVariants as sweeps
use Rattle.phase_pools.specs.declared.stages.ClaimStage.{ClaimStage}
use Rattle.phase_pools.specs.declared.stages.ClaimStage.TheVariants as claims
use Rattle.phase_pools.specs.declared.stages.RetireStage.{RetireStage}
use Rattle.phase_pools.specs.declared.stages.RetireStage.TheVariants as retires
use Rattle.phase_pools.specs.Pools.{Sweep, Claim, Retirement}
use Rattle.chain_laws.specs.Chains.{IsChain, Owner, Chained, Taken, Pushing, Outside, Retiring, Retired, caller_of, Hands, times, stamp, links, once, once_in, IsOf, SlotHolds}
use Rattle.chain_laws.specs.Standing.{Gone, slot_of_sweep, slot_of_claim, SweepStands, ClaimStands, RetireStands}
use Rattle.chain_laws.specs.Machine.{Standing, Elsewhere, Claims, Retires, slot_of, PoolState}
use Rattle.chain_laws.specs.Laws.{StandsAt, Holds, OfAll}
use Rattle.chain_laws.specs.Told.{IsClaiming, PoolTells, PoolIsTold}
use Rattle.chain_laws.proofs.Changes.{in_kind, once_here, once_none}
use Rattle.chain_laws.proofs.Routines.{kinds_apart, is_retired}
use Rattle.chain_laws.proofs.Tops.{chains_stand, not_gone}

at_most_one : (o : Owner) → once o ≤ 1
at_most_one Chained = omega arith
at_most_one _ = omega arith

-- what a caller has isn't in the chain
not_chained : (c : ℕ) (o : Owner) → caller_of o ≡ Some c → once o ≡ 0
not_chained c Chained is = absurd (let z : None ≡ Some c = is in cc)
not_chained c _ is = refl

-- ---- the slot of a caller is its own

sweep_owner : (n : Sizes) (m : Word → ℕ) (h : Hands) (c s low : ℕ) (stage : SweepStage) (j : ℕ) → SweepStands n m h c s low stage → j ≢ 0 → slot_of_sweep stage ≡ j → caller_of (h.owner j) ≡ Some c
sweep_owner n m h c s low (sweeps.PushHead k i) j w some is = ap (λ (a : ℕ). caller_of (h.owner a)) (sym is) ∙ ap caller_of w.2
sweep_owner n m h c s low (sweeps.PushLink i q t) j w some is = ap (λ (a : ℕ). caller_of (h.owner a)) (sym is) ∙ ap caller_of w.2
sweep_owner n m h c s low (sweeps.PushTop k i q t) j w some is = ap (λ (a : ℕ). caller_of (h.owner a)) (sym is) ∙ ap caller_of w.2
sweep_owner n m h c s low _ j w some is = absurd (some (sym is))

claim_owner : (n : Sizes) (m : Word → ℕ) (h : Hands) (c k : ℕ) (sweep : Sweep) (stage : ClaimStage) (j : ℕ) → ClaimStands n m h c k sweep stage → j ≢ 0 → slot_of_claim sweep stage ≡ j → caller_of (h.owner j) ≡ Some c
claim_owner n m h c k sweep (claims.StoreUsed q t) j w some is = ap (λ (a : ℕ). caller_of (h.owner a)) (sym is) ∙ ap caller_of w.0
claim_owner n m h c k sweep claims.Sweeps j w some is = sweep_owner n m h c sweep.bound sweep.low sweep.stage j w some is
claim_owner n m h c k sweep _ j w some is = absurd (some (sym is))

retire_owner : (h : Hands) (c j : ℕ) (stage : RetireStage) → RetireStands h c j stage → (tag : Option ℕ) × (h.owner j ≡ Retiring c tag)
retire_owner h c j retires.ReadPhase w = (None, w)
retire_owner h c j (retires.StoreStatus p) w = (Some p, w)

standing_owner : (n : Sizes) (m : Word → ℕ) (h : Hands) (c : ℕ) (standing : Standing) (j : ℕ) → StandsAt n m h c standing → j ≢ 0 → slot_of standing ≡ j → caller_of (h.owner j) ≡ Some c
standing_owner n m h c Elsewhere j w some is = absurd (some (sym is))
standing_owner n m h c (Claims claim) j w some is = claim_owner n m h c claim.kind claim.sweep claim.stage j w.1 some is
standing_owner n m h c (Retires retirement) j w some is = let own = retire_owner h c retirement.slot retirement.stage w in ap (λ (k : ℕ). caller_of (h.owner k)) (sym is) ∙ ap caller_of own.1

-- who has a slot that isn't being retired is in a claim
claiming : (n : Sizes) (m : Word → ℕ) (h : Hands) (c j : ℕ) (standing : Standing) → StandsAt n m h c standing → 1 ≤ j → slot_of standing ≡ j → ((tag : Option ℕ) → h.owner j ≡ Retiring c tag → ⊥) → IsClaiming standing
claiming n m h c j Elsewhere w some is differ = let same : 0 ≡ j = is in let z : ⊥ = omega (arith, same, some) in z
claiming n m h c j (Claims claim) w some is differ = tt
claiming n m h c j (Retires retirement) w some is differ = let own = retire_owner h c retirement.slot retirement.stage w in differ own.0 (ap h.owner (sym is) ∙ own.1)

-- who has a slot that is being retired is in its retirement
retiring : (n : Sizes) (m : Word → ℕ) (h : Hands) (c j : ℕ) (tag : Option ℕ) (standing : Standing) → StandsAt n m h c standing → 1 ≤ j → slot_of standing ≡ j → h.owner j ≡ Retiring c tag
    → (retirement : Retirement) × (standing ≡ Retires retirement) × (retirement.slot ≡ j)
retiring n m h c j tag Elsewhere w some is own = let same : 0 ≡ j = is in let z : ⊥ = omega (arith, same, some) in absurd z
retiring n m h c j tag (Claims claim) w some is own = absurd (in_claim claim.stage w.1 is) where
  in_sweep : (s low : ℕ) (stage : SweepStage) → SweepStands n m h c s low stage → slot_of_sweep stage ≡ j → ⊥
  in_sweep s low (sweeps.PushHead k i) w is = let z : Pushing c s ≡ Retiring c tag = sym w.2 ∙ (ap h.owner is ∙ own) in cc
  in_sweep s low (sweeps.PushLink i q t) w is = let z : Pushing c s ≡ Retiring c tag = sym w.2 ∙ (ap h.owner is ∙ own) in cc
  in_sweep s low (sweeps.PushTop k i q t) w is = let z : Pushing c s ≡ Retiring c tag = sym w.2 ∙ (ap h.owner is ∙ own) in cc
  in_sweep s low _ w is = let same : 0 ≡ j = is in omega (arith, same, some)

  in_claim : (stage : ClaimStage) → ClaimStands n m h c claim.kind claim.sweep stage → slot_of_claim claim.sweep stage ≡ j → ⊥
  in_claim (claims.StoreUsed q t) w is = let z : Taken c ≡ Retiring c tag = sym w.0 ∙ (ap h.owner is ∙ own) in cc
  in_claim claims.Sweeps w is = in_sweep claim.sweep.bound claim.sweep.low claim.sweep.stage w is
  in_claim _ w is = let same : 0 ≡ j = is in omega (arith, same, some)
retiring n m h c j tag (Retires retirement) w some is own = (retirement, refl, is)

-- ---- statuses

-- the slot by the owner that it is found to have
slot_by : (n : Sizes) (state : PoolState) (j : ℕ) (o : Owner) → Holds n state → state.hands.owner j ≡ o → SlotHolds (slot_range n) (stamp n.tops state.memory (kind_of n j)) (state.memory Phase) j (state.memory (Status j)) o
slot_by n state j o w own = subst (λ (x : Owner). SlotHolds (slot_range n) (stamp n.tops state.memory (kind_of n j)) (state.memory Phase) j (state.memory (Status j)) x) own (w.fine.slot j)

empty_chain : (link : ℕ → ℕ) (chain : List ℕ) → IsChain link 0 chain → chain ≡ []
empty_chain link [] is = refl
empty_chain link (j ∷ below) is = absurd (is.1 (sym is.0))

ready_slot : (n : Sizes) (state : PoolState) (j : ℕ) (o : Owner) → Holds n state → IsSlot (slot_range n) j → IsOf kinds.Ready (state.memory (Status j)) → state.hands.owner j ≡ o
    → (times j (state.hands.chain (kind_of n j)) ≡ 1) ⊎ ((c : ℕ) × (slot_of (state.who c) ≡ j) × IsClaiming (state.who c))
ready_slot n state j Chained w slot is own = inl (w.fine.stands (kind_of n j) j ∙ (once_here n (kind_of n j) j (state.hands.owner j) refl ∙ ap once own))
ready_slot n state j (Taken c) w slot is own =
    let here : slot_of (state.who c) ≡ j = w.has c j (ap caller_of own) in
    inr (c, here, claiming n state.memory state.hands c j (state.who c) (w.told c) slot.0 here (λ tag other. let z : Taken c ≡ Retiring c tag = sym own ∙ other in cc))
ready_slot n state j (Pushing c s) w slot is own =
    let here : slot_of (state.who c) ≡ j = w.has c j (ap caller_of own) in
    inr (c, here, claiming n state.memory state.hands c j (state.who c) (w.told c) slot.0 here (λ tag other. let z : Pushing c s ≡ Retiring c tag = sym own ∙ other in cc))
ready_slot n state j Outside w slot is own = let used = slot_by n state j Outside w own slot.1 in kinds_apart _ is.0 used.0 kinds.Ready kinds.Used (state.memory (Status j)) (λ e. cc) is.1 used.1
ready_slot n state j (Retiring c tag) w slot is own = let used = (slot_by n state j (Retiring c tag) w own).1 in kinds_apart _ is.0 used.0 kinds.Ready kinds.Used (state.memory (Status j)) (λ e. cc) is.1 used.1
ready_slot n state j (Retired tag) w slot is own = let word = (slot_by n state j (Retired tag) w own).1 in kinds_apart _ is.0 tag kinds.Ready kinds.Retired (state.memory (Status j)) (λ e. cc) is.1 word

used_slot : (n : Sizes) (state : PoolState) (j : ℕ) (o : Owner) → Holds n state → IsOf kinds.Used (state.memory (Status j)) → ((c : ℕ) (retirement : Retirement) → state.who c ≡ Retires retirement → retirement.slot ≢ j)
    → state.hands.owner j ≡ o → o ≡ Outside
used_slot n state j Chained w is free own = let word = (slot_by n state j Chained w own).1 in kinds_apart _ is.0 word.0 kinds.Used kinds.Ready (state.memory (Status j)) (λ e. cc) is.1 word.1
used_slot n state j (Taken c) w is free own = let word = (slot_by n state j (Taken c) w own).1 in kinds_apart _ is.0 word.0 kinds.Used kinds.Ready (state.memory (Status j)) (λ e. cc) is.1 word.1
used_slot n state j (Pushing c s) w is free own = let word = (slot_by n state j (Pushing c s) w own).1 in kinds_apart _ is.0 s kinds.Used kinds.Ready (state.memory (Status j)) (λ e. cc) is.1 word
used_slot n state j Outside w is free own = refl
used_slot n state j (Retiring c tag) w is free own =
    let slot = slot_by n state j (Retiring c tag) w own in
    let found = retiring n state.memory state.hands c j tag (state.who c) (w.told c) slot.0.0 (w.has c j (ap caller_of own)) own in
    absurd (free c found.0 found.1 found.2)
used_slot n state j (Retired tag) w is free own = let word = (slot_by n state j (Retired tag) w own).1 in kinds_apart _ is.0 tag kinds.Used kinds.Retired (state.memory (Status j)) (λ e. cc) is.1 word

-- ---- all of it

-- what is known at a stage of a claim
at_stage : (n : Sizes) (state : PoolState) (c : ℕ) (claim : Claim) (stage : ClaimStage) → Holds n state → state.who c ≡ Claims claim → claim.stage ≡ stage
    → (claim.kind < length n.kinds) × ClaimStands n state.memory state.hands c claim.kind claim.sweep stage
at_stage n state c claim stage w at is =
    let told : StandsAt n state.memory state.hands c (Claims claim) = subst (λ (x : Standing). StandsAt n state.memory state.hands c x) at (w.told c) in
    (told.0, subst (λ (x : ClaimStage). ClaimStands n state.memory state.hands c claim.kind claim.sweep x) is told.1)

pub pool_tells : (n : Sizes) (state : PoolState) → Holds n state → PoolTells n state
pool_tells n state w = record {
  stamped = w.fine.stamped;
  empty = λ k lt is. empty_chain (links state.memory) (state.hands.chain k) (subst (λ (x : ℕ). IsChain (links state.memory) x (state.hands.chain k)) is (w.fine.linked k lt));
  once = λ k j. (let is = w.fine.stands k j in let most = at_most_once k j (state.hands.owner j) in omega (arith, is, most));
  apart = λ k j c some is. in_none k j (not_chained c (state.hands.owner j) (own j c some is));
  alone = λ j c d some is also. (let z : Some c ≡ Some d = sym (own j c some is) ∙ own j d some also in cc);
  chained = λ k j is. chained k j (in_kind n k j (state.hands.owner j) (λ z. let same : 1 ≡ 0 = sym is ∙ (w.fine.stands k j ∙ z) in let differ : ⊥ = omega (arith, same) in differ));
  ready = λ j slot is. ready_slot n state j (state.hands.owner j) w slot is refl;
  taken = λ c claim q t at is. taken claim q t c (at_stage n state c claim (claims.StoreUsed q t) w at is).1;
  takes = λ c claim q t next at is head. found c claim q t next head (at_stage n state c claim (claims.Take q t next) w at is);
  frees = λ c claim j q at is stage. freed c claim j q stage (at_stage n state c claim claims.Sweeps w at is).1;
  pushes = λ c claim k j q t at is stage. pushed c claim k j q t stage (at_stage n state c claim claims.Sweeps w at is).1;
  outside = λ j le is free. used_slot n state j (state.hands.owner j) w is free refl;
} where
  own : (j c : ℕ) → j ≢ 0 → slot_of (state.who c) ≡ j → caller_of (state.hands.owner j) ≡ Some c
  own j c some is = standing_owner n state.memory state.hands c (state.who c) j (w.told c) some is

  at_most_once : (k j : ℕ) (o : Owner) → once_in n k j o ≤ 1
  at_most_once k j o = of (kind_of n j == k) where
    of : (b : Bool) → (if b then once o else 0) ≤ 1
    of true = at_most_one o
    of false = omega arith

  -- what isn't chained is in no kind's chain
  in_none : (k j : ℕ) → once (state.hands.owner j) ≡ 0 → times j (state.hands.chain k) ≡ 0
  in_none k j none = w.fine.stands k j ∙ once_none n k j (state.hands.owner j) none

  chained : (k j : ℕ) → (state.hands.owner j ≡ Chained) × (kind_of n j ≡ k)
      → IsSlot (slot_range n) j × (kind_of n j ≡ k) × ((q : ℕ) × (state.memory (Status j) ≡ status_word q kinds.Ready) × (q ≤ stamp n.tops state.memory k))
  chained k j is =
      let slot = slot_by n state j Chained w is.0 in
      (slot.0, is.1, (slot.1.0, slot.1.1, subst (λ (x : ℕ). slot.1.0 ≤ stamp n.tops state.memory x) is.1 slot.1.2))

  taken : (claim : Claim) (q t c : ℕ) → (state.hands.owner t ≡ Taken c) × (kind_of n t ≡ claim.kind) → IsSlot (slot_range n) t × (kind_of n t ≡ claim.kind) × IsOf kinds.Ready (state.memory (Status t))
  taken claim q t c is = let slot = slot_by n state t (Taken c) w is.0 in (slot.0, is.1, slot.1)

  found : (c : ℕ) (claim : Claim) (q t next : ℕ) → state.memory (Head claim.kind) ≡ head_word n.tops q t → (claim.kind < length n.kinds) × ClaimStands n state.memory state.hands c claim.kind claim.sweep (claims.Take q t next)
      → (times t (state.hands.chain claim.kind) ≡ 1) × (state.memory (Link t) ≡ next)
  found c claim q t next head k = ⊎_elim
      (λ (here : (state.hands.owner t ≡ Chained) × (state.memory (Link t) ≡ next)). (w.fine.stands claim.kind t ∙ (once_here n claim.kind t (state.hands.owner t) k.1.2 ∙ ap once here.0), here.1))
      (λ (gone : Gone n state.memory state.hands q t). absurd (not_gone n state claim.kind q t w k.0 head k.1.1 k.1.0 gone))
      k.1.4

  freed : (c : ℕ) (claim : Claim) (j q : ℕ) → claim.sweep.stage ≡ sweeps.MakeReady j q → SweepStands n state.memory state.hands c claim.sweep.bound claim.sweep.low claim.sweep.stage
      → (q < claim.sweep.low) × (claim.sweep.low ≤ claim.sweep.bound) × (state.memory (Status j) ≡ status_word q kinds.Retired → state.hands.owner j ≡ Retired q)
  freed c claim j q stage k =
      let at : SweepStands n state.memory state.hands c claim.sweep.bound claim.sweep.low (sweeps.MakeReady j q) =
      subst (λ (x : SweepStage). SweepStands n state.memory state.hands c claim.sweep.bound claim.sweep.low x) stage k in
      (at.3, at.1, λ is. is_retired (slot_range n) (stamp n.tops state.memory (kind_of n j)) (state.memory Phase) j (state.memory (Status j)) q (state.hands.owner j) at.2 is (w.fine.slot j))

  pushed : (c : ℕ) (claim : Claim) (k j q t : ℕ) → claim.sweep.stage ≡ sweeps.PushTop k j q t → SweepStands n state.memory state.hands c claim.sweep.bound claim.sweep.low claim.sweep.stage
      → (k ≡ kind_of n j) × (state.memory (Link j) ≡ t) × ((i : ℕ) → times j (state.hands.chain i) ≡ 0)
  pushed c claim k j q t stage stands =
      let at : SweepStands n state.memory state.hands c claim.sweep.bound claim.sweep.low (sweeps.PushTop k j q t) =
      subst (λ (x : SweepStage). SweepStands n state.memory state.hands c claim.sweep.bound claim.sweep.low x) stage stands in
      (at.3, at.5, λ i. in_none i j (ap once at.2))

pub pool_is_told : OfAll PoolIsTold
pool_is_told n last start are most fit memory starts events state is = pool_tells n state (chains_stand n last start are most fit memory starts events state is)
