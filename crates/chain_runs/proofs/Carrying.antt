-- What the pool says of a reachable state, said of the core's words and callers.
use Rattle.std.proofs.Common.{ℕ, ◌≡◌, ◌≢◌, ◌≤◌, ◌<◌, ◌∙◌, ◌==◌, Bool, true, length, Option, Some, None, inl, inr, arith, ⊎_elim, sym, ap, subst, refl, max, if◌then◌else◌}
use Rattle.std.proofs.lemmas.Bool.Decides.{nat_tests}
use Rattle.target_code.specs.declared.target.Target.{Target}
use Rattle.oa_words.specs.Words.{Word, Phase, Status, Head, Link, slot_range, IsSlot}
use Rattle.oa_words.specs.SlotKinds.{kind_of}
use Rattle.oa_words.specs.Within.{AreKinds}
use Rattle.oa_words.specs.Packed.{head_word}
use Rattle.oa_words.proofs.KindRanges.{kind_small}
use Rattle.phase_pools.specs.declared.access.ClaimEnd.{ClaimEnd}
use Rattle.phase_pools.specs.declared.stages.SweepStage.{SweepStage}
use Rattle.phase_pools.specs.declared.stages.SweepStage.TheVariants as sweeps
use Rattle.phase_pools.specs.declared.stages.ClaimStage.{ClaimStage}
use Rattle.phase_pools.specs.declared.stages.ClaimStage.TheVariants as claims
use Rattle.phase_pools.specs.Accesses.{WordAccess, Exchanges, word_of}
use Rattle.phase_pools.specs.Pools.{Claim, ClaimTurn, claim_goes, claim_wants, claim_wants_at, claim_accepts, claim_accepts_at, claim_takes, sweep_wants_at}
use Rattle.chain_laws.specs.Memories.{after_access}
use Rattle.chain_laws.specs.Chains.{Hands, Owner, SlotHolds, stamp, top, times, once}
use Rattle.chain_laws.specs.Chains as chains
use Rattle.chain_laws.specs.Standing.{ClaimStands, SweepStands}
use Rattle.chain_laws.specs.Machine.{slot_of}
use Rattle.chain_laws.specs.Machine as pool
use Rattle.chain_laws.specs.Laws.{Holds, StandsAt}
use Rattle.chain_laws.specs.Told.{PoolTells, IsClaiming}
use Rattle.chain_laws.proofs.Lists.{put_same}
use Rattle.chain_laws.proofs.Changes.{tells, head_here, once_here, top_chained}
use Rattle.chain_laws.proofs.Told.{pool_tells}
use Rattle.caller_parts.specs.declared.routine.Routine.{Routine}
use Rattle.caller_parts.specs.declared.routine.Routine.TheVariants.{Claims}
use Rattle.caller_parts.specs.Settings.{Setting}
use Rattle.caller_steps.specs.Entries.{Entry}
use Rattle.caller_steps.specs.After.{after, accepted, counted, claim_counted, claim_on}
use Rattle.core_runs.specs.Machine.{CoreState, Steps, core_event}
use Rattle.core_runs.specs.Views.{IsShaped, Moves, view}
use Rattle.core_runs.proofs.Seeing.{events_are_seen}
use Rattle.core_runs.proofs.caller_laws.Equations.{wants_claims}
use Rattle.core_runs.specs.core_sound.Standing.{standing_of}
use Rattle.core_runs.specs.core_pools.Pooled.{standings}
use Rattle.chain_runs.specs.Slots.{Carries, Chained, InChain, PutsOnTop, TakesTop, words}
use Rattle.chain_runs.proofs.Chains.{is_in, is_out, stands_in}
use Rattle.core_runs.proofs.core_pools.Going.{pool_with}
use Rattle.caller_parts.specs.declared.setting.Reclamation.{Reclamation}

-- who has a slot in a claim carries it
carries_by : (setting : Setting) (state : CoreState) (c j : ℕ) (r : Routine) → ((view setting state).who c).routine ≡ r → slot_of (standing_of r) ≡ j → IsClaiming (standing_of r) → Carries setting state c j
carries_by setting state c j (Claims claim) at slot is = record { claim = claim; at = at; slot = slot }
carries_by setting state c j _ at slot is = absurd is

carries_slot : (setting : Setting) (state : CoreState) (c j : ℕ) → Carries setting state c j → slot_of (standings (view setting state).who c) ≡ j
carries_slot setting state c j k = ap (λ (r : Routine). slot_of (standing_of r)) k.at ∙ k.slot

-- ---- steps of claims

pub same_access : (a b : WordAccess) → Some a ≡ Some b → a ≡ b
same_access a b is = cc

-- the access of a caller in a claim, its words afterwards and its entry
pub record ClaimStep (target : Target) (setting : Setting) (state later : CoreState) (c : ℕ) (claim : Claim) : Type 0 where
  pub memory : words setting later ≡ after_access (words setting state) (claim_wants claim)
  pub entry : (view setting later).who c ≡ after target setting ((view setting state).who c) (words setting state (word_of (claim_wants claim)))

pub claim_steps : (target : Target) (setting : Setting) (state later : CoreState) (c : ℕ) (claim : Claim) → IsShaped target setting state → ((view setting state).who c).routine ≡ Claims claim → core_event target setting state (Steps c) ≡ Some later
    → ClaimStep target setting state later c claim
claim_steps target setting state later c claim shaped at goes =
    let m : Moves target setting (view setting state) (Steps c) (view setting later) = (events_are_seen target setting).moves state later (Steps c) shaped goes in
    let a : WordAccess = m.0 in
    let is : a ≡ claim_wants claim = same_access a (claim_wants claim) (sym m.2 ∙ wants_claims target ((view setting state).who c) claim at) in
    record {
      memory = m.4 ∙ ap (after_access (words setting state)) is;
      entry = ap (λ (who : ℕ → Entry). who c) m.5 ∙ (put_same (view setting state).who c (after target setting ((view setting state).who c) (words setting state (word_of a)))
          ∙ ap (λ (a : WordAccess). after target setting ((view setting state).who c) (words setting state (word_of a))) is);
    }

-- a claim that goes on
on_in : (by : Reclamation) (target : Target) (claim : Claim) (o : Option ClaimEnd) (e : Entry) → o ≡ None → (claim_on by target claim o e).entry.routine ≡ Claims claim
on_in by target claim None e is = refl
on_in by target claim (Some end) e is = absurd (let z : Some end ≡ None = is in cc)

claim_goes_on : (target : Target) (setting : Setting) (e : Entry) (word : ℕ) (claim next : Claim) → e.routine ≡ Claims claim → claim_accepts setting.sizes setting.last claim word ≡ record { claim = next; ended = None } → (after target setting e word).routine ≡ Claims next
unfolding after
claim_goes_on target setting e word claim next at turns =
    let turn : ClaimTurn = claim_accepts setting.sizes setting.last claim word in
    ap (λ (r : Routine). (accepted setting.reclamation target setting word (counted e) r).entry.routine) at
    ∙ (on_in setting.reclamation target turn.claim turn.ended (claim_counted (claim_takes setting.sizes claim word) (counted e)) (ap (λ (t : ClaimTurn). t.ended) turns) ∙ ap (λ (t : ClaimTurn). Claims t.claim) turns)

-- ---- a state

module _ (target : Target) (setting : Setting) (are : AreKinds setting.sizes) (few : setting.sizes.slots < setting.sizes.tops) (state : CoreState) (hands : Hands) (holds : Holds setting.sizes (pool_with setting state hands)) where
  abbrev m : Word → ℕ
  m = words setting state

  told : PoolTells setting.sizes (pool_with setting state hands)
  told = pool_tells setting.sizes (pool_with setting state hands) holds

  inside : (k j : ℕ) → k < length setting.sizes.kinds → times j (hands.chain k) ≡ 1 → InChain setting.sizes.tops m k j
  inside k j lt is = stands_in setting.sizes m hands k j lt holds.fine is

  outside : (k j : ℕ) → k < length setting.sizes.kinds → times j (hands.chain k) ≡ 0 → ¬ InChain setting.sizes.tops m k j
  outside k j lt is = is_out setting.sizes m hands k j lt holds.fine is

  standing : (c : ℕ) (claim : Claim) → ((view setting state).who c).routine ≡ Claims claim → StandsAt setting.sizes m hands c (pool.Claims claim)
  standing c claim at = subst (λ (r : Routine). StandsAt setting.sizes m hands c (standing_of r)) at (holds.told c)

  -- the tops of a claim's heads are the row's
  claim_tops : (c : ℕ) (claim : Claim) → ((view setting state).who c).routine ≡ Claims claim → claim.sweep.tops ≡ setting.sizes.tops
  claim_tops c claim at = (standing c claim at).2

  -- a claim is of a kind of the row
  pub claimed_kind : (c k q j : ℕ) → TakesTop setting state c k q j → k < length setting.sizes.kinds
  claimed_kind c k q j takes = subst (λ (i : ℕ). i < length setting.sizes.kinds) takes.of_kind (standing c takes.claim takes.at).0

  pub taking : (c k q j : ℕ) (takes : TakesTop setting state c k q j) → (times j (hands.chain k) ≡ 1) × (m (Link j) ≡ takes.next)
  taking c k q j takes =
      let is = told.takes c takes.claim q j takes.next (ap standing_of takes.at) takes.stage (ap (λ (i : ℕ). m (Head i)) takes.of_kind ∙ takes.found) in
      (subst (λ (i : ℕ). times j (hands.chain i) ≡ 1) takes.of_kind is.0, is.1)

  pub taken_slot : (c k q j : ℕ) → TakesTop setting state c k q j → IsSlot (slot_range setting.sizes) j × (kind_of setting.sizes j ≡ k)
  taken_slot c k q j takes = let slot = told.chained k j (taking c k q j takes).0 in (slot.0, slot.1)

  -- what a push knows before its exchange
  pushing : (c k j below : ℕ) (puts : PutsOnTop setting state c k j below) → SweepStands setting.sizes m hands c puts.claim.sweep.bound puts.claim.sweep.low (sweeps.PushTop k j puts.phase below)
  pushing c k j below puts =
      let in_sweep : ClaimStands setting.sizes m hands c puts.claim.kind puts.claim.sweep claims.Sweeps =
      subst (λ (s : ClaimStage). ClaimStands setting.sizes m hands c puts.claim.kind puts.claim.sweep s) puts.in_sweep (standing c puts.claim puts.at).1 in
      subst (λ (s : SweepStage). SweepStands setting.sizes m hands c puts.claim.sweep.bound puts.claim.sweep.low s) puts.stage in_sweep

  -- it goes to the head of the slot's kind, which is one of the row's
  pub pushed_kind : (c k j below : ℕ) → PutsOnTop setting state c k j below → k ≡ kind_of setting.sizes j
  pushed_kind c k j below puts = (pushing c k j below puts).3

  pushed_small : (c k j below : ℕ) → PutsOnTop setting state c k j below → k < length setting.sizes.kinds
  pushed_small c k j below puts = subst (λ (i : ℕ). i < length setting.sizes.kinds) (sym (pushed_kind c k j below puts)) (kind_small setting.sizes j are)

  pub pushed_slot : (c k j below : ℕ) → PutsOnTop setting state c k j below → IsSlot (slot_range setting.sizes) j
  pushed_slot c k j below puts =
      let stamped : ℕ = stamp setting.sizes.tops m (kind_of setting.sizes j) in
      let slot : SlotHolds (slot_range setting.sizes) stamped (m Phase) j (m (Status j)) (chains.Pushing c puts.claim.sweep.bound) =
      subst (λ (o : Owner). SlotHolds (slot_range setting.sizes) stamped (m Phase) j (m (Status j)) o) (pushing c k j below puts).2 (holds.fine.slot j) in
      slot.0

  -- after a claim's exchange the caller carries the slot
  pub now_carries : (c k q j : ℕ) (later : CoreState) → IsShaped target setting state → TakesTop setting state c k q j → core_event target setting state (Steps c) ≡ Some later → Carries setting later c j
  now_carries c k q j later shaped takes goes =
      let step = claim_steps target setting state later c takes.claim shaped takes.at goes in
      let next : Claim = record takes.claim { stage = claims.StoreUsed q j } in
      let wanted : word_of (claim_wants takes.claim) ≡ Head k = ap (λ (s : ClaimStage). word_of (claim_wants_at takes.claim.sweep.tops takes.claim.kind takes.claim.sweep s)) takes.stage ∙ ap (λ (i : ℕ). Head i) takes.of_kind in
      let word : m (word_of (claim_wants takes.claim)) ≡ head_word setting.sizes.tops q j = ap m wanted ∙ takes.found in
      let test : (m (word_of (claim_wants takes.claim)) == head_word setting.sizes.tops q j) ≡ true = grind (arith, nat_tests) in
      let turns : claim_accepts setting.sizes setting.last takes.claim (m (word_of (claim_wants takes.claim))) ≡ record { claim = next; ended = None } =
      ap (λ (s : ClaimStage). claim_accepts_at setting.sizes setting.last takes.claim (m (word_of (claim_wants takes.claim))) s) takes.stage
      ∙ ap (λ (b : Bool). if b then claim_goes takes.claim (claims.StoreUsed q j) else claim_goes takes.claim claims.ReadHead) test in
      record {
        claim = next;
        at = ap (λ (e : Entry). e.routine) step.entry ∙ claim_goes_on target setting ((view setting state).who c) (m (word_of (claim_wants takes.claim))) takes.claim next takes.at turns;
        slot = refl;
      }

  -- after a push's exchange the head names the slot
  pub head_put : (c k j below : ℕ) (later : CoreState) → IsShaped target setting state → (puts : PutsOnTop setting state c k j below) → core_event target setting state (Steps c) ≡ Some later
      → words setting later (Head k) ≡ head_word setting.sizes.tops (max puts.phase puts.claim.sweep.bound) j
  head_put c k j below later shaped puts goes =
      let step = claim_steps target setting state later c puts.claim shaped puts.at goes in
      let s = puts.claim.sweep.bound in
      let tops = setting.sizes.tops in
      let own : puts.claim.sweep.tops ≡ tops = claim_tops c puts.claim puts.at in
      let test : (m (Head k) == head_word tops puts.phase below) ≡ true = (let found = puts.found in grind (arith, nat_tests)) in
      let access : claim_wants puts.claim ≡ Exchanges (Head k) (head_word tops puts.phase below) (head_word tops (max puts.phase s) j) =
      ap (claim_wants_at puts.claim.sweep.tops puts.claim.kind puts.claim.sweep) puts.in_sweep ∙ (ap (λ (stage : SweepStage). sweep_wants_at puts.claim.sweep.tops puts.claim.sweep.scheme stage s) puts.stage
      ∙ ap (λ (n : ℕ). Exchanges (Head k) (head_word n puts.phase below) (head_word n (max puts.phase s) j)) own) in
      ap (λ (memory : Word → ℕ). memory (Head k)) step.memory
      ∙ (ap (λ (a : WordAccess). after_access m a (Head k)) access
      ∙ (head_here m k (if m (Head k) == head_word tops puts.phase below then head_word tops (max puts.phase s) j else m (Head k))
      ∙ ap (λ (b : Bool). if b then head_word tops (max puts.phase s) j else m (Head k)) test))

  -- all that is said of a state, with the pool of each state that follows
  pub chained : IsShaped target setting state → ((event_to : CoreState) (c : ℕ) → core_event target setting state (Steps c) ≡ Some event_to → (hands' : Hands) × Holds setting.sizes (pool_with setting event_to hands')) → Chained target setting state
  chained shaped next = record {
    chain = hands.chain;
    linked = holds.fine.linked;
    single = told.once;
    stands = λ k j lt there. told.chained k j (is_in setting.sizes m hands k j lt holds.fine there);
    ready = λ j slot is. ⊎_elim
        (λ (here : times j (hands.chain (kind_of setting.sizes j)) ≡ 1). inl (inside (kind_of setting.sizes j) j (kind_small setting.sizes j are) here))
        (λ (has : (c : ℕ) × (slot_of (standings (view setting state).who c) ≡ j) × IsClaiming (standings (view setting state).who c)).
        inr (has.0, carries_by setting state has.0 j ((view setting state).who has.0).routine refl has.1 has.2))
        (told.ready j slot is);
    alone = λ j c d some one other. told.alone j c d some (carries_slot setting state c j one) (carries_slot setting state d j other);
    apart = λ k j c lt some carried. outside k j lt (told.apart k j c some (carries_slot setting state c j carried));
    claimed = claimed_kind;
    takes = λ c k q j takes. (let is = taking c k q j takes in (inside k j (claimed_kind c k q j takes) is.0, is.1));
    taken = λ c k q j later takes goes. took c k q j later takes goes;
    pushed = pushed_kind;
    puts = λ c k j below puts. (let is = told.pushes c puts.claim k j puts.phase below (ap standing_of puts.at) puts.in_sweep puts.stage in (outside k j (pushed_small c k j below puts) (is.2 k), is.1));
    put = λ c k j below later puts goes. on_top c k j below later puts goes;
  } where
    took : (c k q j : ℕ) (later : CoreState) → TakesTop setting state c k q j → core_event target setting state (Steps c) ≡ Some later → (¬ InChain setting.sizes.tops (words setting later) k j) × Carries setting later c j
    took c k q j later takes goes =
        let there = next later c goes in
        let slot = (taken_slot c k q j takes).0 in
        let some : j ≢ 0 = λ z. omega (arith, slot.0, z) in
        let carries = now_carries c k q j later shaped takes goes in
        let tells_later = pool_tells setting.sizes (pool_with setting later there.0) there.1 in (
          is_out setting.sizes (words setting later) there.0 k j (claimed_kind c k q j takes) there.1.fine (tells_later.apart k j c some (carries_slot setting later c j carries)),
          carries,
        )

    on_top : (c k j below : ℕ) (later : CoreState) → PutsOnTop setting state c k j below → core_event target setting state (Steps c) ≡ Some later → InChain setting.sizes.tops (words setting later) k j × (top setting.sizes.tops (words setting later) k ≡ j)
    on_top c k j below later puts goes =
        let there = next later c goes in
        let slot = pushed_slot c k j below puts in
        let small = pushed_small c k j below puts in
        let some : j ≢ 0 = λ z. omega (arith, slot.0, z) in
        let is : top setting.sizes.tops (words setting later) k ≡ j = (tells setting.sizes.tops (words setting later) k (max puts.phase puts.claim.sweep.bound) j (head_put c k j below later shaped puts goes) (omega (arith, slot.1, few))).1 in
        let own = top_chained setting.sizes (words setting later) there.0 k j small there.1.fine is some in
        (stands_in setting.sizes (words setting later) there.0 k j small there.1.fine (there.1.fine.stands k j ∙ (once_here setting.sizes k j (there.0.owner j) own.1 ∙ ap once own.0)), is)
