-- A step of any caller that leaves a hazard word leaves what holds of the slot there.
use Rattle.std.proofs.Common.{ℕ, zero, suc, ◌≡◌, ◌≢◌, ◌==◌, ◌+◌, ◌<◌, ◌∙◌, Bool, true, false, List, [], ◌∷◌, set, Option, Some, None, arith, ⊎_elim, sym, ap, subst, refl, if◌then◌else◌}
use Rattle.std.specs.Prelude.{slice_index, nat_lt}
use Rattle.std.proofs.lemmas.Bool.{cases_eq}
use Rattle.std.proofs.lemmas.Bool.Decides.{nat_tests}
use Rattle.oa_words.specs.declared.packed.Kind.TheVariants as kinds
use Rattle.oa_words.specs.Words.{Hazard, Status, Head}
use Rattle.oa_words.specs.Packed.{HeadParts, status_word, head_word, head_parts}
use Rattle.guard_words.specs.Guards.{has_slot}
use Rattle.phase_pools.specs.declared.access.ClaimEnd.{ClaimEnd}
use Rattle.phase_pools.specs.declared.access.ClaimEnd.TheVariants as ends
use Rattle.phase_pools.specs.declared.access.SweepEnd.{SweepEnd}
use Rattle.phase_pools.specs.declared.access.SweepEnd.TheVariants as swept
use Rattle.phase_pools.specs.declared.stages.Scheme.{Scheme}
use Rattle.phase_pools.specs.declared.stages.Scheme.TheVariants.{Warned, Announced}
use Rattle.phase_pools.specs.declared.stages.SweepStage.{SweepStage}
use Rattle.phase_pools.specs.declared.stages.SweepStage.TheVariants as sweeps
use Rattle.phase_pools.specs.declared.stages.ClaimStage.{ClaimStage}
use Rattle.phase_pools.specs.declared.stages.ClaimStage.TheVariants as claims
use Rattle.phase_pools.specs.Accesses.{WordAccess, word_of}
use Rattle.chain_laws.specs.Chains.{IsOf}
use Rattle.chain_laws.specs.Memories.{after_access}
use Rattle.phase_pools.specs.Pools.{Claim, Sweep, claim_wants, claim_wants_at, claim_accepts, claim_accepts_at, sweep_wants_at, sweep_accepts_at, sweep_follows, sweep_ended, claim_goes, claim_ends, look_ended, look_begun, look_took, claim_takes}
use Rattle.source_machine.specs.MethodRuns.{put}
use Rattle.source_machine.specs.Proper.{has}
use Rattle.source_machine.proofs.Places.{each_put, put_other}
use Rattle.caller_parts.specs.declared.routine.Routine.{Routine}
use Rattle.caller_parts.specs.declared.routine.Routine.TheVariants.{Claims, Zeroes, Announces}
use Rattle.caller_steps.specs.Entries.{Entry, cradle_of, instr_in, new_number, zero_count}
use Rattle.caller_steps.specs.Belongs.{Belongs, Stands}
use Rattle.caller_steps.specs.Wants.{wants}
use Rattle.caller_steps.specs.After.{accepted, claim_on, claim_counted, counted}
use Rattle.caller_steps.specs.After.{moved as after_moves}
use Rattle.caller_steps.specs.Signs.{Moved}
use Rattle.run_ahead.specs.Guards.{GuardRow}
use Rattle.oa_simulation.specs.sim_relation.Views.{Plan, Shared, Caller}
use Rattle.oa_simulation.specs.sim_relation.Callers.{Empty, SweepAt, ClaimAt, HoldsAt}
use Rattle.oa_simulation.specs.sim_relation.Naming.{freed_at, freed_in, emptied_at, named_at, present_at}
use Rattle.oa_simulation.specs.sim_relation.Steps.{KeptWith, TakenIsReady, TakesReady}
use Rattle.oa_simulation.specs.sim_relation.Worlds.{World, Holds}
use Rattle.oa_simulation.proofs.sim_relation.Lists.{index_set_other}
use Rattle.oa_simulation.proofs.sim_steps.Pools.Core.{after_is, wants_is}
use Rattle.oa_simulation.proofs.sim_steps.Pools.Slots.{in_pool, is_dead}
use Rattle.run_laws.proofs.guarded_claims.Passing.{KnowsAt, KnowsIn, KnowsWhere, ClaimKnows, FindsAt, FindsIn, stays_in, claim_knows}
use Rattle.run_laws.proofs.guarded_claims.Walking.{Away, accepted_keeps, is_claiming}
use Rattle.run_laws.proofs.guarded_claims.Covered.{Covered, covered_named}
use Rattle.caller_parts.specs.declared.setting.Reclamation.TheVariants.{Optimistic}
use Rattle.oa_simulation.proofs.sim_relation.Schemes.{claim_warned, never_holds}

-- a cradle that has a slot after it was filled has that one
filled : (xs : List ℕ) (k slot : ℕ) → slice_index (set xs k slot) k ≢ 0 → slice_index (set xs k slot) k ≡ slot
filled [] k slot some = absurd (some refl)
filled (x ∷ xs) zero slot some = refl
filled (x ∷ xs) (suc k) slot some = filled xs k slot some

module _ (t : Plan) (w : World) (h : Holds t w) (c : ℕ) (mover : c < t.setting.sizes.callers) (d r : ℕ) (v : Covered t w d r) where
  abbrev s : Shared
  s = w.shared

  abbrev x : Caller
  x = w.who c

  some : v.slot ≢ 0
  some = covered_named t w d r v h.shared_holds

  -- the slot keeps its name
  freed_stays : (sweep : Sweep) (stage : SweepStage) → SweepAt t s sweep.bound sweep.gathered stage → KnowsAt s d r v.slot sweep.bound sweep.gathered stage → freed_at stage s.memory s.present v.slot ≡ s.present v.slot
  freed_stays sweep (sweeps.MakeReady i q) at k = of (s.memory (Status i) == status_word q kinds.Retired) refl where
    other : s.memory (Status i) ≡ status_word q kinds.Retired → v.slot ≢ i
    other is same =
        let dead = is_dead (s.owner i) q (s.memory (Status i)) (s.present i) (s.tag (s.present i)) (has (s.present i) s.source.retired) (s.public (s.present i)) is (h.shared_holds.slot i) in
        let there : has_slot sweep.gathered v.slot ≡ true = k q (ap (λ (j : ℕ). s.tag (s.present j)) same ∙ dead.1) at.1 in
        let clash : true ≡ false = sym there ∙ (ap (λ (j : ℕ). has_slot sweep.gathered j) same ∙ at.2) in
        cc

    of : (b : Bool) → (s.memory (Status i) == status_word q kinds.Retired) ≡ b → (if b then put s.present i 0 else s.present) v.slot ≡ s.present v.slot
    of true is = put_other s.present i v.slot 0 (other (grind (arith, nat_tests)))
    of false is = refl
  freed_stays sweep _ at k = refl

  claimed_stays : (sweep : Sweep) (stage : ClaimStage) → ClaimAt t s sweep stage → KnowsIn s d r v.slot sweep stage → freed_in stage sweep.stage s.memory s.present v.slot ≡ s.present v.slot
  claimed_stays sweep claims.Sweeps at k = freed_stays sweep sweep.stage at k
  claimed_stays sweep _ at k = refl

  -- a caller that stores 0 in the fields of its cradle's slot has no guards
  zeroes_others : (k : ℕ) → Empty x → v.slot ≢ cradle_of x.entry k
  zeroes_others k empty same = ⊎_elim
      (λ (own : c ≡ d).
      some (sym v.word ∙ (ap (λ (i : ℕ). s.memory (Hazard i r)) (sym own) ∙ ((h.caller_holds c mover).base.hazard r ∙ empty r))))
      (λ (other : c ≢ d). v.away c mover other k (sym same))
      (cases_eq c d)

  zeroed_stays : (more : Bool) (k field : ℕ) → Empty x → named_at more (cradle_of x.entry k) s.unused (emptied_at field (cradle_of x.entry k) s.present) v.slot ≡ s.present v.slot
  zeroed_stays true k zero empty = put_other s.present (cradle_of x.entry k) v.slot 0 (zeroes_others k empty)
  zeroed_stays true k (suc field) empty = refl
  zeroed_stays false k zero empty = put_other (put s.present (cradle_of x.entry k) 0) (cradle_of x.entry k) v.slot s.unused (zeroes_others k empty) ∙ put_other s.present (cradle_of x.entry k) v.slot 0 (zeroes_others k empty)
  zeroed_stays false k (suc field) empty = put_other s.present (cradle_of x.entry k) v.slot s.unused (zeroes_others k empty)

  present_stays : (routine : Routine) → HoldsAt t s c x routine → KnowsWhere s d r v.slot routine → present_at t.target s.memory s.unused x.entry routine s.present v.slot ≡ s.present v.slot
  present_stays (Claims claim) at k = claimed_stays claim.sweep claim.stage at.0 k
  present_stays (Zeroes i field) at k = zeroed_stays (nat_lt (field + 1) (zero_count t.target (instr_in t.target x.entry))) i field at.3
  present_stays _ at k = refl

  -- what others know of it stays known
  stays_where : (s' : Shared) (e : ℕ) (y : Caller) (routine : Routine) → ((sweep : Sweep) (stage : ClaimStage) → ClaimAt t s sweep stage → KnowsIn s d r v.slot sweep stage → KnowsIn s' d r v.slot sweep stage)
      → HoldsAt t s e y routine → KnowsWhere s d r v.slot routine → KnowsWhere s' d r v.slot routine
  stays_where s' e y (Claims claim) stays at k = stays claim.sweep claim.stage at.0 k
  stays_where s' e y _ stays at k = tt

  -- ---- the mover's entry

  -- the word that a sweep finds is the slot, if it reads the hazard word
  finds_at : (tops : ℕ) (scheme : Scheme) (p : ℕ) (g : List ℕ) (stage : SweepStage) → SweepAt t s p g stage → FindsAt d r v.slot (s.memory (word_of (sweep_wants_at tops scheme stage p))) stage
  finds_at tops scheme p g (sweeps.ReadHazard i m) at = (at.2, λ same there. ap (λ (k : ℕ). s.memory (Hazard k m)) (sym same) ∙ (ap (λ (k : ℕ). s.memory (Hazard d k)) (sym there) ∙ v.word))
  finds_at tops scheme p g _ at = tt

  finds_in : (kind : ℕ) (sweep : Sweep) (stage : ClaimStage) → ClaimAt t s sweep stage → FindsIn d r v.slot (s.memory (word_of (claim_wants_at sweep.tops kind sweep stage))) sweep stage
  finds_in kind sweep claims.Sweeps at = finds_at sweep.tops sweep.scheme sweep.bound sweep.gathered sweep.stage at
  finds_in kind sweep _ at = tt

  -- the slot that a claim ends with is ready before its last store, so it has no name
  abbrev Takes : Option ClaimEnd → Type 0
  Takes o = (i : ℕ) → o ≡ Some (ends.Claimed i) → v.slot ≢ i

  claim_away : (counts : Bool) (claim : Claim) (o : Option ClaimEnd) → Takes o → Away v.slot x.entry → Away v.slot (claim_on Optimistic t.target claim o (claim_counted counts (counted x.entry))).entry
  claim_away counts claim (Some (ends.Claimed i)) takes a = λ k is.
      ⊎_elim
      (λ (here : k ≡ new_number t.target x.entry).
      let at : slice_index (set x.entry.cradles k i) k ≡ v.slot = subst (λ (m : ℕ). slice_index (set x.entry.cradles m i) k ≡ v.slot) (sym here) is in
      takes i refl (sym at ∙ filled x.entry.cradles k i (λ z. some (sym at ∙ z))))
      (λ (other : k ≢ new_number t.target x.entry). a k (sym (index_set_other x.entry.cradles (new_number t.target x.entry) i k other) ∙ is))
      (cases_eq k (new_number t.target x.entry))
  claim_away counts claim _ takes a = a

  ended_takes : (claim : Claim) → Takes (look_ended claim).ended
  ended_takes claim = of (claim.sweeps == 2) where
    follows : (scheme : Scheme) (made : ℕ) → Takes (sweep_follows scheme made claim).ended
    follows (Announced own) zero i is = absurd (let z : None ≡ Some (ends.Claimed i) = is in cc)
    follows _ _ i is = absurd (let z : None ≡ Some (ends.Claimed i) = is in cc)

    of : (b : Bool) → Takes (if b then claim_ends claim ends.Full else sweep_follows claim.sweep.scheme claim.sweeps claim).ended
    of true i is = absurd (let z : Some ends.Full ≡ Some (ends.Claimed i) = is in cc)
    of false i is = follows claim.sweep.scheme claim.sweeps i is

  begun_takes : (claim : Claim) (head : HeadParts) → Takes (look_begun claim head).ended
  begun_takes claim head = of (head.top == 0) where
    of : (b : Bool) → Takes (if b then look_ended claim else claim_goes claim (claims.ReadLink head.phase head.top)).ended
    of true i is = ended_takes claim i is
    of false i is = absurd (let z : None ≡ Some (ends.Claimed i) = is in cc)

  took_takes : (claim : Claim) (q j word : ℕ) → Takes (look_took t.setting.sizes claim q j word).ended
  took_takes claim q j word = of (word == head_word t.setting.sizes.tops q j) where
    of : (b : Bool) → Takes (if b then claim_goes claim (claims.StoreUsed q j) else claim_goes claim claims.ReadHead).ended
    of true i is = absurd (let z : None ≡ Some (ends.Claimed i) = is in cc)
    of false i is = absurd (let z : None ≡ Some (ends.Claimed i) = is in cc)

  used_takes : (j : ℕ) → IsOf kinds.Ready (s.memory (Status j)) → Takes (Some (ends.Claimed j))
  used_takes j ready i is same =
      let one : Some (ends.Claimed j) ≡ Some (ends.Claimed i) = is in
      let at : j ≡ i = cc in
      let pool = in_pool (s.owner j) ready.0 (s.memory (Status j)) (s.present j) (s.tag (s.present j)) (has (s.present j) s.source.retired) (s.public (s.present j)) ready.1 (h.shared_holds.slot j) in
      v.named (ap s.present (same ∙ sym at) ∙ pool.1)

  swept_takes : (claim : Claim) (sweep : Sweep) (o : Option SweepEnd) → Takes (sweep_ended claim sweep o).ended
  swept_takes claim sweep None i is = absurd (let z : None ≡ Some (ends.Claimed i) = is in cc)
  swept_takes claim sweep (Some swept.Swept) i is = absurd (let z : None ≡ Some (ends.Claimed i) = is in cc)
  swept_takes claim sweep (Some (swept.PhasesOver p)) i is = absurd (let z : Some (ends.PhasesOver p) ≡ Some (ends.Claimed i) = is in cc)

  accepts_takes : (claim : Claim) (stage : ClaimStage) → TakenIsReady s.memory stage → Takes (claim_accepts_at t.setting.sizes t.setting.last claim (s.memory (word_of (claim_wants_at claim.sweep.tops claim.kind claim.sweep stage))) stage).ended
  accepts_takes claim claims.ReadHead ready = begun_takes claim (head_parts t.setting.sizes.tops (s.memory (Head claim.kind)))
  accepts_takes claim (claims.ReadLink q j) ready = λ i is. absurd (let z : None ≡ Some (ends.Claimed i) = is in cc)
  accepts_takes claim (claims.Take q j next) ready = took_takes claim q j (s.memory (Head claim.kind))
  accepts_takes claim (claims.StoreUsed q j) ready = used_takes j ready
  accepts_takes claim (claims.Withdraw own) ready = λ i is. absurd (let z : None ≡ Some (ends.Claimed i) = is in cc)
  accepts_takes claim claims.Sweeps ready =
      let turn = sweep_accepts_at t.setting.sizes t.setting.last claim.sweep (s.memory (word_of (sweep_wants_at claim.sweep.tops claim.sweep.scheme claim.sweep.stage claim.sweep.bound))) claim.sweep.stage in swept_takes claim turn.sweep turn.ended

  -- what holds of the mover's entry afterwards
  abbrev Moves : Shared → Moved → Type 0
  Moves s' m = (c ≢ d → Away v.slot m.entry) × KnowsWhere s' d r v.slot m.entry.routine

  claim_where : (s' : Shared) (counts : Bool) (claim : Claim) (o : Option ClaimEnd) → ClaimKnows s' d r v.slot claim o → KnowsWhere s' d r v.slot (claim_on Optimistic t.target claim o (claim_counted counts (counted x.entry))).entry.routine
  claim_where s' counts claim None k = k
  claim_where s' counts claim (Some (ends.Claimed i)) k = tt
  claim_where s' counts claim _ k = tt

  claim_moves : (s' : Shared) (claim : Claim) → claim.sweep.scheme ≡ Warned → TakenIsReady s.memory claim.stage → ClaimAt t s claim.sweep claim.stage → KnowsIn s' d r v.slot claim.sweep claim.stage
      → Moves s' (accepted Optimistic t.target t.setting (s.memory (word_of (claim_wants claim))) (counted x.entry) (Claims claim))
  claim_moves s' claim warns ready at k =
      let word : ℕ = s.memory (word_of (claim_wants claim)) in
      let turn = claim_accepts t.setting.sizes t.setting.last claim word in (
        λ ne. claim_away (claim_takes t.setting.sizes claim word) turn.claim turn.ended (accepts_takes claim claim.stage ready) (v.away c mover ne),
        claim_where s' (claim_takes t.setting.sizes claim word) turn.claim turn.ended (claim_knows t.setting.sizes t.setting.last s' d r v.slot v.register some claim word claim.stage refl warns v.caller (finds_in claim.kind claim.sweep claim.stage at) k),
      )

  other_moves : (s' : Shared) (word : ℕ) (routine : Routine) → x.entry.routine ≡ routine → is_claiming routine ≡ false → KnowsWhere s' d r v.slot x.entry.routine → Moves s' (accepted Optimistic t.target t.setting word (counted x.entry) routine)
  other_moves s' word routine is other k =
      let keeps = accepted_keeps t.target t.setting s' d r v.slot some word x.entry routine (λ announcing same. never_holds t s c x (h.caller_holds c mover) announcing (is ∙ same)) other in (λ ne. keeps.0 (v.away c mover ne), keeps.1 k)

  moves : (s' : Shared) (a : WordAccess) → t.setting.reclamation ≡ Optimistic → Belongs t.target t.setting x.entry → TakesReady s.memory x.entry.routine → wants t.target x.entry ≡ Some a → KnowsWhere s' d r v.slot x.entry.routine → Moves s' (after_moves Optimistic t.target t.setting x.entry (s.memory (word_of a)))
  moves s' a optimistic belongs ready want k = of x.entry.routine refl where
    on : (routine : Routine) → x.entry.routine ≡ routine → Moves s' (accepted Optimistic t.target t.setting (s.memory (word_of a)) (counted x.entry) routine)
    on (Claims claim) is =
        let spot : HoldsAt t s c x (Claims claim) = subst (λ (routine : Routine). HoldsAt t s c x routine) is (h.caller_holds c mover).spot in
        let wanted : Some (claim_wants claim) ≡ Some a = sym (wants_is t.target x.entry (Claims claim) is) ∙ want in
        let same : claim_wants claim ≡ a = cc in
        subst (λ (a : WordAccess). Moves s' (accepted Optimistic t.target t.setting (s.memory (word_of a)) (counted x.entry) (Claims claim))) same
        (claim_moves s' claim (claim_warned t.setting x.entry.number claim optimistic (subst (λ (routine : Routine). Stands t.target t.setting x.entry routine) is belongs.stands).1) (subst (λ (routine : Routine). TakesReady s.memory routine) is ready) spot.0 (subst (λ (routine : Routine). KnowsWhere s' d r v.slot routine) is k))
    on (Announces announcing) is = absurd (never_holds t s c x (h.caller_holds c mover) announcing is)
    on routine is = other_moves s' (s.memory (word_of a)) routine is refl k

    of : (routine : Routine) → x.entry.routine ≡ routine → Moves s' (after_moves Optimistic t.target t.setting x.entry (s.memory (word_of a)))
    of routine is = subst (Moves s') (sym (after_is t.target t.setting x.entry (s.memory (word_of a)) routine is)) (on routine is)

  pub covered_on : (a : WordAccess) (row : GuardRow) (were : ℕ → Bool) → t.setting.reclamation ≡ Optimistic → Belongs t.target t.setting x.entry → TakesReady s.memory x.entry.routine → wants t.target x.entry ≡ Some a
      → (k : KeptWith t c s x row were (after_access s.memory a) (after_moves Optimistic t.target t.setting x.entry (s.memory (word_of a))) (present_at t.target s.memory s.unused x.entry x.entry.routine s.present))
      → k.s'.memory (Hazard d r) ≡ s.memory (Hazard d r) → Covered t (record { shared = k.s'; who = put w.who c k.x' }) d r
  covered_on a row were optimistic belongs ready want k same =
      let name : k.s'.present v.slot ≡ s.present v.slot = ap (λ (present : ℕ → ℕ). present v.slot) k.present ∙ present_stays x.entry.routine (h.caller_holds c mover).spot (v.known c mover) in
      let stays : (e : ℕ) → e < t.setting.sizes.callers → KnowsWhere k.s' d r v.slot (w.who e).entry.routine =
      λ e lt. stays_where k.s' e (w.who e) (w.who e).entry.routine (stays_in t c s k.s' k.goes d r v.slot name) (h.caller_holds e lt).spot (v.known e lt) in
      let own = moves k.s' a optimistic belongs ready want (stays c mover) in
      record {
        slot = v.slot;
        word = same ∙ v.word;
        caller = v.caller;
        register = v.register;
        named = λ z. v.named (sym name ∙ z);
        away = each_put (λ e (y : Caller). e < t.setting.sizes.callers → e ≢ d → Away v.slot y.entry) w.who c k.x' (λ lt ne. subst (Away v.slot) (sym k.entry) (own.0 ne)) (λ e ne. v.away e);
        known = each_put (λ e (y : Caller). e < t.setting.sizes.callers → KnowsWhere k.s' d r v.slot y.entry.routine) w.who c k.x'
            (λ lt. subst (λ (e : Entry). KnowsWhere k.s' d r v.slot e.routine) (sym k.entry) own.1)
            (λ e ne lt. stays e lt);
      }
