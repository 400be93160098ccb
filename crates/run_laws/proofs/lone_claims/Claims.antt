-- The steps of a lone caller in a claim are those of the claim.
use Rattle.std.proofs.Common.{ℕ, suc, ◌≡◌, ◌∙◌, true, false, List, [], ◌∷◌, Option, Some, None, arith, sym, ap, subst, refl}
use Rattle.std.proofs.lemmas.Bool.{and_parts}
use Rattle.target_code.specs.declared.target.Target.{Target}
use Rattle.oa_words.specs.Words.{Word}
use Rattle.phase_pools.specs.declared.access.ClaimEnd.{ClaimEnd}
use Rattle.phase_pools.specs.declared.access.ClaimEnd.TheVariants as ends
use Rattle.phase_pools.specs.Accesses.{WordAccess, word_of}
use Rattle.phase_pools.specs.Pools.{Claim, ClaimTurn, claim_wants, claim_accepts, claim_takes}
use Rattle.source_machine.proofs.Places.{each_put}
use Rattle.caller_parts.specs.declared.routine.Routine.{Routine}
use Rattle.caller_parts.specs.declared.routine.Routine.TheVariants.{Idle, At, Claims, Zeroes, Announces}
use Rattle.caller_parts.specs.Settings.{Setting}
use Rattle.caller_steps.specs.Entries.{Entry, is_idle}
use Rattle.caller_steps.specs.Wants.{wants, wanted}
use Rattle.caller_steps.specs.After.{after, accepted, counted, claim_counted, claim_on, slot_gained, with_routine}
use Rattle.core_runs.specs.Machine.{CoreState, CoreEvent, Takes, Steps, core_event, core_run, run_on}
use Rattle.core_runs.specs.Views.{CoreView, view, Moves, IsShaped, EventsAreSeen}
use Rattle.core_runs.specs.core_sound.Sound.{IsSound}
use Rattle.oa_simulation.specs.Throughout.{on_state}
use Rattle.run_laws.specs.lone_claims.Lone.{is_claiming, stays_in_claim}
use Rattle.run_laws.proofs.lone_claims.Pools.{made}
use Rattle.caller_parts.specs.declared.setting.Reclamation.{Reclamation}
use Rattle.caller_parts.specs.declared.setting.Reclamation.TheVariants.{Epochs}

-- what an entry in a claim wants, and what becomes of it
claim_wanted : (target : Target) (e : Entry) (claim : Claim) (a : WordAccess) → e.routine ≡ Claims claim → wants target e ≡ Some a → claim_wants claim ≡ a
unfolding wants
claim_wanted target e claim a at want = let both : Some (claim_wants claim) ≡ Some a = sym (ap (λ (r : Routine). wanted target e r) at) ∙ want in cc

abbrev turn_of : Setting → Claim → (Word → ℕ) → ClaimTurn
turn_of setting claim m = claim_accepts setting.sizes setting.last claim (m (word_of (claim_wants claim)))

claim_after : (target : Target) (setting : Setting) (e : Entry) (claim : Claim) (m : Word → ℕ) → e.routine ≡ Claims claim
    → after target setting e (m (word_of (claim_wants claim))) ≡ (claim_on setting.reclamation target (turn_of setting claim m).claim (turn_of setting claim m).ended (claim_counted (claim_takes setting.sizes claim (m (word_of (claim_wants claim)))) (counted e))).entry
unfolding after
claim_after target setting e claim m at = ap (λ (r : Routine). (accepted setting.reclamation target setting (m (word_of (claim_wants claim))) (counted e) r).entry) at

-- a slot that was gained ends the claim
gains : (by : Reclamation) (target : Target) (claim : Claim) (sweeps j : ℕ) (e : Entry) → (slot_gained by target sweeps j e).routine ≡ Claims claim → ⊥
gains Epochs target claim (suc swept) j e is = let no : Announces _ ≡ Claims claim = is in cc
gains _ target claim _ j e is = let no : Zeroes _ _ ≡ Claims claim = is in cc

-- a claim that hasn't ended
goes : (by : Reclamation) (target : Target) (claim claim' : Claim) (end : Option ClaimEnd) (e : Entry) → (claim_on by target claim end e).entry.routine ≡ Claims claim' → (end ≡ None) × (claim ≡ claim')
goes by target claim claim' None e is = (refl, let same : Claims claim ≡ Claims claim' = is in cc)
goes by target claim claim' (Some (ends.Claimed j)) e is = absurd (gains by target claim' claim.sweeps j (with_routine e At) is)
goes by target claim claim' (Some ends.Full) e is = absurd (let no : Idle ≡ Claims claim' = is in cc)
goes by target claim claim' (Some (ends.PhasesOver p)) e is = absurd (let no : Idle ≡ Claims claim' = is in cc)

busy : (r : Routine) (claim : Claim) → r ≡ Claims claim → is_idle r ≡ true → ⊥
busy r claim at idle = let no : false ≡ true = sym (ap is_idle at) ∙ idle in cc

-- one event
claim_moves : (target : Target) (setting : Setting) (before later : CoreView) (event : CoreEvent) (claim claim' : Claim) → setting.sizes.callers ≡ 1 → Moves target setting before event later
    → (before.who 0).routine ≡ Claims claim → (later.who 0).routine ≡ Claims claim'
    → (later.memory ≡ made before.memory (claim_wants claim)) × ((turn_of setting claim before.memory).ended ≡ None) × ((turn_of setting claim before.memory).claim ≡ claim')
claim_moves target setting before later (Takes d call) claim claim' lone m at on =
    let lt = m.0 in let first : d ≡ 0 = omega (arith, lt, lone) in
    absurd (busy (before.who 0).routine claim at (subst (λ (i : ℕ). is_idle (before.who i).routine ≡ true) first m.1))
claim_moves target setting before later (Steps d) claim claim' lone m at on =
    let lt = m.1 in
    let first : d ≡ 0 = omega (arith, lt, lone) in
    let wanted_is : claim_wants claim ≡ m.0 = claim_wanted target (before.who 0) claim m.0 at (subst (λ (i : ℕ). wants target (before.who i) ≡ Some m.0) first m.2) in
    let own : later.who 0 ≡ after target setting (before.who 0) (before.memory (word_of m.0)) =
    subst (λ (who : ℕ → Entry). who 0 ≡ after target setting (before.who 0) (before.memory (word_of m.0))) (sym m.5)
    (each_put (λ i (e : Entry). i ≡ d → e ≡ after target setting (before.who i) (before.memory (word_of m.0))) before.who d (after target setting (before.who d) (before.memory (word_of m.0))) (λ is. refl) (λ i ne is. absurd (ne is)) 0 (sym first)) in
    let goes_on : after target setting (before.who 0) (before.memory (word_of m.0)) ≡ (claim_on setting.reclamation target (turn_of setting claim before.memory).claim (turn_of setting claim before.memory).ended (claim_counted (claim_takes setting.sizes claim (before.memory (word_of (claim_wants claim)))) (counted (before.who 0)))).entry =
    ap (λ (a : WordAccess). after target setting (before.who 0) (before.memory (word_of a))) (sym wanted_is) ∙ claim_after target setting (before.who 0) claim before.memory at in
    let end = goes setting.reclamation target (turn_of setting claim before.memory).claim claim' (turn_of setting claim before.memory).ended (claim_counted (claim_takes setting.sizes claim (before.memory (word_of (claim_wants claim)))) (counted (before.who 0))) (sym (ap (λ (e : Entry). e.routine) (own ∙ goes_on)) ∙ on) in
    (m.4 ∙ ap (made before.memory) (sym wanted_is), end.0, end.1)

claiming : (r : Routine) → is_claiming r ≡ true → (claim : Claim) × (r ≡ Claims claim)
claiming (Claims claim) is = (claim, refl)
claiming _ is = absurd (let no : false ≡ true = is in cc)

-- what each step of a claim keeps, holds along it
module _ (target : Target) (setting : Setting) (lone : setting.sizes.callers ≡ 1) (seen : EventsAreSeen target setting) (shaped : (state : CoreState) → IsSound target setting state → IsShaped target setting state)
    (keeps : (state later : CoreState) (event : CoreEvent) → IsSound target setting state → core_event target setting state event ≡ Some later → IsSound target setting later)
    (P : (Word → ℕ) → Claim → Type 0)
    (step : (m : Word → ℕ) (claim : Claim) → P m claim → (turn_of setting claim m).ended ≡ None → P (made m (claim_wants claim)) (turn_of setting claim m).claim) where
  still_claims : (events : List CoreEvent) (state later : CoreState) (claim : Claim) → core_run target setting events state ≡ Some later → stays_in_claim target setting events state ≡ true
      → ((view setting later).who 0).routine ≡ Claims claim → is_claiming ((view setting state).who 0).routine ≡ true
  still_claims [] state later claim runs stays at = ap is_claiming (subst (λ (i : CoreState). ((view setting i).who 0).routine ≡ Claims claim) (let same : later ≡ state = cc in same) at)
  still_claims (event ∷ events) state later claim runs stays at = (and_parts (is_claiming ((view setting state).who 0).routine) (on_state (core_event target setting state event) (stays_in_claim target setting events)) stays).0

  pub along : (events : List CoreEvent) (state later : CoreState) (claim claim' : Claim) → IsSound target setting state → ((view setting state).who 0).routine ≡ Claims claim → P (view setting state).memory claim
      → core_run target setting events state ≡ Some later → stays_in_claim target setting events state ≡ true → ((view setting later).who 0).routine ≡ Claims claim' → P (view setting later).memory claim'
  along [] state later claim claim' sound at p runs stays on =
      let same : state ≡ later = cc in
      let is : Claims claim ≡ Claims claim' = sym at ∙ (ap (λ (i : CoreState). ((view setting i).who 0).routine) same ∙ on) in
      let one : claim ≡ claim' = cc in
      subst (λ (c : Claim). P (view setting later).memory c) one (subst (λ (i : CoreState). P (view setting i).memory claim) same p)
  along (event ∷ events) state later claim claim' sound at p runs stays on =
      of (along events) (core_event target setting state event) refl runs (and_parts (is_claiming ((view setting state).who 0).routine) (on_state (core_event target setting state event) (stays_in_claim target setting events)) stays).1 where
        of : ((next last : CoreState) (claim claim' : Claim) → IsSound target setting next → ((view setting next).who 0).routine ≡ Claims claim → P (view setting next).memory claim
            → core_run target setting events next ≡ Some last → stays_in_claim target setting events next ≡ true → ((view setting last).who 0).routine ≡ Claims claim' → P (view setting last).memory claim')
            → (o : Option CoreState) → core_event target setting state event ≡ o → run_on o (core_run target setting events) ≡ Some later → on_state o (stays_in_claim target setting events) ≡ true → P (view setting later).memory claim'
        of more None is runs rest = absurd (let no : None ≡ Some later = runs in cc)
        of more (Some next) is runs rest =
            let there = claiming ((view setting next).who 0).routine (still_claims events next later claim' runs rest on) in
            let moves = claim_moves target setting (view setting state) (view setting next) event claim there.0 lone (seen.moves state next event (shaped state sound) is) at there.1 in
            let after_p : P (made (view setting state).memory (claim_wants claim)) (turn_of setting claim (view setting state).memory).claim = step (view setting state).memory claim p moves.1 in
            more next later there.0 claim' (keeps state next event sound is) there.1
            (subst (λ (m : Word → ℕ). P m there.0) (sym moves.0) (subst (λ (c : Claim). P (made (view setting state).memory (claim_wants claim)) c) moves.2 after_p)) runs rest on
