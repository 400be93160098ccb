-- A step of a call: either it goes on and has found neither cause, or it ends with a reply that its steps caused.
use Rattle.std.proofs.Common.{◌≡◌, ◌⊎◌, inl, inr, ⊎_elim, ℕ, true, false, List, [], ◌∷◌, ◌++◌, Option, Some, None, refl, sym, ◌∙◌, ap, subst}
use Rattle.norm_lang.specs.declared.reply.SourceReply.{SourceReply}
use Rattle.norm_lang.specs.declared.reply.SourceReply.TheVariants as replies
use Rattle.target_code.specs.declared.target.Target.{Target}
use Rattle.phase_pools.specs.declared.access.ClaimEnd.{ClaimEnd}
use Rattle.phase_pools.specs.declared.access.ClaimEnd.TheVariants as ends
use Rattle.phase_pools.specs.Pools.{Claim, ClaimTurn, claim_takes, claim_accepts}
use Rattle.caller_parts.specs.declared.routine.Routine.{Routine}
use Rattle.caller_parts.specs.declared.routine.Routine.TheVariants.{Idle, At, Clears, Claims, Announces}
use Rattle.caller_parts.specs.Pairing.{replied_by}
use Rattle.caller_parts.specs.Settings.{Setting}
use Rattle.caller_steps.specs.Entries.{Entry, is_idle}
use Rattle.caller_steps.specs.Signs.{Moved}
use Rattle.caller_steps.specs.After.{after, counted, claim_counted, claim_on, with_routine}
use Rattle.core_runs.specs.Advances.{RunsOn, Ends}
use Rattle.core_runs.proofs.Turning.{after_turns}
use Rattle.core_runs.proofs.caller_laws.Equations.{after_is, moved_claims}
use Rattle.claim_laws.specs.CallSteps.{StepMade}
use Rattle.claim_laws.specs.Causes.{IsSweepsPhaseLoad, FoundLastPhase, FindsNoTop, EndsInFailedLook, IsCaused, FoundNeither}
use Rattle.claim_laws.proofs.Lasts.{last_same, last_or_before}
use Rattle.claim_laws.proofs.Onward.{IsAnswer, IsBefore, IsNoClaim, StandsAfter, after_answers, slot_gains}
use Rattle.claim_laws.proofs.Claiming.{GivesAt, claim_gives, phases_end, empty_ends}

-- what holds of a call that runs, with the steps that were made for it
pub record Unfinished (setting : Setting) (e : Entry) (steps : List StepMade) : Type 0 where
  pub before : IsBefore e.routine
  pub neither : FoundNeither setting steps

-- a claim of the step ends so
abbrev pub EndsClaim : Setting → StepMade → ClaimEnd → Type 0
EndsClaim setting s end = (claim : Claim) × (s.entry.routine ≡ Claims claim) × ((claim_accepts setting.sizes setting.last claim s.found).ended ≡ Some end)

module _ (setting : Setting) (steps : List StepMade) (s : StepMade) where
  abbrev more : List StepMade
  more = steps ++ s ∷ []

  -- a phase load of the last step
  loads_over : (p : ℕ) → IsSweepsPhaseLoad s → s.found ≡ p → p ≡ setting.last → EndsClaim setting s (ends.PhasesOver p)
  loads_over p loads found last =
      (loads.0, loads.1, phases_end setting loads.0 s.found loads.0.stage loads.2 (found ∙ last) ∙ ap (λ (q : ℕ). Some (ends.PhasesOver q)) found)

  -- if none of the earlier steps found the last phase, the last one did
  pub over_by_last : (p : ℕ) → (FoundLastPhase setting p steps → ⊥) → FoundLastPhase setting p more → EndsClaim setting s (ends.PhasesOver p)
  over_by_last p none f = ⊎_elim
      (λ (t : f.step ≡ s). loads_over p (subst IsSweepsPhaseLoad t f.loads) (ap (λ (x : StepMade). x.found) (sym t) ∙ f.found) f.last)
      (λ (t : (rest : List StepMade) × (steps ≡ f.before ++ f.step ∷ rest)). absurd (none (record { before = f.before; step = f.step; later = t.0; among = t.1; loads = f.loads; found = f.found; last = f.last })))
      (last_or_before steps f.before f.later s f.step f.among)

  -- a failed look that the last step ends
  pub full_by_last : EndsInFailedLook setting more → EndsClaim setting s ends.Full
  full_by_last failed =
      let same : s ≡ failed.1 = last_same steps failed.0 s failed.1 failed.2 in
      let finds : FindsNoTop setting s = subst (FindsNoTop setting) (sym same) failed.3 in
      (finds.claim, finds.claims, empty_ends setting finds.claim s.found finds.claim.stage finds.looks finds.sweeps finds.empty)

  -- a call ends with an answer if the last step found neither
  abbrev FindsNeither : Type 0
  FindsNeither = ((p : ℕ) → EndsClaim setting s (ends.PhasesOver p) → ⊥) × (EndsClaim setting s ends.Full → ⊥)

  still_neither : FoundNeither setting steps → FindsNeither → FoundNeither setting more
  still_neither n f = record { phases = λ p found. f.0 p (over_by_last p (n.phases p) found); full = λ failed. f.1 (full_by_last failed) }

  answer_caused : (reply : SourceReply) → IsAnswer reply → FoundNeither setting more → IsCaused setting reply more
  answer_caused (replies.Number n) is f = record { phases = λ p. ((λ e. absurd cc), (λ found. absurd (f.phases p found))); full = ((λ e. absurd cc), (λ failed. absurd (f.full failed))) }
  answer_caused replies.Nothing is f = record { phases = λ p. ((λ e. absurd cc), (λ found. absurd (f.phases p found))); full = ((λ e. absurd cc), (λ failed. absurd (f.full failed))) }
  answer_caused _ is f = absurd is

-- what a step makes of a call: it runs on, or it gets a reply that its steps caused
abbrev pub GoesOn : Setting → Entry → List StepMade → Entry → Type 0
GoesOn setting e steps later = (is_idle later.routine ≡ false) × (later.replies ≡ e.replies) × Unfinished setting later steps

abbrev pub GetsReply : Setting → Entry → List StepMade → Entry → Type 0
GetsReply setting e steps later =
    (is_idle later.routine ≡ true) × (reply : SourceReply) × (later.replies ≡ e.replies ++ replied_by reply (counted e).running ∷ []) × IsCaused setting reply steps

abbrev pub Outcome : Setting → Entry → List StepMade → Entry → Type 0
Outcome setting e steps later = GoesOn setting e steps later ⊎ GetsReply setting e steps later

same_claim : (a b : Claim) → Claims a ≡ Claims b → a ≡ b
same_claim a b is = cc

module _ (target : Target) (setting : Setting) (e : Entry) (steps : List StepMade) (word : ℕ) (u : Unfinished setting e steps) where
  abbrev s : StepMade
  s = record { entry = e; found = word }

  abbrev all : List StepMade
  all = steps ++ s ∷ []

  -- ---- a step that isn't one of a claim

  no_end : IsNoClaim e.routine → (end : ClaimEnd) → EndsClaim setting s end → ⊥
  no_end plain end ended = subst IsNoClaim ended.1 plain

  plain_neither : IsNoClaim e.routine → FoundNeither setting all
  plain_neither plain = still_neither setting steps s u.neither ((λ p ended. no_end plain (ends.PhasesOver p) ended), (λ ended. no_end plain ends.Full ended))

  kept : (later : Entry) → RunsOn (counted e) later ⊎ Ends (counted e) later → is_idle later.routine ≡ false → later.replies ≡ e.replies
  kept later (inl runs) busy = runs.1
  kept later (inr stops) busy = absurd (let z : true ≡ false = sym stops.1 ∙ busy in cc)

  runs_on : (later : Entry) (routine : Routine) → later.routine ≡ routine → is_idle routine ≡ false → IsBefore routine → (later.replies ≡ e.replies) → FoundNeither setting all → Outcome setting e all later
  runs_on later routine is busy before replies neither = inl (ap is_idle is ∙ busy, replies, record { before = subst IsBefore (sym is) before; neither = neither })

  by_routine : (later : Entry) (routine : Routine) → later.routine ≡ routine → StandsAfter setting.sizes (counted e) later routine → (is_idle later.routine ≡ false → later.replies ≡ e.replies)
      → FoundNeither setting all → Outcome setting e all later
  by_routine later Idle is stands stay neither = inr (ap is_idle is, stands.0, stands.2, answer_caused setting steps s stands.0 stands.1 neither)
  by_routine later (Clears next) is stands stay neither = runs_on later (Clears next) is refl stands (stay (ap is_idle is)) neither
  by_routine later (Announces announcing) is stands stay neither = runs_on later (Announces announcing) is refl stands (stay (ap is_idle is)) neither
  by_routine later routine is stands stay neither = runs_on later routine is refl tt (stay (ap is_idle is)) neither

  plain_step : IsNoClaim e.routine → is_idle e.routine ≡ false → Outcome setting e all (after target setting e word)
  plain_step plain busy =
      let later : Entry = after target setting e word in
      by_routine later later.routine refl (after_answers target setting e word u.before plain).1 (kept later (after_turns target setting e word busy)) (plain_neither plain)

  -- ---- one of a claim

  module _ (claim : Claim) (there : e.routine ≡ Claims claim) where
    abbrev turn : ClaimTurn
    turn = claim_accepts setting.sizes setting.last claim word

    abbrev counts : Entry
    counts = claim_counted (claim_takes setting.sizes claim word) (counted e)

    later_is : after target setting e word ≡ (claim_on setting.reclamation target turn.claim turn.ended counts).entry
    later_is = after_is target setting e word ∙ ap (λ (m : Moved). m.entry) (moved_claims setting.reclamation target setting e word claim there)

    -- the claim has one end
    one_end : (end : ClaimEnd) → EndsClaim setting s end → turn.ended ≡ Some end
    one_end end ended = subst (λ (c : Claim). (claim_accepts setting.sizes setting.last c word).ended ≡ Some end) (same_claim ended.0 claim (sym ended.1 ∙ there)) ended.2

    still : (o : Option ClaimEnd) → turn.ended ≡ o → ((p : ℕ) → o ≡ Some (ends.PhasesOver p) → ⊥) → (o ≡ Some ends.Full → ⊥) → FoundNeither setting all
    still o is no_phases no_full = still_neither setting steps s u.neither ((λ p ended. no_phases p (sym is ∙ one_end (ends.PhasesOver p) ended)), (λ ended. no_full (sym is ∙ one_end ends.Full ended)))

    by_end : (next : Claim) (o : Option ClaimEnd) → turn.ended ≡ o → GivesAt setting s claim there o → Outcome setting e all (claim_on setting.reclamation target next o counts).entry
    by_end next None is gives = inl (refl, refl, record { before = tt; neither = still None is (λ p z. cc) (λ z. cc) })
    by_end next (Some (ends.Claimed j)) is gives =
        let g = slot_gains setting.reclamation target next.sweeps j (with_routine counts At) in
        inl (g.busy, g.replies, record { before = g.before; neither = still (Some (ends.Claimed j)) is (λ p z. cc) (λ z. cc) })
    by_end next (Some ends.Full) is gives = inr (
      refl,
      replies.Full,
      refl,
      record {
        phases = λ p. ((λ z. absurd cc), (λ found. absurd (let z : Some ends.Full ≡ Some (ends.PhasesOver p) = sym is ∙ one_end (ends.PhasesOver p) (over_by_last setting steps s p (u.neither.phases p) found) in cc)));
        full = ((λ z. (steps, s, refl, gives)), (λ failed. refl));
      },
    )
    by_end next (Some (ends.PhasesOver p)) is gives = inr (
      refl,
      replies.Phases p,
      refl,
      record {
        phases = λ q. ((λ z. found_here q (let same : p ≡ q = cc in same)), (λ found. let z : Some (ends.PhasesOver p) ≡ Some (ends.PhasesOver q) = sym is ∙ one_end (ends.PhasesOver q) (over_by_last setting steps s q (u.neither.phases q) found) in cc));
        full = ((λ z. absurd cc), (λ failed. absurd (let z : Some (ends.PhasesOver p) ≡ Some ends.Full = sym is ∙ one_end ends.Full (full_by_last setting steps s failed) in cc)));
      },
    ) where
      found_here : (q : ℕ) → p ≡ q → FoundLastPhase setting q all
      found_here q same = record { before = steps; step = s; later = []; among = refl; loads = (claim, there, gives.2); found = gives.1 ∙ same; last = sym same ∙ gives.0 }

    claim_step : Outcome setting e all (after target setting e word)
    claim_step = subst (Outcome setting e all) (sym later_is) (by_end turn.claim turn.ended refl (claim_gives setting s claim there))

  pub step_caused : is_idle e.routine ≡ false → Outcome setting e all (after target setting e word)
  step_caused busy = of e.routine refl where
    plain : (routine : Routine) → e.routine ≡ routine → IsNoClaim routine → Outcome setting e all (after target setting e word)
    plain routine is other = plain_step (subst IsNoClaim (sym is) other) busy

    of : (routine : Routine) → e.routine ≡ routine → Outcome setting e all (after target setting e word)
    of Idle is = absurd (let z : true ≡ false = sym (ap is_idle is) ∙ busy in cc)
    of (Claims claim) is = claim_step claim is
    of routine is = plain routine is tt
