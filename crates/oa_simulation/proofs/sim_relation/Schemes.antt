-- Optimistic access alone: what the definitions of both schemes are then, and that no caller announces a phase or withdraws what it has
-- announced.
use Rattle.std.proofs.Common.{ℕ, ◌≡◌, ◌≢◌, ◌∙◌, sym, ap, subst}
use Rattle.target_code.specs.declared.target.Target.{Target}
use Rattle.phase_pools.specs.declared.stages.Scheme.TheVariants.{Warned, Announced}
use Rattle.phase_pools.specs.declared.stages.ClaimStage.{ClaimStage}
use Rattle.phase_pools.specs.declared.stages.ClaimStage.TheVariants as claims
use Rattle.phase_pools.specs.Pools.{Claim}
use Rattle.caller_parts.specs.declared.call.Call.{Call}
use Rattle.caller_parts.specs.declared.routine.Announcing.{Announcing}
use Rattle.caller_parts.specs.declared.routine.Routine.{Routine}
use Rattle.caller_parts.specs.declared.routine.Routine.TheVariants.{Announces}
use Rattle.caller_parts.specs.declared.setting.Reclamation.{Reclamation}
use Rattle.caller_parts.specs.declared.setting.Reclamation.TheVariants.{Optimistic, Epochs}
use Rattle.caller_parts.specs.Settings.{Setting}
use Rattle.caller_steps.specs.Entries.{Entry}
use Rattle.caller_steps.specs.After.{after, signs, taken}
use Rattle.caller_steps.specs.After.{moved as after_moves}
use Rattle.caller_steps.specs.Belongs.{Belongs, ClaimBelongs, ClaimStands, Stands as CoreStands, scheme_of}
use Rattle.oa_simulation.specs.sim_relation.Views.{Plan, Shared, Caller}
use Rattle.oa_simulation.specs.sim_relation.Callers.{CallerHolds, HoldsAt}

-- the entry after a step, its signs, and the entry that has taken a call
pub after_is : (target : Target) (setting : Setting) (e : Entry) (word : ℕ) → setting.reclamation ≡ Optimistic → after target setting e word ≡ (after_moves Optimistic target setting e word).entry
unfolding after
after_is target setting e word optimistic = ap (λ (by : Reclamation). (after_moves by target setting e word).entry) optimistic

pub signs_are : (target : Target) (setting : Setting) (e : Entry) (word : ℕ) → setting.reclamation ≡ Optimistic → signs target setting e word ≡ (after_moves Optimistic target setting e word).signs
unfolding signs
signs_are target setting e word optimistic = ap (λ (by : Reclamation). (after_moves by target setting e word).signs) optimistic

pub taken_is : (setting : Setting) (call : Call) (e : Entry) → setting.reclamation ≡ Optimistic → taken setting.reclamation call e ≡ taken Optimistic call e
taken_is setting call e optimistic = ap (λ (by : Reclamation). taken by call e) optimistic

-- no announcement
abbrev pub NeverAnnounces : Routine → Type 0
NeverAnnounces routine = (announcing : Announcing) → routine ≢ Announces announcing

pub never_stands : (target : Target) (setting : Setting) (e : Entry) (routine : Routine) → setting.reclamation ≡ Optimistic → CoreStands target setting e routine → NeverAnnounces routine
never_stands target setting e routine optimistic stands announcing is =
    let at : CoreStands target setting e (Announces announcing) = subst (λ (r : Routine). CoreStands target setting e r) is stands in
    let no : Optimistic ≡ Epochs = sym optimistic ∙ at.0 in
    cc

pub never_belongs : (target : Target) (setting : Setting) (e : Entry) → setting.reclamation ≡ Optimistic → Belongs target setting e → NeverAnnounces e.routine
never_belongs target setting e optimistic belongs = never_stands target setting e e.routine optimistic belongs.stands

pub never_holds : (t : Plan) (s : Shared) (d : ℕ) (x : Caller) → CallerHolds t s d x → NeverAnnounces x.entry.routine
never_holds t s d x told announcing is = subst (λ (r : Routine). HoldsAt t s d x r) is told.spot

-- claims warn the callers, and so none withdraws an announcement
pub claim_warned : (setting : Setting) (c : ℕ) (claim : Claim) → setting.reclamation ≡ Optimistic → ClaimBelongs setting c claim → claim.sweep.scheme ≡ Warned
claim_warned setting c claim optimistic own = own.scheme ∙ ap (λ (by : Reclamation). scheme_of by c) optimistic

pub never_withdraws : (setting : Setting) (c number : ℕ) (claim : Claim) → setting.reclamation ≡ Optimistic → ClaimBelongs setting c claim → claim.stage ≢ claims.Withdraw number
never_withdraws setting c number claim optimistic own is =
    let at : claim.sweep.scheme ≡ Announced number = subst (λ (stage : ClaimStage). ClaimStands setting claim.sweep.scheme claim.kind stage) is own.stands in
    let no : Warned ≡ Announced number = sym (claim_warned setting c claim optimistic own) ∙ at in
    cc
