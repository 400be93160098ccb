-- The steps as the core gives them: by what an entry wants, and what it is after.
use Rattle.std.proofs.Common.{ℕ, ◌≡◌, ◌<◌, true, false, length, Option, Some, None, sym, ap, subst, refl}
use Rattle.target_code.specs.declared.target.Target.{Target}
use Rattle.phase_pools.specs.Accesses.{WordAccess, word_of}
use Rattle.phase_pools.specs.Pools.{Claim, claim_wants}
use Rattle.caller_parts.specs.declared.routine.Routine.{Routine}
use Rattle.caller_parts.specs.declared.routine.Routine.TheVariants.{Claims}
use Rattle.caller_parts.specs.Settings.{Setting}
use Rattle.caller_steps.specs.Entries.{Entry, new_number, instr_in}
use Rattle.caller_steps.specs.Belongs.{ClaimBelongs}
use Rattle.caller_steps.specs.Wants.{wants, wanted}
use Rattle.caller_steps.specs.After.{moved, accepted, counted}
use Rattle.caller_parts.specs.Operands.{is_new_at}
use Rattle.caller_steps.specs.Signs.{Moved}
use Rattle.run_ahead.specs.Ahead.{erasing}
use Rattle.oa_simulation.specs.sim_relation.Views.{Plan, IsPlan, Shared, Caller}
use Rattle.oa_simulation.specs.sim_relation.Shared.{SharedHolds}
use Rattle.oa_simulation.specs.sim_relation.Callers.{CallerHolds, HoldsAt}
use Rattle.oa_simulation.specs.sim_relation.Naming.{freed_in}
use Rattle.chain_laws.specs.Memories.{after_access}
use Rattle.oa_simulation.specs.sim_relation.Steps.{KeptNaming, TakesReady}
use Rattle.oa_simulation.proofs.sim_steps.Pools.Claiming.{claims_keep}
use Rattle.caller_parts.specs.declared.setting.Reclamation.TheVariants.{Optimistic}

pub after_is : (target : Target) (setting : Setting) (e : Entry) (word : ℕ) (r : Routine) → e.routine ≡ r → moved Optimistic target setting e word ≡ accepted Optimistic target setting word (counted e) r
after_is target setting e word r is = ap (λ routine. accepted Optimistic target setting word (counted e) routine) is

pub wants_is : (target : Target) (e : Entry) (r : Routine) → e.routine ≡ r → wants target e ≡ wanted target e r
unfolding wants
wants_is target e r is = ap (λ routine. wanted target e routine) is

-- a step of the core from an entry that wants this access
abbrev pub StepKept : Plan → ℕ → Shared → Caller → (ℕ → ℕ) → Option WordAccess → Type 0
StepKept t c s x present' None = Unit {0}
StepKept t c s x present' (Some a) = KeptNaming t c s x (after_access s.memory a) (moved Optimistic t.target t.setting x.entry (s.memory (word_of a))) present'

-- each step of a claim, of the core as it is
pub claim_step : (t : Plan) (c : ℕ) (s : Shared) (x : Caller) (claim : Claim) → x.entry.routine ≡ Claims claim → IsPlan t → SharedHolds t s → CallerHolds t s c x → TakesReady s.memory x.entry.routine
    → is_new_at (instr_in t.target x.entry) ≡ true → x.entry.hand.wrapup ≡ false → new_number t.target x.entry < length x.entry.cradles → ClaimBelongs t.setting x.entry.number claim
    → StepKept t c s x (freed_in claim.stage claim.sweep.stage s.memory s.present) (wants t.target x.entry)
claim_step t c s x claim is plan f told ready at_new gen lt own =
    let spot : HoldsAt t s c x (Claims claim) = subst (λ (r : Routine). HoldsAt t s c x r) is told.spot in
    subst (λ (o : Option WordAccess). StepKept t c s x (freed_in claim.stage claim.sweep.stage s.memory s.present) o) (sym (wants_is t.target x.entry (Claims claim) is))
    (subst (λ (m : Moved). KeptNaming t c s x (after_access s.memory (claim_wants claim)) m (freed_in claim.stage claim.sweep.stage s.memory s.present)) (sym (after_is t.target t.setting x.entry (s.memory (word_of (claim_wants claim))) (Claims claim) is))
    (claims_keep t c s x claim claim.stage refl (erasing plan.compiled) plan.null plan.callers f (record { base = told.base; running = spot.1; empty = spot.2; at_new = at_new; generator = gen }) lt (subst (λ (r : Routine). TakesReady s.memory r) is ready) plan.optimistic own spot.0))
