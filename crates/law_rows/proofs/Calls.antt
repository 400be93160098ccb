-- Steps, causes, claims and counts of explicit runs, by computing. What a cause must be refused for is shown of the step that it would name.
use Rattle.std.proofs.Common.{◌≡◌, ℕ, ◌∙◌, ◌++◌, List, [], ◌∷◌, refl, ap, subst, Bool, true, false, arith}
use Rattle.std.specs.List.{AllByRecursion}
use Rattle.std.specs.Prelude.{slice_index_or}
use Rattle.phase_pools.specs.declared.stages.Scheme.TheVariants.{Warned, Announced}
use Rattle.phase_pools.specs.declared.stages.ClaimStage.TheVariants as stages
use Rattle.oa_words.specs.Words.{Phase, Warning, Head}
use Rattle.oa_words.specs.Packed.{head_parts}
use Rattle.phase_pools.specs.declared.stages.SweepStage.TheVariants as sweeps
use Rattle.phase_pools.specs.Accesses.{Loads, Stores}
use Rattle.phase_pools.specs.Pools.{Claim, sweep_begun, claim_wants}
use Rattle.caller_parts.specs.declared.routine.Routine.{Routine}
use Rattle.caller_parts.specs.declared.routine.Routine.TheVariants.{Claims}
use Rattle.caller_parts.specs.Settings.{Setting}
use Rattle.caller_steps.specs.Entries.{idle_entry}
use Rattle.caller_steps.specs.Wants.{wants}
use Rattle.caller_steps.specs.After.{after}
use Rattle.claim_laws.specs.CallSteps.{StepMade}
use Rattle.claim_laws.specs.Causes.{IsSweepsPhaseLoad, EndsInFailedLook}
use Rattle.law_rows.specs.CallRuns.{StepRows, CauseRows, EpochCauseRows, ClaimedRows, NewRows, announced, crowded, waiting, wanting}

pub step_rows : StepRows
unfolding wants after
step_rows = record {
  both = refl;
  other = refl;
  first = refl;
  second = refl;
  third = refl;
  untouched = refl;
  nobody = refl;
}

-- ---- causes

abbrev no_step : StepMade
no_step = record { entry = idle_entry 0; found = 0 }

abbrev no_claim : Claim
no_claim = record { kind = 0; stage = stages.ReadHead; sweeps = 0; sweep = sweep_begun 8192 Warned }

abbrev claim_of : Routine → Claim
claim_of (Claims claim) = claim
claim_of _ = no_claim

abbrev claim_at : StepMade → Claim
claim_at step = claim_of step.entry.routine

abbrev at : ℕ → List StepMade → StepMade
at n steps = slice_index_or steps n no_step

abbrev front_of : List StepMade → List StepMade
front_of [] = []
front_of (x ∷ []) = []
front_of (x ∷ y ∷ rest) = x ∷ front_of (y ∷ rest)

abbrev last_of : List StepMade → StepMade
last_of [] = no_step
last_of (x ∷ []) = x
last_of (x ∷ y ∷ rest) = last_of (y ∷ rest)

abbrev has_steps : List StepMade → Bool
has_steps [] = false
has_steps (x ∷ rest) = true

front_and_last : (steps : List StepMade) → has_steps steps ≡ true → steps ≡ front_of steps ++ last_of steps ∷ []
front_and_last [] some = absurd (let no : false ≡ true = some in cc)
front_and_last (x ∷ []) some = refl
front_and_last (x ∷ y ∷ rest) some = ap (λ (steps : List StepMade). x ∷ steps) (front_and_last (y ∷ rest) refl)

last_snoc : (before : List StepMade) (step : StepMade) → last_of (before ++ step ∷ []) ≡ step
last_snoc (x ∷ y ∷ rest) step = last_snoc (y ∷ rest) step
last_snoc _ step = refl

member : (P : StepMade → Type 0) (before : List StepMade) (step : StepMade) (later : List StepMade) → AllByRecursion P (before ++ step ∷ later) → P step
member P [] step later all = all.0
member P (x ∷ xs) step later all = member P xs step later all.1

-- a failed look's claim has made two sweeps, and stands at the head
ends_so : (setting : Setting) (steps : List StepMade) → EndsInFailedLook setting steps → (claim_at (last_of steps)).sweeps ≡ 2
ends_so setting steps h =
    let last : last_of steps ≡ h.1 = ap last_of h.2 ∙ last_snoc h.0 h.1 in
    let is : claim_at h.1 ≡ h.3.claim = ap claim_of h.3.claims in
    ap (λ (step : StepMade). (claim_at step).sweeps) last ∙ ap (λ (claim : Claim). claim.sweeps) is ∙ h.3.sweeps

ends_there : (setting : Setting) (steps : List StepMade) → EndsInFailedLook setting steps → (claim_at (last_of steps)).stage ≡ stages.ReadHead
ends_there setting steps h =
    let last : last_of steps ≡ h.1 = ap last_of h.2 ∙ last_snoc h.0 h.1 in
    let is : claim_at h.1 ≡ h.3.claim = ap claim_of h.3.claims in
    ap (λ (step : StepMade). (claim_at step).stage) last ∙ ap (λ (claim : Claim). claim.stage) is ∙ h.3.looks

not_head : (k : ℕ) → Loads (Head k) ≡ Loads Phase → ⊥
not_head k is = cc

-- neither the step at a call's begin nor a look is a sweep's load of the phase
no_sweep : AllByRecursion (λ (step : StepMade). IsSweepsPhaseLoad step → ⊥) (wanting 1 2)
unfolding wants after
no_sweep = ((λ h. let is : _ ≡ Claims h.0 = h.1 in cc), ((λ h. let is : claim_at (at 1 (wanting 1 2)) ≡ h.0 = ap claim_of h.1 in let loads : claim_wants h.0 ≡ Loads Phase = h.2 in not_head 0 (ap claim_wants is ∙ loads)), tt))

-- the third look of a claim whose second sweep has ended
abbrev third_look : Claim
third_look = record { kind = 0; stage = stages.ReadHead; sweeps = 2; sweep = record { scheme = Warned; tops = 8192; stage = sweeps.ReadStatus 1; bound = 3; low = 3; gathered = [] } }

third_looks : (last_of (wanting 1000 46)).entry.routine ≡ Claims third_look
unfolding wants after
third_looks = refl

third_empty : (head_parts 8192 (last_of (wanting 1000 46)).found).top ≡ 0
unfolding wants after
third_empty = refl

pub cause_rows : CauseRows
unfolding wants after
cause_rows = record {
  over = record { before = front_of (wanting 1 3); step = last_of (wanting 1 3); later = []; among = front_and_last (wanting 1 3) refl; loads = (claim_at (last_of (wanting 1 3)), refl, refl); found = refl; last = refl };
  not_second = λ h. let is : ◌≡◌ {A = ℕ} 2 1 = h.last in omega arith;
  not_yet = λ h. member (λ (step : StepMade). IsSweepsPhaseLoad step → ⊥) h.before h.step h.later (subst (AllByRecursion (λ (step : StepMade). IsSweepsPhaseLoad step → ⊥)) h.among no_sweep) h.loads;
  not_last = λ h. let is : ◌≡◌ {A = ℕ} 1 2 = h.last in omega arith;
  full = (front_of (wanting 1000 46), last_of (wanting 1000 46), front_and_last (wanting 1000 46) refl, record { claim = third_look; claims = third_looks; sweeps = refl; looks = refl; empty = third_empty });
  first_look = λ h. let is : ◌≡◌ {A = ℕ} 0 2 = ends_so (crowded 1000) (wanting 1000 2) h in omega arith;
  second_look = λ h. let is : ◌≡◌ {A = ℕ} 1 2 = ends_so (crowded 1000) (wanting 1000 24) h in omega arith;
  before_look = λ h. let is : stages.Sweeps ≡ stages.ReadHead = ends_there (crowded 1000) (wanting 1000 45) h in cc;
}

-- ---- causes under epochs

not_withdrawal : Stores (Warning 0) 0 ≡ Loads Phase → ⊥
not_withdrawal is = cc

-- neither the announcement at a call's begin is one, nor the look and the withdrawal after it
no_epoch_sweep : AllByRecursion (λ (step : StepMade). IsSweepsPhaseLoad step → ⊥) (waiting 1 4)
unfolding wants after
no_epoch_sweep = (
  (λ h. let is : _ ≡ Claims h.0 = h.1 in cc),
  (
    (λ h. let is : _ ≡ Claims h.0 = h.1 in cc),
    (
      (λ h. let is : claim_at (at 2 (waiting 1 4)) ≡ h.0 = ap claim_of h.1 in let loads : claim_wants h.0 ≡ Loads Phase = h.2 in not_head 0 (ap claim_wants is ∙ loads)),
      ((λ h. let is : claim_at (at 3 (waiting 1 4)) ≡ h.0 = ap claim_of h.1 in let loads : claim_wants h.0 ≡ Loads Phase = h.2 in not_withdrawal (ap claim_wants is ∙ loads)), tt),
    ),
  ),
)

abbrev third_epoch_look : Claim
third_epoch_look = record { kind = 0; stage = stages.ReadHead; sweeps = 2; sweep = record { scheme = Announced 0; tops = 8192; stage = sweeps.ReadStatus 1; bound = 3; low = 3; gathered = [] } }

third_epoch_looks : (last_of (waiting 1000 16)).entry.routine ≡ Claims third_epoch_look
unfolding wants after
third_epoch_looks = refl

third_epoch_empty : (head_parts 8192 (last_of (waiting 1000 16)).found).top ≡ 0
unfolding wants after
third_epoch_empty = refl

pub epoch_cause_rows : EpochCauseRows
unfolding wants after
epoch_cause_rows = record {
  over = record { before = front_of (waiting 1 5); step = last_of (waiting 1 5); later = []; among = front_and_last (waiting 1 5) refl; loads = (claim_at (last_of (waiting 1 5)), refl, refl); found = refl; last = refl };
  not_yet = λ h. member (λ (step : StepMade). IsSweepsPhaseLoad step → ⊥) h.before h.step h.later (subst (AllByRecursion (λ (step : StepMade). IsSweepsPhaseLoad step → ⊥)) h.among no_epoch_sweep) h.loads;
  full = (
    front_of (waiting 1000 16),
    last_of (waiting 1000 16),
    front_and_last (waiting 1000 16) refl,
    record { claim = third_epoch_look; claims = third_epoch_looks; sweeps = refl; looks = refl; empty = third_epoch_empty },
  );
  first_look = λ h. let is : ◌≡◌ {A = ℕ} 0 2 = ends_so (announced 1000) (waiting 1000 3) h in omega arith;
  second_look = λ h. let is : ◌≡◌ {A = ℕ} 1 2 = ends_so (announced 1000) (waiting 1000 10) h in omega arith;
  before_look = λ h. let is : stages.Sweeps ≡ stages.ReadHead = ends_there (announced 1000) (waiting 1000 15) h in cc;
}

-- ---- claims and calls

pub claimed_rows : ClaimedRows
unfolding wants after
claimed_rows = record {
  four = refl;
  other = refl;
  before = refl;
  exchanged = refl;
  stored = refl;
  lost = refl;
  won = refl;
  next = refl;
  thrice = refl;
}

pub new_rows : NewRows
new_rows = record {
  insert_has_one = refl;
  remove_has_none = refl;
  fill_has_two = refl;
  four_has_four = refl;
  no_operation = refl;
  of_list = refl;
  of_queue = refl;
  of_four = refl;
  of_callers = refl;
}
