-- Why a call ends without an answer: what the steps that were made for it found.
use Rattle.std.specs.Prelude.{◌≡◌, ◌↔◌, ℕ, false, List, [], ◌∷◌, ◌++◌, length, Some, slice_get}
use Rattle.norm_lang.specs.declared.reply.SourceReply.{SourceReply}
use Rattle.norm_lang.specs.declared.reply.SourceReply.TheVariants as replies
use Rattle.target_code.specs.declared.target.Target.{Target}
use Rattle.oa_words.specs.Words.{Phase}
use Rattle.oa_words.specs.Packed.{head_parts}
use Rattle.phase_pools.specs.declared.stages.ClaimStage.TheVariants as stages
use Rattle.phase_pools.specs.Accesses.{Loads}
use Rattle.phase_pools.specs.Pools.{Claim, claim_wants}
use Rattle.caller_parts.specs.declared.call.Replied.{Replied}
use Rattle.caller_parts.specs.declared.routine.Routine.TheVariants.{Claims}
use Rattle.caller_parts.specs.Settings.{Setting}
use Rattle.caller_steps.specs.Entries.{Entry, is_idle}
use Rattle.core_runs.specs.Machine.{CoreState, CoreEvent, core_run, core_start}
use Rattle.claim_laws.specs.CallSteps.{StepMade, steps_of_call}

-- ---- phases

-- a claim's load of the phase word, which only its sweeps make
abbrev pub IsSweepsPhaseLoad : StepMade → Type 0
IsSweepsPhaseLoad step = (claim : Claim) × (step.entry.routine ≡ Claims claim) × (claim_wants claim ≡ Loads Phase)

-- one of the steps was a sweep's load of the phase word, and found p, the last phase
pub record FoundLastPhase (setting : Setting) (p : ℕ) (steps : List StepMade) : Type 0 where
  pub before : List StepMade
  pub step : StepMade
  pub later : List StepMade
  pub among : steps ≡ before ++ step ∷ later
  pub loads : IsSweepsPhaseLoad step
  pub found : step.found ≡ p
  pub last : p ≡ setting.last

-- ---- full

-- the step loaded the head of its kind in a look of a claim that has made two sweeps, and found no slot on top
pub record FindsNoTop (setting : Setting) (step : StepMade) : Type 0 where
  pub claim : Claim
  pub claims : step.entry.routine ≡ Claims claim
  pub sweeps : claim.sweeps ≡ 2
  pub looks : claim.stage ≡ stages.ReadHead
  pub empty : (head_parts setting.sizes.tops step.found).top ≡ 0

-- the last step did
abbrev pub EndsInFailedLook : Setting → List StepMade → Type 0
EndsInFailedLook setting steps = (before : List StepMade) × (step : StepMade) × (steps ≡ before ++ step ∷ []) × FindsNoTop setting step

-- ---- laws

-- a reply says that phases are over, or that the pool is full, exactly if the steps of its call found so
pub record IsCaused (setting : Setting) (reply : SourceReply) (steps : List StepMade) : Type 0 where
  pub phases : (p : ℕ) → (reply ≡ replies.Phases p) ↔ FoundLastPhase setting p steps
  pub full : (reply ≡ replies.Full) ↔ EndsInFailedLook setting steps

-- neither was found
pub record FoundNeither (setting : Setting) (steps : List StepMade) : Type 0 where
  pub phases : (p : ℕ) → FoundLastPhase setting p steps → ⊥
  pub full : EndsInFailedLook setting steps → ⊥

-- in every run each reply of each caller is caused by the steps of its call, and those of a call that still runs have found
-- neither
pub record RepliesAreCaused (target : Target) (setting : Setting) : Type 0 where
  pub ended : (events : List CoreEvent) (state : CoreState) (c i : ℕ) (e : Entry) (replied : Replied) → core_run target setting events (core_start target setting) ≡ Some state
      → slice_get state.entries c ≡ Some e → slice_get e.replies i ≡ Some replied → IsCaused setting replied.reply (steps_of_call target setting events c i)
  pub running : (events : List CoreEvent) (state : CoreState) (c : ℕ) (e : Entry) → core_run target setting events (core_start target setting) ≡ Some state
      → slice_get state.entries c ≡ Some e → is_idle e.routine ≡ false → FoundNeither setting (steps_of_call target setting events c (length e.replies))
