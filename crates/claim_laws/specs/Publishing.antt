-- How many calls a full pool takes. A cradle keeps a slot from call to call until a list publishes its node, so a call of an
-- operation with one `new` claims at most once, unless it begins again after it has published.
use Rattle.std.specs.Prelude.{◌≡◌, ◌≢◌, ℕ, ◌+◌, ◌≤◌, ◌<◌, List, [], ◌∷◌, ◌++◌, length, Option, Some, None, slice_get}
use Rattle.norm_lang.specs.declared.reply.SourceReply.TheVariants as replies
use Rattle.target_code.specs.declared.target.TargetOp.{TargetOp}
use Rattle.target_code.specs.declared.target.Target.{Target}
use Rattle.target_code.specs.TargetLimits.{target_news_in}
use Rattle.oa_words.specs.SlotKinds.{slots_of}
use Rattle.caller_parts.specs.declared.call.Call.{Call}
use Rattle.caller_parts.specs.declared.call.Replied.{Replied}
use Rattle.caller_parts.specs.declared.call.Running.{Running}
use Rattle.caller_parts.specs.declared.routine.MethodStart.TheVariants as starts
use Rattle.caller_parts.specs.declared.routine.AnnounceReason.TheVariants as reasons
use Rattle.caller_parts.specs.declared.routine.Announcing.TheVariants as announces
use Rattle.caller_parts.specs.declared.routine.Routine.{Routine}
use Rattle.caller_parts.specs.declared.routine.Routine.TheVariants.{LoadSeen, Announces}
use Rattle.caller_parts.specs.declared.setting.Reclamation.{Reclamation}
use Rattle.caller_parts.specs.declared.setting.Reclamation.TheVariants.{Optimistic, Epochs}
use Rattle.caller_parts.specs.Settings.{Setting}
use Rattle.caller_steps.specs.Entries.{Entry, cradle_of}
use Rattle.caller_steps.specs.After.{after}
use Rattle.core_runs.specs.Machine.{CoreState, CoreEvent, core_run, core_start}
use Rattle.core_runs.specs.Histories.{calls_of}
use Rattle.claim_laws.specs.CallSteps.{StepMade, steps_of_call}
use Rattle.claim_laws.specs.Untouched.{nodes_in}
use Rattle.claim_laws.specs.Full.{GaveUpAt}

-- how many `new` an operation has: only a generator has any
abbrev pub news_of : Option TargetOp → ℕ
news_of None = 0
news_of (Some op) = target_news_in op.generator

abbrev pub news_of_call : Target → Call → ℕ
news_of_call target call = news_of (slice_get target.ops call.op)

-- none has more than one
abbrev pub HasFewNews : Target → Type 0
HasFewNews target = (op : ℕ) → news_of (slice_get target.ops op) ≤ 1

-- the node of a cradle was published: the step's exchange emptied the cradle
abbrev pub Publishes : Target → Setting → StepMade → Type 0
Publishes target setting step = (k : ℕ) × (cradle_of step.entry k ≢ 0) × (cradle_of (after target setting step.entry step.found) k ≡ 0)

-- before the first access of a call that begins again: the load of the own warning, or that of the phase to announce
abbrev pub again_routine : Reclamation → Routine
again_routine Optimistic = LoadSeen starts.Again
again_routine Epochs = Announces (announces.Loads reasons.Again)

-- in no run does a call begin again once it has published a node
pub record PublishedEnd (target : Target) (setting : Setting) : Type 0 where
  pub each : (events : List CoreEvent) (state : CoreState) (c : ℕ) (e : Entry) (before : List StepMade) (step : StepMade) (later : List StepMade)
      → core_run target setting events (core_start target setting) ≡ Some state → slice_get state.entries c ≡ Some e → e.routine ≡ again_routine setting.reclamation
      → steps_of_call target setting events c (length e.replies) ≡ before ++ step ∷ later → Publishes target setting step → ⊥

-- the `new` of all calls that a caller took; if no operation has more than one, that is how many calls are of one with a `new`
abbrev pub new_calls : Target → List Running → ℕ
new_calls target [] = 0
new_calls target (run ∷ runs) = news_of_call target run.call + new_calls target runs

-- of all callers
abbrev pub new_calls_in : Target → List Entry → ℕ
new_calls_in target [] = 0
new_calls_in target (e ∷ entries) = new_calls target (calls_of e) + new_calls_in target entries

-- of the kind of the `new` at which a call with these steps gave up the initial nodes, and so many others, together are more than
-- the slots
abbrev pub OverfillItsKind : Setting → ℕ → List StepMade → Type 0
OverfillItsKind setting others steps = (k : ℕ) × GaveUpAt setting k steps × (k < length setting.sizes.kinds) × (slots_of setting.sizes k < nodes_in setting k + others)

-- then, if a caller was told that the pool is full, the initial nodes of the kind of the `new` at which its call gave up and those calls
-- of all callers are more than the slots of this kind
pub record FullTakesCalls (target : Target) (setting : Setting) : Type 0 where
  pub each : (events : List CoreEvent) (state : CoreState) (c i : ℕ) (e : Entry) (replied : Replied) → HasFewNews target → PublishedEnd target setting
      → core_run target setting events (core_start target setting) ≡ Some state → slice_get state.entries c ≡ Some e → slice_get e.replies i ≡ Some replied → replied.reply ≡ replies.Full
      → OverfillItsKind setting (new_calls_in target state.entries) (steps_of_call target setting events c i)
