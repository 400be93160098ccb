-- How many claims a full pool takes.
use Rattle.std.specs.Prelude.{◌≡◌, ℕ, ◌+◌, ◌≤◌, ◌<◌, List, [], ◌∷◌, ◌++◌, length, Some, slice_get}
use Rattle.norm_lang.specs.declared.reply.SourceReply.TheVariants as replies
use Rattle.target_code.specs.declared.target.Target.{Target}
use Rattle.oa_words.specs.SlotKinds.{slots_of}
use Rattle.caller_parts.specs.declared.call.Replied.{Replied}
use Rattle.caller_parts.specs.Settings.{Setting}
use Rattle.caller_steps.specs.Entries.{Entry}
use Rattle.core_runs.specs.Machine.{CoreState, CoreEvent, core_run, core_start}
use Rattle.claim_laws.specs.CallSteps.{StepMade, steps_of_call}
use Rattle.claim_laws.specs.Causes.{FindsNoTop}
use Rattle.claim_laws.specs.Untouched.{nodes_in}

-- the claims that all callers have counted
abbrev pub claims_in : List Entry → ℕ
claims_in [] = 0
claims_in (e ∷ entries) = e.counts.claims + claims_in entries

-- a call with these steps gave up at a `new` of this kind: the last step is its claim's, and found no slot of the kind on top
pub record GaveUpAt (setting : Setting) (k : ℕ) (steps : List StepMade) : Type 0 where
  pub before : List StepMade
  pub step : StepMade
  pub among : steps ≡ before ++ step ∷ []
  pub finds : FindsNoTop setting step
  pub kind : finds.claim.kind ≡ k

-- of the kind of the `new` at which a call with these steps gave up the initial nodes, and so many others, together are at least
-- the slots
abbrev pub FillItsKind : Setting → ℕ → List StepMade → Type 0
FillItsKind setting others steps = (k : ℕ) × GaveUpAt setting k steps × (k < length setting.sizes.kinds) × (slots_of setting.sizes k ≤ nodes_in setting k + others)

-- if a caller was told that the pool is full, the initial nodes of the kind of the `new` at which its call gave up and the claims of
-- all callers together are at least the slots of this kind
pub record FullTakesClaims (target : Target) (setting : Setting) : Type 0 where
  pub each : (events : List CoreEvent) (state : CoreState) (c i : ℕ) (e : Entry) (replied : Replied) → core_run target setting events (core_start target setting) ≡ Some state
      → slice_get state.entries c ≡ Some e → slice_get e.replies i ≡ Some replied → replied.reply ≡ replies.Full
      → FillItsKind setting (claims_in state.entries) (steps_of_call target setting events c i)
