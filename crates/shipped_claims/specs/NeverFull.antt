-- The shipped texts are never full if each `insert` or `enqueue` has a slot of its own.
use Rattle.std.specs.Prelude.{◌≡◌, ◌≢◌, ℕ, ◌+◌, ◌≤◌, Bool, false, List, [], ◌∷◌, Option, Some, None, if◌then◌else◌, slice_get, codes}
use Rattle.std.specs.Str.{bytes_eq}
use Rattle.norm_lang.specs.Shipped.{set_text, queue_text}
use Rattle.norm_lang.specs.declared.reply.SourceReply.TheVariants as replies
use Rattle.target_code.specs.declared.target.TargetOp.{TargetOp}
use Rattle.target_code.specs.declared.target.Target.{Target}
use Rattle.target_code.specs.Bare.{bare}
use Rattle.target_code.specs.SecondScheme.{second_scheme}
use Rattle.oa_words.specs.SlotKinds.{together}
use Rattle.caller_parts.specs.declared.call.Replied.{Replied}
use Rattle.caller_parts.specs.declared.call.Running.{Running}
use Rattle.caller_parts.specs.Settings.{Setting, Fits, IsSetting}
use Rattle.caller_steps.specs.Entries.{Entry}
use Rattle.core_runs.specs.Machine.{CoreState, Reachable}
use Rattle.core_runs.specs.Histories.{calls_of}

abbrev pub has_name : List ℕ → Option TargetOp → Bool
has_name name None = false
has_name name (Some op) = bytes_eq op.name name

-- of some calls, those of the operation so named
abbrev pub calls_named : Target → List ℕ → List Running → ℕ
calls_named target name [] = 0
calls_named target name (run ∷ runs) =
    if has_name name (slice_get target.ops run.call.op) then calls_named target name runs + 1 else calls_named target name runs

-- of those that all callers took
abbrev pub calls_named_in : Target → List ℕ → List Entry → ℕ
calls_named_in target name [] = 0
calls_named_in target name (e ∷ entries) = calls_named target name (calls_of e) + calls_named_in target name entries

-- if the slots are at least the initial nodes and the calls so named that all callers took together, none was told that the
-- pool is full
pub record IsNeverFull (name : List ℕ) (target : Target) (setting : Setting) : Type 0 where
  pub each : (state : CoreState) (c i : ℕ) (e : Entry) (replied : Replied) → Reachable target setting state
      → together setting.nodes + calls_named_in target name state.entries ≤ setting.sizes.slots → slice_get state.entries c ≡ Some e → slice_get e.replies i ≡ Some replied
      → replied.reply ≢ replies.Full

-- a set of 1 to 64 buckets, if each `insert` has a slot
abbrev pub SetsAreNeverFull : Type 0
SetsAreNeverFull = (buckets : ℕ) (setting : Setting) → 1 ≤ buckets → buckets ≤ 64 → IsSetting setting → Fits (second_scheme (set_text buckets)) setting
    → IsNeverFull (codes "insert") (second_scheme (set_text buckets)) setting

-- the queue, if each `enqueue` has one
abbrev pub QueueIsNeverFull : Type 0
QueueIsNeverFull = (setting : Setting) → IsSetting setting → Fits (second_scheme queue_text) setting → IsNeverFull (codes "enqueue") (second_scheme queue_text) setting

-- ---- under epochs, of the texts as they are

abbrev pub BareSetsAreNeverFull : Type 0
BareSetsAreNeverFull = (buckets : ℕ) (setting : Setting) → 1 ≤ buckets → buckets ≤ 64 → IsSetting setting → Fits (bare (set_text buckets)) setting
    → IsNeverFull (codes "insert") (bare (set_text buckets)) setting

abbrev pub BareQueueIsNeverFull : Type 0
BareQueueIsNeverFull = (setting : Setting) → IsSetting setting → Fits (bare queue_text) setting → IsNeverFull (codes "enqueue") (bare queue_text) setting
