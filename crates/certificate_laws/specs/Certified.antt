-- What a certificate of a run of scripts says: the run's image, and the replies in which it ends.
use Rattle.std.specs.Prelude.{◌≡◌, ℕ, ◌≤◌, Bool, true, false, ◌&&◌, List, [], ◌∷◌, map, length, slice_get}
use Rattle.norm_lang.specs.declared.text.Op.{Op}
use Rattle.norm_lang.specs.declared.text.Text.{Text}
use Rattle.target_code.specs.declared.target.Target.{Target}
use Rattle.norm_lang.specs.declared.reply.SourceReply.{SourceReply}
use Rattle.source_machine.specs.Proper.{IsProperFor}
use Rattle.documents.specs.declared.document.ScriptCall.{ScriptCall}
use Rattle.caller_parts.specs.declared.call.Call.{Call}
use Rattle.caller_parts.specs.Settings.{Setting}
use Rattle.core_runs.specs.Machine.{CoreState, CoreEvent}
use Rattle.core_runs.specs.Scripts.{IsCompleteRun, script_of}
use Rattle.oa_simulation.specs.sim_relation.Callers.{replies_of}
use Rattle.oa_simulation.specs.Shadow.{image}
use Rattle.event_judge.specs.declared.verdict.Verdict.TheVariants.{Accepted}
use Rattle.event_judge.specs.Calls.{listed, is_call_of_op}
use Rattle.event_judge.specs.Judging.{verdict_on}

-- the replies of each caller, in order
abbrev pub replies_in : CoreState → List (List SourceReply)
replies_in state = map replies_of state.entries

-- call lines and the calls that they stand for: each names the operation and has its arguments, with 0 past them
abbrev pub spells : List Op → List ScriptCall → List Call → Bool
spells ops [] [] = true
spells ops [] (call ∷ calls) = false
spells ops (line ∷ lines) [] = false
spells ops (line ∷ lines) (call ∷ calls) = is_call_of_op line call.args (slice_get ops call.op) && spells ops lines calls

abbrev pub Spell : List Op → List (List ScriptCall) → List (List Call) → Type 0
Spell ops lines scripts = (c : ℕ) → spells ops (listed (slice_get lines c)) (script_of scripts c) ≡ true

-- the judge accepts the image of each complete run of scripts, with the replies in which it ends
abbrev pub AcceptsRuns : Target → Text → Setting → Type 0
AcceptsRuns target text setting = (lines : List (List ScriptCall)) (scripts : List (List Call)) (fuel : ℕ) (events : List CoreEvent) (state : CoreState) → 1 ≤ fuel
    → length lines ≡ setting.sizes.callers → Spell text.ops lines scripts → IsCompleteRun target setting scripts fuel events state
    → verdict_on text lines (image target text setting events) (replies_in state) ≡ Accepted

-- it does so if the text is proper for the setting's callers
abbrev pub RunsAreAccepted : Target → Text → Setting → Type 0
RunsAreAccepted target text setting = IsProperFor setting.sizes.callers text → AcceptsRuns target text setting
