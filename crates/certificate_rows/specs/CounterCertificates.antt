-- Certificates of the counter, and the signs of its steps.
use Rattle.std.specs.Prelude.{◌≡◌, ℕ, true, List, [], ◌∷◌, ◌++◌, Option, Some, None, option_map, codes, slice_get}
use Rattle.target_code.specs.declared.target.Target.{Target}
use Rattle.source_machine.specs.declared.event.SourceEvent.{SourceEvent}
use Rattle.source_machine.specs.declared.event.SourceEvent.TheVariants as events
use Rattle.norm_lang.specs.declared.reply.SourceReply.TheVariants as replies
use Rattle.documents.specs.declared.document.ScriptCall.{ScriptCall}
use Rattle.caller_parts.specs.Settings.{Setting}
use Rattle.caller_steps.specs.Entries.{Entry}
use Rattle.core_runs.specs.Machine.{CoreState, CoreEvent, Takes, core_run, core_start}
use Rattle.core_runs.specs.RunSigns.{entry_signs}
use Rattle.oa_simulation.specs.Shadow.{image}
use Rattle.core_entries.specs.declared.signs.Sign.{Sign}
use Rattle.core_entries.specs.declared.signs.Sign.TheVariants.{Begin, Access, Restart, End}
use Rattle.core_entries.specs.StepSigns.{is_of_text, all_named}
use Rattle.event_judge.specs.declared.verdict.Verdict.TheVariants.{Accepted, Rejected}
use Rattle.event_judge.specs.Judging.{verdict_on}
use Rattle.certificate_laws.specs.Certified.{replies_in, spells}
use Rattle.core_rows.specs.Short.{call_of}
use Rattle.core_rows.specs.SmallTexts.{counter_text}
use Rattle.core_rows.specs.SmallTargets.{counter_target, tally_target}
use Rattle.core_rows.specs.CounterRows.{counter_setting, added, tally_setting, tally_disturbed}
use Rattle.core_rows.specs.Stories.{steps}

-- the call begins, its load and its exchange are made, and the end of its wrap-up owes nothing
abbrev pub add_events : List SourceEvent
add_events = events.Begin 0 0 (5 ∷ 0 ∷ 0 ∷ 0 ∷ []) ∷ events.Access 0 0 ∷ events.Access 0 0 ∷ []

abbrev pub add_line : ScriptCall
add_line = record { line = 1; name = codes "add"; args = 5 ∷ [] }

pub record CounterCertificate : Type 0 where
  pub image_is : image counter_target counter_text counter_setting added ≡ add_events
  pub ends_with : option_map replies_in (core_run counter_target counter_setting added (core_start counter_target counter_setting)) ≡ Some ((replies.Number 5 ∷ []) ∷ [])
  pub spelled : spells counter_text.ops (add_line ∷ []) (call_of 0 5 ∷ []) ≡ true
  pub accepted : verdict_on counter_text ((add_line ∷ []) ∷ []) add_events ((replies.Number 5 ∷ []) ∷ []) ≡ Accepted
  -- a restart that is kept although it isn't enabled
  pub kept : verdict_on counter_text ((add_line ∷ []) ∷ []) (add_events ++ events.Restart 0 ∷ []) ((replies.Number 5 ∷ []) ∷ []) ≡ Rejected 1 3

-- what the next step of a caller tells
abbrev pub told_by : Target → Setting → CoreState → Option Entry → List Sign
told_by target setting state None = []
told_by target setting state (Some e) = all_named (is_of_text target e e.routine) (entry_signs target setting state (Some e))

abbrev pub told_in : Target → Setting → ℕ → Option CoreState → List Sign
told_in target setting c None = []
told_in target setting c (Some state) = told_by target setting state (slice_get state.entries c)

abbrev pub told_next : Target → Setting → List CoreEvent → ℕ → List Sign
told_next target setting events c = told_in target setting c (core_run target setting events (core_start target setting))

pub record ToldSigns : Type 0 where
  pub begin : told_next counter_target counter_setting (Takes 0 (call_of 0 5) ∷ []) 0 ≡ Begin ∷ []
  pub load : told_next counter_target counter_setting (Takes 0 (call_of 0 5) ∷ steps 0 1) 0 ≡ Access ∷ []
  pub check : told_next counter_target counter_setting (Takes 0 (call_of 0 5) ∷ steps 0 2) 0 ≡ []
  pub exchange : told_next counter_target counter_setting (Takes 0 (call_of 0 5) ∷ steps 0 3) 0 ≡ Access ∷ []
  -- the load of the warning at the wrap-up's start; the return owes nothing, since the wrap-up made no access
  pub wrap_up : told_next counter_target counter_setting (Takes 0 (call_of 0 5) ∷ steps 0 4) 0 ≡ Restart ∷ []
  -- the end of an empty list comes with the begin
  pub empty_list : told_next counter_target counter_setting (added ++ Takes 0 (call_of 1 0) ∷ []) 0 ≡ Begin ∷ End ∷ []
  -- a check of a wrap-up that has loaded comes to `again`
  pub again : told_next tally_target tally_setting (tally_disturbed ++ steps 0 3) 0 ≡ End ∷ []
