-- The calls that the image of a run under optimistic access begins.
use Rattle.std.proofs.Common.{◌≡◌, ℕ, List, Some}
use Rattle.std.specs.Prelude.{slice_get}
use Rattle.norm_lang.specs.declared.text.Text.{Text}
use Rattle.target_code.specs.declared.target.Target.{Target}
use Rattle.caller_parts.specs.declared.setting.Reclamation.TheVariants.{Optimistic}
use Rattle.caller_parts.specs.Settings.{Setting}
use Rattle.caller_steps.specs.Entries.{Entry}
use Rattle.core_runs.specs.Machine.{CoreState, CoreEvent, core_run, core_start, OfAll}
use Rattle.oa_simulation.specs.Shadow.{image}
use Rattle.run_laws.specs.begin_laws.Begins.{begun_in, started, CallsBegin}
use Rattle.run_laws.proofs.begin_laws.EventsBegun.{calls_of}
use Rattle.run_laws.proofs.begin_laws.StepsBegun.{Counts, begins_by}

pub calls_of_run : (target : Target) (text : Text) (setting : Setting) → setting.reclamation ≡ Optimistic → (events : List CoreEvent) (state : CoreState) (c : ℕ) (e : Entry) → core_run target setting events (core_start target setting) ≡ Some state
    → slice_get state.entries c ≡ Some e → (begun_in c (image target text setting events) ≡ started e) × Counts e
calls_of_run target text setting optimistic events state c e runs there = calls_of target setting Counts started (begins_by target setting optimistic) text events state c e runs there

pub calls_begin : OfAll CallsBegin
calls_begin target setting = record { each = λ optimistic text events state c e runs there. (calls_of_run target text setting optimistic events state c e runs there).0 }
