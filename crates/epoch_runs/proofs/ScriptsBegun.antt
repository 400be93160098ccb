-- What runs under epochs begin, and complete runs of scripts.
use Rattle.std.proofs.Common.{◌≡◌, ◌+◌, ℕ, Bool, true, false, List, [], ◌∷◌, ◌++◌, length, map, take, Some, refl, ap, ◌∙◌, if◌then◌else◌, arith}
use Rattle.std.specs.Prelude.{nat_lt, slice_get}
use Rattle.std.proofs.lemmas.List.{append-nil}
use Rattle.norm_lang.specs.declared.text.Text.{Text}
use Rattle.target_code.specs.declared.target.Target.{Target}
use Rattle.caller_parts.specs.declared.call.Call.{Call}
use Rattle.caller_parts.specs.declared.setting.Reclamation.TheVariants.{Epochs}
use Rattle.caller_parts.specs.Settings.{Setting}
use Rattle.caller_steps.specs.Entries.{Entry, is_idle}
use Rattle.core_runs.specs.Machine.{CoreState, CoreEvent, OfAll}
use Rattle.core_runs.specs.Scripts.{IsCompleteRun, script_of}
use Rattle.oa_simulation.specs.Shadow.{image}
use Rattle.run_laws.specs.begin_laws.Begins.{begun_in, call_replied}
use Rattle.run_laws.proofs.begin_laws.EventsBegun.{calls_of}
use Rattle.run_laws.proofs.begin_laws.ScriptsBegun.{replied_first, idle_script, spent_script, spent_steps}
use Rattle.epoch_runs.specs.Begins.{begun_with, started_of, started, CallsBegin, BeginsScript, ScriptsBegin}
use Rattle.epoch_runs.proofs.StepsBegun.{Counts, begins_by}

pub calls_begin : OfAll CallsBegin
calls_begin target setting = record { each = λ epochs text events state c e runs there. (calls_of target setting Counts started (begins_by target setting epochs) text events state c e runs there).0 }

module _ (target : Target) (text : Text) (setting : Setting) (epochs : setting.reclamation ≡ Epochs) (scripts : List (List Call)) (fuel : ℕ) (events : List CoreEvent) (state : CoreState)
    (complete : IsCompleteRun target setting scripts fuel events state) (c : ℕ) (e : Entry) (there : slice_get state.entries c ≡ Some e) where
  begun : begun_in c (image target text setting events) ≡ started e
  begun = (calls_of target setting Counts started (begins_by target setting epochs) text events state c e complete.run.runs there).0

  started_by : (b : Bool) → is_idle e.routine ≡ b → started e ≡ map call_replied e.replies ++ started_of b e.running
  started_by b is = ap (λ (i : Bool). map call_replied e.replies ++ started_of i e.running) is

  -- of a spent call
  spent_begun : is_idle e.routine ≡ false → (b : Bool) → nat_lt 1 fuel ≡ b → map call_replied e.replies ++ (if b then e.running.call ∷ [] else []) ≡ take (length e.replies + (if b then 1 else 0)) (script_of scripts c)
  spent_begun busy true more = spent_script target setting scripts fuel events state complete c e there busy
  spent_begun busy false more =
      append-nil (map call_replied e.replies)
      ∙ (replied_first target setting scripts fuel events state complete c e there ∙ ap (λ (n : ℕ). take n (script_of scripts c)) (let same : length e.replies ≡ length e.replies + 0 = omega arith in same))

  script_begun : (b : Bool) → is_idle e.routine ≡ b → BeginsScript b (script_of scripts c) fuel e (begun_in c (image target text setting events))
  script_begun true idle = begun ∙ (started_by true idle ∙ (append-nil (map call_replied e.replies) ∙ idle_script target setting scripts fuel events state complete c e there idle))
  script_begun false busy =
      begun ∙ (started_by false busy
      ∙ (ap (λ (n : ℕ). map call_replied e.replies ++ begun_with n (e.running.call ∷ [])) (spent_steps target setting scripts fuel events state complete c e there busy) ∙ spent_begun busy (nat_lt 1 fuel) refl))

pub scripts_begin : OfAll ScriptsBegin
scripts_begin target setting = record {
  each = λ epochs text scripts fuel events state complete c e there. script_begun target text setting epochs scripts fuel events state complete c e there (is_idle e.routine) refl;
}
