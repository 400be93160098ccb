-- The laws of one caller together.
use Rattle.std.proofs.Common.{◌≡◌, true, false, None, refl, subst}
use Rattle.norm_lang.specs.declared.text.Text.{Text}
use Rattle.target_code.specs.declared.target.Target.{Target}
use Rattle.target_laws.specs.target_runs.Runnable.{MayBeWalked}
use Rattle.caller_parts.specs.declared.routine.Routine.{Routine}
use Rattle.caller_parts.specs.declared.routine.Routine.TheVariants.{Idle}
use Rattle.caller_steps.specs.Entries.{Entry, is_idle}
use Rattle.caller_parts.specs.Operands.{code_at}
use Rattle.caller_steps.specs.Wants.{wanted, wants}
use Rattle.caller_steps.specs.Belongs.{RunsAt}
use Rattle.core_runs.specs.caller_laws.Laws.{ForRuns, EntriesBelong, EntriesAskSafely, EntriesFitCode, StoresTellNothing, PutsFindNodes, NewsHaveCradles}
use Rattle.core_runs.proofs.caller_laws.Methods.{Methods, methods_of, new_fits, news_fit, setting_sane}
use Rattle.core_runs.proofs.caller_laws.Beginning.{idle_belongs, taken_belongs}
use Rattle.core_runs.proofs.caller_laws.Conditions.{are_slots, can_ask, can_accept, is_near}
use Rattle.core_runs.proofs.caller_laws.Steps.{after_belongs}
use Rattle.core_runs.proofs.caller_laws.Safety.{wants_safe, put_finds}
use Rattle.core_runs.proofs.caller_laws.Cradles.{cradle_number_small, cradle_numbers_apart}
use Rattle.core_runs.proofs.caller_laws.Stored.{after_store}

pub methods : (target : Target) (text : Text) → MayBeWalked target text → Methods target
methods target text runs = methods_of target text runs

pub belong : ForRuns EntriesBelong
belong target text setting runs own fits = record {
  new = λ c lt. idle_belongs target setting c (methods target text runs) lt;
  takes = λ e call is b. taken_belongs target setting setting.reclamation call e (methods target text runs) refl is b;
  steps = λ e word b told. after_belongs target setting e word (methods target text runs) (setting_sane setting own) fits b told;
}

pub fits_code : ForRuns EntriesFitCode
fits_code target text setting runs own fits = record {
  asks = λ e b. can_ask target setting e (methods target text runs) own fits b;
  accepts = λ e word b told. can_accept target setting e word (methods target text runs) own fits b told;
  near = λ e b. is_near target setting e (methods target text runs) b;
  news = news_fit target setting (methods target text runs) (setting_sane setting own) fits;
  slots = λ few e b. (are_slots setting e.hand.registers few b.hand.registers, are_slots setting e.hand.started few b.hand.started);
}

-- an idle entry wants nothing
idle_by : (target : Target) (e : Entry) (routine : Routine) → is_idle routine ≡ true → wanted target e routine ≡ None
idle_by target e Idle is = refl
idle_by target e _ is = absurd (let z : false ≡ true = is in cc)

pub idle_wants : (target : Target) (e : Entry) → is_idle e.routine ≡ true → wants target e ≡ None
unfolding wants
idle_wants target e is = idle_by target e e.routine is

pub safe : ForRuns EntriesAskSafely
safe target text setting runs own fits = record {
  busy = λ e b busy. wants_safe target setting e (methods target text runs) (setting_sane setting own) fits b busy;
  idle = λ e is. idle_wants target e is;
}

pub stores : ForRuns StoresTellNothing
stores target text setting runs own fits = record { each = λ e w x a b is. after_store target setting e w x a b is }

pub puts : ForRuns PutsFindNodes
puts target text setting runs own fits = record {
  each = λ e a b f belongs here is. put_finds target e a b f (methods target text runs) (subst (λ (routine : Routine). RunsAt target e routine) here belongs.reaches) is;
}

pub cradles : ForRuns NewsHaveCradles
cradles target text setting runs own fits = record {
  each = λ op wrapup at is. cradle_number_small target wrapup (code_at target op wrapup) at ((methods target text runs).code op wrapup) is
      (new_fits target setting op wrapup at (methods target text runs) (setting_sane setting own) fits is).1;
  apart = λ op wrapup a b one two other. cradle_numbers_apart target wrapup (code_at target op wrapup) a b ((methods target text runs).code op wrapup) one two other;
}
