-- The start beside its shadow.
use Rattle.std.proofs.Common.{ℕ, ◌≡◌, ◌∙◌, Bool, true, false, sym, ap, subst, refl, arith, if◌then◌else◌}
use Rattle.std.specs.Prelude.{slice_index}
use Rattle.target_code.specs.declared.target.Target.{Target}
use Rattle.target_laws.specs.target_runs.Runnable.{MayBeWalked}
use Rattle.bare_targets.proofs.Runnable.{bare_texts_are_runnable}
use Rattle.oa_words.specs.Words.{Phase, Warning, address_of, in_row}
use Rattle.oa_words.specs.Starts.{Suits}
use Rattle.source_machine.specs.MethodRuns.{watched_start}
use Rattle.caller_parts.specs.declared.setting.Reclamation.{Reclamation}
use Rattle.caller_parts.specs.declared.setting.Reclamation.TheVariants.{Epochs}
use Rattle.caller_parts.specs.Settings.{Setting, first_warning}
use Rattle.caller_steps.specs.Entries.{Entry, is_idle}
use Rattle.core_runs.specs.Machine.{beginning_of, core_start}
use Rattle.core_runs.specs.Views.{StartIsSeen, view}
use Rattle.core_runs.proofs.Starting.{start_is_seen}
use Rattle.core_runs.proofs.core_sound.Reached.{start_suits}
use Rattle.oa_simulation.specs.Present.{first_present}
use Rattle.oa_simulation.specs.sim_relation.Views.{Plan}
use Rattle.oa_simulation.proofs.FirstCallers.{all_idle}
use Rattle.oa_simulation.proofs.FirstWords.{first_words}
use Rattle.oa_simulation.proofs.Starting.{IsFirst, first_shared}
use Rattle.epoch_relation.specs.Laws.{HomesAreFirst, WorldsBegin}
use Rattle.epoch_relation.specs.Walking.{IsPlan}
use Rattle.epoch_relation.proofs.First.{first_caller, first_world}

-- nobody has announced a phase
no_warning : (target : Target) (setting : Setting) → setting.reclamation ≡ Epochs → StartIsSeen target setting → Suits setting.sizes (beginning_of target setting) → (d : ℕ) → (view setting (core_start target setting)).memory (Warning d) ≡ 0
no_warning target setting epochs s suits d = of (in_row setting.sizes (Warning d)) refl where
  of : (b : Bool) → in_row setting.sizes (Warning d) ≡ b → (view setting (core_start target setting)).memory (Warning d) ≡ 0
  of true row = s.memory suits (Warning d) row ∙ ap (λ (by : Reclamation). first_warning by setting.first) epochs
  of false row = ap (λ (b : Bool). if b then slice_index (core_start target setting).words (address_of setting.sizes (Warning d)) else 0) row

-- a plan's target may be run
pub plan_runs : (t : Plan) → IsPlan t → MayBeWalked t.target t.text
plan_runs t plan = subst (λ (target : Target). MayBeWalked target t.text) (sym plan.target_is) (bare_texts_are_runnable t.text plan.within plan.normal)

pub worlds_begin : WorldsBegin
worlds_begin t plan homes =
    let runs : MayBeWalked t.target t.text = plan_runs t plan in
    let start = start_is_seen t.target t.setting in
    let suits = (start_suits t.target t.text t.setting runs plan.some plan.fits).suits in
    let first : IsFirst t (view t.setting (core_start t.target t.setting)).memory = first_words t runs plan.some plan.fits homes in
    let phase : (view t.setting (core_start t.target t.setting)).memory Phase ≡ t.setting.first = start.memory suits Phase refl in
    let begun = plan.some.first in
    record {
      w = record { shared = first_shared t (view t.setting (core_start t.target t.setting)).memory; since = λ d. (view t.setting (core_start t.target t.setting)).memory Phase; who = first_caller };
      v = watched_start t.text t.setting.sizes.callers;
      holds = first_world t (view t.setting (core_start t.target t.setting)).memory first (no_warning t.target t.setting plan.epochs start suits) (omega (arith, phase, begun));
      memory = refl;
      entry = λ d lt. sym (start.who d);
      sourced = record { run = record { some = plan.some.sizes.callers; runs = refl }; watched = refl };
      source = refl;
      caller = λ d lt. all_idle t.setting.sizes.callers d lt;
      run = λ d lt. refl;
      unused = refl;
      called = λ d lt busy. absurd (let e : is_idle ((view t.setting (core_start t.target t.setting)).who d).routine ≡ true = ap (λ (e : Entry). is_idle e.routine) (start.who d) in
          let z : true ≡ false = sym e ∙ busy in cc);
    }

-- its slots have the names of the initial nodes
pub begins_present : (t : Plan) (plan : IsPlan t) (homes : HomesAreFirst t) → (worlds_begin t plan homes).w.shared.present ≡ first_present t.setting
unfolding worlds_begin
begins_present t plan homes = refl
