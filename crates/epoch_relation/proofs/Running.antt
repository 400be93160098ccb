-- Every run of a text as it is, under epochs, is simulated by a run of the source, and no load goes to what was recycled.
use Rattle.std.proofs.Common.{ℕ, ◌≡◌, ◌∙◌, List, Some, sym, ap, refl, arith}
use Rattle.norm_lang.specs.declared.text.Text.{Text}
use Rattle.norm_lang.specs.Limits.{IsWithinLimits}
use Rattle.norm_lang.specs.NormalForm.{IsNormal}
use Rattle.target_laws.specs.target_runs.Runnable.{MayBeWalked}
use Rattle.target_laws.proofs.target_runs.SaneTargets.{runnable_is_sane}
use Rattle.target_code.specs.Bare.{bare}
use Rattle.bare_targets.proofs.Runnable.{bare_texts_are_runnable}
use Rattle.source_machine.specs.Proper.{IsProperFor}
use Rattle.caller_parts.specs.declared.setting.Reclamation.TheVariants.{Epochs}
use Rattle.caller_parts.specs.Settings.{Setting, Fits, IsSetting}
use Rattle.core_runs.specs.Machine.{CoreState, CoreEvent, core_run, core_start}
use Rattle.core_runs.specs.RunSigns.{run_signs}
use Rattle.core_runs.specs.core_pools.Pooled.{Pooled}
use Rattle.core_runs.specs.core_sound.Sound.{IsSound}
use Rattle.core_runs.proofs.Seeing.{events_are_seen}
use Rattle.core_runs.proofs.caller_laws.Methods.{setting_sane, news_fit}
use Rattle.core_runs.proofs.caller_laws.Together.{methods}
use Rattle.core_runs.proofs.core_pools.Pooling.{start_pooled}
use Rattle.core_runs.proofs.core_sound.Machine.{event_sound}
use Rattle.core_runs.proofs.core_sound.Reached.{states_are_sound, sound_is_shaped, start_suits}
use Rattle.core_runs.proofs.core_sound.StartSound.{start_sound}
use Rattle.oa_simulation.specs.Present.{first_present, present_in}
use Rattle.oa_simulation.specs.Relation.{HomeIs}
use Rattle.oa_simulation.specs.Shadow.{Shadow, shadow, shadow_start, home_of}
use Rattle.oa_simulation.specs.Statements.{Agrees}
use Rattle.oa_simulation.specs.sim_relation.Views.{Plan}
use Rattle.oa_simulation.proofs.FirstSlots.{first_null}
use Rattle.oa_simulation.proofs.Homes.{home_stays}
use Rattle.oa_simulation.proofs.Refining.{replies_agree}
use Rattle.epoch_relation.specs.Beside.{Beside}
use Rattle.epoch_relation.specs.Simulated.{EpochSimulates, RunsAreSimulated, source_name}
use Rattle.epoch_relation.specs.Walking.{IsPlan}
use Rattle.epoch_relation.proofs.Answering.{idle_agrees, running_agrees}
use Rattle.epoch_relation.proofs.Beginning.{worlds_begin, begins_present}
use Rattle.epoch_relation.proofs.Inducing.{run_beside}
use Rattle.epoch_relation.proofs.Testing.{exchanges_agree, bases_resident}
use Rattle.oa_simulation.proofs.Induction.{is_caller, entry_seen}
use Rattle.epoch_relation.specs.Callers.{Caller}

abbrev pub plan_of : Text → Setting → List CoreEvent → Plan
plan_of text setting events = record { target = bare text; text = text; setting = setting; home = home_of (bare text) text setting events }

-- every reachable state stands beside its shadow
pub record Stood (text : Text) (setting : Setting) (events : List CoreEvent) (state : CoreState) : Type 0 where
  pub plan : IsPlan (plan_of text setting events)
  pub sound : IsSound (bare text) setting state
  -- events of the pool lead there
  pub pooled : Pooled (bare text) setting state
  pub beside : Beside (plan_of text setting events) state (shadow (bare text) text setting events)
  -- the relation's names are the run's
  pub present : beside.w.shared.present ≡ present_in (bare text) text setting events

module _ (text : Text) (setting : Setting) (events : List CoreEvent) (state : CoreState) (within : IsWithinLimits text) (normal : IsNormal text) (own : IsSetting setting) (fits : Fits (bare text) setting) (epochs : setting.reclamation ≡ Epochs) (proper : IsProperFor setting.sizes.callers text)
    (is : core_run (bare text) setting events (core_start (bare text) setting) ≡ Some state) where
  abbrev t : Plan
  t = plan_of text setting events

  runs : MayBeWalked (bare text) text
  runs = bare_texts_are_runnable text within normal

  pub stood : Stood text setting events state
  stood =
      let z0 : Shadow = shadow_start text setting in
      let signs = run_signs (bare text) setting events (core_start (bare text) setting) in
      let homes : HomeIs t.home z0 = λ n lt. home_stays text signs z0 n lt in
      let suits = (start_suits (bare text) text setting runs own fits).suits in
      let plan : IsPlan t = record {
        target_is = refl;
        normal = normal;
        within = within;
        erases = runs.erases;
        sane = runnable_is_sane (bare text) text runs;
        some = own;
        fits = fits;
        callers = own.sizes.callers;
        null = homes 0 (omega arith) ∙ first_null setting;
        epochs = epochs;
      } in
      let sound0 = start_sound (bare text) setting (methods (bare text) text runs) runs.within own fits in
      let b = run_beside t plan proper (events_are_seen (bare text) setting) (setting_sane setting own).kinds own.sizes.tops (news_fit (bare text) setting (methods (bare text) text runs) (setting_sane setting own) fits) suits
      (λ s sound. sound_is_shaped (bare text) setting s (methods (bare text) text runs) (setting_sane setting own) fits sound)
      (λ s next event sound at. event_sound (bare text) setting s next event (methods (bare text) text runs) (setting_sane setting own) fits sound at)
      events (core_start (bare text) setting) state z0 (first_present setting) sound0
      (record { named = (worlds_begin t plan homes, begins_present t plan homes); pooled = start_pooled (bare text) setting (setting_sane setting own).kinds own.sizes.tops suits }) is (λ n lt. refl) in
      record {
        plan = plan;
        sound = states_are_sound (bare text) text setting state runs own fits (record { events = events; runs = is });
        pooled = b.pooled;
        beside = b.named.0;
        present = b.named.1;
      }

  agrees : (z : Shadow) → IsSound (bare text) setting state → Beside t state z → Agrees state z.machine
  agrees z s b c e at =
      let lt = is_caller state setting.sizes.callers c e s.callers at in
      let x : Caller = b.w.who c in
      replies_agree text setting.sizes.callers c z b.v x.entry e x.source b.sourced (b.caller c lt) (b.entry c lt ∙ entry_seen setting state c e at) (idle_agrees t b.w.shared b.w.since c x (b.holds.caller_holds c lt)) (running_agrees t b.w.shared b.w.since c x (b.holds.caller_holds c lt))

  simulates : EpochSimulates (bare text) text setting events state
  simulates =
      let k = stood in
      let shaped = sound_is_shaped (bare text) setting state (methods (bare text) text runs) (setting_sane setting own) fits k.sound in
      record {
        refined = record {
          run = k.beside.sourced.run;
          agrees = agrees (shadow (bare text) text setting events) k.sound k.beside;
          exchanges = exchanges_agree t state (shadow (bare text) text setting events) k.plan proper shaped k.beside;
        };
        bases = λ c e d a g at runs is.
            (let there = bases_resident t state (shadow (bare text) text setting events) k.plan proper shaped k.beside c e d a g at runs is in
            (there.0, sym (ap (λ (present : ℕ → ℕ). present (t.home (source_name text (shadow (bare text) text setting events).machine c a))) k.present) ∙ there.1));
      }

pub runs_are_simulated : RunsAreSimulated
runs_are_simulated text setting events state within normal own fits epochs proper is = simulates text setting events state within normal own fits epochs proper is
