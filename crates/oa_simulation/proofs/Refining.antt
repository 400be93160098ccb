-- Every run of the core is simulated by a run of the source.
use Rattle.std.proofs.Common.{ℕ, ◌≡◌, ◌∙◌, Bool, true, false, List, sym, ap, subst, refl, arith, Some}
use Rattle.std.specs.Prelude.{slice_get}
use Rattle.norm_lang.specs.declared.text.Text.{Text}
use Rattle.target_code.specs.declared.target.Target.{Target}
use Rattle.target_code.specs.Barred.{IsBarred}
use Rattle.oa_words.specs.Words.{Word, Hazard, Status}
use Rattle.source_machine.specs.declared.state.SourceCaller.{SourceCaller}
use Rattle.source_machine.specs.Run.{caller_replies, source_replies}
use Rattle.source_machine.specs.MethodRuns.{watched_start, Watched}
use Rattle.caller_parts.specs.Settings.{Setting, IsSetting, Fits}
use Rattle.caller_steps.specs.Entries.{Entry, is_idle}
use Rattle.core_runs.specs.Machine.{CoreState, CoreEvent, core_start}
use Rattle.core_runs.specs.core_sound.Sound.{IsSound}
use Rattle.core_runs.specs.Views.{view}
use Rattle.core_runs.proofs.core_sound.Machine.{event_sound}
use Rattle.core_runs.proofs.core_sound.StartSound.{start_sound}
use Rattle.core_runs.proofs.core_sound.Reached.{states_are_sound, sound_is_shaped, start_suits}
use Rattle.core_runs.specs.Views.{StartIsSeen}
use Rattle.core_runs.proofs.Seeing.{events_are_seen}
use Rattle.core_runs.proofs.Starting.{start_is_seen}
use Rattle.core_runs.specs.core_pools.Pooled.{Pooled}
use Rattle.core_runs.proofs.core_pools.Pooling.{start_pooled}
use Rattle.core_runs.proofs.caller_laws.Together.{methods}
use Rattle.target_laws.proofs.target_runs.SaneTargets.{runnable_is_sane}
use Rattle.oa_words.specs.Starts.{Suits}
use Rattle.core_runs.specs.Machine.{beginning_of}
use Rattle.core_runs.proofs.caller_laws.Methods.{setting_sane, news_fit}
use Rattle.oa_simulation.specs.sim_relation.Views.{Plan, IsPlan, Caller}
use Rattle.oa_simulation.specs.sim_relation.Callers.{replies_of}
use Rattle.core_runs.specs.RunSigns.{run_signs}
use Rattle.oa_simulation.specs.Shadow.{Shadow, shadow, shadow_start, home_of}
use Rattle.oa_simulation.specs.Beside.{Beside, Sourced}
use Rattle.oa_simulation.specs.Statements.{AgreesWith, Agrees, ForProper, Refines}
use Rattle.oa_simulation.proofs.sim_steps.Worlds.{no_guarded_ready}
use Rattle.oa_simulation.proofs.Starting.{IsFirst, first_shared, fine_first}
use Rattle.target_laws.specs.target_runs.Runnable.{MayBeWalked}
use Rattle.oa_simulation.proofs.sim_steps.Dispatching.{steps_keep}
use Rattle.oa_simulation.specs.Relation.{HomeIs, RunsAreSimulated}
use Rattle.oa_simulation.proofs.FirstSlots.{first_null}
use Rattle.oa_simulation.proofs.FirstWords.{first_words}
use Rattle.oa_simulation.proofs.Testing.{exchanges_agree}
use Rattle.oa_simulation.proofs.Homes.{home_stays}
use Rattle.oa_simulation.proofs.Induction.{NamedBeside, run_beside, is_caller, entry_seen}
use Rattle.oa_simulation.specs.Present.{first_present, present_in}
use Rattle.oa_simulation.proofs.sim_steps.Agreeing.{HasAbout, idle_agrees, running_agrees}
use Rattle.oa_simulation.proofs.FirstCallers.{all_idle, first_caller, no_hazard, told_first}
use Rattle.oa_simulation.proofs.Lifting.{machine_is, stays_proper}
use Rattle.oa_simulation.proofs.FactsHold.{facts_hold}
use Rattle.oa_simulation.specs.sim_relation.Points.{point}
use Rattle.oa_simulation.specs.sim_relation.WasSet.{none_set}
use Rattle.norm_lang.specs.declared.reply.SourceReply.{SourceReply}
use Rattle.caller_parts.specs.declared.setting.Reclamation.TheVariants.{Optimistic}

-- an idle caller's replies, and a running one's
pub agrees_with : (b : Bool) (own : List SourceReply) (caller : SourceCaller) → (b ≡ true → caller.replies ≡ own) → HasAbout own caller → AgreesWith b own caller.replies
agrees_with true own caller idle runs = idle refl
agrees_with false own caller idle runs = runs

-- the start beside its shadow
pub start_beside : (t : Plan) → IsSetting t.setting → StartIsSeen t.target t.setting → Suits t.setting.sizes (beginning_of t.target t.setting) → IsFirst t (view t.setting (core_start t.target t.setting)).memory
    → NamedBeside t (core_start t.target t.setting) (shadow_start t.text t.setting) (first_present t.setting)
start_beside t own start suits first = (
  record {
    w = record { shared = first_shared t (view t.setting (core_start t.target t.setting)).memory; who = first_caller };
    v = watched_start t.text t.setting.sizes.callers;
    holds = record {
      shared_holds = fine_first t (view t.setting (core_start t.target t.setting)).memory first;
      caller_holds = λ d lt. told_first t (view t.setting (core_start t.target t.setting)).memory d (no_hazard t.target t.setting start suits d);
    };
    memory = refl;
    entry = λ d lt. sym (start.who d);
    sourced = record { run = record { some = own.sizes.callers; runs = refl }; watched = refl };
    source = refl;
    caller = λ d lt. all_idle t.setting.sizes.callers d lt;
    run = λ d lt. refl;
    unused = refl;
    called = λ d lt busy. absurd (let e : is_idle ((view t.setting (core_start t.target t.setting)).who d).routine ≡ true = ap (λ (e : Entry). is_idle e.routine) (start.who d) in
        let z : true ≡ false = sym e ∙ busy in cc);
  },
  refl,
)

-- no run has set a register there
pub start_sets_none : (t : Plan) (own : IsSetting t.setting) (start : StartIsSeen t.target t.setting) (suits : Suits t.setting.sizes (beginning_of t.target t.setting)) (first : IsFirst t (view t.setting (core_start t.target t.setting)).memory)
    → (d : ℕ) → ((start_beside t own start suits first).0.w.who d).was_set ≡ none_set
unfolding start_beside
start_sets_none t own start suits first d = refl

-- one caller's replies, by what is known of its own entry and of the source's caller
pub replies_agree : (text : Text) (callers c : ℕ) (z : Shadow) (v : Watched) (own e : Entry) (x : SourceCaller) → Sourced text callers z v → slice_get v.machine.callers c ≡ Some x → own ≡ e → (is_idle own.routine ≡ true → x.replies ≡ replies_of own) → HasAbout (replies_of own) x
    → AgreesWith (is_idle e.routine) (replies_of e) (source_replies z.machine c)
replies_agree text callers c z v own e x sourced there same idle about =
    let replies : x.replies ≡ caller_replies (slice_get z.machine.callers c) = sym (ap (λ m. caller_replies (slice_get m.callers c)) (sym (machine_is text callers z v sourced)) ∙ ap caller_replies there) in
    subst (λ (i : List SourceReply). AgreesWith (is_idle e.routine) (replies_of e) i) replies
    (subst (λ (i : Entry). AgreesWith (is_idle i.routine) (replies_of i) x.replies) same (agrees_with (is_idle own.routine) (replies_of own) x idle about))

state_agrees : (t : Plan) (state : CoreState) (z : Shadow) → IsSound t.target t.setting state → Beside t state z → Agrees state z.machine
state_agrees t state z s b c e at =
    let lt = is_caller state t.setting.sizes.callers c e s.callers at in
    let x : Caller = b.w.who c in
    replies_agree t.text t.setting.sizes.callers c z b.v x.entry e x.source b.sourced (b.caller c lt) (b.entry c lt ∙ entry_seen t.setting state c e at) (idle_agrees t b.w.shared c x (b.holds.caller_holds c lt)) (running_agrees t b.w.shared c x (b.holds.caller_holds c lt))

-- every reachable state stands beside its shadow
abbrev pub plan_of : Target → Text → Setting → List CoreEvent → Plan
plan_of target text setting events = record { target = target; text = text; setting = setting; home = home_of target text setting events }

pub record Stood (target : Target) (text : Text) (setting : Setting) (events : List CoreEvent) (state : CoreState) : Type 0 where
  pub plan : IsPlan (plan_of target text setting events)
  pub sound : IsSound target setting state
  pub pooled : Pooled target setting state
  pub beside : Beside (plan_of target text setting events) state (shadow target text setting events)
  -- the relation's names are the run's
  pub present : beside.w.shared.present ≡ present_in target text setting events

-- what holds of every core run
pub stands : ForProper Stood
stands target text setting events state runs barred own fits optimistic proper is =
    let t : Plan = record { target = target; text = text; setting = setting; home = home_of target text setting events } in
    let z0 : Shadow = shadow_start text setting in
    let signs = run_signs target setting events (core_start target setting) in
    let homes : HomeIs t.home z0 = λ n lt. home_stays text signs z0 n lt in
    let suits = (start_suits target text setting runs own fits).suits in
    let plan : IsPlan t = record {
      compiled = record { normal = runs.normal; within = runs.small; barred = barred };
      sane = runnable_is_sane target text runs;
      some = own;
      fits = fits;
      optimistic = optimistic;
      callers = own.sizes.callers;
      null = homes 0 (omega arith) ∙ first_null setting;
    } in
    let first = start_beside t own (start_is_seen target setting) suits (first_words t runs own fits homes) in
    let sound0 = start_sound target setting (methods target text runs) runs.within own fits in
    let sound = states_are_sound target text setting state runs own fits (record { events = events; runs = is }) in
    let b = run_beside t runs.normal runs.small plan.null optimistic (λ e. true) (steps_keep t plan) proper (events_are_seen target setting) (setting_sane setting own).kinds own.sizes.tops (news_fit target setting (methods target text runs) (setting_sane setting own) fits) suits (λ e. refl)
    (λ s sound. sound_is_shaped target setting s (methods target text runs) (setting_sane setting own) fits sound)
    (λ s next event sound at. event_sound target setting s next event (methods target text runs) (setting_sane setting own) fits sound at)
    events (core_start target setting) state z0 (first_present setting) sound0 (record { named = first; pooled = start_pooled target setting (setting_sane setting own).kinds own.sizes.tops suits }) is (λ n lt. refl) in
    record { plan = plan; sound = sound; pooled = b.pooled; beside = b.named.0; present = b.named.1 }

pub simulates : (target : Target) (text : Text) (setting : Setting) → MayBeWalked target text → IsBarred target text → IsSetting setting → Fits target setting → setting.reclamation ≡ Optimistic → RunsAreSimulated target text setting
simulates target text setting runs barred own fits optimistic proper events state is =
    let t : Plan = plan_of target text setting events in
    let k = stands target text setting events state runs barred own fits optimistic proper is in
    let shaped = sound_is_shaped target setting state (methods target text runs) (setting_sane setting own) fits k.sound in
    record {
      refined = record {
        run = k.beside.sourced.run;
        agrees = state_agrees t state (shadow target text setting events) k.sound k.beside;
        exchanges = exchanges_agree t state (shadow target text setting events) k.plan proper shaped k.beside;
      };
      related = record { home = t.home; null = k.plan.null; homes = λ n lt. refl; beside = k.beside };
      guarded = λ c r q some ready. no_guarded_ready t k.beside.w.shared k.beside.holds.shared_holds c r q some (ap (λ (m : Word → ℕ). m (Status (m (Hazard c r)))) k.beside.memory ∙ ready);
      facts = facts_hold t k.beside.w k.plan.null k.beside.holds (λ c lt.
          stays_proper text setting.sizes.callers c (shadow target text setting events) k.beside.v (point k.beside.w.shared (k.beside.w.who c)) runs.normal runs.small proper k.beside.sourced
          (record { caller = k.beside.caller c lt; memory = k.beside.source; run = k.beside.run c lt; unused = k.beside.unused }));
    }

pub refines : Refines
refines target text setting events state runs barred own fits optimistic proper is = (simulates target text setting runs barred own fits optimistic proper events state is).refined
