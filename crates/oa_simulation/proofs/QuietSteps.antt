-- The start is in the relation, each quiet step keeps it, method runs begin unwarned, and no sweep frees what a validated guard names.
use Rattle.std.proofs.Common.{ℕ, ◌≡◌, ◌∙◌, List, Some, sym, ap, subst, refl}
use Rattle.norm_lang.specs.declared.text.Text.{Text}
use Rattle.target_code.specs.declared.target.Target.{Target}
use Rattle.target_code.specs.Barred.{IsBarred}
use Rattle.oa_words.specs.declared.packed.Kind.TheVariants as kinds
use Rattle.oa_words.specs.Words.{Word, Warning, Hazard, Status}
use Rattle.oa_words.specs.Packed.{status_word}
use Rattle.phase_pools.specs.declared.stages.SweepStage.{SweepStage}
use Rattle.phase_pools.specs.declared.stages.SweepStage.TheVariants as sweeps
use Rattle.phase_pools.specs.declared.stages.ClaimStage.{ClaimStage}
use Rattle.phase_pools.specs.declared.stages.ClaimStage.TheVariants as claims
use Rattle.phase_pools.specs.Accesses.{WordAccess, Loads, word_of}
use Rattle.source_machine.specs.Proper.{IsProperFor}
use Rattle.source_machine.proofs.Places.{put_same}
use Rattle.caller_parts.specs.declared.routine.Routine.{Routine}
use Rattle.caller_parts.specs.declared.routine.Routine.TheVariants.{Claims}
use Rattle.caller_parts.specs.Settings.{Setting, Fits, IsSetting}
use Rattle.caller_steps.specs.Entries.{Entry}
use Rattle.caller_steps.specs.After.{after as after_step}
use Rattle.caller_steps.specs.After.{moved as after_moves}
use Rattle.core_runs.specs.Machine.{Steps}
use Rattle.core_runs.specs.RunSigns.{Signed, signed, event_signs}
use Rattle.core_runs.specs.Views.{CoreView, view, Moves}
use Rattle.core_runs.proofs.Seeing.{events_are_seen}
use Rattle.core_runs.proofs.Starting.{start_is_seen}
use Rattle.core_runs.proofs.core_sound.Reached.{states_are_sound, states_are_shaped, start_suits}
use Rattle.target_laws.specs.target_runs.Runnable.{MayBeWalked}
use Rattle.target_laws.proofs.target_runs.SaneTargets.{runnable_is_sane}
use Rattle.oa_simulation.specs.sim_relation.Views.{Plan, IsPlan, Shared}
use Rattle.oa_simulation.specs.sim_relation.Callers.{CallerHolds, HoldsAt, SweepAt, ClaimAt}
use Rattle.chain_laws.specs.Memories.{after_access}
use Rattle.oa_simulation.proofs.sim_relation.Words.{store_idle}
use Rattle.oa_simulation.proofs.sim_steps.Pools.Sweeping.{may_free}
use Rattle.oa_simulation.specs.sim_steps.Quiet.{is_quiet}
use Rattle.oa_simulation.proofs.sim_steps.Drawing.{quiet_draws_none}
use Rattle.oa_simulation.proofs.sim_steps.Dispatching.{quiet_steps}
use Rattle.oa_simulation.proofs.sim_steps.Seen.{after_seen, renewing_loads}
use Rattle.oa_simulation.specs.Shadow.{shadow_run}
use Rattle.oa_simulation.specs.FirstNames.{first_home}
use Rattle.oa_simulation.specs.Beside.{Beside}
use Rattle.oa_simulation.specs.Relation.{HomeIs, StartIsRelated, QuietStepsKeep, RunsBeginUnwarned, SweepsSpareGuards, QuietIsKept}
use Rattle.oa_simulation.proofs.Homes.{undrawn}
use Rattle.oa_simulation.proofs.Induction.{step_beside, belongs_seen}
use Rattle.oa_simulation.proofs.sim_relation.Schemes.{NeverAnnounces, signs_are, never_belongs}
use Rattle.oa_simulation.proofs.FirstWords.{first_words}
use Rattle.oa_simulation.proofs.FirstSlots.{first_null}
use Rattle.oa_simulation.proofs.Refining.{start_beside, stands}
use Rattle.oa_simulation.proofs.Pools.{takes_ready}
use Rattle.core_runs.proofs.caller_laws.Methods.{setting_sane}
use Rattle.caller_parts.specs.declared.setting.Reclamation.TheVariants.{Optimistic}

-- slots of the names make a plan
abbrev pub planned : Target → Text → Setting → (ℕ → ℕ) → Plan
planned target text setting home = record { target = target; text = text; setting = setting; home = home }

pub is_plan : (target : Target) (text : Text) (setting : Setting) (home : ℕ → ℕ) → MayBeWalked target text → IsBarred target text → IsSetting setting → Fits target setting → setting.reclamation ≡ Optimistic → home 0 ≡ 0 → IsPlan (planned target text setting home)
is_plan target text setting home runs barred own fits optimistic null = record {
  compiled = record { normal = runs.normal; within = runs.small; barred = barred };
  sane = runnable_is_sane target text runs;
  some = own;
  fits = fits;
  optimistic = optimistic;
  callers = own.sizes.callers;
  null = null;
}

pub start_related : (target : Target) (text : Text) (setting : Setting) → MayBeWalked target text → IsSetting setting → Fits target setting → StartIsRelated target text setting
start_related target text setting runs own fits =
    let home : ℕ → ℕ = first_home setting in
    let null : home 0 ≡ 0 = first_null setting in
    let t : Plan = planned target text setting home in
    record {
      home = home;
      null = null;
      homes = λ n lt. refl;
      beside = (start_beside t own (start_is_seen target setting) (start_suits target text setting runs own fits).suits
          (first_words t runs own fits (λ n lt. refl))).0;
    }

pub quiet_kept : (target : Target) (text : Text) (setting : Setting) → MayBeWalked target text → IsBarred target text → IsSetting setting → Fits target setting → setting.reclamation ≡ Optimistic → IsProperFor setting.sizes.callers text → QuietStepsKeep target text setting
quiet_kept target text setting runs barred own fits optimistic proper state later z c reached related quiet is =
    let home : ℕ → ℕ = related.home in
    let t : Plan = planned target text setting home in
    let sound = states_are_sound target text setting state runs own fits reached in
    let shaped = states_are_shaped target text setting state runs own fits reached in
    let seen = events_are_seen target setting in
    let m : Moves target setting (view setting state) (Steps c) (view setting later) = seen.moves state later (Steps c) shaped is in
    let word : ℕ = (view setting state).memory (word_of m.0) in
    let same : event_signs target setting state (Steps c) ≡ signed c (after_moves Optimistic target setting ((view setting state).who c) word).signs =
    seen.signs state c m.0 shaped m.1 m.2 ∙ ap (signed c) (signs_are target setting ((view setting state).who c) word optimistic) in
    let never : NeverAnnounces ((view setting state).who c).routine = never_belongs target setting ((view setting state).who c) optimistic (belongs_seen target setting state c sound m.1) in
    let homes : HomeIs home (shadow_run text (event_signs target setting state (Steps c)) z) =
    subst (λ (xs : List Signed). HomeIs home (shadow_run text xs z)) (sym same)
    (undrawn text home c (after_moves Optimistic target setting ((view setting state).who c) word).signs z (quiet_draws_none target setting ((view setting state).who c) word never quiet) related.homes) in
    record {
      home = home;
      null = related.null;
      homes = homes;
      beside = (step_beside t runs.normal runs.small related.null optimistic (is_quiet target setting) (quiet_steps t (is_plan target text setting home runs barred own fits optimistic related.null)) proper seen
          state later z c quiet sound shaped related.beside
          (takes_ready target setting state c (setting_sane setting own).kinds own.sizes.tops (start_suits target text setting runs own fits).suits (stands target text setting reached.events state runs barred own fits optimistic proper reached.runs).pooled) m homes).0;
    }

pub runs_begin_unwarned : (target : Target) (text : Text) (setting : Setting) → MayBeWalked target text → IsSetting setting → Fits target setting → setting.reclamation ≡ Optimistic → RunsBeginUnwarned target text setting
runs_begin_unwarned target text setting runs own fits optimistic state later z c reached related renew is =
    let shaped = states_are_shaped target text setting state runs own fits reached in
    let v : CoreView = view setting state in
    let e : Entry = v.who c in
    let m : Moves target setting v (Steps c) (view setting later) = (events_are_seen target setting).moves state later (Steps c) shaped is in
    let b = related.beside in
    let number : e.number ≡ c = ap (λ (e : Entry). e.number) (sym (b.entry c m.1)) ∙ (b.holds.caller_holds c m.1).base.number in
    let access : m.0 ≡ Loads (Warning c) =
    (let z : Some m.0 ≡ Some (Loads (Warning e.number)) = sym m.2 ∙ renewing_loads target (v.memory (Warning c)) e renew in
    let same : m.0 ≡ Loads (Warning e.number) = cc in same ∙ ap (λ (n : ℕ). Loads (Warning n)) number) in
    let entry : (view setting later).who c ≡ after_step target setting e (v.memory (word_of m.0)) = ap (λ (who : ℕ → Entry). who c) m.5 ∙ put_same v.who c (after_step target setting e (v.memory (word_of m.0))) in
    let word : v.memory (word_of m.0) ≡ v.memory (Warning c) = ap (λ (a : WordAccess). v.memory (word_of a)) access in
    let stays : (view setting later).memory (Warning c) ≡ v.memory (Warning c) = ap (λ (k : Word → ℕ). k (Warning c)) (m.4 ∙ (ap (λ (a : WordAccess). after_access v.memory a) access ∙ sym (store_idle v.memory (Warning c)))) in
    ap (λ (e : Entry). e.hand.seen) (entry ∙ ap (after_step target setting e) word) ∙ (after_seen target setting (v.memory (Warning c)) e optimistic renew ∙ sym stays)

pub sweeps_spare : (target : Target) (text : Text) (setting : Setting) → SweepsSpareGuards target text setting
sweeps_spare target text setting state z related c j below frees d r some named =
    let t : Plan = planned target text setting related.home in
    let b : Beside t state z = related.beside in
    let s : Shared = b.w.shared in
    let told : CallerHolds t s c (b.w.who c) = b.holds.caller_holds c below in
    let routine : (b.w.who c).entry.routine ≡ Claims frees.claim = ap (λ (e : Entry). e.routine) (b.entry c below) ∙ frees.at in
    let spot : HoldsAt t s c (b.w.who c) (Claims frees.claim) = subst (λ (r : Routine). HoldsAt t s c (b.w.who c) r) routine told.spot in
    let claim : ClaimAt t s frees.claim.sweep claims.Sweeps = subst (λ (stage : ClaimStage). ClaimAt t s frees.claim.sweep stage) frees.in_sweep spot.0 in
    let sweep : SweepAt t s frees.claim.sweep.bound frees.claim.sweep.gathered (sweeps.MakeReady j frees.phase) =
    subst (λ (stage : SweepStage). SweepAt t s frees.claim.sweep.bound frees.claim.sweep.gathered stage) frees.stage claim in
    let expected : s.memory (Status j) ≡ status_word frees.phase kinds.Retired = ap (λ (k : Word → ℕ). k (Status j)) b.memory ∙ frees.expected in
    (may_free t s frees.claim.sweep.bound j frees.phase frees.claim.sweep.gathered b.holds.shared_holds sweep expected).spared d r some
    (sym (b.holds.shared_holds.guard d r some).word ∙ (ap (λ (k : Word → ℕ). k (Hazard d r)) b.memory ∙ named))

pub keeps_quiet : (target : Target) (text : Text) (setting : Setting) → MayBeWalked target text → IsBarred target text → IsSetting setting → Fits target setting → setting.reclamation ≡ Optimistic → QuietIsKept target text setting
keeps_quiet target text setting runs barred own fits optimistic proper = record {
  start = start_related target text setting runs own fits;
  steps = quiet_kept target text setting runs barred own fits optimistic proper;
  guards = sweeps_spare target text setting;
  unwarned = runs_begin_unwarned target text setting runs own fits optimistic;
}
