-- No claim takes a slot that a validated guard names.
use Rattle.std.proofs.Common.{ℕ, ◌≡◌, ◌<◌, ◌∙◌, List, length, Some, arith, ap, subst, refl}
use Rattle.norm_lang.specs.declared.text.Text.{Text}
use Rattle.target_code.specs.declared.target.Target.{Target}
use Rattle.target_code.specs.Barred.{IsBarred}
use Rattle.barrier_check.specs.Paired.{Paired, IsSound}
use Rattle.oa_words.specs.Words.{Word, Hazard, Status, Link}
use Rattle.oa_words.specs.declared.packed.Kind.TheVariants as kinds
use Rattle.oa_words.specs.Packed.{status_word}
use Rattle.chain_laws.specs.Chains.{times}
use Rattle.chain_laws.specs.Machine.{Standing}
use Rattle.chain_laws.specs.Laws.{StandsAt}
use Rattle.core_runs.proofs.core_pools.Pooling.{leads_hold, leads_tell, start_pooled}
use Rattle.core_runs.specs.core_sound.Standing.{standing_of}
use Rattle.core_runs.proofs.caller_laws.Methods.{news_fit, setting_sane}
use Rattle.core_runs.proofs.caller_laws.Together.{methods}
use Rattle.caller_parts.specs.Settings.{Setting, Fits, IsSetting}
use Rattle.core_runs.specs.Machine.{CoreState, CoreEvent, core_run, core_start}
use Rattle.core_runs.specs.RunSigns.{run_signs}
use Rattle.core_runs.specs.Views.{view}
use Rattle.core_runs.proofs.Seeing.{events_are_seen}
use Rattle.core_runs.proofs.Starting.{start_is_seen}
use Rattle.core_runs.proofs.core_sound.Machine.{event_sound}
use Rattle.core_runs.proofs.core_sound.StartSound.{start_sound}
use Rattle.core_runs.proofs.core_sound.Reached.{sound_is_shaped, start_suits}
use Rattle.source_machine.specs.Proper.{IsProperFor}
use Rattle.target_laws.specs.target_runs.Runnable.{MayBeWalked}
use Rattle.target_laws.proofs.target_runs.SaneTargets.{runnable_is_sane}
use Rattle.oa_simulation.specs.sim_relation.Views.{Plan, IsPlan}
use Rattle.oa_simulation.specs.Shadow.{Shadow, shadow_run, shadow_start}
use Rattle.oa_simulation.specs.Relation.{HomeIs}
use Rattle.oa_simulation.proofs.FirstWords.{first_words}
use Rattle.oa_simulation.proofs.Homes.{home_stays}
use Rattle.oa_simulation.proofs.FirstSlots.{first_null}
use Rattle.oa_simulation.proofs.Refining.{plan_of, start_beside, start_sets_none}
use Rattle.run_laws.specs.guarded_claims.Marks.{IsValidated, Absent, Published, Validated, no_marks, run_marks}
use Rattle.run_laws.specs.guarded_claims.Guarded.{TakesSlot, GuardsAreSpared}
use Rattle.run_laws.proofs.guarded_claims.Covered.{covered_spares}
use Rattle.run_laws.proofs.guarded_claims.Runs.{MarkedWithPool, run_marked}
use Rattle.caller_parts.specs.declared.setting.Reclamation.TheVariants.{Optimistic}

-- every state that a run comes to, with the run's marks
marked : (target : Target) (text : Text) (setting : Setting) → MayBeWalked target text → IsBarred target text → IsSetting setting → Fits target setting → setting.reclamation ≡ Optimistic → IsProperFor setting.sizes.callers text → (events : List CoreEvent) (state : CoreState) → core_run target setting events (core_start target setting) ≡ Some state
    → MarkedWithPool (plan_of target text setting events) state (shadow_run text (run_signs target setting events (core_start target setting)) (shadow_start text setting)) (run_marks target setting events (core_start target setting) no_marks)
marked target text setting runs barred own fits optimistic proper events state is =
    let t : Plan = plan_of target text setting events in
    let z0 : Shadow = shadow_start text setting in
    let homes : HomeIs t.home z0 = λ n lt. home_stays text (run_signs target setting events (core_start target setting)) z0 n lt in
    let plan : IsPlan t = record {
      compiled = record { normal = runs.normal; within = runs.small; barred = barred };
      sane = runnable_is_sane target text runs;
      some = own;
      fits = fits;
      optimistic = optimistic;
      callers = own.sizes.callers;
      null = homes 0 (omega arith) ∙ first_null setting;
    } in
    let first = (start_beside t own (start_is_seen target setting) (start_suits target text setting runs own fits).suits (first_words t runs own fits homes)).0 in
    run_marked t plan proper (events_are_seen target setting) (setting_sane setting own).kinds own.sizes.tops (news_fit target setting (methods target text runs) (setting_sane setting own) fits) (start_suits target text setting runs own fits).suits
    (λ s sound. sound_is_shaped target setting s (methods target text runs) (setting_sane setting own) fits sound)
    (λ s next event sound at. event_sound target setting s next event (methods target text runs) (setting_sane setting own) fits sound at)
    events (core_start target setting) state z0 no_marks (start_sound target setting (methods target text runs) runs.within own fits)
    (record {
      pooled = start_pooled target setting (setting_sane setting own).kinds own.sizes.tops (start_suits target text setting runs own fits).suits;
      marked = record {
        beside = first;
        marked = λ c lt. record {
          own = record {
            was_set = start_sets_none t own (start_is_seen target setting) (start_suits target text setting runs own fits).suits (first_words t runs own fits homes) c;
            published = λ r mark. absurd (let z : Absent ≡ Published = mark in cc);
          };
          covered = λ r mark. absurd (let z : Absent ≡ Validated = mark in cc);
        };
      };
    }) is (λ n lt. refl)

spares : (target : Target) (text : Text) (setting : Setting) → MayBeWalked target text → IsBarred target text → IsSetting setting → Fits target setting → setting.reclamation ≡ Optimistic → GuardsAreSpared target text setting
spares target text setting runs barred own fits optimistic proper events state is =
    let t : Plan = plan_of target text setting events in
    let k = marked target text setting runs barred own fits optimistic proper events state is in
    let b = k.marked.beside in
    let holds = leads_hold target setting (setting_sane setting own).kinds own.sizes.tops (start_suits target text setting runs own fits).suits _ k.pooled.1 in
    let told = leads_tell target setting (setting_sane setting own).kinds own.sizes.tops (start_suits target text setting runs own fits).suits _ k.pooled.1 in
    let known : (d j : ℕ) (takes : TakesSlot setting state d j) → takes.claim.kind < length setting.sizes.kinds = λ d j takes.
    (subst (λ (standing : Standing). StandsAt setting.sizes (view setting state).memory k.pooled.0 d standing) (ap standing_of takes.at) (holds.told d)).0 in
    let taken : (d j : ℕ) (takes : TakesSlot setting state d j) → (times j (k.pooled.0.chain takes.claim.kind) ≡ 1) × ((view setting state).memory (Link j) ≡ takes.next) = λ d j takes.
    told.takes d takes.claim takes.phase j takes.next (ap standing_of takes.at) takes.stage takes.found in
    let not_ready : (c r q : ℕ) → c < setting.sizes.callers → IsValidated target setting events c r → (view setting state).memory (Status ((view setting state).memory (Hazard c r))) ≡ status_word q kinds.Ready → ⊥ = λ c r q lt valid ready.
    covered_spares t b.w c r q b.holds.shared_holds ((k.marked.marked c lt).covered r valid) (ap (λ (m : Word → ℕ). m (Status (m (Hazard c r)))) b.memory ∙ ready) in
    record {
      not_ready = not_ready;
      chain = λ i lt. record {
        chain = k.pooled.0.chain i;
        linked = holds.fine.linked i lt;
        once = told.once i;
        ready = λ j is. (let slot = told.chained i j is in (slot.0, slot.1, (slot.2.0, slot.2.1)));
      };
      from_chain = λ d j takes. (known d j takes, taken d j takes);
      not_taken = λ c r d j lt valid takes named.
          (let slot = told.chained takes.claim.kind j (taken d j takes).0 in
          not_ready c r slot.2.0 lt valid (ap (λ (j : ℕ). (view setting state).memory (Status j)) named ∙ slot.2.1));
    }

pub no_guarded_claim : (pair : Paired) (setting : Setting) → IsSound pair → IsSetting setting → Fits pair.target setting → setting.reclamation ≡ Optimistic → GuardsAreSpared pair.target pair.source setting
no_guarded_claim pair setting sound own fits optimistic = spares pair.target pair.source setting (record { small = sound.small; normal = sound.normal; within = sound.within; erases = sound.barred.erases }) sound.barred own fits optimistic
