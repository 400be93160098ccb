-- No value that a stale load reads passes its check.
use Rattle.std.proofs.Common.{ℕ, ◌≡◌, ◌≢◌, ◌<◌, ◌∙◌, List, Option, Some, sym, ap, subst, arith}
use Rattle.std.specs.Prelude.{slice_get}
use Rattle.norm_lang.specs.declared.text.Reg.{Reg}
use Rattle.norm_lang.specs.declared.text.Text.{Text}
use Rattle.target_code.specs.declared.target.Target.{Target}
use Rattle.oa_words.specs.Words.{Word, Warning}
use Rattle.barrier_check.specs.Paired.{Paired, IsSound as IsPairSound}
use Rattle.source_machine.specs.declared.state.SourceCaller.{SourceCaller}
use Rattle.source_machine.specs.declared.state.SourceMachine.{SourceMachine}
use Rattle.source_machine.specs.Proper.{IsProperFor}
use Rattle.caller_parts.specs.Settings.{Setting, Fits, IsSetting}
use Rattle.caller_steps.specs.Entries.{Entry}
use Rattle.caller_parts.specs.Operands.{slot_in}
use Rattle.core_runs.proofs.caller_laws.Together.{methods}
use Rattle.core_runs.proofs.caller_laws.Methods.{setting_sane}
use Rattle.core_runs.specs.Machine.{CoreState, CoreEvent}
use Rattle.core_runs.specs.Views.{view}
use Rattle.core_runs.proofs.Seeing.{events_are_seen}
use Rattle.core_runs.proofs.core_sound.Machine.{event_sound}
use Rattle.core_runs.proofs.core_sound.Reached.{sound_is_shaped}
use Rattle.target_laws.specs.target_runs.Runnable.{MayBeWalked}
use Rattle.oa_simulation.specs.sim_relation.Views.{Plan, Shared, Resident}
use Rattle.oa_simulation.specs.sim_relation.Points.{point}
use Rattle.oa_simulation.specs.Shadow.{shadow, home_of}
use Rattle.oa_simulation.proofs.Lifting.{machine_is, stays_proper}
use Rattle.oa_simulation.proofs.Refining.{Stood, plan_of, stands}
use Rattle.run_laws.specs.stale_laws.Stale.{register_name, caller_name, LoadsFrom, IsStaleLoad, StaleLoadsAreWarned, NoStalePass}
use Rattle.run_laws.proofs.stale_laws.Loading.{Based, based}
use Rattle.run_laws.proofs.stale_laws.Warnings.{Stays, stays_on, warned_fails}
use Rattle.caller_parts.specs.declared.setting.Reclamation.TheVariants.{Optimistic}

module _ (target : Target) (text : Text) (setting : Setting) (runs : MayBeWalked target text) (own : IsSetting setting) (fits : Fits target setting) (proper : IsProperFor setting.sizes.callers text) (events : List CoreEvent) (state : CoreState) (k : Stood target text setting events state) where
  abbrev t : Plan
  t = plan_of target text setting events

  abbrev world : Shared
  world = k.beside.w.shared

  -- the caller in the relation has the entry that is seen
  entry_is : (c : ℕ) → c < setting.sizes.callers → (k.beside.w.who c).entry ≡ (view setting state).who c
  entry_is c lt = k.beside.entry c lt

  -- and the source's caller is the shadow's
  name_is : (c : ℕ) (base : Reg) → c < setting.sizes.callers → caller_name (Some (k.beside.w.who c).source) base ≡ register_name target text setting events c base
  name_is c base lt =
      ap (λ (o : Option SourceCaller). caller_name o base) (sym (k.beside.caller c lt))
      ∙ ap (λ (machine : SourceMachine). caller_name (slice_get machine.callers c) base) (machine_is text setting.sizes.callers (shadow target text setting events) k.beside.v k.beside.sourced)

  base_of : (c : ℕ) (base : Reg) → c < setting.sizes.callers → LoadsFrom target ((view setting state).who c) base → Based t world c (k.beside.w.who c) base
  base_of c base lt loads =
      based t world c (k.beside.w.who c) base k.plan k.beside.holds.shared_holds (k.beside.holds.caller_holds c lt) lt
      (stays_proper text setting.sizes.callers c (shadow target text setting events) k.beside.v (point world (k.beside.w.who c)) k.plan.compiled.normal k.plan.compiled.within proper k.beside.sourced
      (record { caller = k.beside.caller c lt; memory = k.beside.source; run = k.beside.run c lt; unused = k.beside.unused }))
      (subst (λ (e : Entry). LoadsFrom target e base) (sym (entry_is c lt)) loads)

  named_here : (c : ℕ) (base : Reg) → c < setting.sizes.callers → LoadsFrom target ((view setting state).who c) base
      → slot_in ((view setting state).who c).hand.registers base ≡ home_of target text setting events (register_name target text setting events c base)
  named_here c base lt loads =
      ap (λ (e : Entry). slot_in e.hand.registers base) (sym (entry_is c lt))
      ∙ ((base_of c base lt loads).slot ∙ ap (home_of target text setting events) (name_is c base lt))

  -- a caller before a stale load was warned
  warned_here : (c : ℕ) (base : Reg) → c < setting.sizes.callers → IsStaleLoad target text setting events c ((view setting state).who c) base → Stays target setting state c
  warned_here c base lt stale = record { sound = k.sound; below = below } where
    seen : (k.beside.w.who c).entry.hand.seen ≡ ((view setting state).who c).hand.seen
    seen = ap (λ (e : Entry). e.hand.seen) (entry_is c lt)

    word : world.memory (Warning c) ≡ (view setting state).memory (Warning c)
    word = ap (λ (memory : Word → ℕ). memory (Warning c)) k.beside.memory

    uncalm : (k.beside.w.who c).entry.hand.seen ≢ world.memory (Warning c)
    uncalm calm =
        let here : world.present (home_of target text setting events (register_name target text setting events c base)) ≡ register_name target text setting events c base =
        subst (λ (n : ℕ). Resident t world n) (name_is c base lt) ((base_of c base lt stale.loads).resident calm) in
        stale.away (ap (λ (present : ℕ → ℕ). present (home_of target text setting events (register_name target text setting events c base))) (sym k.present) ∙ here)

    below : ((view setting state).who c).hand.seen < (view setting state).memory (Warning c)
    below = let le = (k.beside.holds.caller_holds c lt).base.seen in omega (arith, le, uncalm, seen, word)

  stale_loads : StaleLoadsAreWarned target text setting events state
  stale_loads = record {
    named = named_here;
    warned = λ c base more later lt stale leads none. warned_fails target setting later c k.plan.optimistic lt
        (stays_on target setting k.plan.optimistic (events_are_seen target setting)
        (λ s sound. sound_is_shaped target setting s (methods target text runs) (setting_sane setting own) fits sound)
        (λ s next event sound at. event_sound target setting s next event (methods target text runs) (setting_sane setting own) fits sound at)
        c more state later (warned_here c base lt stale) leads none);
  }

pub no_stale_pass : (pair : Paired) (setting : Setting) → IsPairSound pair → IsSetting setting → Fits pair.target setting → setting.reclamation ≡ Optimistic → NoStalePass pair.target pair.source setting
no_stale_pass pair setting sound own fits optimistic proper events state is =
    let runs : MayBeWalked pair.target pair.source = record { small = sound.small; normal = sound.normal; within = sound.within; erases = sound.barred.erases } in
    stale_loads pair.target pair.source setting runs own fits proper events state (stands pair.target pair.source setting events state runs sound.barred own fits optimistic proper is)
