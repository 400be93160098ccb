-- Stale loads, and the method run in which they are made.
use Rattle.std.specs.Prelude.{ℕ, ◌≡◌, ◌≢◌, ◌<◌, ◌==◌, Bool, true, false, ◌&&◌, not, List, Option, Some, None, slice_get}
use Rattle.norm_lang.specs.declared.text.Reg.{Reg}
use Rattle.norm_lang.specs.declared.text.Instr.TheVariants as instr
use Rattle.norm_lang.specs.declared.text.Text.{Text}
use Rattle.norm_lang.specs.Registers.{reference_in}
use Rattle.target_code.specs.declared.target.TargetInstr.TheVariants.{Plain, Check}
use Rattle.target_code.specs.declared.target.Target.{Target}
use Rattle.oa_words.specs.Words.{Warning}
use Rattle.phase_pools.specs.Accesses.{WordAccess, word_of}
use Rattle.source_machine.specs.declared.state.Running.{Running}
use Rattle.source_machine.specs.declared.state.SourceCaller.{SourceCaller}
use Rattle.source_machine.specs.Proper.{IsProperFor}
use Rattle.caller_parts.specs.declared.routine.Routine.TheVariants.{At}
use Rattle.caller_parts.specs.Settings.{Setting}
use Rattle.caller_steps.specs.Entries.{Entry, instr_in}
use Rattle.caller_parts.specs.Operands.{slot_in}
use Rattle.caller_steps.specs.Wants.{wants}
use Rattle.caller_steps.specs.After.{after, counted, check_failed}
use Rattle.core_runs.specs.Machine.{CoreState, CoreEvent, Takes, Steps, core_run, core_start}
use Rattle.core_runs.specs.Views.{CoreView, view}
use Rattle.oa_simulation.specs.sim_steps.Renewing.{renews_at}
use Rattle.oa_simulation.specs.Shadow.{shadow, home_of}
use Rattle.oa_simulation.specs.Present.{IsResident}
use Rattle.oa_simulation.specs.Throughout.{throughout}

-- ---- stale loads

-- the name in a register of the source's caller, 0 for null; a caller that runs nothing has none
abbrev pub running_name : Option Running → Reg → ℕ
running_name None r = 0
running_name (Some running) r = (reference_in running.registers r).node

abbrev pub caller_name : Option SourceCaller → Reg → ℕ
caller_name None r = 0
caller_name (Some caller) r = running_name caller.running r

-- the name that a caller's register holds at the end of a core run is the one that the source's register holds beside it
abbrev pub register_name : Target → Text → Setting → List CoreEvent → ℕ → Reg → ℕ
register_name target text setting events c r = caller_name (slice_get (shadow target text setting events).machine.callers c) r

-- an entry whose next access is a load with this base; loads of roots have none
pub record LoadsFrom (target : Target) (e : Entry) (base : Reg) : Type 0 where
  pub at : e.routine ≡ At
  pub into : Reg
  pub field : ℕ
  pub instr_is : instr_in target e ≡ Some (Plain (instr.LoadField into base field))

-- the base isn't null and isn't resident
pub record IsStaleLoad (target : Target) (text : Text) (setting : Setting) (events : List CoreEvent) (c : ℕ) (e : Entry) (base : Reg) : Type 0 where
  pub loads : LoadsFrom target e base
  pub some : register_name target text setting events c base ≢ 0
  pub away : IsResident target text setting events (register_name target text setting events c base) → ⊥

-- ---- method runs

-- whether an event begins a method run of a caller
abbrev pub begins_run : Target → CoreView → ℕ → CoreEvent → Bool
begins_run target seen c (Takes d call) = false
begins_run target seen c (Steps d) = (d == c) && renews_at target (seen.who c) (seen.who c).routine (seen.memory (Warning (seen.who c).number))

-- no event begins one: the method run of the caller that was under way goes on, or has come to its end
abbrev pub begins_none : Target → Setting → ℕ → List CoreEvent → CoreState → Bool
begins_none target setting c = throughout target setting (λ state event. not (begins_run target (view setting state) c event))

-- ---- the law

-- the caller's warning word differs from its `seen`, and a check that it comes to fails: the method begins again
pub record IsWarned (target : Target) (setting : Setting) (seen : CoreView) (c : ℕ) : Type 0 where
  pub differs : seen.memory (Warning c) ≢ (seen.who c).hand.seen
  pub fails : (a : WordAccess) → (seen.who c).routine ≡ At → instr_in target (seen.who c) ≡ Some Check → wants target (seen.who c) ≡ Some a
      → after target setting (seen.who c) (seen.memory (word_of a)) ≡ (check_failed target setting.sizes (seen.memory (word_of a)) (counted (seen.who c))).entry

pub record StaleLoadsAreWarned (target : Target) (text : Text) (setting : Setting) (events : List CoreEvent) (state : CoreState) : Type 0 where
  -- the base of a load is the slot of its name
  pub named : (c : ℕ) (base : Reg) → c < setting.sizes.callers → LoadsFrom target ((view setting state).who c) base
      → slot_in ((view setting state).who c).hand.registers base ≡ home_of target text setting events (register_name target text setting events c base)
  pub warned : (c : ℕ) (base : Reg) (more : List CoreEvent) (later : CoreState) → c < setting.sizes.callers → IsStaleLoad target text setting events c ((view setting state).who c) base
      → core_run target setting more state ≡ Some later → begins_none target setting c more state ≡ true → IsWarned target setting (view setting later) c

-- of a text that is proper for the setting's callers
abbrev pub NoStalePass : Target → Text → Setting → Type 0
NoStalePass target text setting = IsProperFor setting.sizes.callers text → (events : List CoreEvent) (state : CoreState) → core_run target setting events (core_start target setting) ≡ Some state → StaleLoadsAreWarned target text setting events state
