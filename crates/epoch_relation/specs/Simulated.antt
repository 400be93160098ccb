-- What holds of every run of callers under epochs.
use Rattle.std.specs.Prelude.{ℕ, ◌≡◌, [], List, Option, Some, None, slice_get}
use Rattle.norm_lang.specs.declared.text.Reg.{Reg}
use Rattle.norm_lang.specs.declared.text.Instr.TheVariants as instr
use Rattle.norm_lang.specs.declared.text.Text.{Text}
use Rattle.norm_lang.specs.declared.registers.Registers.{Registers}
use Rattle.norm_lang.specs.Limits.{IsWithinLimits}
use Rattle.norm_lang.specs.NormalForm.{IsNormal}
use Rattle.norm_lang.specs.Registers.{first_registers, reference_in}
use Rattle.target_code.specs.declared.target.TargetInstr.TheVariants.{Plain}
use Rattle.target_code.specs.declared.target.Target.{Target}
use Rattle.target_code.specs.Bare.{bare}
use Rattle.source_machine.specs.declared.state.SourceCaller.{SourceCaller}
use Rattle.source_machine.specs.declared.state.SourceMachine.{SourceMachine}
use Rattle.source_machine.specs.Proper.{IsProperFor}
use Rattle.source_machine.specs.Step.{Performed, performed}
use Rattle.caller_parts.specs.declared.routine.Routine.TheVariants.{At}
use Rattle.caller_parts.specs.declared.setting.Reclamation.TheVariants.{Epochs}
use Rattle.caller_parts.specs.Operands.{slot_in}
use Rattle.caller_parts.specs.Settings.{Setting, Fits, IsSetting}
use Rattle.caller_steps.specs.Entries.{Entry, instr_in}
use Rattle.core_runs.specs.Machine.{CoreState, CoreEvent, core_run, core_start}
use Rattle.oa_simulation.specs.Present.{IsResident}
use Rattle.oa_simulation.specs.Shadow.{shadow, home_of}
use Rattle.oa_simulation.specs.Statements.{Refined}

-- the registers of a caller of the source that runs an operation
abbrev pub performed_registers : Option Performed → Registers
performed_registers None = first_registers []
performed_registers (Some here) = here.running.registers

abbrev pub caller_registers : Text → Option SourceCaller → Registers
caller_registers text None = first_registers []
caller_registers text (Some caller) = performed_registers (performed text caller)

-- the name that a register of a caller of the source has
abbrev pub source_name : Text → SourceMachine → ℕ → Reg → ℕ
source_name text machine c a = (reference_in (caller_registers text (slice_get machine.callers c)) a).node

-- a caller that loads a field next names the slot of what the source's caller loads from, which is null or resident
abbrev pub BasesAreResident : Target → Text → Setting → List CoreEvent → CoreState → Type 0
BasesAreResident target text setting events state = (c : ℕ) (e : Entry) (d a : Reg) (f : ℕ) → slice_get state.entries c ≡ Some e → e.routine ≡ At → instr_in target e ≡ Some (Plain (instr.LoadField d a f))
    → (slot_in e.hand.registers a ≡ home_of target text setting events (source_name text (shadow target text setting events).machine c a))
    × IsResident target text setting events (source_name text (shadow target text setting events).machine c a)

-- the run's image is a source run that leads to the source state of the shadow, the replies of each caller agree with it, each exchange of the
-- text that a caller makes next succeeds exactly if the source's does, and no load goes to what was recycled
pub record EpochSimulates (target : Target) (text : Text) (setting : Setting) (events : List CoreEvent) (state : CoreState) : Type 0 where
  pub refined : Refined target text setting events state
  pub bases : BasesAreResident target text setting events state

-- of a text as it is that is proper for the setting's callers, with a setting of epochs that fits it
abbrev pub RunsAreSimulated : Type 0
RunsAreSimulated = (text : Text) (setting : Setting) (events : List CoreEvent) (state : CoreState) → IsWithinLimits text → IsNormal text → IsSetting setting → Fits (bare text) setting → setting.reclamation ≡ Epochs → IsProperFor setting.sizes.callers text
    → core_run (bare text) setting events (core_start (bare text) setting) ≡ Some state → EpochSimulates (bare text) text setting events state
