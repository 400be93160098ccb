-- What a caller is seen to do.
use Rattle.std.specs.Prelude.{ℕ, true, false, Option, Some, None, is_none, nat_lt, if◌then◌else◌, slice_get}
use Rattle.norm_lang.specs.declared.text.Reg.{Reg}
use Rattle.norm_lang.specs.declared.text.Reg.TheVariants.{Num, Ref}
use Rattle.norm_lang.specs.declared.text.Instr.{Instr}
use Rattle.norm_lang.specs.declared.text.Op.{Op}
use Rattle.norm_lang.specs.declared.text.Text.{Text}
use Rattle.norm_lang.specs.declared.registers.Registers.{Registers}
use Rattle.norm_lang.specs.Registers.{number_in, reference_in}
use Rattle.source_machine.specs.declared.reads.Standing.{Standing}
use Rattle.source_machine.specs.declared.reads.Held.{Held}
use Rattle.source_machine.specs.declared.reads.Held.TheVariants as holds
use Rattle.source_machine.specs.declared.reads.Pending.{Pending}
use Rattle.source_machine.specs.declared.reads.Pending.TheVariants as pendings
use Rattle.source_machine.specs.Run.{is_end_at, is_new_at}
use Rattle.source_machine.specs.State.{Stand, InGenerator, InList, InWrapUp, Running, SourceCaller}

-- a number, or a limit if the number is greater; in a text that is accepted a method has 256 instructions and a list 4 exchanges at
-- most, so that no limit below shows
abbrev pub at_most : ℕ → ℕ → ℕ
at_most limit n = if nat_lt n limit then n else limit

-- where an operation stands: before the list none of its exchanges has succeeded, and a wrap-up has their count in the n7 of its
-- start
abbrev pub standing_in : ℕ → Stand → Standing
standing_in op (InGenerator at) = record { op = op; wrapup = false; at = at_most 65535 at; made = 0 }
standing_in op (InList at entries made) = record { op = op; wrapup = false; at = at_most 65535 at; made = at_most 255 made }
standing_in op (InWrapUp at started accessed) = record { op = op; wrapup = true; at = at_most 65535 at; made = at_most 255 (number_in started (Num 7)) }

abbrev pub standing_of : Option Running → Option Standing
standing_of None = None
standing_of (Some running) = Some (standing_in running.op running.stand)

-- none exactly if the caller is idle
abbrev pub standing_by : Option SourceCaller → Option Standing
standing_by None = None
standing_by (Some caller) = standing_of caller.running

-- what a register holds, of a caller whose operation runs; an idle caller has no registers, and 0 stands for what they hold
abbrev pub held_in : Registers → Reg → Held
held_in registers (Num r) = holds.Number (number_in registers (Num r))
held_in registers (Ref r) = holds.Node (reference_in registers (Ref r)).node (reference_in registers (Ref r)).marked

abbrev pub held_of : Option Running → Reg → Held
held_of None register = holds.Number 0
held_of (Some running) register = held_in running.registers register

abbrev pub held_by : Option SourceCaller → Reg → Held
held_by None register = holds.Number 0
held_by (Some caller) register = held_of caller.running register

-- whether an access is a `new`, or the end of a wrap-up run that has made an access, which touches no memory; the end of an empty
-- list is the other that touches none
abbrev pub pending_at : Option Instr → Pending
pending_at i = if is_new_at i then pendings.New else if is_end_at i then pendings.End else pendings.Shared

abbrev pub pending_in : Op → Stand → Pending
pending_in op (InGenerator at) = if is_new_at (slice_get op.generator at) then pendings.New else pendings.Shared
pending_in op (InList at entries made) = if is_none (slice_get entries made) then pendings.End else pendings.Shared
pending_in op (InWrapUp at started accessed) = pending_at (slice_get op.wrapup at)

abbrev pub pending_with : Option Op → Stand → Pending
pending_with None stand = pendings.Shared
pending_with (Some op) stand = pending_in op stand

abbrev pub pending_of : Text → Option Running → Pending
pending_of text None = pendings.Idle
pending_of text (Some running) = pending_with (slice_get text.ops running.op) running.stand

-- what the next access of a caller is
abbrev pub pending_by : Text → Option SourceCaller → Pending
pending_by text None = pendings.Idle
pending_by text (Some caller) = pending_of text caller.running
