-- Where the source's caller stands whose local code has come to a spot of a method, and what two sides load.
use Rattle.std.specs.Prelude.{◌≡◌, ℕ, Bool, true, false, List, length, Option, Some, None, if◌then◌else◌}
use Rattle.norm_lang.specs.declared.text.Reg.{Reg}
use Rattle.norm_lang.specs.declared.text.Reg.TheVariants.{Num, Ref}
use Rattle.norm_lang.specs.declared.text.CasEntry.{CasEntry}
use Rattle.norm_lang.specs.declared.text.Instr.{Instr}
use Rattle.norm_lang.specs.declared.text.Instr.TheVariants as instr
use Rattle.norm_lang.specs.declared.text.Op.{Op}
use Rattle.norm_lang.specs.declared.text.Text.{Text}
use Rattle.norm_lang.specs.declared.registers.Registers.{Registers}
use Rattle.norm_lang.specs.Kept.{code_of}
use Rattle.norm_lang.specs.Local.{Spot, local_run}
use Rattle.norm_lang.specs.Registers.{first_registers, with_count}
use Rattle.source_machine.specs.declared.event.SourceEvent.{SourceEvent}
use Rattle.norm_lang.specs.declared.reply.SourceReply.{SourceReply}
use Rattle.source_machine.specs.Run.{is_enabled_for}
use Rattle.source_machine.specs.declared.state.Value.{Value}
use Rattle.source_machine.specs.declared.state.Value.TheVariants.{Number, Node}
use Rattle.source_machine.specs.declared.state.Memory.{Memory}
use Rattle.source_machine.specs.declared.state.Stand.{Stand}
use Rattle.source_machine.specs.declared.state.Stand.TheVariants.{InGenerator, InList}
use Rattle.source_machine.specs.declared.state.Running.{Running}
use Rattle.source_machine.specs.declared.state.SourceCaller.{SourceCaller}
use Rattle.source_machine.specs.Step.{goes_on, generator_at, wrap_up_at, Turn, caller_turn}
use Rattle.run_ahead.specs.Agreeing.{StandsFor}

-- a call that runs: its operation's number, its arguments, and the replies to the caller's earlier calls
pub record Call : Type 0 where
  pub number : ℕ
  pub args : List ℕ
  pub replies : List SourceReply

-- the call before its first instruction
abbrev pub running_of : Call → Running
running_of call = record { op = call.number; args = call.args; registers = first_registers call.args; stand = InGenerator 0 }

-- the caller without the call
abbrev pub caller_of : Call → SourceCaller
caller_of call = record { replies = call.replies; running = None }

-- at a spot of the generator, or of the wrap-up: with the registers of the wrap-up's start, and whether this run of the
-- wrap-up has made an access. Neither matters to a generator
abbrev pub stands_at : Op → Bool → Registers → Bool → Call → Spot → SourceCaller
stands_at op false started accessed call there = goes_on (generator_at op there (running_of call)) (caller_of call)
stands_at op true started accessed call there = wrap_up_at op started accessed there (running_of call) (caller_of call)

-- a method's first spot, with registers
abbrev pub first_spot : Registers → Spot
first_spot registers = record { at = 0; registers = registers }

-- where the local code of a method leads from a spot
abbrev pub run_from : Op → Bool → Spot → Spot
run_from op wrapup spot = local_run (code_of op wrapup) (length (code_of op wrapup)) spot

-- a method that begins with registers, its first local code done
abbrev pub begins_at : Op → Bool → Registers → Call → SourceCaller
begins_at op wrapup started call = stands_at op wrapup started false call (run_from op wrapup (first_spot started))

-- the call at a stand, with registers
abbrev pub running_at : Call → Registers → Stand → Running
running_at call registers stand = record { op = call.number; args = call.args; registers = registers; stand = stand }

-- in the executor, at the commit's place in the generator, after so many exchanges that succeeded
abbrev pub stands_in_list : ℕ → List CasEntry → ℕ → Registers → Call → SourceCaller
stands_in_list at entries made registers call = goes_on (running_at call registers (InList at entries made)) (caller_of call)

-- the wrap-up that follows so many exchanges that succeeded begins with the registers of the commit and their count
abbrev pub wrap_up_after : Op → ℕ → Registers → Call → SourceCaller
wrap_up_after op made registers call = begins_at op true (with_count registers made) call

-- an event of a caller, if it is enabled; otherwise nothing happens
abbrev pub turn_if_enabled : Text → SourceEvent → Memory → SourceCaller → Turn
turn_if_enabled text event memory caller =
    if is_enabled_for text event (Some caller) memory then caller_turn text event memory caller else record { memory = memory; caller = caller }

-- the register that a load sets
abbrev pub loads_into : Instr → Option Reg
loads_into (instr.LoadRoot d x) = Some d
loads_into (instr.LoadPick d x n a) = Some d
loads_into (instr.LoadField d a f) = Some d
loads_into _ = None

-- a value of the register's kind
abbrev pub IsValueFor : Reg → Value → Type 0
IsValueFor (Num d) (Number n) = Unit {0}
IsValueFor (Ref d) (Node x) = Unit {0}
IsValueFor _ _ = ⊥

-- a value that the core finds, with a slot, and one that the source finds, with a name
abbrev pub ValuesAgree : (ℕ → ℕ) → Value → Value → Type 0
ValuesAgree home (Number n) (Number m) = n ≡ m
ValuesAgree home (Node x) (Node y) = StandsFor home x y
ValuesAgree home _ _ = ⊥
