-- A caller's entry, and what it says of the instruction at which the caller stands.
use Rattle.std.specs.Prelude.{ℕ, ◌+◌, ◌-◌, ◌^◌, min, Bool, true, false, List, [], replicate, Option, slice_get, slice_index}
use Rattle.norm_lang.specs.Registers.{first_registers}
use Rattle.target_code.specs.declared.target.TargetInstr.{TargetInstr}
use Rattle.target_code.specs.declared.target.TargetOp.{TargetOp}
use Rattle.target_code.specs.declared.target.Target.{Target}
use Rattle.guard_words.specs.Guards.{no_guards}
use Rattle.caller_parts.specs.KindCounts.{field_count}
use Rattle.caller_parts.specs.declared.call.Call.{Call}
use Rattle.caller_parts.specs.declared.call.Running.{Running}
use Rattle.caller_parts.specs.declared.call.Replied.{Replied}
use Rattle.caller_parts.specs.Operands.{code_at, instr_at, kind_made, cradle_count, cradle_number}
use Rattle.caller_steps.specs.declared.entry.Hand.{Hand}
use Rattle.caller_steps.specs.declared.entry.Counts.{Counts}
use Rattle.caller_parts.specs.declared.routine.Routine.{Routine}
use Rattle.caller_parts.specs.declared.routine.Routine.TheVariants.{Idle, At}

-- nested by what changes it
pub record Entry : Type 0 where
  pub number : ℕ
  -- the call that runs, or the last one, and the steps made for it
  pub running : Running
  -- the method run
  pub hand : Hand
  -- a slot that was claimed and isn't published yet, 0 for none
  pub cradles : List ℕ
  -- before which access it stands
  pub routine : Routine
  pub replies : List Replied
  pub counts : Counts

-- a count that stays at its type's end
abbrev pub one_more : ℕ → ℕ
one_more n = min (n + 1) (2 ^ 64 - 1)

abbrev pub no_call : Call
no_call = record { op = 0; args = replicate 4 0 }

abbrev pub empty_hand : Hand
empty_hand = record {
  wrapup = false;
  at = 0;
  registers = first_registers [];
  started = first_registers [];
  seen = 0;
  guards = no_guards;
  accessed = false;
}

-- an idle entry
abbrev pub idle_entry : ℕ → Entry
idle_entry c = record {
  number = c;
  running = record { call = no_call; steps = 0 };
  hand = empty_hand;
  cradles = replicate cradle_count 0;
  routine = Idle;
  replies = [];
  counts = record { restarts = 0; claims = 0 };
}

abbrev pub is_idle : Routine → Bool
is_idle Idle = true
is_idle _ = false

-- whether a caller stands at an access of its method
abbrev pub is_at_access : Routine → Bool
is_at_access At = true
is_at_access _ = false

-- an entry with room for so many replies, which the machine doesn't know
pub record RoomyEntry : Type 0 where
  pub core : Entry
  pub room : ℕ

-- ---- where it stands in its target

-- the operation that a caller runs, the code of its method, and the instruction at which it stands
abbrev pub op_of : Target → Entry → Option TargetOp
op_of target e = slice_get target.ops e.running.call.op

abbrev pub code_in : Target → Entry → List TargetInstr
code_in target e = code_at target e.running.call.op e.hand.wrapup

abbrev pub instr_in : Target → Entry → Option TargetInstr
instr_in target e = instr_at target e.running.call.op e.hand.wrapup e.hand.at

-- the kind of the node that the `new` at which a caller stands makes, and the number of its cradle
abbrev pub new_kind : Target → Entry → ℕ
new_kind target e = kind_made (instr_in target e)

abbrev pub new_number : Target → Entry → ℕ
new_number target e = cradle_number (code_in target e) e.hand.at

-- how many fields of its node a `new` stores 0 to, from the first on: those of its kind
abbrev pub zero_count : Target → Option TargetInstr → ℕ
zero_count target i = field_count target.fields (kind_made i)

-- the slot in a cradle, 0 for none
abbrev pub cradle_of : Entry → ℕ → ℕ
cradle_of e k = slice_index e.cradles k
