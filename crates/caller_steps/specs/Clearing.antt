-- Clearing guards: which registers' hazards are to get 0, in the order of numbers.
use Rattle.std.specs.Prelude.{ℕ, Option, Some, None}
use Rattle.target_code.specs.declared.target.Target.{Target}
use Rattle.guard_words.specs.Guards.{next_to_clear, with_guard}
use Rattle.caller_steps.specs.declared.entry.Hand.{Hand}
use Rattle.caller_parts.specs.declared.routine.AfterClear.{AfterClear}
use Rattle.caller_parts.specs.Spared.{restart_spares, then_spares}
use Rattle.caller_steps.specs.Entries.{Entry, op_of}

-- the register whose hazard is next, in the clear after a failed check and in one at another moment; none if the clear
-- has ended
abbrev pub restart_next : Target → Entry → Option ℕ
restart_next target e = next_to_clear e.hand.guards (restart_spares e.hand.wrapup (op_of target e))

abbrev pub clear_next : Target → AfterClear → Entry → Option ℕ
clear_next target next e = next_to_clear e.hand.guards (then_spares next (op_of target e))

-- a hazard was cleared
abbrev pub unguarded : Option ℕ → Hand → Hand
unguarded None hand = hand
unguarded (Some r) hand = record hand { guards = with_guard hand.guards r 0 }
