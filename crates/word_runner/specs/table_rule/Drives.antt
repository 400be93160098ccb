-- Steps of a caller in memory, and of the seat that knows it.
use Rattle.std.specs.Prelude.{◌≡◌, ℕ, ◌+◌, ◌≤◌, ◌<◌, false, List, [], length}
use Rattle.atomic_table.specs.Table.{Me}
use Rattle.caller_steps.specs.Entries.{RoomyEntry, is_idle}
use Rattle.word_runner.specs.table_rule.Seen.{Fixed, SeatView}
use Rattle.word_runner.specs.table_rule.Plays.{next, IsTold, AreTold, Steps, Belonging, with_entry, with_accesses}

-- one step: a lawful word was found, and the entry and its seat's view are what it makes of it
pub record Went (key : Fixed) (me : Me ℕ SeatView) (e : RoomyEntry) (me' : Me ℕ SeatView) (e' : RoomyEntry) : Type 0 where
  pub word : ℕ
  pub lawful : IsTold key e.core word
  pub entry : e' ≡ record { core = next key e.core word; room = e.room }
  pub view : me' ≡ (with_accesses (with_entry me.0 e'.core) 1, [])
  pub belongs : Belonging key e'.core

-- so many steps, one after another, and no other access through the seat
pub record Drove (key : Fixed) (me : Me ℕ SeatView) (e : RoomyEntry) (steps : ℕ) (me' : Me ℕ SeatView) (e' : RoomyEntry) : Type 0 where
  pub words : List ℕ
  pub count : length words ≡ steps
  pub told : AreTold key e.core words
  pub advances : Steps key e.core words e'.core
  pub room : e'.room ≡ e.room
  pub view : me' ≡ (with_accesses (with_entry me.0 e'.core) steps, [])
  pub belongs : Belonging key e'.core

-- at least one step and at most `budget`; fewer only if the call has ended
pub record Ran (key : Fixed) (me : Me ℕ SeatView) (e : RoomyEntry) (budget : ℕ) (me' : Me ℕ SeatView) (e' : RoomyEntry) : Type 0 where
  pub steps : ℕ
  pub some : 0 < steps
  pub few : steps ≤ budget
  pub drove : Drove key me e steps me' e'
  pub whole : is_idle e'.core.routine ≡ false → steps ≡ budget

-- some of the budget is left
pub record Driving (key : Fixed) (me : Me ℕ SeatView) (e : RoomyEntry) (budget left : ℕ) (me' : Me ℕ SeatView) (e' : RoomyEntry) : Type 0 where
  pub steps : ℕ
  pub some : 0 < steps
  pub count : steps + left ≡ budget
  pub drove : Drove key me e steps me' e'
