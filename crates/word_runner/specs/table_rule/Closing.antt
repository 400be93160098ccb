-- The end of a table.
use Rattle.std.specs.Prelude.{◌≡◌, ℕ, List, slice_index}
use Rattle.std.specs.List.Sorted.{IsPermutation}
use Rattle.caller_steps.specs.Entries.{RoomyEntry}
use Rattle.core_runs.specs.Machine.{CoreState}
use Rattle.word_runner.specs.table_rule.Seen.{Fixed, IsGround, SeatView}
use Rattle.word_runner.specs.table_rule.Rule.{IsReached, AllHere}
use Rattle.word_runner.specs.table_rule.Seats.{cores}

-- the phase and the entries are those of one reachable state, in the order of the callers' numbers, and the entries are those
-- that rested
pub record IsClosed (key : Fixed) (rested : List RoomyEntry) (phase : ℕ) (entries : List RoomyEntry) : Type 0 where
  pub good : IsGround key
  pub core : CoreState
  pub reachable : IsReached key core
  pub phase_is : phase ≡ slice_index core.words 0
  pub entries_are : cores entries ≡ core.entries
  pub kept : IsPermutation rested entries

-- a seat's view of the last state
pub record Shut (key : Fixed) (v : SeatView) (phase : ℕ) : Type 0 where
  pub good : IsGround key
  pub core : CoreState
  pub reachable : IsReached key core
  pub phase_is : phase ≡ slice_index core.words 0
  pub here : AllHere core.entries v.entries
