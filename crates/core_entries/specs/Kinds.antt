-- The kinds of access that turns count, by addresses.
use Rattle.std.specs.Prelude.{ℕ, ◌&&◌, Option, Some, None, nat_le, nat_lt, if◌then◌else◌}
use Rattle.schedule_turns.specs.declared.turn.StepKind.{StepKind}
use Rattle.schedule_turns.specs.declared.turn.StepKind.TheVariants as kinds
use Rattle.phase_pools.specs.declared.access.Access.{Access}
use Rattle.phase_pools.specs.declared.access.Access.TheVariants as codes

-- fields and cells stand from one address on, up to that of the pool's first head
abbrev pub kind_between : ℕ → ℕ → ℕ → StepKind → Option StepKind
kind_between first head at kind = if nat_le first at && nat_lt at head then Some kind else None

abbrev pub kind_at : ℕ → ℕ → Access → Option StepKind
kind_at first head (codes.Load at) = kind_between first head at kinds.Load
kind_at first head (codes.CompareExchange at expected replacement) = kind_between first head at kinds.Exchange
kind_at first head (codes.Store at word) = None
kind_at first head (codes.FetchMax at word) = None
