-- Which states a small machine may be in where control arrives at an instruction.
use Rattle.std.specs.Prelude.{◌≡◌, ◌↔◌, ◌<◌, ℕ, ◌+◌, ◌*◌, Bool, false, ◌&&◌, nat_lt, List, Some, unwrap_or, slice_get, slice_index, All, IsTrue}
use Rattle.norm_lang.specs.Flow.{Leads, state_along}
use Rattle.norm_lang.specs.Reach.{LeadsTo, StaysBelow}
use Rattle.path_facts.specs.declared.moves.Move.{Move}

-- the state after an instruction, by the state before it
abbrev pub state_behind : Move → ℕ → ℕ
state_behind move state = slice_index move.after state

-- an instruction of so many: its successors are among them, and no state after it is a fifth one
abbrev pub IsMove : ℕ → Move → Type 0
IsMove count move = StaysBelow count move.fork × All (λ state. state < 4) move.after

-- control goes from one instruction on to another
abbrev pub GoesOn : List Move → ℕ → ℕ → Type 0
GoesOn moves from to = (move : Move) × (slice_get moves from ≡ Some move) × LeadsTo move.fork to

-- a path leads from instruction 0 to an instruction: the instructions passed on the way, the latest first
abbrev pub IsWay : List Move → List ℕ → ℕ → Type 0
IsWay moves path to = Leads (GoesOn moves) 0 path to

-- on some path to an instruction the machine is in a state there: it began in `start` and made the moves of the path
abbrev pub ComesIn : List Move → ℕ → ℕ → ℕ → Type 0
ComesIn moves start at state = (path : List ℕ) × IsWay moves path at × (state_along state_behind start moves path ≡ state)

-- the answer for an instruction and a state, in a list that has four for each instruction, one after another. From
-- the fifth state on it is no
abbrev pub comes_in_by : List Bool → ℕ → ℕ → Bool
comes_in_by facts at state = unwrap_or (slice_get facts (4 * at + state)) false && nat_lt state 4

-- answers that are true exactly if the machine may be in the state at the instruction
abbrev pub AreFacts : List Move → ℕ → List Bool → Type 0
AreFacts moves start facts = (at state : ℕ) → state < 4 → (IsTrue (comes_in_by facts at state) ↔ ComesIn moves start at state)
