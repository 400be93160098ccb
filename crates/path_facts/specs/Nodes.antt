-- Pairs of an instruction and a state as nodes of a graph: the state before the instruction.
use Rattle.std.specs.Prelude.{ℕ, ◌+◌, ◌*◌, List, [], ◌∷◌, option_map}
use Rattle.norm_lang.specs.declared.forks.Fork.{Fork}
use Rattle.path_facts.specs.declared.moves.Move.{Move}
use Rattle.path_facts.specs.Facts.{state_behind}

-- the node of an instruction and a state
abbrev pub node : ℕ → ℕ → ℕ
node at state = 4 * at + state

-- a fork to the nodes of an instruction's successors with a state
abbrev pub fork_with : Fork → ℕ → Fork
fork_with fork state = record { first = option_map (λ to. node to state) fork.first; second = option_map (λ to. node to state) fork.second }

-- where control goes on from an instruction and a state before it
abbrev pub fork_behind : Move → ℕ → Fork
fork_behind move state = fork_with move.fork (state_behind move state)

-- the forks of an instruction's four nodes
abbrev pub nodes_of : Move → List Fork
nodes_of move = fork_behind move 0 ∷ fork_behind move 1 ∷ fork_behind move 2 ∷ fork_behind move 3 ∷ []
