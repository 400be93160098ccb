-- What names reach, as a search through all nodes finds it.
use Rattle.std.specs.Prelude.{◌≡◌, ℕ, true, false, if◌then◌else◌, List, [], ◌∷◌, ◌++◌, Option, Some, None}
use Rattle.source_machine.specs.declared.state.NamedNode.{NamedNode}
use Rattle.source_machine.specs.declared.state.Memory.{Memory}
use Rattle.source_machine.specs.Proper.{has, Reaches}
use Rattle.proper_judge.specs.Reach.{ReachedFrom, targets, fields_at}

-- a name of the bad that the others reach, or none that they reach is bad
abbrev pub Found : Memory → List ℕ → List ℕ → Option ℕ → Type 0
Found memory from bad None = (start name : ℕ) → has start from ≡ true → Reaches memory start name → has name bad ≡ false
Found memory from bad (Some name) = ReachedFrom memory from name × (has name bad ≡ true)

abbrev pub names_of : List NamedNode → List ℕ
names_of [] = []
names_of (node ∷ nodes) = node.name ∷ names_of nodes

-- what is still to be visited, after a name
abbrev pub more_work : Memory → ℕ → List ℕ → List ℕ → List ℕ
more_work memory name rest work = if has name rest then work ++ targets (fields_at memory name) else work
