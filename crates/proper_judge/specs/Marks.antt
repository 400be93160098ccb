-- Marks on names.
use Rattle.std.specs.Prelude.{ℕ, Bool, ◌||◌, ◌==◌}
use Rattle.proper_judge.specs.declared.marks.Marks.{Marks}
use Rattle.proper_judge.specs.Numbers.{numbering}

-- a name is marked if its number is that of the round
abbrev pub is_marked : Marks → ℕ → Bool
is_marked marks name = numbering marks.numbers name == marks.round

-- the marks after a name is marked
abbrev pub marked : (ℕ → Bool) → ℕ → ℕ → Bool
marked marks name other = (name == other) || marks other
