-- The words as a sweep reckons with them.
--
-- A caller that has announced a phase is reckoned at the phase word as it was when it stored its announcement (`since`), and any other
-- at the phase word as it is now. What is announced may be less than `since`, as the phase may be raised between the load and the store;
-- but what was tagged before the store was retired before it, whatever its tag. So each announcement and each withdrawal raises the
-- caller's own reckoned word to the phase word, and no step lowers one: the words are like those of callers who are warned, and a caller is
-- never warned while it is announced.
use Rattle.std.specs.Prelude.{ℕ, zero, suc, ◌≡◌, ◌≤◌}
use Rattle.oa_words.specs.Words.{Word, Phase, Place, Warning, Hazard, Status, FieldOf, Cell, Head, Link}
use Rattle.oa_simulation.specs.sim_relation.Views.{Plan, Shared}
use Rattle.oa_simulation.specs.sim_relation.Shared.{SharedHolds}

abbrev pub reckoned_at : ℕ → ℕ → ℕ → ℕ
reckoned_at zero since phase = phase
reckoned_at (suc p) since phase = since

abbrev pub reckoned_words : (Word → ℕ) → (ℕ → ℕ) → Word → ℕ
reckoned_words memory since Phase = memory Phase
reckoned_words memory since (Place c) = memory (Place c)
reckoned_words memory since (Warning c) = reckoned_at (memory (Warning c)) (since c) (memory Phase)
reckoned_words memory since (Hazard c r) = memory (Hazard c r)
reckoned_words memory since (Status j) = memory (Status j)
reckoned_words memory since (FieldOf j g) = memory (FieldOf j g)
reckoned_words memory since (Cell x) = memory (Cell x)
reckoned_words memory since (Head t) = memory (Head t)
reckoned_words memory since (Link j) = memory (Link j)

abbrev pub reckoned : Shared → (ℕ → ℕ) → Shared
reckoned s since = record s { memory = reckoned_words s.memory since }

-- what holds of what is shared
pub record EpochHolds (t : Plan) (s : Shared) (since : ℕ → ℕ) : Type 0 where
  pub holds : SharedHolds t (reckoned s since)
  -- an announced phase is no more than the phase word was when it was announced
  pub announced : (d : ℕ) → s.memory (Warning d) ≤ since d
  -- phases begin at 1
  pub begun : 1 ≤ s.memory Phase
  -- nothing is guarded
  pub unguarded : (d r : ℕ) → s.protects d r ≡ 0
