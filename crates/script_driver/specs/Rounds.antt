-- What is kept of a caller's sequence from one call to the next.
use Rattle.std.specs.Prelude.{ℕ, ◌-◌}
use Rattle.script_driver.specs.Workload.{seed_at, key_at}
use Rattle.script_driver.specs.declared.rounds.Round.{Round}

abbrev pub round_at : ℕ → ℕ → Round
round_at caller j = record { seed = seed_at caller j; key = key_at caller j; before = key_at caller (j - 1) }
