-- What is asked of the source at a step: no name that was retired before a method run began is reachable from what it has got.
use Rattle.std.specs.Prelude.{ℕ, ◌≡◌, true, false}
use Rattle.source_machine.specs.Proper.{has, Reaches}
use Rattle.oa_simulation.specs.sim_relation.Views.{Shared, Caller}

abbrev pub IsProperFor : Shared → Caller → Type 0
IsProperFor s x = (n other : ℕ) → has n x.held.got ≡ true → Reaches s.source n other → has other x.held.old ≡ false
