use Rattle.std.proofs.Common.{◌≡◌}
use Rattle.script_driver.specs.Workload.{scripts_of}
use Rattle.script_driver.proofs.parts.scripts_of.Given as goal

abbrev pub invariant-loop-caller : goal.invariant-loop-caller
invariant-loop-caller l = l.scripts ≡ scripts_of l.count l.caller
