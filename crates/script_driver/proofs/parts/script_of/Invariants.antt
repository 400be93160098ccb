use Rattle.std.proofs.Common.{◌≡◌, ◌/◌}
use Rattle.script_driver.specs.Rounds.{round_at}
use Rattle.script_driver.specs.Workload.{script_of}
use Rattle.script_driver.proofs.parts.script_of.Given as goal

abbrev pub invariant-loop-i : goal.invariant-loop-i
invariant-loop-i l = record {
  round : l.round ≡ round_at l.caller (l.i / 4);
  script : l.script ≡ script_of l.i l.caller;
}
