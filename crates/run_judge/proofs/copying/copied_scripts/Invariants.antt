use Rattle.std.proofs.Common.{◌≡◌, take}
use Rattle.run_judge.proofs.copying.copied_scripts.Given as goal

abbrev pub invariant-loop-script : goal.invariant-loop-script
invariant-loop-script l = l.copy ≡ take l.script-index l.scripts
