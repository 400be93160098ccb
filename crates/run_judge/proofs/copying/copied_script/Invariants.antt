use Rattle.std.proofs.Common.{◌≡◌, take}
use Rattle.run_judge.proofs.copying.copied_script.Given as goal

abbrev pub invariant-loop-call : goal.invariant-loop-call
invariant-loop-call l = l.copy ≡ take l.call-index l.script
