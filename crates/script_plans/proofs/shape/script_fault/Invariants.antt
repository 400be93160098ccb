use Rattle.std.proofs.Common.{◌≡◌, drop}
use Rattle.script_plans.specs.Shapes.{script_fault}
use Rattle.script_plans.proofs.shape.script_fault.Given as goal

-- what is left gives what the whole gives
abbrev pub invariant-loop-call : goal.invariant-loop-call
invariant-loop-call l = script_fault l.ops (drop l.call-index l.script) ≡ script_fault l.ops l.script
