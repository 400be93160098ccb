use Rattle.std.proofs.Common.{◌≡◌, drop}
use Rattle.script_plans.specs.Shapes.{scripts_fault}
use Rattle.script_plans.proofs.shape.scripts_fault.Given as goal

-- what is left gives what the whole gives
abbrev pub invariant-loop-script : goal.invariant-loop-script
invariant-loop-script l = scripts_fault l.ops (drop l.script-index l.scripts) ≡ scripts_fault l.ops l.scripts
