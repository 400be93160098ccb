use Rattle.std.proofs.Common.{◌≡◌, None}
use Rattle.script_plans.specs.Shapes.{first_crowded}
use Rattle.script_plans.proofs.setting.first_crowded.Given as goal

-- none of those before
abbrev pub invariant-loop-kind : goal.invariant-loop-kind
invariant-loop-kind l = first_crowded l.slots l.nodes l.kind ≡ None
