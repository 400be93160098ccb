use Rattle.std.proofs.Common.{◌≡◌, map, take}
use Rattle.script_plans.specs.Plans.{call_of, AllTakeWords}
use Rattle.script_plans.proofs.calls.calls_of.Given as goal

abbrev pub invariant-loop-script : goal.invariant-loop-script
invariant-loop-script l = (l.scripts ≡ map (map (call_of l.document.text.ops)) (take l.script-index l.document.scripts)) × AllTakeWords l.scripts
