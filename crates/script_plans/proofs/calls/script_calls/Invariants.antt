use Rattle.std.proofs.Common.{◌≡◌, map, take}
use Rattle.script_plans.specs.Plans.{call_of, TakeWords}
use Rattle.script_plans.proofs.calls.script_calls.Given as goal

abbrev pub invariant-loop-call : goal.invariant-loop-call
invariant-loop-call l = (l.calls ≡ map (call_of l.ops) (take l.call-index l.script)) × TakeWords l.calls
