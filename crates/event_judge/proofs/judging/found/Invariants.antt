use Rattle.std.proofs.Common.{◌≡◌, drop}
use Rattle.event_judge.specs.Judging.{found_from}
use Rattle.event_judge.proofs.judging.found.Given as goal

-- the callers before agree
abbrev pub invariant-loop-caller : goal.invariant-loop-caller
invariant-loop-caller l = found_from l.caller l.progress (drop l.caller l.claims) ≡ found_from 0 l.progress l.claims
