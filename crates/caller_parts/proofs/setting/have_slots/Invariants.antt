use Rattle.std.proofs.Common.{◌≡◌}
use Rattle.caller_parts.specs.Settings.{have_slots}
use Rattle.caller_parts.proofs.setting.have_slots.Given as goal

abbrev pub invariant-loop-kind : goal.invariant-loop-kind
invariant-loop-kind l = l.fit ≡ have_slots l.shape l.nodes l.kind
