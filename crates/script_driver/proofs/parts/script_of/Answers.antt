use Rattle.script_driver.proofs.Sequence.{script_more}
use Rattle.script_driver.proofs.parts.script_of.Goals as goal

pub loop-i-preserved : goal.loop-i-preserved
loop-i-preserved c = record {
  round = c.round_after-round.ensures;
  script = script_more c.args.caller c.loop-i.i c.loop-i.round c.in_ok-round_call.field-0 c.loop-i.script c.push.new.self c.loop-i.invariant.round c.in_ok-round_call.ensures c.loop-i.invariant.script c.in_ok-push.ensures.ok;
}
