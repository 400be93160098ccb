use Rattle.script_driver.proofs.Sequence.{scripts_more}
use Rattle.script_driver.proofs.parts.scripts_of.Goals as goal

pub loop-caller-preserved : goal.loop-caller-preserved
loop-caller-preserved c = scripts_more c.args.count c.loop-caller.caller c.in_ok-script_of.field-0 c.loop-caller.scripts c.push.new.self c.in_ok-script_of.ensures c.loop-caller.invariant c.in_ok-push.ensures.ok
