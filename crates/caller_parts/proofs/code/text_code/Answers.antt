use Rattle.caller_parts.proofs.Bare.{no_code, wrapup_code, generator_code}
use Rattle.caller_parts.proofs.code.text_code.Goals as goal

pub returns-in-None : goal.returns-in-None
returns-in-None c = no_code c.args.text.now.ops c.args.op c.args.wrapup c.in-None.ensures

pub returns-then-wrapup : goal.returns-then-wrapup
returns-then-wrapup c = wrapup_code c.args.text.now.ops c.args.op c.args.wrapup c.in-Some.op.now _ c.in-Some.ensures c.if-wrapup.true c.items.ensures

pub returns-else-wrapup : goal.returns-else-wrapup
returns-else-wrapup c = generator_code c.args.text.now.ops c.args.op c.args.wrapup c.in-Some.op.now _ c.in-Some.ensures c.if-wrapup.false c.items-else-wrapup.ensures
