use Rattle.std.proofs.Common.{Some}
use Rattle.refusal_messages.proofs.Naming.{named_refusal, not_refused}
use Rattle.refusal_messages.proofs.named.named_for.Goals as goal

pub returns-in-Refused : goal.returns-in-Refused
returns-in-Refused c = named_refusal c.args.bytes.now c.args.status c.in-Refused.refusal c.named.result c.in-Refused.is c.named.ensures

pub returns-in_default : goal.returns-in_default
returns-in_default c = not_refused (Some c.args.bytes.now) c.args.status c.in_default.not-Refused
