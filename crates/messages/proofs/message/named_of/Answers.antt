use Rattle.messages.specs.Remembered.{remembered}
use Rattle.refusal_messages.proofs.Naming.{named_read, not_read}
use Rattle.messages.proofs.message.named_of.Goals as goal

pub returns-in-Some : goal.returns-in-Some
returns-in-Some g c = named_read (remembered c.args.input.now) c.in-Some.bytes.now c.args.status c.named_in.result c.in-Some.ensures.bytes c.named_in.ensures

pub returns-in-None : goal.returns-in-None
returns-in-None g c = not_read (remembered c.args.input.now) c.args.status c.in-None.ensures.bytes
