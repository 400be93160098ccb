use Rattle.refusal_messages.proofs.Naming.{named_there, named_nowhere, named_without_memory}
use Rattle.refusal_messages.proofs.named.named.Goals as goal

pub returns-in-Ok : goal.returns-in-Ok
returns-in-Ok c = named_there c.args.bytes.now c.args.refusal c.in-Ok.text c.register_in.result c.in-Ok.ensures.exact c.register_in.ensures

pub returns-in-Err-Fault : goal.returns-in-Err-Fault
returns-in-Err-Fault c = named_nowhere c.args.bytes.now c.args.refusal _ _ c.in-Err-Fault.field-0-is c.in-Err-Fault.ensures.exact

pub returns-in-Err-Memory : goal.returns-in-Err-Memory
returns-in-Err-Memory c = named_without_memory c.args.bytes.now c.args.refusal
