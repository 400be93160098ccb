use Rattle.std.proofs.Common.{rules}
use Rattle.caller_steps.proofs.entry.Entry.zeroed.Goals as goal

pub returns-else-field-fields : goal.returns-else-field-fields
returns-else-field-fields c = search rules
