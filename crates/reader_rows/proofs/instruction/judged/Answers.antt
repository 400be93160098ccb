use Rattle.text_laws.proofs.WithinLimits.{parts_of}
use Rattle.reader_rows.proofs.instruction.judged.Goals as goal

pub parse_instr-requires-clause-few_fields : goal.parse_instr-requires-clause-few_fields
parse_instr-requires-clause-few_fields c = (parts_of c.args.text.now c.requires.within).fields_count

pub parse_instr-requires-clause-roots_differ : goal.parse_instr-requires-clause-roots_differ
parse_instr-requires-clause-roots_differ c = (parts_of c.args.text.now c.requires.within).roots.apart
