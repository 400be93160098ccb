use Rattle.reader_rows.proofs.flaws.flaws_answer.Goals as goal

pub returns : goal.returns
returns c = record { instr = c.in-Some.instr.now; found = c.in_ok-found.found; flaws = c.in_ok-found.ensures; names = c.in_ok-listed.ensures }
