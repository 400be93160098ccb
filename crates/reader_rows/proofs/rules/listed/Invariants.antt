use Rattle.std.proofs.Common.{◌≡◌, [], drop}
use Rattle.std.specs.String.{string_bytes}
use Rattle.reader_rows.specs.Answers.{names_after}
use Rattle.reader_rows.proofs.Listed.{texts}
use Rattle.reader_rows.proofs.rules.listed.Given as goal

abbrev pub invariant-loop-i : goal.invariant-loop-i
invariant-loop-i l = names_after (string_bytes l.row) (texts (drop l.i l.names)) (drop l.i l.answers) ≡ names_after [] (texts l.names) l.answers
