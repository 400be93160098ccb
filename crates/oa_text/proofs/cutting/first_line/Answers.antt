use Rattle.std.proofs.Common.{rules}
use Rattle.oa_text.proofs.LineLemmas.{line_more}
use Rattle.oa_text.proofs.LineLemmas.{line_ends}
use Rattle.oa_text.proofs.LineLemmas.{line_last}
use Rattle.oa_text.proofs.cutting.first_line.Goals as goal

pub returns-then-b-eq-NEWLINE : goal.returns-then-b-eq-NEWLINE
returns-then-b-eq-NEWLINE c = search (rules, line_more, line_ends, line_last)
