use Rattle.std.proofs.Common.{ap}
use Rattle.row_spelling.specs.Spelling.{onto, lines_spelled, count_spelled}
use Rattle.row_spelling.proofs.Adding.{gives_same, parts_first}
use Rattle.row_spelling.proofs.spelling.add_all.Goals as goal

pub returns-in-Some : goal.returns-in-Some
returns-in-Some c =
    gives_same _ _ _ _ (ap (onto c.args.out.now.items) (parts_first (lines_spelled c.args.named.now) (count_spelled c.args.named.now) _ c.in_ok-parts.parts.items c.as_slice.result.now _ _ c.in_ok-parts.ensures c.as_slice.ensures.value c.in-Some.ensures.cases.0)) c.add_cut_row.ensures
