use Rattle.std.proofs.Common.{ap, Some}
use Rattle.row_spelling.specs.Spelling.{onto, plain_spelled, escape_spelled}
use Rattle.row_spelling.proofs.Adding.{gives_same, parts_first}
use Rattle.row_spelling.proofs.spelling.add_bytes.Goals as goal

pub returns-in-Some : goal.returns-in-Some
returns-in-Some c =
    gives_same _ _ _ _ (ap (onto c.args.out.now.items) (parts_first (λ part. Some (plain_spelled c.args.copy part)) (escape_spelled c.args.copy) _ c.in_ok-parts.parts.items c.as_slice.result.now _ _ c.in_ok-parts.ensures c.as_slice.ensures.value c.in-Some.ensures.cases.0)) c.add_cut_bytes.ensures
