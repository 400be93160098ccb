use Rattle.std.proofs.Common.{◌∙◌, ap, length, map}
use Rattle.std.proofs.lemmas.List.{length-map}
use Rattle.oa_core.specs.Finals.{core_part}
use Rattle.document_runs.specs.Blanks.{answered_by}
use Rattle.document_runs.proofs.Answering.{lines_answered, lent_back}
use Rattle.document_runs.proofs.building.answered.Goals as goal

pub returns : goal.returns
returns c =
    lines_answered (map core_part c.args.entries.now) c.args.scripts.now c.as_mut_slice.result.now c.from_vec.result (c.as_mut_slice.ensures.value ∙ c.requires.blank)
    (c.from_vec.ensures
    ∙ lent_back _ _ _ (ap length c.answer_lines.ensures ∙ length-map c.as_mut_slice.result.now (answered_by (map core_part c.args.entries.now)) ∙ c.as_mut_slice.ensures.len)
    ∙ c.answer_lines.ensures)
