use Rattle.std.proofs.Common.{◌≡◌, drop}
use Rattle.norm_lang.specs.KindFields.{fields_of}
use Rattle.norm_lang.specs.Declarations.{are_matches}
use Rattle.text_lines.proofs.declarations.all_fit.Given as goal

abbrev pub invariant-loop-field : goal.invariant-loop-field
invariant-loop-field l =
    are_matches l.owners (fields_of l.owner (drop l.field-index l.fields)) l.left ≡ are_matches l.owners (fields_of l.owner l.fields) l.starts
