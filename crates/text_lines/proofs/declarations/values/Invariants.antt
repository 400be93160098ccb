use Rattle.std.proofs.Common.{◌≡◌, map, drop}
use Rattle.norm_lang.specs.KindFields.{fields_of}
use Rattle.norm_lang.specs.Declarations.{values_at}
use Rattle.line_words.specs.Shown.{start_shown}
use Rattle.text_lines.proofs.NodeLines.{before}
use Rattle.text_lines.proofs.declarations.values.Given as goal

abbrev pub invariant-loop-field : goal.invariant-loop-field
invariant-loop-field l =
    before (map start_shown l.values) (values_at (fields_of l.owner (drop l.field-index l.fields)) l.words) ≡ values_at (fields_of l.owner l.fields) l.fn.words
