use Rattle.std.proofs.Common.{◌≡◌, max, drop}
use Rattle.norm_lang.specs.Declarations.{groups_begun}
use Rattle.text_lines.proofs.declarations.groups_begun.Given as goal

abbrev pub invariant-loop-field : goal.invariant-loop-field
invariant-loop-field l = max l.begun (groups_begun (drop l.field-index l.fields)) ≡ groups_begun l.fields
