-- A document's text has few kinds.
use Rattle.std.proofs.Common.{◌≡◌, ◌<◌, ◌≤◌, true, ◌&&◌, length, arith}
use Rattle.std.specs.List.{list_all}
use Rattle.std.proofs.lemmas.Bool.{and_parts}
use Rattle.std.proofs.lemmas.Bool.Decides.{nat_tests}
use Rattle.norm_lang.specs.declared.text.Text.{Text}
use Rattle.norm_lang.specs.Bounds.{most_kinds}
use Rattle.norm_lang.specs.LineWords.{is_name}
use Rattle.norm_lang.specs.Limits.{has_between, are_different, are_kinds, are_fields, are_nodes, are_roots, are_ops, owners_of, IsWithinLimits}
use Rattle.documents.specs.declared.document.Document.{Document}
use Rattle.documents.specs.DocumentLimits.{IsWithinDocumentLimits}

kinds_few : (text : Text) → IsWithinLimits text → length text.kinds ≤ 4
kinds_few text within =
    let parts = and_parts (are_kinds text.kinds)
    (are_fields (length text.kinds) text.fields && (are_nodes (length text.kinds) text.fields text.nodes
    && (are_roots (length text.kinds) (owners_of text.nodes) text.roots && are_ops (length text.kinds) (length text.fields) (length text.roots) text.ops))) within in
    let few = and_parts (has_between 1 most_kinds text.kinds) (list_all is_name text.kinds && are_different text.kinds) parts.0 in
    let count : has_between 1 4 text.kinds ≡ true = few.0 in
    grind (arith, nat_tests)

pub few_kinds : (document : Document) → IsWithinDocumentLimits document → length document.text.kinds < 256
few_kinds document within = let few = kinds_few document.text within.text in omega (arith, few)
