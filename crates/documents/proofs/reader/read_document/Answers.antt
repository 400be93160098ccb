use Rattle.std.proofs.Common.{rules, ◌≡◌, Ok, ap, ◌∙◌}
use Rattle.documents.specs.declared.document.Document.{Document}
use Rattle.documents.specs.DocumentRead.{document_read}
use Rattle.documents.specs.TailShown.{tail_shown}
use Rattle.documents.proofs.Limited.{read_is_within, read_has_slots}
use Rattle.documents.proofs.Reading.{version_fails, front_fails, tail_fails, document_kept}
use Rattle.documents.proofs.reader.read_document.Goals as goal

pub returns-in_err-version-clause-exact : goal.returns-in_err-version-clause-exact
returns-in_err-version-clause-exact c =
    search (rules, version_fails c.args.input.now c.new-cursor.result c.in_err-version.field-0.0 c.new-cursor.ensures c.in_err-version.ensures.exact)

pub returns-in_err-text-clause-exact : goal.returns-in_err-text-clause-exact
returns-in_err-text-clause-exact c =
    search (
      rules,
      front_fails c.args.input.now c.new-cursor.result c.read_version.new.cursor c.in_ok-version.version c.in_err-text.field-0.0 c.new-cursor.ensures c.in_ok-version.ensures.rest
          c.in_ok-version.ensures.exact c.in_err-text.ensures.exact,
    )

pub returns-in_err-tail-clause-exact : goal.returns-in_err-tail-clause-exact
returns-in_err-tail-clause-exact c =
    search (
      rules,
      tail_fails c.args.input.now c.new-cursor.result c.read_version.new.cursor c.read_front.new.cursor c.in_ok-version.version c.in_ok-text.text c.in_err-tail.field-0.0 c.new-cursor.ensures c.in_ok-version.ensures.rest
          c.in_ok-text.ensures.rest c.in_ok-version.ensures.exact c.in_ok-text.ensures.exact c.in_err-tail.ensures.says,
    )

pub returns-clause-exact : goal.returns-clause-exact
returns-clause-exact c =
    document_kept c.args.input.now c.new-cursor.result c.read_version.new.cursor c.read_front.new.cursor c.in_ok-version.version c.in_ok-text.text c.in_ok-tail.tail.text (tail_shown c.in_ok-tail.tail)
    c.in_ok-into_document.field-0 c.new-cursor.ensures c.in_ok-version.ensures.rest c.in_ok-text.ensures.rest c.in_ok-version.ensures.exact c.in_ok-text.ensures.exact c.in_ok-tail.ensures.says
    c.in_ok-tail.ensures.kept c.in_ok-into_document.ensures

pub returns-clause-within : goal.returns-clause-within
returns-clause-within c =
    let read : document_read c.args.input.now ≡ Ok c.in_ok-into_document.field-0 =
    document_kept c.args.input.now c.new-cursor.result c.read_version.new.cursor c.read_front.new.cursor c.in_ok-version.version c.in_ok-text.text c.in_ok-tail.tail.text (tail_shown c.in_ok-tail.tail)
    c.in_ok-into_document.field-0 c.new-cursor.ensures c.in_ok-version.ensures.rest c.in_ok-text.ensures.rest c.in_ok-version.ensures.exact c.in_ok-text.ensures.exact c.in_ok-tail.ensures.says
    c.in_ok-tail.ensures.kept c.in_ok-into_document.ensures in
    let text : c.in_ok-into_document.field-0.text ≡ c.in_ok-text.text = ap (λ (d : Document). d.text) c.in_ok-into_document.ensures ∙ c.in_ok-tail.ensures.kept in
    read_is_within c.args.input.now c.in_ok-into_document.field-0 read (rw text c.in_ok-text.ensures.within)

pub returns-clause-slots : goal.returns-clause-slots
returns-clause-slots c =
    read_has_slots c.args.input.now c.in_ok-into_document.field-0
    (document_kept c.args.input.now c.new-cursor.result c.read_version.new.cursor c.read_front.new.cursor c.in_ok-version.version c.in_ok-text.text c.in_ok-tail.tail.text (tail_shown c.in_ok-tail.tail)
    c.in_ok-into_document.field-0 c.new-cursor.ensures c.in_ok-version.ensures.rest c.in_ok-text.ensures.rest c.in_ok-version.ensures.exact c.in_ok-text.ensures.exact c.in_ok-tail.ensures.says
    c.in_ok-tail.ensures.kept c.in_ok-into_document.ensures)
