use Rattle.std.proofs.Common.{◌≡◌, ◌∙◌, List, Option, None, ap, sym}
use Rattle.std.specs.Prelude.{unwrap_or, option_copied, slice_get}
use Rattle.norm_lang.specs.declared.text.FieldDecl.{FieldDecl}
use Rattle.norm_lang.specs.KindFields.{owner_of, place_of}
use Rattle.source_machine.specs.declared.state.Value.{Value}
use Rattle.source_machine.specs.Memory.{value_at, null_fields, fields_named}
use Rattle.source_machine.specs.Plans.{blank_in}
use Rattle.source_machine.proofs.NullFields.{null_field}
use Rattle.source_machine.proofs.access.load_field.Goals as goal

pub returns-in-None : goal.returns-in-None
returns-in-None c =
    let t = c.args.text.now in
    let f = c.args.field in
    let none : fields_named c.args.reference.node c.args.memory.now.nodes ≡ None = sym c.fields.ensures ∙ ap option_copied c.in-None.is in
    c.null_value.ensures
    ∙ ap (λ (fields : List FieldDecl). blank_in (slice_get fields f)) c.items-fields.ensures
    ∙ sym (null_field t f)
    ∙ sym (ap (λ (o : Option (List Value)). value_at (unwrap_or o (null_fields t (owner_of t.fields f))) (place_of t.fields f)) none)
