-- Loads under other names.
use Rattle.std.proofs.Common.{ℕ, zero, suc, ◌+◌, ◌≡◌, ◌∙◌, Bool, true, false, List, [], ◌∷◌, map, Option, Some, None, option_map, sym, ap, refl, subst}
use Rattle.std.specs.Prelude.{unwrap_or}
use Rattle.norm_lang.specs.declared.text.Reg.{Reg}
use Rattle.norm_lang.specs.declared.text.Text.{Text}
use Rattle.norm_lang.specs.declared.text.FieldDecl.{FieldDecl}
use Rattle.norm_lang.specs.declared.text.FieldKind.{FieldKind}
use Rattle.norm_lang.specs.declared.text.FieldKind.TheVariants as holdings
use Rattle.norm_lang.specs.declared.text.Instr.{Instr}
use Rattle.norm_lang.specs.declared.text.Instr.TheVariants as instr
use Rattle.norm_lang.specs.declared.registers.Reference.{Reference}
use Rattle.norm_lang.specs.declared.registers.Registers.{Registers}
use Rattle.norm_lang.specs.Registers.{number_in, reference_in}
use Rattle.norm_lang.specs.KindFields.{fields_of, owner_of, place_of}
use Rattle.norm_lang.specs.Local.{remainder}
use Rattle.source_machine.specs.declared.state.Value.{Value}
use Rattle.source_machine.specs.declared.state.Value.TheVariants.{Number, Node}
use Rattle.source_machine.specs.declared.state.Memory.{Memory}
use Rattle.source_machine.specs.Memory.{value_at, blank_of, blank_field, blank_fields, null_fields, fields_named, field_behind, loaded}
use Rattle.source_machine.specs.Proper.{field_of}
use Rattle.state_images.specs.Images.{Naming, Kept, renamed, renamed_value, renamed_registers, IsKeptValue, AreKept, IsMemoryImage, LoadsAreRenamed}
use Rattle.state_images.proofs.Renaming.{renamed_null, number_renamed, reference_renamed, reference_kept}
use Rattle.state_images.proofs.Standing.{value_map, field_image}

module _ (n : Naming) where
  pub blank_kept : (kind : FieldKind) → (renamed_value n (blank_of kind) ≡ blank_of kind) × IsKeptValue n (blank_of kind)
  blank_kept holdings.Number = (refl, tt)
  blank_kept (holdings.Reference k) = (ap Node (renamed_null n), n.null_kept)

  blanks_kept : (fields : List FieldDecl) (f : ℕ) → (renamed_value n (value_at (map blank_field fields) f) ≡ value_at (map blank_field fields) f) × IsKeptValue n (value_at (map blank_field fields) f)
  blanks_kept [] f = (refl, tt)
  blanks_kept (d ∷ ds) zero = blank_kept d.kind
  blanks_kept (d ∷ ds) (suc f) = blanks_kept ds f

  null_kept : (text : Text) (o : Option ℕ) (f : ℕ) → (renamed_value n (value_at (null_fields text o) f) ≡ value_at (null_fields text o) f) × IsKeptValue n (value_at (null_fields text o) f)
  null_kept text None f = (refl, tt)
  null_kept text (Some kind) f = blanks_kept (fields_of kind text.fields) f

  behind_renamed : (text : Text) (m m' : Memory) → IsMemoryImage n m m' → (reference : Reference) (f : ℕ) → Kept n reference.node
      → (field_behind text m' (renamed n reference) f ≡ renamed_value n (field_behind text m reference f)) × IsKeptValue n (field_behind text m reference f)
  behind_renamed text m m' image reference f kept =
      let k = of (fields_named reference.node m.nodes) refl in (ap (λ o. value_at (unwrap_or o (null_fields text (owner_of text.fields f))) (place_of text.fields f)) (image.fields reference.node kept) ∙ k.0, k.1) where
        place : ℕ
        place = place_of text.fields f

        nulls : List Value
        nulls = null_fields text (owner_of text.fields f)

        of : (o : Option (List Value)) → fields_named reference.node m.nodes ≡ o
            → (value_at (unwrap_or (option_map (map (renamed_value n)) o) nulls) place ≡ renamed_value n (value_at (unwrap_or o nulls) place)) × IsKeptValue n (value_at (unwrap_or o nulls) place)
        of None e = let k = null_kept text (owner_of text.fields f) place in (sym k.0, k.1)
        of (Some values) e = (value_map n values place, subst (λ o. IsKeptValue n (value_at (unwrap_or o []) place)) e (image.fields_kept reference.node place kept))

  root_renamed : (m m' : Memory) → IsMemoryImage n m m' → (x : ℕ) → (value_at m'.roots x ≡ renamed_value n (value_at m.roots x)) × IsKeptValue n (value_at m.roots x)
  root_renamed m m' image x = (ap (λ l. value_at l x) image.roots ∙ value_map n m.roots x, image.roots_kept x)

pub loads_are_renamed : LoadsAreRenamed
loads_are_renamed n text (instr.LoadRoot d x) g m m' image kept = root_renamed n m m' image x
loads_are_renamed n text (instr.LoadPick d x count a) g m m' image kept =
    let k = root_renamed n m m' image (x + remainder (number_in g a) count) in
    (ap (λ v. value_at m'.roots (x + remainder v count)) (number_renamed n g a) ∙ k.0, k.1)
loads_are_renamed n text (instr.LoadField d a f) g m m' image kept =
    let k = behind_renamed n text m m' image (reference_in g a) f (reference_kept n g a kept) in
    (ap (λ r. field_behind text m' r f) (reference_renamed n g a) ∙ k.0, k.1)
loads_are_renamed n text _ g m m' image kept = (refl, tt)
