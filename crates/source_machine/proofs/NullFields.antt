-- What null has in a field.
use Rattle.std.proofs.Common.{ℕ, zero, suc, ◌≡◌, ◌∙◌, List, [], ◌∷◌, Option, Some, None, ap, refl}
use Rattle.std.specs.Prelude.{map, option_map, slice_get}
use Rattle.norm_lang.specs.declared.text.FieldDecl.{FieldDecl}
use Rattle.norm_lang.specs.declared.text.Text.{Text}
use Rattle.norm_lang.specs.KindFields.{fields_of, owner_of, place_of}
use Rattle.norm_lang.proofs.FieldPlaces.{place_finds}
use Rattle.source_machine.specs.Memory.{value_at, blank_field, null_fields}
use Rattle.source_machine.specs.Plans.{blank_in}

blank_there : (fields : List FieldDecl) (at : ℕ) → value_at (map blank_field fields) at ≡ blank_in (slice_get fields at)
blank_there [] at = refl
blank_there (field ∷ fields) zero = refl
blank_there (field ∷ fields) (suc at) = blank_there fields at

-- null has in a field what a fresh node of the field's kind has there: 0 or null, as the field is declared
pub null_field : (text : Text) (f : ℕ) → value_at (null_fields text (owner_of text.fields f)) (place_of text.fields f) ≡ blank_in (slice_get text.fields f)
null_field text f = of (slice_get text.fields f) refl where
  of : (o : Option FieldDecl) → slice_get text.fields f ≡ o → value_at (null_fields text (owner_of text.fields f)) (place_of text.fields f) ≡ blank_in o
  of None found = rw found refl
  of (Some field) found =
      ap (λ (o : Option FieldDecl). value_at (null_fields text (option_map (λ (field : FieldDecl). field.owner) o)) (place_of text.fields f)) found
      ∙ blank_there (fields_of field.owner text.fields) (place_of text.fields f)
      ∙ ap blank_in (place_finds text.fields f field found)
