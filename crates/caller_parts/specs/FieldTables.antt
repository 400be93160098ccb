-- A table of where each field of a target stands among those of its kind, and of how many fields each kind has.
use Rattle.std.specs.Prelude.{◌≡◌, ℕ, ◌<◌, List, slice_index}
use Rattle.norm_lang.specs.declared.text.FieldDecl.{FieldDecl}
use Rattle.norm_lang.specs.KindFields.{place_of}
use Rattle.caller_parts.specs.KindCounts.{field_count}
use Rattle.caller_parts.specs.declared.fields.FieldTable.{FieldTable}

-- it is that of the fields: right for the first sixteen of them, and for four kinds
pub record IsFieldTable (fields : List FieldDecl) (table : FieldTable) : Type 0 where
  pub places : (f : ℕ) → f < 16 → slice_index table.places f ≡ place_of fields f
  pub counts : (t : ℕ) → t < 4 → slice_index table.counts t ≡ field_count fields t
