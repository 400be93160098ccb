-- The fields of a kind, and where a field stands among them.
use Rattle.std.specs.Prelude.{ℕ, List, length, take, Option, Some, None, option_map, ◌==◌, slice_get}
use Rattle.std.specs.List.{filter}
use Rattle.norm_lang.specs.declared.text.FieldDecl.{FieldDecl}

-- the fields of a kind, in their order
abbrev pub fields_of : ℕ → List FieldDecl → List FieldDecl
fields_of owner fields = filter (λ field. field.owner == owner) fields

-- the kind that a field is of, if the field is declared
abbrev pub owner_of : List FieldDecl → ℕ → Option ℕ
owner_of fields f = option_map (λ field. field.owner) (slice_get fields f)

-- how many fields of a kind stand before a field; a field that isn't declared keeps its number
abbrev pub place_among : Option ℕ → List FieldDecl → ℕ → ℕ
place_among (Some owner) fields f = length (fields_of owner (take f fields))
place_among None fields f = f

-- the place of a field among those of its kind, which is its place in a node and in memory
abbrev pub place_of : List FieldDecl → ℕ → ℕ
place_of fields f = place_among (owner_of fields f) fields f
