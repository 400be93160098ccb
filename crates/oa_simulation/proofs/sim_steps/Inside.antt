-- If an instruction asks the object of a field to be of the kind that has the field, the object is null, or has the field.
use Rattle.std.proofs.Common.{ℕ, ◌≡◌, ◌≢◌, ◌==◌, ◌<◌, ◌∙◌, true, false, List, [], length, Option, Some, None, arith, inl, inr, sym, ap, refl}
use Rattle.std.specs.Prelude.{slice_get, unwrap_or, is_some, IsTrue}
use Rattle.std.proofs.lemmas.Bool.Decides.{nat_tests}
use Rattle.norm_lang.specs.declared.text.Reg.{Reg}
use Rattle.norm_lang.specs.declared.text.Reg.TheVariants.{Num, Ref}
use Rattle.norm_lang.specs.declared.text.FieldKind.{FieldKind}
use Rattle.norm_lang.specs.declared.text.Place.{Place}
use Rattle.norm_lang.specs.declared.text.Place.TheVariants as places
use Rattle.norm_lang.specs.declared.text.Text.{Text}
use Rattle.norm_lang.specs.declared.registers.Registers.{Registers}
use Rattle.norm_lang.specs.InstructionRules.{field_kind, place_kind}
use Rattle.norm_lang.specs.KindFields.{owner_of, place_of}
use Rattle.norm_lang.specs.Kinds.{asks_object}
use Rattle.norm_lang.specs.Registers.{reference_in, node_in}
use Rattle.source_machine.specs.declared.state.Value.{Value}
use Rattle.source_machine.specs.declared.state.NamedNode.{NamedNode}
use Rattle.source_machine.specs.declared.state.Memory.{Memory}
use Rattle.source_machine.specs.Memory.{fields_named}
use Rattle.source_machine.proofs.Places.{kind_is_named}
use Rattle.run_ahead.specs.Typed.{IsNodeOf, IsTyped, field_kinds}
use Rattle.run_ahead.proofs.Mirroring.{same_itself}
use Rattle.run_ahead.proofs.TypedMemory.{field_at, place_inside as place_below}
use Rattle.oa_simulation.specs.sim_relation.Views.{value_count}

-- what is asked of the object of a place
abbrev pub IsObjectAsked : Text → List NamedNode → Registers → Place → Type 0
IsObjectAsked text nodes registers place = (r k : ℕ) → IsTrue (asks_object text.fields place r k) → IsNodeOf nodes k (node_in registers r)

-- it is of the kind that has the field
pub object_of_kind : (text : Text) (nodes : List NamedNode) (registers : Registers) (a : Reg) (f owner : ℕ) → IsObjectAsked text nodes registers (places.Field a f) → owner_of text.fields f ≡ Some owner
    → IsNodeOf nodes owner (reference_in registers a).node
object_of_kind text nodes registers (Num a) f owner asked is = inl refl
object_of_kind text nodes registers (Ref a) f owner asked is = asked a owner (rw (same_itself (Ref a), is) (let same : (owner == owner) ≡ true = grind (arith, nat_tests) in same))

-- so the field's place is below the count of its fields
pub field_inside : (text : Text) (memory : Memory) (registers : Registers) (a : Reg) (f : ℕ) (kind : FieldKind) → IsTyped text memory → IsObjectAsked text memory.nodes registers (places.Field a f) → field_kind text.fields f ≡ Some kind
    → (reference_in registers a).node ≢ 0 → place_of text.fields f < value_count memory (reference_in registers a).node
field_inside text memory registers a f kind typed asked is some = of (object_of_kind text memory.nodes registers a f at.0 asked at.1) where
  at : (owner : ℕ) × (owner_of text.fields f ≡ Some owner) × (slice_get (field_kinds text owner) (place_of text.fields f) ≡ Some kind)
  at = field_at text f kind is

  by_values : IsNodeOf memory.nodes at.0 (reference_in registers a).node → (o : Option (List Value)) → fields_named (reference_in registers a).node memory.nodes ≡ o → is_some o ≡ true → place_of text.fields f < length (unwrap_or o [])
  by_values node None none named = absurd (let no : false ≡ true = named in cc)
  by_values node (Some values) there named = place_below text f kind at.0 (reference_in registers a).node values memory typed at.1 node there is

  of : IsNodeOf memory.nodes at.0 (reference_in registers a).node → place_of text.fields f < value_count memory (reference_in registers a).node
  of (inl z) = absurd (some z)
  of (inr named) =
      by_values (inr named) (fields_named (reference_in registers a).node memory.nodes) refl (sym (kind_is_named (reference_in registers a).node memory.nodes) ∙ ap is_some named)

-- the same of a place, which may be a root
abbrev pub IsPlaceInside : Text → Memory → Registers → Place → Type 0
IsPlaceInside text memory registers (places.Root x) = Unit {0}
IsPlaceInside text memory registers (places.Field a f) = (reference_in registers a).node ≢ 0 → place_of text.fields f < value_count memory (reference_in registers a).node

pub place_inside : (text : Text) (memory : Memory) (registers : Registers) (p : Place) (kind : FieldKind) → IsTyped text memory → IsObjectAsked text memory.nodes registers p → place_kind text.fields text.roots p ≡ Some kind
    → IsPlaceInside text memory registers p
place_inside text memory registers (places.Root x) kind typed asked is = tt
place_inside text memory registers (places.Field a f) kind typed asked is = λ some. field_inside text memory registers a f kind typed asked is some
