-- The register at fault and the broken rule.
use Rattle.std.proofs.Common.{◌≡◌, ℕ, inl, inr, Bool, true, false, not, ◌&&◌, ◌||◌, List, [], ◌∷◌, Option, Some, None, refl, subst, arith}
use Rattle.std.specs.Prelude.{IsTrue}
use Rattle.std.specs.List.{list_any}
use Rattle.std.proofs.lemmas.Bool.Decides.{nat_tests}
use Rattle.norm_lang.specs.declared.text.Reg.{Reg}
use Rattle.norm_lang.specs.declared.text.Reg.TheVariants.{Num, Ref}
use Rattle.norm_lang.specs.declared.text.FieldKind.{FieldKind}
use Rattle.norm_lang.specs.declared.text.FieldDecl.{FieldDecl}
use Rattle.norm_lang.specs.declared.text.RootDecl.{RootDecl}
use Rattle.norm_lang.specs.declared.text.Place.{Place}
use Rattle.norm_lang.specs.declared.text.Place.TheVariants as places
use Rattle.norm_lang.specs.declared.text.CasEntry.{CasEntry}
use Rattle.norm_lang.specs.declared.text.Instr.{Instr}
use Rattle.norm_lang.specs.declared.text.Instr.TheVariants as instr
use Rattle.norm_lang.specs.declared.text.Op.{Op}
use Rattle.norm_lang.specs.declared.text.Text.{Text}
use Rattle.norm_lang.specs.Freshness.{MayBeFresh, IsSurelyFresh}
use Rattle.norm_lang.specs.Kept.{code_of, holds_reference}
use Rattle.norm_lang.specs.Kinds.{picks_several, MixesKinds}
use Rattle.norm_lang.specs.InstructionRules.{holds_number, are_of_two_kinds, field_kind, root_kind, place_kind, is_unlike, has_wrong_object, has_wrong_operand, has_wrong_kind, computes_on_reference, is_stranger, retires_stranger, has_wrong_retire}
use Rattle.norm_lang.specs.NormalForm.{N1, N2, N3, N4, N5, N6, N7, N8, N9, N10, N11, N12, N13, N14, N15}
use Rattle.norm_lang.specs.PathRules.{HasWrongPut, ShowsFresh, LeaksFresh}
use Rattle.norm_lang.specs.RegisterUse.{same_register, is_register_named}
use Rattle.norm_paths.proofs.Within.{and_left, and_right, register_same}
use Rattle.std.proofs.lemmas.Bool.{or_cases, or_left, or_right, and_from}
use Rattle.norm_paths.proofs.Starting.{true_not}
use Rattle.rule_registers.specs.AtFault.{is_number_at, is_reference_at, is_unlike_at, is_of_unlike_pair, is_wrong_object, is_wrong_operand, is_misplaced, is_computed_with, is_stranger_of, is_retired_wrongly, is_shown, IsPutWrongly, IsLeaked, IsOtherKindIn}
use Rattle.rule_registers.specs.Laws.{BlamedIsBroken, BrokenIsBlamed}

-- ---- tests

same_self : (r : Reg) → IsTrue (same_register r r)
same_self (Num n) = grind (arith, nat_tests)
same_self (Ref n) = grind (arith, nat_tests)

either : (a b c d : Bool) → (IsTrue a → IsTrue c) → (IsTrue b → IsTrue d) → IsTrue (a || b) → IsTrue (c || d)
either a b c d one other is = elim (or_cases a b is) [
  | inl x ↦ or_left c d (one x)
  | inr y ↦ or_right c d (other y)
]

any_of : {X : Type 0} (p q : X → Bool) → ((x : X) → IsTrue (p x) → IsTrue (q x)) → (xs : List X) → IsTrue (list_any p xs) → IsTrue (list_any q xs)
any_of p q gives [] is = is
any_of p q gives (x ∷ xs) is = either (p x) (list_any p xs) (q x) (list_any q xs) (gives x) (any_of p q gives xs) is

-- a register for one test or for another
of_either : (a b : Bool) (p q : Reg → Bool) → (IsTrue a → (r : Reg) × IsTrue (p r)) → (IsTrue b → (r : Reg) × IsTrue (q r)) → IsTrue (a || b) → (r : Reg) × IsTrue (p r || q r)
of_either a b p q one other is = elim (or_cases a b is) [
  | inl x ↦ ((one x).0, or_left (p (one x).0) (q (one x).0) (one x).1)
  | inr y ↦ ((other y).0, or_right (p (other y).0) (q (other y).0) (other y).1)
]

-- ---- N1 and N2: a register at fault breaks the rule

number_there : (r a : Reg) → IsTrue (is_number_at r a) → IsTrue (holds_number a)
number_there r a is = and_right (same_register r a) (holds_number a) is

reference_there : (r a : Reg) → IsTrue (is_reference_at r a) → IsTrue (holds_reference a)
reference_there r a is = and_right (same_register r a) (holds_reference a) is

unlike_there : (kind : Option FieldKind) (r a : Reg) → IsTrue (is_unlike_at kind r a) → IsTrue (is_unlike kind a)
unlike_there kind r a is = and_right (same_register r a) (is_unlike kind a) is

pair_there : (r a b : Reg) → IsTrue (is_of_unlike_pair r a b) → IsTrue (are_of_two_kinds a b)
pair_there r a b is = and_left (are_of_two_kinds a b) (same_register r a || same_register r b) is

object_there : (r : Reg) (place : Place) → IsTrue (is_wrong_object r place) → IsTrue (has_wrong_object place)
object_there r (places.Root x) is = is
object_there r (places.Field a f) is = number_there r a is

module _ (fields : List FieldDecl) (roots : List RootDecl) where
  operand_there : (r : Reg) (entry : CasEntry) → IsTrue (is_wrong_operand fields roots r entry) → IsTrue (has_wrong_operand fields roots entry)
  operand_there r entry is =
      let kind = place_kind fields roots entry.place in
      either (is_wrong_object r entry.place) (is_unlike_at kind r entry.expected || is_unlike_at kind r entry.replacement) (has_wrong_object entry.place) (is_unlike kind entry.expected || is_unlike kind entry.replacement)
      (object_there r entry.place)
      (either (is_unlike_at kind r entry.expected) (is_unlike_at kind r entry.replacement) (is_unlike kind entry.expected) (is_unlike kind entry.replacement) (unlike_there kind r entry.expected) (unlike_there kind r entry.replacement))
      is

  two_numbers_there : (r a b : Reg) → IsTrue (is_number_at r a || is_number_at r b) → IsTrue (holds_number a || holds_number b)
  two_numbers_there r a b is = either (is_number_at r a) (is_number_at r b) (holds_number a) (holds_number b) (number_there r a) (number_there r b) is

  held_there : (kind : Option FieldKind) (r a d : Reg) → IsTrue (is_number_at r a || is_unlike_at kind r d) → IsTrue (holds_number a || is_unlike kind d)
  held_there kind r a d is = either (is_number_at r a) (is_unlike_at kind r d) (holds_number a) (is_unlike kind d) (number_there r a) (unlike_there kind r d) is

  misplaced_there : (r : Reg) (i : Instr) → IsTrue (is_misplaced fields roots r i) → IsTrue (has_wrong_kind fields roots i)
  misplaced_there r (instr.Set d n) is = reference_there r d is
  misplaced_there r (instr.Mov d a) is = pair_there r d a is
  misplaced_there r (instr.Add d a b) is = reference_there r d is
  misplaced_there r (instr.Sub d a b) is = reference_there r d is
  misplaced_there r (instr.Rem d a n) is = reference_there r d is
  misplaced_there r (instr.Mark d a) is = two_numbers_there r d a is
  misplaced_there r (instr.Unmark d a) is = two_numbers_there r d a is
  misplaced_there r (instr.Null d) is = number_there r d is
  misplaced_there r (instr.LoadRoot d x) is = unlike_there (root_kind roots x) r d is
  misplaced_there r (instr.LoadPick d x n a) is = unlike_there (root_kind roots x) r d is
  misplaced_there r (instr.LoadField d a f) is = held_there (field_kind fields f) r a d is
  misplaced_there r (instr.New d kind) is = number_there r d is
  misplaced_there r (instr.Put a f b) is = held_there (field_kind fields f) r a b is
  misplaced_there r (instr.Cas entry l) is = operand_there r entry is
  misplaced_there r (instr.Jump l) is = is
  misplaced_there r (instr.IfEq a b l) is = pair_there r a b is
  misplaced_there r (instr.IfLess a b l) is = is
  misplaced_there r (instr.IfMarked a l) is = number_there r a is
  misplaced_there r (instr.Commit entries) is = any_of (is_wrong_operand fields roots r) (has_wrong_operand fields roots) (operand_there r) entries is
  misplaced_there r (instr.Return a) is = reference_there r a is
  misplaced_there r instr.ReturnNone is = is
  misplaced_there r instr.Again is = is

two_references_there : (r a b : Reg) → IsTrue (is_reference_at r a || is_reference_at r b) → IsTrue (holds_reference a || holds_reference b)
two_references_there r a b is = either (is_reference_at r a) (is_reference_at r b) (holds_reference a) (holds_reference b) (reference_there r a) (reference_there r b) is

computed_there : (r : Reg) (i : Instr) → IsTrue (is_computed_with r i) → IsTrue (computes_on_reference i)
computed_there r (instr.Add d a b) is = two_references_there r a b is
computed_there r (instr.Sub d a b) is = two_references_there r a b is
computed_there r (instr.Rem d a n) is = reference_there r a is
computed_there r (instr.IfLess a b l) is = two_references_there r a b is
computed_there r (instr.LoadPick d x n a) is = reference_there r a is
computed_there r _ is = is

-- ---- N4, N5, N12 and N15

put_there : (op : Op) (wrapup : Bool) (at : ℕ) (i : Instr) (r : Reg) → IsPutWrongly op wrapup at i r → HasWrongPut op wrapup at i
put_there op wrapup at (instr.Put a f b) r wrong = elim wrong.1 [
  | inl into ↦ inr (inl (subst (λ (s : Reg). ¬ IsSurelyFresh (code_of op wrapup) s at) (register_same r a into.0) into.1))
  | inr put ↦ inr (inr (subst (λ (s : Reg). MayBeFresh (code_of op wrapup) s at) (register_same r b put.0) put.1))
]
put_there op wrapup at _ r wrong = elim wrong.1 [
  | inl into ↦ (let no : false ≡ true = into.0 in cc)
  | inr put ↦ (let no : false ≡ true = put.0 in cc)
]

shown_there : (op : Op) (wrapup : Bool) (at : ℕ) (i : Instr) (r : Reg) → IsTrue (is_shown r i) → MayBeFresh (code_of op wrapup) r at → ShowsFresh op wrapup at i
shown_there op wrapup at (instr.Cas entry l) r is fresh = subst (λ (s : Reg). MayBeFresh (code_of op wrapup) s at) (register_same r entry.replacement is) fresh
shown_there op wrapup at _ r is fresh = let no : false ≡ true = is in cc

leaked_there : (op : Op) (wrapup : Bool) (at : ℕ) (i : Instr) (r : Reg) → IsLeaked op wrapup at i r → LeaksFresh op wrapup at i
leaked_there op wrapup at i r leaks = elim leaks [
  | inl one ↦ inl (r, one.0, one.1)
  | inr two ↦ inr (two.0, (r, two.1, two.2))
]

stranger_there : (r : Reg) (entry : CasEntry) → IsTrue (is_stranger_of r entry) → IsTrue (retires_stranger entry)
stranger_there r entry is = and_right (is_register_named r entry.retire) (retires_stranger entry) is

retired_there : (r : Reg) (i : Instr) → IsTrue (is_retired_wrongly r i) → IsTrue (has_wrong_retire i)
retired_there r (instr.Cas entry l) is = stranger_there r entry is
retired_there r (instr.Commit entries) is = any_of (is_stranger_of r) retires_stranger (stranger_there r) entries is
retired_there r _ is = is

other_kind_there : (text : Text) (op : Op) (wrapup : Bool) (at : ℕ) (i : Instr) (r : Reg) → IsOtherKindIn text op wrapup at i r → MixesKinds text op wrapup at i
other_kind_there text op wrapup at i (Num n) other = absurd other
other_kind_there text op wrapup at i (Ref n) other = inr other.0

pub blamed_is_broken : BlamedIsBroken
blamed_is_broken N1 text op wrapup at i r blamed = misplaced_there text.fields text.roots r i blamed
blamed_is_broken N2 text op wrapup at i r blamed = computed_there r i blamed
blamed_is_broken N3 text op wrapup at i r blamed = absurd blamed
blamed_is_broken N4 text op wrapup at i r blamed = put_there op wrapup at i r blamed
blamed_is_broken N5 text op wrapup at i r blamed = shown_there op wrapup at i r blamed.0 blamed.1
blamed_is_broken N6 text op wrapup at i r blamed = leaked_there op wrapup at i r blamed
blamed_is_broken N7 text op wrapup at i r blamed = absurd blamed
blamed_is_broken N8 text op wrapup at i r blamed = absurd blamed
blamed_is_broken N9 text op wrapup at i r blamed = (blamed.0, (r, blamed.1, blamed.2))
blamed_is_broken N10 text op wrapup at i r blamed = (blamed.0, (r, blamed.1, blamed.2))
blamed_is_broken N11 text op wrapup at i r blamed = (blamed.0, (r, blamed.1, blamed.2))
blamed_is_broken N12 text op wrapup at i r blamed = retired_there r i blamed
blamed_is_broken N13 text op wrapup at i r blamed = absurd blamed
blamed_is_broken N14 text op wrapup at i r blamed = (r, blamed.0, blamed.1)
blamed_is_broken N15 text op wrapup at i r blamed = other_kind_there text op wrapup at i r blamed

-- ---- a broken rule has a register at fault

number_blamed : (a : Reg) → IsTrue (holds_number a) → (r : Reg) × IsTrue (is_number_at r a)
number_blamed a is = (a, and_from (same_register a a) (holds_number a) (same_self a) is)

reference_blamed : (a : Reg) → IsTrue (holds_reference a) → (r : Reg) × IsTrue (is_reference_at r a)
reference_blamed a is = (a, and_from (same_register a a) (holds_reference a) (same_self a) is)

unlike_blamed : (kind : Option FieldKind) (a : Reg) → IsTrue (is_unlike kind a) → (r : Reg) × IsTrue (is_unlike_at kind r a)
unlike_blamed kind a is = (a, and_from (same_register a a) (is_unlike kind a) (same_self a) is)

pair_blamed : (a b : Reg) → IsTrue (are_of_two_kinds a b) → (r : Reg) × IsTrue (is_of_unlike_pair r a b)
pair_blamed a b is = (a, and_from (are_of_two_kinds a b) (same_register a a || same_register a b) is (or_left (same_register a a) (same_register a b) (same_self a)))

object_blamed : (place : Place) → IsTrue (has_wrong_object place) → (r : Reg) × IsTrue (is_wrong_object r place)
object_blamed (places.Root x) is = let no : false ≡ true = is in cc
object_blamed (places.Field a f) is = number_blamed a is

two_numbers_blamed : (a b : Reg) → IsTrue (holds_number a || holds_number b) → (r : Reg) × IsTrue (is_number_at r a || is_number_at r b)
two_numbers_blamed a b is = of_either (holds_number a) (holds_number b) (λ r. is_number_at r a) (λ r. is_number_at r b) (number_blamed a) (number_blamed b) is

two_references_blamed : (a b : Reg) → IsTrue (holds_reference a || holds_reference b) → (r : Reg) × IsTrue (is_reference_at r a || is_reference_at r b)
two_references_blamed a b is = of_either (holds_reference a) (holds_reference b) (λ r. is_reference_at r a) (λ r. is_reference_at r b) (reference_blamed a) (reference_blamed b) is

held_blamed : (kind : Option FieldKind) (a d : Reg) → IsTrue (holds_number a || is_unlike kind d) → (r : Reg) × IsTrue (is_number_at r a || is_unlike_at kind r d)
held_blamed kind a d is = of_either (holds_number a) (is_unlike kind d) (λ r. is_number_at r a) (λ r. is_unlike_at kind r d) (number_blamed a) (unlike_blamed kind d) is

module _ (fields : List FieldDecl) (roots : List RootDecl) where
  operand_blamed : (entry : CasEntry) → IsTrue (has_wrong_operand fields roots entry) → (r : Reg) × IsTrue (is_wrong_operand fields roots r entry)
  operand_blamed entry is =
      let kind = place_kind fields roots entry.place in
      of_either (has_wrong_object entry.place) (is_unlike kind entry.expected || is_unlike kind entry.replacement)
      (λ r. is_wrong_object r entry.place) (λ r. is_unlike_at kind r entry.expected || is_unlike_at kind r entry.replacement)
      (object_blamed entry.place)
      (of_either (is_unlike kind entry.expected) (is_unlike kind entry.replacement) (λ r. is_unlike_at kind r entry.expected) (λ r. is_unlike_at kind r entry.replacement) (unlike_blamed kind entry.expected) (unlike_blamed kind entry.replacement))
      is

  some_operand_blamed : (entries : List CasEntry) → IsTrue (list_any (has_wrong_operand fields roots) entries) → (r : Reg) × IsTrue (list_any (is_wrong_operand fields roots r) entries)
  some_operand_blamed [] is = let no : false ≡ true = is in cc
  some_operand_blamed (entry ∷ entries) is =
      of_either (has_wrong_operand fields roots entry) (list_any (has_wrong_operand fields roots) entries)
      (λ r. is_wrong_operand fields roots r entry) (λ r. list_any (is_wrong_operand fields roots r) entries)
      (operand_blamed entry) (some_operand_blamed entries) is

  misplaced_blamed : (i : Instr) → IsTrue (has_wrong_kind fields roots i) → (r : Reg) × IsTrue (is_misplaced fields roots r i)
  misplaced_blamed (instr.Set d n) is = reference_blamed d is
  misplaced_blamed (instr.Mov d a) is = pair_blamed d a is
  misplaced_blamed (instr.Add d a b) is = reference_blamed d is
  misplaced_blamed (instr.Sub d a b) is = reference_blamed d is
  misplaced_blamed (instr.Rem d a n) is = reference_blamed d is
  misplaced_blamed (instr.Mark d a) is = two_numbers_blamed d a is
  misplaced_blamed (instr.Unmark d a) is = two_numbers_blamed d a is
  misplaced_blamed (instr.Null d) is = number_blamed d is
  misplaced_blamed (instr.LoadRoot d x) is = unlike_blamed (root_kind roots x) d is
  misplaced_blamed (instr.LoadPick d x n a) is = unlike_blamed (root_kind roots x) d is
  misplaced_blamed (instr.LoadField d a f) is = held_blamed (field_kind fields f) a d is
  misplaced_blamed (instr.New d kind) is = number_blamed d is
  misplaced_blamed (instr.Put a f b) is = held_blamed (field_kind fields f) a b is
  misplaced_blamed (instr.Cas entry l) is = operand_blamed entry is
  misplaced_blamed (instr.Jump l) is = let no : false ≡ true = is in cc
  misplaced_blamed (instr.IfEq a b l) is = pair_blamed a b is
  misplaced_blamed (instr.IfLess a b l) is = let no : false ≡ true = is in cc
  misplaced_blamed (instr.IfMarked a l) is = number_blamed a is
  misplaced_blamed (instr.Commit entries) is = some_operand_blamed entries is
  misplaced_blamed (instr.Return a) is = reference_blamed a is
  misplaced_blamed instr.ReturnNone is = let no : false ≡ true = is in cc
  misplaced_blamed instr.Again is = let no : false ≡ true = is in cc

computed_blamed : (i : Instr) → IsTrue (computes_on_reference i) → (r : Reg) × IsTrue (is_computed_with r i)
computed_blamed (instr.Add d a b) is = two_references_blamed a b is
computed_blamed (instr.Sub d a b) is = two_references_blamed a b is
computed_blamed (instr.Rem d a n) is = reference_blamed a is
computed_blamed (instr.IfLess a b l) is = two_references_blamed a b is
computed_blamed (instr.LoadPick d x n a) is = reference_blamed a is
computed_blamed _ is = let no : false ≡ true = is in cc

put_blamed : (op : Op) (wrapup : Bool) (at : ℕ) (i : Instr) → IsTrue (not wrapup) → HasWrongPut op wrapup at i → (r : Reg) × IsPutWrongly op wrapup at i r
put_blamed op wrapup at (instr.Put a f b) isnt wrong = elim wrong [
  | inl up ↦ absurd (true_not wrapup isnt up)
  | inr (inl never) ↦ (a, (isnt, inl (same_self a, never)))
  | inr (inr fresh) ↦ (b, (isnt, inr (same_self b, fresh)))
]
put_blamed op wrapup at _ isnt wrong = absurd wrong

shown_blamed : (op : Op) (wrapup : Bool) (at : ℕ) (i : Instr) → ShowsFresh op wrapup at i → (r : Reg) × IsTrue (is_shown r i) × MayBeFresh (code_of op wrapup) r at
shown_blamed op wrapup at (instr.Cas entry l) fresh = (entry.replacement, same_self entry.replacement, fresh)
shown_blamed op wrapup at _ fresh = absurd fresh

leaked_blamed : (op : Op) (wrapup : Bool) (at : ℕ) (i : Instr) → LeaksFresh op wrapup at i → (r : Reg) × IsLeaked op wrapup at i r
leaked_blamed op wrapup at i leaks = elim leaks [
  | inl one ↦ (one.0, inl (one.1, one.2))
  | inr two ↦ (two.1.0, inr (two.0, two.1.1, two.1.2))
]

named_blamed : (entry : CasEntry) (retire : Option Reg) → IsTrue (is_stranger entry retire) → (r : Reg) × IsTrue (is_register_named r retire && is_stranger entry retire)
named_blamed entry None is = let no : false ≡ true = is in cc
named_blamed entry (Some a) is = (a, and_from (same_register a a) (is_stranger entry (Some a)) (same_self a) is)

stranger_blamed : (entry : CasEntry) → IsTrue (retires_stranger entry) → (r : Reg) × IsTrue (is_stranger_of r entry)
stranger_blamed entry is = named_blamed entry entry.retire is

some_stranger_blamed : (entries : List CasEntry) → IsTrue (list_any retires_stranger entries) → (r : Reg) × IsTrue (list_any (is_stranger_of r) entries)
some_stranger_blamed [] is = let no : false ≡ true = is in cc
some_stranger_blamed (entry ∷ entries) is =
    of_either (retires_stranger entry) (list_any retires_stranger entries) (λ r. is_stranger_of r entry) (λ r. list_any (is_stranger_of r) entries)
    (stranger_blamed entry) (some_stranger_blamed entries) is

retired_blamed : (i : Instr) → IsTrue (has_wrong_retire i) → (r : Reg) × IsTrue (is_retired_wrongly r i)
retired_blamed (instr.Cas entry l) is = stranger_blamed entry is
retired_blamed (instr.Commit entries) is = some_stranger_blamed entries is
retired_blamed _ is = let no : false ≡ true = is in cc

other_kind_blamed : (text : Text) (op : Op) (wrapup : Bool) (at : ℕ) (i : Instr) → IsTrue (not (picks_several text.roots i)) → MixesKinds text op wrapup at i → (r : Reg) × IsOtherKindIn text op wrapup at i r
other_kind_blamed text op wrapup at i single mixes = elim mixes [
  | inl several ↦ absurd (true_not (picks_several text.roots i) single several)
  | inr other ↦ (Ref other.register, (other, refl))
]

pub broken_is_blamed : BrokenIsBlamed
broken_is_blamed N1 text op wrapup at i given broken = misplaced_blamed text.fields text.roots i broken
broken_is_blamed N2 text op wrapup at i given broken = computed_blamed i broken
broken_is_blamed N3 text op wrapup at i given broken = absurd given
broken_is_blamed N4 text op wrapup at i given broken = put_blamed op wrapup at i given broken
broken_is_blamed N5 text op wrapup at i given broken = let shown = shown_blamed op wrapup at i broken in (shown.0, (shown.1, shown.2))
broken_is_blamed N6 text op wrapup at i given broken = leaked_blamed op wrapup at i broken
broken_is_blamed N7 text op wrapup at i given broken = absurd given
broken_is_blamed N8 text op wrapup at i given broken = absurd given
broken_is_blamed N9 text op wrapup at i given broken = (broken.1.0, (broken.0, broken.1.1, broken.1.2))
broken_is_blamed N10 text op wrapup at i given broken = (broken.1.0, (broken.0, broken.1.1, broken.1.2))
broken_is_blamed N11 text op wrapup at i given broken = (broken.1.0, (broken.0, broken.1.1, broken.1.2))
broken_is_blamed N12 text op wrapup at i given broken = retired_blamed i broken
broken_is_blamed N13 text op wrapup at i given broken = absurd given
broken_is_blamed N14 text op wrapup at i given broken = (broken.0, (broken.1, broken.2))
broken_is_blamed N15 text op wrapup at i given broken = other_kind_blamed text op wrapup at i given broken
