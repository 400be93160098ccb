-- Which register is at fault if an instruction breaks a rule, by the rule's own definition.
use Rattle.std.specs.Prelude.{ℕ, Bool, false, ◌&&◌, ◌||◌, not, ◌⊎◌, List, Option, IsTrue}
use Rattle.std.specs.List.{list_any}
use Rattle.norm_lang.specs.declared.text.Reg.{Reg}
use Rattle.norm_lang.specs.declared.text.Reg.TheVariants.{Num, Ref}
use Rattle.norm_lang.specs.declared.text.FieldKind.{FieldKind}
use Rattle.norm_lang.specs.declared.text.FieldDecl.{FieldDecl}
use Rattle.norm_lang.specs.declared.text.RootDecl.{RootDecl}
use Rattle.norm_lang.specs.declared.text.Place.{Place}
use Rattle.norm_lang.specs.declared.text.Place.TheVariants as places
use Rattle.norm_lang.specs.declared.text.CasEntry.{CasEntry}
use Rattle.norm_lang.specs.declared.text.Instr.{Instr}
use Rattle.norm_lang.specs.declared.text.Instr.TheVariants as instr
use Rattle.norm_lang.specs.declared.text.Op.{Op}
use Rattle.norm_lang.specs.declared.text.Text.{Text}
use Rattle.norm_lang.specs.Freshness.{MayBeFresh, IsSurelyFresh}
use Rattle.norm_lang.specs.InstructionRules.{holds_number, are_of_two_kinds, field_kind, root_kind, place_kind, is_unlike, retires_stranger}
use Rattle.norm_lang.specs.Kept.{holds_reference, code_of, IsKept, MayBeUnset}
use Rattle.norm_lang.specs.NormalForm.{Rule, N1, N2, N3, N4, N5, N6, N7, N8, N9, N10, N11, N12, N13, N14, N15}
use Rattle.norm_lang.specs.PathRules.{reads_openly, is_commit, follows, exchanges}
use Rattle.norm_lang.specs.RegisterUse.{same_register, is_register_named, reads, sets}
use Rattle.kind_rules.specs.Asking.{IsOtherKindOf}

-- ---- N1

-- the register stands at a place of the instruction, and is of numbers, or of references, or unlike the declared kind
abbrev pub is_number_at : Reg → Reg → Bool
is_number_at r a = same_register r a && holds_number a

abbrev pub is_reference_at : Reg → Reg → Bool
is_reference_at r a = same_register r a && holds_reference a

abbrev pub is_unlike_at : Option FieldKind → Reg → Reg → Bool
is_unlike_at kind r a = same_register r a && is_unlike kind a

-- it is one of two that should be of one kind, and aren't
abbrev pub is_of_unlike_pair : Reg → Reg → Reg → Bool
is_of_unlike_pair r a b = are_of_two_kinds a b && (same_register r a || same_register r b)

-- it is the object of a place, and isn't a reference
abbrev pub is_wrong_object : Reg → Place → Bool
is_wrong_object r (places.Root x) = false
is_wrong_object r (places.Field a f) = is_number_at r a

-- it is an operand of an exchange, of the wrong kind
abbrev pub is_wrong_operand : List FieldDecl → List RootDecl → Reg → CasEntry → Bool
is_wrong_operand fields roots r entry =
    is_wrong_object r entry.place
    || (is_unlike_at (place_kind fields roots entry.place) r entry.expected || is_unlike_at (place_kind fields roots entry.place) r entry.replacement)

-- N1: the register is of another kind than its place in the instruction needs
abbrev pub is_misplaced : List FieldDecl → List RootDecl → Reg → Instr → Bool
is_misplaced fields roots r (instr.Set d n) = is_reference_at r d
is_misplaced fields roots r (instr.Mov d a) = is_of_unlike_pair r d a
is_misplaced fields roots r (instr.Add d a b) = is_reference_at r d
is_misplaced fields roots r (instr.Sub d a b) = is_reference_at r d
is_misplaced fields roots r (instr.Rem d a n) = is_reference_at r d
is_misplaced fields roots r (instr.Mark d a) = is_number_at r d || is_number_at r a
is_misplaced fields roots r (instr.Unmark d a) = is_number_at r d || is_number_at r a
is_misplaced fields roots r (instr.Null d) = is_number_at r d
is_misplaced fields roots r (instr.LoadRoot d x) = is_unlike_at (root_kind roots x) r d
is_misplaced fields roots r (instr.LoadPick d x n a) = is_unlike_at (root_kind roots x) r d
is_misplaced fields roots r (instr.LoadField d a f) = is_number_at r a || is_unlike_at (field_kind fields f) r d
is_misplaced fields roots r (instr.New d kind) = is_number_at r d
is_misplaced fields roots r (instr.Put a f b) = is_number_at r a || is_unlike_at (field_kind fields f) r b
is_misplaced fields roots r (instr.Cas entry l) = is_wrong_operand fields roots r entry
is_misplaced fields roots r (instr.Jump l) = false
is_misplaced fields roots r (instr.IfEq a b l) = is_of_unlike_pair r a b
is_misplaced fields roots r (instr.IfLess a b l) = false
is_misplaced fields roots r (instr.IfMarked a l) = is_number_at r a
is_misplaced fields roots r (instr.Commit entries) = list_any (is_wrong_operand fields roots r) entries
is_misplaced fields roots r (instr.Return a) = is_reference_at r a
is_misplaced fields roots r instr.ReturnNone = false
is_misplaced fields roots r instr.Again = false

-- ---- N2 and N12

-- N2: it is a reference, and computed with
abbrev pub is_computed_with : Reg → Instr → Bool
is_computed_with r (instr.Add d a b) = is_reference_at r a || is_reference_at r b
is_computed_with r (instr.Sub d a b) = is_reference_at r a || is_reference_at r b
is_computed_with r (instr.Rem d a n) = is_reference_at r a
is_computed_with r (instr.IfLess a b l) = is_reference_at r a || is_reference_at r b
is_computed_with r (instr.LoadPick d x n a) = is_reference_at r a
is_computed_with r _ = false

-- an exchange retires it, and mustn't
abbrev pub is_stranger_of : Reg → CasEntry → Bool
is_stranger_of r entry = is_register_named r entry.retire && retires_stranger entry

-- N12: the instruction retires it, and mustn't
abbrev pub is_retired_wrongly : Reg → Instr → Bool
is_retired_wrongly r (instr.Cas entry l) = is_stranger_of r entry
is_retired_wrongly r (instr.Commit entries) = list_any (is_stranger_of r) entries
is_retired_wrongly r _ = false

-- ---- N4 to N6

-- it is the object of a put, or its value, or what an auxiliary exchange shows
abbrev pub is_put_into : Reg → Instr → Bool
is_put_into r (instr.Put a f b) = same_register r a
is_put_into r _ = false

abbrev pub is_put : Reg → Instr → Bool
is_put r (instr.Put a f b) = same_register r b
is_put r _ = false

abbrev pub is_shown : Reg → Instr → Bool
is_shown r (instr.Cas entry l) = same_register r entry.replacement
is_shown r _ = false

-- N4: in a generator it is a put's object and isn't surely fresh, or its value and may be fresh. In a wrap-up the put is wrong itself
abbrev pub IsPutWrongly : Op → Bool → ℕ → Instr → Reg → Type 0
IsPutWrongly op wrapup at i r =
    IsTrue (not wrapup)
    × ((IsTrue (is_put_into r i) × (¬ IsSurelyFresh (code_of op wrapup) r at)) ⊎ (IsTrue (is_put r i) × MayBeFresh (code_of op wrapup) r at))

-- N6: it may be fresh, and is read openly, or is kept if the instruction is a commit
abbrev pub IsLeaked : Op → Bool → ℕ → Instr → Reg → Type 0
IsLeaked op wrapup at i r =
    (IsTrue (reads_openly r i) × MayBeFresh (code_of op wrapup) r at)
    ⊎ (IsTrue (is_commit i) × IsKept op r × MayBeFresh (code_of op wrapup) r at)

-- ---- N15

-- it may have another kind than the instruction asks it to be of. If a pick's roots are of several kinds, no register is at fault
abbrev pub IsOtherKindIn : Text → Op → Bool → ℕ → Instr → Reg → Type 0
IsOtherKindIn text op wrapup at i (Num n) = ⊥
IsOtherKindIn text op wrapup at i (Ref n) = IsOtherKindOf text op wrapup at i n

-- ---- all rules

-- a register is at fault by a rule, at the instruction `i` at a place of an operation: by N3, N7, N8 and N13 none is
abbrev pub IsAtFault : Rule → Text → Op → Bool → ℕ → Instr → Reg → Type 0
IsAtFault N1 text op wrapup at i r = IsTrue (is_misplaced text.fields text.roots r i)
IsAtFault N2 text op wrapup at i r = IsTrue (is_computed_with r i)
IsAtFault N3 text op wrapup at i r = ⊥
IsAtFault N4 text op wrapup at i r = IsPutWrongly op wrapup at i r
IsAtFault N5 text op wrapup at i r = IsTrue (is_shown r i) × MayBeFresh (code_of op wrapup) r at
IsAtFault N6 text op wrapup at i r = IsLeaked op wrapup at i r
IsAtFault N7 text op wrapup at i r = ⊥
IsAtFault N8 text op wrapup at i r = ⊥
IsAtFault N9 text op wrapup at i r = IsTrue wrapup × IsTrue (sets r i) × IsKept op r
IsAtFault N10 text op wrapup at i r = IsTrue wrapup × IsTrue (follows r i) × IsKept op r
IsAtFault N11 text op wrapup at i r = IsTrue wrapup × IsTrue (exchanges r i) × IsKept op r
IsAtFault N12 text op wrapup at i r = IsTrue (is_retired_wrongly r i)
IsAtFault N13 text op wrapup at i r = ⊥
IsAtFault N14 text op wrapup at i r = IsTrue (reads r i) × MayBeUnset op wrapup r at
IsAtFault N15 text op wrapup at i r = IsOtherKindIn text op wrapup at i r
