-- Rows of compiled code: flaws of small targets, and where a target is told to erase differently.
use Rattle.std.specs.Prelude.{ℕ, Bool, true, false, List, [], ◌∷◌, drop, codes}
use Rattle.norm_lang.specs.declared.text.Start.TheVariants as starts
use Rattle.norm_lang.specs.declared.text.Instr.{Instr}
use Rattle.norm_lang.specs.declared.text.Instr.TheVariants.{Set, Null, LoadRoot, LoadPick, LoadField, New, Put, IfEq, IfMarked, Commit, Return, ReturnNone}
use Rattle.norm_lang.specs.declared.text.Text.{Text}
use Rattle.norm_lang.specs.LineWords.{item_kind}
use Rattle.norm_lang.specs.Shipped.{reference_field, reference_root, root_entry}
use Rattle.target_code.specs.declared.target.TargetInstr.{TargetInstr}
use Rattle.target_code.specs.declared.target.TargetInstr.TheVariants.{Plain, Check, Guard}
use Rattle.target_code.specs.declared.target.TargetOp.{TargetOp}
use Rattle.target_code.specs.declared.target.Target.{Target}
use Rattle.target_code.specs.Erasing.{erased, ErasesTo}
use Rattle.target_code.specs.Barred.{FlawKind, ErasesDifferently, UncheckedUse, Unguarded, GuardAfterCheck, GuardDropped, HasFlaw, IsFirstFlaw}
use Rattle.worked_rows.specs.Small.{n0, n1, n2, n7, r0, r1, key, first, ten, small_fields, small_roots, small_nodes, over}

-- operations of a target over the small declarations
abbrev pub barred_over : List TargetOp → Target
barred_over ops = record { kinds = item_kind ∷ []; fields = small_fields; roots = small_roots; nodes = small_nodes; ops = ops }

abbrev pub barred : List TargetInstr → List TargetInstr → Target
barred generator wrapup = barred_over (record { name = codes "does"; args = 1; generator = generator; wrapup = wrapup } ∷ [])

-- for the text that is left of it the target has a flaw: in its generator, or in its wrap-up, at a place
abbrev pub IsSpoilt : List TargetInstr → List TargetInstr → FlawKind → Bool → ℕ → Type 0
IsSpoilt generator wrapup kind inside at =
    HasFlaw (barred generator wrapup) (erased (barred generator wrapup)) (record { kind = kind; op = 0; wrapup = inside; at = at })

abbrev pub only_replies : List TargetInstr
only_replies = Plain ReturnNone ∷ []

-- a guarded register is set, and a check stands after that
abbrev pub sets_guarded : List TargetInstr
sets_guarded = Guard r0 ∷ Check ∷ Plain (Null r0) ∷ Check ∷ Plain (Commit (root_entry first r0 r0 ∷ [])) ∷ []

-- an exchange whose expected operand has no guard, while the new one has; and one whose check stands before its guard
abbrev pub guards_the_new : List TargetInstr
guards_the_new = Plain (LoadRoot r0 first) ∷ Plain (Null r1) ∷ Guard r1 ∷ Check ∷ Plain (Commit (root_entry first r0 r1 ∷ [])) ∷ []

abbrev pub checks_then_guards : List TargetInstr
checks_then_guards = Plain (LoadRoot r0 first) ∷ Check ∷ Guard r0 ∷ Plain (Commit (root_entry first r0 r0 ∷ [])) ∷ []

-- what a pick, a load of a field or a `new` gave is used without a check
abbrev pub picks : List TargetInstr
picks = Plain (LoadPick r0 first 2 n0) ∷ Plain (IfMarked r0 2) ∷ Plain (Commit []) ∷ []

abbrev pub loads_key : List TargetInstr
loads_key = Plain (LoadRoot r0 first) ∷ Check ∷ Plain (LoadField n1 r0 key) ∷ Plain (IfEq n1 n0 4) ∷ Plain (Commit []) ∷ []

abbrev pub makes : List TargetInstr
makes = Plain (New r0 0) ∷ Plain (Put r0 key n0) ∷ Plain (Commit []) ∷ []

-- a load into n7 right before the commit, and a wrap-up that returns n7
abbrev pub loads_count : List TargetInstr
loads_count = Plain (LoadRoot n7 ten) ∷ Plain (Commit []) ∷ []

abbrev pub returns_count : List TargetInstr
returns_count = Plain (Return n7) ∷ []

-- a text of two operations, the second with a jump
abbrev pub sets_six : List Instr
sets_six = Set n1 6 ∷ ReturnNone ∷ []

abbrev pub original : Text
original =
    over (
    record { name = codes "one"; args = 1; generator = Commit [] ∷ []; wrapup = sets_six }
    ∷ record { name = codes "two"; args = 0; generator = Set n1 6 ∷ LoadRoot n2 ten ∷ IfEq n2 n1 3 ∷ Commit [] ∷ []; wrapup = sets_six }
    ∷ [])

-- parts of targets for it: a wrap-up that sets n1 to a number, and the second operation's generator that does, with a jump
abbrev pub wrap_up_with : ℕ → List TargetInstr
wrap_up_with n = Plain (Set n1 n) ∷ Plain ReturnNone ∷ []

abbrev pub generator_with : ℕ → ℕ → List TargetInstr
generator_with n l = Plain (Set n1 n) ∷ Plain (LoadRoot n2 ten) ∷ Check ∷ Plain (IfEq n2 n1 l) ∷ Plain (Commit []) ∷ []

abbrev pub op_one : TargetOp
op_one = record { name = codes "one"; args = 1; generator = Plain (Commit []) ∷ []; wrapup = wrap_up_with 6 }

abbrev pub op_two : TargetOp
op_two = record { name = codes "two"; args = 0; generator = generator_with 6 4; wrapup = wrap_up_with 6 }

-- the target that erases to it
abbrev pub compiled : Target
compiled = barred_over (op_one ∷ op_two ∷ [])

-- targets that don't, by a field, a root or a node
abbrev pub other_field : Target
other_field = record compiled { fields = reference_field (codes "key") ∷ reference_field (codes "next") ∷ [] }

abbrev pub other_root : Target
other_root = record compiled { roots = reference_root (codes "first") 2 ∷ drop 1 small_roots }

abbrev pub other_node : Target
other_node = record compiled { nodes = record { owner = 0; values = starts.Value 5 ∷ starts.Node 2 ∷ [] } ∷ record { owner = 0; values = starts.Value 6 ∷ starts.Node 0 ∷ [] } ∷ [] }

-- by how many operations there are
abbrev pub more_operations : Target
more_operations = barred_over (op_one ∷ op_two ∷ op_one ∷ [])

abbrev pub fewer_operations : Target
fewer_operations = barred_over (op_one ∷ [])

-- by the second operation's name, its count of arguments, a number in its generator or wrap-up, or a jump
abbrev pub second_is : TargetOp → Target
second_is op = barred_over (op_one ∷ op ∷ [])

abbrev pub other_name : Target
other_name = second_is (record op_two { name = codes "too" })

abbrev pub other_args : Target
other_args = second_is (record op_two { args = 1 })

abbrev pub other_generator : Target
other_generator = second_is (record op_two { generator = generator_with 5 4 })

abbrev pub other_wrap_up : Target
other_wrap_up = second_is (record op_two { wrapup = wrap_up_with 5 })

-- the jump has the number that it has in the text: 3, before which two other instructions stand
abbrev pub other_jump : Target
other_jump = second_is (record op_two { generator = generator_with 6 3 })

-- two differences: in the first operation's wrap-up, and in the second's generator
abbrev pub two_differences : Target
two_differences = barred_over (record op_one { wrapup = wrap_up_with 5 } ∷ record op_two { generator = generator_with 5 4 } ∷ [])

-- a use without a check in the first operation, for a text that has it too, and a difference in the second's wrap-up
abbrev pub uses_and_differs : Target
uses_and_differs = barred_over (record op_one { generator = picks } ∷ record op_two { wrapup = wrap_up_with 5 } ∷ [])

abbrev pub text_that_picks : Text
text_that_picks = erased (barred_over (record op_one { generator = picks } ∷ op_two ∷ []))

-- the first flaw of a target for a text is that it erases differently, and its place is an operation's generator or wrap-up
abbrev pub IsOtherAt : Target → Text → ℕ → Bool → Type 0
IsOtherAt target text op inside = IsFirstFlaw target text (record { kind = ErasesDifferently; op = op; wrapup = inside; at = 0 })

pub record FlawRows : Type 0 where
  -- setting a register drops its guard, and no later check brings it back
  pub dropped_by_setting : IsSpoilt sets_guarded only_replies GuardDropped false 4
  -- the expected operand of an exchange needs a guard, and each guard a check after it
  pub expected_unguarded : IsSpoilt guards_the_new only_replies Unguarded false 4
  pub guarded_after_check : IsSpoilt checks_then_guards only_replies GuardAfterCheck false 3
  -- what a pick gave needs its check, as what a load of a field or a `new` gave does
  pub picked_unchecked : IsSpoilt picks only_replies UncheckedUse false 1
  pub field_unchecked : IsSpoilt loads_key only_replies UncheckedUse false 3
  pub new_unchecked : IsSpoilt makes only_replies UncheckedUse false 1
  -- n7 isn't handed over to the wrap-up, so a commit doesn't use what was loaded into it
  pub count_not_handed_over : ¬ IsSpoilt loads_count returns_count UncheckedUse false 1

pub record ErasingRows : Type 0 where
  pub nothing_differs : ErasesTo compiled original
  -- what stands before the operations, and their count, is told as the first generator
  pub field_differs : IsOtherAt other_field original 0 false
  pub root_differs : IsOtherAt other_root original 0 false
  pub node_differs : IsOtherAt other_node original 0 false
  pub more_than_there_are : IsOtherAt more_operations original 0 false
  pub fewer_than_there_are : IsOtherAt fewer_operations original 0 false
  -- an operation's name and count of arguments are told as its generator
  pub name_differs : IsOtherAt other_name original 1 false
  pub args_differ : IsOtherAt other_args original 1 false
  pub generator_differs : IsOtherAt other_generator original 1 false
  pub wrap_up_differs : IsOtherAt other_wrap_up original 1 true
  -- jumps count the target's instructions
  pub jump_differs : IsOtherAt other_jump original 1 false
  -- the first difference is told, and before any flaw of an instruction
  pub first_of_two_told : IsOtherAt two_differences original 0 true
  pub told_before_flaws : IsOtherAt uses_and_differs text_that_picks 1 true
