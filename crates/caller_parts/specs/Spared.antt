-- Which registers' hazards a clear leaves out: none, or those that the wrap-up keeps.
use Rattle.std.specs.Prelude.{◌≡◌, ℕ, Bool, true, false, List, [], ◌∷◌, replicate, Option, Some, None, slice_get, slice_index_or}
use Rattle.norm_lang.specs.declared.text.Reg.TheVariants.{Ref}
use Rattle.target_code.specs.declared.target.TargetOp.{TargetOp}
use Rattle.target_code.specs.declared.target.Target.{Target}
use Rattle.target_code.specs.Erasing.{erased_op}
use Rattle.target_code.specs.Keeping.{keeps}
use Rattle.caller_parts.specs.declared.routine.AfterClear.{AfterClear}
use Rattle.caller_parts.specs.declared.routine.AfterClear.TheVariants as clears

-- no register
abbrev pub none_spared : List Bool
none_spared = replicate 8 false

-- the references that the operation's wrap-up keeps, register by register
abbrev pub kept_by : Option TargetOp → List Bool
kept_by None = none_spared
kept_by (Some op) =
    keeps (erased_op op) (Ref 0) ∷ keeps (erased_op op) (Ref 1) ∷ keeps (erased_op op) (Ref 2) ∷ keeps (erased_op op) (Ref 3)
    ∷ keeps (erased_op op) (Ref 4) ∷ keeps (erased_op op) (Ref 5) ∷ keeps (erased_op op) (Ref 6) ∷ keeps (erased_op op) (Ref 7) ∷ []

-- a table of what each operation keeps
abbrev pub KeptIs : Target → List (List Bool) → Type 0
KeptIs target kept = (op : ℕ) → slice_index_or kept op none_spared ≡ kept_by (slice_get target.ops op)

-- what a clear leaves out: kept registers, in a wrap-up that restarts and at a wrap-up's start
abbrev pub restart_spares : Bool → Option TargetOp → List Bool
restart_spares false op = none_spared
restart_spares true op = kept_by op

abbrev pub then_spares : AfterClear → Option TargetOp → List Bool
then_spares clears.New op = none_spared
then_spares clears.WrapUp op = kept_by op
then_spares (clears.Reply reply) op = none_spared
then_spares clears.Again op = none_spared
