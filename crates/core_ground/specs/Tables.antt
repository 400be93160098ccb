-- What the wrap-up of each operation keeps, in a table of as many rows as a target has operations at most.
use Rattle.std.specs.Prelude.{ℕ, Bool, false, List, [], ◌∷◌, Option, Some, None, slice_get}
use Rattle.norm_lang.specs.declared.text.Reg.TheVariants.{Ref}
use Rattle.target_code.specs.declared.target.TargetOp.{TargetOp}
use Rattle.target_code.specs.declared.target.Target.{Target}
use Rattle.target_code.specs.Erasing.{erased_op}
use Rattle.target_code.specs.Keeping.{keeps}

-- a reference register, by its number
abbrev pub keeps_at : Option TargetOp → ℕ → Bool
keeps_at None r = false
keeps_at (Some op) r = keeps (erased_op op) (Ref r)

abbrev pub row_of : Option TargetOp → List Bool
row_of op =
    keeps_at op 0 ∷ keeps_at op 1 ∷ keeps_at op 2 ∷ keeps_at op 3 ∷ keeps_at op 4 ∷ keeps_at op 5 ∷ keeps_at op 6 ∷ keeps_at op 7 ∷ []

abbrev pub row_at : Target → ℕ → List Bool
row_at target op = row_of (slice_get target.ops op)

abbrev pub table_of : Target → List (List Bool)
table_of target =
    row_at target 0 ∷ row_at target 1 ∷ row_at target 2 ∷ row_at target 3
    ∷ row_at target 4 ∷ row_at target 5 ∷ row_at target 6 ∷ row_at target 7
    ∷ row_at target 8 ∷ row_at target 9 ∷ row_at target 10 ∷ row_at target 11
    ∷ row_at target 12 ∷ row_at target 13 ∷ row_at target 14 ∷ row_at target 15
    ∷ []
