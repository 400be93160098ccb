-- The two schemes compared.
use Rattle.std.specs.Prelude.{◌≡◌, ◌≤◌, ◌+◌, ℕ, List, [], ◌∷◌, Some, slice_get}
use Rattle.norm_lang.specs.declared.text.Text.{Text}
use Rattle.norm_lang.specs.Shipped.{set_text}
use Rattle.target_code.specs.declared.target.TargetInstr.{TargetInstr}
use Rattle.target_code.specs.declared.target.TargetInstr.TheVariants.{Plain, Check, Guard}
use Rattle.target_code.specs.declared.target.TargetOp.{TargetOp}
use Rattle.target_code.specs.SecondScheme.{second_scheme}
use Rattle.scheme_laws.specs.FirstScheme.{first_scheme}

-- how many checks stand in compiled code
abbrev pub checks_in : List TargetInstr → ℕ
checks_in [] = 0
checks_in (Check ∷ code) = checks_in code + 1
checks_in (Plain i ∷ code) = checks_in code
checks_in (Guard r ∷ code) = checks_in code

-- by no method of an operation the one has more checks than the other
abbrev pub HasNoMoreChecks : TargetOp → TargetOp → Type 0
HasNoMoreChecks op than = (checks_in op.generator ≤ checks_in than.generator) × (checks_in op.wrapup ≤ checks_in than.wrapup)

-- the second scheme gives no method of a text more checks than the first does
abbrev pub ChecksAreFewer : Type 0
ChecksAreFewer =
    (text : Text) (number : ℕ) (op than : TargetOp)
    → slice_get (second_scheme text).ops number ≡ Some op → slice_get (first_scheme text).ops number ≡ Some than → HasNoMoreChecks op than

-- it makes of a set's text what the first does
abbrev pub SetsAreSame : Type 0
SetsAreSame = (buckets : ℕ) → second_scheme (set_text buckets) ≡ first_scheme (set_text buckets)
