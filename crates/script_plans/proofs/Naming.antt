-- The number of a name among operations.
use Rattle.std.proofs.Common.{◌≡◌, ℕ, ◌≤◌, Bool, true, false, cond, List, length, Some, None, refl, arith}
use Rattle.std.proofs.lemmas.Bool.Decides.{nat_tests}
use Rattle.std.specs.Prelude.{nat_lt}
use Rattle.std.specs.List.{position_or_len}
use Rattle.std.specs.Option.{unwrap_or}
use Rattle.std.specs.Str.{bytes_eq}
use Rattle.norm_lang.specs.declared.text.Op.{Op}
use Rattle.script_plans.specs.Shapes.{op_number}

within : (b : Bool) (k n : ℕ) → nat_lt k n ≡ b → unwrap_or (cond b (Some k) None) n ≤ n
within true k n lt = grind (arith, nat_tests)
within false k n lt = omega arith

pub number_within : (ops : List Op) (name : List ℕ) → op_number ops name ≤ length ops
number_within ops name = within _ (position_or_len (λ (op : Op). bytes_eq op.name name) ops) (length ops) refl
