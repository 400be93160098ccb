-- The same arguments, asked of the core's calls.
use Rattle.std.specs.Prelude.{◌≡◌, ℕ, Bool, true, false, List, [], ◌∷◌, Some, None}
use Rattle.target_code.specs.declared.target.TargetOp.{TargetOp}
use Rattle.caller_parts.specs.Calls.{is_call_of}

-- an operation with one argument
abbrev pub with_one : TargetOp
with_one = record { name = []; args = 1; generator = []; wrapup = [] }

abbrev pub core_takes : List ℕ → Bool
core_takes args = is_call_of (Some with_one) args

pub record CoreArgumentRows : Type 0 where
  pub greatest_word : core_takes (18446744073709551615 ∷ 0 ∷ 0 ∷ 0 ∷ []) ≡ true
  pub one_more : core_takes (18446744073709551616 ∷ 0 ∷ 0 ∷ 0 ∷ []) ≡ false
  pub past_the_count : core_takes (5 ∷ 1 ∷ 0 ∷ 0 ∷ []) ≡ false
  pub last_past_the_count : core_takes (5 ∷ 0 ∷ 0 ∷ 1 ∷ []) ≡ false
  pub none : core_takes [] ≡ false
  pub three : core_takes (5 ∷ 0 ∷ 0 ∷ []) ≡ false
  pub five : core_takes (5 ∷ 0 ∷ 0 ∷ 0 ∷ 0 ∷ []) ≡ false
  pub no_operation : is_call_of None (0 ∷ 0 ∷ 0 ∷ 0 ∷ []) ≡ false
