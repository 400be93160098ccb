-- The calls of a target.
use Rattle.std.specs.Prelude.{◌≡◌, ℕ, Bool, true, false, List, Option, Some, None, slice_get, All}
use Rattle.target_code.specs.declared.target.TargetOp.{TargetOp}
use Rattle.target_code.specs.declared.target.Target.{Target}
use Rattle.caller_parts.specs.declared.call.Call.{Call}
use Rattle.norm_lang.specs.Arguments.{are_arguments}

abbrev pub is_call_of : Option TargetOp → List ℕ → Bool
is_call_of None args = false
is_call_of (Some op) args = are_arguments op.args args

-- a call of one of the target's operations, as a caller can make it
abbrev pub is_call : Target → Call → Bool
is_call target call = is_call_of (slice_get target.ops call.op) call.args

abbrev pub AreCalls : Target → List Call → Type 0
AreCalls target calls = All (λ (call : Call). is_call target call ≡ true) calls
