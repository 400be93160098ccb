use Rattle.std.proofs.Common.{◌≡◌, ◌≤◌, ◌-◌, max, length}
use Rattle.target_code.specs.LocalCode.{target_run}
use Rattle.caller_parts.specs.Codes.{code_shown}
use Rattle.caller_parts.proofs.local.run_target.Given as goal

-- what is left gives what the whole gives
abbrev pub invariant-loop : goal.invariant-loop
invariant-loop l = record {
  near : l.at ≤ max l.start (max (length (code_shown l.code)) 65535);
  same : target_run (code_shown l.code) (length (code_shown l.code) - l.counter) (record { at = l.at; registers = l.registers }) ≡ target_run (code_shown l.code) (length (code_shown l.code)) (record { at = l.start; registers = l.fn.registers });
}
