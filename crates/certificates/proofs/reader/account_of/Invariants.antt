use Rattle.std.proofs.Common.{◌≡◌}
use Rattle.certificates.specs.Accounts.{no_account, after_lines}
use Rattle.certificates.proofs.reader.account_of.Given as goal

abbrev pub invariant-loop-line : goal.invariant-loop-line
invariant-loop-line l = after_lines l.ops l.scripts l.account l.line-iterator ≡ after_lines l.ops l.scripts no_account l.fn.behind
