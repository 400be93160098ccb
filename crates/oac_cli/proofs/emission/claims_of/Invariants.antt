use Rattle.std.proofs.Common.{◌≡◌, ◌++◌, ◌-◌}
use Rattle.oac_cli.specs.Emitted.{counted, claim_of, claims_of}
use Rattle.oac_cli.proofs.emission.claims_of.Given as goal

abbrev pub invariant-loop-kind : goal.invariant-loop-kind
invariant-loop-kind l = l.claims.items ++ counted (claim_of l.kinds) l.kind (l.kinds - l.kind) ≡ claims_of l.kinds
