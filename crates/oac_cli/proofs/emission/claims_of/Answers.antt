use Rattle.std.proofs.Common.{◌++◌, ◌∷◌, [], ◌∙◌, List, ap, arith}
use Rattle.c_language.specs.declared.lines.Line.{Line}
use Rattle.oac_cli.specs.Emitted.{claim_of}
use Rattle.oac_cli.proofs.Counting.{counted_more}
use Rattle.oac_cli.proofs.emission.claims_of.Goals as goal

pub loop-kind-preserved : goal.loop-kind-preserved
loop-kind-preserved c =
    counted_more (claim_of c.args.kinds) c.args.kinds c.loop-kind.kind c.loop-kind.claims.items c.push.new.self.items _ (omega (arith, c.loop-kind-test.true))
    (c.in_ok-push.ensures.items ∙ ap (λ (l : List Line). c.loop-kind.claims.items ++ l ∷ []) (c.from_vec.ensures ∙ c.in_ok-lines.ensures)) c.loop-kind.invariant
