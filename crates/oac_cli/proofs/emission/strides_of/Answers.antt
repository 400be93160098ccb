use Rattle.std.proofs.Common.{◌≡◌, ◌++◌, ◌∷◌, [], ◌∙◌, ℕ, ap, length, arith, rules}
use Rattle.oac_cli.specs.Emitted.{kind_stride}
use Rattle.oac_cli.proofs.Counting.{counted_more}
use Rattle.oac_cli.proofs.emission.strides_of.Goals as goal

pub loop-kind-preserved : goal.loop-kind-preserved
loop-kind-preserved c =
    let kinds = ap length c.items-kind-end.ensures in
    let stride : c.stride_of.result ≡ kind_stride c.args.text.now c.loop-kind.kind = search rules in
    counted_more (kind_stride c.args.text.now) (length c.args.text.now.kinds) c.loop-kind.kind c.loop-kind.strides.items c.push.new.self.items _
    (omega (arith, kinds, c.loop-kind-test.true)) (c.in_ok-push.ensures.items ∙ ap (λ (s : ℕ). c.loop-kind.strides.items ++ s ∷ []) stride) c.loop-kind.invariant
