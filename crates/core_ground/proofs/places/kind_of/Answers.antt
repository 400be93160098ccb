use Rattle.std.proofs.Common.{◌≡◌, ap, ◌∙◌, arith}
use Rattle.oa_words.specs.SlotKinds.{kind_of}
use Rattle.core_ground.proofs.Placing.{null_kind}
use Rattle.core_ground.proofs.places.kind_of.Goals as goal

pub returns-then-slot-eq0-clause-same : goal.returns-then-slot-eq0-clause-same
returns-then-slot-eq0-clause-same c =
    let null : 0 ≡ c.args.slot = omega (arith, c.if-slot-eq0.true) in null_kind c.args.setting.now.sizes ∙ ap (kind_of c.args.setting.now.sizes) null
