use Rattle.std.proofs.Common.{◌≡◌, min, length, ap, ◌∙◌, arith}
use Rattle.oa_words.specs.Words.{Sizes}
use Rattle.oa_words.specs.SlotKinds.{slots_of, first_of}
use Rattle.core_ground.proofs.Placing.{first_none, first_more, first_few, first_whole}
use Rattle.core_ground.proofs.places.first_of.Goals as goal

pub loop-before-init : goal.loop-before-init
loop-before-init c = first_none c.args.setting.now.sizes

pub overflow_add-first : goal.overflow_add-first
overflow_add-first c =
    let few = first_few c.args.setting.now.sizes c.loop-before.before c.kept.ensures.sizes c.limits.ensures.sizes in
    let same : c.shape-shape.result.now.slots ≡ c.args.setting.now.sizes.slots = ap (λ (n : Sizes). n.slots) c.shape-shape.ensures in
    omega (arith, few, c.loop-before.invariant, c.slots_of-first.ensures.few, same, c.limits.ensures.sizes.slots)

pub loop-before-preserved : goal.loop-before-preserved
loop-before-preserved c =
    first_more c.args.setting.now.sizes c.loop-before.before c.loop-before.first c.slots_of-first.result c.loop-before.invariant
    (c.slots_of-first.ensures.same ∙ ap (λ (n : Sizes). slots_of n c.loop-before.before) c.shape-shape.ensures)

pub returns-clause-same : goal.returns-clause-same
returns-clause-same c =
    let end : c.loop-before.before ≡ c.min-before-end.result = omega (arith, c.loop-before-test.false, c.loop-before.auto.before-end) in
    first_whole c.args.setting.now.sizes c.args.kind c.loop-before.first
    (c.loop-before.invariant
    ∙ ap (first_of c.args.setting.now.sizes) (end ∙ (c.min-before-end.ensures ∙ ap (min c.args.kind) (c.kinds.ensures.same ∙ ap (λ (n : Sizes). length n.kinds) c.shape-shape.ensures))))

pub returns-clause-few : goal.returns-clause-few
returns-clause-few c =
    let few = first_few c.args.setting.now.sizes c.loop-before.before c.kept.ensures.sizes c.limits.ensures.sizes in omega (arith, few, c.loop-before.invariant)
