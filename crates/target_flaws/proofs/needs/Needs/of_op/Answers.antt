use Rattle.target_flaws.proofs.Asking.{are_needs}
use Rattle.target_flaws.proofs.needs.Needs.of_op.Goals as goal

pub returns : goal.returns
returns c = are_needs c.args.op.now c.args.facts.now.kept
    c.carries.result c.carries-2.result c.carries-3.result c.carries-4.result c.carries-5.result c.carries-6.result c.carries-7.result
    c.has.result c.has-2.result c.has-3.result c.has-4.result c.has-5.result c.has-6.result c.has-7.result c.has-8.result
    c.requires.within c.requires.true_of.kept
    c.carries.ensures c.carries-2.ensures c.carries-3.ensures c.carries-4.ensures c.carries-5.ensures c.carries-6.ensures c.carries-7.ensures
    c.has.ensures c.has-2.ensures c.has-3.ensures c.has-4.ensures c.has-5.ensures c.has-6.ensures c.has-7.ensures c.has-8.ensures
