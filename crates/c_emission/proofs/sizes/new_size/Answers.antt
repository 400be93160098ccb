use Rattle.std.proofs.Common.{arith}
use Rattle.c_emission.proofs.Steps.{few_of_kind}
use Rattle.c_emission.proofs.sizes.new_size.Goals as goal

pub overflow_cast-result : goal.overflow_cast-result
overflow_cast-result c = let few = few_of_kind c.args.fields.now c.args.kind in omega (arith, few, c.count_of.ensures, c.requires)

pub overflow_add-result : goal.overflow_add-result
overflow_add-result c = let few = few_of_kind c.args.fields.now c.args.kind in omega (arith, few, c.count_of.ensures, c.requires)

pub returns-clause-few : goal.returns-clause-few
returns-clause-few c = let few = few_of_kind c.args.fields.now c.args.kind in omega (arith, few, c.count_of.ensures, c.requires)
