use Rattle.c_emission.proofs.Small.{generator_small, wrapup_small}
use Rattle.c_emission.proofs.functions.numbered.Goals as goal

pub operation-requires-clause-generator : goal.operation-requires-clause-generator
operation-requires-clause-generator c = generator_small c.args.target.now c.args.number c.args.op.now c.requires.within c.requires.stands

pub operation-requires-clause-wrapup : goal.operation-requires-clause-wrapup
operation-requires-clause-wrapup c = wrapup_small c.args.target.now c.args.number c.args.op.now c.requires.within c.requires.stands
