use Rattle.std.proofs.Common.{subst}
use Rattle.script_plans.specs.Plans.{IsFaultOf}
use Rattle.oa_cli.proofs.Halting.{refused_nowhere, shaped_nowhere}
use Rattle.oa_cli.proofs.verdicts.stopping.turn_of.Goals as goal

pub returns-in-Err-Refused : goal.returns-in-Err-Refused
returns-in-Err-Refused c = refused_nowhere c.args.document.now _ (subst (IsFaultOf c.args.document.now) c.in-Err-Refused.field-0-is c.in-Err-Refused.ensures)

pub returns-in-Err-Shape : goal.returns-in-Err-Shape
returns-in-Err-Shape c = shaped_nowhere c.args.document.now _ _ (subst (IsFaultOf c.args.document.now) c.in-Err-Shape.field-0-is c.in-Err-Shape.ensures).1
