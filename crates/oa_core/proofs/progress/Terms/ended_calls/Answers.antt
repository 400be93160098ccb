use Rattle.oa_core.proofs.Counted.{ended_in}
use Rattle.oa_core.proofs.progress.Terms.ended_calls.Goals as goal

pub returns-clause-count : goal.returns-clause-count
returns-clause-count c = ended_in _ c.args.now.now c.deref.result.now c.args.caller c.ended_calls.result c.now.view_is c.deref.ensures.value c.ended_calls.ensures.count
