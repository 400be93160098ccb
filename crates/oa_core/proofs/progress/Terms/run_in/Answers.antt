use Rattle.std.proofs.Common.{subst}
use Rattle.std.specs.Prelude.{slice_get}
use Rattle.oa_core.specs.Shown.{Progress}
use Rattle.oa_core.specs.Calls.{RunsAt}
use Rattle.oa_core.proofs.Calling.{runs_under_way}
use Rattle.oa_core.proofs.progress.Terms.run_in.Goals as goal

pub returns-clause-ran : goal.returns-clause-ran
returns-clause-ran c =
    subst (λ (n : Progress). RunsAt c.args.self.now c.args.next c.args.most c.run_caller.result n.words c.run_caller.new.words c.args.caller n.entries c.run_caller.new.entries.items (slice_get n.entries c.args.caller))
    c.now.view_is c.run_caller.ensures.ran

pub returns-clause-under_way : goal.returns-clause-under_way
returns-clause-under_way c =
    runs_under_way c.args.self.now c.args.now.now _ c.args.next c.args.most c.run_caller.result c.args.caller c.requires.under_way
    (subst (λ (n : Progress). RunsAt c.args.self.now c.args.next c.args.most c.run_caller.result n.words c.run_caller.new.words c.args.caller n.entries c.run_caller.new.entries.items (slice_get n.entries c.args.caller))
    c.now.view_is c.run_caller.ensures.ran) c.run_caller.ensures.belong c.run_caller.ensures.lawful
