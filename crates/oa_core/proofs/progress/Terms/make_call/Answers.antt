use Rattle.std.proofs.Common.{ap, ◌∙◌}
use Rattle.core_runs.specs.Replays.{LongReplay}
use Rattle.oa_core.specs.Shown.{Progress}
use Rattle.replay_steps.specs.Turns.{refused}
use Rattle.oa_core.proofs.Moving.{limit_read, step_is_long}
use Rattle.oa_core.proofs.progress.Terms.make_call.Goals as goal

pub returns-then-is_at_limit-clause-made : goal.returns-then-is_at_limit-clause-made
returns-then-is_at_limit-clause-made c =
    ap (λ (n : Progress). refused (LongReplay n.steps)) c.now.view_is
    ∙ step_is_long c.args.self.now c.args.caller c.args.now.now c.args.next c.requires.next
    (limit_read _ c.args.self.now _ c.args.now.now _ c.self.view_is c.now.view_is c.if-is_at_limit.ensures)
