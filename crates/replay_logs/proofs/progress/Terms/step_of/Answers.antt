use Rattle.std.proofs.Common.{sym}
use Rattle.replay_logs.proofs.Stepping.{limit_read, step_follows}
use Rattle.replay_logs.proofs.progress.Terms.step_of.Goals as goal

pub returns-clause-followed : goal.returns-clause-followed
returns-clause-followed c =
    step_follows c.args.self.now c.args.caller c.args.now.now c.move_in.new.now c.count.new.now tt c.requires.under_way.suits (sym c.if-not-has_next.ensures)
    (limit_read _ c.args.self.now _ c.args.now.now _ c.self.view_is c.now.view_is c.if-is_at_limit.ensures) c.in_ok-move_in.ensures.moved c.count.ensures
