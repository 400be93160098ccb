use Rattle.replay_logs.proofs.Starting.{logs_so}
use Rattle.replay_logs.proofs.replaying.log_from.Goals as goal

pub returns : goal.returns
returns c = logs_so c.args.terms.now c.args.now c.run.new.now _ c.in_ok-run.field-0 c.in_ok-logged.field-0 c.in_ok-run.ensures c.in_ok-logged.ensures.same c.in_ok-logged.ensures.sized
    c.in_ok-logged.ensures.numbers
