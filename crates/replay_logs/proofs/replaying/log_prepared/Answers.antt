use Rattle.replay_logs.proofs.replaying.log_prepared.Goals as goal

pub returns : goal.returns
returns c = c.log_from.ensures.each _ c.in_ok-now.ensures
