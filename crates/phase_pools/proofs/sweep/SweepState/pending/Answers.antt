use Rattle.std.proofs.Common.{rules}
use Rattle.phase_pools.proofs.sweep.SweepState.pending.Goals as goal

pub returns-in-PushLink-clause-same : goal.returns-in-PushLink-clause-same
returns-in-PushLink-clause-same c = search rules

pub returns-in-RaisePhase-clause-same : goal.returns-in-RaisePhase-clause-same
returns-in-RaisePhase-clause-same c = search rules

pub returns-in-MakeReady-clause-same : goal.returns-in-MakeReady-clause-same
returns-in-MakeReady-clause-same c = search rules

pub returns-in-Warn-clause-same : goal.returns-in-Warn-clause-same
returns-in-Warn-clause-same c = search rules
