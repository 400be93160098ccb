use Rattle.command_laws.proofs.Workloads.{workloads_are_stood}
use Rattle.command_laws.proofs.laws.workloads_are_stood.Goals as goal

pub returns : goal.returns
returns c = workloads_are_stood c.shipped_are_within.ensures c.keys_are_own.ensures
