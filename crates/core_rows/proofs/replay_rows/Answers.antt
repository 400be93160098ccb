use Rattle.core_rows.proofs.Replays.{list_replays, shared_replays, queue_replays, turn_rows, kind_rows}
use Rattle.core_rows.proofs.replay_rows.Goals as goal

pub returns-clause-list : goal.returns-clause-list
returns-clause-list c = list_replays

pub returns-clause-shared : goal.returns-clause-shared
returns-clause-shared c = shared_replays

pub returns-clause-queue : goal.returns-clause-queue
returns-clause-queue c = queue_replays

pub returns-clause-turns : goal.returns-clause-turns
returns-clause-turns c = turn_rows

pub returns-clause-kinds : goal.returns-clause-kinds
returns-clause-kinds c = kind_rows
