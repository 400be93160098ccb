use Rattle.core_rows.proofs.Meetings.{own_phase_rows, seen_rows, race_rows}
use Rattle.core_rows.proofs.meeting_rows.Goals as goal

pub returns-clause-own_phase : goal.returns-clause-own_phase
returns-clause-own_phase c = own_phase_rows

pub returns-clause-seen : goal.returns-clause-seen
returns-clause-seen c = seen_rows

pub returns-clause-races : goal.returns-clause-races
returns-clause-races c = race_rows
