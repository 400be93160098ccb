use Rattle.core_rows.proofs.TwoKinds.{two_kind_starts, two_kind_cradles, two_kind_sweeps}
use Rattle.core_rows.proofs.two_kind_rows.Goals as goal

pub returns-clause-starts : goal.returns-clause-starts
returns-clause-starts c = two_kind_starts

pub returns-clause-cradles : goal.returns-clause-cradles
returns-clause-cradles c = two_kind_cradles

pub returns-clause-sweeps : goal.returns-clause-sweeps
returns-clause-sweeps c = two_kind_sweeps
