use Rattle.kind_laws.proofs.Closed.{kept_kind, given_kind, copied_kind, carried_kind}
use Rattle.kind_laws.proofs.laws.kinds_go_along_paths.Goals as goal

pub returns-clause-kept : goal.returns-clause-kept
returns-clause-kept c = kept_kind

pub returns-clause-given : goal.returns-clause-given
returns-clause-given c = given_kind

pub returns-clause-copied : goal.returns-clause-copied
returns-clause-copied c = copied_kind

pub returns-clause-carried : goal.returns-clause-carried
returns-clause-carried c = carried_kind
