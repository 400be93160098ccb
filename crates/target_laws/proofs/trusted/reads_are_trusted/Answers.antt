use Rattle.target_laws.proofs.Trusts.{trust_is_known, trusted_where_read, carried_are_trusted}
use Rattle.target_laws.proofs.trusted.reads_are_trusted.Goals as goal

pub returns-clause-known : goal.returns-clause-known
returns-clause-known c = trust_is_known

pub returns-clause-read : goal.returns-clause-read
returns-clause-read c = trusted_where_read

pub returns-clause-carried : goal.returns-clause-carried
returns-clause-carried c = carried_are_trusted
