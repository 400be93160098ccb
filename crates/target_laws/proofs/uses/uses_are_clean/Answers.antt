use Rattle.target_laws.proofs.Used.{clean_where_used, kept_are_clean}
use Rattle.target_laws.proofs.Entries.{entries_are_clean}
use Rattle.target_laws.proofs.uses.uses_are_clean.Goals as goal

pub returns-clause-used : goal.returns-clause-used
returns-clause-used c = clean_where_used

pub returns-clause-kept : goal.returns-clause-kept
returns-clause-kept c = kept_are_clean

pub returns-clause-entries : goal.returns-clause-entries
returns-clause-entries c = entries_are_clean
