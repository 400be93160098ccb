use Rattle.target_laws.proofs.Used.{validated_where_needed, validated_are_clean, kept_are_not_guarded}
use Rattle.target_laws.proofs.Entries.{entries_are_validated}
use Rattle.target_laws.proofs.uses.exchanges_are_guarded.Goals as goal

pub returns-clause-needed : goal.returns-clause-needed
returns-clause-needed c = validated_where_needed

pub returns-clause-clean : goal.returns-clause-clean
returns-clause-clean c = validated_are_clean

pub returns-clause-entries : goal.returns-clause-entries
returns-clause-entries c = entries_are_validated

pub returns-clause-kept : goal.returns-clause-kept
returns-clause-kept c = kept_are_not_guarded
