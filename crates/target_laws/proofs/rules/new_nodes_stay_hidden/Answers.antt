use Rattle.target_laws.proofs.FreshRules.{new_is_passed_once, puts_go_to_fresh, exchanges_show_no_fresh, open_reads_are_not_fresh, kept_are_not_fresh}
use Rattle.target_laws.proofs.rules.new_nodes_stay_hidden.Goals as goal

pub returns-clause-new : goal.returns-clause-new
returns-clause-new c = new_is_passed_once

pub returns-clause-put : goal.returns-clause-put
returns-clause-put c = puts_go_to_fresh

pub returns-clause-exchanged : goal.returns-clause-exchanged
returns-clause-exchanged c = exchanges_show_no_fresh

pub returns-clause-openly : goal.returns-clause-openly
returns-clause-openly c = open_reads_are_not_fresh

pub returns-clause-kept : goal.returns-clause-kept
returns-clause-kept c = kept_are_not_fresh
