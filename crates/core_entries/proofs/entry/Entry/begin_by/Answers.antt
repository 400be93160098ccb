use Rattle.std.proofs.Common.{rules, sym, ap, subst}
use Rattle.core_ground.specs.Running.{pair_of}
use Rattle.core_entries.specs.Callers.{StaysWithAll}
use Rattle.core_entries.proofs.Calling.{begins}
use Rattle.core_entries.proofs.entry.Entry.begin_by.Goals as goal

pub returns-clause-taken : goal.returns-clause-taken
returns-clause-taken c = search rules

pub returns-clause-belongs : goal.returns-clause-belongs
returns-clause-belongs c =
    subst (λ e. StaysWithAll c.args.by (pair_of c.args.runs) e c.begin.new.self.core) (ap (λ shown. shown.core) c.self.view_is)
    (subst (λ e. StaysWithAll c.args.by (pair_of c.args.runs) c.self.inside.state.core e) (sym (ap (λ shown. shown.core) c.begin.ensures))
    (begins c.args.by (pair_of c.args.runs) (record { op = c.args.op; args = c.args.args }) c.self.inside.state.core c.kept.ensures c.requires.call))

pub invariant_of-self : goal.invariant_of-self
invariant_of-self c = search rules
