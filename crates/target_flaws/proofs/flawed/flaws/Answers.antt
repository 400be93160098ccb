use Rattle.std.proofs.Common.{[], ◌∷◌}
use Rattle.target_flaws.proofs.Judging.{are_answers}
use Rattle.target_flaws.proofs.flawed.flaws.Goals as goal

pub returns-clause-computed : goal.returns-clause-computed
returns-clause-computed c = cc (c.uses_unchecked.ensures, c.needs_more.ensures, c.needs_more-2.ensures, c.has_guard_dropped.ensures)

pub returns-clause-true_of : goal.returns-clause-true_of
returns-clause-true_of c = λ source code site. are_answers source c.args.wrapup code c.args.at c.args.instr.now c.args.needs.now c.args.facts.now
    (c.uses_unchecked.result ∷ c.needs_more.result ∷ c.needs_more-2.result ∷ c.has_guard_dropped.result ∷ []) (returns-clause-computed c) site
