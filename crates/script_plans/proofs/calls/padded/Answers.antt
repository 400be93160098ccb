use Rattle.std.proofs.Common.{rules, arith}
use Rattle.script_plans.proofs.Ready.{four_words}
use Rattle.script_plans.proofs.calls.padded.Goals as goal

pub returns-clause-same : goal.returns-clause-same
returns-clause-same c = search rules

pub returns-clause-words : goal.returns-clause-words
returns-clause-words c =
    four_words c.number_at.result c.number_at-2.result c.number_at-3.result c.number_at-4.result
    (omega (arith, c.number_at.type_inv)) (omega (arith, c.number_at-2.type_inv)) (omega (arith, c.number_at-3.type_inv)) (omega (arith, c.number_at-4.type_inv))
