use Rattle.std.proofs.Common.{Some, None, rules}
use Rattle.row_spelling.proofs.Words.{deed_cut}
use Rattle.row_spelling.proofs.moves.deed_of.Goals as goal

pub returns-then-eq : goal.returns-then-eq
returns-then-eq c = search (rules, deed_cut c.args.begins.now c.args.goes_on.now c.args.verb.now c.args.numbers.now (Some (c.in-Some.call, c.in-Some.with)) c.in-Some.ensures.cases)

pub returns-else-eq : goal.returns-else-eq
returns-else-eq c = search (rules, deed_cut c.args.begins.now c.args.goes_on.now c.args.verb.now c.args.numbers.now (Some (c.in-Some.call, c.in-Some.with)) c.in-Some.ensures.cases)

pub returns-then-eq-2 : goal.returns-then-eq-2
returns-then-eq-2 c = search (rules, deed_cut c.args.begins.now c.args.goes_on.now c.args.verb.now c.args.numbers.now None c.in-None.ensures.cases)

pub returns-else-eq-2 : goal.returns-else-eq-2
returns-else-eq-2 c = search (rules, deed_cut c.args.begins.now c.args.goes_on.now c.args.verb.now c.args.numbers.now None c.in-None.ensures.cases)
