use Rattle.std.proofs.Common.{Some, None, sym, ◌∙◌}
use Rattle.row_spelling.proofs.Words.{words_deed}
use Rattle.row_spelling.proofs.moves.deed_in.Goals as goal

pub returns-in-Some : goal.returns-in-Some
returns-in-Some c = c.deed_of.ensures ∙ sym (words_deed c.args.begins.now c.args.goes_on.now c.args.words.now (Some (c.in-Some.verb, c.in-Some.numbers)) c.in-Some.ensures.cases)

pub returns-in-None : goal.returns-in-None
returns-in-None c = sym (words_deed c.args.begins.now c.args.goes_on.now c.args.words.now None c.in-None.ensures.cases)
