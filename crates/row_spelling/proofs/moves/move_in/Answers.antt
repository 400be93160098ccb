use Rattle.std.proofs.Common.{Some, None, sym, ◌∙◌}
use Rattle.row_spelling.proofs.Words.{words_move}
use Rattle.row_spelling.proofs.moves.move_in.Goals as goal

pub returns-in-Some : goal.returns-in-Some
returns-in-Some c = c.move_of.ensures ∙ sym (words_move c.args.begins.now c.args.goes_on.now c.args.text.now (Some (c.in-Some.word, c.in-Some.words)) c.in-Some.ensures.cases)

pub returns-in-None : goal.returns-in-None
returns-in-None c = sym (words_move c.args.begins.now c.args.goes_on.now c.args.text.now None c.in-None.ensures.cases)
