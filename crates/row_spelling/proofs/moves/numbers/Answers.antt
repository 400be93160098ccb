use Rattle.std.proofs.Common.{length, take, Some, lit<, sym, ap, ◌∙◌}
use Rattle.std.specs.Str.Iter.{split_text, split_has_more, split_pattern}
use Rattle.std.proofs.lemmas.Iterator.Consumers.{YieldsList-turn, YieldsList-end}
use Rattle.std.proofs.lemmas.Iterator.Splits.{YieldsList-from_str_split}
use Rattle.std.proofs.lemmas.List.{length_push}
use Rattle.row_spelling.specs.Moves.{each_in, number_in, words_of}
use Rattle.row_spelling.proofs.Each.{each_more, each_fails, each_ends}
use Rattle.row_spelling.proofs.moves.numbers.Goals as goal

pub loop-digits-preserved : goal.loop-digits-preserved
loop-digits-preserved c =
    let t = YieldsList-turn (YieldsList-from_str_split 32 c.args.text.now (lit< tt) (ap split_text c.into_iter-digits-iterator.ensures.into_iter_gives ∙ c.split-digits-items.ensures.text) (ap split_has_more c.into_iter-digits-iterator.ensures.into_iter_gives ∙ c.split-digits-items.ensures.has_more) (ap split_pattern c.into_iter-digits-iterator.ensures.into_iter_gives ∙ c.split-digits-items.ensures.pattern)) c.loop-digits.yielded _ c.loop-digits.yielded_by _ _ c.in-Some.digits c.in-Some.is c.next.ensures.steps in
    ap (λ n. each_in number_in (take n (words_of c.args.text.now))) (length_push c.loop-digits.yielded c.in-Some.digits)
    ∙ each_more number_in (words_of c.args.text.now) (length c.loop-digits.yielded) c.in-Some.digits.now c.loop-digits.numbers.items c.in-Some-number.number t.0 c.loop-digits.invariant (ap number_in (sym t.1) ∙ (sym c.number.ensures ∙ c.in-Some-number.is))
    ∙ ap Some (sym c.in_ok-add_number-in-Some-number.ensures)

pub returns-in-None-number : goal.returns-in-None-number
returns-in-None-number c =
    let t = YieldsList-turn (YieldsList-from_str_split 32 c.args.text.now (lit< tt) (ap split_text c.into_iter-digits-iterator.ensures.into_iter_gives ∙ c.split-digits-items.ensures.text) (ap split_has_more c.into_iter-digits-iterator.ensures.into_iter_gives ∙ c.split-digits-items.ensures.has_more) (ap split_pattern c.into_iter-digits-iterator.ensures.into_iter_gives ∙ c.split-digits-items.ensures.pattern)) c.loop-digits.yielded _ c.loop-digits.yielded_by _ _ c.in-Some.digits c.in-Some.is c.next.ensures.steps in
    each_fails number_in (words_of c.args.text.now) (length c.loop-digits.yielded) c.in-Some.digits.now t.0 (ap number_in (sym t.1) ∙ (sym c.number.ensures ∙ c.in-None-number.is))

pub returns : goal.returns
returns c =
    let t = YieldsList-end (YieldsList-from_str_split 32 c.args.text.now (lit< tt) (ap split_text c.into_iter-digits-iterator.ensures.into_iter_gives ∙ c.split-digits-items.ensures.text) (ap split_has_more c.into_iter-digits-iterator.ensures.into_iter_gives ∙ c.split-digits-items.ensures.has_more) (ap split_pattern c.into_iter-digits-iterator.ensures.into_iter_gives ∙ c.split-digits-items.ensures.pattern)) c.loop-digits.yielded _ c.loop-digits.yielded_by _ _ c.in-None.is c.next.ensures.steps in
    each_ends number_in (words_of c.args.text.now) (length c.loop-digits.yielded) c.loop-digits.numbers.items t.1 c.loop-digits.invariant
