use Rattle.std.proofs.Common.{ℕ, List, length, take, Some, sym, ap, ◌∙◌}
use denote.Ref.{Bor}
use Rattle.std.proofs.lemmas.Iterator.Consumers.{YieldsList-turn, YieldsList-end}
use Rattle.row_spelling.proofs.Parts.{YieldsList-from_parts}
use Rattle.std.proofs.lemmas.List.{length_push}
use Rattle.row_spelling.specs.Moves.{each_in, move_in, parts_of}
use Rattle.row_spelling.proofs.Each.{each_more, each_fails, each_ends}
use Rattle.row_spelling.proofs.moves.moves_in.Goals as goal

pub loop-part-preserved : goal.loop-part-preserved
loop-part-preserved c =
    let t = YieldsList-turn (YieldsList-from_parts c.split-part-items.result c.args.text.now c.into_iter-part-iterator.ensures.into_iter_gives c.split-part-items.ensures.text c.split-part-items.ensures.has_more (ap (λ (p : Bor (List ℕ)). p.now) c.split-part-items.ensures.pattern)) c.loop-part.yielded _ c.loop-part.yielded_by _ _ c.in-Some.part c.in-Some.is c.next.ensures.steps in
    ap (λ n. each_in (move_in c.args.begins.now c.args.goes_on.now) (take n (parts_of c.args.text.now))) (length_push c.loop-part.yielded c.in-Some.part)
    ∙ each_more (move_in c.args.begins.now c.args.goes_on.now) (parts_of c.args.text.now) (length c.loop-part.yielded) c.in-Some.part.now c.loop-part.moves.items c.in-Some-move_in.next t.0 c.loop-part.invariant (ap (move_in c.args.begins.now c.args.goes_on.now) (sym t.1) ∙ (sym c.move_in.ensures ∙ c.in-Some-move_in.is))
    ∙ ap Some (sym c.in_ok-add_move-in-Some-move_in.ensures)

pub returns-in-None-move_in : goal.returns-in-None-move_in
returns-in-None-move_in c =
    let t = YieldsList-turn (YieldsList-from_parts c.split-part-items.result c.args.text.now c.into_iter-part-iterator.ensures.into_iter_gives c.split-part-items.ensures.text c.split-part-items.ensures.has_more (ap (λ (p : Bor (List ℕ)). p.now) c.split-part-items.ensures.pattern)) c.loop-part.yielded _ c.loop-part.yielded_by _ _ c.in-Some.part c.in-Some.is c.next.ensures.steps in
    each_fails (move_in c.args.begins.now c.args.goes_on.now) (parts_of c.args.text.now) (length c.loop-part.yielded) c.in-Some.part.now t.0 (ap (move_in c.args.begins.now c.args.goes_on.now) (sym t.1) ∙ (sym c.move_in.ensures ∙ c.in-None-move_in.is))

pub returns : goal.returns
returns c =
    let t = YieldsList-end (YieldsList-from_parts c.split-part-items.result c.args.text.now c.into_iter-part-iterator.ensures.into_iter_gives c.split-part-items.ensures.text c.split-part-items.ensures.has_more (ap (λ (p : Bor (List ℕ)). p.now) c.split-part-items.ensures.pattern)) c.loop-part.yielded _ c.loop-part.yielded_by _ _ c.in-None.is c.next.ensures.steps in
    each_ends (move_in c.args.begins.now c.args.goes_on.now) (parts_of c.args.text.now) (length c.loop-part.yielded) c.loop-part.moves.items t.1 c.loop-part.invariant
