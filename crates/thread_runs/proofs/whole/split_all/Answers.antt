use Rattle.std.proofs.Common.{rules, sym, subst, arith}
use Rattle.std.specs.Prelude.{All}
use Rattle.std.proofs.lemmas.Grind.{common_steps}
use Rattle.std.proofs.lemmas.List.Elements.{All-push}
use Rattle.thread_runs.specs.Whole.{IsBlank}
use Rattle.thread_runs.proofs.whole.split_all.Goals as goal

pub loop-left-preserved : goal.loop-left-preserved
loop-left-preserved c =
    let i = c.loop-left.invariant in
    let P = IsBlank c.args.arena.now c.args.first.room in
    let one : P c.in-Ok-split.next = search rules in
    let all = subst (All P) (sym c.push_reserved.ensures.items) (All-push P c.loop-left.blanks.items c.in-Ok-split.next i.0 one) in
    (all, grind (arith, common_steps), grind (arith, common_steps), search rules, grind (arith, common_steps))

pub returns : goal.returns
returns c =
    let i = c.loop-left.invariant in
    let P = IsBlank c.args.arena.now c.args.first.room in
    let all = subst (All P) (sym c.push_reserved-2.ensures.items) (All-push P c.loop-left.blanks.items c.loop-left.first i.0 i.3) in
    (all, grind (arith, common_steps))

pub loop-left-init : goal.loop-left-init
loop-left-init c = search rules
