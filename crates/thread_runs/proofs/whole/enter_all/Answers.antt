use Rattle.std.proofs.Common.{rules, length, sym, subst, ap, arith}
use Rattle.std.specs.Prelude.{All}
use Rattle.std.proofs.lemmas.Grind.{common_steps}
use Rattle.std.proofs.lemmas.List.Elements.{All-push, All-pop}
use Rattle.thread_runs.specs.Whole.{IsBlank}
use Rattle.thread_runs.specs.Scripts.{Fresh}
use Rattle.thread_runs.proofs.Entered.{fresh_entered}
use Rattle.thread_runs.proofs.whole.enter_all.Goals as goal

pub loop-blank-preserved : goal.loop-blank-preserved
loop-blank-preserved c =
    let i = c.loop-blank.invariant in
    let B = IsBlank c.args.arena.now c.args.room in
    let F = Fresh c.args.arena.now c.args.scripts.now in
    let popped = All-pop B c.loop-blank.blanks.items c.pop.new.self.items c.pop.result c.pop.ensures.items i.0 in
    let mine : B c.in-Some.blank = search rules in
    let one : F c.in-Ok.caller = fresh_entered c.args.arena.now c.args.room c.args.scripts.now c.in-Some.blank c.in-Ok.caller c.requires.suit c.requires.longest c.requires.short mine c.in-Ok.ensures.ok in
    let all = subst (All F) (sym c.push_reserved.ensures.items) (All-push F c.loop-blank.callers.items c.in-Ok.caller i.1 one) in
    (popped.0, all, grind (arith, common_steps), grind (arith, common_steps), grind (arith, common_steps))

pub loop-blank-init : goal.loop-blank-init
loop-blank-init c =
    let none = c.requires.empty in
    (c.requires.blanks, subst (All (Fresh c.args.arena.now c.args.scripts.now)) (sym none) (λ k d lt. absurd (omega arith)), (let n = ap length none in grind (arith, common_steps)), c.requires.capacity, grind (arith, common_steps))
