use Rattle.std.proofs.Common.{rules, ◌≡◌, ◌++◌, ◌∷◌, [], List, length, sym, subst, ap, ◌∙◌, arith}
use Rattle.std.specs.Prelude.{All}
use Rattle.std.proofs.lemmas.Grind.{common_steps}
use Rattle.std.proofs.lemmas.List.Elements.{All-push, All-pop}
use Rattle.caller_steps.specs.Entries.{RoomyEntry}
use Rattle.word_runner.specs.Shown.{RestShown}
use Rattle.thread_runs.specs.Scripts.{Finished, Ended}
use Rattle.thread_runs.proofs.whole.gather.Goals as goal

pub loop-caller-init : goal.loop-caller-init
loop-caller-init c =
    let E = Ended c.args.arena.now.fixed c.args.scripts.now c.args.fuel in
    let mine = c.requires.first in
    let e = c.rest-rest.ensures.is in
    let entries : c.rest-rest.result.entries ≡ c.args.first.entry ∷ [] = ap (λ (r : RestShown). r.entries) e in
    let ended = subst (All E) (sym entries) (All-push E [] c.args.first.entry (λ k d lt. absurd (omega arith)) mine.ended) in (
      (ap (λ (r : RestShown). r.table) e ∙ mine.came.0, ap (λ (r : RestShown). r.fixed) e ∙ mine.came.1),
      c.requires.others,
      ended,
      let n = ap length entries in grind (arith, common_steps),
    )

pub merge-rest-requires-clause-theirs : goal.merge-rest-requires-clause-theirs
merge-rest-requires-clause-theirs c =
    let F = Finished c.args.arena.now c.args.scripts.now c.args.fuel in
    let popped = All-pop F c.loop-caller.callers.items c.pop.new.self.items c.pop.result c.pop.ensures.items c.loop-caller.invariant.1 in
    let mine : F c.in-Some.caller = search rules in
    let came = mine.came in
    search rules

pub loop-caller-preserved : goal.loop-caller-preserved
loop-caller-preserved c =
    let F = Finished c.args.arena.now c.args.scripts.now c.args.fuel in
    let popped = All-pop F c.loop-caller.callers.items c.pop.new.self.items c.pop.result c.pop.ensures.items c.loop-caller.invariant.1 in
    let mine : F c.in-Some.caller = search rules in
    let E = Ended c.args.arena.now.fixed c.args.scripts.now c.args.fuel in
    let e = c.merge-rest.ensures.is in
    let one = ap (λ (r : RestShown). r.entries) c.rest.ensures.is in
    let entries : c.merge-rest.result.entries ≡ c.loop-caller.rest.entries ++ c.in-Some.caller.entry ∷ [] = ap (λ (r : RestShown). r.entries) e ∙ ap (λ (l : List RoomyEntry). c.loop-caller.rest.entries ++ l) one in
    let ended = subst (All E) (sym entries) (All-push E c.loop-caller.rest.entries c.in-Some.caller.entry c.loop-caller.invariant.2 mine.ended) in (
      (ap (λ (r : RestShown). r.table) e ∙ c.loop-caller.invariant.0.0, ap (λ (r : RestShown). r.fixed) e ∙ c.loop-caller.invariant.0.1),
      popped.0,
      ended,
      let n = ap length entries in grind (arith, common_steps),
    )
