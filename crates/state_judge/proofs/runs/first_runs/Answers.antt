use Rattle.std.proofs.Common.{rules, ◌≡◌, ◌+◌, ◌++◌, [], ◌∷◌, length, ◌∙◌, sym, ap, subst}
use Rattle.std.proofs.lemmas.List.{length_push}
use Rattle.state_judge.specs.declared.runs.ListedRun.{ListedRun}
use Rattle.state_judge.proofs.Breaching.{AreEmpty, none_empty, one_empty, empty_holds}
use Rattle.state_judge.proofs.runs.first_runs.Goals as goal

pub loop-init : goal.loop-init
loop-init c = record { empty = subst AreEmpty (search rules) none_empty; many = search rules }

pub loop-preserved : goal.loop-preserved
loop-preserved c =
    let next : ListedRun = record { got = c.empty.result; old = c.empty-in-loop.result } in
    let same : c.loop.runs ++ next ∷ [] ≡ c.push.new.self = search rules in
    record {
      empty = subst AreEmpty same (one_empty c.loop.runs next c.empty.ensures c.empty-in-loop.ensures c.loop.invariant.empty);
      many = ap length (sym same) ∙ (length_push c.loop.runs next ∙ ap (λ n. n + 1) c.loop.invariant.many);
    }

pub returns-clause-holds : goal.returns-clause-holds
returns-clause-holds c = empty_holds c.loop.runs c.loop.invariant.empty
