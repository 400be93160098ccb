use Rattle.std.proofs.Common.{rules, ◌≡◌, ◌++◌, [], ◌∷◌, ap}
use Rattle.source_machine.specs.MethodRuns.{MethodRun, run_with}
use Rattle.state_judge.specs.Runs.{ListsRun}
use Rattle.state_judge.specs.declared.runs.ListedRun.{ListedRun}
use Rattle.state_judge.proofs.Gaining.{holds_more}
use Rattle.state_judge.proofs.Breaching.{if_ok}
use Rattle.state_judge.proofs.runs.with_name.Goals as goal

pub returns : goal.returns
returns c =
    let some : c.args.name ≡ 0 → ⊥ = search rules in
    if_ok (λ (kept : ListedRun). kept ≡ record { got = c.args.run.now.got ++ c.args.name ∷ []; old = c.args.run.now.old })
    (λ kept. (r : MethodRun) → ListsRun c.args.run.now r → ListsRun kept (run_with c.args.name r)) c.with_more.result
    (λ kept e r h. holds_more c.args.run.now kept r c.args.name h some (ap (λ (k : ListedRun). k.got) e) (ap (λ (k : ListedRun). k.old) e))
    c.with_more.ensures
