use Rattle.std.proofs.Common.{ℕ, sym, ◌∙◌, subst}
use Rattle.std.proofs.lemmas.Result.{err_from_is_err_and}
use Rattle.core_runs.specs.Replays.{one_step}
use Rattle.replay_logs.specs.UnderWay.{replay_by, Follows}
use Rattle.replay_logs.proofs.Following.{done, failed, goes_on, stops, ends, still, part_begins, part_is_over}
use Rattle.replay_logs.proofs.progress.Terms.make_part.Goals as goal

pub returns-in_err-step_of : goal.returns-in_err-step_of
returns-in_err-step_of c =
    let p = err_from_is_err_and c.from_residual.result c.from_residual.ensures.1 in
    rw (p.1, p.2)
    (record {
      followed =
          stops c.args.self.now c.args.now.now c.steps.now c.step_of.new.now _ _ _ _ c.in_err-step_of.field-0.0 c.steps.invariant.leaves
          (part_begins c.args.self.now c.steps.now c.steps.left c.in-Some.rest (sym c.rest_of.ensures ∙ c.in-Some.is))
          (subst (λ (k : ℕ). Follows c.args.self.now c.steps.now (failed c.in_err-step_of.field-0.0) c.step_of.new.now (one_step (replay_by c.args.self.now) k)) c.caller_of.ensures c.in_err-step_of.ensures.followed);
    })

pub steps-preserved : goal.steps-preserved
steps-preserved c =
    let follows = subst (λ (k : ℕ). Follows c.args.self.now c.steps.now (done c.in_ok-step_of.field-0) c.step_of.new.now (one_step (replay_by c.args.self.now) k)) c.caller_of.ensures c.in_ok-step_of.ensures.followed in
    record {
      way = still c.args.self.now c.steps.now c.step_of.new.now _ c.in_ok-step_of.field-0 c.steps.invariant.way follows;
      leaves =
          goes_on c.args.self.now c.args.now.now c.steps.now c.step_of.new.now _ _ _ _ c.in_ok-step_of.field-0 c.steps.invariant.leaves
          (part_begins c.args.self.now c.steps.now c.steps.left c.in-Some.rest (sym c.rest_of.ensures ∙ c.in-Some.is)) follows;
    }

pub returns : goal.returns
returns c = record {
  followed =
      ends c.args.self.now c.args.now.now c.steps.now _ _ tt c.steps.invariant.leaves
      (part_is_over c.args.self.now c.steps.now c.steps.left (sym c.rest_of.ensures ∙ c.in_default.is));
}
