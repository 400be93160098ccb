use Rattle.std.proofs.Common.{Bool, sym, ap, ◌∙◌}
use Rattle.std.proofs.lemmas.Result.{err_from_is_err_and}
use Rattle.replay_steps.specs.Turns.{left_after}
use Rattle.oa_core.specs.Shown.{replay_by, refusal_of}
use Rattle.oa_core.proofs.Looping.{upto_more, upto_stop}
use Rattle.oa_core.proofs.progress.Terms.make_upto.Goals as goal

pub steps-preserved : goal.steps-preserved
steps-preserved c = record {
  way = c.in_ok-step_of.ensures.under_way;
  same =
      upto_more (replay_by c.args.self.now) c.args.caller c.args.kind c.steps.left c.in-Some.rest c.steps.now c.step_of.new.now _ (ap (λ (b : Bool). left_after b c.steps.left) (sym c.wants_kind.ensures) ∙ sym c.in-Some.ensures)
      c.in_ok-step_of.ensures.counted c.in_ok-step_of.ensures.below c.in_ok-step_of.ensures.made c.steps.invariant.same;
}

pub returns-in_err-step_of-clause-made : goal.returns-in_err-step_of-clause-made
returns-in_err-step_of-clause-made c =
    let p = err_from_is_err_and c.from_residual.result c.from_residual.ensures.1 in
    rw (p.1, p.2)
    (upto_stop (replay_by c.args.self.now) c.args.caller c.args.kind c.steps.left c.in-Some.rest c.steps.now (refusal_of c.in_err-step_of.field-0.0) _
    (ap (λ (b : Bool). left_after b c.steps.left) (sym c.wants_kind.ensures) ∙ sym c.in-Some.ensures) c.in_err-step_of.ensures.made c.steps.invariant.same)
