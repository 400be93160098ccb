use Rattle.std.proofs.Common.{ℕ, ◌-◌, ◌≡◌, ap, ◌∙◌, subst, arith}
use Rattle.std.proofs.lemmas.Result.{err_from_is_err_and}
use Rattle.core_runs.specs.Replays.{callers_ended}
use Rattle.oa_words.specs.Words.{Sizes}
use Rattle.replay_logs.specs.UnderWay.{Terms, replay_by, Follows}
use Rattle.replay_logs.proofs.Following.{done, failed, goes_on, stops, ends, still, caller_begins, callers_are_over}
use Rattle.replay_logs.proofs.progress.Terms.end_callers.Goals as goal

pub returns-in_err-make_part : goal.returns-in_err-make_part
returns-in_err-make_part c =
    let p = err_from_is_err_and c.from_residual.result c.from_residual.ensures.1 in
    rw (p.1, p.2)
    (record {
      followed =
          subst (λ (n : ℕ). Follows c.args.self.now c.args.now.now (failed c.in_err-make_part.field-0.0) c.make_part.new.now (callers_ended (replay_by c.args.self.now) 0 n))
          (c.callers-callers.ensures.same ∙ (ap (λ (s : Sizes). s.callers) c.shape.ensures ∙ ap (λ (t : Terms). t.setting.sizes.callers) c.self.view_is))
          (stops c.args.self.now c.args.now.now c.loop-caller.now c.make_part.new.now _ _ _ _ c.in_err-make_part.field-0.0 c.loop-caller.invariant.leaves
          (caller_begins c.args.self.now c.loop-caller.now c.callers-callers.result c.loop-caller.caller c.loop-caller-test.true) c.in_err-make_part.ensures.followed);
    })

pub loop-caller-preserved : goal.loop-caller-preserved
loop-caller-preserved c = record {
  way = still c.args.self.now c.loop-caller.now c.make_part.new.now _ c.in_ok-make_part.field-0 c.loop-caller.invariant.way c.in_ok-make_part.ensures.followed;
  leaves =
      goes_on c.args.self.now c.args.now.now c.loop-caller.now c.make_part.new.now _ _ _ _ c.in_ok-make_part.field-0 c.loop-caller.invariant.leaves
      (caller_begins c.args.self.now c.loop-caller.now c.callers-callers.result c.loop-caller.caller c.loop-caller-test.true) c.in_ok-make_part.ensures.followed;
}

pub returns : goal.returns
returns c =
    let past = c.loop-caller-test.false in
    let none : c.callers-callers.result - c.loop-caller.caller ≡ 0 = omega (arith, past) in
    record {
      followed =
          subst (λ (n : ℕ). Follows c.args.self.now c.args.now.now (done tt) c.loop-caller.now (callers_ended (replay_by c.args.self.now) 0 n))
          (c.callers-callers.ensures.same ∙ (ap (λ (s : Sizes). s.callers) c.shape.ensures ∙ ap (λ (t : Terms). t.setting.sizes.callers) c.self.view_is))
          (ends c.args.self.now c.args.now.now c.loop-caller.now _ _ tt c.loop-caller.invariant.leaves (callers_are_over c.args.self.now c.loop-caller.now c.callers-callers.result c.loop-caller.caller none));
    }
