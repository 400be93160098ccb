use Rattle.std.proofs.Common.{◌≡◌, ap, ◌∙◌, subst, length}
use Rattle.std.specs.Prelude.{IfOk}
use Rattle.barrier_check.specs.Paired.{Paired}
use Rattle.target_code.specs.declared.target.Target.{Target}
use Rattle.oa_words.specs.Words.{Sizes}
use Rattle.run_logs.specs.Logged.{Recording}
use Rattle.replay_logs.specs.UnderWay.{Terms}
use Rattle.replay_logs.proofs.Starting.{log_starts}
use Rattle.replay_logs.proofs.replaying.new_log.Goals as goal

pub returns-clause-made : goal.returns-clause-made
returns-clause-made c =
    subst (λ (x : Recording). IfOk c.new.result (λ log. log ≡ x))
    (log_starts c.args.terms.now _ _ _ c.requires.suits (ap (λ (t : Terms). t.text) c.terms.view_is)
    (c.callers-callers.ensures.same ∙ (ap (λ (s : Sizes). s.callers) c.shape.ensures ∙ ap (λ (t : Terms). t.setting.sizes.callers) c.terms.view_is))
    (ap length c.items.ensures
    ∙ (ap (λ (t : Target). length t.nodes) c.target.ensures.same
    ∙ (ap (λ (p : Paired). length p.target.nodes) c.barred.ensures ∙ ap (λ (t : Terms). length t.pair.target.nodes) c.terms.view_is))))
    c.new.ensures.made
