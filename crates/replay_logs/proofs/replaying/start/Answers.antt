use Rattle.std.proofs.Common.{refl, ap, ◌∙◌}
use Rattle.core_runs.specs.Machine.{core_start}
use Rattle.barrier_check.specs.Paired.{Paired}
use Rattle.replay_steps.specs.Entries.{fresh_entries}
use Rattle.replay_logs.specs.UnderWay.{Terms}
use Rattle.replay_logs.proofs.Starting.{starts_so}
use Rattle.replay_logs.proofs.replaying.start.Goals as goal

pub returns : goal.returns
returns c =
    starts_so c.args.terms.now _ c.requires.starts
    (c.in_ok-words.ensures.start
    ∙ (ap (λ (p : Paired). (core_start p.target c.terms.inside.setting.now).words) c.barred.ensures ∙ ap (λ (t : Terms). (core_start t.pair.target t.setting).words) c.terms.view_is))
    (c.in_ok-entries.ensures ∙ ap (λ (t : Terms). fresh_entries 0 t.scripts) c.terms.view_is)
    c.in_ok-log.ensures.made c.in_ok-log.ensures.source refl
