use Rattle.std.proofs.Common.{refl, ap, ◌∙◌, subst}
use Rattle.caller_parts.specs.Settings.{IsSetting}
use Rattle.core_runs.specs.Machine.{core_start}
use Rattle.barrier_check.specs.Paired.{Paired, IsSound}
use Rattle.replay_steps.specs.Entries.{fresh_entries}
use Rattle.oa_core.specs.Shown.{Terms}
use Rattle.oa_core.proofs.Entering.{starts_at, starts_under_way}
use Rattle.oa_core.proofs.replaying.start.Goals as goal

pub returns-clause-started : goal.returns-clause-started
returns-clause-started c =
    starts_at c.args.terms.now _ c.requires.suits.count
    (c.in_ok-words.ensures.start
    ∙ (ap (λ (p : Paired). (core_start p.target c.terms.inside.setting.now).words) c.barred.ensures ∙ ap (λ (t : Terms). (core_start t.pair.target t.setting).words) c.terms.view_is))
    (c.in_ok-entries.ensures ∙ ap (λ (t : Terms). fresh_entries 0 t.scripts) c.terms.view_is) refl

pub returns-clause-under_way : goal.returns-clause-under_way
returns-clause-under_way c =
    starts_under_way c.args.terms.now _ (subst (λ (t : Terms). IsSound t.pair) c.terms.view_is c.kept-2.ensures) (subst (λ (t : Terms). IsSetting t.setting) c.terms.view_is c.kept.ensures) c.requires.suits
    (c.in_ok-words.ensures.start
    ∙ (ap (λ (p : Paired). (core_start p.target c.terms.inside.setting.now).words) c.barred.ensures ∙ ap (λ (t : Terms). (core_start t.pair.target t.setting).words) c.terms.view_is))
    (c.in_ok-entries.ensures ∙ ap (λ (t : Terms). fresh_entries 0 t.scripts) c.terms.view_is)
