use Rattle.std.proofs.Common.{sym, subst}
use Rattle.norm_lang.specs.declared.text.Text.{Text}
use Rattle.source_machine.specs.Proper.{IsProperFor}
use Rattle.c_runs.proofs.laws.queues_are_linearizable.Goals as goal

pub returns : goal.returns
returns g c code related match first rest mid last runs further =
    let follows = c.runs_are_matched.ensures code related match first rest mid last runs further in
    record {
      follows = follows;
      proper = subst (λ (t : Text). IsProperFor c.args.setting.now.sizes.callers t) (sym c.requires.text) (c.queue_is_proper.ensures c.args.setting.now.sizes.callers);
      before = c.queue_answers.ensures follows.before.events follows.before.state follows.before.runs;
      whole = c.queue_answers.ensures follows.whole.events follows.whole.state follows.whole.runs;
    }
