use Rattle.std.proofs.Common.{sym, ◌∙◌}
use Rattle.core_runs.specs.Replays.{turns_made, callers_ended}
use Rattle.oa_core.specs.Shown.{replay_by, shown}
use Rattle.oa_core.proofs.Bare.{callers_blind}
use Rattle.oa_core.proofs.Looping.{goes}
use Rattle.oa_core.proofs.replaying.run.Goals as goal

pub returns-clause-made : goal.returns-clause-made
returns-clause-made c =
    c.end_callers.ensures.made
    ∙ sym (goes (turns_made (replay_by c.args.terms.now) c.args.schedule.now (shown c.args.now.now)) (callers_ended (replay_by c.args.terms.now) 0 c.args.terms.now.setting.sizes.callers) c.make_turns.new.now
    (callers_blind (replay_by c.args.terms.now) 0 c.args.terms.now.setting.sizes.callers) c.in_ok-make_turns.ensures.made)
