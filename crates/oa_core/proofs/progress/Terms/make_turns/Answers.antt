use Rattle.oa_core.specs.Shown.{replay_by}
use Rattle.oa_core.proofs.Looping.{turns_next}
use Rattle.oa_core.proofs.progress.Terms.make_turns.Goals as goal

pub loop-turn-preserved : goal.loop-turn-preserved
loop-turn-preserved c = record {
  way = c.in_ok-make_turn.ensures.under_way;
  same =
      turns_next (replay_by c.args.self.now) c.args.schedule.now c.loop-turn.turn-index _ c.loop-turn.now c.make_turn.new.now _ c.loop-turn-test.true c.in_ok-make_turn.ensures.made
      c.loop-turn.invariant.same;
}
