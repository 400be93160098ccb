use Rattle.std.proofs.Common.{subst}
use Rattle.std.proofs.lemmas.Result.{err_from_is_err_and}
use Rattle.replay_logs.specs.declared.parts.Part.{Part}
use Rattle.replay_logs.specs.UnderWay.{replay_by, Follows}
use Rattle.replay_logs.specs.Parts.{part_made}
use Rattle.replay_logs.proofs.Following.{done, failed, goes_on, stops, still, turn_begins}
use Rattle.replay_logs.proofs.progress.Terms.make_turns.Goals as goal

pub returns-in_err-make_part : goal.returns-in_err-make_part
returns-in_err-make_part c =
    let p = err_from_is_err_and c.from_residual.result c.from_residual.ensures.1 in
    rw (p.1, p.2)
    (record {
      followed =
          stops c.args.self.now c.args.now.now c.loop-turn.now c.make_part.new.now _ _ _ _ c.in_err-make_part.field-0.0 c.loop-turn.invariant.leaves
          (turn_begins c.args.self.now c.loop-turn.now c.args.schedule.now c.loop-turn.turn-index _ c.loop-turn-test.true)
          (subst (λ (part : Part). Follows c.args.self.now c.loop-turn.now (failed c.in_err-make_part.field-0.0) c.make_part.new.now (part_made (replay_by c.args.self.now) part)) c.part_of-part.ensures c.in_err-make_part.ensures.followed);
    })

pub loop-turn-preserved : goal.loop-turn-preserved
loop-turn-preserved c =
    let follows = subst (λ (part : Part). Follows c.args.self.now c.loop-turn.now (done c.in_ok-make_part.field-0) c.make_part.new.now (part_made (replay_by c.args.self.now) part)) c.part_of-part.ensures c.in_ok-make_part.ensures.followed in
    record {
      way = still c.args.self.now c.loop-turn.now c.make_part.new.now _ c.in_ok-make_part.field-0 c.loop-turn.invariant.way follows;
      leaves =
          goes_on c.args.self.now c.args.now.now c.loop-turn.now c.make_part.new.now _ _ _ _ c.in_ok-make_part.field-0 c.loop-turn.invariant.leaves
          (turn_begins c.args.self.now c.loop-turn.now c.args.schedule.now c.loop-turn.turn-index _ c.loop-turn-test.true) follows;
    }
