use Rattle.std.proofs.Common.{◌-◌}
use Rattle.replay_logs.specs.UnderWay.{replay_by, IsUnderWay}
use Rattle.replay_logs.specs.Parts.{part_made}
use Rattle.replay_logs.proofs.Following.{Leaves}
use Rattle.replay_logs.proofs.progress.Terms.make_part.Given as goal

-- what is left gives what the whole gives
abbrev pub invariant-steps : goal.invariant-steps
invariant-steps l = record {
  way : IsUnderWay l.self l.now;
  leaves : Leaves l.self l.fn.now l.now (part_made (replay_by l.self) l.fn.part) (part_made (replay_by l.self) l.left);
}

abbrev pub decreases-steps : goal.decreases-steps
decreases-steps l = l.self.limit - l.now.steps
