use Rattle.std.proofs.Common.{rules}
use Rattle.word_runner.specs.table_rule.Seen.{IsGround}
use Rattle.word_runner.proofs.Taking.{newcomers_belong}
use Rattle.word_runner.proofs.arena.Arena.kept.Goals as goal

pub returns-clause-idle : goal.returns-clause-idle
returns-clause-idle c = let good : IsGround c.args.self.now.fixed = search rules in newcomers_belong c.args.self.now.fixed good
