use Rattle.std.proofs.Common.{ap}
use Rattle.word_runner.specs.Shown.{CallerShown}
use Rattle.word_runner.specs.Outcome.{answer_of}
use Rattle.word_runner.proofs.Ended.{replies_resumed}
use Rattle.word_runner.proofs.caller.Caller.resume.Goals as goal

pub returns-clause-outcome : goal.returns-clause-outcome
returns-clause-outcome c = replies_resumed c.args.arena.now.fixed c.args.self.now.entry.core c.self.inside.entry.core c.drive.new.entry.core c.drive.ensures.ran.drove.words (answer_of c.answer.result)
    (ap (λ (x : CallerShown). x.entry.core) c.self.view_is)
    c.requires.busy
    c.drive.ensures.ran.drove.advances
    c.answer.ensures
