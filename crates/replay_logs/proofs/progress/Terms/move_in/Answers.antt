use Rattle.std.proofs.Common.{sym, subst}
use Rattle.std.specs.Prelude.{slice_get}
use Rattle.core_runs.specs.Scripts.{script_of}
use Rattle.core_entries.specs.Steps.{WordsSound}
use Rattle.replay_logs.specs.UnderWay.{Progress, CanMoveAt}
use Rattle.replay_logs.proofs.Stepping.{can_move_at, words_in}
use Rattle.replay_logs.proofs.progress.Terms.move_in.Goals as goal

pub move_caller-requires-clause-can : goal.move_caller-requires-clause-can
move_caller-requires-clause-can c =
    subst (λ (n : Progress). CanMoveAt c.args.self.now (script_of c.args.self.now.scripts c.args.caller) (slice_get n.entries c.args.caller)) (sym c.now.view_is)
    (can_move_at c.args.self.now c.args.now.now c.args.caller c.requires.under_way c.requires.next)

pub move_caller-requires-clause-lawful : goal.move_caller-requires-clause-lawful
move_caller-requires-clause-lawful c =
    subst (λ (n : Progress). WordsSound c.args.self.now.pair.target c.args.self.now.setting n.words) (sym c.now.view_is) (words_in c.args.self.now c.args.now.now c.requires.under_way)
