use Rattle.std.proofs.Common.{List, sym, subst}
use Rattle.caller_steps.specs.Entries.{RoomyEntry}
use Rattle.word_runner.specs.table_rule.Closing.{IsClosed}
use Rattle.word_runner.proofs.arena.Arena.close.Goals as goal

pub returns : goal.returns
returns c =
    subst (λ (zs : List RoomyEntry). IsClosed c.args.self.fixed c.args.rest.entries c.close_apart-phase.result.0 zs) (sym c.from_vec.ensures) c.close_apart-phase.ensures
