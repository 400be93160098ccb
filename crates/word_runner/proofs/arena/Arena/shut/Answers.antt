use Rattle.std.proofs.Common.{ap, ◌∙◌, arith}
use Rattle.std.specs.Slots.{slots_items}
use Rattle.word_runner.specs.Shown.{ArenaShown}
use Rattle.word_runner.proofs.table_rule.Others.{closes}
use Rattle.word_runner.proofs.table_rule.Ordered.{shut_is}
use Rattle.word_runner.proofs.arena.Arena.shut.Goals as goal

pub free-requires : goal.free-requires
free-requires c k lt = let e = c.close_with-closed.ensures.counts.1 in let i = c.self.invariant.2 in absurd (omega arith)

pub returns : goal.returns
returns c = shut_is c.self.inside.table.shared.key c.args.self.fixed c.args.seat.me.0 (slots_items c.close_with-closed.result.words) c.word-phase.result (c.self.invariant.0 ∙ ap (λ (a : ArenaShown). a.fixed) c.self.view_is)
    (closes c.self.inside.table.shared.key c.args.seat.id c.args.seat.me.0 (slots_items c.close_with-closed.result.words) (slots_items c.close_with-closed.result.slots) c.close_with-closed.ensures.values.2)
    c.word-phase.ensures
