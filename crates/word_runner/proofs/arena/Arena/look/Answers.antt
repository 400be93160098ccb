use Rattle.std.proofs.Common.{sym, ap, ◌∙◌, arith}
use Rattle.word_runner.specs.Shown.{ArenaShown}
use Rattle.word_runner.proofs.table_rule.Others.{look_allowed}
use Rattle.word_runner.proofs.arena.Arena.look.Goals as goal

pub load-requires : goal.load-requires
load-requires c = (
  c.requires.table.0 ∙ sym (ap (λ (a : ArenaShown). a.table) c.self.view_is),
  omega (arith, c.self.invariant.1),
  look_allowed c.self.inside.table.shared.key c.self.inside.table.shared.table_id.slots c.args.seat.now.id c.args.seat.now.me c.requires.live (c.requires.table.1 ∙ (sym (ap (λ (a : ArenaShown). a.fixed) c.self.view_is) ∙ sym c.self.invariant.0)),
)
