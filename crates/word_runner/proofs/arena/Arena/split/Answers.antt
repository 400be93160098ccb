use Rattle.std.proofs.Common.{sym, ap, ◌∙◌, arith}
use Rattle.word_runner.specs.Shown.{ArenaShown}
use Rattle.word_runner.proofs.table_rule.Others.{split_kept}
use Rattle.word_runner.proofs.arena.Arena.split.Goals as goal

pub split_seat-requires : goal.split_seat-requires
split_seat-requires c = (
  c.requires.table ∙ sym (ap (λ (a : ArenaShown). a.table) c.self.view_is),
  omega (arith, c.self.invariant.1),
  split_kept c.self.inside.table.shared.key c.args.seat.now.id c.args.seat.now.me.0 c.requires.live,
)
