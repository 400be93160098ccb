use Rattle.std.proofs.Common.{sym, ap, ◌∙◌, arith}
use Rattle.word_runner.specs.Shown.{ArenaShown}
use Rattle.word_runner.proofs.table_rule.Others.{join_kept}
use Rattle.word_runner.proofs.arena.Arena.join.Goals as goal

pub join_seat-requires : goal.join_seat-requires
join_seat-requires c =
    let is = sym (ap (λ (a : ArenaShown). a.table) c.self.view_is) in
    (c.requires.table.0 ∙ is, c.requires.table.1 ∙ is, c.requires.table.2, omega (arith, c.self.invariant.1), join_kept c.self.inside.table.shared.key c.args.seat.now.id c.args.seat.now.me.0 c.args.other.id c.args.other.me.0 c.requires.live)
