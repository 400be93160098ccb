use Rattle.std.proofs.Common.{◌+◌, ◌<◌, ℕ, sym, ap, ◌∙◌, subst, arith}
use Rattle.word_runner.specs.Shown.{ArenaShown}
use Rattle.word_runner.specs.table_rule.Seen.{Fixed}
use Rattle.word_runner.proofs.table_rule.Others.{try_allowed}
use Rattle.word_runner.proofs.arena.Arena.try_place.Goals as goal

pub compare_exchange-requires : goal.compare_exchange-requires
compare_exchange-requires c =
    let fixed = sym (ap (λ (a : ArenaShown). a.fixed) c.self.view_is) ∙ sym c.self.invariant.0 in
    let lt : c.args.found < c.self.inside.table.shared.key.setting.sizes.callers = subst (λ (f : Fixed). c.args.found < f.setting.sizes.callers) fixed c.requires.found.1 in
    let lt' : c.args.found < c.self.inside.ground.setting.sizes.callers = subst (λ (f : Fixed). c.args.found < f.setting.sizes.callers) c.self.invariant.0 lt in (
      c.requires.table.0 ∙ sym (ap (λ (a : ArenaShown). a.table) c.self.view_is),
      omega (arith, c.self.invariant.1),
      try_allowed c.self.inside.table.shared.key c.self.inside.table.shared.table_id.slots c.args.seat.now.id (1 + c.args.found) c.args.seat.now.me (ap (λ (k : ℕ). 1 + k) (sym c.requires.found.0)) c.requires.empty.0 c.requires.live (c.requires.table.1 ∙ fixed) c.requires.empty.1
          (subst (λ (k : ℕ). k < c.self.inside.table.shared.key.setting.sizes.callers) (sym c.requires.found.0) lt),
    )
