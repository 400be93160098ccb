use Rattle.std.proofs.Common.{length, vec_capacity, sym, ap, ◌∙◌}
use Rattle.word_runner.specs.Shown.{ArenaShown, RestShown}
use Rattle.word_runner.specs.table_rule.Rule.{callers_of}
use Rattle.epoch_runner.proofs.Closing.{have_room}
use Rattle.epoch_runner.proofs.arena.EpochArena.close.Goals as goal

pub pour-requires : goal.pour-requires
pour-requires c =
    have_room c.self.inside.arena.fixed c.rest.inside.rest.entries c.close_apart-phase.result.1.items c.self.inside.list.items c.close_apart-phase.result.0 (vec_capacity c.self.inside.list) (callers_of c.self.inside.arena.fixed)
    c.close_apart-phase.ensures
    (ap (λ (r : RestShown). length r.entries) c.rest.view_is ∙ (c.requires.all ∙ sym (ap (λ (a : ArenaShown). callers_of a.fixed) c.self.view_is)))
    c.self.invariant.0
    c.self.invariant.1
