use Rattle.std.proofs.Common.{subst}
use Rattle.std.specs.Prelude.{slice_get}
use Rattle.oa_core.specs.Shown.{Progress, MovesAt}
use Rattle.oa_core.proofs.Moving.{moves_run, moves_under_way, can_move_at}
use Rattle.oa_core.proofs.progress.Terms.move_in.Goals as goal

pub returns-clause-runs : goal.returns-clause-runs
returns-clause-runs c =
    moves_run c.args.self.now.pair.target c.args.self.now.setting c.args.now.now.words c.move_caller.new.words c.args.next c.args.caller c.args.now.now.entries c.move_caller.new.entries.items
    (can_move_at c.args.self.now c.args.now.now c.args.caller c.args.next c.requires.under_way c.requires.next)
    (subst (λ (n : Progress). MovesAt c.args.self.now.pair.target c.args.self.now.setting n.words c.move_caller.new.words c.args.next c.args.caller n.entries c.move_caller.new.entries.items (slice_get n.entries c.args.caller))
    c.now.view_is c.move_caller.ensures.moved)

pub returns-clause-under_way : goal.returns-clause-under_way
returns-clause-under_way c =
    moves_under_way c.args.self.now c.args.now.now _ c.args.next c.args.caller c.requires.under_way
    (subst (λ (n : Progress). MovesAt c.args.self.now.pair.target c.args.self.now.setting n.words c.move_caller.new.words c.args.next c.args.caller n.entries c.move_caller.new.entries.items (slice_get n.entries c.args.caller))
    c.now.view_is c.move_caller.ensures.moved) c.move_caller.ensures.belong c.move_caller.ensures.lawful
