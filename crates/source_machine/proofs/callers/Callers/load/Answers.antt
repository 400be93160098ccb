use Rattle.std.proofs.Common.{subst}
use Rattle.std.specs.Prelude.{slice_get, slice_set}
use Rattle.source_machine.specs.Loads.{LoadsAt}
use Rattle.source_machine.proofs.Loading.{lent, loads_at}
use Rattle.source_machine.proofs.callers.Callers.load.Goals as goal

pub returns-in-Some : goal.returns-in-Some
returns-in-Some c =
    let callers = c.self.inside.items.items in
    subst
    (λ old. LoadsAt c.args.text.now c.args.memory.now c.args.caller old (slice_set callers c.args.caller c.load_by.new.caller) (slice_get old c.args.caller) c.load_by.result)
    c.self.view_is
    (loads_at c.args.text.now c.args.memory.now c.args.caller callers c.in-Some.caller.now c.load_by.new.caller c.load_by.result (lent callers c.args.caller c.in-Some.caller c.in-Some.ensures.item) c.load_by.ensures)
