use Rattle.std.proofs.Common.{◌∙◌, ◌-◌, ap, sym}
use Rattle.source_machine.specs.Rows.{place_named}
use Rattle.source_machine.proofs.Indexed.{own_found}
use Rattle.source_machine.proofs.rows.NodeRows.own_place.Goals as goal

pub returns-then-is_own : goal.returns-then-is_own
returns-then-is_own c =
    sym (ap (place_named c.args.name) c.self.view_is)
    ∙ own_found c.self.inside.distinct c.self.inside.rows.items (c.args.name - 1) c.args.name c.self.invariant.1 (sym c.if-is_own.ensures)
