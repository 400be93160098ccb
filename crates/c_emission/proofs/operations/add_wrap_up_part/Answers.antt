use Rattle.std.proofs.Common.{Some}
use Rattle.caller_parts.specs.Spared.{kept_by}
use Rattle.c_emission.specs.Layout.{method_lines}
use Rattle.c_emission.specs.Operations.{warned_lines, wrap_up_lines, wrap_up, wrap_up_line, restart_line, wrap_up_warned}
use Rattle.c_emission.proofs.Steps.{three_added, wrap_up_same, warned_same}
use Rattle.c_emission.proofs.operations.add_wrap_up_part.Goals as goal

pub returns : goal.returns
returns c =
    three_added c.args.lines.now.items c.add_wrap_up.new.lines.items c.add_wrapup.new.lines.items c.add_warned.new.lines.items
    (wrap_up_lines (wrap_up_line c.args.target.now c.args.op.now) (kept_by (Some c.args.op.now))) (method_lines (wrap_up c.args.target.now c.args.op.now))
    (warned_lines (wrap_up_warned c.args.target.now c.args.op.now) (kept_by (Some c.args.op.now)) (restart_line c.args.target.now c.args.op.now))
    (wrap_up_same c.args.places.wrap_up (wrap_up_line c.args.target.now c.args.op.now) c.args.kept (kept_by (Some c.args.op.now)) c.args.lines.now.items
    c.add_wrap_up.new.lines.items c.requires.places.wrap_up c.requires.kept c.in_ok-add_wrap_up.ensures) c.in_ok-add_wrapup.ensures
    (warned_same c.args.places.wrap_up_warned (wrap_up_warned c.args.target.now c.args.op.now) c.args.places.restart (restart_line c.args.target.now c.args.op.now)
    c.args.kept (kept_by (Some c.args.op.now)) c.add_wrapup.new.lines.items c.add_warned.new.lines.items c.requires.places.wrap_up_warned c.requires.places.restart
    c.requires.kept c.in_ok-add_warned.ensures)
