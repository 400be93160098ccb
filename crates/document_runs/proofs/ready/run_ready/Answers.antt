use Rattle.std.proofs.Common.{List, subst}
use Rattle.caller_parts.specs.declared.call.Call.{Call}
use Rattle.thread_runs.specs.Whole.{IsFinalOf}
use Rattle.document_runs.proofs.PlanLaws.{reported}
use Rattle.document_runs.proofs.ready.run_ready.Goals as goal

pub returns-in-Ok : goal.returns-in-Ok
returns-in-Ok g c =
    reported c.args.document.now c.args.ready.callers.fixed c.args.ready.scripts c.args.ready.fuel c.in-Ok.last.phase c.in-Ok.last.entries _
    (subst (λ (scripts : List (List Call)). IsFinalOf c.args.ready.callers.fixed scripts c.args.ready.fuel c.in-Ok.last.phase c.in-Ok.last.entries) c.items.ensures c.in-Ok.ensures) c.report_at.ensures
