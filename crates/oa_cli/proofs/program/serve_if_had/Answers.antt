use Rattle.std.proofs.Common.{refl}
use Rattle.oa_cli.specs.declared.verdicts.verdict.Verdict.TheVariants as verdicts
use Rattle.oa_cli.proofs.Telling.{told_unread}
use Rattle.oa_cli.proofs.program.serve_if_had.Goals as goal

pub returns-in-None-clause-told : goal.returns-in-None-clause-told
returns-in-None-clause-told g c =
    let start = c.args.out.now in
    let end = c.refuse_for_memory.new.out in
    told_unread (g.S.Source.faults c.args.input.now) verdicts.Memory start.written end.written start.faults end.faults c.refuse_for_memory.result c.refuse_for_memory.ensures

pub returns-in-None-clause-judged : goal.returns-in-None-clause-judged
returns-in-None-clause-judged g c = (verdicts.Memory, rw c.in-None.is (refl, record { left = refl; faults = refl }), c.refuse_for_memory.ensures)
