use Rattle.oa_cli.specs.verdicts.Telling.{text_for}
use Rattle.statuses.specs.declared.status.Status.TheVariants as statuses
use Rattle.oa_cli.specs.declared.verdicts.verdict.Verdict.TheVariants as verdicts
use Rattle.oa_cli.proofs.Telling.{said_finished}
use Rattle.oac_cli.proofs.program.refuse_for_memory.Goals as goal

pub returns : goal.returns
returns g c =
    let start = c.args.out.now in
    let middle = c.say-status.new.out in
    let end = c.finish.new.out in
    said_finished start.written middle.written end.written start.faults middle.faults end.faults (text_for verdicts.Memory) statuses.Memory c.say-status.result c.finish.result c.say-status.ensures c.finish.ensures.bytes c.finish.ensures.status
