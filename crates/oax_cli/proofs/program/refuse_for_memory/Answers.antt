use Rattle.oax_cli.specs.Telling.{text_for}
use Rattle.oax_cli.specs.declared.ending.Ending.TheVariants as endings
use Rattle.oax_cli.specs.declared.verdict.Verdict.TheVariants as verdicts
use Rattle.oax_cli.proofs.Told.{said_finished}
use Rattle.oax_cli.proofs.program.refuse_for_memory.Goals as goal

pub returns-clause-said : goal.returns-clause-said
returns-clause-said g c =
    let start = c.args.out.now in
    let middle = c.say-ending.new.out in
    let end = c.finish-ending.new.out in
    said_finished start.written middle.written end.written start.faults middle.faults end.faults (text_for verdicts.Memory) endings.Memory c.say-ending.result c.finish-ending.result c.say-ending.ensures c.finish-ending.ensures.bytes c.finish-ending.ensures.ending
