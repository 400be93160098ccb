use Rattle.std.proofs.Common.{map, string_bytes}
use Rattle.oax_cli.specs.Telling.{text_for, ending_for}
use Rattle.oax_cli.proofs.Told.{said_finished, told}
use Rattle.oax_cli.proofs.program.serve.Goals as goal

pub returns-clause-said : goal.returns-clause-said
returns-clause-said g c =
    let first = c.oax_main-verdict.ensures in
    let end = c.finish-ending.new.out in
    let middle = c.oax_main-verdict.new.out in
    let start = c.args.out.now in
    said_finished start.written middle.written end.written start.faults middle.faults end.faults (text_for c.oax_main-verdict.result.verdict) (ending_for c.oax_main-verdict.result.verdict) c.oax_main-verdict.result.ending c.finish-ending.result first.said c.finish-ending.ensures.bytes c.finish-ending.ensures.ending

pub returns-clause-told : goal.returns-clause-told
returns-clause-told g c =
    let first = c.oax_main-verdict.ensures in
    let end = c.finish-ending.new.out in
    let middle = c.oax_main-verdict.new.out in
    let start = c.args.out.now in
    told (map string_bytes c.args.words.now) (g.S.Source.left c.args.input.now) (g.S.Source.left c.oax_main-verdict.new.input)
    (g.S.Source.faults c.args.input.now) (g.S.Source.faults c.oax_main-verdict.new.input) c.oax_main-verdict.result.verdict
    start.written end.written start.faults end.faults c.finish-ending.result first.judged
    (said_finished start.written middle.written end.written start.faults middle.faults end.faults (text_for c.oax_main-verdict.result.verdict) (ending_for c.oax_main-verdict.result.verdict) c.oax_main-verdict.result.ending c.finish-ending.result first.said c.finish-ending.ensures.bytes c.finish-ending.ensures.ending)
