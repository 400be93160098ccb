use Rattle.std.proofs.Common.{map, string_bytes}
use Rattle.oa_cli.specs.verdicts.Telling.{text_for, status_for}
use Rattle.oa_cli.proofs.Telling.{said_finished}
use Rattle.oac_cli.proofs.Telling.{told}
use Rattle.oac_cli.proofs.Completing.{complete}
use Rattle.oac_cli.proofs.program.serve.Goals as goal

pub returns-clause-judged : goal.returns-clause-judged
returns-clause-judged g c =
    let first = c.oac_main-status.ensures.judged in
    let end = c.finish.new.out in
    let middle = c.oac_main-status.new.out in
    let start = c.args.out.now in
    (first.0, first.1, said_finished start.written middle.written end.written start.faults middle.faults end.faults (text_for first.0) (status_for first.0) c.oac_main-status.result c.finish.result first.2 c.finish.ensures.bytes c.finish.ensures.status)

pub returns-clause-told : goal.returns-clause-told
returns-clause-told g c =
    let first = c.oac_main-status.ensures.judged in
    let end = c.finish.new.out in
    let middle = c.oac_main-status.new.out in
    let start = c.args.out.now in
    told (map string_bytes c.args.words.now) (g.S.Source.left c.args.input.now) (g.S.Source.left c.oac_main-status.new.input)
    (g.S.Source.faults c.args.input.now) (g.S.Source.faults c.oac_main-status.new.input) first.0
    start.written end.written start.faults end.faults c.finish.result first.1
    (said_finished start.written middle.written end.written start.faults middle.faults end.faults (text_for first.0) (status_for first.0) c.oac_main-status.result c.finish.result first.2 c.finish.ensures.bytes c.finish.ensures.status)

pub returns-clause-complete : goal.returns-clause-complete
returns-clause-complete g c =
    let first = c.oac_main-status.ensures.judged in
    let end = c.finish.new.out in
    let middle = c.oac_main-status.new.out in
    let start = c.args.out.now in
    complete (map string_bytes c.args.words.now) (g.S.Source.left c.args.input.now) (g.S.Source.left c.oac_main-status.new.input)
    (g.S.Source.faults c.args.input.now) (g.S.Source.faults c.oac_main-status.new.input) first.0
    start.written end.written start.faults end.faults c.finish.result first.1
    (said_finished start.written middle.written end.written start.faults middle.faults end.faults (text_for first.0) (status_for first.0) c.oac_main-status.result c.finish.result first.2 c.finish.ensures.bytes c.finish.ensures.status)
