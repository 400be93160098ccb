use Rattle.std.proofs.Common.{map, string_bytes, rules}
use Rattle.command_input.specs.Commands.{request_of}
use Rattle.oa_cli.proofs.Telling.{told}
use Rattle.oa_cli.proofs.Completing.{complete}
use Rattle.oa_cli.proofs.Headlined.{headline}
use Rattle.oa_cli.proofs.top.oa_main.Goals as goal

pub returns-clause-told : goal.returns-clause-told
returns-clause-told g c =
    told (map string_bytes c.args.words.now) (g.S.Source.left c.args.input.now) (g.S.Source.left c.judge-verdict.new.input)
    (g.S.Source.faults c.args.input.now) (g.S.Source.faults c.judge-verdict.new.input) c.judge-verdict.result
    (g.K.Sink.written c.args.out.now) (g.K.Sink.written c.say.new.out) (g.K.Sink.faults c.args.out.now) (g.K.Sink.faults c.say.new.out)
    c.say.result c.judge-verdict.ensures c.say.ensures

pub returns-clause-complete : goal.returns-clause-complete
returns-clause-complete g c =
    complete (request_of (map string_bytes c.args.words.now)) (g.S.Source.left c.args.input.now) (g.S.Source.left c.judge-verdict.new.input)
    (g.S.Source.faults c.args.input.now) (g.S.Source.faults c.judge-verdict.new.input) c.judge-verdict.result
    (g.K.Sink.written c.args.out.now) (g.K.Sink.written c.say.new.out) (g.K.Sink.faults c.args.out.now) (g.K.Sink.faults c.say.new.out)
    c.say.result c.judge-verdict.ensures c.say.ensures

pub returns-clause-headline : goal.returns-clause-headline
returns-clause-headline g c =
    headline (request_of (map string_bytes c.args.words.now)) (g.S.Source.left c.args.input.now) (g.S.Source.left c.judge-verdict.new.input)
    (g.K.Sink.written c.args.out.now) (g.K.Sink.written c.say.new.out) (g.S.Source.faults c.args.input.now) (g.S.Source.faults c.judge-verdict.new.input)
    (g.K.Sink.faults c.args.out.now) (g.K.Sink.faults c.say.new.out) c.judge-verdict.result c.say.result c.judge-verdict.ensures c.say.ensures

pub returns-clause-judged : goal.returns-clause-judged
returns-clause-judged g c = search rules
