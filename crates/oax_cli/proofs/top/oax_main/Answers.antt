use Rattle.std.proofs.Common.{map, string_bytes}
use Rattle.oax_cli.specs.Requests.{request_of}
use Rattle.oax_cli.proofs.Improper.{not_proper}
use Rattle.oax_cli.proofs.Told.{told}
use Rattle.oax_cli.proofs.top.oax_main.Goals as goal

pub returns-clause-told : goal.returns-clause-told
returns-clause-told g c =
    told (map string_bytes c.args.words.now) (g.S.Source.left c.args.input.now) (g.S.Source.left c.judge-verdict.new.input)
    (g.S.Source.faults c.args.input.now) (g.S.Source.faults c.judge-verdict.new.input) c.judge-verdict.result
    (g.K.Sink.written c.args.out.now) (g.K.Sink.written c.say-ending.new.out) (g.K.Sink.faults c.args.out.now) (g.K.Sink.faults c.say-ending.new.out)
    c.say-ending.result c.judge-verdict.ensures c.say-ending.ensures

pub returns-clause-improper : goal.returns-clause-improper
returns-clause-improper g c =
    not_proper c.improper_is_improper.ensures (request_of (map string_bytes c.args.words.now)) (g.S.Source.left c.args.input.now) (g.S.Source.left c.judge-verdict.new.input)
    (g.S.Source.faults c.args.input.now) (g.S.Source.faults c.judge-verdict.new.input) c.judge-verdict.result c.judge-verdict.ensures
