use Rattle.std.proofs.Common.{map, string_bytes}
use Rattle.oac_cli.proofs.Telling.{told}
use Rattle.oac_cli.proofs.Completing.{complete}
use Rattle.oac_cli.proofs.top.oac_main.Goals as goal

pub returns-clause-told : goal.returns-clause-told
returns-clause-told g c =
    told (map string_bytes c.args.words.now) (g.S.Source.left c.args.input.now) (g.S.Source.left c.judge-verdict.new.input)
    (g.S.Source.faults c.args.input.now) (g.S.Source.faults c.judge-verdict.new.input) c.judge-verdict.result
    (g.K.Sink.written c.args.out.now) (g.K.Sink.written c.say.new.out) (g.K.Sink.faults c.args.out.now) (g.K.Sink.faults c.say.new.out)
    c.say.result c.judge-verdict.ensures c.say.ensures

pub returns-clause-complete : goal.returns-clause-complete
returns-clause-complete g c =
    complete (map string_bytes c.args.words.now) (g.S.Source.left c.args.input.now) (g.S.Source.left c.judge-verdict.new.input)
    (g.S.Source.faults c.args.input.now) (g.S.Source.faults c.judge-verdict.new.input) c.judge-verdict.result
    (g.K.Sink.written c.args.out.now) (g.K.Sink.written c.say.new.out) (g.K.Sink.faults c.args.out.now) (g.K.Sink.faults c.say.new.out)
    c.say.result c.judge-verdict.ensures c.say.ensures
