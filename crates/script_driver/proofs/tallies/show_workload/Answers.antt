use Rattle.script_driver.proofs.Tallied.{told}
use Rattle.script_driver.proofs.tallies.show_workload.Goals as goal

pub returns-clause-bytes : goal.returns-clause-bytes
returns-clause-bytes g c =
    told (g.K.Sink.written c.args.out.now) (g.K.Sink.written c.write_lines.new.out) c.write_lines.result c.args.report.now c.report_tally-first.result c.report_tally-second.result
    c.report_tally-first.ensures c.report_tally-second.ensures c.write_lines.ensures.bytes
