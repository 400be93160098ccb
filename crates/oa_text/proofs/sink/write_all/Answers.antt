use Rattle.std.proofs.Common.{rules}
use Rattle.oa_text.proofs.Writing.{writes_rest}
use Rattle.oa_text.proofs.sink.write_all.Goals as goal

pub loop-rest-preserved : goal.loop-rest-preserved
loop-rest-preserved g c = search (rules, writes_rest)

pub returns-in_err-count-clause-cause : goal.returns-in_err-count-clause-cause
returns-in_err-count-clause-cause g c = search rules
