use Rattle.std.proofs.lemmas.Result.{IfOk-weaker}
use Rattle.reader_rows.proofs.rules.broken.Goals as goal

pub returns-in-Ok : goal.returns-in-Ok
returns-in-Ok c =
    IfOk-weaker c.broken_by.result _ _ (λ broken by within. by c.args.op.now within c.in-Ok.ensures c.requires.stands) c.broken_by.ensures
