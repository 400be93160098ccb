use Rattle.std.proofs.Common.{◌≡◌, ap, ◌∙◌}
use Rattle.messages.specs.Owed.{owed_at}
use Rattle.messages.proofs.owed.explain_misplaced.Goals as goal

pub returns-clause-bytes : goal.returns-clause-bytes
returns-clause-bytes g c =
    let e : c.owed_at.result ≡ owed_at c.args.bytes.now c.args.line.number = c.owed_at.ensures ∙ ap (owed_at c.args.bytes.now) c.number.ensures in
    rw (← e) c.explain_owed.ensures.bytes
