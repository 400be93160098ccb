use Rattle.core_ground.proofs.Keeping.{kept_register}
use Rattle.core_ground.proofs.prepared.keeps_register.Goals as goal

pub returns : goal.returns
returns c =
    kept_register c.args.barred.now.target c.args.barred.now.source c.args.op c.args.register c.is_kept.result
    c.kept.ensures.barred.erases c.requires.op c.is_kept.ensures
