use Rattle.core_ground.proofs.Runnable.{bare_register}
use Rattle.core_ground.proofs.running.bare_register.Goals as goal

pub returns : goal.returns
returns c =
    bare_register c.args.normal.now c.args.op c.args.register c.is_kept.result c.kept.ensures.within
    c.kept.ensures.normal c.requires.op c.is_kept.ensures
