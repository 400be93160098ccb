use Rattle.certificate_laws.proofs.Accepting.{are_accepted}
use Rattle.certificate_laws.proofs.laws.images_are_accepted.Goals as goal

pub returns : goal.returns
returns c = are_accepted c.args.barred.now c.args.setting.now c.kept.ensures c.kept-2.ensures c.requires.fits c.requires.optimistic
