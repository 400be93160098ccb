use Rattle.std.proofs.Common.{sym, subst}
use Rattle.source_machine.specs.Proper.{IsProperFor}
use Rattle.certificate_laws.proofs.laws.queue_images_are_accepted.Goals as goal

pub returns : goal.returns
returns c = c.images_are_accepted.ensures (subst (IsProperFor c.args.setting.now.sizes.callers) (sym c.requires.text) (c.queue_is_proper.ensures c.args.setting.now.sizes.callers))
