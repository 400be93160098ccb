use Rattle.std.proofs.Common.{sym, subst, arith}
use Rattle.source_machine.specs.Proper.{IsProperFor}
use Rattle.certificate_laws.proofs.laws.set_images_are_accepted.Goals as goal

pub returns : goal.returns
returns c = let some = c.requires.some in c.images_are_accepted.ensures (subst (IsProperFor c.args.setting.now.sizes.callers) (sym c.requires.text) (c.set_is_proper.ensures c.args.buckets (omega (arith, some)) c.args.setting.now.sizes.callers))
