use Rattle.std.proofs.Common.{sym, subst}
use Rattle.barrier_check.specs.Paired.{Paired, IsSound}
use Rattle.caller_parts.specs.Settings.{Fits}
use Rattle.word_runner.proofs.arena.Arena.make.Goals as goal

pub load-requires : goal.load-requires
load-requires c = record {
  runs = c.kept-2.ensures;
  sound = λ optimistic. subst (λ (p : Paired). IsSound p) (sym c.new-target.ensures.same) c.new-target.ensures.sound;
  own = c.kept.ensures;
  fits = subst (λ (p : Paired). Fits p.target c.args.setting) (sym c.new-target.ensures.same) c.requires.fits;
}
