use Rattle.std.proofs.Common.{◌≡◌, ◌∙◌, sym, subst}
use Rattle.barrier_check.specs.Paired.{Paired}
use Rattle.caller_parts.specs.declared.setting.Reclamation.{Reclamation}
use Rattle.caller_parts.specs.declared.setting.Reclamation.TheVariants.{Optimistic, Epochs}
use Rattle.caller_parts.specs.Settings.{Fits}
use Rattle.word_runner.proofs.arena.Arena.make_bare.Goals as goal

other : (by : Reclamation) → by ≡ Epochs → by ≡ Optimistic → ⊥
other by epochs optimistic = let no : Epochs ≡ Optimistic = sym epochs ∙ optimistic in cc

pub load-requires : goal.load-requires
load-requires c = record {
  runs = c.kept-2.ensures;
  sound = λ optimistic. absurd (other c.args.setting.reclamation c.requires.epochs optimistic);
  own = c.kept.ensures;
  fits = subst (λ (p : Paired). Fits p.target c.args.setting) (sym c.bare-target.ensures) c.requires.fits;
}
