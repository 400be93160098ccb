-- Callers may run a bare target.
use Rattle.bare_targets.specs.BareLaws.{BareTextsAreRunnable}
use Rattle.bare_targets.proofs.Erasing.{bare_erases}
use Rattle.bare_targets.proofs.Limited.{bare_within}

pub bare_texts_are_runnable : BareTextsAreRunnable
bare_texts_are_runnable text small normal = record { small = small; normal = normal; within = bare_within text small; erases = bare_erases text normal }
