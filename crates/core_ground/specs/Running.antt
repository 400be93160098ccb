-- What callers run: a barred target, or a text in normal form as it is.
use Rattle.norm_lang.specs.declared.text.Text.{Text}
use Rattle.target_laws.specs.target_runs.Runnable.{MayBeWalked}
use Rattle.target_code.specs.Bare.{bare}
use Rattle.barrier_check.specs.Paired.{Paired}
use Rattle.core_ground.specs.declared.running.Runs.{Runs}
use Rattle.core_ground.specs.declared.running.Runs.TheVariants as runs
use Rattle.core_ground.specs.declared.running.Owned.{Owned}
use Rattle.core_ground.specs.declared.running.Owned.TheVariants as owns

-- a text beside itself as a target
abbrev pub bare_pair : Text → Paired
bare_pair text = record { target = bare text; source = text }

abbrev pub pair_of : Runs → Paired
pair_of (runs.Barred barred) = barred.now
pair_of (runs.Bare normal) = bare_pair normal.now

abbrev pub pair_owned : Owned → Paired
pair_owned (owns.Barred barred) = barred
pair_owned (owns.Bare normal) = bare_pair normal

-- callers may run the target of a pair
abbrev pub MayRun : Paired → Type 0
MayRun pair = MayBeWalked pair.target pair.source
