-- The images, and what is said of hazard words, by computing.
use Rattle.std.specs.Prelude.{refl}
use Rattle.std.specs.Fmt.{digits}
use Rattle.caller_steps.specs.Wants.{wants}
use Rattle.caller_steps.specs.After.{after, signs}
use Rattle.run_rows.specs.GuardMarks.{GuardMarks, CountedGuards, RepeatedGuards}
use Rattle.run_rows.specs.ListImages.{RecycledImage, GuardedImage}

pub recycled_image : RecycledImage
unfolding wants after signs digits
recycled_image = record { image_is = refl; second = refl; third = refl; fourth = refl; unused = refl }

pub guarded_image : GuardedImage
unfolding wants after signs digits
guarded_image = record { image_is = refl; second = refl; third = refl; fourth = refl; fifth = refl; unused = refl }

pub guard_marks : GuardMarks
unfolding wants after signs
guard_marks = record { published = refl; null = refl; node = refl; sentinel = refl; null_still = refl; kept = refl; not_yet = refl; first_cleared = refl; cleared = refl }

pub counted_guards : CountedGuards
unfolding wants after signs
counted_guards = record { generator = refl; wrap_up = refl; published = refl; passed = refl; stored = refl; loaded = refl; not_copied = refl; copied = refl; waits = refl; counts = refl }

pub repeated_guards : RepeatedGuards
unfolding wants after signs
repeated_guards = record {
  none = refl;
  waits = refl;
  word = refl;
  waits_still = refl;
  counts = refl;
  again = refl;
  same_word = refl;
  still = refl;
  other = refl;
  other_word = refl;
  other_counts = refl;
  other_again = refl;
}
