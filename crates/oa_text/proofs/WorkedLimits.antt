-- The longest line, and one byte more, by computing.
use Rattle.std.proofs.Common.{◌≡◌, ℕ, true, false, refl}
use Rattle.std.specs.Prelude.{nat_lt}
use Rattle.oa_text.specs.declared.limits.TheConstants.{LONGEST_LINE}

pub line_last : nat_lt LONGEST_LINE 200 ≡ false
line_last = refl

pub line_past : nat_lt LONGEST_LINE 201 ≡ true
line_past = refl
