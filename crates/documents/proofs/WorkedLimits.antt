-- Limits of documents, one less and one more, and the settings of one that has none, by computing.
use Rattle.std.proofs.Common.{◌≡◌, ℕ, true, false, refl}
use Rattle.std.specs.Prelude.{nat_lt, nat_le}
use Rattle.documents.specs.DocumentLimits.{most_scripts, most_calls, most_turns, most_caller, most_count}
use Rattle.documents.specs.DocumentRead.{default_slots, default_first, default_last, default_fuel}

pub scripts_last : nat_lt 255 most_scripts ≡ true
scripts_last = refl

pub scripts_past : nat_lt 256 most_scripts ≡ false
scripts_past = refl

pub calls_last : nat_lt 99999 most_calls ≡ true
calls_last = refl

pub calls_past : nat_lt 100000 most_calls ≡ false
calls_past = refl

pub turns_last : nat_lt 99999 most_turns ≡ true
turns_last = refl

pub turns_past : nat_lt 100000 most_turns ≡ false
turns_past = refl

pub caller_below : nat_le 4294967294 most_caller ≡ true
caller_below = refl

pub caller_last : nat_le 4294967295 most_caller ≡ true
caller_last = refl

pub caller_past : nat_le 4294967296 most_caller ≡ false
caller_past = refl

pub count_below : nat_le 999999 most_count ≡ true
count_below = refl

pub count_last : nat_le 1000000 most_count ≡ true
count_last = refl

pub count_past : nat_le 1000001 most_count ≡ false
count_past = refl

pub slots : default_slots ≡ 64
slots = refl

pub first : default_first ≡ 1
first = refl

pub last : default_last ≡ 1000000000
last = refl

pub fuel : default_fuel ≡ 1000000
fuel = refl
