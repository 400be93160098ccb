-- Counts of a row at their limits, by computing.
use Rattle.std.proofs.Common.{◌≡◌, ℕ, true, false, refl}
use Rattle.oa_words.specs.Within.{is_count}
use Rattle.oa_words.specs.declared.limits.TheConstants.{MOST_CALLERS, MOST_KINDS, MOST_SLOTS, MOST_FIELDS, MOST_CELLS}

pub no_callers : is_count MOST_CALLERS 0 ≡ false
no_callers = refl

pub callers_below : is_count MOST_CALLERS 7 ≡ true
callers_below = refl

pub callers_last : is_count MOST_CALLERS 8 ≡ true
callers_last = refl

pub callers_past : is_count MOST_CALLERS 9 ≡ false
callers_past = refl

pub no_kinds : is_count MOST_KINDS 0 ≡ false
no_kinds = refl

pub kinds_below : is_count MOST_KINDS 3 ≡ true
kinds_below = refl

pub kinds_last : is_count MOST_KINDS 4 ≡ true
kinds_last = refl

pub kinds_past : is_count MOST_KINDS 5 ≡ false
kinds_past = refl

pub no_slots : is_count MOST_SLOTS 0 ≡ false
no_slots = refl

pub slots_below : is_count MOST_SLOTS 4095 ≡ true
slots_below = refl

pub slots_last : is_count MOST_SLOTS 4096 ≡ true
slots_last = refl

pub slots_past : is_count MOST_SLOTS 4097 ≡ false
slots_past = refl

pub no_fields : is_count MOST_FIELDS 0 ≡ false
no_fields = refl

pub fields_below : is_count MOST_FIELDS 3 ≡ true
fields_below = refl

pub fields_last : is_count MOST_FIELDS 4 ≡ true
fields_last = refl

pub fields_past : is_count MOST_FIELDS 5 ≡ false
fields_past = refl

pub no_cells : is_count MOST_CELLS 0 ≡ false
no_cells = refl

pub cells_below : is_count MOST_CELLS 255 ≡ true
cells_below = refl

pub cells_last : is_count MOST_CELLS 256 ≡ true
cells_last = refl

pub cells_past : is_count MOST_CELLS 257 ≡ false
cells_past = refl
