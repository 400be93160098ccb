-- The fuel at its limits, by computing.
use Rattle.std.proofs.Common.{◌≡◌, ℕ, true, false, refl}
use Rattle.oa_words.specs.Within.{is_count}
use Rattle.script_plans.specs.declared.limits.TheConstants.{MOST_FUEL}

pub no_fuel : is_count MOST_FUEL 0 ≡ false
no_fuel = refl

pub least_fuel : is_count MOST_FUEL 1 ≡ true
least_fuel = refl

pub fuel_below : is_count MOST_FUEL 999999999 ≡ true
fuel_below = refl

pub most_fuel : is_count MOST_FUEL 1000000000 ≡ true
most_fuel = refl

pub fuel_past : is_count MOST_FUEL 1000000001 ≡ false
fuel_past = refl
