-- Where the instructions of a target's method stand in the source.
use Rattle.std.specs.Prelude.{◌≡◌, ℕ, List, slice_get, unwrap_or}
use Rattle.target_code.specs.declared.target.TargetInstr.{TargetInstr}
use Rattle.target_code.specs.Erasing.{source_place}
use Rattle.barrier_check.specs.declared.places.Places.{Places}

-- the place in the source of what stands at a place of the target: past the end it is the count of all that is left
abbrev pub place_by : Places → ℕ → ℕ
place_by places at = unwrap_or (slice_get places.before.items at) places.count

-- it is right for a method's code
abbrev pub ArePlaces : List TargetInstr → Places → Type 0
ArePlaces code places = (at : ℕ) → place_by places at ≡ source_place code at
