-- The first names and their slots, worked out by hand for two kinds.
use Rattle.std.specs.Prelude.{◌≡◌, [], ◌∷◌, map, refl}
use Rattle.caller_parts.specs.declared.setting.Reclamation.TheVariants.{Optimistic}
use Rattle.caller_parts.specs.Settings.{Setting}
use Rattle.oa_simulation.specs.FirstNames.{first_home}
use Rattle.oa_simulation.specs.Present.{first_present}

-- slots 1 to 3 are of the first kind, 4 and 5 of the second; one initial node is of the first kind, two are of the second
two : Setting
two = record { reclamation = Optimistic; sizes = record { callers = 1; slots = 5; fields = 1; cells = 1; kinds = 3 ∷ 2 ∷ []; tops = 8192 }; first = 1; last = 9; nodes = 1 ∷ 2 ∷ 0 ∷ 0 ∷ [] }

-- the slots of the names from 0 to 4; 4 is no initial node's
homes : map (first_home two) (0 ∷ 1 ∷ 2 ∷ 3 ∷ 4 ∷ []) ≡ 0 ∷ 1 ∷ 4 ∷ 5 ∷ 0 ∷ []
unfolding two
homes = refl

-- the names of the slots from 0 to 6; 6 is no slot
names : map (first_present two) (0 ∷ 1 ∷ 2 ∷ 3 ∷ 4 ∷ 5 ∷ 6 ∷ []) ≡ 0 ∷ 1 ∷ 0 ∷ 0 ∷ 2 ∷ 3 ∷ 0 ∷ []
unfolding two
names = refl
