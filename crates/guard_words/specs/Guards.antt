-- The guards of a caller, and a set of slots.
use Rattle.std.specs.Prelude.{◌≡◌, ℕ, zero, suc, ◌+◌, Bool, true, false, ◌&&◌, not, List, [], ◌∷◌, ◌++◌, length, replicate, Option, Some, None, slice_get, slice_set, unwrap_or, ◌==◌, if◌then◌else◌}
use Rattle.std.specs.List.{list_any}

-- by register: the slot that is published, 0 for none, and whether a check has passed since
pub record Guards : Type 0 where
  pub slots : List ℕ
  pub validated : List Bool

-- eight slots and eight flags
pub record IsRow (guards : Guards) : Type 0 where
  pub slots : length guards.slots ≡ 8
  pub flags : length guards.validated ≡ 8

abbrev pub no_guards : Guards
no_guards = record { slots = replicate 8 0; validated = replicate 8 false }

abbrev pub guard_at : Guards → ℕ → ℕ
guard_at guards r = unwrap_or (slice_get guards.slots r) 0

abbrev pub is_validated : Guards → ℕ → Bool
is_validated guards r = unwrap_or (slice_get guards.validated r) false

-- a slot is published, or 0 for none
abbrev pub with_guard : Guards → ℕ → ℕ → Guards
with_guard guards r slot = record { slots = slice_set guards.slots r slot; validated = slice_set guards.validated r false }

-- flags after a passed check: that of each slot other than 0 is set
abbrev pub passed : List ℕ → List Bool → List Bool
passed [] flags = flags
passed (slot ∷ slots) [] = []
passed (slot ∷ slots) (flag ∷ flags) = (if slot == 0 then flag else true) ∷ passed slots flags

-- a passed check validates each guard that isn't 0
abbrev pub pass_check : Guards → Guards
pass_check guards = record guards { validated = passed guards.slots guards.validated }

-- flags after a passed check of one register alone
abbrev pub passed_at : List ℕ → List Bool → ℕ → List Bool
passed_at slots flags r = if unwrap_or (slice_get slots r) 0 == 0 then flags else slice_set flags r true

-- the least of so many numbers from one on that meets a test
abbrev pub least_from : (ℕ → Bool) → ℕ → ℕ → Option ℕ
least_from test r zero = None
least_from test r (suc n) = if test r then Some r else least_from test (r + 1) n

abbrev pub is_spared : List Bool → ℕ → Bool
is_spared spared r = unwrap_or (slice_get spared r) false

abbrev pub is_to_clear : List ℕ → List Bool → ℕ → Bool
is_to_clear slots spared r = not (unwrap_or (slice_get slots r) 0 == 0) && not (is_spared spared r)

-- the least register whose guard isn't 0 and which isn't left out
abbrev pub next_to_clear : Guards → List Bool → Option ℕ
next_to_clear guards spared = least_from (is_to_clear guards.slots spared) 0 (length guards.slots)

-- a set of slots as the list of what was added; 0 is no slot
abbrev pub with_slot : List ℕ → ℕ → List ℕ
with_slot slots zero = slots
with_slot slots (suc j) = slots ++ suc j ∷ []

abbrev pub has_slot : List ℕ → ℕ → Bool
has_slot slots j = list_any (λ slot. slot == j) slots
