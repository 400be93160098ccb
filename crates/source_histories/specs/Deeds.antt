-- Deeds: what calls did, in the order of their moments. `Deed` is the type of src/deed.rt.
use Rattle.std.specs.Prelude.{◌≡◌, ℕ, List, [], ◌∷◌, ◌++◌, Option, Some, None, ◌==◌, if◌then◌else◌}
pub use Rattle.source_histories.specs.declared.deed.Deed.{Deed}

-- the deeds of a run, of which it is kept for each event whether it is the moment of one
abbrev pub listed : Option Deed → List Deed
listed None = []
listed (Some d) = d ∷ []

abbrev pub deeds_in : List (Option Deed) → List Deed
deeds_in [] = []
deeds_in (slot ∷ slots) = listed slot ++ deeds_in slots

-- those of one caller
abbrev pub of_caller : ℕ → List Deed → List Deed
of_caller c [] = []
of_caller c (d ∷ ds) = if d.caller == c then d ∷ of_caller c ds else of_caller c ds

-- what an object is after a deed; none if the deed isn't one of such an object
abbrev pub after_deed : {A : Type 0} → (Deed → A → Option A) → Deed → Option A → Option A
after_deed step d None = None
after_deed step d (Some a) = step d a

abbrev pub after_deeds : {A : Type 0} → (Deed → A → Option A) → List Deed → Option A → Option A
after_deeds step [] a = a
after_deeds step (d ∷ ds) a = after_deeds step ds (after_deed step d a)

-- the deeds, one after another, are those of the object
abbrev pub AreLegal : {A : Type 0} → (Deed → A → Option A) → A → List Deed → Type 0
AreLegal {A} step first ds = (a : A) × (after_deeds step ds (Some first) ≡ Some a)
