-- Which words may stand where.
use Rattle.std.specs.Prelude.{◌≡◌, ℕ, zero, suc, ◌≤◌, Bool, true, false, Option, Some, None}
use Rattle.norm_lang.specs.declared.text.FieldKind.{FieldKind}
use Rattle.norm_lang.specs.declared.text.FieldKind.TheVariants as holdings
use Rattle.norm_lang.specs.InstructionRules.{field_kind, root_kind}
use Rattle.norm_lang.specs.KindFields.{fields_of}
use Rattle.target_code.specs.declared.target.Target.{Target}
use Rattle.oa_words.specs.Words.{Sizes, in_row, Word, Phase, Place, Warning, Hazard, Status, FieldOf, Cell, Head, Link}
use Rattle.oa_words.specs.Packed.{slot_part, head_parts}
use Rattle.oa_words.specs.SlotKinds.{kind_of, IsNullOrOf}
use Rattle.phase_pools.specs.Ranges.{IsStatus}
use Rattle.phase_pools.specs.Accesses.{word_of, word_after, WordAccess, Loads, Stores, Exchanges, Raises}
use Rattle.caller_parts.specs.declared.setting.Reclamation.{Reclamation}
use Rattle.caller_parts.specs.declared.setting.Reclamation.TheVariants.{Optimistic, Epochs}
use Rattle.caller_parts.specs.Settings.{Setting}

-- what the field at a place of a kind's nodes holds, if the kind has one there
abbrev pub held_at : Target → ℕ → ℕ → Option FieldKind
held_at target t g = field_kind (fields_of t target.fields) g

-- any number, or a reference to null or to a slot of the kind to which the root or field refers
abbrev pub LawfulValue : Sizes → Option FieldKind → ℕ → Type 0
LawfulValue n None word = Unit {0}
LawfulValue n (Some holdings.Number) word = Unit {0}
LawfulValue n (Some (holdings.Reference t)) word = IsNullOrOf n t (slot_part word)

-- a phase of the run
abbrev pub LawfulPhase : Setting → ℕ → Type 0
LawfulPhase setting word = (setting.first ≤ word) × (word ≤ setting.last)

-- a phase of which a caller was warned, or one that it has announced, 0 for none
abbrev pub LawfulWarning : Reclamation → Setting → ℕ → Type 0
LawfulWarning Optimistic setting word = LawfulPhase setting word
LawfulWarning Epochs setting word = word ≤ setting.last

-- a status of a phase that isn't past the last
abbrev pub LawfulStatus : ℕ → ℕ → Type 0
LawfulStatus last word = IsStatus last word

-- a head with a phase that isn't past the last, and on top a slot of its kind or none
abbrev pub LawfulHead : Setting → ℕ → ℕ → Type 0
LawfulHead setting t word = ((head_parts setting.sizes.tops word).phase ≤ setting.last) × IsNullOrOf setting.sizes t (head_parts setting.sizes.tops word).top

-- Of a place, which no caller accesses, any word is, and so of a root that isn't declared, or of a field that the slot's kind doesn't have.
-- Null has no node: each of its fields is 0, so that a load through null finds null, or the number 0. A slot's fields are those of its kind,
-- by their places among them, and its link names a slot of its kind, or none.
abbrev pub IsLawful : Target → Setting → Word → ℕ → Type 0
IsLawful target setting Phase word = LawfulPhase setting word
IsLawful target setting (Place c) word = Unit {0}
IsLawful target setting (Warning c) word = LawfulWarning setting.reclamation setting word
IsLawful target setting (Hazard c r) word = word ≤ setting.sizes.slots
IsLawful target setting (Status j) word = LawfulStatus setting.last word
IsLawful target setting (FieldOf zero g) word = word ≡ 0
IsLawful target setting (FieldOf (suc j) g) word = LawfulValue setting.sizes (held_at target (kind_of setting.sizes (suc j)) g) word
IsLawful target setting (Cell x) word = LawfulValue setting.sizes (root_kind target.roots x) word
IsLawful target setting (Head t) word = LawfulHead setting t word
IsLawful target setting (Link j) word = IsNullOrOf setting.sizes (kind_of setting.sizes j) word

-- what an entry that wants this access may be told: of a store, anything
abbrev pub Accepts : Target → Setting → WordAccess → ℕ → Type 0
Accepts target setting (Loads w) word = IsLawful target setting w word
Accepts target setting (Stores w x) word = Unit {0}
Accepts target setting (Exchanges w expected replacement) word = IsLawful target setting w word
Accepts target setting (Raises w x) word = IsLawful target setting w word

-- what an entry is told; an idle one is told nothing
abbrev pub MayBeTold : Target → Setting → Option WordAccess → ℕ → Type 0
MayBeTold target setting None word = Unit {0}
MayBeTold target setting (Some a) word = Accepts target setting a word

abbrev pub is_place : Word → Bool
is_place (Place c) = true
is_place Phase = false
is_place (Warning c) = false
is_place (Hazard c r) = false
is_place (Status j) = false
is_place (FieldOf j g) = false
is_place (Cell x) = false
is_place (Head t) = false
is_place (Link j) = false

-- an access to a word of the row, which isn't a place, and which goes on to hold a lawful word
pub record IsSafe (target : Target) (setting : Setting) (a : WordAccess) : Type 0 where
  pub row : in_row setting.sizes (word_of a) ≡ true
  pub place : is_place (word_of a) ≡ false
  pub lawful : (found : ℕ) → IsLawful target setting (word_of a) found → IsLawful target setting (word_of a) (word_after a found)

-- one is wanted, and it is safe
abbrev pub AsksSafely : Target → Setting → Option WordAccess → Type 0
AsksSafely target setting None = ⊥
AsksSafely target setting (Some a) = IsSafe target setting a
