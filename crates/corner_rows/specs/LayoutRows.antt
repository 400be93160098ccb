-- Addresses with three callers: caller by caller, and in each caller register by register. And the words that guards store.
use Rattle.std.specs.Prelude.{◌≡◌, ℕ, List, [], ◌∷◌, take, drop, Option, Some, None}
use Rattle.oa_words.specs.Words.{Sizes, Place, Warning, Hazard, Status, FieldOf, Cell, Head, Link, address_of, word_count}
use Rattle.caller_parts.specs.Settings.{Setting}
use Rattle.core_runs.specs.Machine.{CoreState, CoreEvent, core_run, core_start}
use Rattle.core_rows.specs.Short.{call_of, setting_of}
use Rattle.core_rows.specs.Stories.{calls}
use Rattle.corner_rows.specs.CornerTargets.{unlink_target}

-- three callers, two slots, two fields and two roots
abbrev pub three_callers : Sizes
three_callers = record { callers = 3; slots = 2; fields = 2; cells = 2; kinds = 2 ∷ []; tops = 8192 }

-- 1 phase, 3 places, 3 warnings, 24 hazards, 3 statuses, 6 fields, 2 roots, the head and 3 links
pub record AddressRows : Type 0 where
  pub first_place : address_of three_callers (Place 0) ≡ 1
  pub last_place : address_of three_callers (Place 2) ≡ 3
  pub first_warning : address_of three_callers (Warning 0) ≡ 4
  pub last_warning : address_of three_callers (Warning 2) ≡ 6
  pub first_hazard : address_of three_callers (Hazard 0 0) ≡ 7
  pub first_last : address_of three_callers (Hazard 0 7) ≡ 14
  pub second_first : address_of three_callers (Hazard 1 0) ≡ 15
  pub second_third : address_of three_callers (Hazard 1 2) ≡ 17
  pub second_last : address_of three_callers (Hazard 1 7) ≡ 22
  pub third_first : address_of three_callers (Hazard 2 0) ≡ 23
  pub last_hazard : address_of three_callers (Hazard 2 7) ≡ 30
  pub null_status : address_of three_callers (Status 0) ≡ 31
  pub last_status : address_of three_callers (Status 2) ≡ 33
  pub null_field : address_of three_callers (FieldOf 0 0) ≡ 34
  pub first_slot : address_of three_callers (FieldOf 1 0) ≡ 36
  pub last_field : address_of three_callers (FieldOf 2 1) ≡ 39
  pub first_root : address_of three_callers (Cell 0) ≡ 40
  pub last_root : address_of three_callers (Cell 1) ≡ 41
  pub head : address_of three_callers (Head 0) ≡ 42
  pub null_link : address_of three_callers (Link 0) ≡ 43
  pub last_link : address_of three_callers (Link 2) ≡ 45
  pub all : word_count three_callers ≡ 46

-- three callers on two slots of one field, and one root
abbrev pub guarding_setting : Setting
guarding_setting = setting_of 3 2 1 1 2 1000

-- the words from an address on, so many
abbrev pub words_from : ℕ → ℕ → Option CoreState → List ℕ
words_from at count None = []
words_from at count (Some state) = take count (drop at state.words)

-- the middle caller has guarded slot 1 by its first register, and slot 2 by its second
abbrev pub guarded_by_second : List CoreEvent
guarded_by_second = calls 1 (call_of 0 0) 7

-- the hazards of three callers are words 7 to 30: those of the middle one begin with word 15
pub record GuardWordRows : Type 0 where
  pub words : words_from 7 24 (core_run unlink_target guarding_setting guarded_by_second (core_start unlink_target guarding_setting))
      ≡ 0 ∷ 0 ∷ 0 ∷ 0 ∷ 0 ∷ 0 ∷ 0 ∷ 0 ∷ 1 ∷ 2 ∷ 0 ∷ 0 ∷ 0 ∷ 0 ∷ 0 ∷ 0 ∷ 0 ∷ 0 ∷ 0 ∷ 0 ∷ 0 ∷ 0 ∷ 0 ∷ 0 ∷ []
