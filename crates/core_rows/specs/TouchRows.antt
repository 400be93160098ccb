-- Runs of exchanges alone: one of a wrap-up is an access for its end, on null too; one that is to retire null retires
-- nothing; and a guard that is published again waits for a check again.
use Rattle.std.specs.Prelude.{◌≡◌, Bool, true, false, List, [], ◌∷◌, Option, Some}
use Rattle.guard_words.specs.Guards.{Guards}
use Rattle.oa_words.specs.Words.{Warning, FieldOf, Cell}
use Rattle.caller_parts.specs.Settings.{Setting}
use Rattle.caller_steps.specs.Signs.{Begins, Accesses}
use Rattle.core_rows.specs.Short.{call_of, setting_of}
use Rattle.core_rows.specs.SmallTargets.{touch_target}
use Rattle.core_rows.specs.Stories.{Line, Load, Exchange, gives, lines_after, guards_after, calls, begins, passes, renews, reads, guards}

abbrev pub touch_setting : Setting
touch_setting = setting_of 1 2 1 3 1 1000

-- the exchange is an access, and the end to which local code comes with it is one too
abbrev pub touch_lines : List Line
touch_lines =
    gives (Load (Warning 0) 1) (Begins (call_of 0 0) ∷ Accesses ∷ [])
    ∷ renews 0 1
    ∷ gives (Exchange (Cell 0) 0 0 0) (Accesses ∷ Accesses ∷ [])
    ∷ []

abbrev pub nudge_lines : List Line
nudge_lines =
    gives (Load (Warning 0) 1) (Begins (call_of 1 0) ∷ Accesses ∷ [])
    ∷ renews 0 1
    ∷ guards 0 0 0
    ∷ passes 0 1
    ∷ gives (Load (FieldOf 0 0) 0) (Accesses ∷ Accesses ∷ [])
    ∷ []

-- no load of the phase follows the exchange
abbrev pub free_lines : List Line
free_lines =
    begins 0 1 (call_of 3 0)
    ∷ reads (Cell 2) 0
    ∷ passes 0 1
    ∷ guards 0 0 0
    ∷ passes 0 1
    ∷ gives (Exchange (Cell 2) 0 0 0) (Accesses ∷ Accesses ∷ [])
    ∷ renews 0 1
    ∷ []

-- the guard of r0 for slot 1, validated or not
abbrev pub r0_guarded : Bool → Option Guards
r0_guarded validated = Some (record {
  slots = 1 ∷ 0 ∷ 0 ∷ 0 ∷ 0 ∷ 0 ∷ 0 ∷ 0 ∷ [];
  validated = validated ∷ false ∷ false ∷ false ∷ false ∷ false ∷ false ∷ false ∷ [];
})

pub record TouchRows : Type 0 where
  pub touch : lines_after touch_target touch_setting [] (calls 0 (call_of 0 0) 3) ≡ touch_lines
  pub nudge : lines_after touch_target touch_setting [] (calls 0 (call_of 1 0) 5) ≡ nudge_lines
  pub free : lines_after touch_target touch_setting [] (calls 0 (call_of 3 0) 7) ≡ free_lines
  -- `twice`: the guard, its check, the exchange, the guard once more, and its check
  pub guarded : guards_after touch_target touch_setting (calls 0 (call_of 2 0) 4) 0 ≡ r0_guarded false
  pub validated : guards_after touch_target touch_setting (calls 0 (call_of 2 0) 5) 0 ≡ r0_guarded true
  pub exchanged : guards_after touch_target touch_setting (calls 0 (call_of 2 0) 6) 0 ≡ r0_guarded true
  pub guarded_again : guards_after touch_target touch_setting (calls 0 (call_of 2 0) 7) 0 ≡ r0_guarded false
  pub validated_again : guards_after touch_target touch_setting (calls 0 (call_of 2 0) 8) 0 ≡ r0_guarded true
