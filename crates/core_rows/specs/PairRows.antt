-- Runs over initial nodes of two fields, with two arguments and with marked references; and runs whose first phase isn't 1.
use Rattle.std.specs.Prelude.{◌≡◌, List, [], ◌∷◌, ◌++◌, Some}
use Rattle.norm_lang.specs.declared.reply.SourceReply.TheVariants as replies
use Rattle.oa_words.specs.Words.{FieldOf, Cell}
use Rattle.caller_parts.specs.declared.call.Call.{Call}
use Rattle.caller_parts.specs.Settings.{Setting}
use Rattle.core_rows.specs.Short.{call_of, setting_of, no_slots}
use Rattle.core_rows.specs.SmallTargets.{pair_target}
use Rattle.core_rows.specs.ShippedTargets.{list_target}
use Rattle.core_rows.specs.ListRows.{list_setting, empty_searched, linked}
use Rattle.core_rows.specs.Stories.{Line, story, lines_after, left_after, calls, begins, passes, ends, renews, reads, exchanges, guards, clears, takes, retires}

abbrev pub pair_setting : Setting
pair_setting = setting_of 1 2 2 1 2 1000

-- the first node leads to the second, whose number is 9
abbrev pub second_lines : List Line
second_lines =
    begins 0 1 (call_of 0 0)
    ∷ reads (Cell 0) 2
    ∷ passes 0 1
    ∷ reads (FieldOf 1 1) 4
    ∷ passes 0 1
    ∷ reads (FieldOf 2 0) 9
    ∷ ends 0 1
    ∷ renews 0 1
    ∷ []

abbrev pub nine_less_four : Call
nine_less_four = record { op = 1; args = 9 ∷ 4 ∷ 0 ∷ 0 ∷ [] }

-- the mark of a base and of an object doesn't matter, and a guard holds the slot alone. What is compared has its mark, and
-- null with a mark is null
abbrev pub marks_lines : List Line
marks_lines =
    begins 0 1 (call_of 2 0)
    ∷ reads (Cell 0) 2
    ∷ passes 0 1
    ∷ reads (FieldOf 1 0) 7
    ∷ passes 0 1
    ∷ guards 0 1 1
    ∷ passes 0 1
    ∷ exchanges (FieldOf 1 0) 7 8 7
    ∷ guards 0 1 1
    ∷ guards 0 0 1
    ∷ passes 0 1
    ∷ exchanges (Cell 0) 3 2 2
    ∷ guards 0 2 0
    ∷ passes 0 1
    ∷ reads (FieldOf 0 0) 0
    ∷ clears 0 0
    ∷ clears 0 1
    ∷ renews 0 1
    ∷ []

pub record PairRows : Type 0 where
  pub second : lines_after pair_target pair_setting [] (calls 0 (call_of 0 0) 8) ≡ second_lines
  pub left : left_after pair_target pair_setting (calls 0 (call_of 0 0) 8 ++ calls 0 nine_less_four 2) 0
      ≡ Some (record { replies = replies.Number 9 ∷ replies.Number 5 ∷ []; cradles = no_slots; restarts = 0; claims = 0 })
  pub marks : lines_after pair_target pair_setting [] (calls 0 (call_of 2 0) 18) ≡ marks_lines
  -- 8, and not 9: the exchange of the root failed
  pub marks_left : left_after pair_target pair_setting (calls 0 (call_of 2 0) 18) 0
      ≡ Some (record { replies = replies.Number 8 ∷ []; cradles = no_slots; restarts = 0; claims = 0 })

-- the list from phase 5 on
abbrev pub fifth_setting : Setting
fifth_setting = record list_setting { first = 5 }

-- used in phase 5 is 21, and the head of phase 5 is 40960 and the slot on top
abbrev pub fifth_insert : List Line
fifth_insert = story (
    (begins 0 5 (call_of 0 7) ∷ [])
    ∷ empty_searched 5
    ∷ takes 2 40962 3 40963 21
    ∷ linked 5 2 4 7
    ∷ [])

-- and retired 22
abbrev pub fifth_remove : List Line
fifth_remove = story (
    (begins 0 5 (call_of 1 7) ∷ reads (Cell 0) 2 ∷ passes 0 5 ∷ reads (FieldOf 1 1) 4 ∷ passes 0 5 ∷ [])
    ∷ (reads (FieldOf 2 1) 0 ∷ passes 0 5 ∷ reads (FieldOf 2 0) 7 ∷ passes 0 5 ∷ [])
    ∷ (guards 0 1 2 ∷ guards 0 2 0 ∷ guards 0 6 0 ∷ guards 0 0 1 ∷ passes 0 5 ∷ [])
    ∷ (exchanges (FieldOf 2 1) 0 1 0 ∷ exchanges (FieldOf 1 1) 4 0 4 ∷ [])
    ∷ retires 2 5 22
    ∷ (clears 0 0 ∷ clears 0 1 ∷ renews 0 5 ∷ [])
    ∷ [])

pub record FifthRows : Type 0 where
  pub insert : lines_after list_target fifth_setting [] (calls 0 (call_of 0 7) 22) ≡ fifth_insert
  pub remove : lines_after list_target fifth_setting (calls 0 (call_of 0 7) 22) (calls 0 (call_of 1 7) 21) ≡ fifth_remove
