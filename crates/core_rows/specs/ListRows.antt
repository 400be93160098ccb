-- Runs of the compiled list by one caller with three slots: insert, remove, insert, remove, and an insert that sweeps.
use Rattle.std.specs.Prelude.{◌≡◌, ℕ, List, [], ◌∷◌, ◌++◌, Some}
use Rattle.norm_lang.specs.declared.reply.SourceReply.{SourceReply}
use Rattle.norm_lang.specs.declared.reply.SourceReply.TheVariants as replies
use Rattle.oa_words.specs.Words.{FieldOf, Cell}
use Rattle.caller_parts.specs.Settings.{Setting}
use Rattle.core_runs.specs.Machine.{CoreEvent}
use Rattle.core_rows.specs.Short.{call_of, setting_of, no_slots}
use Rattle.core_rows.specs.ShippedTargets.{list_target}
use Rattle.core_rows.specs.Stories.{Line, story, lines_after, left_after, calls, begins, passes, renews, reads, puts, exchanges, guards, clears, draws, zeroes, looks, takes, retires, raises, warns, no_hazards, finds, frees, pushes}

abbrev pub list_setting : Setting
list_setting = setting_of 1 3 2 1 1 1000000000

-- the search in the empty list: the root, and the sentinel's `next`. A check comes after each load
abbrev pub empty_searched : ℕ → List Line
empty_searched w = reads (Cell 0) 2 ∷ passes 0 w ∷ reads (FieldOf 1 1) 0 ∷ passes 0 w ∷ []

-- the node in a slot gets its key and null, and goes after the sentinel
abbrev pub linked : ℕ → ℕ → ℕ → ℕ → List Line
linked w slot reference key = story (
    (zeroes slot 0 ∷ draws slot 1 ∷ passes 0 w ∷ [])
    ∷ (puts (FieldOf slot 0) key ∷ puts (FieldOf slot 1) 0 ∷ [])
    ∷ (guards 0 0 1 ∷ guards 0 1 0 ∷ guards 0 4 slot ∷ passes 0 w ∷ exchanges (FieldOf 1 1) 0 reference 0 ∷ [])
    ∷ (clears 0 0 ∷ clears 0 4 ∷ renews 0 w ∷ [])
    ∷ [])

-- `insert 7` with slot 2
abbrev pub first_insert : List Line
first_insert = story (
    (begins 0 1 (call_of 0 7) ∷ [])
    ∷ empty_searched 1
    ∷ takes 2 8194 3 8195 5
    ∷ linked 1 2 4 7
    ∷ [])

-- `remove 7` of the node in a slot: it is marked, taken out, and retired
abbrev pub removed : ℕ → ℕ → List Line
removed slot reference = story (
    (begins 0 1 (call_of 1 7) ∷ reads (Cell 0) 2 ∷ passes 0 1 ∷ reads (FieldOf 1 1) reference ∷ passes 0 1 ∷ [])
    ∷ (reads (FieldOf slot 1) 0 ∷ passes 0 1 ∷ reads (FieldOf slot 0) 7 ∷ passes 0 1 ∷ [])
    ∷ (guards 0 1 slot ∷ guards 0 2 0 ∷ guards 0 6 0 ∷ guards 0 0 1 ∷ passes 0 1 ∷ [])
    ∷ (exchanges (FieldOf slot 1) 0 1 0 ∷ exchanges (FieldOf 1 1) reference 0 reference ∷ [])
    ∷ retires slot 1 6
    ∷ (clears 0 0 ∷ clears 0 1 ∷ renews 0 1 ∷ [])
    ∷ [])

-- `insert 7` with slot 3, which slot 2 has left on top
abbrev pub second_insert : List Line
second_insert = story (
    (begins 0 1 (call_of 0 7) ∷ [])
    ∷ empty_searched 1
    ∷ takes 3 8195 0 8192 5
    ∷ linked 1 3 6 7
    ∷ [])

-- `insert 7` with slots 2 and 3 retired: the sweep makes both ready, and the check after the `new` finds the caller's own
-- warning. The generator begins once more and takes slot 2 from the cradle
abbrev pub third_insert : List Line
third_insert = story (
    (begins 0 1 (call_of 0 7) ∷ [])
    ∷ empty_searched 1
    ∷ (looks 8192 ∷ [])
    ∷ raises 1 2
    ∷ (warns 0 2 1 ∷ [])
    ∷ no_hazards 0
    ∷ (finds 3 6 ∷ frees 3 6 8 ∷ [])
    ∷ pushes 3 8192 0 16387
    ∷ (finds 2 6 ∷ frees 2 6 8 ∷ [])
    ∷ pushes 2 16387 3 16386
    ∷ (finds 1 5 ∷ [])
    ∷ takes 2 16386 3 16387 9
    ∷ (zeroes 2 0 ∷ draws 2 1 ∷ renews 0 2 ∷ [])
    ∷ empty_searched 2
    ∷ linked 2 2 4 7
    ∷ [])

abbrev pub inserted : List CoreEvent
inserted = calls 0 (call_of 0 7) 22

abbrev pub one_round : List CoreEvent
one_round = inserted ++ calls 0 (call_of 1 7) 21

abbrev pub inserted_again : List CoreEvent
inserted_again = one_round ++ calls 0 (call_of 0 7) 22

abbrev pub two_rounds : List CoreEvent
two_rounds = inserted_again ++ calls 0 (call_of 1 7) 21

abbrev pub third_inserted : List CoreEvent
third_inserted = two_rounds ++ calls 0 (call_of 0 7) 52

abbrev pub one : SourceReply
one = replies.Number 1

pub record ListRows : Type 0 where
  pub insert : lines_after list_target list_setting [] inserted ≡ first_insert
  pub remove : lines_after list_target list_setting inserted (calls 0 (call_of 1 7) 21) ≡ removed 2 4
  pub insert_again : lines_after list_target list_setting one_round (calls 0 (call_of 0 7) 22) ≡ second_insert
  pub remove_again : lines_after list_target list_setting inserted_again (calls 0 (call_of 1 7) 21) ≡ removed 3 6
  pub insert_sweeps : lines_after list_target list_setting two_rounds (calls 0 (call_of 0 7) 52) ≡ third_insert
  pub left : left_after list_target list_setting third_inserted 0
      ≡ Some (record { replies = one ∷ one ∷ one ∷ one ∷ one ∷ []; cradles = no_slots; restarts = 1; claims = 3 })
