-- A caller that has announced a phase holds back all that is retired in that phase or later, whether it could reach it or not.
-- Two callers run the list with three slots.
use Rattle.std.specs.Prelude.{◌≡◌, List, [], ◌∷◌, ◌++◌, Some}
use Rattle.norm_lang.specs.declared.reply.SourceReply.TheVariants as replies
use Rattle.oa_words.specs.Words.{Phase, Warning, FieldOf, Cell}
use Rattle.caller_parts.specs.Settings.{Setting}
use Rattle.core_runs.specs.Machine.{CoreEvent}
use Rattle.core_rows.specs.Short.{call_of, no_slots}
use Rattle.core_rows.specs.Stories.{Line, story, lines_after, left_after, steps, calls, reads, looks, takes, raises, finds, frees, pushes}
use Rattle.epoch_rows.specs.EpochStories.{list_code, list_setting, enters, enters_again, withdraws, leaves, heeds, reads_last, gives_up, word_after}
use Rattle.epoch_rows.specs.LoneRows.{one, empty_searched, linked, removed}

abbrev pub held_setting : Setting
held_setting = list_setting 2 3 1000000000

-- ---- caller 1 has announced phase 1 for its `contains 5`, and stands before the load of the sentinel's `next`

abbrev pub contains_begun : List Line
contains_begun = story (enters 1 1 (call_of 2 5) ∷ (reads (Cell 0) 2 ∷ []) ∷ [])

-- caller 0 inserts 5 in slot 2 and 6 in slot 3, and removes both
abbrev pub five_in : List Line
five_in = story (enters 0 1 (call_of 0 5) ∷ empty_searched ∷ takes 2 8194 3 8195 5 ∷ linked 0 2 4 5 1 0 ∷ [])

abbrev pub six_in : List Line
six_in = story (enters 0 1 (call_of 0 6) ∷ empty_searched ∷ takes 3 8195 0 8192 5 ∷ linked 0 3 6 6 1 0 ∷ [])

-- its `insert 8` sweeps twice. The least phase that is announced is 1, in which both slots were retired
abbrev pub eight_refused : List Line
eight_refused = story (
    enters 0 1 (call_of 0 8)
    ∷ empty_searched
    ∷ (looks 8192 ∷ withdraws 0 ∷ [])
    ∷ raises 1 2
    ∷ (heeds 0 0 ∷ heeds 1 1 ∷ finds 3 6 ∷ finds 2 6 ∷ finds 1 5 ∷ looks 8192 ∷ [])
    ∷ raises 2 3
    ∷ (heeds 0 0 ∷ heeds 1 1 ∷ finds 3 6 ∷ finds 2 6 ∷ finds 1 5 ∷ gives_up 8192 ∷ [])
    ∷ [])

abbrev pub begun : List CoreEvent
begun = calls 1 (call_of 2 5) 3

abbrev pub put_in : List CoreEvent
put_in = begun ++ calls 0 (call_of 0 5) 14

abbrev pub taken_out : List CoreEvent
taken_out = put_in ++ calls 0 (call_of 1 5) 11

abbrev pub put_in_again : List CoreEvent
put_in_again = taken_out ++ calls 0 (call_of 0 6) 14

abbrev pub all_out : List CoreEvent
all_out = put_in_again ++ calls 0 (call_of 1 6) 11

abbrev pub held : List CoreEvent
held = all_out ++ calls 0 (call_of 0 8) 22

pub record HeldRows : Type 0 where
  pub begins : lines_after list_code held_setting [] begun ≡ contains_begun
  pub inserts : lines_after list_code held_setting begun (calls 0 (call_of 0 5) 14) ≡ five_in
  pub removes : lines_after list_code held_setting put_in (calls 0 (call_of 1 5) 11) ≡ removed 1 2 4 5 6
  pub inserts_again : lines_after list_code held_setting taken_out (calls 0 (call_of 0 6) 14) ≡ six_in
  pub removes_again : lines_after list_code held_setting put_in_again (calls 0 (call_of 1 6) 11) ≡ removed 1 3 6 6 6
  pub refuses : lines_after list_code held_setting all_out (calls 0 (call_of 0 8) 22) ≡ eight_refused
  pub left : left_after list_code held_setting held 0
      ≡ Some (record { replies = one ∷ one ∷ one ∷ one ∷ replies.Full ∷ []; cradles = no_slots; restarts = 0; claims = 2 })
  pub phase : word_after list_code held_setting held Phase ≡ Some 3
  -- the announcement of caller 1 still stands, and that of caller 0 was withdrawn
  pub announced : word_after list_code held_setting held (Warning 1) ≡ Some 1
  pub withdrawn : word_after list_code held_setting held (Warning 0) ≡ Some 0

-- ---- caller 1 goes on: it finds nothing, and withdraws its announcement with the reply

abbrev pub contains_ends : List Line
contains_ends = reads_last (FieldOf 1 1) 0 ∷ leaves 1 ∷ []

-- now the sweep of `insert 8` makes both slots ready
abbrev pub eight_in : List Line
eight_in = story (
    enters 0 3 (call_of 0 8)
    ∷ empty_searched
    ∷ (looks 8192 ∷ withdraws 0 ∷ [])
    ∷ raises 3 4
    ∷ (heeds 0 0 ∷ heeds 1 0 ∷ finds 3 6 ∷ frees 3 6 16 ∷ [])
    ∷ pushes 3 8192 0 32771
    ∷ (finds 2 6 ∷ frees 2 6 16 ∷ [])
    ∷ pushes 2 32771 3 32770
    ∷ (finds 1 5 ∷ [])
    ∷ takes 2 32770 3 32771 17
    ∷ enters_again 0 4
    ∷ empty_searched
    ∷ linked 0 2 4 8 1 0
    ∷ [])

abbrev pub let_go : List CoreEvent
let_go = held ++ steps 1 2

abbrev pub eight_there : List CoreEvent
eight_there = let_go ++ calls 0 (call_of 0 8) 35

pub record LetGoRows : Type 0 where
  pub ends : lines_after list_code held_setting held (steps 1 2) ≡ contains_ends
  pub inserts : lines_after list_code held_setting let_go (calls 0 (call_of 0 8) 35) ≡ eight_in
  pub phase : word_after list_code held_setting eight_there Phase ≡ Some 4
  pub left : left_after list_code held_setting eight_there 0
      ≡ Some (record { replies = one ∷ one ∷ one ∷ one ∷ replies.Full ∷ one ∷ []; cradles = no_slots; restarts = 1; claims = 3 })
  pub other_left : left_after list_code held_setting eight_there 1 ≡ Some (record { replies = replies.Number 0 ∷ []; cradles = no_slots; restarts = 0; claims = 0 })
