-- Runs of the list under epochs by one caller with three slots, step by step: an insert and a removal, a list that is full, a slot
-- that comes back, and phases that are over.
use Rattle.std.specs.Prelude.{◌≡◌, ℕ, List, [], ◌∷◌, ◌++◌, Some}
use Rattle.norm_lang.specs.declared.reply.SourceReply.{SourceReply}
use Rattle.norm_lang.specs.declared.reply.SourceReply.TheVariants as replies
use Rattle.oa_words.specs.Words.{Phase, Warning, FieldOf, Cell}
use Rattle.caller_parts.specs.Settings.{Setting}
use Rattle.core_runs.specs.Machine.{CoreEvent}
use Rattle.core_rows.specs.Short.{call_of, no_slots}
use Rattle.core_rows.specs.Stories.{Line, story, lines_after, left_after, calls, reads, puts, exchanges, draws, zeroes, looks, takes, retires, raises, finds, frees, pushes}
use Rattle.epoch_rows.specs.EpochStories.{list_code, list_setting, enters, enters_again, withdraws, leaves, heeds, reads_last, gives_up, is_over, word_after}

abbrev pub lone_setting : Setting
lone_setting = list_setting 1 3 1000000000

-- the search in the empty list: the root, and the sentinel's `next`
abbrev pub empty_searched : List Line
empty_searched = reads (Cell 0) 2 ∷ reads (FieldOf 1 1) 0 ∷ []

-- the node in a slot gets its key and a reference, and goes after a node in the place of that reference. With the exchange local code
-- comes to the reply
abbrev pub linked : ℕ → ℕ → ℕ → ℕ → ℕ → ℕ → List Line
linked c slot reference key before next =
    zeroes slot 0
    ∷ draws slot 1
    ∷ puts (FieldOf slot 0) key
    ∷ puts (FieldOf slot 1) next
    ∷ exchanges (FieldOf before 1) next reference next
    ∷ leaves c
    ∷ []

-- the only node, with its reference, is marked, taken out and retired
abbrev pub removed : ℕ → ℕ → ℕ → ℕ → ℕ → List Line
removed phase slot reference key retired = story (
    enters 0 phase (call_of 1 key)
    ∷ (reads (Cell 0) 2 ∷ reads (FieldOf 1 1) reference ∷ reads (FieldOf slot 1) 0 ∷ reads (FieldOf slot 0) key ∷ [])
    ∷ (exchanges (FieldOf slot 1) 0 1 0 ∷ exchanges (FieldOf 1 1) reference 0 reference ∷ [])
    ∷ retires slot phase retired
    ∷ (leaves 0 ∷ [])
    ∷ [])

-- ---- an insert and a removal

abbrev pub first_insert : List Line
first_insert = story (enters 0 1 (call_of 0 7) ∷ empty_searched ∷ takes 2 8194 3 8195 5 ∷ linked 0 2 4 7 1 0 ∷ [])

abbrev pub inserted : List CoreEvent
inserted = calls 0 (call_of 0 7) 14

abbrev pub one_round : List CoreEvent
one_round = inserted ++ calls 0 (call_of 1 7) 11

-- ---- a list that is full: keys 1 and 2 stand in slots 2 and 3

abbrev pub both_searched : List Line
both_searched =
    reads (Cell 0) 2
    ∷ reads (FieldOf 1 1) 4
    ∷ reads (FieldOf 2 1) 6
    ∷ reads (FieldOf 2 0) 1
    ∷ reads (FieldOf 3 1) 0
    ∷ reads (FieldOf 3 0) 2
    ∷ []

-- both sweeps find every slot used
abbrev pub full_insert : List Line
full_insert = story (
    enters 0 1 (call_of 0 3)
    ∷ both_searched
    ∷ (looks 8192 ∷ withdraws 0 ∷ [])
    ∷ raises 1 2
    ∷ (heeds 0 0 ∷ finds 3 5 ∷ finds 2 5 ∷ finds 1 5 ∷ looks 8192 ∷ [])
    ∷ raises 2 3
    ∷ (heeds 0 0 ∷ finds 3 5 ∷ finds 2 5 ∷ finds 1 5 ∷ gives_up 8192 ∷ [])
    ∷ [])

abbrev pub two_in : List CoreEvent
two_in = calls 0 (call_of 0 1) 14 ++ calls 0 (call_of 0 2) 16

abbrev pub refused : List CoreEvent
refused = two_in ++ calls 0 (call_of 0 3) 24

-- ---- a slot that comes back: key 1 was removed, and slot 2 is retired

-- the sweep of `insert 3` makes slot 2 ready, and the claim takes it. The caller announces anew, and the generator begins again with
-- the slot in its cradle
abbrev pub back_insert : List Line
back_insert = story (
    enters 0 1 (call_of 0 3)
    ∷ (reads (Cell 0) 2 ∷ reads (FieldOf 1 1) 6 ∷ reads (FieldOf 3 1) 0 ∷ reads (FieldOf 3 0) 2 ∷ [])
    ∷ (looks 8192 ∷ withdraws 0 ∷ [])
    ∷ raises 1 2
    ∷ (heeds 0 0 ∷ finds 3 5 ∷ finds 2 6 ∷ frees 2 6 8 ∷ [])
    ∷ pushes 2 8192 0 16386
    ∷ (finds 1 5 ∷ [])
    ∷ takes 2 16386 0 16384 9
    ∷ enters_again 0 2
    ∷ (reads (Cell 0) 2 ∷ reads (FieldOf 1 1) 6 ∷ reads (FieldOf 3 1) 0 ∷ reads (FieldOf 3 0) 2 ∷ [])
    ∷ linked 0 2 4 3 3 0
    ∷ [])

abbrev pub back_contains : List Line
back_contains = story (
    enters 0 2 (call_of 2 3)
    ∷ (reads (Cell 0) 2 ∷ reads (FieldOf 1 1) 6 ∷ reads (FieldOf 3 1) 4 ∷ reads (FieldOf 3 0) 2 ∷ reads (FieldOf 2 1) 0 ∷ reads_last (FieldOf 2 0) 3 ∷ leaves 0 ∷ [])
    ∷ [])

abbrev pub one_out : List CoreEvent
one_out = two_in ++ calls 0 (call_of 1 1) 11

abbrev pub back_in : List CoreEvent
back_in = one_out ++ calls 0 (call_of 0 3) 34

-- ---- phases that are over: with phases 1 and 2, after four rounds slots 2 and 3 are retired in phase 2

abbrev pub short_setting : Setting
short_setting = list_setting 1 3 2

-- the third round's insert sweeps, and makes both slots ready
abbrev pub third_insert : List Line
third_insert = story (
    enters 0 1 (call_of 0 7)
    ∷ empty_searched
    ∷ (looks 8192 ∷ withdraws 0 ∷ [])
    ∷ raises 1 2
    ∷ (heeds 0 0 ∷ finds 3 6 ∷ frees 3 6 8 ∷ [])
    ∷ pushes 3 8192 0 16387
    ∷ (finds 2 6 ∷ frees 2 6 8 ∷ [])
    ∷ pushes 2 16387 3 16386
    ∷ (finds 1 5 ∷ [])
    ∷ takes 2 16386 3 16387 9
    ∷ enters_again 0 2
    ∷ empty_searched
    ∷ linked 0 2 4 7 1 0
    ∷ [])

-- that of the fifth can't
abbrev pub over_insert : List Line
over_insert = story (enters 0 2 (call_of 0 7) ∷ empty_searched ∷ (looks 16384 ∷ withdraws 0 ∷ is_over 2 ∷ []) ∷ [])

abbrev pub two_rounds : List CoreEvent
two_rounds = one_round ++ (calls 0 (call_of 0 7) 14 ++ calls 0 (call_of 1 7) 11)

abbrev pub four_rounds : List CoreEvent
four_rounds = two_rounds ++ (calls 0 (call_of 0 7) 34 ++ (calls 0 (call_of 1 7) 11 ++ (calls 0 (call_of 0 7) 14 ++ calls 0 (call_of 1 7) 11)))

abbrev pub over : List CoreEvent
over = four_rounds ++ calls 0 (call_of 0 7) 7

abbrev pub one : SourceReply
one = replies.Number 1

-- ---- the rows

pub record LoneRows : Type 0 where
  pub insert : lines_after list_code lone_setting [] inserted ≡ first_insert
  pub remove : lines_after list_code lone_setting inserted (calls 0 (call_of 1 7) 11) ≡ removed 1 2 4 7 6
  -- a claim without a sweep restarts nothing
  pub left : left_after list_code lone_setting one_round 0 ≡ Some (record { replies = one ∷ one ∷ []; cradles = no_slots; restarts = 0; claims = 1 })
  pub full : lines_after list_code lone_setting two_in (calls 0 (call_of 0 3) 24) ≡ full_insert
  pub full_left : left_after list_code lone_setting refused 0 ≡ Some (record { replies = one ∷ one ∷ replies.Full ∷ []; cradles = no_slots; restarts = 0; claims = 2 })
  -- nothing is announced then, and the phase is 3
  pub full_word : word_after list_code lone_setting refused (Warning 0) ≡ Some 0
  pub full_phase : word_after list_code lone_setting refused Phase ≡ Some 3

pub record BackRows : Type 0 where
  pub comes_back : lines_after list_code lone_setting one_out (calls 0 (call_of 0 3) 34) ≡ back_insert
  pub found : lines_after list_code lone_setting back_in (calls 0 (call_of 2 3) 9) ≡ back_contains
  pub left : left_after list_code lone_setting (back_in ++ calls 0 (call_of 2 3) 9) 0
      ≡ Some (record { replies = one ∷ one ∷ one ∷ one ∷ one ∷ []; cradles = no_slots; restarts = 1; claims = 3 })
  pub sweeps : lines_after list_code short_setting two_rounds (calls 0 (call_of 0 7) 34) ≡ third_insert
  pub gives_over : lines_after list_code short_setting four_rounds (calls 0 (call_of 0 7) 7) ≡ over_insert
  pub over_left : left_after list_code short_setting over 0
      ≡ Some (record { replies = one ∷ one ∷ one ∷ one ∷ one ∷ one ∷ one ∷ one ∷ replies.Phases 2 ∷ []; cradles = no_slots; restarts = 1; claims = 4 })
  pub over_word : word_after list_code short_setting over (Warning 0) ≡ Some 0
