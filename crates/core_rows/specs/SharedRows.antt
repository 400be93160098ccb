-- Runs of the compiled list by two callers, step by step: a slot that is given out again if nobody guards it, and one
-- that stays retired because it is guarded.
use Rattle.std.specs.Prelude.{◌≡◌, ℕ, List, [], ◌∷◌, ◌++◌, Some}
use Rattle.norm_lang.specs.declared.reply.SourceReply.TheVariants as replies
use Rattle.oa_words.specs.Words.{Phase, Status, FieldOf, Cell}
use Rattle.caller_parts.specs.Settings.{Setting}
use Rattle.caller_steps.specs.Signs.{Accesses}
use Rattle.core_runs.specs.Machine.{CoreEvent}
use Rattle.core_rows.specs.Short.{call_of, setting_of, no_slots}
use Rattle.core_rows.specs.ShippedTargets.{list_target}
use Rattle.core_rows.specs.Stories.{Line, Load, Store, gives, silent, story, lines_after, left_after, steps, calls, begins, passes, ends, renews, reads, exchanges, guards, clears, draws, zeroes, looks, takes, raises, warns, hazards, no_hazards, finds, frees, pushes}
use Rattle.core_rows.specs.ListRows.{one, empty_searched, linked}

-- two callers, and so many slots
abbrev pub shared_setting : ℕ → Setting
shared_setting slots = setting_of 2 slots 2 1 1 1000000000

-- ---- two slots: `contains 5` of caller 1 stands before its load of slot 2's `next`, and guards nothing

abbrev pub contains_begun : List Line
contains_begun =
    begins 1 1 (call_of 2 5)
    ∷ reads (Cell 0) 2
    ∷ passes 1 1
    ∷ reads (FieldOf 1 1) 4
    ∷ passes 1 1
    ∷ []

-- caller 0 has removed 5, and its `insert 6` gives out slot 2 again
abbrev pub recycles : List Line
recycles = story (
    (begins 0 1 (call_of 0 6) ∷ [])
    ∷ empty_searched 1
    ∷ (looks 8192 ∷ [])
    ∷ raises 1 2
    ∷ (warns 0 2 1 ∷ warns 1 2 1 ∷ [])
    ∷ no_hazards 0
    ∷ no_hazards 1
    ∷ (finds 2 6 ∷ frees 2 6 8 ∷ [])
    ∷ pushes 2 8192 0 16386
    ∷ (finds 1 5 ∷ [])
    ∷ takes 2 16386 0 16384 9
    ∷ (zeroes 2 0 ∷ draws 2 1 ∷ renews 0 2 ∷ [])
    ∷ empty_searched 2
    ∷ linked 2 2 4 6
    ∷ [])

-- the load reads a recycled slot, and the check fails. The search begins once more, finds 6 in slot 2, and ends with an
-- empty list
abbrev pub contains_ends : List Line
contains_ends = story (
    (reads (FieldOf 2 1) 0 ∷ renews 1 2 ∷ [])
    ∷ (reads (Cell 0) 2 ∷ passes 1 2 ∷ reads (FieldOf 1 1) 4 ∷ passes 1 2 ∷ [])
    ∷ (reads (FieldOf 2 1) 0 ∷ passes 1 2 ∷ reads (FieldOf 2 0) 6 ∷ ends 1 2 ∷ renews 1 2 ∷ [])
    ∷ [])

abbrev pub five_in : List CoreEvent
five_in = calls 0 (call_of 0 5) 22

abbrev pub searching : List CoreEvent
searching = five_in ++ calls 1 (call_of 2 5) 5

abbrev pub five_out : List CoreEvent
five_out = searching ++ calls 0 (call_of 1 5) 21

abbrev pub recycled : List CoreEvent
recycled = five_out ++ calls 0 (call_of 0 6) 56

pub record RecycledRows : Type 0 where
  pub begun : lines_after list_target (shared_setting 2) five_in (calls 1 (call_of 2 5) 5) ≡ contains_begun
  pub given_out : lines_after list_target (shared_setting 2) five_out (calls 0 (call_of 0 6) 56) ≡ recycles
  pub ended : lines_after list_target (shared_setting 2) recycled (steps 1 11) ≡ contains_ends
  pub left : left_after list_target (shared_setting 2) (recycled ++ steps 1 11) 0
      ≡ Some (record { replies = one ∷ one ∷ one ∷ []; cradles = no_slots; restarts = 1; claims = 2 })
  pub other_left : left_after list_target (shared_setting 2) (recycled ++ steps 1 11) 1
      ≡ Some (record { replies = replies.Number 0 ∷ []; cradles = no_slots; restarts = 1; claims = 0 })

-- ---- three slots: `remove 5` of caller 1 stands before its marking exchange, with slots 1 and 2 guarded

abbrev pub remove_begun : List Line
remove_begun = story (
    (begins 1 1 (call_of 1 5) ∷ reads (Cell 0) 2 ∷ passes 1 1 ∷ reads (FieldOf 1 1) 4 ∷ passes 1 1 ∷ [])
    ∷ (reads (FieldOf 2 1) 0 ∷ passes 1 1 ∷ reads (FieldOf 2 0) 5 ∷ passes 1 1 ∷ [])
    ∷ (guards 1 1 2 ∷ guards 1 2 0 ∷ guards 1 6 0 ∷ guards 1 0 1 ∷ passes 1 1 ∷ [])
    ∷ [])

-- caller 0 has removed 5, inserted 6 in slot 3 and removed it. The sweep of its `insert 8` leaves slot 2 retired and makes
-- slot 3 ready
abbrev pub spares : List Line
spares = story (
    (begins 0 1 (call_of 0 8) ∷ [])
    ∷ empty_searched 1
    ∷ (looks 8192 ∷ [])
    ∷ raises 1 2
    ∷ (warns 0 2 1 ∷ warns 1 2 1 ∷ [])
    ∷ no_hazards 0
    ∷ hazards 1 (1 ∷ 2 ∷ 0 ∷ 0 ∷ 0 ∷ 0 ∷ 0 ∷ 0 ∷ [])
    ∷ (finds 3 6 ∷ frees 3 6 8 ∷ [])
    ∷ pushes 3 8192 0 16387
    ∷ (finds 2 6 ∷ finds 1 5 ∷ [])
    ∷ takes 3 16387 0 16384 9
    ∷ (zeroes 3 0 ∷ draws 3 1 ∷ renews 0 2 ∷ [])
    ∷ empty_searched 2
    ∷ linked 2 3 6 8
    ∷ [])

-- the exchange finds the mark and fails. The wrap-up begins again without an access of its own, and the search finds 8
abbrev pub remove_ends : List Line
remove_ends = story (
    (exchanges (FieldOf 2 1) 0 1 1 ∷ clears 1 0 ∷ clears 1 1 ∷ renews 1 2 ∷ renews 1 2 ∷ [])
    ∷ (reads (Cell 0) 2 ∷ passes 1 2 ∷ reads (FieldOf 1 1) 6 ∷ passes 1 2 ∷ [])
    ∷ (reads (FieldOf 3 1) 0 ∷ passes 1 2 ∷ reads (FieldOf 3 0) 8 ∷ ends 1 2 ∷ renews 1 2 ∷ [])
    ∷ [])

abbrev pub marking : List CoreEvent
marking = five_in ++ calls 1 (call_of 1 5) 14

abbrev pub six_out : List CoreEvent
six_out = marking ++ (calls 0 (call_of 1 5) 21 ++ (calls 0 (call_of 0 6) 22 ++ calls 0 (call_of 1 6) 21))

abbrev pub spared : List CoreEvent
spared = six_out ++ calls 0 (call_of 0 8) 57

pub record SparedRows : Type 0 where
  pub begun : lines_after list_target (shared_setting 3) five_in (calls 1 (call_of 1 5) 14) ≡ remove_begun
  pub kept : lines_after list_target (shared_setting 3) six_out (calls 0 (call_of 0 8) 57) ≡ spares
  pub ended : lines_after list_target (shared_setting 3) spared (steps 1 14) ≡ remove_ends
  pub left : left_after list_target (shared_setting 3) (spared ++ steps 1 14) 0
      ≡ Some (record { replies = one ∷ one ∷ one ∷ one ∷ one ∷ []; cradles = no_slots; restarts = 1; claims = 3 })
  pub other_left : left_after list_target (shared_setting 3) (spared ++ steps 1 14) 1
      ≡ Some (record { replies = replies.Number 0 ∷ []; cradles = no_slots; restarts = 0; claims = 0 })

-- ---- an auxiliary exchange that retires: `remove 5` of caller 1 has marked the node and stands before its second exchange

-- `contains 5` of caller 0 finds the mark, takes the node out and retires it. With the retirement's end local code comes to
-- the end of the empty list
abbrev pub contains_helps : List Line
contains_helps = story (
    (begins 0 1 (call_of 2 5) ∷ reads (Cell 0) 2 ∷ passes 0 1 ∷ reads (FieldOf 1 1) 4 ∷ passes 0 1 ∷ reads (FieldOf 2 1) 1 ∷ passes 0 1 ∷ [])
    ∷ (guards 0 0 1 ∷ guards 0 1 2 ∷ guards 0 3 0 ∷ passes 0 1 ∷ exchanges (FieldOf 1 1) 4 0 4 ∷ [])
    ∷ (silent (Load Phase 1) ∷ gives (Store (Status 2) 6) (Accesses ∷ []) ∷ [])
    ∷ (clears 0 0 ∷ clears 0 1 ∷ renews 0 1 ∷ [])
    ∷ [])

-- the second exchange fails and retires nothing; the first has succeeded, and the reply is 1
abbrev pub remove_helped : List Line
remove_helped = exchanges (FieldOf 1 1) 4 0 0 ∷ clears 1 0 ∷ clears 1 1 ∷ renews 1 1 ∷ []

abbrev pub marked : List CoreEvent
marked = five_in ++ calls 1 (call_of 1 5) 15

abbrev pub helped : List CoreEvent
helped = marked ++ calls 0 (call_of 2 5) 17

pub record HelpedRows : Type 0 where
  pub helps : lines_after list_target (shared_setting 3) marked (calls 0 (call_of 2 5) 17) ≡ contains_helps
  pub ended : lines_after list_target (shared_setting 3) helped (steps 1 4) ≡ remove_helped
  pub left : left_after list_target (shared_setting 3) (helped ++ steps 1 4) 0
      ≡ Some (record { replies = one ∷ replies.Number 0 ∷ []; cradles = no_slots; restarts = 0; claims = 1 })
  pub other_left : left_after list_target (shared_setting 3) (helped ++ steps 1 4) 1
      ≡ Some (record { replies = one ∷ []; cradles = no_slots; restarts = 0; claims = 0 })
