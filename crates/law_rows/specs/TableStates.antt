-- States of a table of two callers that show a state of the core, and states that show none.
use Rattle.std.specs.Prelude.{◌≡◌, ℕ, List, [], ◌∷◌, ◌++◌, Some}
use Rattle.norm_lang.specs.declared.reply.SourceReply.TheVariants as replies
use Rattle.caller_parts.specs.Settings.{Setting}
use Rattle.caller_steps.specs.Entries.{Entry, RoomyEntry, idle_entry}
use Rattle.caller_parts.specs.declared.setting.Reclamation.TheVariants.{Optimistic}
use Rattle.caller_steps.specs.After.{taken}
use Rattle.core_runs.specs.Machine.{CoreState, core_run, core_start}
use Rattle.core_rows.specs.Short.{setting_of}
use Rattle.core_rows.specs.SmallTexts.{counter_text}
use Rattle.core_rows.specs.SmallTargets.{counter_target}
use Rattle.core_rows.specs.ReplayRows.{add}
use Rattle.core_rows.specs.Stories.{calls}
use Rattle.word_runner.specs.table_rule.Closing.{IsClosed}
use Rattle.word_runner.specs.table_rule.Seen.{Fixed, SeatView, newcomer, nobody, no_fixed}
use Rattle.word_runner.specs.table_rule.Rule.{Shows}

-- two callers of the counter, and one slot
abbrev pub two_setting : Setting
two_setting = setting_of 2 1 1 1 0 9

abbrev pub two_key : Fixed
two_key = record { target = record { target = counter_target; source = counter_text }; setting = two_setting }

-- the words, by those of the places and of the root: the phase, two places, two warnings, 16 hazards, the statuses of null (used, 5) and of
-- the slot (ready, 4), a field of each, the root, the head (the slot 1 is on top), and two links
abbrev pub other_words : ℕ → List ℕ
other_words root =
    1 ∷ 1 ∷ 0 ∷ 0 ∷ 0 ∷ 0 ∷ 0 ∷ 0 ∷ 0 ∷ 0 ∷ 0 ∷ 0 ∷ 0 ∷ 0 ∷ 0 ∷ 0 ∷ 0 ∷ 0 ∷ 5 ∷ 4 ∷ 0 ∷ 0 ∷ root ∷ 8193 ∷ 0 ∷ 0 ∷ []

abbrev pub table_words : (one two root : ℕ) → List ℕ
table_words one two root = 1 ∷ one ∷ two ∷ other_words root

-- the core at its start, and with caller 0 at this entry
abbrev pub core_with : Entry → CoreState
core_with e = record { words = table_words 0 0 0; entries = e ∷ idle_entry 1 ∷ [] }

abbrev pub at_start : CoreState
at_start = core_with (idle_entry 0)

-- caller 0 has taken a call, and stands at its begin
abbrev pub begun : Entry
begun = taken Optimistic (add 5) (idle_entry 0)

abbrev pub with_begun : CoreState
with_begun = core_with begun

-- ---- seats

abbrev pub seat : SeatView
seat = newcomer two_key

abbrev pub seat_with : List Entry → SeatView
seat_with entries = record seat { entries = entries }

abbrev pub seat_found : ℕ → SeatView
seat_found k = record seat { found = k }

-- another table's
abbrev pub stranger : SeatView
stranger = newcomer no_fixed

abbrev pub Showing : List ℕ → List SeatView → CoreState → Type 0
Showing words views core = Shows two_key words views core

pub record ShownRows : Type 0 where
  -- the core's state that is shown is its start
  pub start : core_start counter_target two_setting ≡ at_start
  pub begun_runs : core_run counter_target two_setting (calls 0 (add 5) 0) at_start ≡ Some with_begun
  -- nobody has entered
  pub empty : Showing (table_words 0 0 0) (seat ∷ []) at_start
  -- caller 0 has entered, and another seat has found its place taken
  pub entered : Showing (table_words 1 0 0) (seat_with (idle_entry 0 ∷ []) ∷ seat_found 1 ∷ []) at_start
  -- the same once a call was taken
  pub running : Showing (table_words 1 0 0) (seat_with (begun ∷ []) ∷ seat_found 1 ∷ []) with_begun
  -- both have entered, and their seats were joined
  pub joined : Showing (table_words 1 1 0) (seat_with (idle_entry 0 ∷ idle_entry 1 ∷ []) ∷ nobody ∷ []) at_start

pub record NotShownRows : Type 0 where
  -- a place is taken, and nobody has its entry
  pub place_alone : Showing (table_words 1 0 0) (seat ∷ []) at_start → ⊥
  pub second_place_alone : Showing (table_words 1 1 0) (seat_with (idle_entry 0 ∷ []) ∷ []) at_start → ⊥
  -- a seat has an entry whose place is free
  pub entry_alone : Showing (table_words 0 0 0) (seat_with (idle_entry 0 ∷ []) ∷ []) at_start → ⊥
  -- the entry of a place that is taken once stands in two views, or twice in one
  pub in_two : Showing (table_words 1 0 0) (seat_with (idle_entry 0 ∷ []) ∷ seat_with (idle_entry 0 ∷ []) ∷ []) at_start → ⊥
  pub twice : Showing (table_words 2 0 0) (seat_with (idle_entry 0 ∷ idle_entry 0 ∷ []) ∷ []) at_start → ⊥
  -- a seat has found a place taken that is free, and more places than there are
  pub free_found : Showing (table_words 1 0 0) (seat_with (idle_entry 0 ∷ []) ∷ seat_found 2 ∷ []) at_start → ⊥
  pub many_found : Showing (table_words 1 1 0) (seat_with (idle_entry 0 ∷ idle_entry 1 ∷ []) ∷ seat_found 3 ∷ []) at_start → ⊥
  -- the entry is another than the core's
  pub behind : Showing (table_words 1 0 0) (seat_with (idle_entry 0 ∷ []) ∷ []) with_begun → ⊥
  -- a caller that hasn't entered has a call
  pub absent : Showing (table_words 0 0 0) (seat ∷ []) with_begun → ⊥
  -- the root is another than the core's, and so is the phase, and the last link
  pub other_root : Showing (table_words 0 0 5) (seat ∷ []) at_start → ⊥
  pub other_phase : Showing (2 ∷ 0 ∷ 0 ∷ other_words 0) (seat ∷ []) at_start → ⊥
  -- a word too many
  pub longer : Showing (table_words 0 0 0 ++ 0 ∷ []) (seat ∷ []) at_start → ⊥
  -- a seat of another table
  pub strange : Showing (table_words 0 0 0) (stranger ∷ []) at_start → ⊥

-- ---- the end of a table

-- entries with room for replies: of caller 0 with a reply, and as it is made; and of caller 1 as it is made
abbrev pub with_reply : RoomyEntry
with_reply = record { core = record (idle_entry 0) { replies = record { call = add 5; reply = replies.Number 5; steps = 5 } ∷ [] }; room = 3 }

abbrev pub as_made : ℕ → RoomyEntry
as_made c = record { core = idle_entry c; room = 3 }

pub record NotClosedRows : Type 0 where
  -- an entry is handed out empty, and one isn't handed out at all, and one is that didn't rest
  pub emptied : IsClosed two_key (with_reply ∷ as_made 1 ∷ []) 1 (as_made 0 ∷ as_made 1 ∷ []) → ⊥
  pub lost : IsClosed two_key (as_made 0 ∷ as_made 1 ∷ []) 1 (as_made 0 ∷ []) → ⊥
  pub added : IsClosed two_key (as_made 0 ∷ []) 1 (as_made 0 ∷ as_made 1 ∷ []) → ⊥
