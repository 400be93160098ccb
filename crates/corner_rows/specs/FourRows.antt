-- Runs with four `new` in one path: each has a cradle of its own, a restart claims no slot again, and a list empties the cradles of the
-- nodes that it has published and no others. Its lists have four exchanges.
use Rattle.std.specs.Prelude.{◌≡◌, ℕ, false, List, [], ◌∷◌, ◌++◌, Option, Some}
use Rattle.norm_lang.specs.declared.registers.Registers.{Registers}
use Rattle.norm_lang.specs.Registers.{first_registers, with_reference}
use Rattle.norm_lang.specs.declared.reply.SourceReply.{SourceReply}
use Rattle.norm_lang.specs.declared.reply.SourceReply.TheVariants as replies
use Rattle.guard_words.specs.Guards.{no_guards}
use Rattle.oa_words.specs.Words.{Cell}
use Rattle.caller_parts.specs.declared.routine.Routine.TheVariants.{InList}
use Rattle.caller_parts.specs.Settings.{Setting}
use Rattle.caller_steps.specs.Entries.{Entry, idle_entry, empty_hand}
use Rattle.caller_steps.specs.After.{after}
use Rattle.core_runs.specs.Machine.{CoreEvent}
use Rattle.core_rows.specs.Short.{r1, call_of, setting_of, no_slots, cradles_of}
use Rattle.core_rows.specs.Stories.{Line, Left, story, lines_after, left_after, steps, calls, begins, passes, renews, exchanges, guards, clears, draws, takes}
use Rattle.corner_rows.specs.CornerTargets.{four_target}

-- so many callers, and so many slots, all of them ready
abbrev pub four_setting : ℕ → ℕ → Setting
four_setting callers slots = setting_of callers slots 1 5 0 1000

abbrev pub holds : List SourceReply → List ℕ → ℕ → ℕ → Option Left
holds replies cradles restarts claims = Some (record { replies = replies; cradles = cradles; restarts = restarts; claims = claims })

-- ---- one caller, and four slots

abbrev pub one_new : ℕ → ℕ → ℕ → ℕ → List Line
one_new slot head link next = takes slot head link next 5 ++ (draws slot 0 ∷ passes 0 1 ∷ [])

-- each `new` takes the slot on top. Then null and the four nodes are guarded, and each exchange publishes one: its reference is twice its slot
abbrev pub four_lines : List Line
four_lines = story (
    (begins 0 1 (call_of 0 0) ∷ [])
    ∷ one_new 1 8193 2 8194
    ∷ one_new 2 8194 3 8195
    ∷ one_new 3 8195 4 8196
    ∷ one_new 4 8196 0 8192
    ∷ (guards 0 0 0 ∷ guards 0 1 1 ∷ guards 0 2 2 ∷ guards 0 3 3 ∷ guards 0 4 4 ∷ passes 0 1 ∷ [])
    ∷ (exchanges (Cell 0) 0 2 0 ∷ exchanges (Cell 1) 0 4 0 ∷ exchanges (Cell 2) 0 6 0 ∷ exchanges (Cell 3) 0 8 0 ∷ [])
    ∷ (clears 0 1 ∷ clears 0 2 ∷ clears 0 3 ∷ clears 0 4 ∷ renews 0 1 ∷ [])
    ∷ [])

-- what the caller holds after so many steps of its first call
abbrev pub four_left : ℕ → Option Left
four_left n = left_after four_target (four_setting 1 4) (calls 0 (call_of 0 0) n) 0

-- ---- a restart with all cradles full

-- caller 0 stands before the check after its last `new`, and the sweep of caller 1 has warned both callers of phase 2
abbrev pub four_warned : List CoreEvent
four_warned = calls 0 (call_of 0 0) 24 ++ calls 1 (call_of 0 0) 6

-- each `new` takes the slot of its cradle
abbrev pub four_again : List Line
four_again =
    renews 0 2
    ∷ draws 1 0
    ∷ passes 0 2
    ∷ draws 2 0
    ∷ passes 0 2
    ∷ draws 3 0
    ∷ passes 0 2
    ∷ draws 4 0
    ∷ passes 0 2
    ∷ []

-- ---- a list that fails in the middle

-- caller 0 stands before its list, and caller 1 has put slot 5 into the third root
abbrev pub third_full : List CoreEvent
third_full = calls 0 (call_of 0 0) 31 ++ calls 1 (call_of 1 0) 13

-- the third exchange fails, and the fourth isn't made
abbrev pub two_of_four : List Line
two_of_four = story (
    (exchanges (Cell 0) 0 2 0 ∷ exchanges (Cell 1) 0 4 0 ∷ exchanges (Cell 2) 0 6 10 ∷ [])
    ∷ (clears 0 1 ∷ clears 0 2 ∷ clears 0 3 ∷ clears 0 4 ∷ renews 0 1 ∷ [])
    ∷ [])

-- ---- numbers that equal a cradle's slot, or its reference

-- `label` claims slot 1. After its first exchange, of the number, the cradle holds the slot still; after the second, of the node, it is empty
abbrev pub labelled : ℕ → ℕ → Option Left
labelled number n = left_after four_target (four_setting 1 4) (calls 0 (call_of 2 number) n) 0

-- ---- two cradles with one slot

-- a caller before the list of a `put_in`, whose node is in slot 2
abbrev pub two_registers : Registers
two_registers = with_reference (first_registers []) r1 (record { node = 2; marked = false })

abbrev pub twice_held : Entry
twice_held = record (idle_entry 0) {
  running = record { call = call_of 1 0; steps = 8 };
  hand = record empty_hand { at = 6; registers = two_registers; seen = 1; guards = record no_guards { slots = 0 ∷ 2 ∷ 0 ∷ 0 ∷ 0 ∷ 0 ∷ 0 ∷ 0 ∷ [] } };
  cradles = cradles_of 2 3 2 0;
  routine = InList 0;
}

pub record FourRows : Type 0 where
  pub alone : lines_after four_target (four_setting 1 4) [] (calls 0 (call_of 0 0) 40) ≡ four_lines
  -- after each `new` and its check
  pub one : four_left 7 ≡ holds [] (cradles_of 1 0 0 0) 0 1
  pub two : four_left 13 ≡ holds [] (cradles_of 1 2 0 0) 0 2
  pub three : four_left 19 ≡ holds [] (cradles_of 1 2 3 0) 0 3
  pub all : four_left 25 ≡ holds [] (cradles_of 1 2 3 4) 0 4
  -- and after each exchange
  pub one_published : four_left 32 ≡ holds [] (cradles_of 0 2 3 4) 0 4
  pub two_published : four_left 33 ≡ holds [] (cradles_of 0 0 3 4) 0 4
  pub three_published : four_left 34 ≡ holds [] (cradles_of 0 0 0 4) 0 4
  pub all_published : four_left 35 ≡ holds [] no_slots 0 4
  pub left : four_left 40 ≡ holds (replies.Number 4 ∷ []) no_slots 0 4
  pub restart : lines_after four_target (four_setting 2 4) four_warned (steps 0 9) ≡ four_again
  pub restart_left : left_after four_target (four_setting 2 4) (four_warned ++ steps 0 9) 0 ≡ holds [] (cradles_of 1 2 3 4) 1 4
  pub part : lines_after four_target (four_setting 2 5) third_full (steps 0 8) ≡ two_of_four
  pub part_left : left_after four_target (four_setting 2 5) (third_full ++ steps 0 8) 0 ≡ holds (replies.Number 2 ∷ []) (cradles_of 0 0 3 4) 0 4
  pub slot_number : labelled 1 13 ≡ holds [] (cradles_of 1 0 0 0) 0 1
  pub reference_number : labelled 2 13 ≡ holds [] (cradles_of 1 0 0 0) 0 1
  pub label_published : labelled 2 14 ≡ holds [] no_slots 0 1
  pub both_emptied : (after four_target (four_setting 1 4) twice_held 0).cradles ≡ cradles_of 0 3 0 0
