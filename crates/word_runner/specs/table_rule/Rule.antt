-- The rule of the table: its words and the views of its seats show a reachable state of the core.
use Rattle.std.specs.Prelude.{◌≡◌, ℕ, ◌+◌, ◌≤◌, ◌<◌, ◌==◌, true, List, [], ◌∷◌, length, slice_index, slice_get, Some, if◌then◌else◌}
use mathlib.Core.Option.{some}
use lib.ListN.{get_elem?}
use Rattle.atomic_table.specs.Table.{State}
use Rattle.oa_words.specs.Words.{word_count}
use Rattle.caller_steps.specs.Entries.{Entry, idle_entry}
use Rattle.core_runs.specs.Machine.{CoreState, Reachable}
use Rattle.word_runner.specs.table_rule.Seen.{Fixed, IsGround, SeatView}
use Rattle.word_runner.specs.table_rule.Parts.{total, IsWhole}

-- some events of the core lead to the state
abbrev pub IsReached : Fixed → CoreState → Type 0
IsReached key core = Reachable key.target.target key.setting core

abbrev pub callers_of : Fixed → ℕ
callers_of key = key.setting.sizes.callers

-- the addresses of place words
abbrev pub IsPlace : ℕ → ℕ → Type 0
IsPlace callers i = (0 < i) × (i ≤ callers)

-- how often an entry of this caller stands in the list
abbrev pub times : ℕ → List Entry → ℕ
times c [] = 0
times c (e ∷ es) = (if e.number == c then 1 else 0) + times c es

-- and how often in all views
abbrev pub held : ℕ → List SeatView → ℕ
held c views = total (λ (v : SeatView). times c v.entries) views

-- each of the entries is that of its caller in the core
abbrev pub AllHere : List Entry → List Entry → Type 0
AllHere all [] = Unit {0}
AllHere all (e ∷ es) = (slice_get all e.number ≡ Some e) × AllHere all es

-- what a seat knows is so: what the table was told, if the seat is in use; the places that it found taken; and its entries
pub record IsSeen (key : Fixed) (words : List ℕ) (all : List Entry) (v : SeatView) : Type 0 where
  pub fixed : v.live ≡ true → v.fixed ≡ key
  pub within : v.found ≤ callers_of key
  pub places : (k : ℕ) → k < v.found → slice_index words (1 + k) ≡ 1
  pub here : AllHere all v.entries

-- the words that are no places are the core's; a place word counts how often its caller's entry stands in the views, which is
-- once or never, and if it is never, the caller hasn't entered: its entry in the core is the empty idle one
pub record Shows (key : Fixed) (words : List ℕ) (views : List SeatView) (core : CoreState) : Type 0 where
  pub count : length words ≡ word_count key.setting.sizes
  pub seen : (by : ℕ) (v : SeatView) → get_elem? views by ≡ some v → IsSeen key words core.entries v
  pub same : (i : ℕ) → ¬ IsPlace (callers_of key) i → slice_index words i ≡ slice_index core.words i
  pub placed : (c : ℕ) → c < callers_of key → slice_index words (1 + c) ≡ held c views
  pub once : (c : ℕ) → c < callers_of key → held c views ≤ 1
  pub absent : (c : ℕ) → c < callers_of key → held c views ≡ 0 → slice_get core.entries c ≡ Some (idle_entry c)

-- the rule: there is a reachable state of the core that the words and the views show, and the seats are parts of the first one
pub record Holds (key : Fixed) (st : State ℕ SeatView) : Type 0 where
  pub good : IsGround key
  pub core : CoreState
  pub reachable : IsReached key core
  pub shows : Shows key st.words st.views core
  pub whole : IsWhole st.views
