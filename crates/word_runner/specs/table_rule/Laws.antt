-- That each kind of step keeps the rule. These are all the kinds of step of callers on a table.
use Rattle.std.specs.Prelude.{◌≡◌, ℕ, ◌+◌, ◌≤◌, ◌<◌, ◌==◌, max, true, false, List, [], ◌∷◌, ◌++◌, length, slice_index, slice_set}
use mathlib.Core.Option.{none, some}
use lib.ListN.{get_elem?}
use prog.Atomic.{either}
use Rattle.atomic_table.specs.Table.{State, Me, step, Allows, Splits, Joins, opening, Final, Seen}
use Rattle.oa_words.specs.Words.{word_count}
use Rattle.phase_pools.specs.declared.access.Access.{Access}
use Rattle.phase_pools.specs.declared.access.Access.TheVariants as codes
use Rattle.caller_steps.specs.Entries.{Entry}
use Rattle.core_runs.specs.Machine.{core_start}
use Rattle.word_runner.specs.table_rule.Seen.{Fixed, IsGround, SeatView, newcomer, nobody}
use Rattle.word_runner.specs.table_rule.Rule.{Holds, callers_of, times}
use Rattle.word_runner.specs.table_rule.Plays.{Made, CanStep, Tried, parted, cut_off, joined, Apart, Looked}
use Rattle.word_runner.specs.table_rule.Closing.{Shut}

-- at an address of the table a word may become f of what it was, whatever the table is, and this is told
abbrev pub Free : Fixed → ℕ → ℕ → Me ℕ SeatView → ℕ → (ℕ → ℕ) → (ℕ → Me ℕ SeatView → Type 0) → Type 0
Free key slots id me at f tells = (at < word_count key.setting.sizes) × Allows (Holds key) slots id me at f tells

-- the access may be made. Of the word that a store found nothing is told
abbrev pub MayMake : Fixed → ℕ → ℕ → Me ℕ SeatView → Entry → Access → Type 0
MayMake key slots id me e (codes.Load at) = Free key slots id me at (λ n. n) (Made e me)
MayMake key slots id me e (codes.Store at x) = Free key slots id me at (λ _. x) (λ _. Made e me 0)
MayMake key slots id me e (codes.CompareExchange at x y) = Free key slots id me at (λ n. either (n == x) y n) (Made e me)
MayMake key slots id me e (codes.FetchMax at x) = Free key slots id me at (λ n. max n x) (Made e me)

-- a seat without an entry, which tries the place after those that it found taken
pub record CanTry (key : Fixed) (me : Me ℕ SeatView) : Type 0 where
  pub bare : me.1 ≡ []
  pub live : me.0.live ≡ true
  pub fixed : me.0.fixed ≡ key
  pub empty : me.0.entries ≡ []
  pub more : me.0.found < callers_of key

-- entries with different numbers below n are at most n, and n of them are one for each number
pub record EntriesApart : Type 0 where
  pub few : (n : ℕ) (entries : List Entry) → Apart n entries → length entries ≤ n
  pub all : (n : ℕ) (entries : List Entry) → Apart n entries → length entries ≡ n → (c : ℕ) → c < n → times c entries ≡ 1

pub record StepsKeepRule (key : Fixed) : Type 0 where
  -- a load, a store, an exchange or a raise by a caller, which is the access that it wants
  pub accesses : (slots id : ℕ) (me : Me ℕ SeatView) (e : Entry) (access : Access) → IsGround key → CanStep key me e access → MayMake key slots id me e access
  -- an exchange of a place word from 0 to 1
  pub tries : (slots id word : ℕ) (me : Me ℕ SeatView) → CanTry key me → word ≡ 1 + me.0.found
      → Allows (Holds key) slots id me word (λ n. either (n == 0) 1 n) (Tried (step slots word 0 1 none) me)
  -- splitting a seat
  pub splits : (id : ℕ) (v : SeatView) → v.live ≡ true → Splits (Holds key) id v (parted v) (cut_off v)
  -- joining two
  pub joins : (id : ℕ) (v : SeatView) (other : ℕ) (w : SeatView) → v.live ≡ true → Joins (Holds key) id v other w (joined v w) nobody
  -- a load of the phase word after that, which tells that the seat's entries have different numbers
  pub looks : (slots id : ℕ) (me : Me ℕ SeatView) → me.0.live ≡ true → me.0.fixed ≡ key → Allows (Holds key) slots id me 0 (λ n. n) (λ n w. Looked me w)
  -- it holds of the core's words at the start
  pub opens : (words : List ℕ) → IsGround key → words ≡ (core_start key.target.target key.setting).words → Holds key (opening words [] (newcomer key))
  -- whatever a step does to the words, a seat that it makes isn't in use if no other seat changes
  pub comes : (words : List ℕ) (w : SeatView) (s : State ℕ SeatView) → Holds key s → Holds key (record { words = words; homes = s.homes; views = s.views ++ w ∷ [] }) → (w.live ≡ false) × (w.entries ≡ [])
  -- nor if the one seat that changes keeps its parts: so the parts of a seat tell whether it was split
  pub keeps : (words : List ℕ) (id : ℕ) (v left w : SeatView) (s : State ℕ SeatView) → Holds key s → get_elem? s.views id ≡ some v → left.parts ≡ v.parts
      → Holds key (record { words = words; homes = s.homes; views = slice_set s.views id left ++ w ∷ [] }) → (w.live ≡ false) × (w.entries ≡ [])
  -- and what a seat knows at the end is of a reachable state
  pub closes : (id phase : ℕ) (v : SeatView) (words slots : List ℕ) → Final (Seen (Holds key) id v) words slots → phase ≡ slice_index words 0 → Shut key v phase
