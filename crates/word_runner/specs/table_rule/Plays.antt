-- What each kind of step tells the seat that makes it.
use Rattle.std.specs.Prelude.{◌≡◌, ℕ, ◌+◌, ◌-◌, ◌≤◌, ◌<◌, ◌==◌, MatchBool, ◌⊎◌, true, false, List, [], ◌∷◌, ◌++◌, Option, Some}
use Rattle.atomic_table.specs.Table.{Me, Step}
use Rattle.phase_pools.specs.declared.access.Access.{Access}
use Rattle.phase_pools.specs.Accesses.{WordAccess}
use Rattle.caller_parts.specs.declared.call.Call.{Call}
use Rattle.caller_steps.specs.Entries.{Entry, idle_entry, is_idle}
use Rattle.caller_parts.specs.Calls.{is_call}
use Rattle.caller_steps.specs.Wants.{wants}
use Rattle.caller_steps.specs.After.{after, taken}
use Rattle.caller_steps.specs.Lawful.{MayBeTold}
use Rattle.caller_steps.specs.Asking.{located_option}
use Rattle.core_runs.specs.Advances.{Advances}
use Rattle.core_entries.specs.Callers.{BelongsTo}
use Rattle.word_runner.specs.table_rule.Seen.{Fixed, SeatView}
use Rattle.word_runner.specs.table_rule.Parts.{halved}
use Rattle.word_runner.specs.table_rule.Rule.{callers_of, times}

-- ---- a caller of a table

-- the access that it wants
abbrev pub wish : Fixed → Entry → Option WordAccess
wish key e = wants key.target.target e

-- what it becomes once that access found a word
abbrev pub next : Fixed → Entry → ℕ → Entry
next key e word = after key.target.target key.setting e word

-- the word is lawful where its access stands
abbrev pub IsTold : Fixed → Entry → ℕ → Type 0
IsTold key e word = MayBeTold key.target.target key.setting (wish key e) word

-- and so is each of the words that its next steps find
abbrev pub AreTold : Fixed → Entry → List ℕ → Type 0
AreTold key e [] = Unit {0}
AreTold key e (word ∷ words) = IsTold key e word × AreTold key (next key e word) words

-- the words were found by its steps, one after another
abbrev pub Steps : Fixed → Entry → List ℕ → Entry → Type 0
Steps key e words e' = Advances key.target.target key.setting e words e'

abbrev pub Belonging : Fixed → Entry → Type 0
Belonging key e = BelongsTo key.target key.setting e

-- the empty entry of each caller does
pub record NewcomersBelong (key : Fixed) : Type 0 where
  pub each : (c : ℕ) → c < callers_of key → Belonging key (idle_entry c)

-- the entry itself, or with a call that it takes
abbrev pub InHand : Fixed → Entry → Entry → Type 0
InHand key base e = (e ≡ base) ⊎ ((is_idle base.routine ≡ true) × ((call : Call) × (is_call key.target.target call ≡ true) × (e ≡ taken key.setting.reclamation call base)))

-- ---- counting: each kind of step is one access more that was made through its seat

abbrev pub with_accesses : SeatView → ℕ → SeatView
with_accesses v n = record v { accesses = v.accesses + n }

-- ---- accesses: a step of the core, after a Take if a call is in hand

abbrev pub with_entry : SeatView → Entry → SeatView
with_entry v e = record v { entries = e ∷ [] }

-- a caller that runs may step: its seat has the entry as it stood before the call that is in hand
pub record CanGo (key : Fixed) (me : Me ℕ SeatView) (e : Entry) : Type 0 where
  pub bare : me.1 ≡ []
  pub live : me.0.live ≡ true
  pub fixed : me.0.fixed ≡ key
  pub base : Entry
  pub alone : me.0.entries ≡ base ∷ []
  pub hand : InHand key base e
  pub belongs : Belonging key e
  pub busy : is_idle e.routine ≡ false

-- and it wants this access
pub record CanStep (key : Fixed) (me : Me ℕ SeatView) (e : Entry) (access : Access) : Type 0 where
  pub can : CanGo key me e
  pub wanted : Some access ≡ located_option key.setting.sizes (wish key e)

-- the word found is lawful, and the seat's one entry is what the entry in hand becomes
pub record Made (e : Entry) (me : Me ℕ SeatView) (n : ℕ) (w : Me ℕ SeatView) : Type 0 where
  pub lawful : IsTold me.0.fixed e n
  pub view : w ≡ (with_accesses (with_entry me.0 (next me.0.fixed e n)) 1, [])

-- ---- taking a place

abbrev pub with_found : SeatView → ℕ → SeatView
with_found v k = record v { found = k }

-- if the place word was 0, the seat has the empty entry with the place's number, which is one less than the word's; else it
-- has found one more place taken
abbrev pub Tried : Step ℕ → Me ℕ SeatView → ℕ → Me ℕ SeatView → Type 0
Tried st me n w = MatchBool (n == 0) (w ≡ (with_accesses (with_entry me.0 (idle_entry (st.word - 1))) 1, [])) (w ≡ (with_accesses (with_found me.0 (me.0.found + 1)) 1, []))

-- ---- splitting and joining seats

-- a seat that was split keeps half of each of its parts. The split is an access of its own
abbrev pub parted : SeatView → SeatView
parted v = record v { accesses = v.accesses + 1; parts = halved v.parts }

-- the new seat gets the other halves. It has no entry, has found no place, and no access was made through it
abbrev pub cut_off : SeatView → SeatView
cut_off v = record v { entries = []; found = 0; accesses = 0; parts = halved v.parts }

-- one seat gets both lists of entries, the parts of both, and the accesses of both with that of joining
abbrev pub joined : SeatView → SeatView → SeatView
joined v w = record v { entries = v.entries ++ w.entries; accesses = (v.accesses + w.accesses) + 1; parts = v.parts ++ w.parts }

-- ---- a look after joining: a load of the phase word, which changes nothing but the count

abbrev pub AllBelow : ℕ → List Entry → Type 0
AllBelow n [] = Unit {0}
AllBelow n (e ∷ es) = (e.number < n) × AllBelow n es

-- the numbers are different, and below n
pub record Apart (n : ℕ) (es : List Entry) : Type 0 where
  pub once : (c : ℕ) → c < n → times c es ≤ 1
  pub below : AllBelow n es

pub record Looked (me w : Me ℕ SeatView) : Type 0 where
  pub same : w ≡ (with_accesses me.0 1, me.1)
  pub apart : Apart (callers_of me.0.fixed) me.0.entries
