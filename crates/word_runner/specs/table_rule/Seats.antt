-- Entries in memory beside the seats that know them.
use Rattle.std.specs.Prelude.{◌≡◌, ℕ, ◌≤◌, ◌<◌, true, List, [], ◌∷◌}
use Rattle.atomic_table.specs.Table.{Me}
use Rattle.caller_steps.specs.Entries.{Entry, RoomyEntry, idle_entry}
use Rattle.word_runner.specs.table_rule.Seen.{SeatView}
use Rattle.word_runner.specs.table_rule.Rule.{callers_of}
use Rattle.word_runner.specs.table_rule.Plays.{Belonging, Apart}

-- a count of callers
abbrev pub IsFew : ℕ → Type 0
IsFew n = (0 < n) × (n ≤ 8)

-- entries without their rooms
abbrev pub cores : List RoomyEntry → List Entry
cores [] = []
cores (r ∷ rs) = r.core ∷ cores rs

-- a seat that hasn't entered: its view has no entry and the count of places found; in memory there is an empty idle entry, and
-- space for the entries of all callers
pub record Vacant (me : Me ℕ SeatView) (e : Entry) (found_now : ℕ) (space : ℕ) : Type 0 where
  pub bare : me.1 ≡ []
  pub live : me.0.live ≡ true
  pub empty : me.0.entries ≡ []
  pub idle : e ≡ idle_entry e.number
  pub found_is : me.0.found ≡ found_now
  pub found_within : found_now ≤ callers_of me.0.fixed
  pub room : callers_of me.0.fixed ≤ space
  pub few : IsFew (callers_of me.0.fixed)

-- a caller: its seat's view has the entry in memory and no other
pub record Seated (me : Me ℕ SeatView) (e : Entry) : Type 0 where
  pub bare : me.1 ≡ []
  pub live : me.0.live ≡ true
  pub alone : me.0.entries ≡ e ∷ []
  pub belongs : Belonging me.0.fixed e

-- callers at rest: the view of their one seat has the entries in memory, whose numbers are different
pub record Resting (me : Me ℕ SeatView) (es : List RoomyEntry) (space : ℕ) : Type 0 where
  pub bare : me.1 ≡ []
  pub live : me.0.live ≡ true
  pub entries : me.0.entries ≡ cores es
  pub apart : Apart (callers_of me.0.fixed) (cores es)
  pub few : IsFew (callers_of me.0.fixed)
  pub room : callers_of me.0.fixed ≤ space
