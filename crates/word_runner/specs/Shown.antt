-- What contracts see of an arena and of those who came from it. `accesses` counts those that were made to the table's words
-- through a seat and through the seats that it took in, and `parts` tells which parts of the first seat it is.
use Rattle.std.specs.Prelude.{ℕ, ◌≡◌, ◌<◌, ◌≤◌, false, List, length}
use Rattle.atomic_table.specs.Seated.{TableId}
use Rattle.caller_steps.specs.Entries.{Entry, RoomyEntry, is_idle}
use Rattle.word_runner.specs.table_rule.Seen.{Fixed}
use Rattle.word_runner.specs.table_rule.Plays.{AreTold, Steps}

pub record ArenaShown : Type 0 where
  pub table : TableId
  pub fixed : Fixed

-- with room for so many replies; `found` counts the places that it found taken
pub record BlankShown : Type 0 where
  pub table : TableId
  pub fixed : Fixed
  pub room : ℕ
  pub found : ℕ
  pub accesses : ℕ
  pub parts : List ℕ

pub record CallerShown : Type 0 where
  pub table : TableId
  pub fixed : Fixed
  pub entry : RoomyEntry
  pub accesses : ℕ
  pub parts : List ℕ

pub record RestShown : Type 0 where
  pub table : TableId
  pub fixed : Fixed
  pub entries : List RoomyEntry
  pub accesses : ℕ
  pub parts : List ℕ

-- an object with this table, target and setting came from the arena
abbrev pub CameFrom : ArenaShown → TableId → Fixed → Type 0
CameFrom arena table fixed = (table ≡ arena.table) × (fixed ≡ arena.fixed)

-- the entry made at least one step and at most `budget`, each with the word that its own access found, which is lawful there; fewer
-- than `budget` only if its call has ended. `accesses` says how many steps these were
pub record Operated (key : Fixed) (e : Entry) (budget : ℕ) (e' : Entry) (accesses : ℕ) : Type 0 where
  pub words : List ℕ
  pub each : length words ≡ accesses
  pub some : 0 < accesses
  pub few : accesses ≤ budget
  pub told : AreTold key e words
  pub advances : Steps key e words e'
  pub whole : is_idle e'.routine ≡ false → accesses ≡ budget
