-- One access to one word, and what it leaves there.
use Rattle.std.specs.Prelude.{ℕ, ◌≤◌, ◌^◌, max, ◌==◌, if◌then◌else◌}
use Rattle.oa_words.specs.Words.{Word, Sizes, address_of}
use Rattle.phase_pools.specs.declared.access.Access.{Access}
use Rattle.phase_pools.specs.declared.access.Access.TheVariants as codes

-- an access to a word by its name
pub data WordAccess : Type 0 where
  Loads : (w : Word) → WordAccess
  Stores : (w : Word) (x : ℕ) → WordAccess
  Exchanges : (w : Word) (expected replacement : ℕ) → WordAccess
  Raises : (w : Word) (x : ℕ) → WordAccess

abbrev pub word_of : WordAccess → Word
word_of (Loads w) = w
word_of (Stores w x) = w
word_of (Exchanges w expected replacement) = w
word_of (Raises w x) = w

-- what stands there afterwards
abbrev pub word_after : WordAccess → ℕ → ℕ
word_after (Loads w) found = found
word_after (Stores w x) found = x
word_after (Exchanges w expected replacement) found = if found == expected then replacement else found
word_after (Raises w x) found = max found x

-- the access as the code makes it
abbrev pub located : Sizes → WordAccess → Access
located n (Loads w) = codes.Load (address_of n w)
located n (Stores w x) = codes.Store (address_of n w) x
located n (Exchanges w expected replacement) = codes.CompareExchange (address_of n w) expected replacement
located n (Raises w x) = codes.FetchMax (address_of n w) x

-- phases are numbered from 1 to 2^50
abbrev pub IsPhase : ℕ → Type 0
IsPhase phase = (1 ≤ phase) × (phase ≤ 2 ^ 50)

-- if the access raises a word, it raises it to a phase
abbrev pub RaisesToPhase : Access → Type 0
RaisesToPhase (codes.Load at) = Unit {0}
RaisesToPhase (codes.Store at word) = Unit {0}
RaisesToPhase (codes.CompareExchange at expected replacement) = Unit {0}
RaisesToPhase (codes.FetchMax at word) = IsPhase word
