-- Lines that run alone on the words of a row, or that are told the words that their accesses find: the accesses that they make, in their
-- order, and what they return.
use Rattle.std.specs.Prelude.{ℕ, zero, suc, Bool, List, [], ◌∷◌, Option, Some, None, slice_index, slice_set}
use Rattle.oa_words.specs.Words.{Sizes, address_of}
use Rattle.phase_pools.specs.Accesses.{WordAccess, word_of, word_after}
use Rattle.c_language.specs.declared.lines.Line.{Line}
use Rattle.c_language.specs.Steps.{Pool, Kept, Frame, Stop, Goes, Wants, Calls, Returns, Replies, Strays, stop}
use Rattle.c_language.specs.Threads.{Thread, Turn, turn}
use Rattle.c_language.specs.Threads as threads

-- the word that an access finds, and the words after it
abbrev pub found_by : Sizes → List ℕ → WordAccess → ℕ
found_by n words a = slice_index words (address_of n (word_of a))

abbrev pub words_after : Sizes → List ℕ → WordAccess → List ℕ
words_after n words a = slice_set words (address_of n (word_of a)) (word_after a (found_by n words a))

-- what a function did: its accesses, the words then, and what it returned, if it came to that
pub record Ran : Type 0 where
  pub accesses : List WordAccess
  pub words : List ℕ
  pub returned : Option ℕ

abbrev pub made : WordAccess → Ran → Ran
made a ran = record { accesses = a ∷ ran.accesses; words = ran.words; returned = ran.returned }

abbrev pub halted : List ℕ → Option ℕ → Ran
halted words returned = record { accesses = []; words = words; returned = returned }

abbrev pub run_on : Sizes → Stop → List ℕ → (Frame → List ℕ → Ran) → Ran
run_on n (Goes f) words more = more f words
run_on n (Wants a next) words more = made a (more (next (found_by n words a)) (words_after n words a))
run_on n (Calls d function) words more = halted words None
run_on n (Returns x) words more = halted words (Some x)
run_on n (Replies answer x) words more = halted words None
run_on n Strays words more = halted words None

-- for so many lines
abbrev pub lines_run : Pool → List Line → ℕ → Frame → List ℕ → Ran
lines_run pool code zero f words = halted words None
lines_run pool code (suc k) f words = run_on pool.sizes (stop pool code f) words (lines_run pool code k)

-- ---- with words that other callers left: those that the accesses find, one after another

-- what a function did: its accesses, the one before which it stands, what it returned, and its caller's bits of null and of the slots up to one
pub record Heard : Type 0 where
  pub accesses : List WordAccess
  pub next : Option WordAccess
  pub returned : Option ℕ
  pub noted : List Bool

abbrev pub heard_also : WordAccess → Heard → Heard
heard_also a heard = record heard { accesses = a ∷ heard.accesses }

-- the bits from one on, so many of them
abbrev pub bits : Kept → ℕ → ℕ → List Bool
bits kept j zero = []
bits kept j (suc k) = kept.noted j ∷ bits kept (suc j) k

abbrev pub heard_all : Pool → Frame → Option WordAccess → Option ℕ → Heard
heard_all pool f next returned = record { accesses = []; next = next; returned = returned; noted = bits f.kept 0 (suc pool.sizes.slots) }

abbrev pub hears : Pool → Frame → WordAccess → (ℕ → Frame) → List ℕ → (Frame → List ℕ → Heard) → Heard
hears pool f a next [] more = heard_all pool f (Some a) None
hears pool f a next (word ∷ words) more = heard_also a (more (next word) words)

abbrev pub told_on : Pool → Frame → Stop → List ℕ → (Frame → List ℕ → Heard) → Heard
told_on pool f (Goes g) words more = more g words
told_on pool f (Wants a next) words more = hears pool f a next words more
told_on pool f (Calls d function) words more = heard_all pool f None None
told_on pool f (Returns x) words more = heard_all pool f None (Some x)
told_on pool f (Replies answer x) words more = heard_all pool f None None
told_on pool f Strays words more = heard_all pool f None None

abbrev pub lines_told : Pool → List Line → ℕ → Frame → List ℕ → Heard
lines_told pool code zero f words = heard_all pool f None None
lines_told pool code (suc k) f words = told_on pool f (stop pool code f) words (lines_told pool code k)

-- ---- a caller that makes no access

abbrev pub turn_on : Turn → (Thread → Turn) → Turn
turn_on (threads.Goes thread) more = more thread
turn_on (threads.Wants a next) more = threads.Wants a next
turn_on (threads.Replies answer x kept) more = threads.Replies answer x kept
turn_on threads.Strays more = threads.Strays

-- how it stops, or where it stands after so many lines
abbrev pub turns : Pool → List (List Line) → ℕ → Thread → Turn
turns pool functions zero thread = threads.Goes thread
turns pool functions (suc k) thread = turn_on (turn pool functions thread) (turns pool functions k)
