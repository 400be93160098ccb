-- A caller that runs functions and is told the words that its accesses find: the accesses that it makes, in their order, and how it ends.
use Rattle.std.specs.Prelude.{ℕ, zero, suc, List, [], ◌∷◌}
use Rattle.phase_pools.specs.Accesses.{WordAccess}
use Rattle.c_language.specs.declared.lines.Answer.{Answer}
use Rattle.c_language.specs.declared.lines.Line.{Line}
use Rattle.c_language.specs.Steps.{Pool, Kept, keep}
use Rattle.c_language.specs.Threads.{Thread, Turn, turn, kept_begun}
use Rattle.c_language.specs.Threads as threads

-- before an access, once no word is left to tell; with an answer, and what stands in the first two cradles then; or neither, after so many lines
pub data Ending : Type 0 where
  Waits : (a : WordAccess) → Ending
  Answers : (answer : Answer) (x first second : ℕ) → Ending
  Strays : Ending
  Runs : Ending

pub record Told : Type 0 where
  pub accesses : List WordAccess
  pub ending : Ending

abbrev pub made : WordAccess → Told → Told
made a told = record { accesses = a ∷ told.accesses; ending = told.ending }

abbrev pub ended : Ending → Told
ended ending = record { accesses = []; ending = ending }

abbrev pub tells : WordAccess → (ℕ → Thread) → List ℕ → (Thread → List ℕ → Told) → Told
tells a next [] more = ended (Waits a)
tells a next (word ∷ words) more = made a (more (next word) words)

abbrev pub told_on : Turn → List ℕ → (Thread → List ℕ → Told) → Told
told_on (threads.Goes thread) words more = more thread words
told_on (threads.Wants a next) words more = tells a next words more
told_on (threads.Replies answer x kept) words more = ended (Answers answer x (kept.cradles 0) (kept.cradles 1))
told_on threads.Strays words more = ended Strays

-- for so many lines
abbrev pub told : Pool → List (List Line) → ℕ → Thread → List ℕ → Told
told pool functions zero thread words = ended Runs
told pool functions (suc n) thread words = told_on (turn pool functions thread) words (told pool functions n)

-- a caller whose first cradle holds a slot
abbrev pub kept_with : ℕ → Kept
kept_with slot = keep 0 slot kept_begun
