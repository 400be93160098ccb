-- A caller that runs functions: the one that runs, and those that wait for it. Any number may wait here, where the stack of C has an end: those
-- who run functions say how deep these call.
use Rattle.std.specs.Prelude.{ℕ, ◌+◌, ◌-◌, false, List, [], ◌∷◌, Option, Some, None, nat_lt, if◌then◌else◌, slice_get, slice_index}
use Rattle.phase_pools.specs.Accesses.{WordAccess}
use Rattle.c_language.specs.declared.lines.Answer.{Answer}
use Rattle.c_language.specs.declared.lines.Line.{Line}
use Rattle.c_language.specs.Steps.{Pool, Kept, Frame, Stop, with_local, stop_at}
use Rattle.c_language.specs.Steps as steps

-- a function that has called another: its number, the line and the locals with which it goes on, and the local that becomes what is returned
pub record Waiting : Type 0 where
  pub function : ℕ
  pub at : ℕ
  pub locals : ℕ → ℕ
  pub result : ℕ

-- the function that runs, its frame, and the functions that wait, the last one first
pub record Thread : Type 0 where
  pub function : ℕ
  pub frame : Frame
  pub waiting : List Waiting

-- what a caller does next: a local line, a call or a return, which are no access; an access; the end of an operation, with its answer and
-- what is told with it; or what C leaves undefined
pub data Turn : Type 0 where
  Goes : (thread : Thread) → Turn
  Wants : (a : WordAccess) (next : ℕ → Thread) → Turn
  Replies : (answer : Answer) (x : ℕ) (kept : Kept) → Turn
  Strays : Turn

-- what belongs to a caller when the pool opens
abbrev pub kept_begun : Kept
kept_begun = record { noted = λ j. false; cradles = λ k. 0 }

-- the arguments of an operation are its locals from 16 on; all others are 0
abbrev pub first_locals : List ℕ → ℕ → ℕ
first_locals args d = if nat_lt d 16 then 0 else slice_index args (d - 16)

abbrev pub frame_begun : List ℕ → Kept → Frame
frame_begun args kept = record { at = 0; locals = first_locals args; kept = kept }

-- an operation is called by the program
abbrev pub thread_begun : ℕ → List ℕ → Kept → Thread
thread_begun function args kept = record { function = function; frame = frame_begun args kept; waiting = [] }

abbrev pub with_frame : Thread → Frame → Thread
with_frame thread f = record thread { frame = f }

abbrev pub waiting_for : Thread → ℕ → Waiting
waiting_for thread d = record { function = thread.function; at = thread.frame.at + 1; locals = thread.frame.locals; result = d }

-- a line calls a function
abbrev pub called : Thread → ℕ → ℕ → Thread
called thread d function = record { function = function; frame = frame_begun [] thread.frame.kept; waiting = waiting_for thread d ∷ thread.waiting }

abbrev pub resumed : Waiting → ℕ → Kept → Frame
resumed waiting x kept = record { at = waiting.at; locals = steps.set waiting.locals waiting.result x; kept = kept }

-- what is returned goes to the function that waits first
abbrev pub returned : Kept → ℕ → List Waiting → Turn
returned kept x [] = Strays
returned kept x (first ∷ others) = Goes (record { function = first.function; frame = resumed first x kept; waiting = others })

-- an answer is the program's: no function waits for it
abbrev pub replied : Answer → ℕ → Kept → List Waiting → Turn
replied answer x kept [] = Replies answer x kept
replied answer x kept (first ∷ others) = Strays

abbrev pub turn_of : Thread → Stop → Turn
turn_of thread (steps.Goes f) = Goes (with_frame thread f)
turn_of thread (steps.Wants a next) = Wants a (λ word. with_frame thread (next word))
turn_of thread (steps.Calls d function) = Goes (called thread d function)
turn_of thread (steps.Returns x) = returned thread.frame.kept x thread.waiting
turn_of thread (steps.Replies answer x) = replied answer x thread.frame.kept thread.waiting
turn_of thread steps.Strays = Strays

abbrev pub lines_or_none : Option (List Line) → List Line
lines_or_none None = []
lines_or_none (Some code) = code

-- the lines of a function; one that isn't there has none, so it strays
abbrev pub lines_of : List (List Line) → ℕ → List Line
lines_of functions k = lines_or_none (slice_get functions k)

abbrev pub turn : Pool → List (List Line) → Thread → Turn
turn pool functions thread = turn_of thread (steps.stop pool (lines_of functions thread.function) thread.frame)
