-- Walking over turns.
use Rattle.std.proofs.Common.{◌≡◌, ℕ, zero, suc, List, Some, None, refl, sym, ◌∙◌, ap, subst}
use Rattle.c_language.specs.declared.lines.Line.{Line}
use Rattle.c_language.specs.Steps.{Pool, Kept, Frame, Stop, stop}
use Rattle.c_language.specs.Steps as steps
use Rattle.c_language.specs.Runs.{on_stop, goes, Comes}
use Rattle.c_language.specs.Threads.{Waiting, Thread, Turn, Goes, turn, turn_of, lines_of}
use Rattle.c_calls.specs.Turns.{on_turn, turns, Leads}

pub stays : {pool : Pool} {functions : List (List Line)} {thread : Thread} {There : Thread → Type 0} → There thread → Leads pool functions thread There
stays {thread = thread} there = record { count = 0; arrived = thread; goes = refl; there = there }

pub moves : {pool : Pool} {functions : List (List Line)} {thread : Thread} {There : Thread → Type 0} (next : Thread) → turn pool functions thread ≡ Goes next
    → Leads pool functions next There → Leads pool functions thread There
moves {pool = pool} {functions = functions} next is more =
    record { count = suc more.count; arrived = more.arrived; goes = ap (λ (t : Turn). on_turn t (turns pool functions more.count)) is ∙ more.goes; there = more.there }

-- a thread by its parts
abbrev pub thread_of : ℕ → List Waiting → Frame → Thread
thread_of function waiting f = record { function = function; frame = f; waiting = waiting }

same_frame : (f g : Frame) → Some f ≡ Some g → f ≡ g
same_frame f g e = cc

stopped : (P : Type 0) (frame : Frame) → None ≡ Some frame → P
stopped P frame e = absurd (let no : ⊥ = cc in no)

-- local lines are turns of the thread that runs them
pub walked : (pool : Pool) (functions : List (List Line)) (function : ℕ) (waiting : List Waiting) (code : List Line) (n : ℕ) (f g : Frame) (There : Thread → Type 0) → lines_of functions function ≡ code
    → goes pool code n f ≡ Some g → Leads pool functions (thread_of function waiting g) There → Leads pool functions (thread_of function waiting f) There
walked pool functions function waiting code zero f g There is went more = subst (λ (h : Frame). Leads pool functions (thread_of function waiting h) There) (sym (same_frame f g went)) more
walked pool functions function waiting code (suc n) f g There is went more =
    of (stop pool code f) refl went (λ h on. walked pool functions function waiting code n h g There is on more)
  where
    now : (s : Stop) → stop pool code f ≡ s → turn pool functions (thread_of function waiting f) ≡ turn_of (thread_of function waiting f) s
    now s e = ap (λ (c : List Line). turn_of (thread_of function waiting f) (stop pool c f)) is ∙ ap (turn_of (thread_of function waiting f)) e

    of : (s : Stop) → stop pool code f ≡ s → on_stop s (goes pool code n) ≡ Some g
        → ((h : Frame) → goes pool code n h ≡ Some g → Leads pool functions (thread_of function waiting h) There) → Leads pool functions (thread_of function waiting f) There
    of (steps.Goes h) e on rest = moves (thread_of function waiting h) (now (steps.Goes h) e) (rest h on)
    of (steps.Wants a next) e on rest = stopped (Leads pool functions (thread_of function waiting f) There) g on
    of (steps.Calls d called) e on rest = stopped (Leads pool functions (thread_of function waiting f) There) g on
    of (steps.Returns x) e on rest = stopped (Leads pool functions (thread_of function waiting f) There) g on
    of (steps.Replies answer x) e on rest = stopped (Leads pool functions (thread_of function waiting f) There) g on
    of steps.Strays e on rest = stopped (Leads pool functions (thread_of function waiting f) There) g on

-- and lead where the lines lead
pub lifted : (pool : Pool) (functions : List (List Line)) (function : ℕ) (waiting : List Waiting) (code : List Line) (f : Frame) (At : Frame → Type 0) (There : Thread → Type 0) → lines_of functions function ≡ code
    → Comes pool code f At → ((g : Frame) → At g → Leads pool functions (thread_of function waiting g) There) → Leads pool functions (thread_of function waiting f) There
lifted pool functions function waiting code f At There is comes more =
    walked pool functions function waiting code comes.count f comes.frame There is comes.goes (more comes.frame comes.there)

-- a thread is its parts
pub by_parts : (pool : Pool) (functions : List (List Line)) (function : ℕ) (waiting : List Waiting) (thread : Thread) (There : Thread → Type 0) → thread.function ≡ function → thread.waiting ≡ waiting
    → Leads pool functions (thread_of function waiting thread.frame) There → Leads pool functions thread There
by_parts pool functions function waiting thread There is waits more =
    subst (λ (w : List Waiting). Leads pool functions (thread_of thread.function w thread.frame) There) (sym waits)
    (subst (λ (k : ℕ). Leads pool functions (thread_of k waiting thread.frame) There) (sym is) more)

-- and to what follows from there
pub also : {pool : Pool} {functions : List (List Line)} {thread : Thread} {There Then : Thread → Type 0} → Leads pool functions thread There → ((t : Thread) → There t → Then t) → Leads pool functions thread Then
also comes more = record { count = comes.count; arrived = comes.arrived; goes = comes.goes; there = more comes.arrived comes.there }
