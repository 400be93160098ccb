-- Turns of a caller that are no access: local lines, calls and returns.
use Rattle.std.specs.Prelude.{◌≡◌, ◌⊎◌, ℕ, zero, suc, List, Option, Some, None}
use Rattle.target_code.specs.declared.target.Target.{Target}
use Rattle.oa_words.specs.Words.{Warning}
use Rattle.phase_pools.specs.Accesses.{WordAccess, Raises, word_of, word_after}
use Rattle.caller_parts.specs.Settings.{Setting}
use Rattle.caller_steps.specs.Entries.{Entry}
use Rattle.caller_steps.specs.Wants.{wants}
use Rattle.caller_steps.specs.Lawful.{MayBeTold}
use Rattle.c_language.specs.declared.lines.Line.{Line}
use Rattle.c_language.specs.Steps.{Pool}
use Rattle.c_language.specs.Threads.{Thread, Turn, Goes, Wants, Replies, Strays, turn}

abbrev pub on_turn : Turn → (Thread → Option Thread) → Option Thread
on_turn (Goes thread) next = next thread
on_turn (Wants a more) next = None
on_turn (Replies answer x kept) next = None
on_turn Strays next = None

-- so many turns, if none of them is an access or an end
abbrev pub turns : Pool → List (List Line) → ℕ → Thread → Option Thread
turns pool functions zero thread = Some thread
turns pool functions (suc n) thread = on_turn (turn pool functions thread) (turns pool functions n)

-- some turns lead to a thread of which this holds
pub record Leads (pool : Pool) (functions : List (List Line)) (thread : Thread) (There : Thread → Type 0) : Type 0 where
  pub count : ℕ
  pub arrived : Thread
  pub goes : turns pool functions count thread ≡ Some arrived
  pub there : There arrived

-- the access leaves what the wanted one would, and what follows holds where the thread goes on
pub record MakesTurn (pool : Pool) (functions : List (List Line)) (a wanted : WordAccess) (word : ℕ) (After : Thread → Type 0) (thread : Thread) : Type 0 where
  pub leaves : word_after a word ≡ word_after wanted word
  pub leads : Leads pool functions thread After

-- the entry wants to raise a warning; the access changes nothing, and the thread comes to stand as it stood
pub record WaitsTurn (pool : Pool) (functions : List (List Line)) (a wanted : WordAccess) (word : ℕ) (Here : Thread → Type 0) (thread : Thread) : Type 0 where
  pub caller : ℕ
  pub phase : ℕ
  pub raises : wanted ≡ Raises (Warning caller) phase
  pub leaves : word_after a word ≡ word
  pub leads : Leads pool functions thread Here

-- before an access to the word that the entry wants: whatever it is told, it is the entry's access, or part of a raise
-- that waits
pub record Asks (pool : Pool) (functions : List (List Line)) (target : Target) (setting : Setting) (e : Entry) (Here : Thread → Type 0)
    (After : ℕ → Thread → Type 0) (thread : Thread) : Type 0 where
  pub access : WordAccess
  pub next : ℕ → Thread
  pub stops : turn pool functions thread ≡ Wants access next
  pub wanted : WordAccess
  pub wants : wants target e ≡ Some wanted
  pub same : word_of access ≡ word_of wanted
  pub each : (word : ℕ) → MayBeTold target setting (Some wanted) word
      → MakesTurn pool functions access wanted word (After word) (next word) ⊎ WaitsTurn pool functions access wanted word Here (next word)
