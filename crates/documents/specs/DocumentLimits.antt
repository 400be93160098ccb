-- The limits of a document's parts: the code's own constants.
use Rattle.std.specs.Prelude.{ℕ, ◌≤◌, List, length}
use Rattle.std.specs.List.{All}
use Rattle.norm_lang.specs.Limits.{IsWithinLimits}
use Rattle.schedule_turns.specs.declared.turn.Turn.{Turn}
use Rattle.schedule_turns.specs.declared.turn.Turn.TheVariants as turns
use Rattle.documents.specs.declared.document.Document.{Document}
use Rattle.documents.specs.declared.limits.TheConstants.{MOST_SCRIPTS, MOST_CALLS, MOST_TURNS, MOST_CALLER, MOST_COUNT}

abbrev pub most_scripts : ℕ
most_scripts = MOST_SCRIPTS

-- how many calls a script has at most
abbrev pub most_calls : ℕ
most_calls = MOST_CALLS

abbrev pub most_turns : ℕ
most_turns = MOST_TURNS

-- the greatest caller that a line may name
abbrev pub most_caller : ℕ
most_caller = MOST_CALLER

-- the greatest count of a turn
abbrev pub most_count : ℕ
most_count = MOST_COUNT

-- scripts with at most so many calls each
abbrev pub AreShort : {A : Type 0} → List (List A) → Type 0
AreShort {A} scripts = All (λ (script : List A). length script ≤ most_calls) scripts

-- the steps, the accesses of a kind, or the operations that a turn is to last
abbrev pub count_of : Turn → ℕ
count_of (turns.Step caller count) = count
count_of (turns.Upto caller kind count) = count
count_of (turns.Ops caller count) = count

-- each turn lasts for at least one
abbrev pub AreTurns : List Turn → Type 0
AreTurns schedule = All (λ (turn : Turn). 1 ≤ count_of turn) schedule

-- a document whose every part is within the limits: the condition of every call that takes one
pub record IsWithinDocumentLimits (document : Document) : Type 0 where
  pub text : IsWithinLimits document.text
  pub scripts : AreShort document.scripts
  pub turns : AreTurns document.schedule
