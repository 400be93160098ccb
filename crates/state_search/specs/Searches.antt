-- A search, as it goes on.
use Rattle.std.specs.Prelude.{◌≡◌, ℕ, ◌<◌, ◌++◌, length, true, false, List, Some, slice_get}
use Rattle.norm_lang.specs.declared.text.Text.{Text}
use Rattle.documents.specs.declared.document.ScriptCall.{ScriptCall}
use Rattle.source_machine.specs.declared.event.SourceEvent.{SourceEvent}
use Rattle.source_machine.specs.Run.{is_enabled}
use Rattle.event_judge.specs.Calls.{begins_other}
use Rattle.proper_judge.specs.declared.breach.Breach.{Breach}
use Rattle.proper_judge.specs.Breaches.{IsBreach}
use Rattle.state_search.specs.declared.walk.Went.{Went}
use Rattle.state_search.specs.declared.walk.Went.TheVariants as wents
use Rattle.state_search.specs.declared.walk.Answer.{Answer}
use Rattle.state_search.specs.declared.walk.Answer.TheVariants as answers
use Rattle.state_images.specs.Closed.{Told, IsAmong, IsGoneOn, AreProperStates, AreProperScripts, told_start, told_step}

-- what is explored, and what was found
pub record Seen : Type 0 where
  pub text : Text
  pub scripts : List (List ScriptCall)
  pub found : List Told

-- the same is explored, and more may have been found
pub record IsMore (old new : Seen) : Type 0 where
  pub text : new.text ≡ old.text
  pub scripts : new.scripts ≡ old.scripts
  pub more : List Told
  pub found : new.found ≡ old.found ++ more

-- all events of the state at a place lead among the found, and if what was found before is proper, all that is found now is
pub record IsFine (old new : Seen) (place : ℕ) : Type 0 where
  pub one : Told
  pub stands : slice_get new.found place ≡ Some one
  pub gone : IsGoneOn new.text new.scripts new.found one
  pub proper : AreProperStates old.found → AreProperStates new.found

-- an event of the scripts leads from the state at a place to one that breaks a condition
pub record IsBreachFrom (seen : Seen) (place : ℕ) : Type 0 where
  pub one : Told
  pub stands : slice_get seen.found place ≡ Some one
  pub event : SourceEvent
  pub enabled : is_enabled seen.text one.watched.machine event ≡ true
  pub order : begins_other seen.text.ops seen.scripts one.begun event ≡ false
  pub breach : Breach
  pub breaks : IsBreach (told_step seen.text one event).watched.machine (told_step seen.text one event).watched.runs breach

abbrev pub WentOn : Seen → ℕ → Went → Seen → Type 0
WentOn old place wents.Fine new = IsMore old new × IsFine old new place
WentOn old place wents.Breach new = IsMore old new × IsBreachFrom new place
WentOn old place wents.Undecided new = IsMore old new

-- What a search answers that began with the first and ended with the last, over at most so many states. A breach is one of a state that stands for
-- those of runs, and may take more for got or retired than they do: whoever tells of it judges a run first.
abbrev pub Answers : Seen → ℕ → Answer → Seen → Type 0
Answers first limit answers.Proper last = AreProperScripts first.text first.scripts
Answers first limit answers.Improper last = IsMore first last × ((place : ℕ) × IsBreachFrom last place)
Answers first limit answers.TooMany last = IsMore first last × (limit < length last.found)
Answers first limit answers.Undecided last = IsMore first last

pub record Starts (seen : Seen) : Type 0 where
  pub begun : IsAmong seen.found (told_start seen.text seen.scripts)
  pub proper : AreProperStates seen.found
