-- Why `operate` and `resume` answer that the pool is full, or that phases are over: what the steps that they made found.
use Rattle.std.specs.Prelude.{◌≡◌, ◌↔◌, ℕ, List, [], ◌∷◌, ◌++◌}
use Rattle.caller_parts.specs.declared.call.Call.{Call}
use Rattle.caller_parts.specs.Settings.{Setting}
use Rattle.caller_steps.specs.Entries.{Entry}
use Rattle.caller_steps.specs.After.{taken}
use Rattle.claim_laws.specs.CallSteps.{StepMade}
use Rattle.claim_laws.specs.Causes.{FoundLastPhase, EndsInFailedLook}
use Rattle.word_runner.specs.table_rule.Seen.{Fixed}
use Rattle.word_runner.specs.table_rule.Plays.{next, Steps}
use Rattle.word_runner.specs.declared.caller.Outcome.{Outcome}
use Rattle.word_runner.specs.declared.caller.Outcome.TheVariants as outcomes
use Rattle.word_runner.specs.Shown.{Operated}
use Rattle.word_runner.specs.Outcome.{Replies, answer_of}

-- the steps that found the words, one after another, from the entry on
abbrev pub steps_from : Fixed → Entry → List ℕ → List StepMade
steps_from key e [] = []
steps_from key e (word ∷ words) = record { entry = e; found = word } ∷ steps_from key (next key e word) words

-- an outcome says that phases are over exactly if a sweep's load among the steps found the last phase, which it names; and that
-- the pool is full exactly if the last of them was the third look of a claim, which found no slot
pub record OutcomeIsCaused (setting : Setting) (outcome : Outcome) (steps : List StepMade) : Type 0 where
  pub phases : (p : ℕ) → (outcome ≡ outcomes.PhasesOver p) ↔ FoundLastPhase setting p steps
  pub full : (outcome ≡ outcomes.Full) ↔ EndsInFailedLook setting steps

-- ---- laws

pub record OutcomesAreCaused (key : Fixed) : Type 0 where
  -- of `operate`, which takes the call: by the steps that it made
  pub operates : (e later : Entry) (call : Call) (budget accesses : ℕ) (outcome : Outcome) → (made : Operated key (taken key.setting.reclamation call e) budget later accesses) → Replies e call (answer_of outcome) later
      → OutcomeIsCaused key.setting outcome (steps_from key (taken key.setting.reclamation call e) made.words)
  -- of `resume`, which goes on with a call that was taken, and whose earlier steps found the words `earlier`: by the steps that it
  -- made itself
  pub resumes : (begun e later : Entry) (call : Call) (earlier : List ℕ) (budget accesses : ℕ) (outcome : Outcome) → Steps key (taken key.setting.reclamation call begun) earlier e → (made : Operated key e budget later accesses) → Replies e e.running.call (answer_of outcome) later
      → OutcomeIsCaused key.setting outcome (steps_from key e made.words)
  -- the steps of one after those of another are steps of the first entry
  pub follow : (e mid later : Entry) (words more : List ℕ) → Steps key e words mid → Steps key mid more later → Steps key e (words ++ more) later
