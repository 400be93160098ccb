-- Steps of one caller.
use Rattle.std.specs.Prelude.{◌≡◌, ℕ, true, false, ◌⊎◌, List, [], ◌∷◌, ◌++◌}
use Rattle.norm_lang.specs.declared.reply.SourceReply.{SourceReply}
use Rattle.target_code.specs.declared.target.Target.{Target}
use Rattle.caller_parts.specs.Pairing.{replied_by}
use Rattle.caller_parts.specs.Settings.{Setting}
use Rattle.caller_steps.specs.Entries.{Entry, one_more, is_idle}
use Rattle.caller_steps.specs.After.{after, counted}

-- the words were found one after another by steps of a caller that runs
abbrev pub Advances : Target → Setting → Entry → List ℕ → Entry → Type 0
Advances target setting e [] e' = e' ≡ e
Advances target setting e (w ∷ ws) e' = (is_idle e.routine ≡ false) × Advances target setting (after target setting e w) ws e'

-- a count after one more for each word
abbrev pub counted_on : ℕ → List ℕ → ℕ
counted_on n [] = n
counted_on n (w ∷ ws) = counted_on (one_more n) ws

-- ---- one step

-- the call runs on: no reply is added
abbrev pub RunsOn : Entry → Entry → Type 0
RunsOn before later = (is_idle later.routine ≡ false) × (later.replies ≡ before.replies) × (later.running ≡ before.running)

-- it ends, with exactly one reply, which stands beside the call and the steps that were made for it
abbrev pub Ends : Entry → Entry → Type 0
Ends before later = (reply : SourceReply) × (is_idle later.routine ≡ true) × (later.replies ≡ before.replies ++ replied_by reply before.running ∷ []) × (later.running ≡ before.running)

abbrev pub EndsOrRuns : Entry → Entry → Type 0
EndsOrRuns before later = RunsOn before later ⊎ Ends before later

-- ---- several steps

-- the call still runs, and no reply was added
pub record Stays (e : Entry) (ws : List ℕ) (e' : Entry) : Type 0 where
  pub busy : is_idle e'.routine ≡ false
  pub replies : e'.replies ≡ e.replies
  pub running : e'.running ≡ record e.running { steps = counted_on e.running.steps ws }

-- the call has ended with one reply, beside which stand the call and the steps made for it
pub record Stops (e : Entry) (ws : List ℕ) (e' : Entry) : Type 0 where
  pub idle : is_idle e'.routine ≡ true
  pub reply : SourceReply
  pub replies : e'.replies ≡ e.replies ++ replied_by reply e'.running ∷ []
  pub running : e'.running ≡ record e.running { steps = counted_on e.running.steps ws }

-- ---- laws

pub record RunsEnd (target : Target) (setting : Setting) : Type 0 where
  -- a step of a call that runs leaves it running, or ends it with one reply
  pub one : (e : Entry) (word : ℕ) → is_idle e.routine ≡ false → EndsOrRuns (counted e) (after target setting e word)
  -- so do several
  pub all : (e e' : Entry) (ws : List ℕ) → is_idle e.routine ≡ false → Advances target setting e ws e' → Stays e ws e' ⊎ Stops e ws e'
  -- and no number changes
  pub number : (e : Entry) (word : ℕ) → (after target setting e word).number ≡ e.number
