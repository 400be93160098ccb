-- Steps of one call of a caller, made one after another.
use Rattle.std.specs.Prelude.{◌≡◌, ℕ, zero, suc, ◌+◌, ◌<◌, ◌≤◌, List, Option, Some, None, Result, Ok, Err, slice_set}
use Rattle.caller_steps.specs.Entries.{RoomyEntry}
use Rattle.core_runs.specs.Replays.{one_step, ended_calls}
use Rattle.core_entries.specs.Steps.{StepsAre}
use Rattle.replay_steps.specs.Turns.{made_to, refused}
use Rattle.oa_core.specs.declared.progress.Move.{Move}
use Rattle.oa_core.specs.declared.progress.Stop.{Stop}
use Rattle.oa_core.specs.Shown.{Terms, Progress, replay_by, shown, bared, refusal_of, begun}

-- ---- an entry

-- at least one step of a call and no more than these; more than one only as the fuel allows
pub record CallRuns (t : Terms) (next : Move) (most made : ℕ) (words later : List ℕ) (e moved : RoomyEntry) : Type 0 where
  pub least : 1 ≤ made
  pub fewer : made ≤ most
  pub fueled : 1 < made → (begun t.setting.reclamation next e).core.running.steps + made ≤ t.fuel
  pub steps : StepsAre t.pair.target t.setting made words later (begun t.setting.reclamation next e) moved

-- and all other entries stay
pub record EntryRuns (t : Terms) (next : Move) (most made : ℕ) (words later : List ℕ) (c : ℕ) (entries others : List RoomyEntry) (e : RoomyEntry) : Type 0 where
  pub moved : RoomyEntry
  pub runs : CallRuns t next most made words later e moved
  pub left : others ≡ slice_set entries c moved

abbrev pub RunsAt : Terms → Move → ℕ → ℕ → List ℕ → List ℕ → ℕ → List RoomyEntry → List RoomyEntry → Option RoomyEntry → Type 0
RunsAt t next most made words later c entries others None = ⊥
RunsAt t next most made words later c entries others (Some e) = EntryRuns t next most made words later c entries others e

-- ---- a replay

-- one step of a caller, below the limit
pub record IsStep (t : Terms) (c : ℕ) (old new : Progress) : Type 0 where
  pub made : made_to (shown new) ≡ bared (one_step (replay_by t) c (shown old))
  pub counted : new.steps ≡ old.steps + 1
  pub below : old.steps < t.limit

-- so many steps of a caller, before each of which so many of its calls have ended
abbrev pub StepsOf : Terms → ℕ → ℕ → ℕ → Progress → Progress → Type 0
StepsOf t c ended zero old new = new ≡ old
StepsOf t c ended (suc n) old new = (ended_calls c (shown old) ≡ ended) × (mid : Progress) × IsStep t c old mid × StepsOf t c ended n mid new

-- at least one
pub record CallGoes (t : Terms) (c : ℕ) (old new : Progress) : Type 0 where
  pub further : ℕ
  pub steps : StepsOf t c (ended_calls c (shown old)) (suc further) old new

-- by what is answered
abbrev pub CallMade : Terms → ℕ → Progress → Progress → Result (Unit {0}) Stop → Type 0
CallMade t c old new (Ok done) = CallGoes t c old new
CallMade t c old new (Err stop) = refused (refusal_of stop) ≡ bared (one_step (replay_by t) c (shown old))
