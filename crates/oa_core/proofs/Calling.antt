-- The steps of one call in a replay: made together, they are those that the replay makes one by one.
use Rattle.std.proofs.Common.{◌≡◌, ◌≤◌, ◌<◌, ◌-◌, ◌+◌, ◌&&◌, not, ℕ, zero, suc, ⊎_elim, Bool, true, false, List, [], ◌∷◌, length, Option, Some, None, refl, sym, ap, ◌∙◌, subst, arith, if◌then◌else◌}
use Rattle.std.specs.Prelude.{Result, slice_get, slice_set, option_map, is_some, nat_le}
use Rattle.std.proofs.lemmas.Bool.Decides.{nat_tests}
use Rattle.std.proofs.lemmas.List.{set-set, set-get_or}
use Rattle.std.proofs.lemmas.Option.{get_or_from_slice_get}
use Rattle.target_code.specs.declared.target.Target.{Target}
use Rattle.caller_parts.specs.declared.call.Running.{Running}
use Rattle.caller_parts.specs.declared.setting.Reclamation.{Reclamation}
use Rattle.caller_parts.specs.Settings.{Setting}
use Rattle.caller_steps.specs.Entries.{Entry, RoomyEntry, is_idle, one_more}
use Rattle.caller_steps.specs.After.{after, counted}
use Rattle.core_runs.specs.Machine.{CoreEvent}
use Rattle.core_runs.specs.Advances.{RunsOn, Ends, EndsOrRuns}
use Rattle.core_runs.specs.Scripts.{script_of}
use Rattle.core_runs.specs.Replays.{Replay, Replaying, Refusal, StepOfNobody, next_events, step_by, one_step, most_steps, calls_ended_of, ended_calls, ops_made, caller_ended}
use Rattle.core_runs.proofs.Keeping.{first_busy}
use Rattle.core_runs.proofs.Turning.{after_turns}
use Rattle.core_entries.specs.Steps.{WordsSound, StepIs, StepsAre, RunIs}
use Rattle.replay_steps.specs.Entries.{HasRooms, AllBelongTo}
use Rattle.replay_steps.specs.Turns.{made_to, refused}
use Rattle.replay_steps.proofs.Rooms.{set_rooms}
use Rattle.replay_steps.proofs.Events.{core_at}
use Rattle.oa_core.specs.declared.progress.Move.{Move}
use Rattle.oa_core.specs.declared.progress.Move.TheVariants as moves
use Rattle.oa_core.specs.Shown.{Terms, Progress, replay_by, shown, bared, next_for, next_in, begun, CanMove, CanMoveAt, IsUnderWay}
use Rattle.oa_core.specs.Calls.{CallRuns, EntryRuns, RunsAt, IsStep, StepsOf, CallGoes}
use Rattle.oa_core.proofs.Moving.{moves_there, moves_run, can_move_at, step_is_made, begun_room}
use Rattle.oa_core.proofs.Looping.{ops_more, caller_more}

-- ---- an entry in its place

stays_set : (es : List RoomyEntry) (c : ℕ) (e : RoomyEntry) → slice_get es c ≡ Some e → slice_set es c e ≡ es
stays_set es c e at = ap (λ (x : RoomyEntry). slice_set es c x) (sym (get_or_from_slice_get es c e e at)) ∙ set-get_or es c e

set_here : (es : List RoomyEntry) (c : ℕ) (e f : RoomyEntry) → slice_get es c ≡ Some e → slice_get (slice_set es c f) c ≡ Some f
set_here [] c e f at = absurd (let no : None ≡ Some e = at in cc)
set_here (x ∷ xs) zero e f at = refl
set_here (x ∷ xs) (suc c) e f at = set_here xs c e f at

pub runs_there : (t : Terms) (next : Move) (most made : ℕ) (words later : List ℕ) (c : ℕ) (entries others : List RoomyEntry) (o : Option RoomyEntry) (e : RoomyEntry) → o ≡ Some e
    → EntryRuns t next most made words later c entries others e → RunsAt t next most made words later c entries others o
runs_there t next most made words later c entries others o e is runs = subst (λ (o : Option RoomyEntry). RunsAt t next most made words later c entries others o) (sym is) runs

-- ---- steps of an entry

begun_busy : (target : Target) (by : Reclamation) (next : Move) (e : RoomyEntry) → CanMove target next e → is_idle (begun by next e).core.routine ≡ false
begun_busy target by (moves.Takes call) e can = first_busy by
begun_busy target by moves.GoesOn e can = can

begun_replies : (by : Reclamation) (next : Move) (e : RoomyEntry) → length (begun by next e).core.replies ≡ length e.core.replies
begun_replies by (moves.Takes call) e = refl
begun_replies by moves.GoesOn e = refl

-- while the call runs no reply is added, and its steps are counted
runs_by : (target : Target) (setting : Setting) (found : ℕ) (e moved : RoomyEntry) → moved ≡ record e { core = after target setting e.core found } → is_idle e.core.routine ≡ false → is_idle moved.core.routine ≡ false
    → (length moved.core.replies ≡ length e.core.replies) × (moved.core.running.steps ≤ e.core.running.steps + 1)
runs_by target setting found e moved is busy still =
    let same : moved.core ≡ after target setting e.core found = ap (λ (x : RoomyEntry). x.core) is in
    ⊎_elim
    (λ (r : RunsOn (counted e.core) moved.core).
    let steps : moved.core.running.steps ≡ one_more e.core.running.steps = ap (λ (x : Running). x.steps) r.2 in
    (ap length r.1, omega (arith, steps)))
    (λ (r : Ends (counted e.core) moved.core). absurd (let no : true ≡ false = sym r.1 ∙ still in cc))
    (subst (λ (x : Entry). EndsOrRuns (counted e.core) x) (sym same) (after_turns target setting e.core found busy))

runs_on : (target : Target) (setting : Setting) (words later : List ℕ) (e moved : RoomyEntry) → is_idle e.core.routine ≡ false → StepIs target setting words later e moved → is_idle moved.core.routine ≡ false
    → (length moved.core.replies ≡ length e.core.replies) × (moved.core.running.steps ≤ e.core.running.steps + 1)
runs_on target setting words later e moved busy step still = runs_by target setting _ e moved step.entry busy still

steps_room : (target : Target) (setting : Setting) (n : ℕ) (words later : List ℕ) (e moved : RoomyEntry) → StepsAre target setting n words later e moved → moved.room ≡ e.room
steps_room target setting zero words later e moved steps = ap (λ (x : RoomyEntry). x.room) steps.1
steps_room target setting (suc n) words later e moved steps =
    steps_room target setting n steps.1 later steps.2 moved steps.4 ∙ ap (λ (x : RoomyEntry). x.room) steps.3.entry

-- one that runs makes a step, if it may make one
runs_least : (target : Target) (setting : Setting) (most left : ℕ) (words later : List ℕ) (e moved : RoomyEntry) → is_idle e.core.routine ≡ false → 1 ≤ most → RunIs target setting most left words later e moved
    → 1 ≤ most - left
runs_least target setting most left words later e moved busy some runs = of (most - left) refl runs.steps where
  of : (n : ℕ) → most - left ≡ n → StepsAre target setting n words later e moved → 1 ≤ most - left
  of zero is steps = ⊎_elim
      (λ (none : left ≡ 0). omega (arith, none, some))
      (λ (idle : is_idle moved.core.routine ≡ true). absurd (let no : false ≡ true = sym busy ∙ (ap (λ (x : RoomyEntry). is_idle x.core.routine) (sym steps.1) ∙ idle) in cc))
      runs.ended
  of (suc n) is steps = omega (arith, is)

pub call_runs : (t : Terms) (next : Move) (most fueled left : ℕ) (words later : List ℕ) (e moved : RoomyEntry) → CanMove t.pair.target next e → 1 ≤ fueled → fueled ≤ most
    → (1 < fueled → (begun t.setting.reclamation next e).core.running.steps + fueled ≤ t.fuel)
    → RunIs t.pair.target t.setting fueled left words later (begun t.setting.reclamation next e) moved → CallRuns t next most (fueled - left) words later e moved
call_runs t next most fueled left words later e moved can some within fuel runs = record {
  least = runs_least t.pair.target t.setting fueled left words later (begun t.setting.reclamation next e) moved (begun_busy t.pair.target t.setting.reclamation next e can) some runs;
  fewer = omega (arith, within);
  fueled = λ more. let lt : 1 < fueled = omega (arith, more) in let le = fuel lt in omega (arith, le);
  steps = runs.steps;
}

-- ---- what holds all the while

pub runs_under_way : (t : Terms) (old new : Progress) (next : Move) (most made c : ℕ) → IsUnderWay t old → RunsAt t next most made old.words new.words c old.entries new.entries (slice_get old.entries c)
    → AllBelongTo t.pair t.setting new.entries → WordsSound t.pair.target t.setting new.words → IsUnderWay t new
runs_under_way t old new next most made c way runs belong words = record {
  words = words;
  belong = belong;
  rooms = of (slice_get old.entries c) refl runs;
  calls = way.calls;
} where
  of : (o : Option RoomyEntry) → slice_get old.entries c ≡ o → RunsAt t next most made old.words new.words c old.entries new.entries o → HasRooms t.scripts new.entries
  of None at runs = absurd runs
  of (Some e) at runs =
      subst (λ (l : List RoomyEntry). (k : ℕ) (f : RoomyEntry) → slice_get l k ≡ Some f → f.room ≡ length (script_of t.scripts k)) (sym runs.left)
      (set_rooms t.scripts old.entries c e runs.moved way.rooms at
      (steps_room t.pair.target t.setting made old.words new.words (begun t.setting.reclamation next e) runs.moved runs.runs.steps ∙ begun_room t.setting.reclamation next e))

-- ---- one step of the replay

below_test : (limit steps : ℕ) → steps < limit → nat_le limit steps ≡ false
below_test limit steps lt = grind (arith, nat_tests)

step_goes : (t : Terms) (c : ℕ) (old mid : Progress) (next : Move) (e moved : RoomyEntry) → slice_get old.entries c ≡ Some e → next_in t c old ≡ Some next → CanMove t.pair.target next e
    → StepIs t.pair.target t.setting old.words mid.words (begun t.setting.reclamation next e) moved → mid.entries ≡ slice_set old.entries c moved → mid.steps ≡ old.steps + 1 → old.steps < t.limit → IsStep t c old mid
step_goes t c old mid next e moved at is can step left counts below = record {
  made =
      step_is_made t c old mid next is (below_test t.limit old.steps below)
      (moves_run t.pair.target t.setting old.words mid.words next c old.entries mid.entries (subst (λ (o : Option RoomyEntry). CanMoveAt t.pair.target next o) (sym at) can)
      (moves_there t.pair.target t.setting old.words mid.words next c old.entries mid.entries (slice_get old.entries c) e at (record { moved = moved; step = step; left = left })))
      counts;
  counted = counts;
  below = below;
}

-- a call that runs and isn't spent goes on
next_goes : (t : Terms) (c : ℕ) (old : Progress) (e : RoomyEntry) → slice_get old.entries c ≡ Some e → is_idle e.core.routine ≡ false → e.core.running.steps < t.fuel → next_in t c old ≡ Some moves.GoesOn
next_goes t c old e at busy few =
    ap (next_for t c) at
    ∙ (ap (λ (b : Bool). if b then option_map moves.Takes (slice_get (script_of t.scripts c) (length e.core.replies)) else (if not b && nat_le t.fuel e.core.running.steps then None else Some moves.GoesOn)) busy
    ∙ ap (λ (b : Bool). if b then None else Some moves.GoesOn) (below_test t.fuel e.core.running.steps few))

ended_at : (c : ℕ) (old : Progress) (e : RoomyEntry) → slice_get old.entries c ≡ Some e → ended_calls c (shown old) ≡ length e.core.replies
ended_at c old e at = ap calls_ended_of (core_at old.entries c e at)

-- ---- several

same_progress : (a b : Progress) → a.words ≡ b.words → a.entries ≡ b.entries → a.steps ≡ b.steps → a ≡ b
same_progress a b words entries steps = λ i. record { words = words i; entries = entries i; steps = steps i }

steps_go : (t : Terms) (c ended n : ℕ) (old new : Progress) (e e' : RoomyEntry) → slice_get old.entries c ≡ Some e → StepsAre t.pair.target t.setting n old.words new.words e e' → new.entries ≡ slice_set old.entries c e'
    → new.steps ≡ old.steps + n → new.steps ≤ t.limit → (0 < n → is_idle e.core.routine ≡ false → (length e.core.replies ≡ ended) × (e.core.running.steps + n ≤ t.fuel)) → StepsOf t c ended n old new
steps_go t c ended zero old new e e' at steps left counts within on =
    same_progress new old steps.0 (left ∙ (ap (λ (x : RoomyEntry). slice_set old.entries c x) steps.1 ∙ stays_set old.entries c e at)) (omega (arith, counts))
steps_go t c ended (suc n) old new e e' at steps left counts within on =
    (ended_at c old e at ∙ its.0, mid, goes, steps_go t c ended n mid new steps.2 e' (set_here old.entries c e steps.2 at) steps.4 (left ∙ sym (set-set old.entries c steps.2 e')) (omega (arith, counts)) within further)
  where
    its : (length e.core.replies ≡ ended) × (e.core.running.steps + suc n ≤ t.fuel)
    its = on (omega arith) steps.0

    mid : Progress
    mid = record { words = steps.1; entries = slice_set old.entries c steps.2; steps = old.steps + 1 }

    goes : IsStep t c old mid
    goes =
        let fuel = its.1 in
        let few : e.core.running.steps < t.fuel = omega (arith, fuel) in
        let below : old.steps < t.limit = omega (arith, counts, within) in
        step_goes t c old mid moves.GoesOn e steps.2 at (next_goes t c old e at steps.0 few) steps.0 steps.3 refl refl below

    further : 0 < n → is_idle steps.2.core.routine ≡ false → (length steps.2.core.replies ≡ ended) × (steps.2.core.running.steps + n ≤ t.fuel)
    further more still =
        let kept = runs_on t.pair.target t.setting old.words steps.1 e steps.2 steps.0 steps.3 still in
        let count = kept.1 in
        let fuel = its.1 in
        (kept.0 ∙ its.0, omega (arith, count, fuel))

-- those of a call that was taken, or that ran
call_steps : (t : Terms) (c n : ℕ) (old new : Progress) (next : Move) (e e' : RoomyEntry) → slice_get old.entries c ≡ Some e → next_in t c old ≡ Some next → CanMove t.pair.target next e
    → StepsAre t.pair.target t.setting (suc n) old.words new.words (begun t.setting.reclamation next e) e' → new.entries ≡ slice_set old.entries c e' → new.steps ≡ old.steps + suc n → new.steps ≤ t.limit
    → (1 < suc n → (begun t.setting.reclamation next e).core.running.steps + suc n ≤ t.fuel) → StepsOf t c (ended_calls c (shown old)) (suc n) old new
call_steps t c n old new next e e' at is can steps left counts within fueled =
    (refl, mid, goes, steps_go t c (ended_calls c (shown old)) n mid new steps.2 e' (set_here old.entries c e steps.2 at) steps.4 (left ∙ sym (set-set old.entries c steps.2 e')) (omega (arith, counts)) within further)
  where
    mid : Progress
    mid = record { words = steps.1; entries = slice_set old.entries c steps.2; steps = old.steps + 1 }

    goes : IsStep t c old mid
    goes = let below : old.steps < t.limit = omega (arith, counts, within) in step_goes t c old mid next e steps.2 at is can steps.3 refl refl below

    further : 0 < n → is_idle steps.2.core.routine ≡ false → (length steps.2.core.replies ≡ ended_calls c (shown old)) × (steps.2.core.running.steps + n ≤ t.fuel)
    further more still =
        let kept = runs_on t.pair.target t.setting old.words steps.1 (begun t.setting.reclamation next e) steps.2 steps.0 steps.3 still in
        let count = kept.1 in
        let lt : 1 < suc n = omega (arith, more) in
        let fuel = fueled lt in
        (kept.0 ∙ (begun_replies t.setting.reclamation next e ∙ sym (ended_at c old e at)), omega (arith, count, fuel))

call_by : (t : Terms) (c made most : ℕ) (old new : Progress) (next : Move) (e e' : RoomyEntry) → slice_get old.entries c ≡ Some e → next_in t c old ≡ Some next → CanMove t.pair.target next e
    → CallRuns t next most made old.words new.words e e' → new.entries ≡ slice_set old.entries c e' → new.steps ≡ old.steps + made → new.steps ≤ t.limit → CallGoes t c old new
call_by t c zero most old new next e e' at is can runs left counts within = absurd (let least = runs.least in let no : ⊥ = omega (arith, least) in no)
call_by t c (suc n) most old new next e e' at is can runs left counts within = record {
  further = n;
  steps = call_steps t c n old new next e e' at is can runs.steps left counts within runs.fueled;
}

pub call_goes : (t : Terms) (c made most : ℕ) (old mid new : Progress) (next : Move) → IsUnderWay t old → next_in t c old ≡ Some next → RunsAt t next most made old.words mid.words c old.entries mid.entries (slice_get old.entries c)
    → new.words ≡ mid.words → new.entries ≡ mid.entries → new.steps ≡ old.steps + made → new.steps ≤ t.limit → CallGoes t c old new
call_goes t c made most old mid new next way is runs words entries counts within = of (slice_get old.entries c) refl (can_move_at t old c next way is) runs where
  of : (o : Option RoomyEntry) → slice_get old.entries c ≡ o → CanMoveAt t.pair.target next o → RunsAt t next most made old.words mid.words c old.entries mid.entries o → CallGoes t c old new
  of None at can runs = absurd can
  of (Some e) at can runs =
      call_by t c made most old new next e runs.moved at is can (subst (λ (l : List ℕ). CallRuns t next most made old.words l e runs.moved) (sym words) runs.runs) (entries ∙ runs.left) counts within

pub call_counts : (t : Terms) (c made most : ℕ) (old mid : Progress) (next : Move) → RunsAt t next most made old.words mid.words c old.entries mid.entries (slice_get old.entries c) → 1 ≤ made
call_counts t c made most old mid next runs = of (slice_get old.entries c) runs where
  of : (o : Option RoomyEntry) → RunsAt t next most made old.words mid.words c old.entries mid.entries o → 1 ≤ made
  of None runs = absurd runs
  of (Some e) runs = runs.runs.least

-- ---- what is left gives what the whole gives

-- a step was made, so there was one to make
made_some : (p : Replay) (c : ℕ) (old new : Progress) → made_to (shown new) ≡ bared (one_step p c (shown old)) → is_some (next_events p c (shown old)) ≡ true
made_some p c old new made = of (next_events p c (shown old)) made where
  of : (o : Option (List CoreEvent)) → made_to (shown new) ≡ bared (step_by p (shown old) o) → is_some o ≡ true
  of None made = absurd (let no : made_to (shown new) ≡ refused (StepOfNobody old.steps) = made in cc)
  of (Some events) made = refl

-- to the caller's end
pub ended_on : (t : Terms) (c ended n : ℕ) (old new : Progress) (whole : Result Replaying Refusal) → StepsOf t c ended n old new
    → bared (caller_ended (replay_by t) c (most_steps (replay_by t) (shown old)) (shown old)) ≡ whole → bared (caller_ended (replay_by t) c (most_steps (replay_by t) (shown new)) (shown new)) ≡ whole
ended_on t c ended zero old new whole steps so_far =
    subst (λ (now : Progress). bared (caller_ended (replay_by t) c (most_steps (replay_by t) (shown now)) (shown now)) ≡ whole) (sym steps) so_far
ended_on t c ended (suc n) old new whole steps so_far =
    ended_on t c ended n steps.1 new whole steps.3
    (caller_more (replay_by t) c old steps.1 whole (made_some (replay_by t) c old steps.1 steps.2.made) steps.2.counted steps.2.below steps.2.made so_far)

-- until so many of its calls have ended, which fewer have before each step
pub ops_on : (t : Terms) (c ended goal n : ℕ) (old new : Progress) (whole : Result Replaying Refusal) → ended < goal → StepsOf t c ended n old new
    → bared (ops_made (replay_by t) c (most_steps (replay_by t) (shown old)) goal (shown old)) ≡ whole → bared (ops_made (replay_by t) c (most_steps (replay_by t) (shown new)) goal (shown new)) ≡ whole
ops_on t c ended goal zero old new whole lt steps so_far =
    subst (λ (now : Progress). bared (ops_made (replay_by t) c (most_steps (replay_by t) (shown now)) goal (shown now)) ≡ whole) (sym steps) so_far
ops_on t c ended goal (suc n) old new whole lt steps so_far =
    let is = steps.0 in
    let under : ended_calls c (shown old) < goal = omega (arith, is, lt) in
    ops_on t c ended goal n steps.1 new whole lt steps.3 (ops_more (replay_by t) c goal old steps.1 whole under steps.2.counted steps.2.below steps.2.made so_far)
