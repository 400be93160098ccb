-- One step of a caller in its place among the entries.
use Rattle.std.proofs.Common.{◌≡◌, ◌<◌, ◌+◌, ◌&&◌, ℕ, zero, suc, ◌⊎◌, inl, inr, ⊎_elim, Bool, true, false, List, [], ◌∷◌, map, set, length, Option, Some, None, refl, sym, ap, ◌∙◌, subst, arith, if◌then◌else◌}
use Rattle.std.specs.Prelude.{slice_get, slice_set, option_map, is_some, nat_le, Err}
use Rattle.std.proofs.lemmas.List.{set-set}
use Rattle.std.proofs.lemmas.Option.{slice_get-map, slice_get_within}
use Rattle.target_code.specs.declared.target.Target.{Target}
use Rattle.caller_parts.specs.declared.call.Call.{Call}
use Rattle.caller_parts.specs.Settings.{Setting}
use Rattle.caller_parts.specs.declared.setting.Reclamation.{Reclamation}
use Rattle.caller_steps.specs.Entries.{Entry, RoomyEntry, is_idle}
use Rattle.caller_parts.specs.Calls.{is_call}
use Rattle.caller_steps.specs.After.{taken}
use Rattle.core_runs.specs.Machine.{CoreState, CoreEvent, Steps, core_run, run_on}
use Rattle.core_runs.specs.Scripts.{script_of}
use Rattle.core_runs.specs.Replays.{LongReplay, is_spent, take_events, caller_events, entry_events, next_events, stepped_to, step_by, one_step}
use Rattle.core_runs.proofs.Keeping.{got_same}
use Rattle.barrier_check.specs.Paired.{Paired}
use Rattle.oa_core.specs.declared.progress.Move.{Move}
use Rattle.oa_core.specs.declared.progress.Move.TheVariants as moves
use Rattle.core_entries.specs.Callers.{BelongsTo}
use Rattle.replay_steps.specs.Entries.{core_part, HasRooms, AllBelongTo}
use Rattle.replay_steps.specs.Turns.{made_to, refused}
use Rattle.replay_steps.proofs.Rooms.{set_got, set_rooms}
use Rattle.replay_steps.proofs.Events.{core_at, set_core, take_event, step_run}
use Rattle.core_entries.specs.Steps.{StepIs, WordsSound}
use Rattle.oa_core.specs.Shown.{Terms, Progress, replay_by, shown, bared, next_of, next_for, next_in, events_of, begun, CanMove, CanMoveAt, EntryMoves, MovesAt, IsUnderWay}

-- ---- an entry is there

pub may_move : (target : Target) (next : Move) (o : Option RoomyEntry) (e : RoomyEntry) → o ≡ Some e → CanMoveAt target next o → CanMove target next e
may_move target next o e is can = subst (λ (o : Option RoomyEntry). CanMoveAt target next o) is can

pub moves_there : (target : Target) (setting : Setting) (words later : List ℕ) (next : Move) (c : ℕ) (entries others : List RoomyEntry) (o : Option RoomyEntry) (e : RoomyEntry) → o ≡ Some e
    → EntryMoves target setting words later next c entries others e → MovesAt target setting words later next c entries others o
moves_there target setting words later next c entries others o e is moved = subst (λ (o : Option RoomyEntry). MovesAt target setting words later next c entries others o) (sym is) moved

-- one that may move is there
pub no_entry : (target : Target) (next : Move) (entries : List RoomyEntry) (count c : ℕ) → count ≡ length entries → (c < count → false ≡ true) → CanMoveAt target next (slice_get entries c) → ⊥
no_entry target next entries count c is none can = of (slice_get entries c) refl can where
  of : (o : Option RoomyEntry) → slice_get entries c ≡ o → CanMoveAt target next o → ⊥
  of None at can = can
  of (Some e) at can = let lt = slice_get_within entries c e at in let no : false ≡ true = none (omega (arith, lt, is)) in cc

pub set_belong : (pair : Paired) (setting : Setting) (entries : List RoomyEntry) (c : ℕ) (e : RoomyEntry) → AllBelongTo pair setting entries → BelongsTo pair setting e.core → AllBelongTo pair setting (slice_set entries c e)
set_belong pair setting entries c e all b = record {
  each = λ k f is. ⊎_elim
      (λ (t : (k ≡ c) × (f ≡ e)). subst (λ (x : RoomyEntry). BelongsTo pair setting x.core) (sym t.1) b)
      (λ (t : slice_get entries k ≡ Some f). all.each k f t)
      (set_got entries c k e f is);
}

-- ---- its events

abbrev state_of : List ℕ → List RoomyEntry → CoreState
state_of words entries = record { words = words; entries = map core_part entries }

move_run : (target : Target) (setting : Setting) (words later : List ℕ) (next : Move) (c : ℕ) (entries : List RoomyEntry) (e moved : RoomyEntry) → slice_get entries c ≡ Some e → CanMove target next e
    → StepIs target setting words later (begun setting.reclamation next e) moved → core_run target setting (events_of c next) (state_of words entries) ≡ Some (state_of later (slice_set entries c moved))
move_run target setting words later (moves.Takes call) c entries e moved at can step =
    let cores : List Entry = map core_part entries in
    let taker : RoomyEntry = begun setting.reclamation (moves.Takes call) e in
    ap (λ (o : Option CoreState). run_on o (core_run target setting (Steps c ∷ []))) (take_event target setting (state_of words entries) c call e.core (core_at entries c e at) can.0 can.2)
    ∙ step_run target setting words later c (slice_set cores c (taken setting.reclamation call e.core)) entries taker moved (got_same cores c (taken setting.reclamation call e.core) e.core (core_at entries c e at)) step
    (set-set cores c (taken setting.reclamation call e.core) moved.core ∙ set_core entries c moved)
move_run target setting words later moves.GoesOn c entries e moved at can step =
    step_run target setting words later c (map core_part entries) entries e moved (core_at entries c e at) step (set_core entries c moved)

pub moves_run : (target : Target) (setting : Setting) (words later : List ℕ) (next : Move) (c : ℕ) (entries others : List RoomyEntry) → CanMoveAt target next (slice_get entries c)
    → MovesAt target setting words later next c entries others (slice_get entries c) → core_run target setting (events_of c next) (state_of words entries) ≡ Some (state_of later others)
moves_run target setting words later next c entries others can moves = of (slice_get entries c) refl can moves where
  of : (o : Option RoomyEntry) → slice_get entries c ≡ o → CanMoveAt target next o → MovesAt target setting words later next c entries others o
      → core_run target setting (events_of c next) (state_of words entries) ≡ Some (state_of later others)
  of None at can moves = absurd can
  of (Some e) at can moves =
      move_run target setting words later next c entries e moves.moved at can moves.step ∙ ap (λ (l : List RoomyEntry). Some (state_of later l)) (sym moves.left)

-- ---- what holds all the while

pub begun_room : (by : Reclamation) (next : Move) (e : RoomyEntry) → (begun by next e).room ≡ e.room
begun_room by (moves.Takes call) e = refl
begun_room by moves.GoesOn e = refl

moves_rooms : (target : Target) (setting : Setting) (scripts : List (List Call)) (words later : List ℕ) (next : Move) (c : ℕ) (entries others : List RoomyEntry) → HasRooms scripts entries
    → MovesAt target setting words later next c entries others (slice_get entries c) → HasRooms scripts others
moves_rooms target setting scripts words later next c entries others rooms moves = of (slice_get entries c) refl moves where
  of : (o : Option RoomyEntry) → slice_get entries c ≡ o → MovesAt target setting words later next c entries others o → HasRooms scripts others
  of None at moves = absurd moves
  of (Some e) at moves =
      subst (λ (l : List RoomyEntry). (k : ℕ) (f : RoomyEntry) → slice_get l k ≡ Some f → f.room ≡ length (script_of scripts k)) (sym moves.left)
      (set_rooms scripts entries c e moves.moved rooms at (ap (λ (x : RoomyEntry). x.room) moves.step.entry ∙ begun_room setting.reclamation next e))

pub moves_under_way : (t : Terms) (old new : Progress) (next : Move) (c : ℕ) → IsUnderWay t old → MovesAt t.pair.target t.setting old.words new.words next c old.entries new.entries (slice_get old.entries c)
    → AllBelongTo t.pair t.setting new.entries → WordsSound t.pair.target t.setting new.words → IsUnderWay t new
moves_under_way t old new next c way moves belong words = record {
  words = words;
  belong = belong;
  rooms = moves_rooms t.pair.target t.setting t.scripts old.words new.words next c old.entries new.entries way.rooms moves;
  calls = way.calls;
}

-- ---- what comes next may be made

next_can : (t : Terms) (now : Progress) (c : ℕ) (next : Move) (e : RoomyEntry) → IsUnderWay t now → slice_get now.entries c ≡ Some e → next_of t.fuel (script_of t.scripts c) e.core ≡ Some next
    → CanMove t.pair.target next e
next_can t now c next e way at is = by (is_idle e.core.routine) refl is where
  takes : is_idle e.core.routine ≡ true → (o : Option Call) → slice_get (script_of t.scripts c) (length e.core.replies) ≡ o → option_map moves.Takes o ≡ Some next → CanMove t.pair.target next e
  takes idle None found is = absurd (let no : None ≡ Some next = is in cc)
  takes idle (Some call) found is =
      let same : moves.Takes call ≡ next = cc in
      let lt = slice_get_within (script_of t.scripts c) (length e.core.replies) call found in
      let room = way.rooms c e at in
      let spare : length e.core.replies < e.room = omega (arith, lt, room) in
      subst (λ (m : Move). CanMove t.pair.target m e) same (idle, spare, way.calls c (length e.core.replies) call found)

  goes : is_idle e.core.routine ≡ false → (b : Bool) → (if b then None else Some moves.GoesOn) ≡ Some next → CanMove t.pair.target next e
  goes busy true is = absurd (let no : None ≡ Some next = is in cc)
  goes busy false is = let same : moves.GoesOn ≡ next = cc in subst (λ (m : Move). CanMove t.pair.target m e) same busy

  by : (b : Bool) → is_idle e.core.routine ≡ b
      → (if b then option_map moves.Takes (slice_get (script_of t.scripts c) (length e.core.replies)) else (if is_spent t.fuel e.core then None else Some moves.GoesOn)) ≡ Some next → CanMove t.pair.target next e
  by true idle is = takes idle (slice_get (script_of t.scripts c) (length e.core.replies)) refl is
  by false busy is = goes busy (is_spent t.fuel e.core) is

pub can_move_at : (t : Terms) (now : Progress) (c : ℕ) (next : Move) → IsUnderWay t now → next_in t c now ≡ Some next → CanMoveAt t.pair.target next (slice_get now.entries c)
can_move_at t now c next way is = of (slice_get now.entries c) refl is where
  of : (o : Option RoomyEntry) → slice_get now.entries c ≡ o → next_for t c o ≡ Some next → CanMoveAt t.pair.target next o
  of None at is = absurd (let no : None ≡ Some next = is in cc)
  of (Some e) at is = next_can t now c next e way at is

-- ---- the events of what comes next

events_next : (t : Terms) (c : ℕ) (e : Entry) → entry_events (replay_by t) c e ≡ option_map (events_of c) (next_of t.fuel (script_of t.scripts c) e)
events_next t c e = by (is_idle e.routine) (slice_get (script_of t.scripts c) (length e.replies)) (is_spent t.fuel e) where
  by : (idle : Bool) (o : Option Call) (spent : Bool)
      → (if idle then take_events c o else (if spent then None else Some (Steps c ∷ [])))
      ≡ option_map (events_of c) (if idle then option_map moves.Takes o else (if spent then None else Some moves.GoesOn))
  by true None spent = refl
  by true (Some call) spent = refl
  by false o true = refl
  by false o false = refl

pub events_in : (t : Terms) (c : ℕ) (now : Progress) → next_events (replay_by t) c (shown now) ≡ option_map (events_of c) (next_in t c now)
events_in t c now = ap (caller_events (replay_by t) c) (slice_get-map core_part now.entries c) ∙ of (slice_get now.entries c) where
  of : (o : Option RoomyEntry) → caller_events (replay_by t) c (option_map core_part o) ≡ option_map (events_of c) (next_for t c o)
  of None = refl
  of (Some e) = events_next t c e.core

pub has_next : (t : Terms) (c : ℕ) (now : Progress) (next : Move) → Some next ≡ next_in t c now → is_some (next_events (replay_by t) c (shown now)) ≡ true
has_next t c now next is = ap is_some (events_in t c now ∙ ap (option_map (events_of c)) (sym is))

pub has_none : (t : Terms) (c : ℕ) (now : Progress) → next_in t c now ≡ None → is_some (next_events (replay_by t) c (shown now)) ≡ false
has_none t c now none = ap is_some (events_in t c now ∙ ap (option_map (events_of c)) none)

-- ---- the step

-- the test of the limit, on what the code reads
pub limit_read : (seen t : Terms) (inside now : Progress) (b : Bool) → seen ≡ t → inside ≡ now → b ≡ nat_le seen.limit inside.steps → nat_le t.limit now.steps ≡ b
limit_read seen t inside now b is at test = sym (test ∙ (ap (λ (x : Terms). nat_le x.limit inside.steps) is ∙ ap (λ (n : Progress). nat_le t.limit n.steps) at))

pub step_is_long : (t : Terms) (c : ℕ) (now : Progress) (next : Move) → next_in t c now ≡ Some next → nat_le t.limit now.steps ≡ true
    → refused (LongReplay now.steps) ≡ bared (one_step (replay_by t) c (shown now))
step_is_long t c now next is past =
    sym (ap (λ (o : Option (List CoreEvent)). bared (step_by (replay_by t) (shown now) o)) (events_in t c now ∙ ap (option_map (events_of c)) is)
    ∙ ap (λ (b : Bool). bared (if b then Err (LongReplay now.steps) else stepped_to (shown now) (events_of c next) (core_run t.pair.target t.setting (events_of c next) (shown now).state))) past)

pub step_is_made : (t : Terms) (c : ℕ) (old new : Progress) (next : Move) → next_in t c old ≡ Some next → nat_le t.limit old.steps ≡ false
    → core_run t.pair.target t.setting (events_of c next) (shown old).state ≡ Some (shown new).state → new.steps ≡ old.steps + 1 → made_to (shown new) ≡ bared (one_step (replay_by t) c (shown old))
step_is_made t c old new next is below runs counted =
    sym (ap (λ (o : Option (List CoreEvent)). bared (step_by (replay_by t) (shown old) o)) (events_in t c old ∙ ap (option_map (events_of c)) is)
    ∙ (ap (λ (b : Bool). bared (if b then Err (LongReplay old.steps) else stepped_to (shown old) (events_of c next) (core_run t.pair.target t.setting (events_of c next) (shown old).state))) below
    ∙ (ap (λ (o : Option CoreState). bared (stepped_to (shown old) (events_of c next) o)) runs
    ∙ ap (λ (n : ℕ). made_to (record { state = (shown new).state; events = []; steps = n })) (sym counted))))
