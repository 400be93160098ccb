-- A step that is made and written down is the next of the replay.
use Rattle.std.proofs.Common.{◌≡◌, ◌+◌, ℕ, Bool, true, false, List, [], ◌∷◌, ◌++◌, map, length, Option, Some, None, refl, sym, ap, ◌∙◌, subst, if◌then◌else◌}
use Rattle.std.specs.Prelude.{slice_get, option_map, nat_le, Result, Err}
use Rattle.std.proofs.lemmas.Option.{slice_get-map}
use Rattle.std.proofs.lemmas.List.{append_assoc}
use Rattle.target_code.specs.declared.target.Target.{Target}
use Rattle.caller_parts.specs.Settings.{Setting}
use Rattle.caller_steps.specs.Entries.{Entry, RoomyEntry}
use Rattle.core_runs.specs.Machine.{CoreState, CoreEvent, core_event, core_run, run_on, core_start}
use Rattle.core_runs.specs.RunSigns.{Signed, event_signs, signs_on, run_signs}
use Rattle.core_runs.specs.Scripts.{script_of}
use Rattle.core_runs.specs.Replays.{Replaying, Refusal, LongReplay, caller_events, next_events, stepped_to, step_by, one_step}
use Rattle.core_runs.proofs.Reaching.{run_both}
use Rattle.core_runs.specs.core_sound.Sound.{IsSound}
use Rattle.core_runs.proofs.core_sound.Reached.{states_are_sound}
use Rattle.core_ground.proofs.Runnable.{runnable}
use Rattle.core_entries.specs.Callers.{BelongsTo}
use Rattle.core_entries.specs.Steps.{WordsSound}
use Rattle.core_entries.specs.StepSigns.{signs_told}
use Rattle.oa_simulation.specs.Shadow.{Shadow, shadow, shadow_run, shadow_start}
use Rattle.oa_simulation.proofs.Homes.{run_append}
use Rattle.run_logs.specs.Logged.{logged_all}
use Rattle.run_logs.specs.LogLaws.{recording}
use Rattle.run_logs.proofs.Following.{steps_are_shadows}
use Rattle.replay_steps.specs.Entries.{core_part, AllBelongTo}
use Rattle.replay_steps.specs.Turns.{made_to}
use Rattle.replay_steps.proofs.Events.{core_at, step_run}
use Rattle.replay_steps.proofs.Rooms.{set_rooms, script_calls}
use Rattle.replay_logs.specs.UnderWay.{Terms, Progress, replay_by, core_in, has_next, has_next_for, has_next_in, begun, CanMoveAt, EntryMoves, MovesAt, Moves, Suits, Shows, IsUnderWay, Tells, Follows}
use Rattle.replay_logs.proofs.Following.{done}
use Rattle.replay_logs.proofs.Moving.{Readies, readied}

-- ---- the shadow of more events

more_signs : (target : Target) (setting : Setting) (events more : List CoreEvent) (first mid : CoreState) → core_run target setting events first ≡ Some mid
    → run_signs target setting (events ++ more) first ≡ run_signs target setting events first ++ run_signs target setting more mid
more_signs target setting [] more first mid runs = ap (run_signs target setting more) (let same : first ≡ mid = cc in same)
more_signs target setting (x ∷ events) more first mid runs = of (λ next r. more_signs target setting events more next mid r) (core_event target setting first x) runs where
  of : ((next : CoreState) → core_run target setting events next ≡ Some mid → run_signs target setting (events ++ more) next ≡ run_signs target setting events next ++ run_signs target setting more mid)
      → (o : Option CoreState) → run_on o (core_run target setting events) ≡ Some mid
      → event_signs target setting first x ++ signs_on o (run_signs target setting (events ++ more))
      ≡ (event_signs target setting first x ++ signs_on o (run_signs target setting events)) ++ run_signs target setting more mid
  of further None r = absurd (let z : None ≡ Some mid = r in cc)
  of further (Some next) r =
      ap (λ (l : List Signed). event_signs target setting first x ++ l) (further next r)
      ∙ sym (append_assoc (event_signs target setting first x) (run_signs target setting events next) (run_signs target setting more mid))

more_shadow : (t : Terms) (events more : List CoreEvent) (mid : CoreState) → core_run t.pair.target t.setting events (core_start t.pair.target t.setting) ≡ Some mid
    → shadow t.pair.target t.text t.setting (events ++ more) ≡ shadow_run t.text (run_signs t.pair.target t.setting more mid) (shadow t.pair.target t.text t.setting events)
more_shadow t events more mid runs =
    ap (λ (l : List Signed). shadow_run t.text l (shadow_start t.text t.setting)) (more_signs t.pair.target t.setting events more (core_start t.pair.target t.setting) mid runs)
    ∙ run_append t.text (run_signs t.pair.target t.setting events (core_start t.pair.target t.setting)) (run_signs t.pair.target t.setting more mid) (shadow_start t.text t.setting)

-- ---- what stands in a state that the replay shows

pub is_sound : (t : Terms) (now : Progress) (r : Replaying) → Suits t → Shows t now r → IsSound t.pair.target t.setting (core_in now)
is_sound t now r suits shows =
    states_are_sound t.pair.target t.pair.source t.setting (core_in now) (runnable t.pair suits.sound) suits.own suits.fits
    (record { events = r.events; runs = shows.runs ∙ ap (λ (s : CoreState). Some s) (sym shows.state) })

pub belongs_in : (t : Terms) (now : Progress) (c : ℕ) (e : RoomyEntry) → IsUnderWay t now → slice_get now.entries c ≡ Some e → BelongsTo t.pair t.setting e.core
belongs_in t now c e way at = record { fits = way.suits.fits; belongs = ((is_sound t now way.replaying way.suits way.shows).belong c e.core (core_at now.entries c e at)).0 }

pub all_belong : (t : Terms) (now : Progress) → IsUnderWay t now → AllBelongTo t.pair t.setting now.entries
all_belong t now way = record { each = λ c e at. belongs_in t now c e way at }

pub words_in : (t : Terms) (now : Progress) → IsUnderWay t now → WordsSound t.pair.target t.setting now.words
words_in t now way = let sound = is_sound t now way.replaying way.suits way.shows in record { count = sound.count; lawful = sound.lawful }

-- what comes next may be made
pub can_move_at : (t : Terms) (now : Progress) (c : ℕ) → IsUnderWay t now → has_next_in t c now ≡ true → CanMoveAt t (script_of t.scripts c) (slice_get now.entries c)
can_move_at t now c way has = of (slice_get now.entries c) refl has where
  of : (o : Option RoomyEntry) → slice_get now.entries c ≡ o → has_next_for t c o ≡ true → CanMoveAt t (script_of t.scripts c) o
  of None at has = absurd (let no : false ≡ true = has in cc)
  of (Some e) at has =
      record { belongs = belongs_in t now c e way at; next = has; room = way.shows.rooms c e at; calls = script_calls t.pair.target t.scripts c way.suits.calls }

-- ---- the step

next_at : (t : Terms) (c : ℕ) (now : Progress) (r : Replaying) (o : Option RoomyEntry) → Shows t now r → slice_get now.entries c ≡ o → next_events (replay_by t) c r ≡ caller_events (replay_by t) c (option_map core_part o)
next_at t c now r o shows at =
    ap (caller_events (replay_by t) c) (ap (λ (s : CoreState). slice_get s.entries c) (sym shows.state) ∙ (slice_get-map core_part now.entries c ∙ ap (option_map core_part) at))

module _ (t : Terms) (c : ℕ) (old mid : Progress) (u : Unit {0}) (suits : Suits t) (e : RoomyEntry) (at : slice_get old.entries c ≡ Some e)
    (moves : EntryMoves t old.words mid.words old.log mid.log c old.entries mid.entries e) (has : has_next t.fuel (script_of t.scripts c) e.core ≡ true)
    (below : nat_le t.limit old.steps ≡ false) (r : Replaying) (shows : Shows t old r) where
  ready : Readies t c old e (begun t.setting.reclamation (script_of t.scripts c) e)
  ready = readied t c old e (script_calls t.pair.target t.scripts c suits.calls) at has

  runs : core_run t.pair.target t.setting ready.events r.state ≡ Some (core_in mid)
  runs =
      ap (core_run t.pair.target t.setting ready.events) (sym shows.state)
      ∙ (ready.runs
      ∙ (step_run t.pair.target t.setting old.words mid.words c ready.entries old.entries (begun t.setting.reclamation (script_of t.scripts c) e) moves.moved ready.at moves.step (ready.left moves.moved)
      ∙ ap (λ (l : List RoomyEntry). Some (record { words = mid.words; entries = map core_part l })) (sym moves.left)))

  pub later : Replaying
  later = record { state = core_in mid; events = r.events ++ ready.events; steps = r.steps + 1 }

  pub step_is : one_step (replay_by t) c r ≡ made_to later
  unfolding later
  step_is =
      ap (step_by (replay_by t) r) (next_at t c old r (Some e) shows at ∙ ready.next)
      ∙ (ap (λ (n : ℕ). if nat_le t.limit n then Err (LongReplay r.steps) else stepped_to r ready.events (core_run t.pair.target t.setting ready.events r.state)) (sym shows.steps)
      ∙ (ap (λ (b : Bool). if b then Err (LongReplay r.steps) else stepped_to r ready.events (core_run t.pair.target t.setting ready.events r.state)) below
      ∙ ap (stepped_to r ready.events) runs))

  all_runs : core_run t.pair.target t.setting (r.events ++ ready.events) (core_start t.pair.target t.setting) ≡ Some (core_in mid)
  all_runs = run_both t.pair.target t.setting r.events ready.events (core_start t.pair.target t.setting) r.state shows.runs ∙ runs

  number : (begun t.setting.reclamation (script_of t.scripts c) e).core.number ≡ c
  number = ready.number ∙ ((is_sound t old r suits shows).belong c e.core (core_at old.entries c e at)).1

  written : mid.log ≡ recording (shadow t.pair.target t.text t.setting (r.events ++ ready.events))
  written =
      let e1 : Entry = (begun t.setting.reclamation (script_of t.scripts c) e).core in
      let z : Shadow = shadow t.pair.target t.text t.setting r.events in
      let before : CoreState = record { words = old.words; entries = ready.entries } in
      moves.written
      ∙ (ap (λ (k : ℕ). logged_all t.text k e1.running.call (signs_told t.pair.target t.setting old.words e1) old.log) number
      ∙ (ap (logged_all t.text c e1.running.call (signs_told t.pair.target t.setting old.words e1)) shows.written
      ∙ (steps_are_shadows t.pair.target t.text t.setting before c e1 z ready.at ready.busy
      ∙ sym (ap recording (more_shadow t r.events ready.events r.state shows.runs
      ∙ ap (λ (l : List Signed). shadow_run t.text l z) (ap (run_signs t.pair.target t.setting ready.events) (sym shows.state) ∙ ready.signs))))))

-- a step that is made, and then counted
pub step_follows : (t : Terms) (c : ℕ) (old mid new : Progress) (u : Unit {0}) → Suits t → has_next_in t c old ≡ true → nat_le t.limit old.steps ≡ false → Moves t c old mid
    → new ≡ record mid { steps = mid.steps + 1 } → Follows t old (done u) new (one_step (replay_by t) c)
unfolding later ready
step_follows t c old mid new u suits has below moves is = of (slice_get old.entries c) refl has moves.at where
  of : (o : Option RoomyEntry) → slice_get old.entries c ≡ o → has_next_for t c o ≡ true → MovesAt t old.words mid.words old.log mid.log c old.entries mid.entries o
      → Follows t old (done u) new (one_step (replay_by t) c)
  of None at has moved = absurd moved
  of (Some e) at has moved = record {
    each = λ r shows.
        subst (λ (o : Result Replaying Refusal). Tells t (done u) new o) (sym (step_is t c old mid u suits e at moved has below r shows))
        (subst (λ (n : Progress). Shows t n (later t c old mid u suits e at moved has below r shows)) (sym is)
        (record {
          state = refl;
          steps = ap (λ (n : ℕ). n + 1) (moves.steps ∙ shows.steps);
          runs = all_runs t c old mid u suits e at moved has below r shows;
          written = written t c old mid u suits e at moved has below r shows;
          rooms = subst (λ (l : List RoomyEntry). (k : ℕ) (f : RoomyEntry) → slice_get l k ≡ Some f → f.room ≡ length (script_of t.scripts k)) (sym moved.left)
              (set_rooms t.scripts old.entries c e moved.moved shows.rooms at
              (ap (λ (x : RoomyEntry). x.room) moved.step.entry ∙ (ready t c old mid u suits e at moved has below r shows).room));
          source = moves.source;
        }));
  }

-- ---- no step

-- the test of the limit, on what the code reads
pub limit_read : (seen t : Terms) (inside now : Progress) (b : Bool) → seen ≡ t → inside ≡ now → b ≡ nat_le seen.limit inside.steps → nat_le t.limit now.steps ≡ b
limit_read seen t inside now b is at test = sym (test ∙ (ap (λ (x : Terms). nat_le x.limit inside.steps) is ∙ ap (λ (n : Progress). nat_le t.limit n.steps) at))
