-- The start of a replay.
use Rattle.std.proofs.Common.{◌≡◌, ℕ, List, [], map, length, Some, refl, sym, ap, ◌∙◌, subst}
use Rattle.std.specs.Prelude.{slice_get, option_map}
use Rattle.std.proofs.lemmas.Option.{slice_get-map}
use Rattle.target_code.specs.declared.target.Target.{Target}
use Rattle.caller_parts.specs.Settings.{Setting, IsSetting}
use Rattle.caller_steps.specs.Entries.{Entry, RoomyEntry}
use Rattle.core_runs.specs.Machine.{core_start, idle_from, Reachable}
use Rattle.core_runs.specs.Scripts.{script_of}
use Rattle.core_runs.specs.Replays.{replay_start}
use Rattle.core_runs.specs.core_sound.Sound.{IsSound as IsSoundState, AreLawful}
use Rattle.core_runs.proofs.core_sound.Reached.{states_are_sound}
use Rattle.barrier_check.specs.Paired.{IsSound}
use Rattle.replay_steps.specs.Entries.{core_part, fresh_entries}
use Rattle.replay_steps.proofs.Fresh.{fresh_cores, fresh_rooms}
use Rattle.replay_steps.proofs.Rooms.{script_calls, call_is}
use Rattle.oa_core.specs.Shown.{Terms, Progress, replay_by, shown, SuitsReplay, IsUnderWay}
use Rattle.core_ground.proofs.Runnable.{runnable}

pub starts_at : (t : Terms) (now : Progress) → length t.scripts ≡ t.setting.sizes.callers → now.words ≡ (core_start t.pair.target t.setting).words → now.entries ≡ fresh_entries 0 t.scripts → now.steps ≡ 0
    → shown now ≡ replay_start (replay_by t)
starts_at t now count words entries steps =
    let cores : map core_part now.entries ≡ idle_from 0 t.setting.sizes.callers = ap (map core_part) entries ∙ (fresh_cores 0 t.scripts ∙ ap (idle_from 0) count) in
    ap (λ (l : List ℕ). record { state = record { words = l; entries = map core_part now.entries }; events = []; steps = now.steps }) words
    ∙ (ap (λ (l : List Entry). record { state = record { words = (core_start t.pair.target t.setting).words; entries = l }; events = []; steps = now.steps }) cores
    ∙ ap (λ (n : ℕ). record { state = core_start t.pair.target t.setting; events = []; steps = n }) steps)

start_reached : (target : Target) (setting : Setting) → Reachable target setting (core_start target setting)
start_reached target setting = record { events = []; runs = refl }

pub starts_under_way : (t : Terms) (now : Progress) → IsSound t.pair → IsSetting t.setting → SuitsReplay t → now.words ≡ (core_start t.pair.target t.setting).words → now.entries ≡ fresh_entries 0 t.scripts → IsUnderWay t now
starts_under_way t now sound own suits words entries = record {
  words = record {
    count = ap length words ∙ start.count;
    lawful = subst (AreLawful t.pair.target t.setting) (sym words) start.lawful;
  };
  belong = record { each = λ c e is. record { fits = suits.fits; belongs = (start.belong c e.core (core_in c e is)).0 } };
  rooms = λ c e is. sym (fresh_rooms 0 c t.scripts e (ap (λ (l : List RoomyEntry). slice_get l c) (sym entries) ∙ is));
  calls = λ c k call is. call_is t.pair.target (script_of t.scripts c) k call (script_calls t.pair.target t.scripts c suits.calls) is;
} where
  start : IsSoundState t.pair.target t.setting (core_start t.pair.target t.setting)
  start = states_are_sound t.pair.target t.pair.source t.setting (core_start t.pair.target t.setting) (runnable t.pair sound) own suits.fits (start_reached t.pair.target t.setting)

  core_in : (c : ℕ) (e : RoomyEntry) → slice_get now.entries c ≡ Some e → slice_get (idle_from 0 t.setting.sizes.callers) c ≡ Some e.core
  core_in c e is =
      ap (λ (l : List Entry). slice_get l c) (sym (ap (map core_part) entries ∙ (fresh_cores 0 t.scripts ∙ ap (idle_from 0) suits.count)))
      ∙ (slice_get-map core_part now.entries c ∙ ap (option_map core_part) is)
