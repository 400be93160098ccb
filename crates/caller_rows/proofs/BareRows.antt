-- The start of callers who run a text as it is.
use Rattle.std.proofs.Common.{◌≡◌, ℕ, ◌<◌, List, [], refl, sym, subst}
use Rattle.norm_lang.specs.declared.text.Text.{Text}
use Rattle.target_code.specs.Bare.{bare}
use Rattle.caller_parts.specs.Settings.{Setting, IsSetting, Fits}
use Rattle.caller_steps.specs.Entries.{RoomyEntry, idle_entry}
use Rattle.barrier_check.specs.Paired.{Paired}
use Rattle.core_runs.specs.Machine.{core_start}
use Rattle.core_runs.proofs.core_sound.Reached.{states_are_sound}
use Rattle.core_ground.specs.Running.{bare_pair, MayRun}
use Rattle.core_entries.specs.Callers.{BelongsTo, BelongsToAll}
use Rattle.core_entries.specs.Steps.{WordsSound}

-- an entry as it was made belongs
pub new_belongs : (pair : Paired) (setting : Setting) (e : RoomyEntry) (c room : ℕ) → BelongsToAll (idle_entry c) → MayRun pair → Fits pair.target setting → c < setting.sizes.callers
    → e ≡ record { core = idle_entry c; room = room } → BelongsTo pair setting e.core
new_belongs pair setting e c room all may fits lt is = subst (λ (e : RoomyEntry). BelongsTo pair setting e.core) (sym is) (all.any pair setting may fits lt)

-- the words at the start are as many as the row has, and lawful
start_sound : (text : Text) (setting : Setting) (words : List ℕ) → MayRun (bare_pair text) → IsSetting setting → Fits (bare text) setting → words ≡ (core_start (bare text) setting).words
    → WordsSound (bare text) setting words
start_sound text setting words may own fits is =
    let sound = states_are_sound (bare text) text setting (core_start (bare text) setting) may own fits (record { events = []; runs = refl }) in
    subst (λ (l : List ℕ). WordsSound (bare text) setting l) (sym is) (record { count = sound.count; lawful = sound.lawful })

pub starts_sound : (row : Text × Setting) (text : Text) (setting : Setting) (words : List ℕ) → row.0 ≡ text → setting ≡ row.1 → MayRun (bare_pair row.0) → IsSetting row.1 → Fits (bare row.0) row.1
    → words ≡ (core_start (bare text) setting).words → WordsSound (bare row.0) row.1 words
starts_sound row text setting words same is may own fits start =
    start_sound row.0 row.1 words may own fits
    (subst (λ (t : Text). words ≡ (core_start (bare t) row.1).words) (sym same) (subst (λ (s : Setting). words ≡ (core_start (bare text) s).words) is start))
