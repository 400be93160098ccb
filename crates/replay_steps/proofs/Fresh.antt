-- The entries with which a replay starts are idle, with room for the replies to their scripts.
use Rattle.std.proofs.Common.{◌≡◌, ◌+◌, ℕ, zero, suc, List, [], ◌∷◌, map, length, Some, None, refl, ap}
use Rattle.std.specs.Prelude.{slice_get}
use Rattle.caller_parts.specs.declared.call.Call.{Call}
use Rattle.caller_steps.specs.Entries.{Entry, RoomyEntry, idle_entry}
use Rattle.core_runs.specs.Machine.{idle_from}
use Rattle.core_runs.specs.Scripts.{script_of}
use Rattle.replay_steps.specs.Entries.{core_part, fresh_entries}

pub fresh_cores : (c : ℕ) (scripts : List (List Call)) → map core_part (fresh_entries c scripts) ≡ idle_from c (length scripts)
fresh_cores c [] = refl
fresh_cores c (script ∷ scripts) = ap (λ (l : List Entry). idle_entry c ∷ l) (fresh_cores (c + 1) scripts)

pub fresh_rooms : (c k : ℕ) (scripts : List (List Call)) (e : RoomyEntry) → slice_get (fresh_entries c scripts) k ≡ Some e → length (script_of scripts k) ≡ e.room
fresh_rooms c k [] e is = absurd (let no : None ≡ Some e = is in cc)
fresh_rooms c zero (script ∷ scripts) e is = let same : record { core = idle_entry c; room = length script } ≡ e = cc in ap (λ (x : RoomyEntry). x.room) same
fresh_rooms c (suc k) (script ∷ scripts) e is = fresh_rooms (c + 1) k scripts e is
