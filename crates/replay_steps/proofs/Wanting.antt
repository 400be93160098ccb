-- The kind of access that a caller wants, by the entry that was looked up.
use Rattle.std.proofs.Common.{◌≡◌, ℕ, Bool, false, List, map, Some, None, sym, ap, ◌∙◌}
use Rattle.std.specs.Prelude.{slice_get, option_map}
use Rattle.std.proofs.lemmas.Option.{slice_get-map}
use Rattle.schedule_turns.specs.declared.turn.StepKind.{StepKind}
use Rattle.target_code.specs.declared.target.Target.{Target}
use Rattle.caller_steps.specs.Entries.{RoomyEntry}
use Rattle.core_runs.specs.Replays.{kind_wanted, is_of_kind, entry_wants_kind}
use Rattle.replay_steps.specs.Entries.{core_part}
use Rattle.replay_steps.proofs.Events.{core_at}

pub wants_some : (target : Target) (kind : StepKind) (entries : List RoomyEntry) (c : ℕ) (e : RoomyEntry) (result : Bool) → Some e ≡ slice_get entries c → result ≡ is_of_kind kind (kind_wanted target e.core)
    → result ≡ entry_wants_kind target kind (slice_get (map core_part entries) c)
wants_some target kind entries c e result at is = is ∙ sym (ap (entry_wants_kind target kind) (core_at entries c e (sym at)))

pub wants_none : (target : Target) (kind : StepKind) (entries : List RoomyEntry) (c : ℕ) → None ≡ slice_get entries c → false ≡ entry_wants_kind target kind (slice_get (map core_part entries) c)
wants_none target kind entries c at = sym (ap (entry_wants_kind target kind) (slice_get-map core_part entries c ∙ ap (option_map core_part) (sym at)))
