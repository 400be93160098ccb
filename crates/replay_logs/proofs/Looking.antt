-- What was looked up among the code's entries is what the replay has.
use Rattle.std.proofs.Common.{◌≡◌, ℕ, Bool, List, map, sym, ap, ◌∙◌, subst}
use Rattle.std.specs.Prelude.{slice_get}
use Rattle.schedule_turns.specs.declared.turn.StepKind.{StepKind}
use Rattle.caller_steps.specs.Entries.{RoomyEntry}
use Rattle.core_runs.specs.Replays.{entry_wants_kind, calls_ended_of}
use Rattle.replay_steps.specs.Entries.{core_part, AllBelongTo}
use Rattle.replay_logs.specs.UnderWay.{Terms, Progress, cores_of, IsUnderWay}
use Rattle.replay_logs.proofs.Stepping.{all_belong}

-- the code's list
entries_are : (inside now : Progress) (entries : List RoomyEntry) → inside ≡ now → entries ≡ inside.entries → entries ≡ now.entries
entries_are inside now entries same those = those ∙ ap (λ (n : Progress). n.entries) same

pub belong_in : (t told : Terms) (inside now : Progress) (entries : List RoomyEntry) → told ≡ t → inside ≡ now → IsUnderWay t now → entries ≡ inside.entries → AllBelongTo told.pair told.setting entries
belong_in t told inside now entries same seen way those =
    subst (λ (x : Terms). AllBelongTo x.pair x.setting entries) (sym same)
    (subst (λ (l : List RoomyEntry). AllBelongTo t.pair t.setting l) (sym (entries_are inside now entries seen those)) (all_belong t now way))

pub wants_in : (t told : Terms) (inside now : Progress) (entries : List RoomyEntry) (c : ℕ) (kind : StepKind) (result : Bool) → told ≡ t → inside ≡ now → entries ≡ inside.entries
    → result ≡ entry_wants_kind told.pair.target kind (slice_get (map core_part entries) c) → result ≡ entry_wants_kind t.pair.target kind (slice_get (cores_of now) c)
wants_in t told inside now entries c kind result same seen those is =
    is
    ∙ (ap (λ (x : Terms). entry_wants_kind x.pair.target kind (slice_get (map core_part entries) c)) same
    ∙ ap (λ (l : List RoomyEntry). entry_wants_kind t.pair.target kind (slice_get (map core_part l) c)) (entries_are inside now entries seen those))

pub ended_in : (inside now : Progress) (entries : List RoomyEntry) (c result : ℕ) → inside ≡ now → entries ≡ inside.entries → result ≡ calls_ended_of (slice_get (map core_part entries) c)
    → result ≡ calls_ended_of (slice_get (cores_of now) c)
ended_in inside now entries c result seen those is = is ∙ ap (λ (l : List RoomyEntry). calls_ended_of (slice_get (map core_part l) c)) (entries_are inside now entries seen those)
