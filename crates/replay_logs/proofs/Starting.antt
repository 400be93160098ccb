-- The start of a replay, and its end.
use Rattle.std.proofs.Common.{◌≡◌, true, ℕ, List, [], ◌∷◌, map, length, refl, sym, ap, ◌∙◌}
use Rattle.std.specs.Prelude.{slice_get, Result, Ok, Err}
use Rattle.std.specs.List.{list_all}
use Rattle.oa_words.specs.SlotKinds.{together}
use Rattle.norm_lang.specs.declared.text.Text.{Text}
use Rattle.norm_lang.specs.declared.reply.SourceReply.{SourceReply}
use Rattle.norm_lang.specs.Limits.{is_reply}
use Rattle.source_machine.specs.Calls.{IsOfSourceRun}
use Rattle.caller_steps.specs.Entries.{Entry, RoomyEntry}
use Rattle.core_runs.specs.Machine.{CoreState, core_start, idle_from}
use Rattle.core_runs.specs.Replays.{Replaying, Refusal, replay_start}
use Rattle.core_runs.proofs.core_sound.Grouped.{nodes_together}
use Rattle.core_runs.proofs.core_sound.StartSound.{stand}
use Rattle.oa_simulation.specs.sim_relation.Callers.{replies_of}
use Rattle.oa_simulation.specs.Shadow.{shadow_start}
use Rattle.run_logs.specs.Logged.{Recording, is_sized, recording_start}
use Rattle.run_logs.specs.LogLaws.{recording}
use Rattle.replay_steps.specs.Entries.{core_part, fresh_entries}
use Rattle.replay_steps.proofs.Fresh.{fresh_cores, fresh_rooms}
use Rattle.replay_logs.specs.declared.replaying.LoggedRun.{LoggedRun}
use Rattle.replay_logs.specs.UnderWay.{Terms, Progress, replay_by, entry_replies, Suits, Starts, Shows, Tells, Follows}
use Rattle.replay_logs.specs.Logged.{IsLogged, LogsFrom}
use Rattle.replay_logs.proofs.Following.{Way, done}

-- ---- the start

-- the initial nodes are named
pub log_starts : (t : Terms) (text : Text) (callers nodes : ℕ) → Suits t → text ≡ t.text → callers ≡ t.setting.sizes.callers → nodes ≡ length t.pair.target.nodes
    → recording_start text callers nodes ≡ recording (shadow_start t.text t.setting)
log_starts t text callers nodes suits same all is =
    let stands = stand suits.sound.within suits.own suits.fits in
    let named : together t.setting.nodes ≡ length t.pair.target.nodes = ap together suits.fits.nodes ∙ nodes_together t.pair.target stands in
    ap (λ (x : Text). recording_start x callers nodes) same
    ∙ (ap (λ (n : ℕ). recording_start t.text n nodes) all
    ∙ ap (λ (n : ℕ). recording_start t.text t.setting.sizes.callers n) (is ∙ sym named))

pub starts_so : (t : Terms) (now : Progress) → Starts t → now.words ≡ (core_start t.pair.target t.setting).words → now.entries ≡ fresh_entries 0 t.scripts
    → now.log ≡ recording (shadow_start t.text t.setting) → IsOfSourceRun t.text now.log.machine → now.steps ≡ 0 → Shows t now (replay_start (replay_by t))
starts_so t now starts words entries log source steps = record {
  state =
      ap (λ (l : List ℕ). record { words = l; entries = map core_part now.entries }) words
      ∙ ap (λ (l : List Entry). record { words = (core_start t.pair.target t.setting).words; entries = l }) cores;
  steps = steps;
  runs = refl;
  written = log;
  rooms = λ c e is. sym (fresh_rooms 0 c t.scripts e (ap (λ (l : List RoomyEntry). slice_get l c) (sym entries) ∙ is));
  source = source;
} where
  cores : map core_part now.entries ≡ idle_from 0 t.setting.sizes.callers
  cores = ap (map core_part) entries ∙ (fresh_cores 0 t.scripts ∙ ap (idle_from 0) starts.count)

-- ---- the end

all_replies : (entries : List RoomyEntry) → map entry_replies entries ≡ map replies_of (map core_part entries)
all_replies [] = refl
all_replies (e ∷ entries) = ap (λ (rest : List (List SourceReply)). replies_of e.core ∷ rest) (all_replies entries)

-- what was written down is answered
pub logs_so : (t : Terms) (old now : Progress) (next : Way) (u : Unit {0}) (run : LoggedRun) → Follows t old (done u) now next → run ≡ record { events = now.log.events; replies = map entry_replies now.entries }
    → list_all is_sized run.events ≡ true → list_all (list_all is_reply) run.replies ≡ true → LogsFrom t old next (Ok run)
logs_so t old now next u run follows is sized numbers = record { each = λ r shows. of (next r) refl (follows.each r shows) } where
  of : {r : Replaying} (o : Result Replaying Refusal) → next r ≡ o → Tells t (done u) now o → IsLogged (replay_by t) t.text (next r) (Ok run)
  of (Ok later) given shows = record {
    replaying = later;
    is = given;
    events = ap (λ (x : LoggedRun). x.events) is ∙ ap (λ (l : Recording). l.events) shows.written;
    replies = ap (λ (x : LoggedRun). x.replies) is ∙ (all_replies now.entries ∙ ap (λ (s : CoreState). map replies_of s.entries) shows.state);
    sized = sized;
    numbers = numbers;
  }
  of (Err refusal) given none = absurd none
