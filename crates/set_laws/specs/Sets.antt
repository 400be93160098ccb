-- A set of keys, and the deeds of the calls of its texts.
use Rattle.std.specs.Prelude.{ℕ, zero, suc, ◌≡◌, ◌<◌, ◌==◌, ◌&&◌, ◌||◌, Bool, true, false, not, List, [], ◌∷◌, Option, Some, None, Result, Ok, Err, nat_lt, if◌then◌else◌}
use Rattle.norm_lang.specs.Shipped.{set_text}
use Rattle.source_machine.specs.declared.event.SourceEvent.{SourceEvent}
use Rattle.source_machine.specs.declared.reads.Standing.{Standing}
use Rattle.source_machine.specs.declared.state.SourceMachine.{SourceMachine}
use Rattle.source_machine.specs.declared.error.RunError.{RunError}
use Rattle.source_machine.specs.declared.error.RunError.TheVariants as runs
use Rattle.source_machine.specs.Calls.{IsStopped}
use Rattle.source_machine.specs.Run.{IsSourceRun}
use Rattle.source_machine.specs.Proper.{has}
use Rattle.source_histories.specs.declared.deed.Deed.{Deed}
use Rattle.source_histories.specs.Deeds.{deeds_in, AreLegal}
use Rattle.source_histories.specs.declared.deed.Notes.{Notes}
use Rattle.source_histories.specs.Books.{Rules, book_of}
use Rattle.source_histories.specs.Answers.{AnswersAs, DeedsStand}

-- a set is the list of its keys, in order; a key is put in its place, or taken out
abbrev pub with_key : ℕ → List ℕ → List ℕ
with_key key [] = key ∷ []
with_key key (k ∷ keys) = if nat_lt key k then key ∷ (k ∷ keys) else k ∷ with_key key keys

abbrev pub without_key : ℕ → List ℕ → List ℕ
without_key key [] = []
without_key key (k ∷ keys) = if k == key then without_key key keys else k ∷ without_key key keys

-- what is left of a set if a reply is right
abbrev pub if_right : Bool → List ℕ → Option (List ℕ)
if_right true keys = Some keys
if_right false keys = None

-- an insert adds the key and replies 1 if it was absent, else 0
abbrev pub inserted : Bool → ℕ → ℕ → List ℕ → Option (List ℕ)
inserted true key reply keys = if_right (reply == 0) keys
inserted false key reply keys = if_right (reply == 1) (with_key key keys)

-- a removal takes it out and replies 1 if it was there, else 0
abbrev pub removed : Bool → ℕ → ℕ → List ℕ → Option (List ℕ)
removed true key reply keys = if_right (reply == 1) (without_key key keys)
removed false key reply keys = if_right (reply == 0) keys

-- and a search replies 1 exactly if it is there
abbrev pub searched : Bool → ℕ → List ℕ → Option (List ℕ)
searched true reply keys = if_right (reply == 1) keys
searched false reply keys = if_right (reply == 0) keys

-- what is left after a deed, by its operation, its key and its reply; each operation of a set replies with a number
abbrev pub after_reply : ℕ → ℕ → ℕ → List ℕ → Option (List ℕ)
after_reply zero key reply keys = inserted (has key keys) key reply keys
after_reply (suc zero) key reply keys = removed (has key keys) key reply keys
after_reply (suc (suc zero)) key reply keys = searched (has key keys) reply keys
after_reply (suc (suc (suc n))) key reply keys = None

abbrev pub after_op : ℕ → ℕ → Option ℕ → List ℕ → Option (List ℕ)
after_op op key None keys = None
after_op op key (Some reply) keys = after_reply op key reply keys

abbrev pub set_step : Deed → List ℕ → Option (List ℕ)
set_step d keys = after_op d.op d.arg d.reply keys

-- the deeds are those of a set that is empty first
abbrev pub SetLegal : List Deed → Type 0
SetLegal deeds = AreLegal set_step [] deeds

-- where the commits stand, all of them after the search
abbrev pub commits_at : ℕ → ℕ → Bool
commits_at zero at = (at == 20) || (at == 22)
commits_at (suc zero) at = (at == 18) || (at == 20)
commits_at (suc (suc n)) at = (at == 17) || (at == 19)

abbrev pub set_commits : ℕ → ℕ → Bool
set_commits op at = nat_lt 15 at && commits_at op at

-- it begins again at its bucket
abbrev pub goes_back : Option Standing → Bool
goes_back None = false
goes_back (Some next) = not next.wrapup && (next.at == 1)

-- what is remembered with another gap, or another load; by whether n1 is less than n0 once the key is loaded; and by whether the
-- search goes back to its bucket after an exchange, which it does if that failed
abbrev pub with_gap : ℕ → Notes → Notes
with_gap t notes = record { gap = t; load = notes.load }

abbrev pub with_load : ℕ → Notes → Notes
with_load t notes = record { gap = notes.gap; load = t }

abbrev pub after_key : Bool → Notes → Notes
after_key true notes = with_gap notes.load notes
after_key false notes = notes

abbrev pub after_snip : Bool → ℕ → Notes → Notes
after_snip true t notes = notes
after_snip false t notes = with_gap t notes

-- the event by which r1 became the successor of r0: the load from the sentinel, at instruction 2; the load of `next` into r2, at
-- 4, once the key, at 6, shows that the search goes on behind that node, since it is less than the one sought; and the exchange that took a marked node out, at 13
abbrev pub set_noted : ℕ → Notes → ℕ → Bool → Option Standing → Notes
set_noted t notes at passed next =
    if at == 2 then with_gap t notes
    else (if at == 4 then with_load t notes
    else (if at == 6 then after_key passed notes
    else (if at == 13 then after_snip (goes_back next) t notes else notes)))

-- by the reply: an exchange; the load from the node that has the key; or the event that shows that none has it
abbrev pub set_moment : ℕ → Notes → ℕ → Option ℕ → ℕ
set_moment t notes op None = t
set_moment t notes zero (Some zero) = notes.load
set_moment t notes zero (Some (suc v)) = t
set_moment t notes (suc zero) (Some zero) = notes.gap
set_moment t notes (suc zero) (Some (suc v)) = t
set_moment t notes (suc (suc n)) (Some zero) = notes.gap
set_moment t notes (suc (suc n)) (Some (suc v)) = notes.load

-- how a set's operations are read; a running insert or removal whose first exchange succeeded will reply 1
abbrev pub set_rules : Rules
set_rules = record {
  commits = set_commits;
  noted = λ t notes seen. set_noted t notes seen.before.at seen.passed seen.after;
  promised = λ key. 1;
  moment = set_moment;
}

-- the deeds of the calls of a run, in the order of their moments
abbrev pub set_deeds : ℕ → ℕ → List SourceEvent → List Deed
set_deeds buckets callers events = deeds_in (book_of (set_text buckets) set_rules callers events).slots

-- the sets' texts answer as a set
abbrev pub SetAnswers : Type 0
SetAnswers = (buckets callers : ℕ) (events : List SourceEvent) (state : SourceMachine) → 0 < buckets → IsSourceRun (set_text buckets) callers events state
    → AnswersAs (List ℕ) set_step [] state (book_of (set_text buckets) set_rules callers events)

-- what is told of a running call stands
abbrev pub SetDeedsStand : Type 0
SetDeedsStand = (buckets : ℕ) → 0 < buckets → DeedsStand (set_text buckets) set_rules

-- the history of a run, which answers as a set; or the first event that isn't enabled; memory may run out
abbrev pub IsSetHistory : ℕ → ℕ → List SourceEvent → Result (List Deed) RunError → Type 0
IsSetHistory buckets callers events (Ok deeds) =
    (state : SourceMachine) × IsSourceRun (set_text buckets) callers events state × (deeds ≡ set_deeds buckets callers events)
    × AnswersAs (List ℕ) set_step [] state (book_of (set_text buckets) set_rules callers events)
IsSetHistory buckets callers events (Err (runs.NotEnabled at)) = IsStopped (set_text buckets) callers events at
IsSetHistory buckets callers events (Err runs.Memory) = Unit {0}
