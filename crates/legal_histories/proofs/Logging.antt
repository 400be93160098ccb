-- The calls that are written down of a caller are those that its events begin.
use Rattle.std.proofs.Common.{ℕ, zero, suc, ◌≡◌, ◌≢◌, ◌∙◌, ◌≤◌, ◌<◌, set, length, replicate, Bool, true, false, List, [], ◌∷◌, ◌++◌, Option, Some, None, is_some, ⊎_elim, refl, sym, ap, subst, ◌&&◌, arith}
use Rattle.std.specs.Prelude.{◌==◌, slice_get, slice_index, is_none, if◌then◌else◌}
use Rattle.std.proofs.lemmas.Bool.{cases_eq}
use Rattle.std.proofs.lemmas.Bool.Decides.{nat_tests}
use Rattle.norm_lang.specs.declared.text.Text.{Text}
use Rattle.source_machine.specs.declared.event.SourceEvent.{SourceEvent}
use Rattle.source_machine.specs.declared.event.SourceEvent.TheVariants as events
use Rattle.norm_lang.specs.declared.reply.SourceReply.{SourceReply}
use Rattle.norm_lang.specs.declared.reply.SourceReply.TheVariants as replies
use Rattle.source_machine.specs.declared.state.Running.{Running}
use Rattle.source_machine.specs.declared.state.SourceCaller.{SourceCaller}
use Rattle.source_machine.specs.declared.state.SourceMachine.{SourceMachine}
use Rattle.source_machine.specs.State.{idle_caller, source_start}
use Rattle.source_machine.specs.Step.{performed, caller_turn}
use Rattle.source_machine.specs.Run.{mover, is_call, is_enabled, is_enabled_by, is_enabled_for, with_turn, step_of, source_step, source_run}
use Rattle.source_machine.specs.MethodRuns.{put}
use Rattle.source_machine.proofs.Places.{put_same, put_other}
use Rattle.caller_parts.specs.declared.call.Call.{Call}
use Rattle.run_laws.specs.begin_laws.Begins.{begun_by, begun_in}
use Rattle.source_histories.specs.Books.{Rules, Started, Ended, Log, no_calls, last_reply, log_ended, logged_by, begins_run, again_now, log_again, logged, Book, book_start, book_by, book_step, book_run, book_of}

-- a call that was begun is the one that is written down
pub record IsStarted (call : Call) (s : Started) : Type 0 where
  pub op : s.op ≡ call.op
  pub arg : s.arg ≡ slice_index call.args 0

-- the calls that ended, and the one that runs, are those that were begun, in order
abbrev pub AreLogged : List Call → List Ended → Option Started → Type 0
AreLogged [] [] None = Unit {0}
AreLogged [] [] (Some s) = ⊥
AreLogged [] (e ∷ es) now = ⊥
AreLogged (call ∷ calls) (e ∷ es) now = IsStarted call e.call × AreLogged calls es now
AreLogged (call ∷ calls) [] None = ⊥
AreLogged (call ∷ []) [] (Some s) = IsStarted call s
AreLogged (call ∷ next ∷ calls) [] (Some s) = ⊥

begins_more : (calls : List Call) (es : List Ended) (call : Call) (s : Started) → AreLogged calls es None → IsStarted call s → AreLogged (calls ++ call ∷ []) es (Some s)
begins_more [] [] call s k is = is
begins_more [] (e ∷ es) call s k is = absurd k
begins_more (x ∷ calls) [] call s k is = absurd k
begins_more (x ∷ calls) (e ∷ es) call s k is = (k.0, begins_more calls es call s k.1 is)

ends_more : (calls : List Call) (es : List Ended) (s : Started) (e : Ended) → e.call ≡ s → AreLogged calls es (Some s) → AreLogged calls (es ++ e ∷ []) None
ends_more [] [] s e same k = absurd k
ends_more [] (x ∷ es) s e same k = absurd k
ends_more (call ∷ []) [] s e same k = (subst (λ y. IsStarted call y) (sym same) k, tt)
ends_more (call ∷ next ∷ calls) [] s e same k = absurd k
ends_more (call ∷ calls) (x ∷ es) s e same k = (k.0, ends_more calls es s e same k.1)

abbrev Logs : List Call → Log → Type 0
Logs calls log = AreLogged calls log.done log.now

-- ---- one event

log_ends : (t : ℕ) (reply : SourceReply) (now : Option Started) (log : Log) (calls : List Call) → log.now ≡ now → Logs calls log → Logs calls (log_ended t reply now log)
log_ends t reply None log calls is k = k
log_ends t reply (Some s) log calls is k = ends_more calls log.done s (record { call = s; reply = reply; at = t }) refl (subst (λ n. AreLogged calls log.done n) is k)

log_goes_on : (t : ℕ) (after : SourceCaller) (running : Option Running) (log : Log) (calls : List Call) → Logs calls log → Logs calls (logged_by t after running log)
log_goes_on t after None log calls k = log_ends t (last_reply replies.Nothing after.replies) log.now log calls refl k
log_goes_on t after (Some running) log calls k = k

append_none : (xs : List Call) → xs ++ [] ≡ xs
append_none [] = refl
append_none (x ∷ xs) = ap (λ l. x ∷ l) (append_none xs)

again_logged : (t : ℕ) (calls : List Call) (es : List Ended) (now : Option Started) → AreLogged calls es now → AreLogged calls es (again_now t now)
again_logged t [] [] None k = k
again_logged t [] [] (Some s) k = absurd k
again_logged t [] (e ∷ es) now k = absurd k
again_logged t (call ∷ calls) (e ∷ es) now k = (k.0, again_logged t calls es now k.1)
again_logged t (call ∷ calls) [] None k = absurd k
again_logged t (call ∷ []) [] (Some s) k = record { op = k.op; arg = k.arg }
again_logged t (call ∷ next ∷ calls) [] (Some s) k = absurd k

log_begins_again : (b : Bool) (t : ℕ) (log : Log) (calls : List Call) → Logs calls log → Logs calls (log_again b t log)
log_begins_again true t log calls k = again_logged t calls log.done log.now k
log_begins_again false t log calls k = k

log_left : (event : SourceEvent) (t : ℕ) (before : Option Running) (after : SourceCaller) (log : Log) (calls : List Call) → Logs calls log
    → Logs (calls ++ []) (log_again (begins_run event before after.running) t (logged_by t after after.running log))
log_left event t before after log calls k = subst (λ l. Logs l (log_again (begins_run event before after.running) t (logged_by t after after.running log))) (sym (append_none calls))
    (log_begins_again (begins_run event before after.running) t (logged_by t after after.running log) calls (log_goes_on t after after.running log calls k))

none_runs : (o : Option Running) (now : Option Started) → is_none o ≡ true → is_some o ≡ is_some now → now ≡ None
none_runs (Some r) now none same = absurd (let z : false ≡ true = none in cc)
none_runs None None none same = refl
none_runs None (Some s) none same = absurd (let z : false ≡ true = same in cc)

both : (a b : Bool) → (a && b) ≡ true → a ≡ true
both true b is = refl
both false b is = absurd (let z : false ≡ true = is in cc)

same_test : (a : ℕ) → (a == a) ≡ true
same_test a = grind (arith, nat_tests)

other_test : (a b : ℕ) → b ≢ a → (a == b) ≡ false
other_test a b ne = grind (arith, nat_tests)

-- what the mover begins by it
log_moved : (text : Text) (event : SourceEvent) (t : ℕ) (m : SourceMachine) (caller after : SourceCaller) (log : Log) (calls : List Call)
    → is_enabled_by text event (performed text caller) m.memory caller ≡ true → is_some caller.running ≡ is_some log.now → Logs calls log → Logs (calls ++ begun_by (mover event) event) (logged event t caller.running after log)
log_moved text (events.Begin c number args) t m caller after log calls enabled same k =
    subst (λ l. Logs (calls ++ l) (record { done = log.done; now = Some (record { op = number; arg = slice_index args 0; begun = t; since = t }) })) (sym begun)
    (begins_more calls log.done (record { op = number; args = args }) (record { op = number; arg = slice_index args 0; begun = t; since = t })
    (subst (λ n. AreLogged calls log.done n) (none_runs caller.running log.now (both (is_none caller.running) (is_call text number args) enabled) same) k) (record { op = refl; arg = refl }))
  where
    begun : begun_by c (events.Begin c number args) ≡ record { op = number; args = args } ∷ []
    begun = ap (λ b. if b then record { op = number; args = args } ∷ [] else []) (same_test c)
log_moved text (events.Access c name) t m caller after log calls enabled same k = log_left (events.Access c name) t caller.running after log calls k
log_moved text (events.Restart c) t m caller after log calls enabled same k = log_left (events.Restart c) t caller.running after log calls k
log_moved text (events.GiveUp c phase) t m caller after log calls enabled same k = log_left (events.GiveUp c phase) t caller.running after log calls k

others_begin : (c : ℕ) (event : SourceEvent) → c ≢ mover event → begun_by c event ≡ []
others_begin c (events.Begin d number args) ne = ap (λ b. if b then record { op = number; args = args } ∷ [] else []) (other_test d c ne)
others_begin c _ ne = refl

-- each caller's calls are written down
abbrev AllLogged : List SourceEvent → Book → Type 0
AllLogged events b = (c : ℕ) → Logs (begun_in c events) (b.log c)

begun_more : (c : ℕ) (xs : List SourceEvent) (event : SourceEvent) → begun_in c (xs ++ event ∷ []) ≡ begun_in c xs ++ begun_by c event
begun_more c [] event = append_none (begun_by c event)
begun_more c (x ∷ xs) event = ap (λ l. begun_by c x ++ l) (begun_more c xs event) ∙ sym (joined (begun_by c x) (begun_in c xs) (begun_by c event))
  where
    joined : (a b d : List Call) → (a ++ b) ++ d ≡ a ++ (b ++ d)
    joined [] b d = refl
    joined (x ∷ a) b d = ap (λ l. x ∷ l) (joined a b d)

-- nothing is written down of a caller that isn't there
abbrev NoneOfOthers : Book → Type 0
NoneOfOthers b = (c : ℕ) → slice_get b.machine.callers c ≡ None → b.log c ≡ no_calls

not_set : (xs : List SourceCaller) (k : ℕ) (x : SourceCaller) (c : ℕ) → slice_get (set xs k x) c ≡ None → slice_get xs c ≡ None
not_set [] k x c e = e
not_set (a ∷ xs) zero x zero e = absurd (let z : Some x ≡ None = e in cc)
not_set (a ∷ xs) zero x (suc c) e = e
not_set (a ∷ xs) (suc k) x zero e = e
not_set (a ∷ xs) (suc k) x (suc c) e = not_set xs k x c e

-- a caller's call is written down as running exactly if it runs
abbrev RunsAsLogged : Book → Type 0
RunsAsLogged b = (c : ℕ) (caller : SourceCaller) → slice_get b.machine.callers c ≡ Some caller → is_some caller.running ≡ is_some (b.log c).now

step_logged : (text : Text) (rules : Rules) (b : Book) (event : SourceEvent) (before : List SourceEvent) (found : Option SourceCaller) → slice_get b.machine.callers (mover event) ≡ found
    → is_enabled_for text event found b.machine.memory ≡ true → RunsAsLogged b → AllLogged before b → AllLogged (before ++ event ∷ []) (book_by text rules b event found)
step_logged text rules b event before None at enabled runs logs c = absurd (let z : false ≡ true = enabled in cc)
step_logged text rules b event before (Some caller) at enabled runs logs c = ⊎_elim
    (λ (same : c ≡ mover event). subst (λ i. Logs (begun_in i (before ++ event ∷ [])) (put b.log (mover event) now i)) (sym same)
    (subst (λ l. Logs l (put b.log (mover event) now (mover event))) (sym (begun_more (mover event) before event))
    (subst (λ l. Logs (begun_in (mover event) before ++ begun_by (mover event) event) l) (sym (put_same b.log (mover event) now))
    (log_moved text event b.time b.machine caller after (b.log (mover event)) (begun_in (mover event) before) enabled (runs (mover event) caller at) (logs (mover event))))))
    (λ (ne : c ≢ mover event). subst (λ l. Logs l (put b.log (mover event) now c)) (sym (begun_more c before event ∙ (ap (λ l. begun_in c before ++ l) (others_begin c event ne) ∙ append_none (begun_in c before))))
    (subst (λ l. Logs (begun_in c before) l) (sym (put_other b.log (mover event) c now ne)) (logs c)))
    (cases_eq c (mover event))
  where
    after : SourceCaller
    after = (caller_turn text event b.machine.memory caller).caller

    now : Log
    now = logged event b.time caller.running (caller_turn text event b.machine.memory caller).caller (b.log (mover event))

others_kept : (text : Text) (rules : Rules) (b : Book) (event : SourceEvent) (found : Option SourceCaller) → slice_get b.machine.callers (mover event) ≡ found
    → is_enabled_for text event found b.machine.memory ≡ true → NoneOfOthers b → NoneOfOthers (book_by text rules b event found)
others_kept text rules b event None at enabled none c is = none c is
others_kept text rules b event (Some caller) at enabled none c is =
    let turned = caller_turn text event b.machine.memory caller in
    let stepped : source_step text b.machine event ≡ with_turn b.machine (mover event) turned = ap (λ o. step_of text event o b.machine) at in
    let was : slice_get b.machine.callers c ≡ None = not_set b.machine.callers (mover event) turned.caller c (sym (ap (λ (m : SourceMachine). slice_get m.callers c) stepped) ∙ is) in
    let ne : c ≢ mover event = λ e. none_is_some caller (sym was ∙ (ap (λ i. slice_get b.machine.callers i) e ∙ at)) in
    put_other b.log (mover event) c (logged event b.time caller.running turned.caller (b.log (mover event))) ne ∙ none c was
  where
    none_is_some : (x : SourceCaller) → None ≡ Some x → ⊥
    none_is_some x e = absurd (let z : None ≡ Some x = e in cc)

-- ---- a run

goes_on : (b : Bool) (a : Option SourceMachine) (state : SourceMachine) → (if b then a else None) ≡ Some state → (b ≡ true) × (a ≡ Some state)
goes_on true a state e = (refl, e)
goes_on false a state e = absurd (let z : None ≡ Some state = e in cc)

run_more : (text : Text) (events : List SourceEvent) (event : SourceEvent) (start m : SourceMachine) → source_run text events start ≡ Some m → is_enabled text m event ≡ true
    → source_run text (events ++ event ∷ []) start ≡ Some (source_step text m event)
run_more text [] event start m runs enabled =
    let same : start ≡ m = (let z : Some start ≡ Some m = runs in cc) in
    subst (λ s. (if is_enabled text s event then Some (source_step text s event) else None) ≡ Some (source_step text m event)) (sym same) (ap (λ b. if b then Some (source_step text m event) else None) enabled)
run_more text (x ∷ xs) event start m runs enabled =
    let k = goes_on (is_enabled text start x) (source_run text xs (source_step text start x)) m runs in
    ap (λ b. if b then source_run text (xs ++ event ∷ []) (source_step text start x) else None) k.0 ∙ run_more text xs event (source_step text start x) m k.1 enabled

book_more : (text : Text) (rules : Rules) (events : List SourceEvent) (event : SourceEvent) (b : Book) → book_run text rules (events ++ event ∷ []) b ≡ book_step text rules (book_run text rules events b) event
book_more text rules [] event b = refl
book_more text rules (x ∷ xs) event b = book_more text rules xs event (book_step text rules b x)

events_joined : (xs : List SourceEvent) (event : SourceEvent) (ys : List SourceEvent) → (xs ++ event ∷ []) ++ ys ≡ xs ++ event ∷ ys
events_joined [] event ys = refl
events_joined (x ∷ xs) event ys = ap (λ l. x ∷ l) (events_joined xs event ys)

events_end : (xs : List SourceEvent) → xs ++ [] ≡ xs
events_end [] = refl
events_end (x ∷ xs) = ap (λ l. x ∷ l) (events_end xs)

-- what is written down of each caller: its calls, and nothing of one that isn't there
record Kept (events : List SourceEvent) (b : Book) : Type 0 where
  logs : AllLogged events b
  others : NoneOfOthers b

-- what is known of the book of each run
pub record Known (text : Text) (rules : Rules) (callers : ℕ) (events : List SourceEvent) (m : SourceMachine) : Type 0 where
  pub machine : (book_of text rules callers events).machine ≡ m
  pub runs : (c : ℕ) (caller : SourceCaller) → slice_get m.callers c ≡ Some caller → is_some caller.running ≡ is_some ((book_of text rules callers events).log c).now

known_runs : (text : Text) (rules : Rules) (callers : ℕ) (events : List SourceEvent) (m : SourceMachine) → Known text rules callers events m → RunsAsLogged (book_of text rules callers events)
known_runs text rules callers events m known c caller at = known.runs c caller (ap (λ (x : SourceMachine). slice_get x.callers c) (sym known.machine) ∙ at)

kept_from : (text : Text) (rules : Rules) (callers : ℕ) → ((events : List SourceEvent) (m : SourceMachine) → source_run text events (source_start text callers) ≡ Some m → Known text rules callers events m)
    → (before later : List SourceEvent) (m state : SourceMachine) → source_run text before (source_start text callers) ≡ Some m → source_run text later m ≡ Some state
    → Kept before (book_of text rules callers before) → Kept (before ++ later) (book_of text rules callers (before ++ later))
kept_from text rules callers known before [] m state here runs kept = subst (λ es. Kept es (book_of text rules callers es)) (sym (events_end before)) kept
kept_from text rules callers known before (event ∷ later) m state here runs kept =
    let k = goes_on (is_enabled text m event) (source_run text later (source_step text m event)) state runs in
    let b = book_of text rules callers before in
    let there = known before m here in
    let enabled : is_enabled text b.machine event ≡ true = ap (λ x. is_enabled text x event) there.machine ∙ k.0 in
    let found = slice_get b.machine.callers (mover event) in
    let stepped : Kept (before ++ event ∷ []) (book_step text rules b event) = record {
      logs = step_logged text rules b event before found refl enabled (known_runs text rules callers before m there) kept.logs;
      others = others_kept text rules b event found refl enabled kept.others;
    } in
    subst (λ es. Kept es (book_of text rules callers es)) (events_joined before event later)
    (kept_from text rules callers known (before ++ event ∷ []) later (source_step text m event) state (run_more text before event (source_start text callers) m here k.0) k.1
    (subst (λ x. Kept (before ++ event ∷ []) x) (sym (book_more text rules before event (book_start text callers))) stepped))

-- ---- callers

set_length : (xs : List SourceCaller) (k : ℕ) (x : SourceCaller) → length (set xs k x) ≡ length xs
set_length [] k x = refl
set_length (a ∷ xs) zero x = refl
set_length (a ∷ xs) (suc k) x = ap suc (set_length xs k x)

step_callers : (text : Text) (event : SourceEvent) (m : SourceMachine) (found : Option SourceCaller) → length (step_of text event found m).callers ≡ length m.callers
step_callers text event m None = refl
step_callers text event m (Some caller) = set_length m.callers (mover event) (caller_turn text event m.memory caller).caller

run_callers : (text : Text) (events : List SourceEvent) (m state : SourceMachine) → source_run text events m ≡ Some state → length state.callers ≡ length m.callers
run_callers text [] m state runs = let same : m ≡ state = (let z : Some m ≡ Some state = runs in cc) in ap (λ (x : SourceMachine). length x.callers) (sym same)
run_callers text (event ∷ events) m state runs =
    let k = goes_on (is_enabled text m event) (source_run text events (source_step text m event)) state runs in
    run_callers text events (source_step text m event) state k.1 ∙ step_callers text event m (slice_get m.callers (mover event))

made_length : (n : ℕ) → length (replicate n idle_caller) ≡ n
made_length zero = refl
made_length (suc n) = ap suc (made_length n)

past_end : (xs : List SourceCaller) (c : ℕ) → length xs ≤ c → slice_get xs c ≡ None
past_end [] c le = refl
past_end (x ∷ xs) zero le = let no : ⊥ = omega (arith, le) in absurd no
past_end (x ∷ xs) (suc c) le = past_end xs c (omega (arith, le))

inside : (xs : List SourceCaller) (c : ℕ) → c < length xs → (caller : SourceCaller) × (slice_get xs c ≡ Some caller)
inside [] c lt = let no : ⊥ = omega (arith, lt) in absurd no
inside (x ∷ xs) zero lt = (x, refl)
inside (x ∷ xs) (suc c) lt = inside xs c (omega (arith, lt))

-- so many callers are there, and no others
pub caller_there : (text : Text) (callers : ℕ) (events : List SourceEvent) (state : SourceMachine) → source_run text events (source_start text callers) ≡ Some state → (c : ℕ) → c < callers
    → (caller : SourceCaller) × (slice_get state.callers c ≡ Some caller)
caller_there text callers events state runs c lt =
    let same : length state.callers ≡ callers = run_callers text events (source_start text callers) state runs ∙ made_length callers in
    inside state.callers c (omega (arith, lt, same))

pub no_caller : (text : Text) (callers : ℕ) (events : List SourceEvent) (state : SourceMachine) → source_run text events (source_start text callers) ≡ Some state → (c : ℕ) → callers ≤ c → slice_get state.callers c ≡ None
no_caller text callers events state runs c le =
    let same : length state.callers ≡ callers = run_callers text events (source_start text callers) state runs ∙ made_length callers in
    past_end state.callers c (omega (arith, le, same))

-- what is written down of a caller in a run
pub record IsLogged (text : Text) (rules : Rules) (callers : ℕ) (events : List SourceEvent) (state : SourceMachine) (c : ℕ) : Type 0 where
  pub calls : AreLogged (begun_in c events) ((book_of text rules callers events).log c).done ((book_of text rules callers events).log c).now
  pub other : slice_get state.callers c ≡ None → (book_of text rules callers events).log c ≡ no_calls

pub all_logged : (text : Text) (rules : Rules) (callers : ℕ) (events : List SourceEvent) (state : SourceMachine)
    → ((xs : List SourceEvent) (m : SourceMachine) → source_run text xs (source_start text callers) ≡ Some m → Known text rules callers xs m)
    → source_run text events (source_start text callers) ≡ Some state → (c : ℕ) → IsLogged text rules callers events state c
all_logged text rules callers events state known runs c =
    let kept = kept_from text rules callers known [] events (source_start text callers) state refl runs (record { logs = λ d. tt; others = λ d none. refl }) in
    record { calls = kept.logs c; other = λ none. kept.others c (ap (λ (x : SourceMachine). slice_get x.callers c) (known events state runs).machine ∙ none) }
