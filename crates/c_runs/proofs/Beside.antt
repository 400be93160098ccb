-- A run of the core beside one of callers that run C.
use Rattle.std.proofs.Common.{◌≡◌, ◌≢◌, ◌⊎◌, ℕ, zero, suc, ◌<◌, Bool, true, false, ◌&&◌, ◌||◌, not, ◌==◌, List, [], ◌∷◌, ◌++◌, map, length, Option, Some, None, refl, sym, ◌∙◌, ap, subst, append_assoc, append-nil, arith, inl, inr, ⊎_elim, if◌then◌else◌}
use Rattle.std.specs.Prelude.{nat_lt, slice_get, slice_index, unwrap_or}
use Rattle.std.proofs.Math.Path.{fun_ext}
use Rattle.std.proofs.lemmas.List.{map-append}
use Rattle.std.proofs.lemmas.Bool.{and_parts, cases_eq, ltb-true}
use Rattle.std.proofs.lemmas.Bool.Decides.{nat_tests}
use Rattle.norm_lang.specs.declared.reply.SourceReply.{SourceReply}
use Rattle.norm_lang.specs.declared.text.Text.{Text}
use Rattle.target_code.specs.declared.target.Target.{Target}
use Rattle.oa_words.specs.Words.{Word, in_row, address_of}
use Rattle.oa_words.proofs.Names.{same_is}
use Rattle.oa_words.specs.Memories.{store, seen, same_word}
use Rattle.phase_pools.specs.Accesses.{WordAccess, Loads, Stores, Exchanges, Raises, word_of, word_after}
use Rattle.source_machine.specs.Proper.{IsProperFor}
use Rattle.source_machine.specs.Run.{source_replies}
use Rattle.caller_parts.specs.declared.call.Call.{Call}
use Rattle.caller_parts.specs.declared.call.Running.{Running}
use Rattle.caller_parts.specs.declared.setting.Reclamation.TheVariants.{Optimistic}
use Rattle.caller_parts.specs.Settings.{Setting}
use Rattle.caller_parts.specs.Calls.{is_call}
use Rattle.caller_steps.specs.Entries.{Entry, idle_entry, is_idle}
use Rattle.caller_steps.specs.Wants.{wants}
use Rattle.caller_steps.specs.After.{after, taken}
use Rattle.caller_steps.specs.Lawful.{IsLawful, MayBeTold}
use Rattle.caller_steps.specs.Belongs.{Belongs}
use Rattle.core_runs.specs.Histories.{bumped, with_event, with_events, calls_in}
use Rattle.core_runs.specs.Machine.{CoreState, CoreEvent, Takes, Steps, core_event, core_run, core_start, Reachable}
use Rattle.core_runs.specs.Views.{view, put, IsShaped, Moves, EventsAreSeen, StartIsSeen}
use Rattle.core_runs.specs.core_sound.Sound.{IsSound}
use Rattle.core_runs.proofs.Reaching.{run_more}
use Rattle.oa_simulation.specs.Shadow.{shadow}
use Rattle.oa_simulation.specs.Statements.{Refined, AgreesWith}
use Rattle.oa_simulation.specs.sim_relation.Callers.{replies_of}
use Rattle.run_laws.specs.guarded_claims.Guarded.{Spared}
use Rattle.run_laws.specs.stale_laws.Stale.{StaleLoadsAreWarned}
use Rattle.c_runs.specs.Machine.{Move, Goes, Wants, Rests, Strays, Functions, CState, CEvent, Calls, Runs, rests, with_caller, accessed, moved, c_event, on_state, c_run, call_in, calls_made}
use Rattle.c_runs.specs.Matching.{Makes, Waits, Asks, Matches, RepliesAgree}
use Rattle.c_runs.specs.Promise.{c_start, calls_taken, FollowsText, FollowsOn}

-- of each run of the core
abbrev pub OfRuns : Target → Setting → (List CoreEvent → CoreState → Type 0) → Type 0
OfRuns target setting Holds = (events : List CoreEvent) (state : CoreState) → core_run target setting events (core_start target setting) ≡ Some state → Holds events state

-- what is so of each reachable state of the core
pub record Known (target : Target) (setting : Setting) : Type 0 where
  pub sound : (state : CoreState) → Reachable target setting state → IsSound target setting state
  pub shaped : (state : CoreState) → Reachable target setting state → IsShaped target setting state
  pub sees : EventsAreSeen target setting
  pub starts : StartIsSeen target setting
  pub by : setting.reclamation ≡ Optimistic

put_here : {A : Type 0} (f : ℕ → A) (k : ℕ) (x : A) (i : ℕ) → i ≡ k → put f k x i ≡ x
put_here f k x i is = ap (λ (b : Bool). if b then x else f i) (let same : (i == k) ≡ true = grind (arith, nat_tests) in same)

put_other : {A : Type 0} (f : ℕ → A) (k : ℕ) (x : A) (i : ℕ) → i ≢ k → put f k x i ≡ f i
put_other f k x i ne = ap (λ (b : Bool). if b then x else f i) (let other : (i == k) ≡ false = grind (arith, nat_tests) in other)

some_access : (a b : WordAccess) → Some a ≡ Some b → a ≡ b
some_access a b e = cc

-- what is lawful, the entry may be told
told : (target : Target) (setting : Setting) (a : WordAccess) (word : ℕ) → IsLawful target setting (word_of a) word → MayBeTold target setting (Some a) word
told target setting (Loads w) word h = h
told target setting (Stores w x) word h = tt
told target setting (Exchanges w expected replacement) word h = h
told target setting (Raises w x) word h = h

-- ---- calls

with_one_more : (c : ℕ) (events : List CoreEvent) (event : CoreEvent) (calls : List Running)
    → with_events c (events ++ event ∷ []) calls ≡ with_event c event (with_events c events calls)
with_one_more c [] event calls = refl
with_one_more c (e ∷ events) event calls = with_one_more c events event (with_event c e calls)

abbrev call_in_run : Running → Call
call_in_run running = running.call

call_bumped : (calls : List Running) → map call_in_run (bumped calls) ≡ map call_in_run calls
call_bumped [] = refl
call_bumped (x ∷ []) = refl
call_bumped (x ∷ y ∷ calls) = ap (λ (l : List Call). x.call ∷ l) (call_bumped (y ∷ calls))

-- a step takes no call
steps_call : (c d : ℕ) (events : List CoreEvent) → calls_taken c (events ++ Steps d ∷ []) ≡ calls_taken c events ++ []
steps_call c d events = ap (map call_in_run) (with_one_more c events (Steps d) []) ∙ (of (d == c) ∙ sym (append-nil (calls_taken c events))) where
  of : (b : Bool) → map call_in_run (if b then bumped (calls_in c events) else calls_in c events) ≡ calls_taken c events
  of true = call_bumped (calls_in c events)
  of false = refl

-- a call is taken by its caller
takes_call : (c d : ℕ) (k : Call) (events : List CoreEvent) → calls_taken c (events ++ Takes d k ∷ []) ≡ calls_taken c events ++ call_in c (Calls d k)
takes_call c d k events = ap (map call_in_run) (with_one_more c events (Takes d k) []) ∙ of (d == c) where
  of : (b : Bool) → map call_in_run (if b then calls_in c events ++ record { call = k; steps = 0 } ∷ [] else calls_in c events)
      ≡ calls_taken c events ++ (if b then k ∷ [] else [])
  of true = map-append call_in_run (calls_in c events) (record { call = k; steps = 0 } ∷ [])
  of false = sym (append-nil (calls_taken c events))

made_both : (c : ℕ) (first rest : List CEvent) → calls_made c (first ++ rest) ≡ calls_made c first ++ calls_made c rest
made_both c [] rest = refl
made_both c (e ∷ first) rest = ap (λ (l : List Call). call_in c e ++ l) (made_both c first rest) ∙ sym (append_assoc (call_in c e) (calls_made c first) (calls_made c rest))

-- ---- replies

-- those of the caller are the source's, since those of its entry are
replies_follow : (resting idle : Bool) (own entry source : List SourceReply) → (resting ≡ true → idle ≡ true) → AgreesWith (resting || not idle) own entry
    → AgreesWith idle entry source → AgreesWith resting own source
replies_follow true true own entry source must left right = right ∙ left
replies_follow true false own entry source must left right = absurd (let z : false ≡ true = must refl in let f : ⊥ = cc in f)
replies_follow false true own entry source must left right = subst (λ (l : List SourceReply). (l ≡ own) ⊎ ((reply : SourceReply) × (l ≡ own ++ reply ∷ []))) (sym right) left
replies_follow false false own entry source must left right = subst (λ (l : List SourceReply). (source ≡ l) ⊎ ((reply : SourceReply) × (source ≡ l ++ reply ∷ []))) left right

module _ {C : Type 0} (target : Target) (setting : Setting) (code : Functions C) (R : Entry → C → Type 0) (match : Matches target setting code R) (known : Known target setting) where
  -- a reachable state of the core beside one of C
  pub record Beside (s : CState C) (state : CoreState) : Type 0 where
    pub memory : s.memory ≡ (view setting state).memory
    pub who : (c : ℕ) → c < setting.sizes.callers → R ((view setting state).who c) (s.who c)

  -- a run of the core up to a state beside this one
  pub record Came (s : CState C) : Type 0 where
    pub events : List CoreEvent
    pub state : CoreState
    pub runs : core_run target setting events (core_start target setting) ≡ Some state
    pub beside : Beside s state

  -- the run of the core goes on to a state beside this one, and its callers take these calls
  pub record Onward (events : List CoreEvent) (extra : ℕ → List Call) (later : CState C) : Type 0 where
    pub more : List CoreEvent
    pub state : CoreState
    pub runs : core_run target setting (events ++ more) (core_start target setting) ≡ Some state
    pub beside : Beside later state
    pub calls : (c : ℕ) → calls_taken c (events ++ more) ≡ calls_taken c events ++ extra c

  abbrev came_on : (events : List CoreEvent) (extra : ℕ → List Call) (later : CState C) → Onward events extra later → Came later
  came_on events extra later on = record { events = events ++ on.more; state = on.state; runs = on.runs; beside = on.beside }

  reachable : (s : CState C) (came : Came s) → Reachable target setting came.state
  reachable s came = record { events = came.events; runs = came.runs }

  -- no event of the core
  stays : (s later : CState C) (came : Came s) → Beside later came.state → Onward came.events (λ c. []) later
  stays s later came beside = record {
    more = [];
    state = came.state;
    runs = subst (λ (l : List CoreEvent). core_run target setting l (core_start target setting) ≡ Some came.state) (sym (append-nil came.events)) came.runs;
    beside = beside;
    calls = λ c. ap (λ (l : List CoreEvent). calls_taken c l) (append-nil came.events) ∙ sym (append-nil (calls_taken c came.events));
  }

  -- one step of the core
  steps_on : (s later : CState C) (came : Came s) (d : ℕ) (next : CoreState) → core_event target setting came.state (Steps d) ≡ Some next → Beside later next
      → Onward came.events (λ c. []) later
  steps_on s later came d next goes beside = record {
    more = Steps d ∷ [];
    state = next;
    runs = run_more target setting came.events (Steps d) (core_start target setting) came.state next came.runs goes;
    beside = beside;
    calls = λ c. steps_call c d came.events;
  }

  there_is : (es : List Entry) (c : ℕ) (d : Entry) → c < length es → slice_get es c ≡ Some (unwrap_or (slice_get es c) d)
  there_is [] c d lt = absurd (omega (arith, lt))
  there_is (e ∷ es) zero d lt = refl
  there_is (e ∷ es) (suc c) d lt = there_is es c d (omega (arith, lt))

  belongs : (state : CoreState) → Reachable target setting state → (c : ℕ) → c < setting.sizes.callers → Belongs target setting ((view setting state).who c)
  belongs state r c lt = let sound = known.sound state r in let count = sound.callers in (sound.belong c ((view setting state).who c) (there_is state.entries c (idle_entry c) (omega (arith, lt, count)))).0

  -- one caller changes
  one : (s : CState C) (who : ℕ → Entry) (c : ℕ) (x : C) (e : Entry) → ((d : ℕ) → d < setting.sizes.callers → R (who d) (s.who d)) → R e x → (d : ℕ) → d < setting.sizes.callers → R (put who c e d) (put s.who c x d)
  one s who c x e each this d lt = ⊎_elim
      (λ (is : d ≡ c). subst (λ (y : C). R (put who c e d) y) (sym (put_here s.who c x d is)) (subst (λ (f : Entry). R f x) (sym (put_here who c e d is)) this))
      (λ (ne : d ≢ c). subst (λ (y : C). R (put who c e d) y) (sym (put_other s.who c x d ne)) (subst (λ (f : Entry). R f (s.who d)) (sym (put_other who c e d ne)) (each d lt))) (cases_eq d c)

  -- the same entry, another caller of C
  kept : (s : CState C) (who : ℕ → Entry) (c : ℕ) (x : C) → ((d : ℕ) → d < setting.sizes.callers → R (who d) (s.who d)) → R (who c) x → (d : ℕ) → d < setting.sizes.callers → R (who d) (put s.who c x d)
  kept s who c x each this d lt = ⊎_elim
      (λ (is : d ≡ c). subst (λ (y : C). R (who d) y) (sym (put_here s.who c x d is)) (subst (λ (k : ℕ). R (who k) x) (sym is) this))
      (λ (ne : d ≢ c). subst (λ (y : C). R (who d) y) (sym (put_other s.who c x d ne)) (each d lt)) (cases_eq d c)

  -- a store of what stands there changes nothing
  store_same : (m : Word → ℕ) (w : Word) → store m w (m w) ≡ m
  store_same m w = fun_ext (λ v. of v (same_word v w) refl) where
    of : (v : Word) (b : Bool) → same_word v w ≡ b → (if b then m w else m v) ≡ m v
    of v true is = ap m (sym (same_is v w is))
    of v false is = refl

  some_state : (a b : CState C) → Some a ≡ Some b → a ≡ b
  some_state a b e = cc

  -- the step of the core that a wanted access makes
  stepped : (state later : CoreState) (c : ℕ) (b : WordAccess) → Moves target setting (view setting state) (Steps c) (view setting later) → wants target ((view setting state).who c) ≡ Some b
      → ((view setting later).memory ≡ store (view setting state).memory (word_of b) (word_after b ((view setting state).memory (word_of b))))
      × ((view setting later).who ≡ put (view setting state).who c (after target setting ((view setting state).who c) ((view setting state).memory (word_of b))))
  stepped state later c b m want = subst (λ (x : WordAccess).
      ((view setting later).memory ≡ store (view setting state).memory (word_of x) (word_after x ((view setting state).memory (word_of x))))
      × ((view setting later).who ≡ put (view setting state).who c (after target setting ((view setting state).who c) ((view setting state).memory (word_of x)))))
      (some_access m.0 b (sym m.2 ∙ want)) (m.4, m.5)

  -- an access of a caller of C, on the core's memory
  makes_access : (who : ℕ → C) (events : List CoreEvent) (state : CoreState) → core_run target setting events (core_start target setting) ≡ Some state
      → ((d : ℕ) → d < setting.sizes.callers → R ((view setting state).who d) (who d)) → (c : ℕ) (a : WordAccess) (next : ℕ → C) → c < setting.sizes.callers
      → Asks target setting R ((view setting state).who c) a next
      → Onward events (λ d. []) (accessed (record { memory = (view setting state).memory; who = who }) c a next)
  makes_access who events state runs each c a next lt asks = of (asks.each found may) where
    here : CState C
    here = record { memory = (view setting state).memory; who = who }

    found : ℕ
    found = seen setting.sizes state.words (word_of a)

    came : Came here
    came = record { events = events; state = state; runs = runs; beside = record { memory = refl; who = each } }

    r : Reachable target setting state
    r = record { events = events; runs = runs }

    shaped : IsShaped target setting state
    shaped = known.shaped state r

    entry : slice_get state.entries c ≡ Some ((view setting state).who c)
    entry = let count = shaped.callers in there_is state.entries c (idle_entry c) (omega (arith, lt, count))

    row : in_row setting.sizes (word_of a) ≡ true
    row = ap (in_row setting.sizes) asks.same ∙ shaped.wanted c ((view setting state).who c) asks.wanted entry asks.wants

    lawful : IsLawful target setting (word_of a) found
    lawful = subst (λ (x : ℕ). IsLawful target setting (word_of a) x)
        (sym (ap (λ (b : Bool). if b then slice_index state.words (address_of setting.sizes (word_of a)) else 0) row)) ((known.sound state r).lawful (word_of a) row)

    may : MayBeTold target setting (Some asks.wanted) found
    may = told target setting asks.wanted found (subst (λ (w : Word). IsLawful target setting w found) asks.same lawful)

    of : Makes target setting R ((view setting state).who c) a asks.wanted found (next found) ⊎ Waits R ((view setting state).who c) a found (next found)
        → Onward events (λ d. []) (accessed here c a next)
    of (inl makes) =
        let step = known.sees.steps state c asks.wanted shaped lt asks.wants in
        let turn = stepped state step.0 c asks.wanted (known.sees.moves state step.0 (Steps c) shaped step.1) asks.wants in
        steps_on here (accessed here c a next) came c step.0 step.1 (record {
          memory = ap (λ (x : ℕ). store (seen setting.sizes state.words) (word_of a) x) makes.leaves
              ∙ (ap (λ (w : Word). store (seen setting.sizes state.words) w (word_after asks.wanted (seen setting.sizes state.words w))) asks.same ∙ sym turn.0);
          who = λ d low. subst (λ (f : ℕ → Entry). R (f d) (put who c (next found) d)) (sym turn.1)
              (one here (view setting state).who c (next found) (after target setting ((view setting state).who c) (seen setting.sizes state.words (word_of asks.wanted))) each
              (subst (λ (w : Word). R (after target setting ((view setting state).who c) (seen setting.sizes state.words w)) (next found)) asks.same makes.related) d low);
        })
    of (inr waits) = stays here (accessed here c a next) came (record {
      memory = ap (λ (x : ℕ). store (seen setting.sizes state.words) (word_of a) x) waits.leaves ∙ store_same (seen setting.sizes state.words) (word_of a);
      who = kept here (view setting state).who c (next found) each waits.related;
    })

  access : (s : CState C) (came : Came s) (c : ℕ) (a : WordAccess) (next : ℕ → C) → c < setting.sizes.callers → code.move (s.who c) ≡ Wants a next
      → Onward came.events (λ d. []) (accessed s c a next)
  access s came c a next lt is =
      subst (λ (m : Word → ℕ). Onward came.events (λ d. []) (accessed (record { memory = m; who = s.who }) c a next)) (sym came.beside.memory)
      (makes_access s.who came.events came.state came.runs came.beside.who c a next lt
      (match.accesses ((view setting came.state).who c) (s.who c) a next (came.beside.who c lt) (belongs came.state (reachable s came) c lt) is))

  resting : (x : C) → rests (code.move x) ≡ true → code.move x ≡ Rests
  resting x is = of (code.move x) refl is where
    of : (m : Move C) → code.move x ≡ m → rests m ≡ true → code.move x ≡ Rests
    of Rests e yeah = e
    of (Goes y) e yeah = absurd (let z : false ≡ true = yeah in let f : ⊥ = cc in f)
    of (Wants a next) e yeah = absurd (let z : false ≡ true = yeah in let f : ⊥ = cc in f)
    of Strays e yeah = absurd (let z : false ≡ true = yeah in let f : ⊥ = cc in f)

  call : (s : CState C) (came : Came s) (c : ℕ) (k : Call) → c < setting.sizes.callers → code.move (s.who c) ≡ Rests → is_call target k ≡ true
      → Onward came.events (λ d. call_in d (Calls c k)) (with_caller s c (code.call k (s.who c)))
  call s came c k lt rest is =
      let r = reachable s came in
      let state = came.state in
      let shaped = known.shaped state r in
      let own = belongs state r c lt in
      let related = came.beside.who c lt in
      let idle = match.rests ((view setting state).who c) (s.who c) related own rest in
      let step = known.sees.takes state c k shaped lt idle is in
      let m = known.sees.moves state step.0 (Takes c k) shaped step.1 in
      let taken_is : put (view setting state).who c (taken Optimistic k ((view setting state).who c)) ≡ (view setting step.0).who =
      ap (λ by. put (view setting state).who c (taken by k ((view setting state).who c))) (sym known.by) ∙ sym m.4 in
      record {
        more = Takes c k ∷ [];
        state = step.0;
        runs = run_more target setting came.events (Takes c k) (core_start target setting) state step.0 came.runs step.1;
        beside = record {
          memory = came.beside.memory ∙ sym m.3;
          who = λ d low. subst (λ (f : ℕ → Entry). R (f d) (put s.who c (code.call k (s.who c)) d)) taken_is
              (one s (view setting state).who c (code.call k (s.who c)) (taken Optimistic k ((view setting state).who c)) came.beside.who
              (match.calls ((view setting state).who c) (s.who c) k related own rest is) d low);
        };
        calls = λ d. takes_call d c k came.events;
      }

  goes_local : (s : CState C) (came : Came s) (c : ℕ) (y : C) → c < setting.sizes.callers → code.move (s.who c) ≡ Goes y
      → Onward came.events (λ d. []) (with_caller s c y)
  goes_local s came c y lt is = stays s (with_caller s c y) came (record {
    memory = came.beside.memory;
    who = kept s (view setting came.state).who c y came.beside.who
        (match.goes ((view setting came.state).who c) (s.who c) y (came.beside.who c lt) (belongs came.state (reachable s came) c lt) is);
  })

  runs_on : (s later : CState C) (came : Came s) (c : ℕ) (m : Move C) → c < setting.sizes.callers → code.move (s.who c) ≡ m → moved s c m ≡ Some later
      → Onward came.events (λ d. []) later
  runs_on s later came c (Goes y) lt is goes = subst (Onward came.events (λ d. [])) (some_state (with_caller s c y) later goes) (goes_local s came c y lt is)
  runs_on s later came c (Wants a next) lt is goes = subst (Onward came.events (λ d. [])) (some_state (accessed s c a next) later goes) (access s came c a next lt is)
  runs_on s later came c Rests lt is goes = absurd (let z : None ≡ Some later = goes in let f : ⊥ = cc in f)
  runs_on s later came c Strays lt is goes = absurd (let z : None ≡ Some later = goes in let f : ⊥ = cc in f)

  event : (s later : CState C) (e : CEvent) (came : Came s) → c_event target setting code s e ≡ Some later → Onward came.events (λ d. call_in d e) later
  event s later (Calls c k) came goes = of (nat_lt c setting.sizes.callers && (rests (code.move (s.who c)) && is_call target k)) refl goes where
    of : (b : Bool) → (nat_lt c setting.sizes.callers && (rests (code.move (s.who c)) && is_call target k)) ≡ b
        → (if b then Some (with_caller s c (code.call k (s.who c))) else None) ≡ Some later → Onward came.events (λ d. call_in d (Calls c k)) later
    of true is yeah =
        let both = and_parts (nat_lt c setting.sizes.callers) (rests (code.move (s.who c)) && is_call target k) is in
        let more = and_parts (rests (code.move (s.who c))) (is_call target k) both.1 in
        subst (Onward came.events (λ d. call_in d (Calls c k))) (some_state (with_caller s c (code.call k (s.who c))) later yeah)
        (call s came c k (ltb-true c setting.sizes.callers both.0) (resting (s.who c) more.0) more.1)
    of false is yeah = absurd (let z : None ≡ Some later = yeah in let f : ⊥ = cc in f)
  event s later (Runs c) came goes = of (nat_lt c setting.sizes.callers) refl goes where
    of : (b : Bool) → nat_lt c setting.sizes.callers ≡ b → (if b then moved s c (code.move (s.who c)) else None) ≡ Some later → Onward came.events (λ d. []) later
    of true is yeah = runs_on s later came c (code.move (s.who c)) (ltb-true c setting.sizes.callers is) refl yeah
    of false is yeah = absurd (let z : None ≡ Some later = yeah in let f : ⊥ = cc in f)

  -- on, and further on
  both_on : (events : List CoreEvent) (extra further : ℕ → List Call) (mid later : CState C) (on : Onward events extra mid) → Onward (events ++ on.more) further later
      → Onward events (λ d. extra d ++ further d) later
  both_on events extra further mid later on next = record {
    more = on.more ++ next.more;
    state = next.state;
    runs = subst (λ (l : List CoreEvent). core_run target setting l (core_start target setting) ≡ Some next.state) (append_assoc events on.more next.more) next.runs;
    beside = next.beside;
    calls = λ d. ap (λ (l : List CoreEvent). calls_taken d l) (sym (append_assoc events on.more next.more))
        ∙ (next.calls d ∙ (ap (λ (l : List Call). l ++ further d) (on.calls d) ∙ append_assoc (calls_taken d events) (extra d) (further d)));
  }

  run : (events : List CEvent) (s later : CState C) (came : Came s) → c_run target setting code events s ≡ Some later
      → Onward came.events (λ d. calls_made d events) later
  run [] s later came goes = subst (Onward came.events (λ d. [])) (some_state s later goes) (stays s s came came.beside)
  run (e ∷ events) s later came goes = of (λ next c r. run events next later c r) (c_event target setting code s e) refl goes where
    of : ((next : CState C) (c : Came next) → c_run target setting code events next ≡ Some later → Onward c.events (λ d. calls_made d events) later)
        → (o : Option (CState C)) → c_event target setting code s e ≡ o → on_state o (c_run target setting code events) ≡ Some later
        → Onward came.events (λ d. calls_made d (e ∷ events)) later
    of further None is yeah = absurd (let z : None ≡ Some later = yeah in let f : ⊥ = cc in f)
    of further (Some next) is yeah =
        let on = event s next e came is in
        both_on came.events (λ d. call_in d e) (λ d. calls_made d events) next later on
        (further next (came_on came.events (λ d. call_in d e) next on) yeah)

  started : Came (c_start target setting code)
  started = record {
    events = [];
    state = core_start target setting;
    runs = refl;
    beside = record { memory = refl; who = λ c lt. subst (λ (e : Entry). R e (code.start c)) (sym (known.starts.who c)) (match.starts c lt) };
  }

  module _ (text : Text) (refined : IsProperFor setting.sizes.callers text → OfRuns target setting (Refined target text setting))
      (spared : IsProperFor setting.sizes.callers text → OfRuns target setting (Spared target setting))
      (warned : IsProperFor setting.sizes.callers text → OfRuns target setting (StaleLoadsAreWarned target text setting)) where
    -- what is so of each run of the core is so of the one beside a run of C
    follows : (made : List CEvent) (s : CState C) → Onward [] (λ d. calls_made d made) s → FollowsText target text setting code made s
    follows made s on = record {
      events = on.more;
      state = on.state;
      runs = on.runs;
      memory = on.beside.memory;
      calls = on.calls;
      replies = λ c lt. agree c lt;
      defined = λ c lt is. match.strays (entry c) (s.who c) (on.beside.who c lt) (own c lt) is;
      within = λ c a next lt is.
          let asks = match.accesses (entry c) (s.who c) a next (on.beside.who c lt) (own c lt) is in
          ap (in_row setting.sizes) asks.same ∙ shaped.wanted c (entry c) asks.wanted (there c lt) asks.wants;
      refined = λ proper before later mid is goes. refined proper before mid goes;
      followed = λ proper c lt. replies_follow (rests (code.move (s.who c))) (is_idle (entry c).routine) (code.replies (s.who c)) (replies_of (entry c))
          (source_replies (shadow target text setting on.more).machine c)
          (λ is. match.rests (entry c) (s.who c) (on.beside.who c lt) (own c lt) (resting (s.who c) is))
          (agree c lt) ((refined proper on.more on.state on.runs).agrees c (entry c) (there c lt));
      guarded = λ proper before later mid is goes. spared proper before mid goes;
      warned = λ proper before later mid is goes. warned proper before mid goes;
    } where
      r : Reachable target setting on.state
      r = record { events = on.more; runs = on.runs }

      shaped : IsShaped target setting on.state
      shaped = known.shaped on.state r

      entry : ℕ → Entry
      entry = (view setting on.state).who

      own : (c : ℕ) → c < setting.sizes.callers → Belongs target setting (entry c)
      own c lt = belongs on.state r c lt

      there : (c : ℕ) → c < setting.sizes.callers → slice_get on.state.entries c ≡ Some (entry c)
      there c lt = let count = shaped.callers in there_is on.state.entries c (idle_entry c) (omega (arith, lt, count))

      agree : (c : ℕ) → c < setting.sizes.callers → RepliesAgree code (entry c) (s.who c)
      agree c lt = match.replies (entry c) (s.who c) (on.beside.who c lt) (own c lt)

    pub promised : (first rest : List CEvent) (mid last : CState C) → c_run target setting code first (c_start target setting code) ≡ Some mid
        → c_run target setting code rest mid ≡ Some last → FollowsOn target text setting code first rest mid last
    unfolding started follows run both_on
    promised first rest mid last runs further =
        let on = run first (c_start target setting code) mid started runs in
        let next = run rest mid last (came_on [] (λ d. calls_made d first) mid on) further in
        let all = both_on [] (λ d. calls_made d first) (λ d. calls_made d rest) mid last on next in
        record {
          before = follows first mid on;
          whole = follows (first ++ rest) last (record { more = all.more; state = all.state; runs = all.runs; beside = all.beside; calls = λ d. all.calls d ∙ sym (made_both d first rest) });
          more = next.more;
          goes_on = refl {a = on.more ++ next.more};
        }
