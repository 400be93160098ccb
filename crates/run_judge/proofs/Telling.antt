-- The certificate of a document can be told: its events and replies are such as lines say.
use Rattle.std.proofs.Common.{◌≡◌, ◌≤◌, ◌<◌, ◌==◌, ◌&&◌, ◌++◌, ◌∙◌, ℕ, zero, suc, ◌+◌, Bool, true, false, List, [], ◌∷◌, length, take, Option, Some, None, refl, sym, ap, subst, arith, if◌then◌else◌}
use Rattle.std.specs.Prelude.{slice_get, option_map, nat_lt, nat_le, All}
use Rattle.std.specs.List.{list_all}
use Rattle.std.proofs.lemmas.Bool.{and_parts, and_from}
use Rattle.std.proofs.lemmas.Bool.Decides.{nat_tests}
use Rattle.std.proofs.lemmas.List.Folds.{list_all-append}
use Rattle.std.proofs.lemmas.Option.{slice_get-map, slice_get_within}
use Rattle.norm_lang.specs.declared.text.Op.{Op}
use Rattle.norm_lang.specs.declared.text.Text.{Text}
use Rattle.target_code.specs.declared.target.Target.{Target}
use Rattle.target_code.specs.declared.target.TargetOp.{TargetOp}
use Rattle.target_code.specs.Erasing.{erased, erased_op}
use Rattle.source_machine.specs.declared.event.SourceEvent.{SourceEvent}
use Rattle.source_machine.specs.declared.event.SourceEvent.TheVariants as events
use Rattle.source_machine.specs.Run.{mover, is_enabled, is_call as is_source_call, is_call_of as is_source_call_of}
use Rattle.caller_parts.specs.declared.call.Call.{Call}
use Rattle.caller_parts.specs.Calls.{is_call, is_call_of, AreCalls}
use Rattle.caller_parts.specs.declared.setting.Reclamation.TheVariants.{Optimistic}
use Rattle.caller_parts.specs.Settings.{Setting}
use Rattle.caller_steps.specs.Entries.{Entry, is_idle}
use Rattle.caller_steps.specs.Signs.{Sign, Begins}
use Rattle.core_runs.specs.Machine.{CoreState, CoreEvent, Takes, Steps, core_event, core_run, run_on, core_start}
use Rattle.core_runs.specs.RunSigns.{Signed, signed, entry_signs, event_signs, signs_on, run_signs}
use Rattle.core_runs.specs.Scripts.{IsCompleteRun, script_of}
use Rattle.core_runs.proofs.Keeping.{run_count}
use Rattle.core_runs.specs.core_sound.Sound.{IsSound}
use Rattle.oa_simulation.specs.sim_relation.Points.{event_of}
use Rattle.oa_simulation.specs.Shadow.{Shadow, is_told, events_if, shadow_step, shadow_run, shadow_start, image}
use Rattle.run_laws.specs.begin_laws.Begins.{begun_by, begun_in, BeginsScript}
use Rattle.run_laws.proofs.begin_laws.ScriptsBegun.{scripts_begin}
use Rattle.replay_steps.proofs.Rooms.{script_calls, call_is}
use Rattle.run_logs.specs.Logged.{is_sized}
use Rattle.certificates.specs.CertificateLaws.{is_event}

-- ---- the callers of events

abbrev is_below : ℕ → SourceEvent → Bool
is_below n event = nat_lt (mover event) n

abbrev is_signed_below : ℕ → Signed → Bool
is_signed_below n x = nat_lt x.caller n

event_mover : (c unused : ℕ) (sign : Sign) → mover (event_of c unused sign) ≡ c
event_mover c unused (Begins call) = refl
event_mover c unused _ = refl

added_below : (n : ℕ) (told : Bool) (before : List SourceEvent) (event : SourceEvent) → list_all (is_below n) before ≡ true → is_below n event ≡ true → list_all (is_below n) (events_if told before event) ≡ true
added_below n false before event all one = all
added_below n true before event all one = list_all-append (is_below n) before (event ∷ []) ∙ and_from (list_all (is_below n) before) (is_below n event && true) all (and_from (is_below n event) true one refl)

shadow_below : (text : Text) (n : ℕ) (xs : List Signed) (z : Shadow) → list_all (is_signed_below n) xs ≡ true → list_all (is_below n) z.events ≡ true → list_all (is_below n) (shadow_run text xs z).events ≡ true
shadow_below text n [] z all so_far = so_far
shadow_below text n (x ∷ xs) z all so_far =
    let parts = and_parts (is_signed_below n x) (list_all (is_signed_below n) xs) all in
    let event = event_of x.caller z.unused x.sign in
    shadow_below text n xs (shadow_step text z x) parts.1
    (added_below n (is_told x.sign (is_enabled text z.machine event)) z.events event so_far (ap (λ (c : ℕ). nat_lt c n) (event_mover x.caller z.unused x.sign) ∙ parts.0))

signs_of_one : (n c : ℕ) (signs : List Sign) → nat_lt c n ≡ true → list_all (is_signed_below n) (signed c signs) ≡ true
signs_of_one n c [] lt = refl
signs_of_one n c (sign ∷ signs) lt = and_from (nat_lt c n) (list_all (is_signed_below n) (signed c signs)) lt (signs_of_one n c signs lt)

-- each caller that has an entry is below
record AreBelow (n : ℕ) (state : CoreState) : Type 0 where
  each : (c : ℕ) (e : Entry) → slice_get state.entries c ≡ Some e → nat_lt c n ≡ true

signs_below : (target : Target) (setting : Setting) (n : ℕ) (events : List CoreEvent) (state later : CoreState) → AreBelow n state → core_run target setting events state ≡ Some later
    → list_all (is_signed_below n) (run_signs target setting events state) ≡ true
signs_below target setting n [] state later below runs = refl
signs_below target setting n (event ∷ events) state later below runs =
    of (λ next goes r. signs_below target setting n events next later (next_below next goes) r) (core_event target setting state event) refl runs
  where
    here : (event : CoreEvent) → list_all (is_signed_below n) (event_signs target setting state event) ≡ true
    here (Takes c call) = refl
    here (Steps c) = by (slice_get state.entries c) refl where
      by : (o : Option Entry) → slice_get state.entries c ≡ o → list_all (is_signed_below n) (signed c (entry_signs target setting state o)) ≡ true
      by None at = refl
      by (Some e) at = signs_of_one n c (entry_signs target setting state (Some e)) (below.each c e at)

    next_below : (next : CoreState) → core_event target setting state event ≡ Some next → AreBelow n next
    next_below next goes = record {
      each = λ c e at.
          let before = run_count target setting (event ∷ []) state next c e (ap (λ (o : Option CoreState). run_on o (core_run target setting [])) goes) at in
          below.each c before.0 before.1;
    }

    of : ((next : CoreState) → core_event target setting state event ≡ Some next → core_run target setting events next ≡ Some later → list_all (is_signed_below n) (run_signs target setting events next) ≡ true)
        → (o : Option CoreState) → core_event target setting state event ≡ o → run_on o (core_run target setting events) ≡ Some later
        → list_all (is_signed_below n) (event_signs target setting state event ++ signs_on o (run_signs target setting events)) ≡ true
    of more None goes runs = absurd (let none : None ≡ Some later = runs in cc)
    of more (Some next) goes runs =
        list_all-append (is_signed_below n) (event_signs target setting state event) (run_signs target setting events next)
        ∙ and_from (list_all (is_signed_below n) (event_signs target setting state event)) (list_all (is_signed_below n) (run_signs target setting events next)) (here event) (more next goes runs)

none_begun : (c n : ℕ) (l : List SourceEvent) → list_all (is_below n) l ≡ true → n ≤ c → begun_in c l ≡ []
none_begun c n [] all le = refl
none_begun c n (event ∷ l) all le =
    let parts = and_parts (is_below n event) (list_all (is_below n) l) all in
    ap (λ (calls : List Call). calls ++ begun_in c l) (one event parts.0) ∙ none_begun c n l parts.1 le
  where
    apart : (d : ℕ) → nat_lt d n ≡ true → n ≤ c → (d == c) ≡ false
    apart d lt le = grind (arith, nat_tests)

    one : (event : SourceEvent) → is_below n event ≡ true → begun_by c event ≡ []
    one (events.Begin d op args) lt = ap (λ (b : Bool). if b then record { op = op; args = args } ∷ [] else []) (apart d lt le)
    one _ lt = refl

-- ---- the calls that events begin

abbrev pub begins_call : Target → SourceEvent → Bool
begins_call target (events.Begin c op args) = is_call target (record { op = op; args = args })
begins_call target _ = true

-- of each caller they are calls of the target
record BeginCalls (target : Target) (l : List SourceEvent) : Type 0 where
  each : (c i : ℕ) (call : Call) → slice_get (begun_in c l) i ≡ Some call → is_call target call ≡ true

begin_calls_after : (target : Target) (event : SourceEvent) (l : List SourceEvent) → BeginCalls target (event ∷ l) → BeginCalls target l
begin_calls_after target (events.Begin d op args) l all = record { each = λ c i call there. of c i call there (d == c) (λ j at. all.each c j call at) } where
  of : (c i : ℕ) (call : Call) → slice_get (begun_in c l) i ≡ Some call → (b : Bool)
      → ((j : ℕ) → slice_get ((if b then record { op = op; args = args } ∷ [] else []) ++ begun_in c l) j ≡ Some call → is_call target call ≡ true) → is_call target call ≡ true
  of c i call there true whole = whole (suc i) there
  of c i call there false whole = whole i there
begin_calls_after target _ l all = record { each = λ c i call there. all.each c i call there }

own_number : (d : ℕ) → (d == d) ≡ true
own_number d = grind (arith, nat_tests)

begins_all : (target : Target) (l : List SourceEvent) → BeginCalls target l → list_all (begins_call target) l ≡ true
begins_all target [] all = refl
begins_all target (event ∷ l) all =
    and_from (begins_call target event) (list_all (begins_call target) l) (one event all) (begins_all target l (begin_calls_after target event l all))
  where
    one : (event : SourceEvent) → BeginCalls target (event ∷ l) → begins_call target event ≡ true
    one (events.Begin d op args) all =
        all.each d 0 (record { op = op; args = args })
        (ap (λ (b : Bool). slice_get ((if b then record { op = op; args = args } ∷ [] else []) ++ begun_in d l) 0) (own_number d))
    one _ all = refl

taken_first : (n : ℕ) (script : List Call) (i : ℕ) (call : Call) → slice_get (take n script) i ≡ Some call → slice_get script i ≡ Some call
taken_first zero script i call there = absurd (let none : None ≡ Some call = there in cc)
taken_first (suc n) (x ∷ script) (suc i) call there = taken_first n script i call there
taken_first (suc n) _ _ call there = there

-- ---- the image of a complete run

module _ (target : Target) (text : Text) (setting : Setting) (scripts : List (List Call)) (fuel : ℕ) (run : List CoreEvent) (state : CoreState) (optimistic : setting.reclamation ≡ Optimistic) (some : 1 ≤ fuel) (calls : All (AreCalls target) scripts)
    (complete : IsCompleteRun target setting scripts fuel run state) (starts : IsSound target setting (core_start target setting)) (sound : IsSound target setting state) where
  start_below : AreBelow setting.sizes.callers (core_start target setting)
  start_below = record {
    each = λ c e at.
        let within = slice_get_within (core_start target setting).entries c e at in
        let count = starts.callers in
        lt_true c setting.sizes.callers (omega (arith, within, count));
  } where
    lt_true : (c n : ℕ) → c < n → nat_lt c n ≡ true
    lt_true c n lt = grind (arith, nat_tests)

  image_below : list_all (is_below setting.sizes.callers) (image target text setting run) ≡ true
  image_below =
      shadow_below text setting.sizes.callers (run_signs target setting run (core_start target setting)) (shadow_start text setting)
      (signs_below target setting setting.sizes.callers run (core_start target setting) state start_below complete.run.runs) refl

  image_calls : BeginCalls target (image target text setting run)
  image_calls = record { each = λ c i call there. of c i call there (slice_get state.entries c) refl } where
    by : (c i : ℕ) (call : Call) (e : Entry) (idle : Bool) → slice_get (begun_in c (image target text setting run)) i ≡ Some call
        → BeginsScript idle (script_of scripts c) e (begun_in c (image target text setting run)) → is_call target call ≡ true
    by c i call e true there begins =
        call_is target (script_of scripts c) i call (script_calls target scripts c calls) (ap (λ (l : List Call). slice_get l i) (sym begins) ∙ there)
    by c i call e false there begins =
        call_is target (script_of scripts c) i call (script_calls target scripts c calls)
        (taken_first (length e.replies + 1) (script_of scripts c) i call (ap (λ (l : List Call). slice_get l i) (sym begins) ∙ there))

    none_past : (c : ℕ) → slice_get state.entries c ≡ None → setting.sizes.callers ≤ c
    none_past c none = let count = sound.callers in let past = past_end state.entries c none in omega (arith, count, past) where
      past_end : (l : List Entry) (k : ℕ) → slice_get l k ≡ None → length l ≤ k
      past_end [] k is = omega arith
      past_end (x ∷ xs) zero is = absurd (let none : Some x ≡ None = is in cc)
      past_end (x ∷ xs) (suc k) is = let le = past_end xs k is in omega (arith, le)

    of : (c i : ℕ) (call : Call) → slice_get (begun_in c (image target text setting run)) i ≡ Some call → (o : Option Entry) → slice_get state.entries c ≡ o → is_call target call ≡ true
    of c i call there None at =
        absurd (let none : None ≡ Some call =
        ap (λ (l : List Call). slice_get l i) (sym (none_begun c setting.sizes.callers (image target text setting run) image_below (none_past c at))) ∙ there in cc)
    of c i call there (Some e) at = by c i call e (is_idle e.routine) there ((scripts_begin target setting).each optimistic text scripts fuel run state some complete c e at)

  pub image_begins : list_all (begins_call target) (image target text setting run) ≡ true
  image_begins = begins_all target (image target text setting run) image_calls

-- ---- as lines say it

source_call : (target : Target) (text : Text) (op : ℕ) (args : List ℕ) → erased target ≡ text → is_call target (record { op = op; args = args }) ≡ is_source_call text op args
source_call target text op args erases =
    of (slice_get target.ops op)
    ∙ ap (λ (o : Option Op). is_source_call_of o args) (sym (slice_get-map erased_op target.ops op) ∙ ap (λ (t : Text). slice_get t.ops op) erases)
  where
    of : (o : Option TargetOp) → is_call_of o args ≡ is_source_call_of (option_map erased_op o) args
    of None = refl
    of (Some x) = refl

event_so : (target : Target) (text : Text) (event : SourceEvent) → erased target ≡ text → is_sized event ≡ true → begins_call target event ≡ true → is_event text event ≡ true
event_so target text (events.Begin c op args) erases sized call = and_from (nat_le c 4294967295) (is_source_call text op args) sized (sym (source_call target text op args erases) ∙ call)
event_so target text _ erases sized call = sized

pub events_so : (target : Target) (text : Text) (l : List SourceEvent) → erased target ≡ text → list_all is_sized l ≡ true → list_all (begins_call target) l ≡ true → list_all (is_event text) l ≡ true
events_so target text [] erases sized calls = refl
events_so target text (event ∷ l) erases sized calls =
    let one = and_parts (is_sized event) (list_all is_sized l) sized in
    let begun = and_parts (begins_call target event) (list_all (begins_call target) l) calls in
    and_from (is_event text event) (list_all (is_event text) l) (event_so target text event erases one.0 begun.0) (events_so target text l erases one.1 begun.1)
