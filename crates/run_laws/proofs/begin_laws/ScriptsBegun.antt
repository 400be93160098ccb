-- What a complete run of scripts begins.
use Rattle.std.proofs.Common.{◌≡◌, ◌≤◌, ◌==◌, ℕ, ◌+◌, Bool, true, false, List, [], ◌∷◌, ◌++◌, length, map, take, Some, refl, sym, ap, ◌∙◌, subst, arith, if◌then◌else◌}
use Rattle.std.proofs.lemmas.Bool.Decides.{nat_tests}
use Rattle.std.proofs.lemmas.List.{append-nil, length-map, map-append, take_all}
use Rattle.std.specs.Prelude.{slice_get}
use Rattle.norm_lang.specs.declared.text.Text.{Text}
use Rattle.target_code.specs.declared.target.Target.{Target}
use Rattle.caller_parts.specs.declared.call.Call.{Call}
use Rattle.caller_parts.specs.declared.call.Replied.{Replied}
use Rattle.caller_parts.specs.declared.call.Running.{Running}
use Rattle.caller_parts.specs.Pairing.{run_of}
use Rattle.caller_parts.specs.Settings.{Setting}
use Rattle.caller_steps.specs.Entries.{Entry, is_idle}
use Rattle.core_runs.specs.Machine.{CoreState, CoreEvent, core_start, OfAll}
use Rattle.core_runs.specs.Histories.{running_of, calls_in}
use Rattle.core_runs.specs.Scripts.{IsCompleteRun, script_of, AreOfScript, last_steps, HasEnded}
use Rattle.core_runs.proofs.Keeping.{kept_calls, run_count, idle_within}
use Rattle.oa_simulation.specs.Shadow.{image}
use Rattle.run_laws.specs.begin_laws.Begins.{begun_in, call_replied, started_of, started, BeginsScript, ScriptsBegin}
use Rattle.run_laws.proofs.begin_laws.RunsBegun.{calls_of_run}
use Rattle.caller_parts.specs.declared.setting.Reclamation.TheVariants.{Optimistic}

abbrev call_run : Running → Call
call_run running = running.call

-- calls of a script are its first ones, and so are the first of them
of_script : (fuel : ℕ) (script : List Call) (xs ys : List Running) → AreOfScript fuel script (xs ++ ys) → map call_run xs ≡ take (length xs) script
of_script fuel script [] ys are = refl
of_script fuel [] (run ∷ xs) ys are = absurd are
of_script fuel (call ∷ script) (run ∷ xs) ys are = ap (λ (c : Call). c ∷ map call_run xs) are.0 ∙ ap (λ (l : List Call). call ∷ l) (of_script fuel script xs ys are.2)

calls_same : (xs : List Replied) → map call_run (map run_of xs) ≡ map call_replied xs
calls_same [] = refl
calls_same (x ∷ xs) = ap (λ (l : List Call). x.call ∷ l) (calls_same xs)

same_count : (xs : List Replied) → length (map run_of xs) ≡ length xs
same_count xs = length-map xs run_of

last_is : (xs : List Running) (r : Running) → last_steps (xs ++ r ∷ []) ≡ r.steps
last_is (x ∷ y ∷ xs) r = last_is (y ∷ xs) r
last_is _ r = refl

count_of : (xs : List Replied) (r : Running) → length (map run_of xs ++ r ∷ []) ≡ length xs + 1
count_of [] r = refl
count_of (x ∷ xs) r = let more = count_of xs r in omega (arith, more)

-- the calls of one caller's entry when a run of scripts has ended
module _ (target : Target) (setting : Setting) (scripts : List (List Call)) (fuel : ℕ) (events : List CoreEvent) (state : CoreState) (complete : IsCompleteRun target setting scripts fuel events state)
    (c : ℕ) (e : Entry) (there : slice_get state.entries c ≡ Some e) where
  kept_by : (b : Bool) → is_idle e.routine ≡ b → map run_of e.replies ++ running_of b e ≡ calls_in c events
  kept_by b is = ap (λ (i : Bool). map run_of e.replies ++ running_of i e) (sym is) ∙ kept_calls target setting events state c e complete.run.runs there

  ended_by : (b : Bool) → is_idle e.routine ≡ b → HasEnded fuel (script_of scripts c) (calls_in c events) b
  ended_by b is = subst (HasEnded fuel (script_of scripts c) (calls_in c events)) is (complete.ended c e there)

  of_caller : AreOfScript fuel (script_of scripts c) (calls_in c events)
  of_caller =
      let first = run_count target setting events (core_start target setting) state c e complete.run.runs there in
      complete.run.of c (idle_within 0 setting.sizes.callers c first.0 first.1)

  firsts : map call_run (calls_in c events) ≡ take (length (calls_in c events)) (script_of scripts c)
  firsts = of_script fuel (script_of scripts c) (calls_in c events) [] (subst (AreOfScript fuel (script_of scripts c)) (sym (append-nil (calls_in c events))) of_caller)

  -- those that got a reply are the script's first ones
  pub replied_first : map call_replied e.replies ≡ take (length e.replies) (script_of scripts c)
  replied_first = of (is_idle e.routine) refl where
    of : (b : Bool) → is_idle e.routine ≡ b → map call_replied e.replies ≡ take (length e.replies) (script_of scripts c)
    of b is = sym (calls_same e.replies)
        ∙ (of_script fuel (script_of scripts c) (map run_of e.replies) (running_of b e) (subst (AreOfScript fuel (script_of scripts c)) (sym (kept_by b is)) of_caller)
        ∙ ap (λ (n : ℕ). take n (script_of scripts c)) (same_count e.replies))

  -- an idle caller has made all of them, a spent call is the next one, and its steps are the fuel
  pub idle_script : is_idle e.routine ≡ true → map call_replied e.replies ≡ script_of scripts c
  idle_script idle =
      let count : length (calls_in c events) ≡ length (script_of scripts c) = ended_by true idle in
      sym (calls_same e.replies) ∙ (ap (map call_run) (sym (append-nil (map run_of e.replies)) ∙ kept_by true idle) ∙ (firsts ∙ take_all (length (calls_in c events)) (script_of scripts c) (omega (arith, count))))

  pub spent_script : is_idle e.routine ≡ false → map call_replied e.replies ++ e.running.call ∷ [] ≡ take (length e.replies + 1) (script_of scripts c)
  spent_script busy =
      let kept_all = kept_by false busy in
      ap (λ (l : List Call). l ++ e.running.call ∷ []) (sym (calls_same e.replies)) ∙ (sym (map-append call_run (map run_of e.replies) (e.running ∷ []))
      ∙ (ap (map call_run) kept_all ∙ (firsts ∙ ap (λ (n : ℕ). take n (script_of scripts c)) (sym (ap length kept_all) ∙ count_of e.replies e.running))))

  pub spent_steps : is_idle e.routine ≡ false → e.running.steps ≡ fuel
  spent_steps busy = sym (last_is (map run_of e.replies) e.running) ∙ (ap last_steps (kept_by false busy) ∙ ended_by false busy)

-- under optimistic access
module _ (target : Target) (text : Text) (setting : Setting) (optimistic : setting.reclamation ≡ Optimistic) (scripts : List (List Call)) (fuel : ℕ) (events : List CoreEvent) (state : CoreState) (some : 1 ≤ fuel)
    (complete : IsCompleteRun target setting scripts fuel events state) (c : ℕ) (e : Entry) (there : slice_get state.entries c ≡ Some e) where
  begun : begun_in c (image target text setting events) ≡ started e
  begun = (calls_of_run target text setting optimistic events state c e complete.run.runs there).0

  started_by : (b : Bool) → is_idle e.routine ≡ b → started e ≡ map call_replied e.replies ++ started_of b e.running
  started_by b is = ap (λ (i : Bool). map call_replied e.replies ++ started_of i e.running) is

  script_begun : (b : Bool) → is_idle e.routine ≡ b → BeginsScript b (script_of scripts c) e (begun_in c (image target text setting events))
  script_begun true idle = begun ∙ (started_by true idle ∙ (append-nil (map call_replied e.replies) ∙ idle_script target setting scripts fuel events state complete c e there idle))
  script_begun false busy =
      let made = spent_steps target setting scripts fuel events state complete c e there busy in
      let not_none : (e.running.steps == 0) ≡ false = grind (arith, nat_tests) in
      begun ∙ (started_by false busy ∙ (ap (λ (b : Bool). map call_replied e.replies ++ (if b then [] else e.running.call ∷ [])) not_none ∙ spent_script target setting scripts fuel events state complete c e there busy))

pub scripts_begin : OfAll ScriptsBegin
scripts_begin target setting = record {
  each = λ optimistic text scripts fuel events state some complete c e there. script_begun target text setting optimistic scripts fuel events state some complete c e there (is_idle e.routine) refl;
}
