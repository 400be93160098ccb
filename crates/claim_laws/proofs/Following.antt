-- Along a run: each reply of a caller stands beside the steps of its call, and a call that runs beside those made so far.
use Rattle.std.proofs.Common.{◌≡◌, ◌≢◌, ◌==◌, ◌&&◌, ℕ, zero, suc, ◌+◌, eq-eqb, ne_eqb, Bool, true, false, List, [], ◌∷◌, ◌++◌, length, set, Option, Some, None, refl, sym, ap, ◌∙◌, subst, ⊎_elim, if◌then◌else◌}
use Rattle.std.proofs.lemmas.List.{append-nil}
use Rattle.std.specs.Prelude.{slice_get, slice_set, slice_index_or}
use mathlib.Core.Logic.{dite}
use native.Mathlib.Decide.{ℕ_discrete}
use Rattle.target_code.specs.declared.target.Target.{Target}
use Rattle.phase_pools.specs.Accesses.{WordAccess}
use Rattle.caller_parts.specs.declared.call.Call.{Call}
use Rattle.caller_parts.specs.declared.call.Replied.{Replied}
use Rattle.caller_parts.specs.Pairing.{replied_by}
use Rattle.caller_parts.specs.Settings.{Setting}
use Rattle.caller_steps.specs.Entries.{Entry, idle_entry, is_idle}
use Rattle.caller_parts.specs.Calls.{is_call}
use Rattle.caller_steps.specs.Wants.{wants}
use Rattle.caller_steps.specs.After.{after, taken, counted}
use Rattle.core_runs.specs.Machine.{CoreState, CoreEvent, Takes, Steps, core_event, core_run, run_on, core_start, event_by, stepped, found_by, made, idle_from}
use Rattle.core_runs.proofs.Reaching.{some_is}
use Rattle.core_runs.proofs.Keeping.{idle_wants, got_same, got_other, run_count, first_busy}
use Rattle.core_runs.specs.caller_laws.Laws.{ForRuns}
use Rattle.claim_laws.specs.CallSteps.{StepMade, steps_wanted, steps_by, with_steps, event_steps, steps_on, events_steps, call_steps}
use Rattle.claim_laws.specs.Causes.{IsCaused, FoundNeither, RepliesAreCaused}
use Rattle.claim_laws.proofs.Lasts.{never_nil}
use Rattle.claim_laws.proofs.Onward.{first_before}
use Rattle.claim_laws.proofs.Causing.{Unfinished, GoesOn, GetsReply, step_caused}

-- each reply is caused by the steps beside it
abbrev AreCaused : Setting → List Replied → List (List StepMade) → Type 0
AreCaused setting [] [] = Unit {0}
AreCaused setting [] (steps ∷ calls) = ⊥
AreCaused setting (reply ∷ rest) [] = ⊥
AreCaused setting (reply ∷ rest) (steps ∷ calls) = IsCaused setting reply.reply steps × AreCaused setting rest calls

one_more_caused : (setting : Setting) (given : List Replied) (calls : List (List StepMade)) (reply : Replied) (steps : List StepMade) → AreCaused setting given calls → IsCaused setting reply.reply steps
    → AreCaused setting (given ++ reply ∷ []) (calls ++ steps ∷ [])
one_more_caused setting [] [] reply steps are is = (is, tt)
one_more_caused setting (r ∷ given) (x ∷ calls) reply steps are is = (are.0, one_more_caused setting given calls reply steps are.1 is)
one_more_caused setting _ _ reply steps are is = absurd are

caused_at : (setting : Setting) (given : List Replied) (calls more : List (List StepMade)) (i : ℕ) (reply : Replied) → AreCaused setting given calls → slice_get given i ≡ Some reply
    → IsCaused setting reply.reply (slice_index_or (calls ++ more) i [])
caused_at setting [] calls more i reply are is = absurd (let z : None ≡ Some reply = is in cc)
caused_at setting (r ∷ given) [] more i reply are is = absurd are
caused_at setting (r ∷ given) (x ∷ calls) more zero reply are is = subst (λ (y : Replied). IsCaused setting y.reply x) (let same : r ≡ reply = cc in same) are.0
caused_at setting (r ∷ given) (x ∷ calls) more (suc i) reply are is = caused_at setting given calls more i reply are.1 is

last_at : (setting : Setting) (given : List Replied) (calls : List (List StepMade)) (steps : List StepMade) → AreCaused setting given calls → slice_index_or (calls ++ steps ∷ []) (length given) [] ≡ steps
last_at setting [] [] steps are = refl
last_at setting (r ∷ given) (x ∷ calls) steps are = last_at setting given calls steps are.1
last_at setting _ _ steps are = absurd are

-- the entry's calls with their steps; the last of one that runs hasn't got its reply
abbrev Follows : Setting → Entry → List (List StepMade) → Bool → Type 0
Follows setting e calls true = AreCaused setting e.replies calls
Follows setting e calls false =
    (before : List (List StepMade)) × (steps : List StepMade) × (calls ≡ before ++ steps ∷ []) × AreCaused setting e.replies before × Unfinished setting e steps

abbrev Following : Setting → CoreState → ℕ → List (List StepMade) → Type 0
Following setting state c calls = (e : Entry) × (slice_get state.entries c ≡ Some e) × Follows setting e calls (is_idle e.routine)

-- ---- a step

pub with_last : (before : List (List StepMade)) (steps more : List StepMade) → with_steps (before ++ steps ∷ []) more ≡ before ++ (steps ++ more) ∷ []
with_last (x ∷ y ∷ rest) steps more = ap (λ (l : List (List StepMade)). x ∷ l) (with_last (y ∷ rest) steps more)
with_last _ steps more = refl

module _ (target : Target) (setting : Setting) where
  step_follows : (e : Entry) (word : ℕ) (calls : List (List StepMade)) → is_idle e.routine ≡ false → Follows setting e calls false
      → (let later = after target setting e word in Follows setting later (with_steps calls (record { entry = e; found = word } ∷ [])) (is_idle later.routine))
  step_follows e word calls busy f = ⊎_elim
      (λ (t : GoesOn setting e all later). subst (Follows setting later more) (sym t.0)
      (f.0, all, more_is, subst (λ (l : List Replied). AreCaused setting l f.0) (sym t.1) f.3, t.2))
      (λ (t : GetsReply setting e all later). subst (Follows setting later more) (sym t.0)
      (subst (λ (l : List Replied). AreCaused setting l more) (sym t.2)
      (subst (AreCaused setting (e.replies ++ replied_by t.1 (counted e).running ∷ [])) (sym more_is)
      (one_more_caused setting e.replies f.0 (replied_by t.1 (counted e).running) all f.3 t.3))))
      (step_caused target setting e f.1 word f.4 busy) where
        s : StepMade
        s = record { entry = e; found = word }

        all : List StepMade
        all = f.1 ++ s ∷ []

        later : Entry
        later = after target setting e word

        more : List (List StepMade)
        more = with_steps calls (s ∷ [])

        more_is : more ≡ f.0 ++ all ∷ []
        more_is = ap (λ (l : List (List StepMade)). with_steps l (s ∷ [])) f.2 ∙ with_last f.0 f.1 (s ∷ [])

  -- ---- a call is taken

  nothing_found : FoundNeither setting []
  nothing_found = record { phases = λ p found. never_nil found.before found.step found.later found.among; full = λ failed. never_nil failed.0 failed.1 [] failed.2 }

  take_follows : (e : Entry) (call : Call) (calls : List (List StepMade)) → AreCaused setting e.replies calls → (let begun = taken setting.reclamation call e in Follows setting begun (calls ++ [] ∷ []) (is_idle begun.routine))
  take_follows e call calls are =
      subst (Follows setting (taken setting.reclamation call e) (calls ++ [] ∷ [])) (sym (first_busy setting.reclamation)) (calls, [], refl, are, record { before = first_before setting.reclamation; neither = nothing_found })

  -- ---- an event

  one_changes : (state mid : CoreState) (words : List ℕ) (k c : ℕ) (d new e : Entry) (calls more : List (List StepMade)) → record { words = words; entries = slice_set state.entries k new } ≡ mid
      → slice_get state.entries k ≡ Some d → slice_get state.entries c ≡ Some e → Follows setting e calls (is_idle e.routine)
      → (d ≡ e → Follows setting new more (is_idle new.routine)) → Following setting mid c (if k == c then more else calls)
  one_changes state mid words k c d new e calls more is at there follows goes = subst (λ (m : CoreState). Following setting m c (if k == c then more else calls)) is (dite (ℕ_discrete k c)
      (λ (q : k ≡ c).
      let same : d ≡ e = (let at' : slice_get state.entries c ≡ Some d = subst (λ (j : ℕ). slice_get state.entries j ≡ Some d) q at in cc) in (
        new,
        subst (λ (j : ℕ). slice_get (set state.entries k new) j ≡ Some new) q (got_same state.entries k new d at),
        subst (λ (l : List (List StepMade)). Follows setting new l (is_idle new.routine)) (sym (ap (λ (b : Bool). if b then more else calls) (eq-eqb k c q))) (goes same),
      ))
      (λ (n : k ≢ c). (
        e,
        got_other state.entries k c new (λ z. n (sym z)) ∙ there,
        subst (λ (l : List (List StepMade)). Follows setting e l (is_idle e.routine)) (sym (ap (λ (b : Bool). if b then more else calls) (ne_eqb k c n))) follows,
      )))

  event_follows : (state mid : CoreState) (event : CoreEvent) (c : ℕ) (e : Entry) (calls : List (List StepMade)) → core_event target setting state event ≡ Some mid → slice_get state.entries c ≡ Some e
      → Follows setting e calls (is_idle e.routine) → Following setting mid c (event_steps target setting c state event calls)
  event_follows state mid (Takes k call) c e calls goes there follows = of (slice_get state.entries k) refl goes where
    by : (d : Entry) → slice_get state.entries k ≡ Some d → (i : Bool) → is_idle d.routine ≡ i → (b : Bool) → is_call target call ≡ b
        → (if i && b then Some (record state { entries = slice_set state.entries k (taken setting.reclamation call d) }) else None) ≡ Some mid → Following setting mid c (event_steps target setting c state (Takes k call) calls)
    by d at true idle true is became = one_changes state mid state.words k c d (taken setting.reclamation call d) e calls (calls ++ [] ∷ []) (some_is _ mid became) at there follows
        (λ same. subst (λ (x : Entry). let begun = taken setting.reclamation call x in Follows setting begun (calls ++ [] ∷ []) (is_idle begun.routine)) (sym same) (take_follows e call calls (subst (Follows setting e calls) (sym (ap (λ (x : Entry). is_idle x.routine) same) ∙ idle) follows)))
    by d at _ idle _ is became = absurd (let z : None ≡ Some mid = became in cc)

    of : (o : Option Entry) → slice_get state.entries k ≡ o → event_by target setting state (Takes k call) o ≡ Some mid → Following setting mid c (event_steps target setting c state (Takes k call) calls)
    of None at became = absurd (let z : None ≡ Some mid = became in cc)
    of (Some d) at became = by d at (is_idle d.routine) refl (is_call target call) refl became
  event_follows state mid (Steps k) c e calls goes there follows = of (slice_get state.entries k) refl goes where
    by : (d : Entry) → slice_get state.entries k ≡ Some d → (o : Option WordAccess) → wants target d ≡ o → (i : Bool) → is_idle d.routine ≡ i
        → stepped target setting state k d o ≡ Some mid → Following setting mid c (event_steps target setting c state (Steps k) calls)
    by d at None want i idle became = absurd (let z : None ≡ Some mid = became in cc)
    by d at (Some a) want true idle became = absurd (idle_wants target d a idle want)
    by d at (Some a) want false idle became =
        one_changes state mid (made setting state a) k c d (after target setting d (found_by setting state a)) e calls (with_steps calls (steps_by target setting state (slice_get state.entries k))) (some_is _ mid became) at there follows
        (λ same. let steps_are : steps_by target setting state (slice_get state.entries k) ≡ record { entry = d; found = found_by setting state a } ∷ [] =
        ap (steps_by target setting state) at ∙ ap (steps_wanted setting state d) want in
        subst (λ (l : List StepMade). let later = after target setting d (found_by setting state a) in Follows setting later (with_steps calls l) (is_idle later.routine)) (sym steps_are)
        (step_follows d (found_by setting state a) calls idle
        (subst (λ (x : Entry). Follows setting x calls false) (sym same) (subst (Follows setting e calls) (sym (ap (λ (x : Entry). is_idle x.routine) same) ∙ idle) follows))))

    of : (o : Option Entry) → slice_get state.entries k ≡ o → event_by target setting state (Steps k) o ≡ Some mid → Following setting mid c (event_steps target setting c state (Steps k) calls)
    of None at became = absurd (let z : None ≡ Some mid = became in cc)
    of (Some d) at became = by d at (wants target d) refl (is_idle d.routine) refl became

  -- ---- a run

  follows_from : (events : List CoreEvent) (state later : CoreState) (c : ℕ) (e : Entry) (calls : List (List StepMade)) → core_run target setting events state ≡ Some later → slice_get state.entries c ≡ Some e
      → Follows setting e calls (is_idle e.routine) → Following setting later c (events_steps target setting c events state calls)
  follows_from [] state later c e calls runs there follows = (e, subst (λ (s : CoreState). slice_get s.entries c ≡ Some e) (some_is state later runs) there, follows)
  follows_from (event ∷ events) state later c e calls runs there follows =
      of (λ mid d more r at f. follows_from events mid later c d more r at f) (core_event target setting state event) refl runs where
        of : ((mid : CoreState) (d : Entry) (more : List (List StepMade)) → core_run target setting events mid ≡ Some later → slice_get mid.entries c ≡ Some d → Follows setting d more (is_idle d.routine)
            → Following setting later c (events_steps target setting c events mid more))
            → (o : Option CoreState) → core_event target setting state event ≡ o → run_on o (core_run target setting events) ≡ Some later
            → (let more = event_steps target setting c state event calls in Following setting later c (steps_on o more (λ (next : CoreState). events_steps target setting c events next more)))
        of further None goes r = absurd (let z : None ≡ Some later = r in cc)
        of further (Some mid) goes r = let k = event_follows state mid event c e calls goes there follows in further mid k.0 (event_steps target setting c state event calls) r k.1 k.2

  started : (i n c : ℕ) (e : Entry) → slice_get (idle_from i n) c ≡ Some e → Follows setting e [] (is_idle e.routine)
  started i zero c e is = absurd (cc)
  started i (suc n) zero e is = let same : idle_entry i ≡ e = cc in subst (λ (x : Entry). Follows setting x [] (is_idle x.routine)) same tt
  started i (suc n) (suc c) e is = started (i + 1) n c e is

  followed : (events : List CoreEvent) (state : CoreState) (c : ℕ) (e : Entry) → core_run target setting events (core_start target setting) ≡ Some state → slice_get state.entries c ≡ Some e
      → Follows setting e (call_steps target setting events c) (is_idle e.routine)
  followed events state c e runs there =
      let first = run_count target setting events (core_start target setting) state c e runs there in
      let last = follows_from events (core_start target setting) state c first.0 [] runs first.1 (started 0 setting.sizes.callers c first.0 first.1) in
      let same : last.0 ≡ e = (let at = last.1 in cc) in
      subst (λ (x : Entry). Follows setting x (call_steps target setting events c) (is_idle x.routine)) same last.2

  ended_caused : (calls : List (List StepMade)) (e : Entry) (i : ℕ) (replied : Replied) (b : Bool) → Follows setting e calls b → slice_get e.replies i ≡ Some replied
      → IsCaused setting replied.reply (slice_index_or calls i [])
  ended_caused calls e i replied true f is = subst (λ (l : List (List StepMade)). IsCaused setting replied.reply (slice_index_or l i [])) (append-nil calls) (caused_at setting e.replies calls [] i replied f is)
  ended_caused calls e i replied false f is =
      subst (λ (l : List (List StepMade)). IsCaused setting replied.reply (slice_index_or l i [])) (sym f.2) (caused_at setting e.replies f.0 (f.1 ∷ []) i replied f.3 is)

  running_found : (calls : List (List StepMade)) (e : Entry) → Follows setting e calls false → FoundNeither setting (slice_index_or calls (length e.replies) [])
  running_found calls e f =
      let same : slice_index_or calls (length e.replies) [] ≡ f.1 = ap (λ (l : List (List StepMade)). slice_index_or l (length e.replies) []) f.2 ∙ last_at setting e.replies f.0 f.1 f.3 in
      subst (FoundNeither setting) (sym same) f.4.neither

pub replies_caused : ForRuns RepliesAreCaused
replies_caused target text setting runs own fits = record {
  ended = λ events state c i e replied run there is. ended_caused target setting (call_steps target setting events c) e i replied (is_idle e.routine) (followed target setting events state c e run there) is;
  running = λ events state c e run there busy. running_found target setting (call_steps target setting events c) e (subst (Follows setting e (call_steps target setting events c)) busy (followed target setting events state c e run there));
}
