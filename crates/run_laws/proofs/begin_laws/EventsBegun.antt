-- What events make of the calls that entries have begun, by what is known of each entry.
use Rattle.std.proofs.Common.{◌≡◌, ◌≢◌, ◌==◌, ◌&&◌, ℕ, ◌+◌, eq-eqb, ne_eqb, Bool, true, false, List, [], ◌∷◌, ◌++◌, set, Option, Some, None, refl, sym, ap, ◌∙◌, subst, if◌then◌else◌}
use Rattle.std.proofs.lemmas.List.{append-nil, append_assoc}
use Rattle.std.specs.Prelude.{slice_get, slice_set}
use mathlib.Core.Logic.{dite}
use native.Mathlib.Decide.{ℕ_discrete}
use Rattle.norm_lang.specs.declared.text.Text.{Text}
use Rattle.target_code.specs.declared.target.Target.{Target}
use Rattle.phase_pools.specs.Accesses.{WordAccess}
use Rattle.source_machine.specs.declared.event.SourceEvent.{SourceEvent}
use Rattle.source_machine.specs.declared.event.SourceEvent.TheVariants as events
use Rattle.source_machine.specs.Run.{is_enabled}
use Rattle.caller_parts.specs.declared.call.Call.{Call}
use Rattle.caller_parts.specs.Calls.{is_call}
use Rattle.caller_parts.specs.Settings.{Setting}
use Rattle.caller_steps.specs.Entries.{Entry, idle_entry, is_idle}
use Rattle.caller_steps.specs.Wants.{wants}
use Rattle.caller_steps.specs.Signs.{Sign, Begins, Accesses, Draws, Renews, GivesUp}
use Rattle.caller_steps.specs.After.{after, taken, signs}
use Rattle.core_runs.specs.Machine.{CoreState, CoreEvent, Takes, Steps, core_event, event_by, stepped, found_by, made, core_run, core_start, run_on, idle_from}
use Rattle.core_runs.specs.RunSigns.{Signed, signed, wanted_signs, entry_signs, event_signs, signs_on, run_signs}
use Rattle.core_runs.proofs.Reaching.{some_is}
use Rattle.core_runs.proofs.Keeping.{idle_wants, got_same, got_other, run_count, idle_within, idle_there}
use Rattle.oa_simulation.specs.sim_relation.Points.{event_of}
use Rattle.oa_simulation.specs.Shadow.{Shadow, is_told, events_if, shadow_step, shadow_run, shadow_start, image}
use Rattle.run_laws.specs.begin_laws.Begins.{begun_by, begun_in}
use Rattle.run_laws.proofs.begin_laws.SignsBegun.{begins, begun}

-- what is known of each entry, and which calls it has begun: steps and calls that are taken keep the first, a step begins what its signs do, and
-- nothing has begun at the start
pub record BeginsBy (target : Target) (setting : Setting) (Knows : Entry → Type 0) (started : Entry → List Call) : Type 0 where
  pub steps_known : (e : Entry) (word : ℕ) → is_idle e.routine ≡ false → Knows e → Knows (after target setting e word)
  pub steps_started : (e : Entry) (word : ℕ) → is_idle e.routine ≡ false → Knows e → started (after target setting e word) ≡ started e ++ begun (signs target setting e word)
  pub takes_known : (e : Entry) (call : Call) → is_idle e.routine ≡ true → Knows (taken setting.reclamation call e)
  pub takes_started : (e : Entry) (call : Call) → is_idle e.routine ≡ true → started (taken setting.reclamation call e) ≡ started e
  pub first_known : (c : ℕ) → Knows (idle_entry c)
  pub first_started : (c : ℕ) → started (idle_entry c) ≡ []

-- ---- signs, and the source's events that are made of them

-- the calls that signs of several callers begin for one
abbrev begun_for : ℕ → List Signed → List Call
begun_for c [] = []
begun_for c (x ∷ xs) = (if x.caller == c then begins x.sign else []) ++ begun_for c xs

own_signs : (c : ℕ) (l : List Sign) → (c == c) ≡ true → begun_for c (signed c l) ≡ begun l
own_signs c [] same = refl
own_signs c (sign ∷ l) same = rw same (ap (λ (m : List Call). begins sign ++ m) (own_signs c l same))

other_signs : (k c : ℕ) (l : List Sign) → (k == c) ≡ false → begun_for c (signed k l) ≡ []
other_signs k c [] other = refl
other_signs k c (sign ∷ l) other = rw other (other_signs k c l other)

begun_for_more : (c : ℕ) (xs ys : List Signed) → begun_for c (xs ++ ys) ≡ begun_for c xs ++ begun_for c ys
begun_for_more c [] ys = refl
begun_for_more c (x ∷ xs) ys = ap (λ (l : List Call). (if x.caller == c then begins x.sign else []) ++ l) (begun_for_more c xs ys)
    ∙ sym (append_assoc (if x.caller == c then begins x.sign else []) (begun_for c xs) (begun_for c ys))

begun_in_more : (c : ℕ) (xs ys : List SourceEvent) → begun_in c (xs ++ ys) ≡ begun_in c xs ++ begun_in c ys
begun_in_more c [] ys = refl
begun_in_more c (x ∷ xs) ys = ap (λ (l : List Call). begun_by c x ++ l) (begun_in_more c xs ys) ∙ sym (append_assoc (begun_by c x) (begun_in c xs) (begun_in c ys))

no_more : (b : Bool) → (if b then [] else []) ≡ (let none : List Call = [] in none)
no_more true = refl
no_more false = refl

-- an event that begins nothing may be left out
left_out : (c : ℕ) (told : Bool) (before : List SourceEvent) (event : SourceEvent) → begun_by c event ≡ [] → begun_in c (events_if told before event) ≡ begun_in c before
left_out c false before event none = refl
left_out c true before event none = begun_in_more c before (event ∷ []) ∙ (ap (λ (l : List Call). begun_in c before ++ (l ++ [])) none ∙ append-nil (begun_in c before))

sign_begins : (c k unused : ℕ) (sign : Sign) (before : List SourceEvent) (enabled : Bool)
    → begun_in c (events_if (is_told sign enabled) before (event_of k unused sign)) ≡ begun_in c before ++ (if k == c then begins sign else [])
sign_begins c k unused (Begins call) before enabled =
    begun_in_more c before (events.Begin k call.op call.args ∷ []) ∙ ap (λ (l : List Call). begun_in c before ++ l) (append-nil (if k == c then call ∷ [] else []))
sign_begins c k unused Accesses before enabled = left_out c true before (events.Access k 0) refl ∙ sym (ap (λ (l : List Call). begun_in c before ++ l) (no_more (k == c)) ∙ append-nil (begun_in c before))
sign_begins c k unused (Draws j) before enabled = left_out c true before (events.Access k unused) refl ∙ sym (ap (λ (l : List Call). begun_in c before ++ l) (no_more (k == c)) ∙ append-nil (begun_in c before))
sign_begins c k unused Renews before enabled = left_out c enabled before (events.Restart k) refl ∙ sym (ap (λ (l : List Call). begun_in c before ++ l) (no_more (k == c)) ∙ append-nil (begun_in c before))
sign_begins c k unused (GivesUp phase) before enabled = left_out c true before (events.GiveUp k phase) refl ∙ sym (ap (λ (l : List Call). begun_in c before ++ l) (no_more (k == c)) ∙ append-nil (begun_in c before))

shadow_begins : (text : Text) (c : ℕ) (xs : List Signed) (z : Shadow) → begun_in c (shadow_run text xs z).events ≡ begun_in c z.events ++ begun_for c xs
shadow_begins text c [] z = sym (append-nil (begun_in c z.events))
shadow_begins text c (x ∷ xs) z =
    shadow_begins text c xs (shadow_step text z x)
    ∙ (ap (λ (l : List Call). l ++ begun_for c xs) (sign_begins c x.caller z.unused x.sign z.events (is_enabled text z.machine (event_of x.caller z.unused x.sign)))
    ∙ append_assoc (begun_in c z.events) (if x.caller == c then begins x.sign else []) (begun_for c xs))

-- ---- all callers

-- an entry of the caller after an event: it has begun the calls of the event's signs beside those that it had
record Onwards (Knows : Entry → Type 0) (started : Entry → List Call) (mid : CoreState) (c : ℕ) (e : Entry) (l : List Signed) : Type 0 where
  entry : Entry
  there : slice_get mid.entries c ≡ Some entry
  known : Knows entry
  begun : started entry ≡ started e ++ begun_for c l

same_entry : (entries : List Entry) (c : ℕ) (d e : Entry) → slice_get entries c ≡ Some d → slice_get entries c ≡ Some e → d ≡ e
same_entry entries c d e at there = let z : Some d ≡ Some e = sym at ∙ there in cc

-- at the start a caller's entry is idle
first_entry : (n c : ℕ) (e : Entry) → slice_get (idle_from 0 n) c ≡ Some e → e ≡ idle_entry (0 + c)
first_entry n c e there = let z : Some e ≡ Some (idle_entry (0 + c)) = sym there ∙ idle_there 0 n c (idle_within 0 n c e there) in cc

module _ (target : Target) (setting : Setting) (Knows : Entry → Type 0) (started : Entry → List Call) (rules : BeginsBy target setting Knows started) where
  one_changes : (state : CoreState) (words : List ℕ) (k c : ℕ) (d new e : Entry) (l : List Sign) → slice_get state.entries k ≡ Some d → slice_get state.entries c ≡ Some e → Knows e
      → (Knows d → Knows new) → (Knows d → started new ≡ started d ++ begun l) → Onwards Knows started (record { words = words; entries = slice_set state.entries k new }) c e (signed k l)
  one_changes state words k c d new e l at there known kept begun_new = dite (ℕ_discrete k c)
      (λ (q : k ≡ c).
      let same : d ≡ e = same_entry state.entries c d e (subst (λ (j : ℕ). slice_get state.entries j ≡ Some d) q at) there in
      let held : Knows d = subst Knows (sym same) known in
      record {
        entry = new;
        there = subst (λ (j : ℕ). slice_get (set state.entries k new) j ≡ Some new) q (got_same state.entries k new d at);
        known = kept held;
        begun = begun_new held ∙ (ap (λ (x : Entry). started x ++ begun l) same
            ∙ ap (λ (m : List Call). started e ++ m) (sym (own_signs c l (eq-eqb c c refl)) ∙ ap (λ (j : ℕ). begun_for c (signed j l)) (sym q)));
      })
      (λ (n : k ≢ c). record {
        entry = e;
        there = got_other state.entries k c new (λ z. n (sym z)) ∙ there;
        known = known;
        begun = sym (ap (λ (m : List Call). started e ++ m) (other_signs k c l (ne_eqb k c n)) ∙ append-nil (started e));
      })

  event_begins : (state mid : CoreState) (event : CoreEvent) (c : ℕ) (e : Entry) → core_event target setting state event ≡ Some mid → slice_get state.entries c ≡ Some e
      → Knows e → Onwards Knows started mid c e (event_signs target setting state event)
  event_begins state mid (Takes k call) c e goes there known = of (slice_get state.entries k) refl goes where
    by : (d : Entry) → slice_get state.entries k ≡ Some d → (i : Bool) → is_idle d.routine ≡ i → (b : Bool)
        → (if i && b then Some (record state { entries = slice_set state.entries k (taken setting.reclamation call d) }) else None) ≡ Some mid → Onwards Knows started mid c e []
    by d at true idle true became = subst (λ (m : CoreState). Onwards Knows started m c e []) (some_is _ mid became)
        (one_changes state state.words k c d (taken setting.reclamation call d) e [] at there known (λ held. rules.takes_known d call idle) (λ held. rules.takes_started d call idle ∙ sym (append-nil (started d))))
    by d at _ idle _ became = absurd (let z : None ≡ Some mid = became in cc)

    of : (o : Option Entry) → slice_get state.entries k ≡ o → event_by target setting state (Takes k call) o ≡ Some mid → Onwards Knows started mid c e []
    of None at became = absurd (let z : None ≡ Some mid = became in cc)
    of (Some d) at became = by d at (is_idle d.routine) refl (is_call target call) became
  event_begins state mid (Steps k) c e goes there known = of (slice_get state.entries k) refl goes where
    by : (d : Entry) → slice_get state.entries k ≡ Some d → (o : Option WordAccess) → wants target d ≡ o → (i : Bool) → is_idle d.routine ≡ i
        → stepped target setting state k d o ≡ Some mid → Onwards Knows started mid c e (signed k (wanted_signs target setting state d o))
    by d at None want i idle became = absurd (let z : None ≡ Some mid = became in cc)
    by d at (Some a) want true idle became = absurd (idle_wants target d a idle want)
    by d at (Some a) want false busy became =
        subst (λ (m : CoreState). Onwards Knows started m c e (signed k (signs target setting d (found_by setting state a)))) (some_is _ mid became)
        (one_changes state (made setting state a) k c d (after target setting d (found_by setting state a)) e (signs target setting d (found_by setting state a)) at there known
        (λ held. rules.steps_known d (found_by setting state a) busy held) (λ held. rules.steps_started d (found_by setting state a) busy held))

    of : (o : Option Entry) → slice_get state.entries k ≡ o → event_by target setting state (Steps k) o ≡ Some mid → Onwards Knows started mid c e (signed k (entry_signs target setting state o))
    of None at became = absurd (let z : None ≡ Some mid = became in cc)
    of (Some d) at became = by d at (wants target d) refl (is_idle d.routine) refl became

  runs_begin : (events : List CoreEvent) (state later : CoreState) (c : ℕ) (e : Entry) → core_run target setting events state ≡ Some later → slice_get state.entries c ≡ Some e
      → Knows e → Onwards Knows started later c e (run_signs target setting events state)
  runs_begin [] state later c e runs there known = record {
    entry = e;
    there = subst (λ (s : CoreState). slice_get s.entries c ≡ Some e) (some_is state later runs) there;
    known = known;
    begun = sym (append-nil (started e));
  }
  runs_begin (event ∷ events) state later c e runs there known =
      of (λ mid d r at held. runs_begin events mid later c d r at held) (core_event target setting state event) refl runs where
        of : ((mid : CoreState) (d : Entry) → core_run target setting events mid ≡ Some later → slice_get mid.entries c ≡ Some d → Knows d → Onwards Knows started later c d (run_signs target setting events mid))
            → (o : Option CoreState) → core_event target setting state event ≡ o → run_on o (core_run target setting events) ≡ Some later
            → Onwards Knows started later c e (event_signs target setting state event ++ signs_on o (run_signs target setting events))
        of further None goes r = absurd (let z : None ≡ Some later = r in cc)
        of further (Some mid) goes r =
            let one = event_begins state mid event c e goes there known in
            let more = further mid one.entry r one.there one.known in
            record {
              entry = more.entry;
              there = more.there;
              known = more.known;
              begun = more.begun ∙ (ap (λ (l : List Call). l ++ begun_for c (run_signs target setting events mid)) one.begun
                  ∙ (append_assoc (started e) (begun_for c (event_signs target setting state event)) (begun_for c (run_signs target setting events mid))
                  ∙ ap (λ (l : List Call). started e ++ l) (sym (begun_for_more c (event_signs target setting state event) (run_signs target setting events mid)))));
            }

  -- from the start, when nothing has begun
  begun_in_image : (text : Text) (c : ℕ) (xs : List Signed) (first last e : Entry) → started first ≡ [] → started last ≡ started first ++ begun_for c xs → last ≡ e → begun_in c (shadow_run text xs (shadow_start text setting)).events ≡ started e
  begun_in_image text c xs first last e none more same = shadow_begins text c xs (shadow_start text setting) ∙ (sym (more ∙ ap (λ (l : List Call). l ++ begun_for c xs) none) ∙ ap started same)

  -- what is known of an entry that a run leads to, and what its caller has begun in the run's image
  pub calls_of : (text : Text) (events : List CoreEvent) (state : CoreState) (c : ℕ) (e : Entry) → core_run target setting events (core_start target setting) ≡ Some state → slice_get state.entries c ≡ Some e
      → (begun_in c (image target text setting events) ≡ started e) × Knows e
  calls_of text events state c e runs there =
      let first = run_count target setting events (core_start target setting) state c e runs there in
      let idle : first.0 ≡ idle_entry (0 + c) = first_entry setting.sizes.callers c first.0 first.1 in
      let last = runs_begin events (core_start target setting) state c first.0 runs first.1 (subst Knows (sym idle) (rules.first_known (0 + c))) in
      let same : last.entry ≡ e = same_entry state.entries c last.entry e last.there there in
      (begun_in_image text c (run_signs target setting events (core_start target setting)) first.0 last.entry e (ap started idle ∙ rules.first_started (0 + c)) last.begun same, subst Knows same last.known)
