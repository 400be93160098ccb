-- What is closed stands for all that is reached.
use Rattle.std.proofs.Common.{ℕ, zero, suc, ◌≡◌, ◌≢◌, ◌∙◌, Bool, true, false, cond, List, [], ◌∷◌, length, ◌<◌, drop, replicate, Option, Some, None, sym, ap, refl, subst, arith}
use Rattle.std.proofs.lemmas.List.{length-replicate}
use Rattle.std.specs.Prelude.{slice_get, slice_index}
use Rattle.norm_lang.specs.declared.text.Op.{Op}
use Rattle.norm_lang.specs.declared.text.Text.{Text}
use Rattle.source_machine.specs.declared.event.SourceEvent.{SourceEvent}
use Rattle.source_machine.specs.declared.event.SourceEvent.TheVariants as events
use Rattle.source_machine.specs.declared.state.SourceMachine.{SourceMachine}
use Rattle.source_machine.specs.Run.{is_enabled, source_step, source_run}
use Rattle.source_machine.specs.MethodRuns.{Watched, watched_start, watched_step, watched_run, method_runs}
use Rattle.source_machine.specs.Proper.{IsProperState}
use Rattle.source_machine.proofs.Along.{watched_machine}
use Rattle.documents.specs.declared.document.ScriptCall.{ScriptCall}
use Rattle.event_judge.specs.Calls.{begins_other, begun_with, script_of}
use Rattle.event_judge.specs.JudgingLaws.{calls_begun, are_first_calls, BeginInOrder}
use Rattle.event_judge.proofs.Walks.{left, event_keeps, other_fails, still_many}
use Rattle.state_images.specs.Images.{Naming, IsImage, with_name_of}
use Rattle.state_images.specs.Closed.{Told, told_start, told_step, IsAmong, IsClosed, ClosedIsProper}
use Rattle.state_images.proofs.Standing.{good_states_stand_for}
use Rattle.state_images.proofs.Simulating.{images_simulate}
use Rattle.state_images.proofs.Joining.{images_join}

other_same : (ops : List Op) (scripts : List (List ScriptCall)) (begun : List ℕ) (event : SourceEvent) (name : ℕ)
    → begins_other ops scripts begun (with_name_of event name) ≡ begins_other ops scripts begun event
other_same ops scripts begun (events.Begin c number args) name = refl
other_same ops scripts begun (events.Access c zero) name = refl
other_same ops scripts begun (events.Access c (suc k)) name = refl
other_same ops scripts begun (events.Restart c) name = refl
other_same ops scripts begun (events.GiveUp c phase) name = refl

counted_same : (begun : List ℕ) (event : SourceEvent) (name : ℕ) → begun_with begun (with_name_of event name) ≡ begun_with begun event
counted_same begun (events.Begin c number args) name = refl
counted_same begun (events.Access c zero) name = refl
counted_same begun (events.Access c (suc k)) name = refl
counted_same begun (events.Restart c) name = refl
counted_same begun (events.GiveUp c phase) name = refl

pub place_below : {A : Type 0} (xs : List A) (i : ℕ) (x : A) → slice_get xs i ≡ Some x → i < length xs
place_below [] i x e = absurd (let z : None ≡ Some x = e in cc)
place_below (y ∷ ys) zero x e = omega arith
place_below (y ∷ ys) (suc i) x e = let k = place_below ys i x e in omega (arith, k)

-- each caller begins the next calls of its script, of those that aren't begun
abbrev GoOnInOrder : List Op → List (List ScriptCall) → List ℕ → List SourceEvent → Type 0
GoOnInOrder ops scripts begun events = (c : ℕ) → are_first_calls ops (calls_begun c events) (left scripts begun c) ≡ true

begins_next : (ops : List Op) (scripts : List (List ScriptCall)) (begun : List ℕ) → length begun ≡ length scripts → (event : SourceEvent) (events : List SourceEvent)
    → GoOnInOrder ops scripts begun (event ∷ events) → begins_other ops scripts begun event ≡ false
begins_next ops scripts begun many event events order = of (begins_other ops scripts begun event) refl where
  of : (b : Bool) → begins_other ops scripts begun event ≡ b → begins_other ops scripts begun event ≡ false
  of false e = e
  of true e = let no = other_fails ops scripts begun many event events e in absurd (let z : true ≡ false = sym (order no.0) ∙ no.1 in cc)

module _ (text : Text) (scripts : List (List ScriptCall)) (found : List Told) (k : IsClosed text scripts found) where
  step_among : (told : Told) (event : SourceEvent) → IsAmong found told → is_enabled text told.watched.machine event ≡ true
      → begins_other text.ops scripts told.begun event ≡ false → IsAmong found (told_step text told event)
  step_among told event a enabled next =
      let gone = k.goes_on a.place a.one (place_below found a.place a.one a.stands) a.stands in
      let s = images_simulate a.naming text told.watched a.one.watched event gone.name a.image enabled gone.some gone.unused in
      let there = gone.leads event s.0 (other_same text.ops scripts a.one.begun event gone.name ∙ (ap (λ b. begins_other text.ops scripts b event) a.begun ∙ next)) in
      let j = images_join s.1.0 there.naming (watched_step text told.watched event) (watched_step text a.one.watched (with_name_of event gone.name)) there.one.watched s.1.1 there.image in
      record {
        place = there.place;
        one = there.one;
        stands = there.stands;
        naming = j.0;
        image = j.1;
        begun = there.begun ∙ (counted_same a.one.begun event gone.name ∙ ap (λ b. begun_with b event) a.begun);
      }

  parts : (b : Bool) (a : Option SourceMachine) (state : SourceMachine) → cond b a None ≡ Some state → (b ≡ true) × (a ≡ Some state)
  parts true a state e = (refl, e)
  parts false a state e = absurd (let z : None ≡ Some state = e in cc)

  good : (told : Told) → IsAmong found told → IsProperState told.watched.machine told.watched.runs
  good told a = good_states_stand_for a.naming told.watched a.one.watched a.image (k.proper a.place a.one a.stands)

  along : (es : List SourceEvent) (told : Told) (state : SourceMachine) → length told.begun ≡ length scripts → IsAmong found told
      → source_run text es told.watched.machine ≡ Some state → GoOnInOrder text.ops scripts told.begun es
      → IsProperState (watched_run text es told.watched).machine (watched_run text es told.watched).runs
  along [] told state many a run order = good told a
  along (event ∷ es) told state many a run order =
      let r = parts (is_enabled text told.watched.machine event) (source_run text es (source_step text told.watched.machine event)) state run in
      let next = begins_next text.ops scripts told.begun many event es order in
      along es (told_step text told event) state (still_many told.begun event ∙ many) (step_among told event a r.0 next) r.1
      (λ c. sym (event_keeps text.ops scripts told.begun many event es c next) ∙ order c)

pub none_begun : (n c : ℕ) → slice_index (replicate n 0) c ≡ 0
none_begun zero c = refl
none_begun (suc n) zero = refl
none_begun (suc n) (suc c) = none_begun n c

-- of none begun all calls are left
left_first : (ops : List Op) (scripts : List (List ScriptCall)) (n : ℕ) (es : List SourceEvent) → BeginInOrder ops scripts es → GoOnInOrder ops scripts (replicate n 0) es
left_first ops scripts n es order c = ap (λ k. are_first_calls ops (calls_begun c es) (drop k (script_of scripts c))) (none_begun n c) ∙ order c

pub closed_is_proper : ClosedIsProper
closed_is_proper text scripts found k es state run order =
    subst (λ s. IsProperState s (method_runs text (length scripts) es)) (watched_machine text (length scripts) es state run)
    (along text scripts found k es (told_start text scripts) state (length-replicate (length scripts) 0) k.starts run.runs
    (left_first text.ops scripts (length scripts) es order))
