-- The lists of a method run, after an event.
use Rattle.std.proofs.Common.{ℕ, zero, suc, ◌≡◌, ◌≢◌, ◌==◌, ◌||◌, ◌∙◌, ◌++◌, Bool, true, false, List, [], ◌∷◌, length, set, Option, Some, None, sym, ap, refl, subst, ⊎_elim, arith}
use Rattle.std.specs.Prelude.{slice_get}
use Rattle.std.proofs.lemmas.Bool.{cases_eq}
use Rattle.std.proofs.lemmas.Bool.Decides.{nat_tests}
use Rattle.std.proofs.lemmas.List.{length-set}
use Rattle.norm_lang.specs.declared.text.Text.{Text}
use Rattle.source_machine.specs.declared.event.SourceEvent.{SourceEvent}
use Rattle.source_machine.specs.declared.state.Memory.{Memory}
use Rattle.source_machine.specs.declared.state.Stand.{Stand}
use Rattle.source_machine.specs.declared.state.Stand.TheVariants.{InGenerator, InList, InWrapUp}
use Rattle.source_machine.specs.declared.state.SourceCaller.{SourceCaller}
use Rattle.source_machine.specs.declared.state.SourceMachine.{SourceMachine}
use Rattle.source_machine.specs.Run.{mover, is_enabled, source_step}
use Rattle.source_machine.specs.MethodRuns.{MethodRun, run_begun, run_with, run_at, put, watched_step}
use Rattle.source_machine.specs.Proper.{has}
use Rattle.source_machine.proofs.Names.{has_push}
use Rattle.source_machine.proofs.Places.{put_same, put_other}
use Rattle.state_judge.specs.declared.runs.ListedRun.{ListedRun}
use Rattle.proper_judge.specs.declared.runs.Gain.{Gain}
use Rattle.proper_judge.specs.declared.runs.Gain.TheVariants.{GetsInside}
use Rattle.proper_judge.specs.Runs.{gain_at, stand_of, is_wrap_up, run_gained}
use Rattle.proper_judge.proofs.Gaining.{moved, has_caller}
use Rattle.state_judge.specs.Runs.{ListsRun, ListsOf, ListsRuns, NextOf, placed, Follows}

-- a run that gets a name
pub holds_same : (kept : ListedRun) (run : MethodRun) → ListsRun kept run → ListsRun kept (run_with 0 run)
holds_same kept run h = record { got = h.got; old = h.old }

pub holds_there : (kept : ListedRun) (run : MethodRun) (name : ℕ) → ListsRun kept run → has name kept.got ≡ true → ListsRun kept (run_with name run)
holds_there kept run zero h e = holds_same kept run h
holds_there kept run (suc m) h e = record { got = λ n. of n (suc m == n) refl; old = h.old } where
  of : (n : ℕ) (b : Bool) → (suc m == n) ≡ b → has n kept.got ≡ b || has n run.got
  of n true t = let same : suc m ≡ n = grind (arith, nat_tests, t) in subst (λ k. has k kept.got ≡ true) same e
  of n false t = h.got n

pub holds_more : (kept kept' : ListedRun) (run : MethodRun) (name : ℕ) → ListsRun kept run → (name ≡ 0 → ⊥) → kept'.got ≡ kept.got ++ name ∷ [] → kept'.old ≡ kept.old → ListsRun kept' (run_with name run)
holds_more kept kept' run zero h some g o = absurd (some refl)
holds_more kept kept' run (suc m) h some g o = record {
  got = λ n. ap (has n) g ∙ has_push n kept.got (suc m) ∙ ap (λ b. b || (suc m == n)) (h.got n) ∙ turned (has n run.got) (suc m == n);
  old = λ n. ap (has n) o ∙ h.old n;
} where
  turned : (a b : Bool) → a || b ≡ b || a
  turned true true = refl
  turned true false = refl
  turned false true = refl
  turned false false = refl

pub gained_inside : (name : ℕ) (memory : Memory) (stand : Option Stand) (run : MethodRun) → is_wrap_up stand ≡ true → run_gained (GetsInside name) memory stand run ≡ run_with name run
gained_inside name memory (Some (InWrapUp at started accessed)) run e = refl
gained_inside name memory (Some (InGenerator at)) run e = absurd (let z : false ≡ true = e in cc)
gained_inside name memory (Some (InList at entries made)) run e = absurd (let z : false ≡ true = e in cc)
gained_inside name memory None run e = absurd (let z : false ≡ true = e in cc)

pub gained_outside : (name : ℕ) (memory : Memory) (stand : Option Stand) (run : MethodRun) → is_wrap_up stand ≡ false → run_gained (GetsInside name) memory stand run ≡ run_begun memory
gained_outside name memory (Some (InWrapUp at started accessed)) run e = absurd (let z : true ≡ false = e in cc)
gained_outside name memory (Some (InGenerator at)) run e = refl
gained_outside name memory (Some (InList at entries made)) run e = refl
gained_outside name memory None run e = refl

-- ---- all callers

set_holds : (kept : List ListedRun) (k : ℕ) (x : ListedRun) (runs : ℕ → MethodRun) (run : MethodRun) → ListsRuns kept runs → ListsRun x run → ListsRuns (set kept k x) (put runs k run)
set_holds kept k x runs run holds here c = ⊎_elim
    (λ (e : c ≡ k). subst (λ i. ListsOf (slice_get (set kept k x) i) (put runs k run i)) (sym e) (subst (ListsOf (slice_get (set kept k x) k)) (sym (put_same runs k run)) (at_place kept k)))
    (λ (ne : c ≢ k). subst (ListsOf (slice_get (set kept k x) c)) (sym (put_other runs k c run ne)) (subst (λ o. ListsOf o (runs c)) (sym (elsewhere kept k c ne)) (holds c)))
    (cases_eq c k) where
      at_place : (ys : List ListedRun) (i : ℕ) → ListsOf (slice_get (set ys i x) i) run
      at_place [] i = tt
      at_place (y ∷ ys) zero = here
      at_place (y ∷ ys) (suc i) = at_place ys i

      elsewhere : (ys : List ListedRun) (i j : ℕ) → j ≢ i → slice_get (set ys i x) j ≡ slice_get ys j
      elsewhere [] i j ne = refl
      elsewhere (y ∷ ys) zero zero ne = absurd (ne refl)
      elsewhere (y ∷ ys) zero (suc j) ne = refl
      elsewhere (y ∷ ys) (suc i) zero ne = refl
      elsewhere (y ∷ ys) (suc i) (suc j) ne = elsewhere ys i j (λ e. ne (ap (λ n. suc n) e))

length_placed : (kept : List ListedRun) (c : ℕ) (next : Option ListedRun) → length (placed kept c next) ≡ length kept
length_placed kept c None = refl
length_placed kept c (Some next) = length-set kept c next

pub follows : (text : Text) (old new m : SourceMachine) (event : SourceEvent) (i : ℕ) (g : Gain) (kept kept' : List ListedRun) (next : Option ListedRun)
    → i ≡ mover event → g ≡ gain_at text event old.memory (slice_get old.callers (mover event)) → m ≡ new → is_enabled text old event ≡ true → new ≡ source_step text old event
    → NextOf (slice_get kept i) (run_gained g m.memory (stand_of (slice_get m.callers i))) next → kept' ≡ placed kept i next
    → Follows text event old new kept kept' true
follows text old new m event i g kept kept' next own gain read enabled same goes now = (
  enabled,
  same,
  ap length now ∙ length_placed kept i next,
  λ runs holds. subst (λ ks. ListsRuns ks (watched_step text (record { machine = old; runs = runs }) event).runs) (sym (now ∙ ap (λ j. placed kept j next) own)) (on runs holds (slice_get kept (mover event)) refl next whole),
) where
  f : MethodRun → MethodRun
  f = run_gained (gain_at text event old.memory (slice_get old.callers (mover event))) (source_step text old event).memory (stand_of (slice_get (source_step text old event).callers (mover event)))

  whole : NextOf (slice_get kept (mover event)) f next
  whole =
      subst (λ (s : SourceMachine). NextOf (slice_get kept (mover event)) (run_gained (gain_at text event old.memory (slice_get old.callers (mover event))) s.memory (stand_of (slice_get s.callers (mover event)))) next) (read ∙ same)
      (subst (λ h. NextOf (slice_get kept (mover event)) (run_gained h m.memory (stand_of (slice_get m.callers (mover event)))) next) gain
      (subst (λ j. NextOf (slice_get kept j) (run_gained g m.memory (stand_of (slice_get m.callers j))) next) own goes))

  caller : (caller : SourceCaller) × (slice_get old.callers (mover event) ≡ Some caller)
  caller = has_caller text old event enabled

  left : (runs : ℕ → MethodRun) → ListsRuns kept runs → slice_get kept (mover event) ≡ None → ListsRuns kept (watched_step text (record { machine = old; runs = runs }) event).runs
  left runs holds lost c = ⊎_elim
      (λ (e : c ≡ mover event). subst (λ o. ListsOf o ((watched_step text (record { machine = old; runs = runs }) event).runs c)) (sym (ap (slice_get kept) e ∙ lost)) tt)
      (λ (ne : c ≢ mover event). subst (ListsOf (slice_get kept c)) (sym (put_other runs (mover event) c _ ne)) (holds c))
      (cases_eq c (mover event))

  on : (runs : ℕ → MethodRun) → ListsRuns kept runs → (o : Option ListedRun) → slice_get kept (mover event) ≡ o → (n : Option ListedRun) → NextOf o f n
      → ListsRuns (placed kept (mover event) n) (watched_step text (record { machine = old; runs = runs }) event).runs
  on runs holds None at None w = left runs holds at
  on runs holds None at (Some x) w = absurd (let z : Some x ≡ None = w in cc)
  on runs holds (Some k) at None w = absurd w
  on runs holds (Some k) at (Some x) w =
      set_holds kept (mover event) x runs (run_at text event old.memory (slice_get old.callers (mover event)) (runs (mover event))) holds
      (subst (ListsRun x) (sym (moved text old event (runs (mover event)) caller.0 caller.1)) (w (runs (mover event)) (subst (λ o. ListsOf o (runs (mover event))) at (holds (mover event)))))

-- the same, of what is read
pub follows_read : (text t : Text) (old new m m0 : SourceMachine) (event : SourceEvent) (i : ℕ) (g : Gain) (kept kept' ks : List ListedRun) (cs : List SourceCaller) (was : Option ListedRun) (who : Option SourceCaller) (next : Option ListedRun)
    → i ≡ mover event → t ≡ text → m0 ≡ old → g ≡ gain_at t event m0.memory (slice_get m0.callers (mover event)) → m ≡ new → is_enabled text old event ≡ true → new ≡ source_step text old event
    → cs ≡ m.callers → who ≡ slice_get cs i → ks ≡ kept → was ≡ slice_get ks i
    → NextOf was (run_gained g m.memory (stand_of who)) next → kept' ≡ placed kept i next
    → Follows text event old new kept kept' true
follows_read text t old new m m0 event i g kept kept' ks cs was who next own lang first gain read enabled same cs_are who_is ks_are was_is goes now =
    follows text old new m event i g kept kept' next own
    (gain ∙ (ap (λ x. gain_at x event m0.memory (slice_get m0.callers (mover event))) lang ∙ ap (λ (s : SourceMachine). gain_at text event s.memory (slice_get s.callers (mover event))) first))
    read enabled same
    (subst (λ o. NextOf o (run_gained g m.memory (stand_of (slice_get m.callers i))) next) (was_is ∙ ap (λ l. slice_get l i) ks_are)
    (subst (λ o. NextOf was (run_gained g m.memory (stand_of o)) next) (who_is ∙ ap (λ l. slice_get l i) cs_are) goes))
    now
