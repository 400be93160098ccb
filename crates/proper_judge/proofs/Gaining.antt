-- What is kept of method runs, after an event.
use Rattle.std.proofs.Common.{ℕ, zero, suc, ◌≡◌, ◌≢◌, ◌==◌, ◌||◌, ◌&&◌, ◌⊎◌, ◌∙◌, ◌++◌, not, Bool, true, false, List, [], ◌∷◌, length, length-append, set, Option, Some, None, option_map, sym, ap, refl, subst, inl, inr, ⊎_elim, arith}
use Rattle.std.specs.Prelude.{slice_get}
use Rattle.std.proofs.lemmas.Bool.{cases_eq}
use Rattle.std.proofs.lemmas.Bool.Decides.{nat_tests}
use Rattle.std.proofs.lemmas.List.{take-append-le, take_all}
use Rattle.norm_lang.specs.declared.text.Op.{Op}
use Rattle.norm_lang.specs.declared.text.Text.{Text}
use Rattle.source_machine.specs.declared.event.SourceEvent.{SourceEvent}
use Rattle.source_machine.specs.declared.event.SourceEvent.TheVariants as events
use Rattle.source_machine.specs.declared.state.Memory.{Memory}
use Rattle.source_machine.specs.declared.state.Stand.{Stand}
use Rattle.source_machine.specs.declared.state.Stand.TheVariants.{InGenerator, InList, InWrapUp}
use Rattle.source_machine.specs.declared.state.Running.{Running}
use Rattle.source_machine.specs.declared.state.SourceCaller.{SourceCaller}
use Rattle.source_machine.specs.declared.state.SourceMachine.{SourceMachine}
use Rattle.source_machine.specs.Step.{Turn, Performed, performed, performed_by, caller_turn}
use Rattle.source_machine.specs.Run.{mover, is_enabled, is_enabled_for, source_step, step_of, is_in_method}
use Rattle.source_machine.specs.MethodRuns.{MethodRun, run_begun, run_with, name_got, stand_in, wrap_up_run, run_of, run_at, put}
use Rattle.source_machine.specs.Proper.{has, in_method, runs_method}
use Rattle.source_machine.proofs.Names.{has_push, has_last, has_new}
use Rattle.source_machine.proofs.Places.{put_same, put_other, other_test}
use Rattle.proper_judge.specs.declared.runs.KeptRun.{KeptRun}
use Rattle.proper_judge.specs.declared.runs.Gain.{Gain}
use Rattle.proper_judge.specs.declared.runs.Gain.TheVariants.{Begins, Gets, GetsInside}
use Rattle.proper_judge.specs.Runs.{HoldsRun, HoldsOf, HoldsRuns, gain_in, gain_of, gain_at, stand_of, is_wrap_up, run_gained, is_new_name, named_run, new_name, IsNamed, IsBegun, IsGainedInside, IsGained, FollowsOne}
use Rattle.proper_judge.proofs.Numbering.{after_retirement}

gained_in : (text : Text) (name : ℕ) (stand : Stand) (here : Performed) (memory : Memory) (turn : Turn) (run : MethodRun)
    → here.running.stand ≡ stand
    → run_of text (events.Access 0 name) (Some here) memory turn run ≡ run_gained (gain_in text name stand here memory) turn.memory (stand_in turn.caller.running) run
gained_in text name (InGenerator at) here memory turn run e = rw e refl
gained_in text name (InList at entries made) here memory turn run e = rw e refl
gained_in text name (InWrapUp at started accessed) here memory turn run e = rw e refl

gained_of : (text : Text) (event : SourceEvent) (here : Option Performed) (memory : Memory) (turn : Turn) (run : MethodRun)
    → run_of text event here memory turn run ≡ run_gained (gain_of text event here memory) turn.memory (stand_in turn.caller.running) run
gained_of text event None memory turn run = refl
gained_of text (events.Access c name) (Some here) memory turn run = gained_in text name here.running.stand here memory turn run refl
gained_of text (events.Begin c number args) (Some here) memory turn run = refl
gained_of text (events.Restart c) (Some here) memory turn run = refl
gained_of text (events.GiveUp c phase) (Some here) memory turn run = refl

-- what stands where an item was set
get_set : (xs : List SourceCaller) (i : ℕ) (x y : SourceCaller) → slice_get xs i ≡ Some x → slice_get (set xs i y) i ≡ Some y
get_set [] i x y e = absurd (let z : None ≡ Some x = e in cc)
get_set (z ∷ zs) zero x y e = refl
get_set (z ∷ zs) (suc i) x y e = get_set zs i x y e

-- the run of the caller that moves, by its gain
pub moved : (text : Text) (old : SourceMachine) (event : SourceEvent) (run : MethodRun) (caller : SourceCaller) → slice_get old.callers (mover event) ≡ Some caller
    → run_at text event old.memory (slice_get old.callers (mover event)) run
    ≡ run_gained (gain_at text event old.memory (slice_get old.callers (mover event))) (source_step text old event).memory (stand_of (slice_get (source_step text old event).callers (mover event))) run
moved text old event run caller e =
    ap (λ o. run_at text event old.memory o run) e
    ∙ (gained_of text event (performed text caller) old.memory turn run
    ∙ (ap (λ o. run_gained (gain_at text event old.memory (Some caller)) turn.memory (stand_of o) run) (sym (get_set old.callers (mover event) caller turn.caller e))
    ∙ (ap (λ s. by (Some caller) s) (sym (ap (λ o. step_of text event o old) e))
    ∙ ap (λ o. by o (source_step text old event)) (sym e)))) where
      turn : Turn
      turn = caller_turn text event old.memory caller

      by : Option SourceCaller → SourceMachine → MethodRun
      by o s = run_gained (gain_at text event old.memory o) s.memory (stand_of (slice_get s.callers (mover event))) run

-- an event that is enabled has a caller
pub has_caller : (text : Text) (old : SourceMachine) (event : SourceEvent) → is_enabled text old event ≡ true → (caller : SourceCaller) × (slice_get old.callers (mover event) ≡ Some caller)
has_caller text old event e = of (slice_get old.callers (mover event)) refl where
  of : (o : Option SourceCaller) → slice_get old.callers (mover event) ≡ o → (caller : SourceCaller) × (slice_get old.callers (mover event) ≡ Some caller)
  of (Some caller) at = (caller, at)
  of None at = absurd (let z : false ≡ true = sym (ap (λ o. is_enabled_for text event o old.memory) at) ∙ e in cc)

-- ---- a run

-- a run holds on after a retirement
pub holds_after : (m : ℕ) (retired : List ℕ) (kept : KeptRun) (run : MethodRun) → HoldsRun retired kept run → HoldsRun (after_retirement m retired) kept run
holds_after zero retired kept run h = h
holds_after (suc m) retired kept run h = record {
  got = h.got;
  near = let l = length-append retired (suc m ∷ []) in let n = h.near in omega (arith, l, n);
  old = h.old ∙ sym (take-append-le kept.before retired (suc m ∷ []) h.near);
}

-- a run that gets a name
holds_there : (retired : List ℕ) (kept : KeptRun) (run : MethodRun) (m : ℕ) → HoldsRun retired kept run → has (suc m) kept.got ≡ true → HoldsRun retired kept (run_with (suc m) run)
holds_there retired kept run m h e = record { got = λ n. of n (suc m == n) refl; near = h.near; old = h.old } where
  of : (n : ℕ) (b : Bool) → (suc m == n) ≡ b → has n kept.got ≡ b || has n run.got
  of n true t = let same : suc m ≡ n = grind (arith, nat_tests, t) in subst (λ k. has k kept.got ≡ true) same e
  of n false t = h.got n

holds_more : (retired : List ℕ) (kept : KeptRun) (run : MethodRun) (m : ℕ) → HoldsRun retired kept run → HoldsRun retired (record kept { got = kept.got ++ suc m ∷ [] }) (run_with (suc m) run)
holds_more retired kept run m h = record {
  got = λ n. has_push n kept.got (suc m) ∙ ap (λ b. b || (suc m == n)) (h.got n) ∙ turned (has n run.got) (suc m == n);
  near = h.near;
  old = h.old;
} where
  turned : (a b : Bool) → a || b ≡ b || a
  turned true true = refl
  turned true false = refl
  turned false true = refl
  turned false false = refl

named_holds : (retired : List ℕ) (kept kept' : KeptRun) (run : MethodRun) (name : ℕ) (added : Option ℕ) → HoldsRun retired kept run → IsNamed name kept kept' added → HoldsRun retired kept' (run_with name run)
named_holds retired kept kept' run zero added h is = subst (λ k. HoldsRun retired k (run_with 0 run)) (sym is.0) (record { got = h.got; near = h.near; old = h.old })
named_holds retired kept kept' run (suc m) added h is = subst (λ k. HoldsRun retired k (run_with (suc m) run)) (sym is.0) (subst (λ z. HoldsRun retired (named_run (not z && not (has (suc m) kept.got)) (suc m) kept) (run_with (suc m) run)) (sym (other_test (suc m) 0 (λ e. omega (arith, e)))) (of (has (suc m) kept.got) refl)) where
  of : (b : Bool) → has (suc m) kept.got ≡ b → HoldsRun retired (named_run (not b) (suc m) kept) (run_with (suc m) run)
  of true e = holds_there retired kept run m h e
  of false e = holds_more retired kept run m h

begun_holds : (memory : Memory) (kept' : KeptRun) (added : Option ℕ) → IsBegun (length memory.retired) kept' added → HoldsRun memory.retired kept' (run_begun memory)
begun_holds memory kept' added is =
    subst (λ k. HoldsRun memory.retired k (run_begun memory)) (sym is.0)
    (record { got = λ n. refl; near = omega arith; old = sym (take_all (length memory.retired) memory.retired (omega arith)) })

-- the run after an event
gain_holds : (gain : Gain) (memory : Memory) (stand : Option Stand) (kept kept' : KeptRun) (run : MethodRun) (added : Option ℕ) → HoldsRun memory.retired kept run
    → IsGained gain (length memory.retired) stand kept kept' added → HoldsRun memory.retired kept' (run_gained gain memory stand run)
gain_holds Begins memory stand kept kept' run added h is = begun_holds memory kept' added is
gain_holds (Gets name) memory stand kept kept' run added h is = named_holds memory.retired kept kept' run name added h is
gain_holds (GetsInside name) memory stand kept kept' run added h is = of stand is where
  of : (s : Option Stand) → IsGainedInside (is_wrap_up s) name (length memory.retired) kept kept' added → HoldsRun memory.retired kept' (wrap_up_run s name memory run)
  of (Some (InWrapUp at started accessed)) i = named_holds memory.retired kept kept' run name added h i
  of (Some (InGenerator at)) i = begun_holds memory kept' added i
  of (Some (InList at entries made)) i = begun_holds memory kept' added i
  of None i = begun_holds memory kept' added i

-- ---- what a run has got

-- nothing, or what it had got and perhaps the name that was added; then its method ran before
abbrev pub IsGrown : Bool → KeptRun → KeptRun → Option ℕ → Type 0
IsGrown ran kept kept' added =
    (kept'.got ≡ [])
    ⊎ ((ran ≡ true) × (kept'.before ≡ kept.before) × ((n : ℕ) → has n kept'.got ≡ true → (has n kept.got ≡ true) ⊎ (added ≡ Some n)))

named_grown : (kept kept' : KeptRun) (name : ℕ) (added : Option ℕ) → IsNamed name kept kept' added → IsGrown true kept kept' added
named_grown kept kept' name added is = of (is_new_name name kept.got) is where
  of : (b : Bool) → (kept' ≡ named_run b name kept) × (added ≡ new_name b name)
      → (kept'.got ≡ []) ⊎ ((true ≡ true) × (kept'.before ≡ kept.before) × ((n : ℕ) → has n kept'.got ≡ true → (has n kept.got ≡ true) ⊎ (added ≡ Some n)))
  of false i = inr (refl, ap (λ (k : KeptRun). k.before) i.0, λ n e. inl (sym (ap (λ (k : KeptRun). has n k.got) i.0) ∙ e))
  of true i = inr (
    refl,
    ap (λ (k : KeptRun). k.before) i.0,
    λ n e. ⊎_elim
        (λ (old : has n kept.got ≡ true). inl old)
        (λ (new : n ≡ name). inr (i.1 ∙ ap Some (sym new)))
        (has_last n name kept.got (sym (ap (λ (k : KeptRun). has n k.got) i.0) ∙ e)),
  )

ran_in : (text : Text) (name : ℕ) (stand : Stand) (here : Performed) (memory : Memory) (count : ℕ) (after : Option Stand) (kept kept' : KeptRun) (added : Option ℕ)
    → IsGained (gain_in text name stand here memory) count after kept kept' added → IsGrown (is_in_method stand) kept kept' added
ran_in text name (InGenerator at) here memory count after kept kept' added is =
    named_grown kept kept' (name_got text name (slice_get here.op.generator at) here.running.registers memory) added is
ran_in text name (InList at entries made) here memory count after kept kept' added is = inl (ap (λ (k : KeptRun). k.got) is.0)
ran_in text name (InWrapUp at started accessed) here memory count after kept kept' added is = of (is_wrap_up after) is where
  of : (b : Bool) → IsGainedInside b (name_got text name (slice_get here.op.wrapup at) here.running.registers memory) count kept kept' added → IsGrown true kept kept' added
  of true i = named_grown kept kept' (name_got text name (slice_get here.op.wrapup at) here.running.registers memory) added i
  of false i = inl (ap (λ (k : KeptRun). k.got) i.0)

begun_grown : (ran : Bool) (count : ℕ) (kept kept' : KeptRun) (added : Option ℕ) → IsBegun count kept' added → IsGrown ran kept kept' added
begun_grown ran count kept kept' added is = inl (ap (λ (k : KeptRun). k.got) is.0)

same_running : (text : Text) (r : Running) (here : Performed) → performed_by text (Some r) ≡ Some here → here.running ≡ r
same_running text r here q = of (slice_get text.ops r.op) q where
  of : (o : Option Op) → option_map (λ op. record { op = op; running = r }) o ≡ Some here → here.running ≡ r
  of None e = absurd (let z : None ≡ Some here = e in cc)
  of (Some op) e =
      let it : Performed = record { op = op; running = r } in
      let same : it ≡ here = (let z : Some it ≡ Some here = e in cc) in ap (λ (h : Performed). h.running) (sym same)

grown_by : (text : Text) (event : SourceEvent) (caller : SourceCaller) (here : Option Performed) → performed text caller ≡ here → (memory : Memory) (count : ℕ) (after : Option Stand) (kept kept' : KeptRun) (added : Option ℕ)
    → IsGained (gain_of text event here memory) count after kept kept' added → IsGrown (runs_method (Some caller)) kept kept' added
grown_by text event caller None p memory count after kept kept' added is = begun_grown (runs_method (Some caller)) count kept kept' added is
grown_by text (events.Access c name) caller (Some here) p memory count after kept kept' added is =
    subst (λ b. IsGrown b kept kept' added) (sym (running caller.running p)) (ran_in text name here.running.stand here memory count after kept kept' added is) where
      running : (o : Option Running) → performed_by text o ≡ Some here → in_method o ≡ is_in_method here.running.stand
      running None q = absurd (let z : None ≡ Some here = q in cc)
      running (Some r) q = ap (λ (x : Running). is_in_method x.stand) (sym (same_running text r here q))
grown_by text (events.Begin c number args) caller (Some here) p memory count after kept kept' added is = begun_grown (runs_method (Some caller)) count kept kept' added is
grown_by text (events.Restart c) caller (Some here) p memory count after kept kept' added is = begun_grown (runs_method (Some caller)) count kept kept' added is
grown_by text (events.GiveUp c phase) caller (Some here) p memory count after kept kept' added is = begun_grown (runs_method (Some caller)) count kept kept' added is

pub grown_at : (text : Text) (event : SourceEvent) (caller : SourceCaller) (memory : Memory) (count : ℕ) (after : Option Stand) (kept kept' : KeptRun) (added : Option ℕ)
    → IsGained (gain_at text event memory (Some caller)) count after kept kept' added → IsGrown (runs_method (Some caller)) kept kept' added
grown_at text event caller memory count after kept kept' added is = grown_by text event caller (performed text caller) refl memory count after kept kept' added is

-- ---- all callers

pub all_after : (m : ℕ) (retired : List ℕ) (kept : List KeptRun) (runs : ℕ → MethodRun) → HoldsRuns retired kept runs → HoldsRuns (after_retirement m retired) kept runs
all_after m retired kept runs holds c = of (slice_get kept c) (holds c) where
  of : (o : Option KeptRun) → HoldsOf retired o (runs c) → HoldsOf (after_retirement m retired) o (runs c)
  of None h = tt
  of (Some k) h = holds_after m retired k (runs c) h

set_holds : (retired : List ℕ) (kept : List KeptRun) (k : ℕ) (x : KeptRun) (runs : ℕ → MethodRun) (run : MethodRun) → HoldsRuns retired kept runs → HoldsRun retired x run → HoldsRuns retired (set kept k x) (put runs k run)
set_holds retired kept k x runs run holds here c = ⊎_elim
    (λ (e : c ≡ k). subst (λ i. HoldsOf retired (slice_get (set kept k x) i) (put runs k run i)) (sym e) (subst (HoldsOf retired (slice_get (set kept k x) k)) (sym (put_same runs k run)) (at_place kept k)))
    (λ (ne : c ≢ k). subst (HoldsOf retired (slice_get (set kept k x) c)) (sym (put_other runs k c run ne)) (subst (λ o. HoldsOf retired o (runs c)) (sym (elsewhere kept k c ne)) (holds c)))
    (cases_eq c k) where
      at_place : (ys : List KeptRun) (i : ℕ) → HoldsOf retired (slice_get (set ys i x) i) run
      at_place [] i = tt
      at_place (y ∷ ys) zero = here
      at_place (y ∷ ys) (suc i) = at_place ys i

      elsewhere : (ys : List KeptRun) (i d : ℕ) → d ≢ i → slice_get (set ys i x) d ≡ slice_get ys d
      elsewhere [] i d ne = refl
      elsewhere (y ∷ ys) zero zero ne = absurd (ne refl)
      elsewhere (y ∷ ys) zero (suc d) ne = refl
      elsewhere (y ∷ ys) (suc i) zero ne = refl
      elsewhere (y ∷ ys) (suc i) (suc d) ne = elsewhere ys i d (λ e. ne (ap suc e))

pub follow_holds : (gain : Gain) (state : SourceMachine) (c : ℕ) (kept kept' : List KeptRun) (old : KeptRun) (added : Option ℕ) (runs : ℕ → MethodRun)
    → HoldsRuns state.memory.retired kept runs → slice_get kept c ≡ Some old → FollowsOne gain state c kept kept' old added
    → HoldsRuns state.memory.retired kept' (put runs c (run_gained gain state.memory (stand_of (slice_get state.callers c)) (runs c)))
follow_holds gain state c kept kept' old added runs holds at f =
    subst (λ ks. HoldsRuns state.memory.retired ks (put runs c (run_gained gain state.memory (stand_of (slice_get state.callers c)) (runs c)))) (sym f.placed)
    (set_holds state.memory.retired kept c f.new runs (run_gained gain state.memory (stand_of (slice_get state.callers c)) (runs c)) holds
    (gain_holds gain state.memory (stand_of (slice_get state.callers c)) old f.new (runs c) added (subst (λ o. HoldsOf state.memory.retired o (runs c)) at (holds c)) f.gains))

-- the name that was added is one that the run has got
named_added : (name : ℕ) (old new : KeptRun) (added : Option ℕ) → IsNamed name old new added → (n : ℕ) → added ≡ Some n → has n new.got ≡ true
named_added name old new added is n e = of (is_new_name name old.got) is where
  of : (b : Bool) → (new ≡ named_run b name old) × (added ≡ new_name b name) → has n new.got ≡ true
  of false i = absurd (let z : None ≡ Some n = sym i.1 ∙ e in cc)
  of true i =
      let same : name ≡ n = (let z : Some name ≡ Some n = sym i.1 ∙ e in cc) in
      ap (λ (k : KeptRun). has n k.got) i.0 ∙ subst (λ m. has m (old.got ++ name ∷ []) ≡ true) same (has_new name old.got)

begun_added : (count : ℕ) (new : KeptRun) (added : Option ℕ) → IsBegun count new added → (n : ℕ) → added ≡ Some n → has n new.got ≡ true
begun_added count new added is n e = absurd (let z : None ≡ Some n = sym is.1 ∙ e in cc)

pub has_added : (gain : Gain) (count : ℕ) (stand : Option Stand) (old new : KeptRun) (added : Option ℕ) → IsGained gain count stand old new added → (n : ℕ) → added ≡ Some n → has n new.got ≡ true
has_added Begins count stand old new added is = begun_added count new added is
has_added (Gets name) count stand old new added is = named_added name old new added is
has_added (GetsInside name) count stand old new added is = of (is_wrap_up stand) is where
  of : (b : Bool) → IsGainedInside b name count old new added → (n : ℕ) → added ≡ Some n → has n new.got ≡ true
  of true i = named_added name old new added i
  of false i = begun_added count new added i
