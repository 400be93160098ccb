-- What a state breaks.
use Rattle.std.proofs.Common.{ℕ, zero, suc, ◌≡◌, ◌∙◌, ◌++◌, not, Bool, true, false, List, [], ◌∷◌, length, Option, Some, None, sym, ap, refl, subst, ⊎_elim, arith}
use Rattle.std.specs.Prelude.{slice_get, Result, Ok, Err, IfOk}
use Rattle.std.proofs.lemmas.Bool.{and_parts, and_cases, not-true, not-false}
use Rattle.source_machine.specs.declared.state.SourceCaller.{SourceCaller}
use Rattle.source_machine.specs.declared.state.SourceMachine.{SourceMachine}
use Rattle.source_machine.specs.Proper.{has, IsOnce, Reaches, runs_method}
use Rattle.source_machine.proofs.Names.{untrue}
use Rattle.state_judge.specs.declared.runs.ListedRun.{ListedRun}
use Rattle.proper_judge.specs.declared.breach.Breach.{Breach}
use Rattle.proper_judge.specs.declared.breach.Breach.TheVariants.{Twice, Root, Got}
use Rattle.proper_judge.specs.Reach.{targets}
use Rattle.proper_judge.specs.Breaches.{AreRootsKept, IsRootBreach, IsGotBreach}
use Rattle.proper_judge.proofs.Reaching.{at_target, target_at}
use Rattle.state_judge.specs.Reach.{Found}
use Rattle.state_judge.specs.Runs.{ListsRun, ListsOf, ListsRuns}
use Rattle.state_judge.specs.Breaches.{is_once, FoundInRun, ShowsGot, Shows}

-- ---- once

pub once_is : (ns : List ℕ) → is_once ns ≡ true → IsOnce ns
once_is [] e = tt
once_is (n ∷ ns) e = let p = and_parts (not (has n ns)) (is_once ns) e in (not-true (has n ns) p.0, once_is ns p.1)

pub twice_is : (ns : List ℕ) → is_once ns ≡ false → IsOnce ns → ⊥
twice_is [] e once = absurd (let z : true ≡ false = e in cc)
twice_is (n ∷ ns) e once = ⊎_elim
    (λ (first : not (has n ns) ≡ false). untrue (has n ns) once.0 (not-false (has n ns) first))
    (λ (rest : is_once ns ≡ false). twice_is ns rest once.1)
    (and_cases (not (has n ns)) (is_once ns) e)

-- ---- lists of no names

pub AreEmpty : List ListedRun → Type 0
AreEmpty kept = (c : ℕ) → ListsOf (slice_get kept c) (record { got = []; old = [] })

pub none_empty : AreEmpty []
unfolding AreEmpty
none_empty c = tt

pub one_empty : (kept : List ListedRun) (next : ListedRun) → next.got ≡ [] → next.old ≡ [] → AreEmpty kept → AreEmpty (kept ++ next ∷ [])
unfolding AreEmpty
one_empty [] next g o empty zero = record { got = λ n. ap (has n) g; old = λ n. ap (has n) o }
one_empty [] next g o empty (suc c) = tt
one_empty (k ∷ ks) next g o empty zero = empty zero
one_empty (k ∷ ks) next g o empty (suc c) = one_empty ks next g o (λ i. empty (suc i)) c

pub empty_holds : (kept : List ListedRun) → AreEmpty kept → ListsRuns kept (λ c. record { got = []; old = [] })
unfolding AreEmpty
empty_holds kept empty = empty

-- ---- a state

pub root_shown : (state : SourceMachine) (name : ℕ) → Found state.memory (targets state.memory.roots) state.memory.retired (Some name) → IsRootBreach state name
root_shown state name found =
    let t = target_at state.memory.roots found.0.0 found.0.1 in
    record { root = t.0; reference = record { node = found.0.0; marked = t.1 }; stands = t.2; leads = found.0.2; retired = found.1 }

roots_kept : (state : SourceMachine) → Found state.memory (targets state.memory.roots) state.memory.retired None → AreRootsKept state
roots_kept state root x other reference stands reaches = root reference.node other (at_target state.memory.roots x reference.marked reference.node stands) reaches

pub got_shown : (state : SourceMachine) (kept : List ListedRun) (c name : ℕ) → IsOnce state.memory.retired → AreRootsKept state → ShowsGot state kept (Some (Got c name))
    → Shows state kept (Some (Got c name))
got_shown state kept c name once roots shows runs holds = (once, roots, of (slice_get kept c) refl (runs_method (Some shows.0)) refl shows.2) where
  of : (o : Option ListedRun) → slice_get kept c ≡ o → (b : Bool) → runs_method (Some shows.0) ≡ b → FoundInRun b state.memory o (Some name) → IsGotBreach state runs c name
  of o at false e found = absurd (let z : Some name ≡ None = found in cc)
  of None at true e found = absurd (let z : Some name ≡ None = found in cc)
  of (Some k) at true e found =
      let h : ListsRun k (runs c) = subst (λ o. ListsOf o (runs c)) at (holds c) in
      record {
        runs_on = ap runs_method shows.1 ∙ e;
        leads = (found.0.0, sym (h.got found.0.0) ∙ found.0.1, found.0.2);
        old = sym (h.old name) ∙ found.1;
      }

has_item : {A B : Type 0} (xs : List A) (ys : List B) (c : ℕ) (x : A) → length ys ≡ length xs → slice_get xs c ≡ Some x → (y : B) × (slice_get ys c ≡ Some y)
has_item [] ys c x l e = absurd (let z : None ≡ Some x = e in cc)
has_item (x' ∷ xs) [] c x l e = absurd (let z : 0 ≡ suc (length xs) = l in let no : ⊥ = omega (arith, z) in no)
has_item (x' ∷ xs) (y ∷ ys) zero x l e = (y, refl)
has_item (x' ∷ xs) (y ∷ ys) (suc c) x l e = has_item xs ys c x (let z : suc (length ys) ≡ suc (length xs) = l in let same : length ys ≡ length xs = omega (arith, z) in same) e

pub proper_shown : (state : SourceMachine) (kept : List ListedRun) → length kept ≡ length state.callers → is_once state.memory.retired ≡ true
    → Found state.memory (targets state.memory.roots) state.memory.retired None → ShowsGot state kept None → Shows state kept None
proper_shown state kept many once root got runs holds = record {
  once = once_is state.memory.retired once;
  roots = roots_kept state root;
  got = λ c name other on gets reaches. of c name other (slice_get state.callers c) refl on gets reaches;
} where
  old : (c name other : ℕ) (caller : SourceCaller) (k : ListedRun) → slice_get kept c ≡ Some k → (b : Bool) → runs_method (Some caller) ≡ b → b ≡ true → FoundInRun b state.memory (slice_get kept c) None
      → has name (runs c).got ≡ true → Reaches state.memory name other → has other (runs c).old ≡ false
  old c name other caller k at false e on found gets reaches = absurd (let z : false ≡ true = on in cc)
  old c name other caller k at true e on found gets reaches =
      let h : ListsRun k (runs c) = subst (λ o. ListsOf o (runs c)) at (holds c) in
      let f : Found state.memory k.got k.old None = subst (λ o. FoundInRun true state.memory o None) at found in
      sym (h.old other) ∙ f name other (h.got name ∙ gets) reaches

  of : (c name other : ℕ) (o : Option SourceCaller) → slice_get state.callers c ≡ o → runs_method (slice_get state.callers c) ≡ true → has name (runs c).got ≡ true → Reaches state.memory name other
      → has other (runs c).old ≡ false
  of c name other None at on gets reaches = absurd (let z : false ≡ true = sym (ap runs_method at) ∙ on in cc)
  of c name other (Some caller) at on gets reaches =
      let item = has_item state.callers kept c caller many at in
      old c name other caller item.0 item.1 (runs_method (Some caller)) refl (sym (ap runs_method at) ∙ on) (got c caller at) gets reaches

pub all_shown : (state : SourceMachine) (kept : List ListedRun) → length kept ≡ length state.callers → is_once state.memory.retired ≡ true
    → Found state.memory (targets state.memory.roots) state.memory.retired None → (found : Option Breach) → ShowsGot state kept found → Shows state kept found
all_shown state kept many once root None got = proper_shown state kept many once root got
all_shown state kept many once root (Some Twice) got = absurd got
all_shown state kept many once root (Some (Root name)) got = absurd got
all_shown state kept many once root (Some (Got c name)) got = got_shown state kept c name (once_is state.memory.retired once) (roots_kept state root) got

pub if_ok : {A E : Type 0} (P Q : A → Type 0) (r : Result A E) → ((a : A) → P a → Q a) → IfOk r P → IfOk r Q
if_ok P Q (Ok a) goes h = goes a h
if_ok P Q (Err e) goes h = h
