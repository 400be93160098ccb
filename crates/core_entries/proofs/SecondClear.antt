-- What is to be cleared after a hazard: the guards with that one cleared, or with its register left out.
use Rattle.std.proofs.Common.{◌≡◌, ◌≢◌, ℕ, zero, suc, ◌+◌, ◌<◌, Bool, true, false, ◌&&◌, not, ◌==◌, List, [], ◌∷◌, length, Option, Some, None, refl, sym, ap, ◌∙◌, subst, arith, ⊎_elim}
use Rattle.std.specs.Prelude.{slice_get, slice_set, unwrap_or}
use Rattle.std.proofs.lemmas.Bool.{cases_eq}
use Rattle.std.proofs.lemmas.List.{length-set}
use Rattle.target_code.specs.declared.target.Target.{Target}
use Rattle.guard_words.specs.Guards.{Guards, with_guard, least_from, is_spared, is_to_clear, next_to_clear}
use Rattle.target_code.specs.declared.target.TargetOp.{TargetOp}
use Rattle.caller_parts.specs.Spared.{restart_spares, kept_by}
use Rattle.caller_steps.specs.Entries.{Entry, op_of}
use Rattle.caller_steps.specs.Clearing.{restart_next, unguarded}
use Rattle.caller_steps.specs.Asking.{IsRegister}
use Rattle.core_entries.specs.StepRuns.{restart_after}

set_here : {X : Type 0} (xs : List X) (r : ℕ) (x d : X) → r < length xs → unwrap_or (slice_get (slice_set xs r x) r) d ≡ x
set_here [] r x d lt = absurd (omega (arith, lt))
set_here (y ∷ ys) zero x d lt = refl
set_here (y ∷ ys) (suc r) x d lt = set_here ys r x d (omega (arith, lt))

set_default : {X : Type 0} (xs : List X) (r : ℕ) (d : X) → unwrap_or (slice_get (slice_set xs r d) r) d ≡ d
set_default [] r d = refl
set_default (y ∷ ys) zero d = refl
set_default (y ∷ ys) (suc r) d = set_default ys r d

set_other : {X : Type 0} (xs : List X) (r k : ℕ) (x d : X) → k ≢ r → unwrap_or (slice_get (slice_set xs r x) k) d ≡ unwrap_or (slice_get xs k) d
set_other [] r k x d ne = refl
set_other (y ∷ ys) zero zero x d ne = absurd (ne refl)
set_other (y ∷ ys) zero (suc k) x d ne = refl
set_other (y ∷ ys) (suc r) zero x d ne = refl
set_other (y ∷ ys) (suc r) (suc k) x d ne = set_other ys r k x d (λ e. ne (ap suc e))

and_false : (b : Bool) → (b && false) ≡ false
and_false true = refl
and_false false = refl

same_least : (f g : ℕ → Bool) → ((k : ℕ) → f k ≡ g k) → (at n : ℕ) → least_from f at n ≡ least_from g at n
same_least f g same at zero = refl
same_least f g same at (suc n) = rw (same at, same_least f g same (at + 1) n) refl

module _ (slots : List ℕ) (spared : List Bool) (r : ℕ) (inside : r < length spared) where
  here : is_to_clear slots (slice_set spared r true) r ≡ is_to_clear (slice_set slots r 0) spared r
  here = ap (λ (b : Bool). not (unwrap_or (slice_get slots r) 0 == 0) && not b) (set_here spared r true false inside)
      ∙ and_false (not (unwrap_or (slice_get slots r) 0 == 0))
      ∙ sym (ap (λ (n : ℕ). not (n == 0) && not (is_spared spared r)) (set_default slots r 0))

  there : (k : ℕ) → k ≢ r → is_to_clear slots (slice_set spared r true) k ≡ is_to_clear (slice_set slots r 0) spared k
  there k ne = ap (λ (b : Bool). not (unwrap_or (slice_get slots k) 0 == 0) && not b) (set_other spared r k true false ne)
      ∙ sym (ap (λ (n : ℕ). not (n == 0) && not (is_spared spared k)) (set_other slots r k 0 0 ne))

  each : (k : ℕ) → is_to_clear slots (slice_set spared r true) k ≡ is_to_clear (slice_set slots r 0) spared k
  each k = ⊎_elim (λ e. subst (λ (k : ℕ). is_to_clear slots (slice_set spared r true) k ≡ is_to_clear (slice_set slots r 0) spared k) (sym e) here) (λ ne. there k ne) (cases_eq k r)

next_of : (guards : Guards) (spared : List Bool) (r : ℕ) → r < length spared → next_to_clear guards (slice_set spared r true) ≡ next_to_clear (with_guard guards r 0) spared
next_of guards spared r inside =
    same_least _ _ (each guards.slots spared r inside) 0 (length guards.slots)
    ∙ ap (λ (n : ℕ). least_from (is_to_clear (slice_set guards.slots r 0) spared) 0 n) (sym (length-set guards.slots r 0))

-- by what is cleared now
abbrev cleared_by : Target → Entry → Option ℕ → Option ℕ
cleared_by target e now = next_to_clear (unguarded now e.hand).guards (restart_spares (unguarded now e.hand).wrapup (op_of target e))

-- eight registers are left out or not
kept_eight : (op : Option TargetOp) → length (kept_by op) ≡ 8
kept_eight None = refl
kept_eight (Some op) = refl

spares_eight : (wrapup : Bool) (op : Option TargetOp) → length (restart_spares wrapup op) ≡ 8
spares_eight false op = refl
spares_eight true op = kept_eight op

pub second : (target : Target) (e : Entry) (spared : List Bool) (r : ℕ) → spared ≡ restart_spares e.hand.wrapup (op_of target e) → Some r ≡ next_to_clear e.hand.guards spared → IsRegister (restart_next target e)
    → next_to_clear e.hand.guards (slice_set spared r true) ≡ restart_after target e
second target e spared r is next register =
    next_of e.hand.guards spared r inside
    ∙ ap (λ (s : List Bool). next_to_clear (with_guard e.hand.guards r 0) s) is
    ∙ ap (λ (o : Option ℕ). cleared_by target e o) now
  where
    now : Some r ≡ restart_next target e
    now = next ∙ ap (λ (s : List Bool). next_to_clear e.hand.guards s) is

    below : r < 8
    below = subst (λ (o : Option ℕ). IsRegister o) (sym now) register

    inside : r < length spared
    inside = let count = ap (λ (s : List Bool). length s) is ∙ spares_eight e.hand.wrapup (op_of target e) in let lt = below in omega (arith, count, lt)
