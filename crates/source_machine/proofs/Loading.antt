-- A load of one of the callers.
use Rattle.std.proofs.Common.{ℕ, zero, suc, ◌≡◌, ◌∙◌, Bool, true, false, List, [], ◌∷◌, length, Some, sym, ap, refl, subst, MutBor}
use Rattle.std.proofs.lemmas.Option.{slice_get_read}
use Rattle.std.specs.Prelude.{slice_get, slice_set}
use Rattle.std.specs.List.{IsItemAtMut}
use Rattle.norm_lang.specs.declared.text.Text.{Text}
use Rattle.source_machine.specs.State.{Memory, SourceCaller}
use Rattle.source_machine.specs.Loads.{LoadsBy, LoadsAt}

-- the item that is lent
pub lent : (xs : List SourceCaller) (i : ℕ) (x : MutBor SourceCaller) → IsItemAtMut xs i (Some x) → slice_get xs i ≡ Some x.now
lent xs i x item = slice_get_read xs (length xs) i x.now refl item.3.0 (item.3.1 x.now)

-- what stands at a place is put there again
put_back : {A : Type 0} → (xs : List A) (i : ℕ) (x : A) → slice_get xs i ≡ Some x → slice_set xs i x ≡ xs
put_back [] i x at = refl
put_back (y ∷ ys) zero x at = ap (λ z. z ∷ ys) (sym (let z : Some y ≡ Some x = at in let same : y ≡ x = cc in same))
put_back (y ∷ ys) (suc i) x at = ap (λ zs. y ∷ zs) (put_back ys i x at)

pub loads_at : (text : Text) (memory : Memory) (c : ℕ) (callers : List SourceCaller) (caller after : SourceCaller) (made : Bool) → slice_get callers c ≡ Some caller
    → LoadsBy text memory caller after made → LoadsAt text memory c callers (slice_set callers c after) (slice_get callers c) made
loads_at text memory c callers caller after false at same =
    let is : after ≡ caller = same in ap (slice_set callers c) is ∙ put_back callers c caller at
loads_at text memory c callers caller after true at loads =
    subst (λ o. LoadsAt text memory c callers (slice_set callers c after) o true) (sym at) (record { after = after; loads = loads; left = refl })
