-- Where what is left of a target differs from a text.
use Rattle.std.proofs.Common.{◌≡◌, ℕ, suc, ◌≤◌, inl, inr, Bool, true, false, List, [], ◌∷◌, length, Option, Some, None, refl, sym, ap, subst, ◌∙◌, arith}
use Rattle.std.specs.Prelude.{slice_get, map, option_map, Result, Ok, Err}
use Rattle.std.proofs.lemmas.Option.{same_Some, slice_get_past}
use Rattle.norm_lang.specs.declared.text.Op.{Op}
use Rattle.norm_lang.specs.declared.text.Text.{Text}
use Rattle.target_code.specs.declared.target.Target.{Target}
use Rattle.target_code.specs.Erasing.{erased, erased_op, ErasesTo, part_of, AreAlike}
use Rattle.barrier_check.specs.declared.flaw.VerifyError.{VerifyError}
use Rattle.barrier_check.specs.Comparing.{Differs, IsSamePart, IsSameOp, AreSameBelow}
use Rattle.barrier_check.specs.Scopes.{InMethod, InOp, IsClear, IsFlawedThere, Tells}
use Rattle.barrier_check.proofs.Placing.{less_or_more}
use Rattle.barrier_check.proofs.Parts.{flawed_in_generator, flawed_in_wrapup}

pub length_map : {X Y : Type 0} (f : X → Y) (xs : List X) → length (map f xs) ≡ length xs
length_map f [] = refl
length_map f (x ∷ xs) = ap suc (length_map f xs)

-- the parts of an operation tell it
op_of_parts : (one other : Op) → part_of false one ≡ part_of false other → part_of true one ≡ part_of true other → one ≡ other
op_of_parts one other generator wrapup =
    let name : one.name ≡ other.name = ap (λ (o : Op). o.name) generator in
    let args : one.args ≡ other.args = ap (λ (o : Op). o.args) generator in
    let code : one.generator ≡ other.generator = ap (λ (o : Op). o.generator) generator in
    let behind : one.wrapup ≡ other.wrapup = ap (λ (o : Op). o.wrapup) wrapup in
    rw (name, args, code, behind) refl

-- if declarations are alike, a method that is the same has no difference
pub same_clear : (target : Target) (text : Text) (number : ℕ) (wrapup : Bool) → AreAlike (erased target) text → IsSamePart target text number wrapup
    → IsClear (Differs target text) (InMethod number wrapup)
same_clear target text number wrapup alike same flaw there differs =
    elim differs.1 [
      | inl apart ↦ apart.0 alike
      | inr other ↦ other.1 (subst (λ n. IsSamePart target text n flaw.wrapup) (sym there.0) (subst (λ w. IsSamePart target text number w) (sym there.1) same))
    ]

-- the answers to an operation
pub in_generator : (target : Target) (text : Text) (number : ℕ) (e : VerifyError) → IsFlawedThere (Differs target text) (InMethod number false) e → IsFlawedThere (Differs target text) (InOp number) e
in_generator target text number e first = flawed_in_generator (Differs target text) number e first

pub in_wrapup : {X : Type 0} (target : Target) (text : Text) (number : ℕ) (r : Result X VerifyError) → AreAlike (erased target) text → IsSamePart target text number false
    → Tells (IsSamePart target text number true) (Differs target text) (InMethod number true) r → Tells (IsSameOp target text number) (Differs target text) (InOp number) r
in_wrapup target text number (Ok x) alike generator wrapup = (generator, wrapup)
in_wrapup target text number (Err e) alike generator wrapup = flawed_in_wrapup (Differs target text) number e (same_clear target text number false alike generator) wrapup

-- texts with the same declarations and the same operations are the same
same_option : (one other : Option Op) → option_map (part_of false) one ≡ option_map (part_of false) other → option_map (part_of true) one ≡ option_map (part_of true) other → one ≡ other
same_option None None generator wrapup = refl
same_option (Some one) (Some other) generator wrapup =
    ap Some (op_of_parts one other (same_Some (part_of false one) (part_of false other) generator) (same_Some (part_of true one) (part_of true other) wrapup))
same_option _ _ generator wrapup = cc

same_items : (xs ys : List Op) → ((n : ℕ) → slice_get xs n ≡ slice_get ys n) → xs ≡ ys
same_items [] [] same = refl
same_items [] (y ∷ ys) same = let never : None ≡ Some y = same 0 in cc
same_items (x ∷ xs) [] same = let never : Some x ≡ None = same 0 in cc
same_items (x ∷ xs) (y ∷ ys) same = rw (same_Some x y (same 0), same_items xs ys (λ n. same (suc n))) refl

same_text : (one other : Text) → AreAlike one other → one.ops ≡ other.ops → one ≡ other
same_text one other alike ops = rw (alike.kinds, alike.fields, alike.roots, alike.nodes, ops) refl

pub all_same : (target : Target) (text : Text) (count : ℕ) → AreAlike (erased target) text → length target.ops ≤ count → AreSameBelow target text count → ErasesTo target text
all_same target text count alike past below = same_text (erased target) text alike (same_items (erased target).ops text.ops each)
  where
    each : (n : ℕ) → slice_get (erased target).ops n ≡ slice_get text.ops n
    each n = elim (less_or_more n count) [
      | inl less ↦ same_option (slice_get (erased target).ops n) (slice_get text.ops n) (below n less).0 (below n less).1
      | inr more ↦ slice_get_past (erased target).ops n (omega (arith, past, more, length_map erased_op target.ops))
          ∙ sym (slice_get_past text.ops n (omega (arith, past, more, alike.count, length_map erased_op target.ops)))
    ]

-- what decides whether the declarations are alike
pub alike : (target : Target) (text : Text) → target.kinds ≡ text.kinds → target.fields ≡ text.fields → target.roots ≡ text.roots → target.nodes ≡ text.nodes → length target.ops ≡ length text.ops → AreAlike (erased target) text
alike target text kinds fields roots nodes count = record { kinds = kinds; fields = fields; roots = roots; nodes = nodes; count = length_map erased_op target.ops ∙ count }
