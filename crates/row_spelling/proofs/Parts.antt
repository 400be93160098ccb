-- A text that is cut at each `, `.
use Rattle.std.proofs.Common.{◌≡◌, ℕ, zero, suc, ◌<◌, ◌≤◌, ◌++◌, ◌==◌, ◌&&◌, Bool, true, false, cond, List, [], ◌∷◌, length, take, drop, Option, Some, None, MatchOption, codes, if◌then◌else◌, arith, refl, sym, ap, subst, ◌∙◌}
use denote.Ref.{Bor}
use Rattle.std.specs.List.{onto_first}
use Rattle.std.specs.Str.Iter.{split_steps, split_text, split_has_more, split_pattern}
use Rattle.std.specs.Str.Pattern.{FindsText, LacksTextAt}
use Rattle.std.specs.declared.str.Split.{Split}
use Rattle.std.proofs.lemmas.Bool.{eqb-true, false≢true}
use Rattle.std.proofs.lemmas.List.{length-drop}
use Rattle.std.proofs.lemmas.Iterator.{YieldsList}
use Rattle.std.proofs.lemmas.Iterator.Splits.{YieldsList-from_shown_while}
use Rattle.row_spelling.specs.Moves.{parts_of}

abbrev separator : List ℕ
separator = codes ", "

both : (a b : Bool) → (a && b) ≡ true → (a ≡ true) × (b ≡ true)
both true true e = (refl, refl)
both true false e = absurd (false≢true e)
both false b e = absurd (false≢true e)

-- a separator stands here if both tests hold
here : (b next : ℕ) (text : List ℕ) → (b == 44 && next == 32) ≡ true → b ∷ next ∷ text ≡ separator ++ text
here b next text e =
    let two = both (b == 44) (next == 32) e in
    λ i. eqb-true b 44 two.0 i ∷ eqb-true next 32 two.1 i ∷ text

-- the first part has one byte more if no separator stands before it
not_here : (b next : ℕ) (text part : List ℕ) (parts : List (List ℕ)) → LacksTextAt separator (b ∷ next ∷ text) 0 → parts_of (next ∷ text) ≡ part ∷ parts → (t : Bool) → (b == 44 && next == 32) ≡ t
    → parts_of (b ∷ next ∷ text) ≡ (b ∷ part) ∷ parts
not_here b next text part parts lacks is true e = absurd (lacks text (here b next text e))
not_here b next text part parts lacks is false e = ap (λ t. if t then [] ∷ parts_of text else onto_first b (parts_of (next ∷ text))) e ∙ ap (onto_first b) is

no_part : (w : List ℕ) → ((i : ℕ) → i ≤ length w → LacksTextAt separator w i) → parts_of w ≡ w ∷ []
no_part [] lacks = refl
no_part (b ∷ []) lacks = refl
no_part (b ∷ next ∷ text) lacks =
    not_here b next text (next ∷ text) [] (lacks 0 (omega arith)) (no_part (next ∷ text) (λ i le. lacks (suc i) (omega arith))) _ refl

first_part : (w : List ℕ) (i : ℕ) (rest : List ℕ) → ((k : ℕ) → k < i → LacksTextAt separator w k) → drop i w ≡ separator ++ rest → parts_of w ≡ take i w ∷ parts_of rest
first_part [] i rest lacks at = let no : ⊥ = omega (arith, ap length at, length-drop {A = ℕ} i []) in absurd no
first_part (b ∷ []) zero rest lacks at = let no : ⊥ = omega (arith, ap length at) in absurd no
first_part (b ∷ []) (suc i) rest lacks at = let no : ⊥ = omega (arith, ap length at, length-drop {A = ℕ} i []) in absurd no
first_part (b ∷ next ∷ text) zero rest lacks at = ap parts_of at
first_part (b ∷ next ∷ text) (suc i) rest lacks at =
    not_here b next text (take i (next ∷ text)) (parts_of rest) (lacks 0 (omega arith)) (first_part (next ∷ text) i rest (λ k lt. lacks (suc k) (omega arith)) at) _ refl

-- what one step of the iterator cuts off
cut_off : (w part rest : List ℕ) (on : Bool) (found : Option (ℕ × ℕ)) → FindsText separator w found
    → MatchOption found ((part ≡ w) × (on ≡ false)) (λ q. 0 < q.1 → (part ≡ take q.0 w) × (on ≡ true) × (rest ≡ drop q.1 w))
    → parts_of w ≡ part ∷ cond on (parts_of rest) []
cut_off w part rest on None lacks last = no_part w lacks ∙ (λ i. sym last.0 i ∷ cond (sym last.1 i) (parts_of rest) [])
cut_off w part rest on (Some q) at cut =
    let m = cut (omega (arith, at.1.ends)) in
    first_part w q.0 (drop q.1 w) at.0 at.1.split
    ∙ (λ i. sym m.0 i ∷ cond (sym m.1 i) (parts_of (sym m.2 i)) [])

abbrev cuts : Split (Bor (List ℕ)) → Option (Bor (List ℕ)) → Split (Bor (List ℕ)) → Type 0
cuts = split_steps (λ n. FindsText n.now) (λ n m. m.now ≡ n.now)

abbrev parts_left : Split (Bor (List ℕ)) → List (List ℕ)
parts_left t = cond (split_has_more t) (parts_of (split_text t)) []

parts_come : (s : Split (Bor (List ℕ))) → (split_pattern s).now ≡ separator → YieldsList cuts (λ x. x.now) s (parts_left s)
parts_come s is = YieldsList-from_shown_while cuts (λ x. x.now) parts_left (λ t. (split_pattern t).now ≡ separator)
    (λ t u h k. ap (λ b. length (cond b (parts_of (split_text t)) [])) (sym k.0))
    (λ t x u h k.
    let cut = k.1.1.1 in (
      k.1.0 ∙ h,
      ap (λ b. cond b (parts_of (split_text t)) []) (sym k.0)
          ∙ cut_off (split_text t) x.now (split_text u) (split_has_more u) cut.0 (subst (λ n. FindsText n (split_text t) cut.0) h cut.1) cut.2,
    ))
    s is

-- the parts of a text come one by one from what `split` gives
pub YieldsList-from_parts : {s : Split (Bor (List ℕ))} (given : Split (Bor (List ℕ))) (bs : List ℕ) → s ≡ given → split_text given ≡ bs → split_has_more given ≡ true → (split_pattern given).now ≡ separator
    → YieldsList cuts (λ x. x.now) s (parts_of bs)
YieldsList-from_parts {s} given bs same text more is =
    subst (λ t. YieldsList cuts (λ x. x.now) t (parts_of bs)) (sym same)
    (subst (YieldsList cuts (λ x. x.now) given) (λ i. cond (more i) (parts_of (text i)) []) (parts_come given is))
