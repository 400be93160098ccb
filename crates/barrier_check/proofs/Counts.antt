-- The counts of instructions before each place of a target's method.
use Rattle.std.proofs.Common.{◌≡◌, ℕ, zero, suc, ◌+◌, ◌≤◌, List, [], ◌∷◌, ◌++◌, length, drop, refl, sym, ap, ◌∙◌, arith}
use Rattle.std.proofs.Math.ListN.{drop_of_length-le}
use Rattle.std.specs.Prelude.{slice_get, unwrap_or, take}
use Rattle.target_code.specs.declared.target.TargetInstr.{TargetInstr}
use Rattle.target_code.specs.declared.target.TargetInstr.TheVariants.{Plain}
use Rattle.target_code.specs.Erasing.{plain_count, source_place}

-- the counts before each of the instructions, if so many stand before the first
abbrev pub counts_from : ℕ → List TargetInstr → List ℕ
counts_from n [] = []
counts_from n (i ∷ code) = n ∷ counts_from (n + plain_count (i ∷ [])) code

-- an instruction before others
count_head : (i : TargetInstr) (code : List TargetInstr) → plain_count (i ∷ code) ≡ plain_count (i ∷ []) + plain_count code
count_head (Plain i) code = omega arith
count_head _ code = omega arith

counted : (n : ℕ) (code : List TargetInstr) (at : ℕ) → unwrap_or (slice_get (counts_from n code) at) (n + plain_count code) ≡ n + plain_count (take at code)
counted n [] zero = refl
counted n [] (suc at) = refl
counted n (i ∷ code) zero = let same : n ≡ n + 0 = omega arith in same
counted n (i ∷ code) (suc at) =
    let more : n + plain_count (i ∷ code) ≡ n + plain_count (i ∷ []) + plain_count code = omega (arith, count_head i code) in
    let less : n + plain_count (i ∷ []) + plain_count (take at code) ≡ n + plain_count (i ∷ take at code) = omega (arith, count_head i (take at code)) in
    ap (λ (d : ℕ). unwrap_or (slice_get (counts_from (n + plain_count (i ∷ [])) code) at) d) more ∙ counted (n + plain_count (i ∷ [])) code at ∙ less

-- if nothing is left to count, the counts are right
pub are_places : (code : List TargetInstr) (before : List ℕ) (count n at : ℕ) → length code ≤ n → before ++ counts_from count (drop n code) ≡ counts_from 0 code
    → count + plain_count (drop n code) ≡ plain_count code → unwrap_or (slice_get before at) count ≡ source_place code at
are_places code before count n at past is all =
    let none : drop n code ≡ [] = drop_of_length-le code past in
    let whole : count ≡ 0 + plain_count code = omega (arith, all, ap plain_count none) in
    let place : 0 + plain_count (take at code) ≡ source_place code at = omega arith in
    let same : before ≡ counts_from 0 code = sym (append_nil before) ∙ ap (λ (left : List TargetInstr). before ++ counts_from count left) (sym none) ∙ is in
    ap (λ (xs : List ℕ). unwrap_or (slice_get xs at) count) same ∙ ap (λ (d : ℕ). unwrap_or (slice_get (counts_from 0 code) at) d) whole ∙ counted 0 code at ∙ place
  where
    append_nil : (xs : List ℕ) → xs ++ [] ≡ xs
    append_nil [] = refl
    append_nil (x ∷ xs) = ap (λ (ys : List ℕ). x ∷ ys) (append_nil xs)
