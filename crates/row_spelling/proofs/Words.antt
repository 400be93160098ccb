-- A text that is cut at its first space.
use Rattle.std.proofs.Common.{◌≡◌, ℕ, zero, suc, ◌<◌, ◌≤◌, ◌==◌, Bool, true, false, cond, List, [], ◌∷◌, length, drop, get_or, slice_index, Option, Some, None, MatchOption, bytes_eq, if◌then◌else◌, arith, rules, lit<, refl, sym, ap, ◌∙◌, ◌⊎◌, inl, inr}
use Rattle.std.specs.List.{position_or_len, before_first, after_first, list_all}
use Rattle.std.specs.Option.{option_map, option_zip}
use denote.Ref.{Bor}
use Rattle.std.proofs.lemmas.Bool.{cases_lt, eqb-true}
use Rattle.std.proofs.lemmas.List.Splits.{slice_split_none, slice_split_first, length-slice_split}
use Rattle.std.proofs.lemmas.List.Sums.{fails_before_first, passes_at_first}
use Rattle.std.proofs.lemmas.Str.Pattern.{IsSplitOnceResult, split_once_first}
use Rattle.std.proofs.lemmas.Str.Parse.{not_in_digits}
use Rattle.oa_text.specs.Numbers.{is_digit}
use Rattle.row_spelling.specs.declared.moves.Who.{Who}
use Rattle.row_spelling.specs.declared.moves.Deed.{Deed}
use Rattle.row_spelling.specs.declared.moves.Deed.TheVariants.{GoesOn}
use Rattle.row_spelling.specs.Moves.{is_space, words_of, digits_in, number_in, begun, deed_in, move_in, move_of, who_in}
use Rattle.row_spelling.proofs.Parsed.{own}

one_word : (bs : List ℕ) → length bs ≤ position_or_len is_space bs → words_of bs ≡ bs ∷ []
one_word bs le = slice_split_none is_space bs (λ k d l. fails_before_first is_space bs k d (omega arith))

pub words_cut : (bs : List ℕ) (r : Option (Bor (List ℕ) × Bor (List ℕ))) → IsSplitOnceResult 32 bs r → MatchOption r (words_of bs ≡ bs ∷ []) (λ x. words_of bs ≡ x.0.now ∷ words_of x.1.now)
words_cut bs None p = let all = split_once_first 32 bs None p (lit< tt) in one_word bs (omega arith)
words_cut bs (Some x) p =
    let cut = split_once_first 32 bs (Some x) p (lit< tt) in
    slice_split_first is_space bs 0 cut.0 ∙ (λ i. sym cut.1 i ∷ words_of (sym cut.2 i))

no_digits : (ds : List ℕ) (k : ℕ) → k < length ds → get_or ds k 0 ≡ 32 → (b : Bool) → list_all is_digit ds ≡ b → digits_in ds ≡ None
no_digits ds k lt is false e = rw e (search rules)
no_digits ds k lt is true e = absurd (not_in_digits own ds 32 e (λ r. omega (arith, r)) k lt is)

no_number : (bs : List ℕ) (k : ℕ) → k < length bs → get_or bs k 0 ≡ 32 → (b : Bool) → (slice_index bs 0 == 43) ≡ b → number_in bs ≡ None
no_number bs k lt is false e = ap (λ b. digits_in (drop (cond b 1 0) bs)) e ∙ no_digits bs k lt is _ refl
no_number [] k lt is true e = absurd (omega arith)
no_number (c ∷ bs) zero lt is true e = absurd (let plus = eqb-true c 43 e in let no : ⊥ = omega (arith, is) in no)
no_number (c ∷ bs) (suc k) lt is true e = ap (λ b. digits_in (drop (cond b 1 0) (c ∷ bs))) e ∙ no_digits bs k (omega arith) is _ refl

none_begun : (call : Option ℕ) → begun call None ≡ None
none_begun None = refl
none_begun (Some call) = refl

abbrev no_deed : Option Deed
no_deed = None

never : (b : Bool) → (if b then no_deed else no_deed) ≡ no_deed
never true = refl
never false = refl

-- a verb with two words or more
module _ (begins goes_on verb call with : List ℕ) where
  too_many : (a : List ℕ) (others : List (List ℕ)) → 0 < length others → deed_in begins goes_on (verb ∷ call ∷ a ∷ others) ≡ None
  too_many a [] some = absurd (omega arith)
  too_many a (other ∷ others) some = refl

  two_or_more : (position_or_len is_space with < length with) ⊎ (length with ≤ position_or_len is_space with) → deed_in begins goes_on (verb ∷ call ∷ words_of with) ≡ (if bytes_eq verb begins then begun (number_in call) (number_in with) else None)
  two_or_more (inr all) = ap (λ words. deed_in begins goes_on (verb ∷ call ∷ words)) (one_word with all)
  two_or_more (inl lt) =
      let at : get_or with (position_or_len is_space with) 0 ≡ 32 = eqb-true _ 32 (passes_at_first is_space with 0 lt) in
      let none : number_in with ≡ None = no_number with (position_or_len is_space with) lt at _ refl in
      ap (λ words. deed_in begins goes_on (verb ∷ call ∷ words)) (slice_split_first is_space with 0 lt)
      ∙ too_many (before_first is_space with) (words_of (after_first is_space with)) (omega (arith, length-slice_split is_space (after_first is_space with)))
      ∙ sym (never (bytes_eq verb begins))
      ∙ ap (λ n. if bytes_eq verb begins then n else None) (sym (none_begun (number_in call)) ∙ ap (begun (number_in call)) (sym none))

  pub deed_two : deed_in begins goes_on (verb ∷ call ∷ words_of with) ≡ (if bytes_eq verb begins then begun (number_in call) (number_in with) else None)
  deed_two = two_or_more (cases_lt (position_or_len is_space with) (length with))

-- what a verb and the words of a text say
pub deed_cut : (begins goes_on verb numbers : List ℕ) (r : Option (Bor (List ℕ) × Bor (List ℕ))) → IsSplitOnceResult 32 numbers r
    → MatchOption r (deed_in begins goes_on (verb ∷ words_of numbers) ≡ (if bytes_eq verb goes_on then option_map GoesOn (number_in numbers) else None))
    (λ x. deed_in begins goes_on (verb ∷ words_of numbers) ≡ (if bytes_eq verb begins then begun (number_in x.0.now) (number_in x.1.now) else None))
deed_cut begins goes_on verb numbers None p = ap (λ words. deed_in begins goes_on (verb ∷ words)) (words_cut numbers None p)
deed_cut begins goes_on verb numbers (Some x) p =
    ap (λ words. deed_in begins goes_on (verb ∷ words)) (words_cut numbers (Some x) p) ∙ deed_two begins goes_on verb x.0.now x.1.now

-- what the words of a text say that a caller does
pub words_deed : (begins goes_on words : List ℕ) (r : Option (Bor (List ℕ) × Bor (List ℕ))) → IsSplitOnceResult 32 words r
    → MatchOption r (deed_in begins goes_on (words_of words) ≡ None) (λ x. deed_in begins goes_on (words_of words) ≡ deed_in begins goes_on (x.0.now ∷ words_of x.1.now))
words_deed begins goes_on words None p = ap (deed_in begins goes_on) (words_cut words None p)
words_deed begins goes_on words (Some x) p = ap (deed_in begins goes_on) (words_cut words (Some x) p)

no_pair : (who : Option Who) → option_zip who no_deed ≡ None
no_pair None = refl
no_pair (Some who) = refl

-- what the words of a text say that a caller does, and who
pub words_move : (begins goes_on text : List ℕ) (r : Option (Bor (List ℕ) × Bor (List ℕ))) → IsSplitOnceResult 32 text r
    → MatchOption r (move_in begins goes_on text ≡ None) (λ x. move_in begins goes_on text ≡ option_zip (who_in x.0.now) (deed_in begins goes_on (words_of x.1.now)))
words_move begins goes_on text None p = ap (move_of begins goes_on) (words_cut text None p) ∙ no_pair (who_in text)
words_move begins goes_on text (Some x) p = ap (move_of begins goes_on) (words_cut text (Some x) p)
