-- Lists of declarations, each with a name of its own.
use Rattle.std.specs.Prelude.{◌≡◌, ℕ, Bool, true, false, not, ◌&&◌, List, [], ◌∷◌, ◌++◌, map, length, nat_lt, nat_le}
use Rattle.std.specs.List.{list_all, list_any}
use Rattle.std.specs.Str.{bytes_eq}
use Rattle.std.proofs.Common.{refl, ◌∙◌, arith, length-append}
use Rattle.std.proofs.lemmas.Bool.{and_from, and_parts, not-true, not_from_false, or_from, or_parts}
use Rattle.std.proofs.lemmas.Bool.Decides.{nat_tests}
use Rattle.std.proofs.lemmas.List.Folds.{list_all-append}
use Rattle.norm_lang.specs.Limits.{has_between, are_different}
use Rattle.text_laws.proofs.WordsRead.{other_bytes}

-- every item passes, and so does one more
pub all_pushed : {A : Type 0} (test : A → Bool) (items : List A) (item : A) → list_all test items ≡ true → test item ≡ true → list_all test (items ++ item ∷ []) ≡ true
all_pushed test items item all one = list_all-append test items (item ∷ []) ∙ and_from _ _ all (and_from _ _ one refl)

-- no item has a name, and one more has another
none_pushed : {A : Type 0} (name : A → List ℕ) (wanted : List ℕ) (items : List A) (item : A)
    → list_any (λ other. bytes_eq other wanted) (map name items) ≡ false → bytes_eq (name item) wanted ≡ false
    → list_any (λ other. bytes_eq other wanted) (map name (items ++ item ∷ [])) ≡ false
none_pushed name wanted [] item none differs = or_from _ _ differs refl
none_pushed name wanted (x ∷ items) item none differs =
    let parts = or_parts (bytes_eq (name x) wanted) (list_any (λ other. bytes_eq other wanted) (map name items)) none in
    or_from _ _ parts.0 (none_pushed name wanted items item parts.1 differs)

-- the names are different, and one more is new
pub different_pushed : {A : Type 0} (name : A → List ℕ) (items : List A) (item : A)
    → are_different (map name items) ≡ true → list_any (λ other. bytes_eq (name other) (name item)) items ≡ false
    → are_different (map name (items ++ item ∷ [])) ≡ true
different_pushed name [] item apart new = refl
different_pushed name (x ∷ items) item apart new =
    let parts = and_parts (not (list_any (λ other. bytes_eq other (name x)) (map name items))) (are_different (map name items)) apart in
    let news = or_parts (bytes_eq (name x) (name item)) (list_any (λ other. bytes_eq (name other) (name item)) items) new in
    and_from _ _ (not_from_false _ (none_pushed name (name x) items item (not-true _ parts.0) (other_bytes (name x) (name item) news.0)))
    (different_pushed name items item parts.1 news.1)

-- at most so many items, each of them good, with different names
pub record SoFar {A : Type 0} (most : ℕ) (name : A → List ℕ) (good : A → Bool) (items : List A) : Type 0 where
  pub few : nat_le (length items) most ≡ true
  pub each : list_all good items ≡ true
  pub apart : are_different (map name items) ≡ true

-- there is room for one more, and its name is new
pub record IsNext {A : Type 0} (most : ℕ) (name : A → List ℕ) (items : List A) (item : A) : Type 0 where
  pub room : nat_lt (length items) most ≡ true
  pub new : not (list_any (λ other. bytes_eq (name other) (name item)) items) ≡ true

-- one more
pub pushed : {A : Type 0} (most : ℕ) (name : A → List ℕ) (good : A → Bool) (items : List A) (item : A)
    → SoFar most name good items → IsNext most name items item → good item ≡ true → SoFar most name good (items ++ item ∷ [])
pushed most name good items item so_far next fine = record {
  few = few_pushed items item next.room;
  each = all_pushed good items item so_far.each fine;
  apart = different_pushed name items item so_far.apart (not-true _ next.new);
}
  where
    few_pushed : {A : Type 0} (items : List A) (item : A) → nat_lt (length items) most ≡ true → nat_le (length (items ++ item ∷ [])) most ≡ true
    few_pushed items item h = let k = length-append items (item ∷ []) in grind (arith, nat_tests, k)

-- as many items as a text has, at least one
pub whole_list : {A : Type 0} (most : ℕ) (name : A → List ℕ) (good : A → Bool) (items : List A)
    → SoFar most name good items → nat_lt 0 (length items) ≡ true
    → has_between 1 most items && (list_all good items && are_different (map name items)) ≡ true
whole_list most name good items so_far some = and_from _ _ (and_from _ _ some so_far.few) (and_from _ _ so_far.each so_far.apart)
