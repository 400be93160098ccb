-- How bytes fall into tokens: leading blanks go, a word up to its edge is the first token.
use Rattle.std.proofs.Common.{◌≡◌, ℕ, suc, ◌+◌, ◌<◌, ◌≤◌, Bool, true, false, cond, List, [], ◌∷◌, ◌++◌, length, take, drop, get_or, eqb, ⊎_elim, refl, sym, ap, ◌∙◌, arith, eq-eqb}
use Rattle.std.proofs.Math.Numerals.{one-add}
use Rattle.std.proofs.lemmas.Bool.{cases_Bool, not-true, and_parts, false_from_ne_true, eqb-true}
use Rattle.std.proofs.lemmas.List.{drop_more, take-append-drop, length-drop}
use Rattle.std.proofs.lemmas.List.Folds.{length-prefix_len}
use Rattle.std.proofs.lemmas.List.Sums.{prefix_len_stops, prefix_len-le-length}
use Rattle.std.specs.List.{list_all, prefix_len}
use Rattle.oa_text.specs.Tokens.{TextToken, is_blank, is_ink, is_edge, joined, tokens_from}

-- a leading blank makes no token
pub tokens_from_blank : (c b : ℕ) (bytes : List ℕ) → is_blank b ≡ true → tokens_from c (b ∷ bytes) ≡ tokens_from (c + 1) bytes
tokens_from_blank c b bytes blank = rw blank refl

-- the first token, if any, begins at the column or after it
abbrev IsBehind : ℕ → List TextToken → Type 0
IsBehind c [] = Unit {0}
IsBehind c (token ∷ tokens) = c ≤ token.column

before_one : (c : ℕ) (tokens : List TextToken) → IsBehind (c + 1) tokens → IsBehind c tokens
before_one c [] behind = tt
before_one c (token ∷ tokens) behind = omega arith

joined_behind : (c b : ℕ) (tokens : List TextToken) → IsBehind c (joined c b tokens)
joined_behind c b [] = omega arith
joined_behind c b (token ∷ tokens) =
    elim (eqb token.column (c + 1)) as (λ t. IsBehind c (cond t (record { column = c; bytes = b ∷ token.bytes } ∷ tokens) (record { column = c; bytes = b ∷ [] } ∷ token ∷ tokens))) [
      | true ↦ omega arith
      | false ↦ omega arith
    ]

tokens_behind : (c : ℕ) (bytes : List ℕ) → IsBehind c (tokens_from c bytes)
tokens_behind c [] = tt
tokens_behind c (b ∷ bytes) =
    elim (is_blank b) as (λ t. IsBehind c (cond t (tokens_from (c + 1) bytes) (joined c b (tokens_from (c + 1) bytes)))) [
      | true ↦ before_one c (tokens_from (c + 1) bytes) (tokens_behind (c + 1) bytes)
      | false ↦ joined_behind c b (tokens_from (c + 1) bytes)
    ]

-- after an edge no token begins at once
edge_behind : (c : ℕ) (bytes : List ℕ) → is_edge bytes ≡ true → IsBehind (c + 1) (tokens_from c bytes)
edge_behind c [] edge = tt
edge_behind c (b ∷ bytes) edge = rw edge (tokens_behind (c + 1) bytes)

joined_alone : (c b : ℕ) (tokens : List TextToken) → IsBehind (c + 1 + 1) tokens → joined c b tokens ≡ record { column = c; bytes = b ∷ [] } ∷ tokens
joined_alone c b [] behind = refl
joined_alone c b (token ∷ tokens) behind =
    let other : eqb token.column (c + 1) ≡ false = false_from_ne_true (eqb token.column (c + 1)) (λ same. let at : token.column ≡ c + 1 = eqb-true token.column (c + 1) same in absurd (omega arith)) in
    rw other refl

word_more : (c b : ℕ) (word rest : List ℕ) → is_blank b ≡ false → list_all is_ink word ≡ true → is_edge rest ≡ true
    → tokens_from c (b ∷ (word ++ rest)) ≡ record { column = c; bytes = b ∷ word } ∷ tokens_from (c + suc (length word)) rest
word_more c b [] rest ink all edge = rw ink (joined_alone c b (tokens_from (c + 1) rest) (edge_behind (c + 1) rest edge))
word_more c b (a ∷ word) rest ink all edge =
    let parts = and_parts (is_ink a) (list_all is_ink word) all in
    let next = word_more (c + 1) a word rest (not-true (is_blank a) parts.0) parts.1 edge in
    let same : eqb (c + 1) (c + 1) ≡ true = eq-eqb (c + 1) (c + 1) refl in
    let place : c + 1 + suc (length word) ≡ c + suc (suc (length word)) = omega arith in
    rw (ink, next, same, place) refl

-- a word up to an edge is the first token
pub tokens_from_word : (c : ℕ) (word rest : List ℕ) → 0 < length word → list_all is_ink word ≡ true → is_edge rest ≡ true
    → tokens_from c (word ++ rest) ≡ record { column = c; bytes = word } ∷ tokens_from (c + length word) rest
tokens_from_word c [] rest some all edge = absurd (omega arith)
tokens_from_word c (b ∷ word) rest some all edge =
    let parts = and_parts (is_ink b) (list_all is_ink word) all in
    word_more c b word rest (not-true (is_blank b) parts.0) parts.1 edge

prefix_more : (p : ℕ → Bool) (b : ℕ) (bytes : List ℕ) → p b ≡ true → prefix_len p (b ∷ bytes) ≡ suc (prefix_len p bytes)
prefix_more p b bytes passes = rw passes (one-add (prefix_len p bytes))

prefix_none : (p : ℕ → Bool) (b : ℕ) (bytes : List ℕ) → p b ≡ false → prefix_len p (b ∷ bytes) ≡ 0
prefix_none p b bytes fails = rw fails refl

-- all leading blanks go
pub blanks_skipped : (c : ℕ) (bytes : List ℕ) → tokens_from c bytes ≡ tokens_from (c + prefix_len is_blank bytes) (drop (prefix_len is_blank bytes) bytes)
blanks_skipped c [] = refl
blanks_skipped c (b ∷ bytes) =
    let left = λ (k : ℕ). tokens_from (c + k) (drop k (b ∷ bytes)) in
    ⊎_elim
    (λ blank.
    let n = prefix_len is_blank bytes in
    let place : c + 1 + n ≡ c + suc n = omega arith in
    tokens_from_blank c b bytes blank ∙ blanks_skipped (c + 1) bytes ∙ ap (λ k. tokens_from k (drop n bytes)) place ∙ sym (ap left (prefix_more is_blank b bytes blank)))
    (λ ink. let place : c ≡ c + 0 = omega arith in ap (λ k. tokens_from k (b ∷ bytes)) place ∙ sym (ap left (prefix_none is_blank b bytes ink)))
    (cases_Bool (is_blank b))

-- leading blanks and words are no longer than the bytes
pub ruleset fronts = (prefix_len-le-length)

-- after the blanks stands none
pub skipped_to_ink : (bytes rest : List ℕ) (b : ℕ) → drop (prefix_len is_blank bytes) bytes ≡ b ∷ rest → is_blank b ≡ false
skipped_to_ink bytes rest b same =
    let n = prefix_len is_blank bytes in
    let lt : n < length bytes = omega (arith, ap length same, length-drop n bytes) in
    let first : get_or bytes n 0 ∷ drop (n + 1) bytes ≡ b ∷ rest = sym (drop_more bytes n 0 lt) ∙ same in
    let byte : get_or bytes n 0 ≡ b = cc in
    rw byte at (prefix_len_stops is_blank bytes 0 lt)

pub word_inked : (bytes : List ℕ) → list_all is_ink (take (prefix_len is_ink bytes) bytes) ≡ true
word_inked [] = refl
word_inked (b ∷ bytes) =
    ⊎_elim
    (λ blank. rw blank refl)
    (λ ink. rw (one-add, ink) (rw ink (word_inked bytes)))
    (cases_Bool (is_blank b))

pub word_some : (b : ℕ) (bytes : List ℕ) → is_blank b ≡ false → 0 < prefix_len is_ink (b ∷ bytes)
word_some b bytes ink = rw ink (omega arith)

pub word_ends : (bytes : List ℕ) → is_edge (drop (prefix_len is_ink bytes) bytes) ≡ true
word_ends [] = refl
word_ends (b ∷ bytes) =
    let ends = λ (k : ℕ). is_edge (drop k (b ∷ bytes)) in
    ⊎_elim
    (λ blank. let no : is_ink b ≡ false = rw blank refl in ap ends (prefix_none is_ink b bytes no) ∙ blank)
    (λ ink. let yes : is_ink b ≡ true = rw ink refl in ap ends (prefix_more is_ink b bytes yes) ∙ word_ends bytes)
    (cases_Bool (is_blank b))

pub no_token : (c n : ℕ) (bytes rest : List ℕ) → n ≡ prefix_len is_blank bytes → rest ≡ drop n bytes → length rest ≡ 0 → tokens_from c bytes ≡ []
no_token c n bytes [] count same none = blanks_skipped c bytes ∙ (rw (← count, ← same) refl)
no_token c n bytes (b ∷ rest) count same none = absurd (omega arith)

-- bytes that begin with no blank: the leading word is the first token
pub cut_word : (c b : ℕ) (bytes : List ℕ) → is_blank b ≡ false
    → tokens_from c (b ∷ bytes) ≡ record { column = c; bytes = take (prefix_len is_ink (b ∷ bytes)) (b ∷ bytes) } ∷ tokens_from (c + prefix_len is_ink (b ∷ bytes)) (drop (prefix_len is_ink (b ∷ bytes)) (b ∷ bytes))
cut_word c b bytes ink =
    let m = prefix_len is_ink (b ∷ bytes) in
    let word = take m (b ∷ bytes) in
    let long : length word ≡ m = length-prefix_len is_ink (b ∷ bytes) in
    let some : 0 < length word = rw long (word_some b bytes ink) in
    ap (tokens_from c) (sym (take-append-drop m (b ∷ bytes)))
    ∙ tokens_from_word c word (drop m (b ∷ bytes)) some (word_inked (b ∷ bytes)) (word_ends (b ∷ bytes))
    ∙ ap (λ (k : ℕ). record { column = c; bytes = word } ∷ tokens_from (c + k) (drop m (b ∷ bytes))) long

pub first_token : (c n m : ℕ) (bytes inked word rest : List ℕ) → n ≡ prefix_len is_blank bytes → inked ≡ drop n bytes → 0 < length inked
    → m ≡ prefix_len is_ink inked → word ≡ take m inked → rest ≡ drop m inked
    → tokens_from c bytes ≡ record { column = c + n; bytes = word } ∷ tokens_from (c + n + length word) rest
first_token c n m bytes [] word rest skipped behind some count front back = absurd (omega arith)
first_token c n m bytes (b ∷ inked) word rest skipped behind some count front back =
    let ink : is_blank b ≡ false = skipped_to_ink bytes inked b (rw (← skipped) (sym behind)) in
    let long : length word ≡ m = rw (front, count) (length-prefix_len is_ink (b ∷ inked)) in
    blanks_skipped c bytes ∙ (rw (← skipped) (ap (tokens_from (c + n)) (sym behind) ∙ cut_word (c + n) b inked ink ∙ (rw (← count, ← front, ← back, long) refl)))
