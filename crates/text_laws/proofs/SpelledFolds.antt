-- Spelled lines, read one after another.
use Rattle.std.specs.Prelude.{◌≡◌, ℕ, ◌+◌, ◌&&◌, Bool, true, false, not, List, [], ◌∷◌, ◌++◌, map, Result, Ok, Err}
use Rattle.std.specs.List.{list_all, list_any, AllByRecursion}
use Rattle.std.specs.Str.{bytes_eq}
use Rattle.std.proofs.Common.{refl, ap, ◌∙◌, sym, append_assoc}
use Rattle.std.proofs.lemmas.Bool.{and_parts, or_parts, not-true}
use Rattle.std.proofs.lemmas.List.{append-nil}
use Rattle.std.proofs.lemmas.List.Folds.{list_all-append}
use Rattle.oa_text.specs.Lines.{numbered}
use Rattle.norm_lang.specs.Spelling.{joined_words}
use Rattle.norm_lang.specs.Faults.{◌>>=◌, at_line}
use Rattle.norm_lang.specs.Grammar.{Draft, after_words, after_lines}
use Rattle.norm_lang.specs.Limits.{are_different}
use Rattle.norm_lang.proofs.SpelledLines.{IsLine, words_found, no_line_fault}
use Rattle.text_laws.proofs.WordsRead.{other_bytes}

-- the draft after the lines' words
abbrev pub after_spelled : Draft → List (List (List ℕ)) → Result Draft ℕ
after_spelled draft [] = Ok draft
after_spelled draft (words ∷ lines) = after_words draft words >>= λ next. after_spelled next lines

-- a first line, and then others
pub line_then : (draft next : Draft) (words : List (List ℕ)) (lines : List (List (List ℕ))) (r : Result Draft ℕ) → after_words draft words ≡ Ok next → after_spelled next lines ≡ r
    → after_spelled draft (words ∷ lines) ≡ r
line_then draft next words lines r first others = rw first others

-- first lines, and then others
pub lines_then : (draft next : Draft) (xs ys : List (List (List ℕ))) (r : Result Draft ℕ) → after_spelled draft xs ≡ Ok next → after_spelled next ys ≡ r → after_spelled draft (xs ++ ys) ≡ r
lines_then draft next [] ys r first others = let same : draft ≡ next = cc in rw same others
lines_then draft next (words ∷ xs) ys r first others = go (after_words draft words) first (λ d read. lines_then d next xs ys r read others)
  where
    go : (w : Result Draft ℕ) → (w >>= λ d. after_spelled d xs) ≡ Ok next → ((d : Draft) → after_spelled d xs ≡ Ok next → after_spelled d (xs ++ ys) ≡ r)
        → (w >>= λ d. after_spelled d (xs ++ ys)) ≡ r
    go (Ok d) first more = more d first
    go (Err e) first more = let f : ⊥ = cc in absurd f

-- items of a list, each with one line: the draft of the items before it becomes the draft with it
pub items_read : {A : Type 0} (line : A → List (List ℕ)) (at : List A → Draft) (whole : List A)
    → ((done rest : List A) (x : A) → done ++ x ∷ rest ≡ whole → after_words (at done) (line x) ≡ Ok (at (done ++ x ∷ [])))
    → (done rest : List A) → done ++ rest ≡ whole → after_spelled (at done) (map line rest) ≡ Ok (at whole)
items_read line at whole step done [] same = let e : done ≡ whole = sym (append-nil done) ∙ same in rw e refl
items_read line at whole step done (x ∷ rest) same =
    line_then (at done) (at (done ++ x ∷ [])) (line x) (map line rest) (Ok (at whole)) (step done rest x same)
    (items_read line at whole step (done ++ x ∷ []) rest (append_assoc done (x ∷ []) rest ∙ same))

-- an item among others
pub passes_among : {A : Type 0} (test : A → Bool) (done rest whole : List A) (x : A) → done ++ x ∷ rest ≡ whole → list_all test whole ≡ true → test x ≡ true
passes_among test done rest whole x same all =
    let both : list_all test done && (test x && list_all test rest) ≡ true = sym (list_all-append test done (x ∷ rest)) ∙ ap (list_all test) same ∙ all in
    (and_parts (test x) (list_all test rest) (and_parts (list_all test done) (test x && list_all test rest) both).1).0

later : {A : Type 0} (name : A → List ℕ) (first : List ℕ) (done rest : List A) (x : A) → list_any (λ other. bytes_eq other first) (map name (done ++ x ∷ rest)) ≡ false
    → bytes_eq first (name x) ≡ false
later name first [] rest x none = other_bytes (name x) first (or_parts (bytes_eq (name x) first) (list_any (λ other. bytes_eq other first) (map name rest)) none).0
later name first (y ∷ done) rest x none = later name first done rest x (or_parts (bytes_eq (name y) first) (list_any (λ other. bytes_eq other first) (map name (done ++ x ∷ rest))) none).1

fresh : {A : Type 0} (name : A → List ℕ) (done rest : List A) (x : A) → are_different (map name (done ++ x ∷ rest)) ≡ true → list_any (λ y. bytes_eq (name y) (name x)) done ≡ false
fresh name [] rest x different = refl
fresh name (y ∷ done) rest x different =
    let parts = and_parts (not (list_any (λ other. bytes_eq other (name y)) (map name (done ++ x ∷ rest)))) (are_different (map name (done ++ x ∷ rest))) different in
    let other : bytes_eq (name y) (name x) ≡ false = later name (name y) done rest x (not-true (list_any (λ other. bytes_eq other (name y)) (map name (done ++ x ∷ rest))) parts.0) in
    rw (other, fresh name done rest x parts.1) refl

-- an item's name is none of those before it
pub fresh_among : {A : Type 0} (name : A → List ℕ) (done rest whole : List A) (x : A) → done ++ x ∷ rest ≡ whole → are_different (map name whole) ≡ true
    → list_any (λ y. bytes_eq (name y) (name x)) done ≡ false
fresh_among name done rest whole x same different = fresh name done rest x (ap (λ l. are_different (map name l)) same ∙ different)

-- the lines' bytes give the draft that their words give
pub lines_read : (lines : List (List (List ℕ))) (number : ℕ) (draft last : Draft) → AllByRecursion IsLine lines → after_spelled draft lines ≡ Ok last
    → after_lines draft (numbered number (map joined_words lines)) ≡ Ok last
lines_read [] number draft last are read = let same : draft ≡ last = cc in rw same refl
lines_read (words ∷ lines) number draft last are read =
    rw (no_line_fault number words are.0, words_found words are.0) (go (after_words draft words) read (λ d read. lines_read lines (number + 1) d last are.1 read))
  where
    go : (w : Result Draft ℕ) → (w >>= λ d. after_spelled d lines) ≡ Ok last
        → ((d : Draft) → after_spelled d lines ≡ Ok last → after_lines d (numbered (number + 1) (map joined_words lines)) ≡ Ok last)
        → (at_line number w >>= λ d. after_lines d (numbered (number + 1) (map joined_words lines))) ≡ Ok last
    go (Ok d) read more = more d read
    go (Err e) read more = let f : ⊥ = cc in absurd f
