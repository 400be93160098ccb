-- The words of bytes, whatever column they begin at: for readers that go over spelled lines.
use Rattle.std.proofs.Common.{◌≡◌, ℕ, zero, suc, ◌+◌, ◌<◌, ◌≤◌, true, List, [], ◌∷◌, ◌++◌, length, take, drop, map, ⊎_elim, refl, sym, ap, ◌∙◌, arith}
use Rattle.std.proofs.lemmas.Bool.{cases_Bool}
use Rattle.std.proofs.lemmas.List.{append-nil, length-drop}
use Rattle.std.specs.List.{list_all, prefix_len}
use Rattle.oa_text.specs.Tokens.{TextToken, is_blank, is_ink, tokens_from, words_of}
use Rattle.oa_text.proofs.TokenLemmas.{tokens_from_blank, tokens_from_word, cut_word, word_some}

-- the words of bytes that begin at a column
abbrev words_from : ℕ → List ℕ → List (List ℕ)
words_from c bytes = map (λ (token : TextToken). token.bytes) (tokens_from c bytes)

-- the column doesn't matter
anywhere : (k c d : ℕ) (bytes : List ℕ) → length bytes ≤ k → words_from c bytes ≡ words_from d bytes
anywhere k c d [] le = refl
anywhere zero c d (b ∷ bytes) le = absurd (omega arith)
anywhere (suc k) c d (b ∷ bytes) le =
    ⊎_elim
    (λ blank. rw (tokens_from_blank c b bytes blank, tokens_from_blank d b bytes blank) (anywhere k (c + 1) (d + 1) bytes (omega arith)))
    (λ ink.
    let m = prefix_len is_ink (b ∷ bytes) in
    let some : 0 < m = word_some b bytes ink in
    let short : length (drop m (b ∷ bytes)) ≤ k = omega (arith, length-drop m (b ∷ bytes)) in
    rw (cut_word c b bytes ink, cut_word d b bytes ink) (ap (λ (words : List (List ℕ)). take m (b ∷ bytes) ∷ words) (anywhere k (c + m) (d + m) (drop m (b ∷ bytes)) short)))
    (cases_Bool (is_blank b))

-- a leading blank makes no word
pub words_of_blank : (b : ℕ) (rest : List ℕ) → is_blank b ≡ true → words_of (b ∷ rest) ≡ words_of rest
words_of_blank b rest blank = rw (tokens_from_blank 1 b rest blank) (anywhere (length rest) 2 1 rest (omega arith))

-- a word and a blank after it
pub words_of_word : (b : ℕ) (word rest : List ℕ) → 0 < length word → list_all is_ink word ≡ true → is_blank b ≡ true
    → words_of (word ++ b ∷ rest) ≡ word ∷ words_of rest
words_of_word b word rest some all blank =
    let c = 1 + length word in
    rw (tokens_from_word 1 word (b ∷ rest) some all blank, tokens_from_blank c b rest blank)
    (ap (λ (words : List (List ℕ)). word ∷ words) (anywhere (length rest) (c + 1) 1 rest (omega arith)))

-- a word alone
pub words_of_last : (word : List ℕ) → 0 < length word → list_all is_ink word ≡ true → words_of word ≡ word ∷ []
words_of_last word some all = ap words_of (sym (append-nil word)) ∙ (rw (tokens_from_word 1 word [] some all refl) refl)
