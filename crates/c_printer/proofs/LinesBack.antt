-- A printed line is cut into the words of its tokens, and says its line.
use Rattle.std.proofs.Common.{◌≡◌, ℕ, ◌<◌, true, false, List, [], ◌∷◌, ◌++◌, map, length, Option, Some, refl, sym, ◌∙◌, ap, arith}
use Rattle.std.specs.List.{list_all}
use Rattle.std.proofs.lemmas.Bool.{and_from, and_parts}
use Rattle.std.proofs.lemmas.Bool.Decides.{nat_tests}
use Rattle.std.proofs.lemmas.List.{append-nil}
use Rattle.std.proofs.lemmas.List.Folds.{list_all-append}
use Rattle.oa_text.specs.Tokens.{is_ink, is_plain, words_of}
use Rattle.oa_text.proofs.WordLemmas.{words_of_blank, words_of_word, words_of_last}
use Rattle.norm_lang.specs.Spelling.{spaced}
use Rattle.norm_lang.specs.LineWords.{is_name}
use Rattle.norm_lang.proofs.SpelledLines.{is_visible, each}
use Rattle.c_printer.specs.declared.tokens.Token.{Token}
use Rattle.c_printer.specs.Names.{are_names}
use Rattle.c_printer.specs.Words.{token_word, token_bytes}
use Rattle.c_printer.specs.Tokens.{line_tokens}
use Rattle.c_printer.specs.Lexing.{after_said, tokens_said}
use Rattle.c_printer.specs.Reading.{line_said}
use Rattle.c_printer.specs.Fitting.{is_fitting}
use Rattle.c_printer.specs.Laws.{LinesReadBack}
use Rattle.c_printer.proofs.TokensBack.{is_word, printed}
use Rattle.c_printer.proofs.LineBack.{line_back}

ink : (b : ℕ) → is_visible b ≡ true → is_ink b ≡ true
ink b visible = grind (arith, nat_tests)

plain : (b : ℕ) → is_visible b ≡ true → is_plain b ≡ true
plain b visible = grind (arith, nat_tests)

word_ink : (word : List ℕ) → is_word word ≡ true → list_all is_ink word ≡ true
word_ink [] is = refl
word_ink (b ∷ bytes) is = each is_visible is_ink (b ∷ bytes) ink is

word_plain : (word : List ℕ) → is_word word ≡ true → list_all is_plain word ≡ true
word_plain [] is = refl
word_plain (b ∷ bytes) is = each is_visible is_plain (b ∷ bytes) plain is

word_some : (word : List ℕ) → is_word word ≡ true → 0 < length word
word_some [] is = let e : false ≡ true = is in absurd (let f : ⊥ = cc in f)
word_some (b ∷ bytes) is = omega arith

-- words with a space before each are cut at the spaces
words_back : (words : List (List ℕ)) → list_all is_word words ≡ true → words_of (spaced words) ≡ words
words_back [] are = refl
words_back (word ∷ []) are =
    let is = (and_parts (is_word word) true are).0 in
    words_of_blank 32 (word ++ []) refl ∙ ap words_of (append-nil word) ∙ words_of_last word (word_some word is) (word_ink word is)
words_back (word ∷ (other ∷ words)) are =
    let parts = and_parts (is_word word) (list_all is_word (other ∷ words)) are in
    words_of_blank 32 (word ++ spaced (other ∷ words)) refl
    ∙ words_of_word 32 word (other ++ spaced words) (word_some word parts.0) (word_ink word parts.0) refl
    ∙ ap (λ (l : List (List ℕ)). word ∷ l) (sym (words_of_blank 32 (other ++ spaced words) refl) ∙ words_back (other ∷ words) parts.1)

-- and hold no newline
pub words_plain : (words : List (List ℕ)) → list_all is_word words ≡ true → list_all is_plain (spaced words) ≡ true
words_plain [] are = refl
words_plain (word ∷ words) are =
    let parts = and_parts (is_word word) (list_all is_word words) are in
    list_all-append is_plain word (spaced words) ∙ and_from (list_all is_plain word) (list_all is_plain (spaced words)) (word_plain word parts.0) (words_plain words parts.1)

-- tokens that fit are printed as words
pub are_words : (name : List ℕ) (names : List (List ℕ)) (ts : List Token) → is_name name ≡ true → are_names names ≡ true → list_all (is_fitting names) ts ≡ true
    → list_all is_word (map (token_word name names) ts) ≡ true
are_words name names [] is are fit = refl
are_words name names (t ∷ ts) is are fit =
    let parts = and_parts (is_fitting names t) (list_all (is_fitting names) ts) fit in
    and_from (is_word (token_word name names t)) (list_all is_word (map (token_word name names) ts)) (printed name names t is are parts.0).word (are_words name names ts is are parts.1)

-- and are read again
tokens_back : (name : List ℕ) (names : List (List ℕ)) (ts : List Token) → is_name name ≡ true → are_names names ≡ true → list_all (is_fitting names) ts ≡ true
    → tokens_said name names (map (token_word name names) ts) ≡ Some ts
tokens_back name names [] is are fit = refl
tokens_back name names (t ∷ ts) is are fit =
    let parts = and_parts (is_fitting names t) (list_all (is_fitting names) ts) fit in
    rw ((printed name names t is are parts.0).said, tokens_back name names ts is are parts.1) refl

pub bytes_back : (name : List ℕ) (names : List (List ℕ)) (ts : List Token) → is_name name ≡ true → are_names names ≡ true → list_all (is_fitting names) ts ≡ true
    → tokens_said name names (words_of (token_bytes name names ts)) ≡ Some ts
bytes_back name names ts is are fit =
    ap (tokens_said name names) (words_back (map (token_word name names) ts) (are_words name names ts is are fit)) ∙ tokens_back name names ts is are fit

pub lines_back : LinesReadBack
lines_back name names line is are fit =
    ap (λ (o : Option (List Token)). after_said o line_said) (bytes_back name names (line_tokens line) is are fit) ∙ line_back line
