-- The lines, words and names that are read are those that the bytes have.
use Rattle.std.specs.Prelude.{◌≡◌, ℕ, ◌≤◌, true, false, ◌&&◌, not, List, [], ◌∷◌, ◌++◌, length, ◌⊎◌, nat_le, ◌==◌}
use Rattle.std.specs.List.{list_all}
use Rattle.std.proofs.Common.{refl, ap, ◌∙◌, sym, arith, inl, inr, ⊎_elim}
use Rattle.std.proofs.lemmas.Bool.{and_from, and_parts, not-true, not_from_false, cases_Bool, eqb-true, leb-true, le-leb}
use Rattle.std.proofs.lemmas.List.{append-nil}
use Rattle.oa_text.specs.Lines.{onto, lines_of}
use Rattle.oa_text.specs.Tokens.{words_of}
use Rattle.oa_text.proofs.WordLemmas.{words_of_blank, words_of_word, words_of_last}
use Rattle.norm_lang.specs.LineWords.{is_name, is_name_byte}
use Rattle.text_laws.specs.LinesAndWords.{is_newline, AreLines, is_space_or_tab, ends_or_is_spaced, AreWords, is_lower_case, is_of_a_name, IsName, LinesAreCut, WordsAreRuns, NamesAreShort}

-- a word and what follows it
word_first : (word rest : List ℕ) → 1 ≤ length word → list_all (λ b. not (is_space_or_tab b)) word ≡ true → ends_or_is_spaced rest ≡ true → words_of (word ++ rest) ≡ word ∷ words_of rest
word_first word [] some all edge = ap words_of (append-nil word) ∙ words_of_last word (omega (arith, some)) all
word_first word (b ∷ rest) some all edge = words_of_word b word rest (omega (arith, some)) all edge ∙ ap (λ words. word ∷ words) (sym (words_of_blank b rest edge))

-- blanks before others make no word
blanks_first : (blanks rest : List ℕ) → list_all is_space_or_tab blanks ≡ true → words_of (blanks ++ rest) ≡ words_of rest
blanks_first [] rest all = refl
blanks_first (b ∷ blanks) rest all =
    let parts = and_parts (is_space_or_tab b) (list_all is_space_or_tab blanks) all in
    words_of_blank b (blanks ++ rest) parts.0 ∙ blanks_first blanks rest parts.1

words_found : (bytes : List ℕ) (words : List (List ℕ)) → AreWords bytes words → words_of bytes ≡ words
words_found bytes [] are = ap words_of (sym (append-nil bytes)) ∙ blanks_first bytes [] are
words_found bytes (word ∷ words) are =
    ap words_of are.2
    ∙ blanks_first are.0 (word ++ are.1) are.3
    ∙ word_first word are.1 are.4 are.5 are.6
    ∙ ap (λ words. word ∷ words) (words_found are.1 words are.7)

record Words (bytes : List ℕ) : Type 0 where
  words : List (List ℕ)
  are : AreWords bytes words

more_blank : (b : ℕ) (bytes : List ℕ) (words : List (List ℕ)) → is_space_or_tab b ≡ true → AreWords bytes words → AreWords (b ∷ bytes) words
more_blank b bytes [] blank are = and_from (is_space_or_tab b) (list_all is_space_or_tab bytes) blank are
more_blank b bytes (word ∷ words) blank are =
    (b ∷ are.0, are.1, ap (λ l. b ∷ l) are.2, and_from (is_space_or_tab b) (list_all is_space_or_tab are.0) blank are.3, are.4, are.5, are.6, are.7)

blank_edge : (bytes : List ℕ) → list_all is_space_or_tab bytes ≡ true → ends_or_is_spaced bytes ≡ true
blank_edge [] all = refl
blank_edge (b ∷ bytes) all = (and_parts (is_space_or_tab b) (list_all is_space_or_tab bytes) all).0

one_byte : (b : ℕ) → not (is_space_or_tab b) ≡ true → list_all (λ b. not (is_space_or_tab b)) (b ∷ []) ≡ true
one_byte b ink = and_from (not (is_space_or_tab b)) true ink refl

more_ink : (b : ℕ) (bytes : List ℕ) (words : List (List ℕ)) → not (is_space_or_tab b) ≡ true → AreWords bytes words → Words (b ∷ bytes)
more_ink b bytes [] ink are = record { words = (b ∷ []) ∷ []; are = ([], bytes, refl, refl, omega arith, one_byte b ink, blank_edge bytes are, are) }
more_ink b bytes (word ∷ words) ink are = go are.0 are.2 are.3
  where
    rest : List ℕ
    rest = are.1

    go : (blanks : List ℕ) → bytes ≡ blanks ++ (word ++ rest) → list_all is_space_or_tab blanks ≡ true → Words (b ∷ bytes)
    go [] same all = record {
      words = (b ∷ word) ∷ words;
      are = (
        [],
        rest,
        ap (λ l. b ∷ l) same,
        refl,
        omega arith,
        and_from (not (is_space_or_tab b)) (list_all (λ b. not (is_space_or_tab b)) word) ink are.5,
        are.6,
        are.7,
      );
    }
    go (c ∷ blanks) same all = record {
      words = (b ∷ []) ∷ word ∷ words;
      are = ([], bytes, refl, refl, omega arith, one_byte b ink, ap ends_or_is_spaced same ∙ (and_parts (is_space_or_tab c) (list_all is_space_or_tab blanks) all).0, are);
    }

some_words : (bytes : List ℕ) → Words bytes
some_words [] = record { words = []; are = refl }
some_words (b ∷ bytes) = go (some_words bytes) (cases_Bool (is_space_or_tab b))
  where
    go : Words bytes → (is_space_or_tab b ≡ true) ⊎ (is_space_or_tab b ≡ false) → Words (b ∷ bytes)
    go found test =
        ⊎_elim (λ blank. record { words = found.words; are = more_blank b bytes found.words blank found.are })
        (λ ink. more_ink b bytes found.words (not_from_false (is_space_or_tab b) ink) found.are) test

pub words_are_runs : WordsAreRuns
words_are_runs bytes words = (
  λ same.
      let found = some_words bytes in
      rw (sym (words_found bytes found.words found.are) ∙ same) at found.are,
  λ are. words_found bytes words are,
)

-- a line and what follows its newline
line_first : (line rest : List ℕ) → list_all (λ b. not (is_newline b)) line ≡ true → lines_of (line ++ 10 ∷ rest) ≡ line ∷ lines_of rest
line_first [] rest all = refl
line_first (b ∷ line) rest all =
    let parts = and_parts (not (is_newline b)) (list_all (λ b. not (is_newline b)) line) all in
    let other : (b == 10) ≡ false = not-true (is_newline b) parts.0 in
    rw other (ap (onto b) (line_first line rest parts.1))

-- a last line without a newline
line_last : (b : ℕ) (line : List ℕ) → list_all (λ b. not (is_newline b)) (b ∷ line) ≡ true → lines_of (b ∷ line) ≡ (b ∷ line) ∷ []
line_last b [] all =
    let other : (b == 10) ≡ false = not-true (is_newline b) (and_parts (not (is_newline b)) true all).0 in
    rw other refl
line_last b (c ∷ line) all =
    let parts = and_parts (not (is_newline b)) (list_all (λ b. not (is_newline b)) (c ∷ line)) all in
    let other : (b == 10) ≡ false = not-true (is_newline b) parts.0 in
    rw other (ap (onto b) (line_last c line parts.1))

last_found : (line : List ℕ) → 1 ≤ length line → list_all (λ b. not (is_newline b)) line ≡ true → lines_of line ≡ line ∷ []
last_found [] some all = absurd (omega (arith, some))
last_found (b ∷ line) some all = line_last b line all

lines_found : (bytes : List ℕ) (lines : List (List ℕ)) → AreLines bytes lines → lines_of bytes ≡ lines
lines_found bytes [] are = ap lines_of are
lines_found bytes (line ∷ lines) are =
    ⊎_elim (λ last. ap lines_of last.0 ∙ last_found line last.1 are.0 ∙ ap (λ l. line ∷ l) (sym last.2))
    (λ ended. ap lines_of ended.1 ∙ line_first line ended.0 are.0 ∙ ap (λ l. line ∷ l) (lines_found ended.0 lines ended.2)) are.1

record Lines (bytes : List ℕ) : Type 0 where
  lines : List (List ℕ)
  are : AreLines bytes lines

more_of_line : (b : ℕ) (bytes : List ℕ) (lines : List (List ℕ)) → not (is_newline b) ≡ true → AreLines bytes lines → Lines (b ∷ bytes)
more_of_line b bytes [] other are = record {
  lines = (b ∷ []) ∷ [];
  are = (and_from (not (is_newline b)) true other refl, inl (ap (λ l. b ∷ l) are, omega arith, refl));
}
more_of_line b bytes (line ∷ lines) other are = record {
  lines = (b ∷ line) ∷ lines;
  are = (
    and_from (not (is_newline b)) (list_all (λ b. not (is_newline b)) line) other are.0,
    ⊎_elim (λ last. inl (ap (λ l. b ∷ l) last.0, omega arith, last.2)) (λ ended. inr (ended.0, ap (λ l. b ∷ l) ended.1, ended.2)) are.1,
  );
}

some_lines : (bytes : List ℕ) → Lines bytes
some_lines [] = record { lines = []; are = refl }
some_lines (b ∷ bytes) = go (some_lines bytes) (cases_Bool (is_newline b))
  where
    go : Lines bytes → (is_newline b ≡ true) ⊎ (is_newline b ≡ false) → Lines (b ∷ bytes)
    go found test =
        ⊎_elim (λ newline. record { lines = [] ∷ found.lines; are = (refl, inr (bytes, ap (λ c. c ∷ bytes) (eqb-true b 10 newline), found.are)) })
        (λ other. more_of_line b bytes found.lines (not_from_false (is_newline b) other) found.are) test

pub lines_are_cut : LinesAreCut
lines_are_cut bytes lines = (
  λ same.
      let found = some_lines bytes in
      rw (sym (lines_found bytes found.lines found.are) ∙ same) at found.are,
  λ are. lines_found bytes lines are,
)

name_byte_too : (b : ℕ) → is_lower_case b ≡ true → is_of_a_name b ≡ true
name_byte_too b lower = rw lower refl

is_name_short : (name : List ℕ) → is_name name ≡ true → IsName name
is_name_short [] is = let e : false ≡ true = is in absurd (let f : ⊥ = cc in f)
is_name_short (b ∷ bytes) is =
    let parts = and_parts (is_lower_case b) (list_all is_name_byte bytes && nat_le (length bytes) 15) is in
    let rest = and_parts (list_all is_name_byte bytes) (nat_le (length bytes) 15) parts.1 in
    let short : length bytes ≤ 15 = leb-true (length bytes) 15 rest.1 in
    (omega arith, omega (arith, short), parts.0, and_from (is_of_a_name b) (list_all is_of_a_name bytes) (name_byte_too b parts.0) rest.0)

short_is_name : (name : List ℕ) → IsName name → is_name name ≡ true
short_is_name [] is = absurd (omega (arith, is.0))
short_is_name (b ∷ bytes) is =
    let parts = and_parts (is_of_a_name b) (list_all is_of_a_name bytes) is.3 in
    let short : length bytes ≤ 15 = omega (arith, is.1) in
    and_from (is_lower_case b) (list_all is_name_byte bytes && nat_le (length bytes) 15) is.2 (and_from (list_all is_name_byte bytes) (nat_le (length bytes) 15) parts.1 (le-leb (length bytes) 15 short))

pub names_are_short : NamesAreShort
names_are_short name = (λ is. is_name_short name is, λ is. short_is_name name is)
