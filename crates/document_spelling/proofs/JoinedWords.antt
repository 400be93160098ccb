-- Spelled lines of words, of any count, as they are found again; and a line's words take no more bytes than the line.
use Rattle.std.specs.Prelude.{◌≡◌, ℕ, ◌+◌, ◌≤◌, true, false, not, List, [], ◌∷◌, ◌++◌, map, length, nat_le}
use Rattle.std.specs.List.{list_all, flat_map, AllByRecursion}
use Rattle.std.proofs.Common.{refl, ap, ◌∙◌, sym, append_assoc, arith, length-append, inr}
use Rattle.std.proofs.lemmas.Bool.{and_from, and_parts, not-true}
use Rattle.std.proofs.lemmas.Bool.Decides.{nat_tests}
use Rattle.std.proofs.lemmas.List.Folds.{list_all-append}
use Rattle.oa_text.specs.Lines.{lines_of}
use Rattle.oa_text.specs.Tokens.{words_of}
use Rattle.norm_lang.specs.Spelling.{spaced, joined_words, line_bytes}
use Rattle.norm_lang.proofs.SpelledLines.{is_visible, IsWord, IsLine, each, words_found, no_line_fault}
use Rattle.text_laws.specs.LinesAndWords.{is_newline, AreLines, is_space_or_tab, ends_or_is_spaced, AreWords}
use Rattle.text_laws.specs.StandsFor.{is_plain_byte, is_plain_line}
use Rattle.text_laws.proofs.LinesAndWordsAre.{words_are_runs, lines_are_cut}
use Rattle.text_laws.proofs.TextsSaid.{line_plain}

-- a spelled line is plain, it isn't too long, and its words are found again
pub record IsPlain (words : List (List ℕ)) : Type 0 where
  pub plain : is_plain_line (joined_words words) ≡ true
  pub found : words_of (joined_words words) ≡ words

-- a line of a text is such a line
pub line_is_plain : (words : List (List ℕ)) → IsLine words → IsPlain words
line_is_plain words is = record {
  plain = rw (no_line_fault 1 words is) at (line_plain (record { number = 1; bytes = joined_words words }));
  found = words_found words is;
}

visible_plain : (b : ℕ) → is_visible b ≡ true → is_plain_byte b ≡ true
visible_plain b visible = grind (arith, nat_tests)

visible_inked : (b : ℕ) → is_visible b ≡ true → not (is_space_or_tab b) ≡ true
visible_inked b visible = grind (arith, nat_tests)

plain_in_line : (b : ℕ) → is_plain_byte b ≡ true → not (is_newline b) ≡ true
plain_in_line b plain = grind (arith, nat_tests)

both_plain : (xs ys : List ℕ) → list_all is_plain_byte xs ≡ true → list_all is_plain_byte ys ≡ true → list_all is_plain_byte (xs ++ ys) ≡ true
both_plain xs ys first second = list_all-append is_plain_byte xs ys ∙ and_from (list_all is_plain_byte xs) (list_all is_plain_byte ys) first second

word_plain : (word : List ℕ) → IsWord word → list_all is_plain_byte word ≡ true
word_plain word is = each is_visible is_plain_byte word visible_plain is.visible

word_inked : (word : List ℕ) → IsWord word → list_all (λ b. not (is_space_or_tab b)) word ≡ true
word_inked word is = each is_visible (λ b. not (is_space_or_tab b)) word visible_inked is.visible

spaced_plain : (words : List (List ℕ)) → AllByRecursion IsWord words → list_all is_plain_byte (spaced words) ≡ true
spaced_plain [] are = refl
spaced_plain (word ∷ words) are = both_plain word (spaced words) (word_plain word are.0) (spaced_plain words are.1)

joined_plain : (words : List (List ℕ)) → AllByRecursion IsWord words → list_all is_plain_byte (joined_words words) ≡ true
joined_plain [] are = refl
joined_plain (word ∷ words) are = both_plain word (spaced words) (word_plain word are.0) (spaced_plain words are.1)

spaced_edge : (words : List (List ℕ)) → ends_or_is_spaced (spaced words) ≡ true
spaced_edge [] = refl
spaced_edge (word ∷ words) = refl

spaced_are : (words : List (List ℕ)) → AllByRecursion IsWord words → AreWords (spaced words) words
spaced_are [] are = refl
spaced_are (word ∷ words) are = (32 ∷ [], spaced words, refl, refl, (are.0).some, word_inked word are.0, spaced_edge words, spaced_are words are.1)

joined_are : (words : List (List ℕ)) → AllByRecursion IsWord words → AreWords (joined_words words) words
joined_are [] are = refl
joined_are (word ∷ words) are = ([], spaced words, refl, refl, (are.0).some, word_inked word are.0, spaced_edge words, spaced_are words are.1)

-- a line of words is found again if it isn't too long
pub words_are_plain : (words : List (List ℕ)) → AllByRecursion IsWord words → length (joined_words words) ≤ 200 → IsPlain words
words_are_plain words are short = record {
  plain = and_from (nat_le (length (joined_words words)) 200) (list_all is_plain_byte (joined_words words)) (grind (arith, nat_tests)) (joined_plain words are);
  found = (words_are_runs (joined_words words) words).1 (joined_are words are);
}

no_newline : (words : List (List ℕ)) → IsPlain words → list_all (λ b. not (is_newline b)) (joined_words words) ≡ true
no_newline words is =
    let parts = and_parts (nat_le (length (joined_words words)) 200) (list_all is_plain_byte (joined_words words)) is.plain in
    each is_plain_byte (λ b. not (is_newline b)) (joined_words words) plain_in_line parts.1

lines_are : (lines : List (List (List ℕ))) → AllByRecursion IsPlain lines → AreLines (flat_map line_bytes lines) (map joined_words lines)
lines_are [] are = refl
lines_are (words ∷ lines) are = (
  no_newline words are.0,
  inr (flat_map line_bytes lines, append_assoc (joined_words words) (10 ∷ []) (flat_map line_bytes lines), lines_are lines are.1),
)

-- the lines that are spelled are the lines that are found
pub lines_found : (lines : List (List (List ℕ))) → AllByRecursion IsPlain lines → lines_of (flat_map line_bytes lines) ≡ map joined_words lines
lines_found lines are = (lines_are_cut (flat_map line_bytes lines) (map joined_words lines)).1 (lines_are lines are)

-- a word begins after at least one blank if a blank stands first
some_blank : (blanks word rest : List ℕ) → 1 ≤ length word → list_all (λ b. not (is_space_or_tab b)) word ≡ true
    → ends_or_is_spaced (blanks ++ (word ++ rest)) ≡ true → 1 ≤ length blanks
some_blank (b ∷ blanks) word rest some inked edge = omega arith
some_blank [] [] rest some inked edge = absurd (omega (arith, some))
some_blank [] (b ∷ word) rest some inked edge =
    let ink : is_space_or_tab b ≡ false = not-true (is_space_or_tab b) (and_parts (not (is_space_or_tab b)) (list_all (λ b. not (is_space_or_tab b)) word) inked).0 in
    let blank : is_space_or_tab b ≡ true = edge in
    let no : true ≡ false = sym blank ∙ ink in
    absurd (let f : ⊥ = cc in f)

pieces : (blanks word rest : List ℕ) → length (blanks ++ (word ++ rest)) ≡ length blanks + (length word + length rest)
pieces blanks word rest = omega (arith, length-append blanks (word ++ rest), length-append word rest)

spaced_no_longer : (bytes : List ℕ) (words : List (List ℕ)) → ends_or_is_spaced bytes ≡ true → AreWords bytes words → length (spaced words) ≤ length bytes
spaced_no_longer bytes [] edge are = omega arith
spaced_no_longer bytes (word ∷ words) edge are =
    let some : 1 ≤ length are.0 = some_blank are.0 word are.1 are.4 are.5 (ap ends_or_is_spaced (sym are.2) ∙ edge) in
    let rest : length (spaced words) ≤ length are.1 = spaced_no_longer are.1 words are.6 are.7 in
    let all : length bytes ≡ length are.0 + (length word + length are.1) = ap length are.2 ∙ pieces are.0 word are.1 in
    omega (arith, some, rest, all, length-append word (spaced words))

joined_no_longer : (bytes : List ℕ) (words : List (List ℕ)) → AreWords bytes words → length (joined_words words) ≤ length bytes
joined_no_longer bytes [] are = omega arith
joined_no_longer bytes (word ∷ words) are =
    let rest : length (spaced words) ≤ length are.1 = spaced_no_longer are.1 words are.6 are.7 in
    let all : length bytes ≡ length are.0 + (length word + length are.1) = ap length are.2 ∙ pieces are.0 word are.1 in
    omega (arith, rest, all, length-append word (spaced words))

-- the words of a line, with one space between, take no more bytes than it
pub words_no_longer : (bytes : List ℕ) → length (joined_words (words_of bytes)) ≤ length bytes
words_no_longer bytes = joined_no_longer bytes (words_of bytes) ((words_are_runs bytes (words_of bytes)).0 refl)
