-- A document whose lines are spelled: the text is read from its own lines, up to those that follow it, and these are read behind it.
use Rattle.std.specs.Prelude.{◌≡◌, ℕ, ◌+◌, ◌≤◌, true, List, [], ◌∷◌, ◌++◌, map, length, Result, Ok, codes}
use Rattle.std.specs.List.{flat_map, AllByRecursion}
use Rattle.std.proofs.Common.{refl, ap, sym, ◌∙◌, arith}
use Rattle.oa_text.specs.Lines.{TextLine, numbered}
use Rattle.norm_lang.specs.declared.text.Text.{Text}
use Rattle.norm_lang.specs.declared.text.Version.TheVariants.{Second}
use Rattle.norm_lang.specs.Spelling.{joined_words, line_bytes, spelled_version, spelled}
use Rattle.norm_lang.specs.Faults.{LineFault, ◌>>=◌}
use Rattle.norm_lang.specs.Grammar.{Opening, Draft, draft_at, finished}
use Rattle.norm_lang.specs.Grammar.{after_lines as lines_drafted}
use Rattle.norm_lang.specs.Limits.{is_within_limits}
use Rattle.norm_parser.specs.FrontRead.{from_line, front_of, line_word, ends_text, text_lines, after_text, front_in}
use Rattle.norm_parser.specs.Version.{after_version}
use Rattle.norm_parser.proofs.Fronts.{earlier, later}
use Rattle.documents.specs.declared.document.Document.{Document}
use Rattle.documents.specs.DocumentRead.{Tail, empty_tail, after_lines, document_of, document_read}
use Rattle.text_laws.proofs.LinesSpelled.{version_is}
use Rattle.text_laws.proofs.SpelledFolds.{after_spelled, lines_read}
use Rattle.text_laws.proofs.SpellingStands.{text_is, spelling_gives}
use Rattle.document_spelling.proofs.JoinedWords.{IsPlain, line_is_plain, lines_found}
use Rattle.document_spelling.proofs.OwnLines.{IsFree, all_both, own_lines, own_free, own_are, lines_are_plain}

-- lines as they are found, from a number on
abbrev pub found_from : ℕ → List (List (List ℕ)) → List TextLine
found_from n lines = numbered n (map joined_words lines)

pub found_both : (n : ℕ) (xs ys : List (List (List ℕ))) → found_from n (xs ++ ys) ≡ found_from n xs ++ found_from (n + length xs) ys
found_both n [] ys = let e : n ≡ n + 0 = omega arith in ap (λ k. found_from k ys) e
found_both n (words ∷ xs) ys =
    let e : n + 1 + length xs ≡ n + length (words ∷ xs) = omega arith in
    ap (λ (rest : List TextLine). record { number = n; bytes = joined_words words } ∷ rest) (found_both (n + 1) xs ys ∙ ap (λ k. found_from (n + 1) xs ++ found_from k ys) e)

-- lines that all come later
all_later : (n start : ℕ) (lines : List (List (List ℕ))) → start ≤ n → from_line start (found_from n lines) ≡ found_from n lines
all_later n start [] le = refl
all_later n start (words ∷ lines) le =
    let here : TextLine = record { number = n; bytes = joined_words words } in
    later start here (found_from (n + 1) lines) le ∙ ap (λ (rest : List TextLine). here ∷ rest) (all_later (n + 1) start lines (omega arith))

-- those behind others
behind : (n : ℕ) (xs ys : List (List (List ℕ))) → from_line (n + length xs) (found_from n (xs ++ ys)) ≡ found_from (n + length xs) ys
behind n [] ys = let e : n ≡ n + 0 = omega arith in ap (λ k. from_line (n + 0) (found_from k ys)) e ∙ all_later (n + 0) (n + 0) ys (omega arith)
behind n (words ∷ xs) ys =
    let start = n + length (words ∷ xs) in
    let e : n + 1 + length xs ≡ start = omega arith in
    earlier start (record { number = n; bytes = joined_words words }) (found_from (n + 1) (xs ++ ys)) (omega arith)
    ∙ ap (λ k. from_line k (found_from (n + 1) (xs ++ ys))) (sym e) ∙ behind (n + 1) xs ys ∙ ap (λ k. found_from k ys) e

-- the word that a spelled line begins with
begins_with : (n : ℕ) (words : List (List ℕ)) → IsPlain words → line_word (record { number = n; bytes = joined_words words }) ≡ front_of words
begins_with n words is = ap front_of is.found

-- a text's own lines, before a line with which a document goes on
record IsCut (own : List TextLine) (next : TextLine) (rest lines : List TextLine) : Type 0 where
  before : text_lines lines ≡ own
  after : after_text lines ≡ next ∷ rest

cut : (n : ℕ) (own : List (List (List ℕ))) (next : TextLine) (rest : List TextLine) → AllByRecursion IsPlain own → AllByRecursion IsFree own → ends_text (line_word next) ≡ true
    → IsCut (found_from n own) next rest (found_from n own ++ next ∷ rest)
cut n [] next rest plain free ends = record { before = rw ends refl; after = rw ends refl }
cut n (words ∷ own) next rest plain free ends =
    let others = cut (n + 1) own next rest plain.1 free.1 ends in
    let word = begins_with n words plain.0 in
    record {
      before = rw (word, free.0.0, free.0.1, others.before) refl;
      after = rw (word, free.0.0, free.0.1, others.after) refl;
    }

-- what reads a text of which the lines are cut
front_given : (lines own : List TextLine) (past : ℕ) (next : TextLine) (rest : List TextLine) (draft : Draft) (text : Text) → IsCut own next rest lines
    → lines_drafted (draft_at Second Opening) own ≡ Ok draft → finished draft ≡ Ok text → front_in Second lines past ≡ Ok (text, next.number)
front_given lines own past next rest draft text is read done = rw (is.before, read, is.after, done) refl

-- the text that its own lines give
record Gives (text : Text) : Type 0 where
  draft : Draft
  read : lines_drafted (draft_at Second Opening) (found_from 2 (own_lines text)) ≡ Ok draft
  done : finished draft ≡ Ok text

own_give : (text : Text) → is_within_limits text ≡ true → Gives text
own_give text within =
    let gives = spelling_gives Second text (text_is Second text tt within) in
    let read : after_spelled (draft_at Second Opening) (own_lines text) ≡ Ok gives.draft = gives.read in
    record { draft = gives.draft; read = lines_read (own_lines text) 2 (draft_at Second Opening) gives.draft (own_are text within) read; done = gives.done }

-- the number of the first line behind a spelled text
abbrev pub after_spelling : Text → ℕ
after_spelling text = 1 + length (spelled text)

version_plain : IsPlain (spelled_version Second)
version_plain = line_is_plain (spelled_version Second) (version_is Second)

-- the document that numbered lines spell, where `past` is one more than the last line's number
abbrev read_in : List TextLine → ℕ → Result Document LineFault
read_in lines past = do
  start ← after_version (codes "oa") past lines
  front ← front_in start.1 (from_line start.0 lines) past
  tail ← after_lines (empty_tail start.1 front.0.kinds) (from_line front.1 lines)
  Ok (document_of front.0 tail)

read_given : (lines behind : List TextLine) (past number : ℕ) (text : Text) (tail : Tail) → after_version (codes "oa") past lines ≡ Ok (2, Second) → front_in Second (from_line 2 lines) past ≡ Ok (text, number)
    → from_line number lines ≡ behind → after_lines (empty_tail Second text.kinds) behind ≡ Ok tail → read_in lines past ≡ Ok (document_of text tail)
read_given lines behind past number text tail version front rest read = rw (version, front, rest, read) refl

-- the text's own lines stand from line 2 on
front_found : (text : Text) (next : List (List ℕ)) (rest : List (List (List ℕ))) (past : ℕ) → is_within_limits text ≡ true → IsPlain next → ends_text (front_of next) ≡ true
    → front_in Second (from_line 2 (found_from 2 (own_lines text ++ next ∷ rest))) past ≡ Ok (text, after_spelling text)
front_found text next rest past within plain ends =
    let own = own_lines text in
    let number : 2 + length own ≡ after_spelling text = omega arith in
    let line : TextLine = record { number = 2 + length own; bytes = joined_words next } in
    let others = found_from (2 + length own + 1) rest in
    let gives = own_give text within in
    let word : ends_text (line_word line) ≡ true = ap ends_text (begins_with (2 + length own) next plain) ∙ ends in
    let is = cut 2 own line others (lines_are_plain own (own_are text within)) (own_free text) word in
    ap (λ (lines : List TextLine). front_in Second lines past) (all_later 2 2 (own ++ next ∷ rest) (omega arith) ∙ found_both 2 own (next ∷ rest))
    ∙ front_given (found_from 2 own ++ line ∷ others) (found_from 2 own) past line others gives.draft text is gives.read gives.done
    ∙ ap (λ k. Ok (text, k)) number

-- a document of a text and further lines
pub document_given : (text : Text) (next : List (List ℕ)) (rest : List (List (List ℕ))) (tail : Tail) → is_within_limits text ≡ true → AllByRecursion IsPlain (next ∷ rest) → ends_text (front_of next) ≡ true
    → after_lines (empty_tail Second text.kinds) (found_from (after_spelling text) (next ∷ rest)) ≡ Ok tail
    → document_read (flat_map line_bytes (spelled text ++ next ∷ rest)) ≡ Ok (document_of text tail)
document_given text next rest tail within plain ends read =
    let all = spelled text ++ next ∷ rest in
    let are : AllByRecursion IsPlain all = all_both IsPlain (spelled text) (next ∷ rest) (version_plain, lines_are_plain (own_lines text) (own_are text within)) plain in
    let past = length (map joined_words all) + 1 in
    ap (λ (found : List (List ℕ)). read_in (numbered 1 found) (length found + 1)) (lines_found all are)
    ∙ read_given (found_from 1 all) (found_from (after_spelling text) (next ∷ rest)) past (after_spelling text) text tail refl (front_found text next rest past within plain.0 ends) (behind 1 (spelled text) (next ∷ rest)) read
