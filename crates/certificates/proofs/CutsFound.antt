-- Where the document of a spelled certificate ends.
use Rattle.std.specs.Prelude.{◌≡◌, ℕ, ◌+◌, ◌||◌, Bool, true, false, List, [], ◌∷◌, ◌++◌, map, length, Some, None, codes, decimal}
use Rattle.std.specs.List.{flat_map, AllByRecursion}
use Rattle.std.specs.Str.{bytes_eq}
use Rattle.std.proofs.Common.{refl, ap, ◌∙◌, cond, arith, length-append}
use Rattle.std.proofs.lemmas.Bool.{or_parts}
use Rattle.std.proofs.lemmas.Grind.{flat_map-append}
use Rattle.oa_text.specs.Lines.{TextLine}
use Rattle.norm_lang.specs.Grammar.{is_comment}
use Rattle.norm_lang.specs.Spelling.{joined_words, line_bytes, spelled}
use Rattle.line_words.specs.Lines.{first_word}
use Rattle.norm_parser.specs.FrontRead.{front_of}
use Rattle.schedule_turns.specs.declared.turn.Turn.{Turn}
use Rattle.schedule_turns.specs.declared.turn.Turn.TheVariants as turns
use Rattle.documents.specs.declared.document.ScriptCall.{ScriptCall}
use Rattle.documents.specs.declared.document.Document.{Document}
use Rattle.text_laws.proofs.TextsSaid.{no_fault}
use Rattle.document_spelling.specs.Spelling.{slots_lines, setting_lines, spelled_call, script_lines, scripts_lines, spelled_turn}
use Rattle.document_spelling.proofs.JoinedWords.{IsPlain}
use Rattle.document_spelling.proofs.DocumentParts.{IsCall, IsScript, IsStated}
use Rattle.document_spelling.proofs.OwnLines.{all_both, own_lines, own_free, IsFree}
use Rattle.document_spelling.proofs.SpelledFront.{found_from}
use Rattle.certificates.specs.CertificateRead.{word_in, word_of, cut_from}

-- ---- the word that a spelled line begins with

word_found : (n : ℕ) (words : List (List ℕ)) → IsPlain words → word_of (record { number = n; bytes = joined_words words }) ≡ Some (word_in (first_word words))
word_found n words is = rw (no_fault n (joined_words words) is.plain, is.found) refl

-- a line doesn't begin with the word
abbrev pub IsOther : List ℕ → List (List ℕ) → Type 0
IsOther word words = bytes_eq (word_in (first_word words)) word ≡ false

other_by : (word first : List ℕ) (rest : List (List ℕ)) → bytes_eq [] word ≡ false → bytes_eq first word ≡ false → IsOther word (first ∷ rest)
other_by word first rest some other = of (is_comment first) where
  of : (t : Bool) → bytes_eq (word_in (cond t None (Some (first, rest)))) word ≡ false
  of true = some
  of false = other

other_front : (word : List ℕ) (words : List (List ℕ)) → bytes_eq [] word ≡ false → bytes_eq (front_of words) word ≡ false → IsOther word words
other_front word [] some other = some
other_front word (first ∷ rest) some other = other_by word first rest some other

-- ---- lines that are passed

one_line : (words : List (List ℕ)) (rest : List ℕ) → length (line_bytes words ++ rest) ≡ length (joined_words words) + 1 + length rest
one_line words rest = omega (arith, length-append (line_bytes words) rest, length-append (joined_words words) (10 ∷ []))

-- before the schedule
pass : (before n : ℕ) (words : List (List ℕ)) (lines : List TextLine) → IsPlain words → IsOther (codes "schedule") words
    → cut_from false before (record { number = n; bytes = joined_words words } ∷ lines) ≡ cut_from false (before + length (joined_words words) + 1) lines
pass before n words lines is other = rw (word_found n words is, other) refl

-- in it
pass_turn : (before n : ℕ) (words : List (List ℕ)) (lines : List TextLine) → IsPlain words → IsOther (codes "events") words
    → cut_from true before (record { number = n; bytes = joined_words words } ∷ lines) ≡ cut_from true (before + length (joined_words words) + 1) lines
pass_turn before n words lines is other = rw (word_found n words is, other) refl

passed : (scheduled : Bool) (word : List ℕ)
    → ((before n : ℕ) (words : List (List ℕ)) (lines : List TextLine) → IsPlain words → IsOther word words
    → cut_from scheduled before (record { number = n; bytes = joined_words words } ∷ lines) ≡ cut_from scheduled (before + length (joined_words words) + 1) lines)
    → (xs ys : List (List (List ℕ))) (before n : ℕ) → AllByRecursion IsPlain xs → AllByRecursion (IsOther word) xs
    → cut_from scheduled before (found_from n (xs ++ ys)) ≡ cut_from scheduled (before + length (flat_map line_bytes xs)) (found_from (n + length xs) ys)
passed scheduled word one [] ys before n plain others =
    let room : before ≡ before + 0 = omega arith in
    let number : n ≡ n + 0 = omega arith in
    ap (λ (k : ℕ). cut_from scheduled k (found_from n ys)) room ∙ ap (λ (k : ℕ). cut_from scheduled (before + 0) (found_from k ys)) number
passed scheduled word one (words ∷ xs) ys before n plain others =
    let room : before + length (joined_words words) + 1 + length (flat_map line_bytes xs) ≡ before + length (flat_map line_bytes (words ∷ xs))
    = omega (arith, one_line words (flat_map line_bytes xs)) in
    let number : n + 1 + length xs ≡ n + length (words ∷ xs) = omega arith in
    one before n words (found_from (n + 1) (xs ++ ys)) plain.0 others.0
    ∙ passed scheduled word one xs ys (before + length (joined_words words) + 1) (n + 1) plain.1 others.1
    ∙ ap (λ (k : ℕ). cut_from scheduled k (found_from (n + 1 + length xs) ys)) room
    ∙ ap (λ (k : ℕ). cut_from scheduled (before + length (flat_map line_bytes (words ∷ xs))) (found_from k ys)) number

-- ---- the lines before the schedule

free_other : (words : List (List ℕ)) → IsFree words → IsOther (codes "schedule") words
free_other words free =
    let word = front_of words in
    let slots = or_parts (bytes_eq word (codes "slots")) (bytes_eq word (codes "phases") || (bytes_eq word (codes "fuel") || (bytes_eq word (codes "script") || bytes_eq word (codes "schedule")))) free.0 in
    let phases = or_parts (bytes_eq word (codes "phases")) (bytes_eq word (codes "fuel") || (bytes_eq word (codes "script") || bytes_eq word (codes "schedule"))) slots.1 in
    let fuel = or_parts (bytes_eq word (codes "fuel")) (bytes_eq word (codes "script") || bytes_eq word (codes "schedule")) phases.1 in
    let script = or_parts (bytes_eq word (codes "script")) (bytes_eq word (codes "schedule")) fuel.1 in
    other_front (codes "schedule") words refl script.1

all_free : (lines : List (List (List ℕ))) → AllByRecursion IsFree lines → AllByRecursion (IsOther (codes "schedule")) lines
all_free [] are = tt
all_free (words ∷ lines) are = (free_other words are.0, all_free lines are.1)

slots_other : (k : ℕ) (names : List (List ℕ)) (slots : List ℕ) → AllByRecursion (IsOther (codes "schedule")) (slots_lines k names slots)
slots_other k [] slots = tt
slots_other k (name ∷ names) slots = (refl, slots_other (k + 1) names slots)

call_other : (call : ScriptCall) → IsCall call → IsOther (codes "schedule") (spelled_call call)
call_other call is =
    let parts = or_parts (bytes_eq call.name (codes "script")) (bytes_eq call.name (codes "schedule")) is.free in
    other_by (codes "schedule") call.name (map decimal call.args) refl parts.1

calls_other : (calls : List ScriptCall) → AllByRecursion IsCall calls → AllByRecursion (IsOther (codes "schedule")) (map spelled_call calls)
calls_other [] are = tt
calls_other (call ∷ calls) are = (call_other call are.0, calls_other calls are.1)

scripts_other : (number : ℕ) (scripts : List (List ScriptCall)) → AllByRecursion IsScript scripts → AllByRecursion (IsOther (codes "schedule")) (scripts_lines number scripts)
scripts_other number [] are = tt
scripts_other number (script ∷ scripts) are =
    all_both (IsOther (codes "schedule")) (script_lines number script) (scripts_lines (number + 1) scripts) (refl, calls_other script (are.0).each) (scripts_other (number + 1) scripts are.1)

-- the lines before the schedule
abbrev pub first_lines : Document → List (List (List ℕ))
first_lines document = spelled document.text ++ (setting_lines document ++ scripts_lines 0 document.scripts)

first_other : (document : Document) → IsStated document → AllByRecursion (IsOther (codes "schedule")) (first_lines document)
first_other document is =
    all_both (IsOther (codes "schedule")) (spelled document.text) (setting_lines document ++ scripts_lines 0 document.scripts) (refl, all_free (own_lines document.text) (own_free document.text))
    (all_both (IsOther (codes "schedule")) (setting_lines document) (scripts_lines 0 document.scripts)
    (all_both (IsOther (codes "schedule")) (slots_lines 0 document.text.kinds document.slots) _ (slots_other 0 document.text.kinds document.slots) (refl, (refl, tt)))
    (scripts_other 0 document.scripts is.scripts))

turn_other : (turn : Turn) → IsOther (codes "events") (spelled_turn turn)
turn_other (turns.Step caller count) = refl
turn_other _ = refl

turns_other : (schedule : List Turn) → AllByRecursion (IsOther (codes "events")) (map spelled_turn schedule)
turns_other [] = tt
turns_other (turn ∷ schedule) = (turn_other turn, turns_other schedule)

-- ---- the whole

begin : (before n : ℕ) (words : List (List ℕ)) (lines : List TextLine) → IsPlain words → bytes_eq (word_in (first_word words)) (codes "schedule") ≡ true
    → cut_from false before (record { number = n; bytes = joined_words words } ∷ lines) ≡ cut_from true (before + length (joined_words words) + 1) lines
begin before n words lines is same = rw (word_found n words is, same) refl

end : (before n : ℕ) (words : List (List ℕ)) (lines : List TextLine) → IsPlain words → bytes_eq (word_in (first_word words)) (codes "events") ≡ true
    → cut_from true before (record { number = n; bytes = joined_words words } ∷ lines)
    ≡ Some (record { before = before; line = record { number = n; bytes = joined_words words }; behind = lines })
end before n words lines is same = rw (word_found n words is, same) refl

-- the line that begins the events is found behind the document's lines
pub cut_found : (document : Document) (behind : List (List (List ℕ))) → IsStated document
    → AllByRecursion IsPlain (first_lines document) → IsPlain (codes "schedule" ∷ []) → AllByRecursion IsPlain (map spelled_turn document.schedule) → IsPlain (codes "events" ∷ [])
    → (n : ℕ)
    × (cut_from false 0 (found_from 1 (first_lines document ++ ((codes "schedule" ∷ []) ∷ (map spelled_turn document.schedule ++ ((codes "events" ∷ []) ∷ behind)))))
    ≡ Some (record {
      before = length (flat_map line_bytes (first_lines document ++ ((codes "schedule" ∷ []) ∷ map spelled_turn document.schedule)));
      line = record { number = n; bytes = joined_words (codes "events" ∷ []) };
      behind = found_from (n + 1) behind;
    }))
cut_found document behind is firsts schedule turns events =
    let xs = first_lines document in
    let ts = map spelled_turn document.schedule in
    let m = 1 + length xs in
    let room = length (flat_map line_bytes xs) in
    let line = codes "schedule" ∷ [] in
    let last : List (List (List ℕ)) = (codes "events" ∷ []) ∷ behind in
    let n = m + 1 + length ts in
    let before = 0 + room + length (joined_words line) + 1 + length (flat_map line_bytes ts) in
    let all : before ≡ length (flat_map line_bytes (xs ++ (line ∷ ts))) = rooms xs line ts in (
      n,
      passed false (codes "schedule") pass xs (line ∷ (ts ++ last)) 0 1 firsts (first_other document is)
          ∙ begin (0 + room) m line (found_from (m + 1) (ts ++ last)) schedule refl
          ∙ passed true (codes "events") pass_turn ts last (0 + room + length (joined_words line) + 1) (m + 1) turns (turns_other document.schedule)
          ∙ end before n (codes "events" ∷ []) (found_from (n + 1) behind) events refl
          ∙ ap (λ (k : ℕ). Some (record { before = k; line = record { number = n; bytes = joined_words (codes "events" ∷ []) }; behind = found_from (n + 1) behind })) all,
    ) where
      rooms : (xs : List (List (List ℕ))) (line : List (List ℕ)) (ts : List (List (List ℕ)))
          → 0 + length (flat_map line_bytes xs) + length (joined_words line) + 1 + length (flat_map line_bytes ts) ≡ length (flat_map line_bytes (xs ++ (line ∷ ts)))
      rooms xs line ts =
          let both : length (flat_map line_bytes (xs ++ (line ∷ ts))) ≡ length (flat_map line_bytes xs) + length (flat_map line_bytes (line ∷ ts))
          = ap length (flat_map-append line_bytes xs (line ∷ ts)) ∙ length-append (flat_map line_bytes xs) (flat_map line_bytes (line ∷ ts)) in
          omega (arith, both, one_line line (flat_map line_bytes ts))
