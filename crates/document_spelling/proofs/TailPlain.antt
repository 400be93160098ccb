-- Each line behind a text, as it is spelled, is plain and short enough.
use Rattle.std.specs.Prelude.{◌≡◌, ℕ, zero, suc, ◌+◌, ◌^◌, ◌<◌, ◌≤◌, ◌&&◌, Bool, true, false, List, [], ◌∷◌, ◌++◌, map, length, codes, decimal, slice_index, nat_lt, nat_le}
use Rattle.std.specs.List.{list_all, AllByRecursion}
use Rattle.std.proofs.Common.{refl, arith}
use Rattle.std.proofs.lemmas.Bool.{and_parts, ltb-true, leb-true}
use Rattle.std.proofs.lemmas.Bool.Decides.{nat_tests}
use Rattle.norm_lang.specs.LineWords.{is_name}
use Rattle.norm_lang.specs.Limits.{is_number}
use Rattle.norm_lang.proofs.SpelledLines.{is_visible, IsWord}
use Rattle.schedule_turns.specs.declared.turn.StepKind.{StepKind}
use Rattle.schedule_turns.specs.declared.turn.StepKind.TheVariants as steps
use Rattle.schedule_turns.specs.declared.turn.Turn.{Turn}
use Rattle.schedule_turns.specs.declared.turn.Turn.TheVariants as turns
use Rattle.documents.specs.declared.document.ScriptCall.{ScriptCall}
use Rattle.documents.specs.declared.document.Document.{Document}
use Rattle.text_laws.proofs.LinesSpelled.{kind_line_is}
use Rattle.text_laws.proofs.SpelledWords.{decimal_word}
use Rattle.document_spelling.specs.Spelling.{slots_lines, spelled_phases, spelled_fuel, setting_lines, spelled_call, script_lines, scripts_lines, step_kind_word, spelled_turn, schedule_lines}
use Rattle.document_spelling.proofs.JoinedWords.{IsPlain, line_is_plain, words_are_plain}
use Rattle.document_spelling.proofs.DocumentParts.{IsCall, IsScript, IsCount, IsTurn, IsStated}
use Rattle.document_spelling.proofs.OwnLines.{all_both}

-- ---- words

keyword : (word : List ℕ) → nat_lt 0 (length word) && (nat_le (length word) 20 && list_all is_visible word) ≡ true → IsWord word
keyword word is =
    let parts = and_parts (nat_lt 0 (length word)) (nat_le (length word) 20 && list_all is_visible word) is in
    let rest = and_parts (nat_le (length word) 20) (list_all is_visible word) parts.1 in
    record { some = ltb-true 0 (length word) parts.0; short = leb-true (length word) 20 rest.0; visible = rest.1 }

name_word : (name : List ℕ) → is_name name ≡ true → IsWord name
name_word name is = (kind_line_is name is).word.1.0

number_word : (n : ℕ) → is_number n ≡ true → IsWord (decimal n)
number_word n is = decimal_word n (ltb-true n (2 ^ 64) is)

numbers_are : (numbers : List ℕ) → list_all is_number numbers ≡ true → AllByRecursion IsWord (map decimal numbers)
numbers_are [] all = tt
numbers_are (n ∷ numbers) all =
    let parts = and_parts (is_number n) (list_all is_number numbers) all in
    (number_word n parts.0, numbers_are numbers parts.1)

kind_word : (kind : StepKind) → IsWord (step_kind_word kind)
kind_word steps.Load = keyword (codes "load") refl
kind_word steps.Check = keyword (codes "check") refl
kind_word steps.Exchange = keyword (codes "exchange") refl

caller_word : (caller count : ℕ) → IsCount caller count → IsWord (decimal caller)
caller_word caller count is = let small : is_number caller ≡ true = grind (arith, nat_tests, is.known) in number_word caller small

count_word : (caller count : ℕ) → IsCount caller count → IsWord (decimal count)
count_word caller count is = let small : is_number count ≡ true = grind (arith, nat_tests, is.few) in number_word count small

-- ---- lines

one_word : (word : List ℕ) → IsWord word → IsPlain (word ∷ [])
one_word word is = line_is_plain (word ∷ []) (record { few = omega arith; word = (is, tt) })

two_words : (one two : List ℕ) → IsWord one → IsWord two → IsPlain (one ∷ two ∷ [])
two_words one two first second = line_is_plain (one ∷ two ∷ []) (record { few = omega arith; word = (first, (second, tt)) })

three_words : (one two three : List ℕ) → IsWord one → IsWord two → IsWord three → IsPlain (one ∷ two ∷ three ∷ [])
three_words one two three first second third = line_is_plain (one ∷ two ∷ three ∷ []) (record { few = omega arith; word = (first, (second, (third, tt))) })

slot_small : (slots : List ℕ) (k : ℕ) → list_all is_number slots ≡ true → is_number (slice_index slots k) ≡ true
slot_small [] k all = refl
slot_small (s ∷ slots) zero all = (and_parts (is_number s) (list_all is_number slots) all).0
slot_small (s ∷ slots) (suc k) all = slot_small slots k (and_parts (is_number s) (list_all is_number slots) all).1

slots_plain : (k : ℕ) (names : List (List ℕ)) (slots : List ℕ) → list_all is_name names ≡ true → list_all is_number slots ≡ true → AllByRecursion IsPlain (slots_lines k names slots)
slots_plain k [] slots named all = tt
slots_plain k (name ∷ names) slots named all =
    let parts = and_parts (is_name name) (list_all is_name names) named in (
      three_words (codes "slots") name (decimal (slice_index slots k)) (keyword (codes "slots") refl) (name_word name parts.0) (number_word (slice_index slots k) (slot_small slots k all)),
      slots_plain (k + 1) names slots parts.1 all,
    )

settings_plain : (document : Document) → list_all is_name document.text.kinds ≡ true → IsStated document → AllByRecursion IsPlain (setting_lines document)
settings_plain document named is =
    all_both IsPlain (slots_lines 0 document.text.kinds document.slots) (spelled_phases document.first document.last ∷ spelled_fuel document.fuel ∷ []) (slots_plain 0 document.text.kinds document.slots named is.counts) (
      three_words (codes "phases") (decimal document.first) (decimal document.last) (keyword (codes "phases") refl) (number_word document.first is.first) (number_word document.last is.last),
      (two_words (codes "fuel") (decimal document.fuel) (keyword (codes "fuel") refl) (number_word document.fuel is.fuel), tt),
    )

calls_plain : (calls : List ScriptCall) → AllByRecursion IsCall calls → AllByRecursion IsPlain (map spelled_call calls)
calls_plain [] are = tt
calls_plain (call ∷ calls) are = (words_are_plain (spelled_call call) (name_word call.name (are.0).named, numbers_are call.args (are.0).args) (are.0).short, calls_plain calls are.1)

scripts_plain : (number : ℕ) (scripts : List (List ScriptCall)) → AllByRecursion IsScript scripts → number + length scripts ≤ 256 → AllByRecursion IsPlain (scripts_lines number scripts)
scripts_plain number [] are few = tt
scripts_plain number (script ∷ scripts) are few =
    let small : number < 2 ^ 64 = omega (arith, few) in
    all_both IsPlain (script_lines number script) (scripts_lines (number + 1) scripts)
    (two_words (codes "script") (decimal number) (keyword (codes "script") refl) (decimal_word number small), calls_plain script (are.0).each)
    (scripts_plain (number + 1) scripts are.1 (omega (arith, few)))

turn_plain : (turn : Turn) → IsTurn turn → IsPlain (spelled_turn turn)
turn_plain (turns.Step caller count) is = three_words (codes "step") (decimal caller) (decimal count) (keyword (codes "step") refl) (caller_word caller count is) (count_word caller count is)
turn_plain (turns.Upto caller kind count) is =
    line_is_plain (codes "upto" ∷ decimal caller ∷ step_kind_word kind ∷ decimal count ∷ [])
    (record { few = omega arith; word = (keyword (codes "upto") refl, (caller_word caller count is, (kind_word kind, (count_word caller count is, tt)))) })
turn_plain (turns.Ops caller count) is = three_words (codes "op") (decimal caller) (decimal count) (keyword (codes "op") refl) (caller_word caller count is) (count_word caller count is)

turns_plain : (schedule : List Turn) → AllByRecursion IsTurn schedule → AllByRecursion IsPlain (map spelled_turn schedule)
turns_plain [] are = tt
turns_plain (turn ∷ schedule) are = (turn_plain turn are.0, turns_plain schedule are.1)

schedule_plain : (always : Bool) (schedule : List Turn) → AllByRecursion IsTurn schedule → AllByRecursion IsPlain (schedule_lines always schedule)
schedule_plain false [] are = tt
schedule_plain _ x are = (one_word (codes "schedule") (keyword (codes "schedule") refl), turns_plain x are)

-- the lines behind the text
abbrev pub tail_lines : Bool → Document → List (List (List ℕ))
tail_lines always document = setting_lines document ++ (scripts_lines 0 document.scripts ++ schedule_lines always document.schedule)

pub tail_plain : (always : Bool) (document : Document) → list_all is_name document.text.kinds ≡ true → IsStated document → AllByRecursion IsPlain (tail_lines always document)
tail_plain always document named is =
    let scripts = scripts_lines 0 document.scripts in
    let schedule = schedule_lines always document.schedule in
    all_both IsPlain (setting_lines document) (scripts ++ schedule) (settings_plain document named is)
    (all_both IsPlain scripts schedule (scripts_plain 0 document.scripts is.scripts (omega (arith, is.few_scripts))) (schedule_plain always document.schedule is.turns))
