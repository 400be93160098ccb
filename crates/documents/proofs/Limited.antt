-- Each document that bytes spell is within the limits.
use Rattle.std.proofs.Common.{◌≡◌, ℕ, ◌+◌, ◌<◌, ◌≤◌, Bool, true, false, ◌&&◌, List, [], ◌∷◌, ◌++◌, length, Option, Some, None, Result, Ok, Err, refl, ◌∙◌, arith}
use Rattle.std.proofs.lemmas.Bool.Decides.{nat_tests}
use Rattle.std.proofs.lemmas.List.Elements.{All-nil, All-push}
use Rattle.std.proofs.lemmas.List.{length-append, length-set, length-replicate}
use Rattle.std.specs.Prelude.{nat_lt, nat_le, if◌then◌else◌, codes}
use Rattle.std.specs.Str.{bytes_eq}
use Rattle.oa_text.specs.Lines.{TextLine, lines_of, numbered}
use Rattle.norm_lang.specs.Faults.{◌>>=◌, demand, at_line, too_many, form_fault}
use Rattle.norm_lang.specs.LineWords.{is_name, end_at, number_at, positive_at, is_positive, value_of, up_to}
use Rattle.norm_lang.specs.Declarations.{is_reserved}
use Rattle.norm_lang.specs.declared.text.Version.{Version}
use Rattle.norm_lang.specs.Limits.{IsWithinLimits}
use Rattle.line_words.specs.Lines.{words_in, first_word}
use Rattle.norm_parser.specs.FrontRead.{from_line, front_read}
use Rattle.norm_parser.specs.Version.{after_version}
use Rattle.schedule_turns.specs.declared.turn.Turn.{Turn}
use Rattle.schedule_turns.specs.declared.turn.Turn.TheVariants as turns
use Rattle.documents.specs.declared.document.ScriptCall.{ScriptCall}
use Rattle.documents.specs.declared.document.Document.{Document}
use Rattle.documents.specs.TailLines.{slots_line, fuel_line, phases_line, script_line, call_line, arguments_at, Phases, Counts, counts_of, counts_at, step_kind_at, upto_line, turn_line}
use Rattle.documents.specs.DocumentRead.{Stage, is_after_text, may_set_fuel, AfterPhases, AfterFuel, InScript, InSchedule, Tail, default_slots, empty_tail, with_slots, whole_scripts_in, with_script, with_schedule, whole_scripts, begins, in_settings, in_calls, in_schedule, in_stage, after_words, after_line, after_lines, document_of, document_read}
use Rattle.documents.specs.DocumentLimits.{most_calls, AreShort, count_of, AreTurns, IsWithinDocumentLimits}

abbrev Holds : {A E : Type 0} → (A → Type 0) → Result A E → Type 0
Holds P (Ok x) = P x
Holds P (Err e) = Unit {0}

-- what is read has a property, if something is read
record Finds {A E : Type 0} (P : A → Type 0) (read : Result A E) : Type 0 where
  holds : Holds P read

found : {A E : Type 0} (P : A → Type 0) (x : A) → P x → Finds {A = A} {E = E} P (Ok x)
found P x has = record { holds = has }

lost : {A E : Type 0} (P : A → Type 0) (e : E) → Finds {A = A} {E = E} P (Err e)
lost P e = record { holds = tt }

had : {A E : Type 0} (P : A → Type 0) (read : Result A E) (x : A) → Finds P read → read ≡ Ok x → P x
had P read x finds same = (rw same at finds).holds

after : {A B E : Type 0} (P : B → Type 0) (first : Result A E) (next : A → Result B E) → ((x : A) → first ≡ Ok x → Finds P (next x)) → Finds P (first >>= next)
after P (Err e) next finds = lost P e
after P (Ok x) next finds = finds x refl

either : {A E : Type 0} {one other : Result A E} (P : A → Type 0) (test : Bool) → Finds P one → Finds P other → Finds P (if test then one else other)
either P true first second = first
either P false first second = second

passed : (fault : ℕ) (test : Bool) (done : Unit {0}) → demand fault test ≡ Ok done → test ≡ true
passed fault true done same = refl
passed fault false done same = cc

less : (a b : ℕ) → nat_lt a b ≡ true → a < b
less a b is = grind (arith, nat_tests)

-- what the lines so far say is within the limits, and there are slots of so many kinds
record IsKept (n : ℕ) (tail : Tail) : Type 0 where
  slots : length tail.slots ≡ n
  scripts : AreShort tail.scripts
  script : length tail.script ≤ 100000
  turns : AreTurns tail.schedule

whole : (stage : Stage) (scripts : List (List ScriptCall)) (script : List ScriptCall) → AreShort scripts → length script ≤ 100000 → AreShort (whole_scripts_in stage scripts script)
whole InScript scripts script short last = All-push (λ (script : List ScriptCall). length script ≤ most_calls) scripts script short last
whole _ scripts script short last = short

scripts_kept : (n : ℕ) (tail : Tail) → IsKept n tail → AreShort (whole_scripts tail)
scripts_kept n tail kept = whole tail.stage tail.scripts tail.script kept.scripts kept.script

script_begun : (n : ℕ) (tail : Tail) → IsKept n tail → IsKept n (with_script tail)
script_begun n tail kept = record { slots = kept.slots; scripts = scripts_kept n tail kept; script = omega arith; turns = kept.turns }

schedule_begun : (n : ℕ) (tail : Tail) → IsKept n tail → IsKept n (with_schedule tail)
schedule_begun n tail kept = record { slots = kept.slots; scripts = scripts_kept n tail kept; script = omega arith; turns = kept.turns }

begins_kept : (n : ℕ) (tail : Tail) (word : List ℕ) (rest : List (List ℕ)) → IsKept n tail → Finds (IsKept n) (begins tail word rest)
begins_kept n tail word rest kept =
    either (IsKept n) (bytes_eq word (codes "script")) (after (IsKept n) (script_line (length (whole_scripts tail)) rest) (λ done. Ok (with_script tail)) (λ done is. found (IsKept n) (with_script tail) (script_begun n tail kept)))
    (either (IsKept n) (bytes_eq word (codes "schedule")) (after (IsKept n) (end_at rest) (λ done. Ok (with_schedule tail)) (λ done is. found (IsKept n) (with_schedule tail) (schedule_begun n tail kept))) (lost (IsKept n) form_fault))

same_kept : (n : ℕ) (tail next : Tail) → IsKept n tail → length next.slots ≡ n → next.scripts ≡ tail.scripts → next.script ≡ tail.script → next.schedule ≡ tail.schedule → IsKept n next
same_kept n tail next kept slots scripts script schedule = record { slots = slots; scripts = rw scripts kept.scripts; script = rw script kept.script; turns = rw schedule kept.turns }

abbrev with_phases : Tail → Phases → Tail
with_phases tail phases = record tail { stage = AfterPhases; first = phases.first; last = phases.last }

abbrev with_fuel : Tail → ℕ → Tail
with_fuel tail fuel = record tail { stage = AfterFuel; fuel = fuel }

settings_kept : (n : ℕ) (tail : Tail) (word : List ℕ) (rest : List (List ℕ)) → IsKept n tail → Finds (IsKept n) (in_settings tail word rest)
settings_kept n tail word rest kept =
    either (IsKept n) (bytes_eq word (codes "slots") && is_after_text tail.stage) (after (IsKept n) (slots_line tail.version tail.kinds tail.next_kind rest) (λ slots. Ok (with_slots tail slots)) (λ slots is. found (IsKept n) (with_slots tail slots) (same_kept n tail (with_slots tail slots) kept (length-set tail.slots slots.owner slots.count ∙ kept.slots) refl refl refl)))
    (either (IsKept n) (bytes_eq word (codes "phases") && is_after_text tail.stage) (after (IsKept n) (phases_line rest) (λ phases. Ok (with_phases tail phases)) (λ phases is. found (IsKept n) (with_phases tail phases) (same_kept n tail (with_phases tail phases) kept kept.slots refl refl refl)))
    (either (IsKept n) (bytes_eq word (codes "fuel") && may_set_fuel tail.stage) (after (IsKept n) (fuel_line rest) (λ fuel. Ok (with_fuel tail fuel)) (λ fuel is. found (IsKept n) (with_fuel tail fuel) (same_kept n tail (with_fuel tail fuel) kept kept.slots refl refl refl))) (begins_kept n tail word rest kept)))

-- a call stands after less than the most
abbrev Fits : ℕ → ScriptCall → Type 0
Fits calls call = calls < 100000

call_fits : (line calls : ℕ) (word : List ℕ) (rest : List (List ℕ)) → Finds (Fits calls) (call_line line calls word rest)
call_fits line calls word rest =
    after (Fits calls) (demand form_fault (is_name word)) _ (λ named is. after (Fits calls) (arguments_at rest) _ (λ args read. after (Fits calls) (demand too_many (nat_lt calls 100000)) _ (λ room fits.
    found (Fits calls) (record { line = line; name = word; args = args }) (less calls 100000 (passed too_many (nat_lt calls 100000) room fits)))))

one_more_call : (script : List ScriptCall) (call : ScriptCall) → length script < 100000 → length (script ++ call ∷ []) ≤ 100000
one_more_call script call lt = omega (arith, lt, length-append script (call ∷ []))

abbrev with_call : Tail → ScriptCall → Tail
with_call tail call = record tail { script = tail.script ++ call ∷ [] }

calls_kept : (n : ℕ) (tail : Tail) (line : ℕ) (word : List ℕ) (rest : List (List ℕ)) → IsKept n tail → Finds (IsKept n) (in_calls tail line word rest)
calls_kept n tail line word rest kept =
    either (IsKept n) (is_reserved word) (begins_kept n tail word rest kept)
    (after (IsKept n) (call_line line (length tail.script) word rest) (λ call. Ok (with_call tail call)) (λ call is. found (IsKept n) (with_call tail call) (record {
      slots = kept.slots;
      scripts = kept.scripts;
      script = one_more_call tail.script call (had (Fits (length tail.script)) (call_line line (length tail.script) word rest) call (call_fits line (length tail.script) word rest) is);
      turns = kept.turns;
    })))

-- a count in a schedule is at least 1
abbrev Positive : Option ℕ × List (List ℕ) → Type 0
Positive n = is_positive n.0 ≡ true

positive : (words : List (List ℕ)) → Finds Positive (positive_at words)
positive words =
    after Positive (number_at words) _ (λ n is. after Positive (demand form_fault (is_positive n.0)) _ (λ done fits. found Positive n (passed form_fault (is_positive n.0) done fits)))

value_is : (count : Option ℕ) (many : ℕ) → value_of count ≡ Ok many → is_positive count ≡ true → 1 ≤ many
value_is None many is fits = cc
value_is (Some n) many is fits =
    let same : n ≡ many = cc in
    let lt = less 0 n fits in
    omega (arith, same, lt)

up_is : (limit n m : ℕ) → up_to limit n ≡ Ok m → 1 ≤ n → 1 ≤ m
up_is limit n m is le = go (nat_le n limit) is
  where
    go : (test : Bool) → (if test then Ok n else Err too_many) ≡ Ok m → 1 ≤ m
    go true is = let same : n ≡ m = cc in omega (arith, same, le)
    go false is = cc

abbrev Counted : Counts → Type 0
Counted counts = 1 ≤ counts.count

counts_positive : (caller count : Option ℕ) → is_positive count ≡ true → Finds Counted (counts_of caller count)
counts_positive caller count fits =
    after Counted (value_of caller) _ (λ who a. after Counted (value_of count) _ (λ many b. after Counted (up_to 4294967295 who) _ (λ known c. after Counted (up_to 1000000 many) _ (λ few d.
    found Counted (record { caller = known; count = few }) (up_is 1000000 many few d (value_is count many b fits))))))

counts_at_positive : (words : List (List ℕ)) → Finds Counted (counts_at words)
counts_at_positive words =
    after Counted (number_at words) _ (λ caller a. after Counted (positive_at caller.1) _ (λ count b. after Counted (end_at count.1) _ (λ done c.
    counts_positive caller.0 count.0 (had Positive (positive_at caller.1) count (positive caller.1) b))))

abbrev IsTurn : Turn → Type 0
IsTurn turn = 1 ≤ count_of turn

turn_positive : (word : List ℕ) (rest : List (List ℕ)) → Finds IsTurn (turn_line word rest)
turn_positive word rest =
    either IsTurn (bytes_eq word (codes "step")) (after IsTurn (counts_at rest) (λ counts. Ok (turns.Step counts.caller counts.count)) (λ counts is. found IsTurn (turns.Step counts.caller counts.count) (had Counted (counts_at rest) counts (counts_at_positive rest) is)))
    (either IsTurn (bytes_eq word (codes "op")) (after IsTurn (counts_at rest) (λ counts. Ok (turns.Ops counts.caller counts.count)) (λ counts is. found IsTurn (turns.Ops counts.caller counts.count) (had Counted (counts_at rest) counts (counts_at_positive rest) is)))
    (either IsTurn (bytes_eq word (codes "upto")) (upto_positive rest) (lost IsTurn form_fault)))
  where
    upto_positive : (rest : List (List ℕ)) → Finds IsTurn (upto_line rest)
    upto_positive rest =
        after IsTurn (number_at rest) _ (λ caller a. after IsTurn (step_kind_at caller.1) _ (λ kind b. after IsTurn (positive_at kind.1) _ (λ count c. after IsTurn (end_at count.1) _ (λ done d. after IsTurn (counts_of caller.0 count.0) _ (λ counts e.
        found IsTurn (turns.Upto counts.caller kind.0 counts.count) (had Counted (counts_of caller.0 count.0) counts (counts_positive caller.0 count.0 (had Positive (positive_at kind.1) count (positive kind.1) c)) e))))))

abbrev with_turn : Tail → Turn → Tail
with_turn tail turn = record tail { schedule = tail.schedule ++ turn ∷ [] }

schedule_kept : (n : ℕ) (tail : Tail) (word : List ℕ) (rest : List (List ℕ)) → IsKept n tail → Finds (IsKept n) (in_schedule tail word rest)
schedule_kept n tail word rest kept =
    after (IsKept n) (turn_line word rest) _ (λ turn is. after (IsKept n) (demand too_many (nat_lt (length tail.schedule) 100000)) _ (λ room fits. found (IsKept n) (with_turn tail turn) (record {
      slots = kept.slots;
      scripts = kept.scripts;
      script = kept.script;
      turns = All-push IsTurn tail.schedule turn kept.turns (had IsTurn (turn_line word rest) turn (turn_positive word rest) is);
    })))

stage_kept : (n : ℕ) (stage : Stage) (tail : Tail) (line : ℕ) (word : List ℕ) (rest : List (List ℕ)) → IsKept n tail → Finds (IsKept n) (in_stage stage tail line word rest)
stage_kept n InScript tail line word rest kept = calls_kept n tail line word rest kept
stage_kept n InSchedule tail line word rest kept = schedule_kept n tail word rest kept
stage_kept n _ tail line word rest kept = settings_kept n tail word rest kept

words_kept : (n : ℕ) (tail : Tail) (line : ℕ) (words : Option (List ℕ × List (List ℕ))) → IsKept n tail → Finds (IsKept n) (after_words tail line words)
words_kept n tail line None kept = found (IsKept n) tail kept
words_kept n tail line (Some word) kept = stage_kept n tail.stage tail line word.0 word.1 kept

line_kept : (n : ℕ) (tail : Tail) (line : TextLine) → IsKept n tail → Finds (IsKept n) (after_line tail line)
line_kept n tail line kept = after (IsKept n) (words_in line) _ (λ words is. words_kept n tail line.number (first_word words) kept)

at_kept : (n : ℕ) (line : ℕ) (read : Result Tail ℕ) → Finds (IsKept n) read → Finds (IsKept n) (at_line line read)
at_kept n line (Ok tail) finds = found (IsKept n) tail finds.holds
at_kept n line (Err fault) finds = lost (IsKept n) _

lines_kept : (n : ℕ) (tail : Tail) (lines : List TextLine) → IsKept n tail → Finds (IsKept n) (after_lines tail lines)
lines_kept n tail [] kept = found (IsKept n) tail kept
lines_kept n tail (line ∷ lines) kept =
    after (IsKept n) (at_line line.number (after_line tail line)) _ (λ next is. lines_kept n next lines (had (IsKept n) _ next (at_kept n line.number (after_line tail line) (line_kept n tail line kept)) is))

empty_kept : (version : Version) (kinds : List (List ℕ)) → IsKept (length kinds) (empty_tail version kinds)
empty_kept version kinds = record { slots = length-replicate (length kinds) default_slots; scripts = All-nil (λ (script : List ScriptCall). length script ≤ most_calls); script = omega arith; turns = All-nil IsTurn }

abbrev IsOther : Document → Type 0
IsOther document = AreShort document.scripts × AreTurns document.schedule × (length document.slots ≡ length document.text.kinds)

read_kept : (bytes : List ℕ) → Finds IsOther (document_read bytes)
read_kept bytes =
    after IsOther (after_version (codes "oa") (length (lines_of bytes) + 1) (numbered 1 (lines_of bytes))) _ (λ start a. after IsOther (front_read start.1 bytes start.0) _ (λ front b.
    let empty = empty_tail start.1 front.0.kinds in
    let lines = from_line front.1 (numbered 1 (lines_of bytes)) in
    let n = length front.0.kinds in
    after IsOther (after_lines empty lines) _ (λ tail c.
    let kept = had (IsKept n) _ tail (lines_kept n empty lines (empty_kept start.1 front.0.kinds)) c in
    found IsOther (document_of front.0 tail) (scripts_kept n tail kept, kept.turns, kept.slots))))

-- a document with such a text
pub read_is_within : (bytes : List ℕ) (document : Document) → document_read bytes ≡ Ok document → IsWithinLimits document.text → IsWithinDocumentLimits document
read_is_within bytes document read text =
    let other = had IsOther _ document (read_kept bytes) read in
    record { text = text; scripts = other.0; turns = other.1 }

-- it has slots for each kind
pub read_has_slots : (bytes : List ℕ) (document : Document) → document_read bytes ≡ Ok document → length document.slots ≡ length document.text.kinds
read_has_slots bytes document read = (had IsOther _ document (read_kept bytes) read).2
