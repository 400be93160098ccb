-- What each document has for which bytes stand, part by part.
use Rattle.std.specs.Prelude.{◌≡◌, ℕ, zero, suc, ◌+◌, ◌^◌, ◌≤◌, ◌&&◌, Bool, true, false, List, [], ◌∷◌, ◌++◌, map, length, set, Option, Some, None, Result, Ok, Err, IfOk, codes, decimal, nat_lt, nat_le, if◌then◌else◌}
use Rattle.std.specs.List.{list_all, AllByRecursion}
use Rattle.std.specs.Str.{bytes_eq}
use Rattle.std.proofs.Common.{refl, ◌∙◌, sym, arith, length-append}
use Rattle.std.proofs.lemmas.Bool.{and_from, and_parts, ltb-true, leb-true}
use Rattle.std.proofs.lemmas.List.{length-set, length-replicate}
use Rattle.std.proofs.lemmas.Result.{IfOk-at_ok}
use Rattle.oa_text.specs.Lines.{TextLine, lines_of, numbered}
use Rattle.oa_text.specs.Tokens.{words_of, line_fault}
use Rattle.oa_text.specs.Numbers.{is_numeral, number_of, fitting}
use Rattle.norm_lang.specs.declared.text.Text.{Text}
use Rattle.norm_lang.specs.declared.text.Version.{Version}
use Rattle.norm_lang.specs.Faults.{LineFault, form_fault, too_many, unknown_name, or_fault, at_line}
use Rattle.norm_lang.specs.LineWords.{is_name, end_at, owner_at, number_at, value_of}
use Rattle.norm_lang.specs.Declarations.{is_reserved}
use Rattle.norm_lang.specs.Grammar.{Opening, draft_at, is_comment, plain, finished}
use Rattle.norm_lang.specs.Grammar.{after_lines as lines_drafted}
use Rattle.norm_lang.specs.Limits.{is_number, is_within_limits}
use Rattle.norm_lang.specs.Spelling.{joined_words}
use Rattle.line_words.specs.Lines.{words_in, first_word}
use Rattle.norm_parser.specs.FrontRead.{from_line, text_lines, ended, front_end, front_in, front_read}
use Rattle.norm_parser.specs.Version.{after_version}
use Rattle.schedule_turns.specs.declared.turn.Turn.{Turn}
use Rattle.schedule_turns.specs.declared.turn.Turn.TheVariants as turns
use Rattle.documents.specs.declared.document.ScriptCall.{ScriptCall}
use Rattle.documents.specs.declared.document.Document.{Document}
use Rattle.documents.specs.DocumentLimits.{count_of}
use Rattle.documents.specs.TailLines.{Counts, Phases, is_from, is_number as is_the_number, slots_line, fuel_line, phases_line, script_line, values_in, arguments_at, call_line, step_kind_at, counts_of, counts_at, upto_line, turn_line}
use Rattle.documents.specs.DocumentRead.{Stage, AfterPhases, AfterFuel, InScript, InSchedule, Tail, default_slots, empty_tail, is_after_text, may_set_fuel, whole_scripts_in, whole_scripts, with_script, with_schedule, with_slots, begins, in_settings, in_calls, in_schedule, in_stage, after_words, after_line, after_lines, document_of, document_read, IsDocument}
use Rattle.text_laws.specs.StandsFor.{is_plain_byte, is_plain_line}
use Rattle.text_laws.proofs.Readings.{then_has, anyhow, demanded, either}
use Rattle.text_laws.proofs.LineLimits.{number_then, positive_then, value_then, value_above_then, up_to_then, Fits, FitsAbove}
use Rattle.text_laws.proofs.WordsSaid.{numeral_said}
use Rattle.text_laws.proofs.DraftLimits.{Kept, at_line_has, lines_kept as drafts_kept, nothing_declared, finished_is}
use Rattle.text_laws.proofs.TextsSaid.{line_plain}
use Rattle.text_laws.proofs.FieldGroups.{all_repeated}
use Rattle.document_spelling.specs.Spelling.{spelled_call}
use Rattle.document_spelling.proofs.JoinedWords.{words_no_longer}

-- a call that a line says
pub record IsCall (call : ScriptCall) : Type 0 where
  pub named : is_name call.name ≡ true
  pub free : is_reserved call.name ≡ false
  pub args : list_all is_number call.args ≡ true
  pub short : length (joined_words (spelled_call call)) ≤ 200

-- a script of such calls
pub record IsScript (script : List ScriptCall) : Type 0 where
  pub few : length script ≤ 100000
  pub each : AllByRecursion IsCall script

abbrev pub caller_of : Turn → ℕ
caller_of (turns.Step caller count) = caller
caller_of (turns.Upto caller kind count) = caller
caller_of (turns.Ops caller count) = caller

-- a caller, and how much it is to do
pub record IsCount (caller count : ℕ) : Type 0 where
  pub known : nat_le caller 4294967295 ≡ true
  pub some : nat_le 1 count ≡ true
  pub few : nat_le count 1000000 ≡ true

-- a turn that a line says
abbrev pub IsTurn : Turn → Type 0
IsTurn turn = IsCount (caller_of turn) (count_of turn)

-- a document that bytes may state
pub record IsStated (document : Document) : Type 0 where
  pub text : is_within_limits document.text ≡ true
  pub slots : length document.slots ≡ length document.text.kinds
  pub counts : list_all is_number document.slots ≡ true
  pub first : is_number document.first ≡ true
  pub last : is_number document.last ≡ true
  pub fuel : is_number document.fuel ≡ true
  pub few_scripts : length document.scripts ≤ 256
  pub scripts : AllByRecursion IsScript document.scripts
  pub few_turns : length document.schedule ≤ 100000
  pub turns : AllByRecursion IsTurn document.schedule

-- ---- lists that grow

pushed : {A : Type 0} (P : A → Type 0) (xs : List A) (x : A) → AllByRecursion P xs → P x → AllByRecursion P (xs ++ x ∷ [])
pushed P [] x all has = (has, tt)
pushed P (y ∷ xs) x all has = (all.0, pushed P xs x all.1 has)

one_more : {A : Type 0} (xs : List A) (x : A) → length (xs ++ x ∷ []) ≡ length xs + 1
one_more xs x = length-append xs (x ∷ [])

set_passes : (test : ℕ → Bool) (xs : List ℕ) (i n : ℕ) → list_all test xs ≡ true → test n ≡ true → list_all test (set xs i n) ≡ true
set_passes test [] i n all passes = refl
set_passes test (x ∷ xs) zero n all passes = and_from (test n) (list_all test xs) passes (and_parts (test x) (list_all test xs) all).1
set_passes test (x ∷ xs) (suc i) n all passes =
    let parts = and_parts (test x) (list_all test xs) all in
    and_from (test x) (list_all test (set xs i n)) parts.0 (set_passes test xs i n parts.1 passes)

-- ---- calls

-- the numbers that words spell, and that fit: they spell these words
pub record Spell (words : List (List ℕ)) (args : List ℕ) : Type 0 where
  pub spelled : map decimal args ≡ words
  pub fit : list_all is_number args ≡ true

value_spells : (word : List ℕ) → is_numeral word ≡ true → IfOk (value_of (fitting (number_of word))) (λ v. (decimal v ≡ word) × (is_number v ≡ true))
value_spells word is = go (nat_lt (number_of word) (2 ^ 64)) refl
  where
    go : (t : Bool) → nat_lt (number_of word) (2 ^ 64) ≡ t → IfOk (value_of (if t then Some (number_of word) else None)) (λ v. (decimal v ≡ word) × (is_number v ≡ true))
    go true e = (sym (numeral_said word is (ltb-true (number_of word) (2 ^ 64) e)), e)
    go false e = tt

one_spelled : (word : List ℕ) (words : List (List ℕ)) (v : ℕ) (args : List ℕ) → decimal v ≡ word → is_number v ≡ true → Spell words args → Spell (word ∷ words) (v ∷ args)
one_spelled word words v args same fits others = record {
  spelled = rw (same, others.spelled) refl;
  fit = and_from (is_number v) (list_all is_number args) fits others.fit;
}

values_spell : (words : List (List ℕ)) → list_all is_numeral words ≡ true → IfOk (values_in words) (Spell words)
values_spell [] all = record { spelled = refl; fit = refl }
values_spell (word ∷ words) all =
    let parts = and_parts (is_numeral word) (list_all is_numeral words) all in
    then_has (value_of (fitting (number_of word))) _ (λ v. (decimal v ≡ word) × (is_number v ≡ true)) _ (value_spells word parts.0) λ v is.
    then_has (values_in words) _ (Spell words) (Spell (word ∷ words)) (values_spell words parts.1) λ args spell. one_spelled word words v args is.0 is.1 spell

arguments_spell : (words : List (List ℕ)) → IfOk (arguments_at words) (Spell words)
arguments_spell words = demanded form_fault (list_all is_numeral words) _ (Spell words) λ all. values_spell words all

-- the call of a line that isn't too long stands behind less than the most
abbrev Called : ℕ → ScriptCall → Type 0
Called calls call = (nat_lt calls 100000 ≡ true) × IsCall call

call_is : (line : ℕ) (word : List ℕ) (rest : List (List ℕ)) (args : List ℕ) → length (joined_words (word ∷ rest)) ≤ 200 → is_name word ≡ true → is_reserved word ≡ false → Spell rest args
    → IsCall (record { line = line; name = word; args = args })
call_is line word rest args short named free spell = record {
  named = named;
  free = free;
  args = spell.fit;
  short = rw spell.spelled short;
}

call_stated : (line calls : ℕ) (word : List ℕ) (rest : List (List ℕ)) → length (joined_words (word ∷ rest)) ≤ 200 → is_reserved word ≡ false → IfOk (call_line line calls word rest) (Called calls)
call_stated line calls word rest short free =
    demanded form_fault (is_name word) _ (Called calls) λ named.
    then_has (arguments_at rest) _ (Spell rest) (Called calls) (arguments_spell rest) λ args spell.
    demanded too_many (nat_lt calls 100000) _ (Called calls) λ room. (room, call_is line word rest args short named free spell)

-- ---- turns

abbrev Counted : Counts → Type 0
Counted counts = IsCount counts.caller counts.count

counts_stated : (caller count : Option ℕ) → Fits caller → FitsAbove count → IfOk (counts_of caller count) Counted
counts_stated caller count who many =
    value_then caller _ Counted who λ c fits.
    value_above_then count _ Counted many λ n above.
    up_to_then 4294967295 c _ Counted λ known.
    up_to_then 1000000 n _ Counted λ few. record { known = known; some = (and_parts (nat_le 1 n) (is_number n) above).0; few = few }

counted_at : (words : List (List ℕ)) → IfOk (counts_at words) Counted
counted_at words =
    number_then words _ Counted λ caller rest who.
    positive_then rest _ Counted λ count behind many.
    anyhow (end_at behind) _ Counted λ done. counts_stated caller count who many

upto_stated : (words : List (List ℕ)) → IfOk (upto_line words) IsTurn
upto_stated words =
    number_then words _ IsTurn λ caller rest who.
    anyhow (step_kind_at rest) _ IsTurn λ kind.
    positive_then kind.1 _ IsTurn λ count behind many.
    anyhow (end_at behind) _ IsTurn λ done.
    then_has (counts_of caller count) _ Counted IsTurn (counts_stated caller count who many) λ counts is. is

turn_stated : (word : List ℕ) (rest : List (List ℕ)) → IfOk (turn_line word rest) IsTurn
turn_stated word rest =
    either (bytes_eq word (codes "step")) _ _ IsTurn (λ _. then_has (counts_at rest) _ Counted IsTurn (counted_at rest) λ counts is. is) λ _.
    either (bytes_eq word (codes "op")) _ _ IsTurn (λ _. then_has (counts_at rest) _ Counted IsTurn (counted_at rest) λ counts is. is) λ _.
    either (bytes_eq word (codes "upto")) _ _ IsTurn (λ _. upto_stated rest) λ _. tt

-- ---- what the lines after a text say

-- so far it is what a document may state, with slots of so many kinds
pub record IsKept (kinds : ℕ) (tail : Tail) : Type 0 where
  pub slots : length tail.slots ≡ kinds
  pub counts : list_all is_number tail.slots ≡ true
  pub first : is_number tail.first ≡ true
  pub last : is_number tail.last ≡ true
  pub fuel : is_number tail.fuel ≡ true
  pub few_scripts : length (whole_scripts tail) ≤ 256
  pub scripts : AllByRecursion IsScript tail.scripts
  pub script : IsScript tail.script
  pub few_turns : length tail.schedule ≤ 100000
  pub turns : AllByRecursion IsTurn tail.schedule

no_calls : IsScript []
no_calls = record { few = omega arith; each = tt }

all_scripts : (stage : Stage) (scripts : List (List ScriptCall)) (script : List ScriptCall) → AllByRecursion IsScript scripts → IsScript script → AllByRecursion IsScript (whole_scripts_in stage scripts script)
all_scripts InScript scripts script all last = pushed IsScript scripts script all last
all_scripts _ scripts script all last = all

-- another script in the place of the last one
same_count : (stage : Stage) (scripts : List (List ScriptCall)) (script other : List ScriptCall) → length (whole_scripts_in stage scripts script) ≡ length (whole_scripts_in stage scripts other)
same_count InScript scripts script other = one_more scripts script ∙ sym (one_more scripts other)
same_count _ scripts script other = refl

own_count : (stage : Stage) (scripts : List (List ScriptCall)) (script : List ScriptCall) → length scripts ≤ length (whole_scripts_in stage scripts script)
own_count InScript scripts script = omega (arith, one_more scripts script)
own_count _ scripts script = omega arith

scripts_kept : (kinds : ℕ) (tail : Tail) → IsKept kinds tail → AllByRecursion IsScript (whole_scripts tail)
scripts_kept kinds tail kept = all_scripts tail.stage tail.scripts tail.script kept.scripts kept.script

script_begun : (kinds : ℕ) (tail : Tail) → IsKept kinds tail → nat_lt (length (whole_scripts tail)) 256 ≡ true → IsKept kinds (with_script tail)
script_begun kinds tail kept room = record {
  slots = kept.slots;
  counts = kept.counts;
  first = kept.first;
  last = kept.last;
  fuel = kept.fuel;
  few_scripts = let lt = ltb-true (length (whole_scripts tail)) 256 room in omega (arith, lt, one_more (whole_scripts tail) []);
  scripts = scripts_kept kinds tail kept;
  script = no_calls;
  few_turns = kept.few_turns;
  turns = kept.turns;
}

schedule_begun : (kinds : ℕ) (tail : Tail) → IsKept kinds tail → IsKept kinds (with_schedule tail)
schedule_begun kinds tail kept = record {
  slots = kept.slots;
  counts = kept.counts;
  first = kept.first;
  last = kept.last;
  fuel = kept.fuel;
  few_scripts = kept.few_scripts;
  scripts = scripts_kept kinds tail kept;
  script = no_calls;
  few_turns = kept.few_turns;
  turns = kept.turns;
}

-- there is room for another script
abbrev HasRoom : ℕ → Unit {0} → Type 0
HasRoom next done = nat_lt next 256 ≡ true

script_counted : (next : ℕ) (words : List (List ℕ)) → IfOk (script_line next words) (HasRoom next)
script_counted next words =
    anyhow (number_at words) _ (HasRoom next) λ number.
    anyhow (end_at number.1) _ (HasRoom next) λ done.
    demanded form_fault (is_the_number next number.0) _ (HasRoom next) λ same. either (nat_lt next 256) (Ok tt) (Err too_many) (HasRoom next) (λ room. room) (λ _. tt)

begins_kept : (kinds : ℕ) (tail : Tail) (word : List ℕ) (rest : List (List ℕ)) → IsKept kinds tail → IfOk (begins tail word rest) (IsKept kinds)
begins_kept kinds tail word rest kept =
    either (bytes_eq word (codes "script")) _ _ (IsKept kinds)
    (λ _. then_has (script_line (length (whole_scripts tail)) rest) _ (HasRoom (length (whole_scripts tail))) (IsKept kinds) (script_counted (length (whole_scripts tail)) rest) λ done room. script_begun kinds tail kept room) λ _.
    either (bytes_eq word (codes "schedule")) _ _ (IsKept kinds) (λ _. anyhow (end_at rest) _ (IsKept kinds) λ done. schedule_begun kinds tail kept) (λ _. tt)

-- other settings
resettled : (kinds : ℕ) (tail next : Tail) → IsKept kinds tail → length next.slots ≡ kinds → list_all is_number next.slots ≡ true → is_number next.first ≡ true → is_number next.last ≡ true → is_number next.fuel ≡ true
    → length (whole_scripts next) ≤ 256 → next.scripts ≡ tail.scripts → next.script ≡ tail.script → next.schedule ≡ tail.schedule → IsKept kinds next
resettled kinds tail next kept slots counts first last fuel few scripts script schedule = record {
  slots = slots;
  counts = counts;
  first = first;
  last = last;
  fuel = fuel;
  few_scripts = few;
  scripts = rw scripts kept.scripts;
  script = rw script kept.script;
  few_turns = rw schedule kept.few_turns;
  turns = rw schedule kept.turns;
}

abbrev with_phases : Tail → Phases → Tail
with_phases tail phases = record tail { stage = AfterPhases; first = phases.first; last = phases.last }

abbrev with_fuel : Tail → ℕ → Tail
with_fuel tail fuel = record tail { stage = AfterFuel; fuel = fuel }

few_own : (kinds : ℕ) (tail : Tail) → IsKept kinds tail → length tail.scripts ≤ 256
few_own kinds tail kept = omega (arith, own_count tail.stage tail.scripts tail.script, kept.few_scripts)

slots_fit : (version : Version) (kinds : List (List ℕ)) (next : ℕ) (words : List (List ℕ)) → IfOk (slots_line version kinds next words) (λ slots. is_number slots.count ≡ true)
slots_fit version kinds next words =
    anyhow (owner_at version kinds words) _ (λ slots. is_number slots.count ≡ true) λ owner.
    number_then owner.1 _ (λ slots. is_number slots.count ≡ true) λ count rest fits.
    anyhow (end_at rest) _ (λ slots. is_number slots.count ≡ true) λ done.
    demanded form_fault (is_from next owner.0) _ (λ slots. is_number slots.count ≡ true) λ follows.
    value_then count _ (λ slots. is_number slots.count ≡ true) fits λ value is.
    anyhow (or_fault unknown_name owner.0) _ (λ slots. is_number slots.count ≡ true) λ known. is

phases_fit : (words : List (List ℕ)) → IfOk (phases_line words) (λ phases. (is_number phases.first ≡ true) × (is_number phases.last ≡ true))
phases_fit words =
    number_then words _ (λ phases. (is_number phases.first ≡ true) × (is_number phases.last ≡ true)) λ first rest first_fits.
    number_then rest _ (λ phases. (is_number phases.first ≡ true) × (is_number phases.last ≡ true)) λ last behind last_fits.
    anyhow (end_at behind) _ (λ phases. (is_number phases.first ≡ true) × (is_number phases.last ≡ true)) λ done.
    value_then first _ (λ phases. (is_number phases.first ≡ true) × (is_number phases.last ≡ true)) first_fits λ from from_is.
    value_then last _ (λ phases. (is_number phases.first ≡ true) × (is_number phases.last ≡ true)) last_fits λ to to_is. (from_is, to_is)

fuel_fits : (words : List (List ℕ)) → IfOk (fuel_line words) (λ fuel. is_number fuel ≡ true)
fuel_fits words =
    number_then words _ (λ fuel. is_number fuel ≡ true) λ number rest fits.
    anyhow (end_at rest) _ (λ fuel. is_number fuel ≡ true) λ done. value_is number fits
  where
    value_is : (number : Option ℕ) → Fits number → IfOk (value_of number) (λ fuel. is_number fuel ≡ true)
    value_is None fits = tt
    value_is (Some n) fits = fits

settings_kept : (kinds : ℕ) (tail : Tail) (word : List ℕ) (rest : List (List ℕ)) → IsKept kinds tail → IfOk (in_settings tail word rest) (IsKept kinds)
settings_kept kinds tail word rest kept =
    either (bytes_eq word (codes "slots") && is_after_text tail.stage) _ _ (IsKept kinds)
    (λ _. then_has (slots_line tail.version tail.kinds tail.next_kind rest) _ (λ slots. is_number slots.count ≡ true) (IsKept kinds) (slots_fit tail.version tail.kinds tail.next_kind rest) λ slots fits.
    resettled kinds tail (with_slots tail slots) kept (length-set tail.slots slots.owner slots.count ∙ kept.slots) (set_passes is_number tail.slots slots.owner slots.count kept.counts fits)
    kept.first kept.last kept.fuel kept.few_scripts refl refl refl) λ _.
    either (bytes_eq word (codes "phases") && is_after_text tail.stage) _ _ (IsKept kinds)
    (λ _. then_has (phases_line rest) _ (λ phases. (is_number phases.first ≡ true) × (is_number phases.last ≡ true)) (IsKept kinds) (phases_fit rest) λ phases fits.
    resettled kinds tail (with_phases tail phases) kept kept.slots kept.counts fits.0 fits.1 kept.fuel (few_own kinds tail kept) refl refl refl) λ _.
    either (bytes_eq word (codes "fuel") && may_set_fuel tail.stage) _ _ (IsKept kinds)
    (λ _. then_has (fuel_line rest) _ (λ fuel. is_number fuel ≡ true) (IsKept kinds) (fuel_fits rest) λ fuel fits.
    resettled kinds tail (with_fuel tail fuel) kept kept.slots kept.counts kept.first kept.last fits (few_own kinds tail kept) refl refl refl) λ _.
    begins_kept kinds tail word rest kept

abbrev with_call : Tail → ScriptCall → Tail
with_call tail call = record tail { script = tail.script ++ call ∷ [] }

call_kept : (kinds : ℕ) (tail : Tail) (call : ScriptCall) → IsKept kinds tail → Called (length tail.script) call → IsKept kinds (with_call tail call)
call_kept kinds tail call kept called = record {
  slots = kept.slots;
  counts = kept.counts;
  first = kept.first;
  last = kept.last;
  fuel = kept.fuel;
  few_scripts = omega (arith, same_count tail.stage tail.scripts (tail.script ++ call ∷ []) tail.script, kept.few_scripts);
  scripts = kept.scripts;
  script = record {
    few = let lt = ltb-true (length tail.script) 100000 called.0 in omega (arith, lt, one_more tail.script call);
    each = pushed IsCall tail.script call (kept.script).each called.1;
  };
  few_turns = kept.few_turns;
  turns = kept.turns;
}

calls_kept : (kinds : ℕ) (tail : Tail) (line : ℕ) (word : List ℕ) (rest : List (List ℕ)) → length (joined_words (word ∷ rest)) ≤ 200 → IsKept kinds tail → IfOk (in_calls tail line word rest) (IsKept kinds)
calls_kept kinds tail line word rest short kept =
    either (is_reserved word) _ _ (IsKept kinds) (λ _. begins_kept kinds tail word rest kept) λ free.
    then_has (call_line line (length tail.script) word rest) _ (Called (length tail.script)) (IsKept kinds) (call_stated line (length tail.script) word rest short free) λ call called. call_kept kinds tail call kept called

abbrev with_turn : Tail → Turn → Tail
with_turn tail turn = record tail { schedule = tail.schedule ++ turn ∷ [] }

turn_kept : (kinds : ℕ) (tail : Tail) (turn : Turn) → IsKept kinds tail → nat_lt (length tail.schedule) 100000 ≡ true → IsTurn turn → IsKept kinds (with_turn tail turn)
turn_kept kinds tail turn kept room is = record {
  slots = kept.slots;
  counts = kept.counts;
  first = kept.first;
  last = kept.last;
  fuel = kept.fuel;
  few_scripts = kept.few_scripts;
  scripts = kept.scripts;
  script = kept.script;
  few_turns = let lt = ltb-true (length tail.schedule) 100000 room in omega (arith, lt, one_more tail.schedule turn);
  turns = pushed IsTurn tail.schedule turn kept.turns is;
}

turns_kept : (kinds : ℕ) (tail : Tail) (word : List ℕ) (rest : List (List ℕ)) → IsKept kinds tail → IfOk (in_schedule tail word rest) (IsKept kinds)
turns_kept kinds tail word rest kept =
    then_has (turn_line word rest) _ IsTurn (IsKept kinds) (turn_stated word rest) λ turn is.
    demanded too_many (nat_lt (length tail.schedule) 100000) _ (IsKept kinds) λ room. turn_kept kinds tail turn kept room is

stage_kept : (kinds : ℕ) (stage : Stage) (tail : Tail) (line : ℕ) (word : List ℕ) (rest : List (List ℕ)) → length (joined_words (word ∷ rest)) ≤ 200 → IsKept kinds tail
    → IfOk (in_stage stage tail line word rest) (IsKept kinds)
stage_kept kinds InScript tail line word rest short kept = calls_kept kinds tail line word rest short kept
stage_kept kinds InSchedule tail line word rest short kept = turns_kept kinds tail word rest kept
stage_kept kinds _ tail line word rest short kept = settings_kept kinds tail word rest kept

words_kept : (kinds : ℕ) (tail : Tail) (line : ℕ) (words : List (List ℕ)) → length (joined_words words) ≤ 200 → IsKept kinds tail → IfOk (after_words tail line (first_word words)) (IsKept kinds)
words_kept kinds tail line [] short kept = kept
words_kept kinds tail line (word ∷ rest) short kept = go (is_comment word)
  where
    go : (skipped : Bool) → IfOk (after_words tail line (if skipped then None else Some (word, rest))) (IsKept kinds)
    go true = kept
    go false = stage_kept kinds tail.stage tail line word rest short kept

line_kept : (kinds : ℕ) (tail : Tail) (line : TextLine) → IsKept kinds tail → IfOk (after_line tail line) (IsKept kinds)
line_kept kinds tail line kept =
    then_has (words_in line) (λ words. after_words tail line.number (first_word words)) (λ words. length (joined_words words) ≤ 200) (IsKept kinds) read λ words short. words_kept kinds tail line.number words short kept
  where
    short : is_plain_line line.bytes ≡ true → length (joined_words (words_of line.bytes)) ≤ 200
    short is =
        let le = leb-true (length line.bytes) 200 (and_parts (nat_le (length line.bytes) 200) (list_all is_plain_byte line.bytes) is).0 in
        omega (arith, le, words_no_longer line.bytes)

    read : IfOk (words_in line) (λ words. length (joined_words words) ≤ 200)
    read = then_has (plain (line_fault line)) _ (λ done. is_plain_line line.bytes ≡ true) _ (line_plain line) λ done is. short is

lines_kept : (kinds : ℕ) (tail : Tail) (lines : List TextLine) → IsKept kinds tail → IfOk (after_lines tail lines) (IsKept kinds)
lines_kept kinds tail [] kept = kept
lines_kept kinds tail (line ∷ lines) kept =
    then_has (at_line line.number (after_line tail line)) _ (IsKept kinds) (IsKept kinds) (at_line_has line.number (after_line tail line) (IsKept kinds) (line_kept kinds tail line kept)) λ next is. lines_kept kinds next lines is

empty_kept : (version : Version) (kinds : List (List ℕ)) → IsKept (length kinds) (empty_tail version kinds)
empty_kept version kinds = record {
  slots = length-replicate (length kinds) default_slots;
  counts = all_repeated is_number (length kinds) default_slots refl;
  first = refl;
  last = refl;
  fuel = refl;
  few_scripts = omega arith;
  scripts = tt;
  script = no_calls;
  few_turns = omega arith;
  turns = tt;
}

-- ---- the document

-- a text that is read from a line on is within the limits
text_within : (version : Version) (lines : List TextLine) (past : ℕ) → IfOk (front_in version lines past) (λ front. is_within_limits front.0 ≡ true)
text_within version lines past =
    then_has (front_end version lines past) _ (λ front. Kept front.0) _ whole λ front kept. ends (finished front.0) front.1 (finished_is front.0 kept)
  where
    whole : IfOk (front_end version lines past) (λ front. Kept front.0)
    whole = then_has (lines_drafted (draft_at version Opening) (text_lines lines)) _ Kept _ (drafts_kept (draft_at version Opening) (text_lines lines) (nothing_declared version)) λ draft kept. kept

    ends : (read : Result Text ℕ) (end : LineFault) → IfOk read (λ text. is_within_limits text ≡ true) → IfOk (ended read end) (λ front. is_within_limits front.0 ≡ true)
    ends (Ok text) end within = within
    ends (Err fault) end within = tt

document_is : (text : Text) (tail : Tail) → is_within_limits text ≡ true → IsKept (length text.kinds) tail → IsStated (document_of text tail)
document_is text tail within kept = record {
  text = within;
  slots = kept.slots;
  counts = kept.counts;
  first = kept.first;
  last = kept.last;
  fuel = kept.fuel;
  few_scripts = kept.few_scripts;
  scripts = scripts_kept (length text.kinds) tail kept;
  few_turns = kept.few_turns;
  turns = kept.turns;
}

all_stated : (bytes : List ℕ) → IfOk (document_read bytes) IsStated
all_stated bytes =
    anyhow (after_version (codes "oa") (length (lines_of bytes) + 1) (numbered 1 (lines_of bytes))) _ IsStated λ start.
    then_has (front_read start.1 bytes start.0) _ (λ front. is_within_limits front.0 ≡ true) IsStated (text_within start.1 (from_line start.0 (numbered 1 (lines_of bytes))) (length (lines_of bytes) + 1)) λ front within.
    then_has (after_lines (empty_tail start.1 front.0.kinds) (from_line front.1 (numbered 1 (lines_of bytes)))) _ (IsKept (length front.0.kinds)) IsStated
    (lines_kept (length front.0.kinds) (empty_tail start.1 front.0.kinds) (from_line front.1 (numbered 1 (lines_of bytes))) (empty_kept start.1 front.0.kinds)) λ tail kept. document_is front.0 tail within kept

-- a document for which bytes stand
pub is_stated : (bytes : List ℕ) (document : Document) → IsDocument bytes document → IsStated document
is_stated bytes document read = IfOk-at_ok IsStated read (all_stated bytes)
