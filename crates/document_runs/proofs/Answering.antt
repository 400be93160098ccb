-- Answers to lines.
use Rattle.std.proofs.Common.{◌≡◌, ℕ, zero, suc, ◌+◌, ◌<◌, ◌≤◌, not, List, [], ◌∷◌, ◌++◌, map, length, take, drop, get_or, set, Option, Some, None, refl, sym, ap, ◌∙◌, arith}
use Rattle.std.proofs.lemmas.Option.{slice_get-map}
use Rattle.std.specs.Prelude.{slice_get}
use Rattle.std.specs.Option.{option_map}
use Rattle.caller_parts.specs.Pairing.{reply_of}
use Rattle.caller_steps.specs.Entries.{Entry, RoomyEntry, is_idle}
use Rattle.oa_core.specs.Finals.{core_part}
use Rattle.documents.specs.declared.document.ScriptCall.{ScriptCall}
use Rattle.document_runs.specs.declared.report.Answer.{Answer}
use Rattle.document_runs.specs.declared.report.Answer.TheVariants as answers
use Rattle.document_runs.specs.declared.report.ReportLine.{ReportLine}
use Rattle.document_runs.specs.Reports.{answer_at, answer_by, answer_among, line_of, lines_from, all_lines}
use Rattle.document_runs.specs.Blanks.{nothing, no_answer, answered_by}

-- ---- one answer

by_entry : (entries : List RoomyEntry) (caller index : ℕ) → answer_among (map core_part entries) caller index ≡ answer_by (option_map core_part (slice_get entries caller)) index
by_entry entries caller index = ap (λ (found : Option Entry). answer_by found index) (slice_get-map core_part entries caller)

pub answer_there : (entries : List RoomyEntry) (caller index : ℕ) (e : RoomyEntry) (answer : Answer) → Some e ≡ slice_get entries caller
    → answer ≡ answer_at (map reply_of e.core.replies) (not (is_idle e.core.routine)) index → answer ≡ answer_among (map core_part entries) caller index
answer_there entries caller index e answer there is = is ∙ ap (λ (found : Option RoomyEntry). answer_by (option_map core_part found) index) there ∙ sym (by_entry entries caller index)

pub answer_nowhere : (entries : List RoomyEntry) (caller index : ℕ) → None ≡ slice_get entries caller → answers.Unreached ≡ answer_among (map core_part entries) caller index
answer_nowhere entries caller index nowhere = ap (λ (found : Option RoomyEntry). answer_by (option_map core_part found) index) nowhere ∙ sym (by_entry entries caller index)

-- ---- all lines, one after another

step : (f : ReportLine → ReportLine) (lines : List ReportLine) (i : ℕ) (d : ReportLine) → i < length lines
    → take (suc i) (set lines i (f (get_or lines i d))) ++ map f (drop (suc i) (set lines i (f (get_or lines i d)))) ≡ take i lines ++ map f (drop i lines)
step f [] i d lt = absurd (omega (arith, lt))
step f (line ∷ lines) zero d lt = refl
step f (line ∷ lines) (suc i) d lt = ap (λ (rest : List ReportLine). line ∷ rest) (step f lines i d (omega (arith, lt)))

-- those before are answered, and those that are left will be
abbrev pub half_answered : List Entry → ℕ → List ReportLine → List ReportLine
half_answered entries i lines = take i lines ++ map (answered_by entries) (drop i lines)

pub line_answered : (entries : List Entry) (lines whole : List ReportLine) (i : ℕ) (d : ReportLine) (answer : Answer) → i < length lines
    → answer ≡ answer_among entries (get_or lines i d).caller (get_or lines i d).index → half_answered entries i lines ≡ whole
    → half_answered entries (i + 1) (set lines i (record (get_or lines i d) { answer = answer })) ≡ whole
line_answered entries lines whole i d answer lt is so_far =
    let one : suc i ≡ i + 1 = omega arith in
    rw (is, ← one) (step (answered_by entries) lines i d lt ∙ so_far)

pub all_answered : (entries : List Entry) (lines whole : List ReportLine) (i : ℕ) → length lines ≤ i → half_answered entries i lines ≡ whole → lines ≡ whole
all_answered entries lines whole i le so_far = sym (ended lines i le) ∙ so_far
  where
    ended : (lines : List ReportLine) (i : ℕ) → length lines ≤ i → half_answered entries i lines ≡ lines
    ended [] zero le = refl
    ended [] (suc i) le = refl
    ended (line ∷ lines) zero le = absurd (omega (arith, le))
    ended (line ∷ lines) (suc i) le = ap (λ (rest : List ReportLine). line ∷ rest) (ended lines i (omega (arith, le)))

-- ---- blank lines answered

map_append : (f : ReportLine → ReportLine) (one other : List ReportLine) → map f (one ++ other) ≡ map f one ++ map f other
map_append f [] other = refl
map_append f (line ∷ one) other = ap (λ (rest : List ReportLine). f line ∷ rest) (map_append f one other)

caller_answered : (entries : List Entry) (caller index : ℕ) (script : List ScriptCall)
    → map (answered_by entries) (lines_from nothing caller index script) ≡ lines_from (answer_among entries caller) caller index script
caller_answered entries caller index [] = refl
caller_answered entries caller index (call ∷ script) =
    ap (λ (rest : List ReportLine). line_of caller index call (answer_among entries caller index) ∷ rest) (caller_answered entries caller (index + 1) script)

scripts_answered : (entries : List Entry) (caller : ℕ) (scripts : List (List ScriptCall)) → map (answered_by entries) (all_lines no_answer caller scripts) ≡ all_lines (answer_among entries) caller scripts
scripts_answered entries caller [] = refl
scripts_answered entries caller (script ∷ scripts) =
    map_append (answered_by entries) (lines_from nothing caller 0 script) (all_lines no_answer (caller + 1) scripts)
    ∙ ap (λ (rest : List ReportLine). map (answered_by entries) (lines_from nothing caller 0 script) ++ rest) (scripts_answered entries (caller + 1) scripts)
    ∙ ap (λ (first : List ReportLine). first ++ all_lines (answer_among entries) (caller + 1) scripts) (caller_answered entries caller 0 script)

pub lines_answered : (entries : List Entry) (scripts : List (List ScriptCall)) (blank lines : List ReportLine) → blank ≡ all_lines no_answer 0 scripts
    → lines ≡ map (answered_by entries) blank → lines ≡ all_lines (answer_among entries) 0 scripts
lines_answered entries scripts blank lines is made = made ∙ ap (map (answered_by entries)) is ∙ scripts_answered entries 0 scripts

take_front : (lines rest : List ReportLine) → take (length lines) (lines ++ rest) ≡ lines
take_front [] rest = refl
take_front (line ∷ lines) rest = ap (λ (others : List ReportLine). line ∷ others) (take_front lines rest)

-- what was lent comes back whole
pub lent_back : (n : ℕ) (lines rest : List ReportLine) → length lines ≡ n → take n (lines ++ rest) ≡ lines
lent_back n lines rest is = rw (← is) (take_front lines rest)
