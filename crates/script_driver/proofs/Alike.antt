-- Documents that differ only in the lines of their calls are replayed alike: each is replayed as the same document whose calls stand at no line.
use Rattle.std.proofs.Common.{◌≡◌, ℕ, ◌+◌, Bool, true, false, ◌==◌, List, [], ◌∷◌, ◌++◌, map, length, Option, Some, None, refl, sym, ap, ap₂, subst, ◌∙◌, if◌then◌else◌}
use Rattle.std.specs.Prelude.{option_map, slice_get}
use Rattle.std.specs.Option.{option_or}
use Rattle.std.proofs.lemmas.List.{length-map}
use Rattle.norm_lang.specs.declared.text.Op.{Op}
use Rattle.norm_lang.specs.declared.text.Text.{Text}
use Rattle.norm_lang.specs.NormalForm.{IsNormal}
use Rattle.schedule_turns.specs.declared.turn.Turn.{Turn}
use Rattle.oa_words.specs.Words.{Phase}
use Rattle.oa_words.specs.Within.{sizes_of_kinds}
use Rattle.caller_parts.specs.declared.call.Call.{Call}
use Rattle.caller_parts.specs.declared.setting.Reclamation.TheVariants.{Optimistic}
use Rattle.caller_parts.specs.KindCounts.{greatest_of}
use Rattle.caller_parts.specs.Settings.{Setting}
use Rattle.core_runs.specs.Machine.{CoreState, word_at}
use Rattle.documents.specs.declared.document.ScriptCall.{ScriptCall}
use Rattle.documents.specs.declared.document.Document.{Document}
use Rattle.document_spelling.specs.SpellingLaws.{placeless, AreAlike}
use Rattle.script_plans.specs.declared.fault.ShapeFault.{ShapeFault}
use Rattle.script_plans.specs.Shapes.{first_of, kind_slots, kind_nodes, sizes_fault, nodes_fault, rest_fault, setting_with, setting_of, setting_fault, op_number, call_fault_at, args_fault, call_fault, script_fault, scripts_fault, shape_fault}
use Rattle.script_plans.specs.Plans.{call_of, calls_of, plan_for, IsRunnable}
use Rattle.document_runs.specs.declared.report.Answer.{Answer}
use Rattle.document_runs.specs.declared.report.ReportLine.{ReportLine}
use Rattle.document_runs.specs.PlanRuns.{plan_replayed}
use Rattle.document_runs.specs.Reports.{line_of, lines_from, all_lines, answer_among, report_with, report_of}
use Rattle.document_runs.specs.Runs.{replay_given, refusal_fault, replay_fault}
use Rattle.script_driver.specs.AlikeLaws.{without_line, AlikeDocumentsAreReplayedAlike}

-- the same document, whose calls stand at no line
abbrev bared : Document → Document
bared document = record document { scripts = map (map placeless) document.scripts }

-- ---- what doesn't look at the lines of calls

calls_blind : {A : Type 0} (f : ScriptCall → A) → ((call : ScriptCall) → f call ≡ f (placeless call)) → (calls : List ScriptCall) → map f calls ≡ map f (map placeless calls)
calls_blind f same [] = refl
calls_blind f same (call ∷ calls) = ap₂ ◌∷◌ (same call) (calls_blind f same calls)

scripts_blind : {A : Type 0} (f : ScriptCall → A) → ((call : ScriptCall) → f call ≡ f (placeless call)) → (scripts : List (List ScriptCall)) → map (map f) scripts ≡ map (map f) (map (map placeless) scripts)
scripts_blind f same [] = refl
scripts_blind f same (script ∷ scripts) = ap₂ ◌∷◌ (calls_blind f same script) (scripts_blind f same scripts)

calls_same : (document : Document) → calls_of document ≡ calls_of (bared document)
calls_same document = scripts_blind (call_of document.text.ops) (λ call. refl) document.scripts

-- the setting of a document with so many scripts
abbrev setting_for : Document → ℕ → Setting
setting_for document count =
    setting_with Optimistic document (sizes_of_kinds count (kind_slots document) (greatest_of document.text.fields (length document.text.kinds)) (length document.text.roots))
    (kind_nodes document.text.nodes)

as_many : (document : Document) → length document.scripts ≡ length (bared document).scripts
as_many document = sym (length-map document.scripts (map placeless))

setting_same : (document : Document) → setting_of document ≡ setting_of (bared document)
setting_same document = ap (setting_for document) (as_many document)

given_same : (document : Document) → replay_given document ≡ replay_given (bared document)
given_same document = ap₂ (λ (setting : Setting) (calls : List (List Call)). plan_replayed (record (plan_for document) { setting = setting; scripts = calls }) document.schedule)
    (setting_same document) (calls_same document)

-- ---- reports

lines_same : (answer : ℕ → Answer) (caller index : ℕ) (calls : List ScriptCall) → lines_from answer caller index calls ≡ lines_from answer caller index (map placeless calls)
lines_same answer caller index [] = refl
lines_same answer caller index (call ∷ calls) = ap (λ (lines : List ReportLine). line_of caller index call (answer index) ∷ lines) (lines_same answer caller (index + 1) calls)

all_lines_same : (answer : ℕ → ℕ → Answer) (caller : ℕ) (scripts : List (List ScriptCall)) → all_lines answer caller scripts ≡ all_lines answer caller (map (map placeless) scripts)
all_lines_same answer caller [] = refl
all_lines_same answer caller (script ∷ scripts) = ap₂ ◌++◌ (lines_same (answer caller) caller 0 script) (all_lines_same answer (caller + 1) scripts)

report_same : (document : Document) (state : CoreState) → report_of document state ≡ report_of (bared document) state
report_same document state =
    ap₂ (λ (lines : List ReportLine) (setting : Setting). record (report_with document (word_at setting state Phase) state.entries) { lines = lines })
    (all_lines_same (answer_among state.entries) 0 document.scripts) (setting_same document)

-- ---- faults

-- faults that are the same but for the line of a call
abbrev AreSameFaults : Option ShapeFault → Option ShapeFault → Type 0
AreSameFaults one other = option_map without_line one ≡ option_map without_line other

or_told : (one other : Option ShapeFault) → option_map without_line (option_or one other) ≡ option_or (option_map without_line one) (option_map without_line other)
or_told None other = refl
or_told (Some fault) other = refl

or_same : (one one' other other' : Option ShapeFault) → AreSameFaults one one' → AreSameFaults other other' → AreSameFaults (option_or one other) (option_or one' other')
or_same one one' other other' first second = or_told one other ∙ (ap₂ option_or first second ∙ sym (or_told one' other'))

count_same : (call : ScriptCall) (fits : Bool) → AreSameFaults (if fits then None else Some (call_fault_at 9 call)) (if fits then None else Some (call_fault_at 9 (placeless call)))
count_same call true = refl
count_same call false = refl

args_same : (call : ScriptCall) (op : Option Op) → AreSameFaults (args_fault call op) (args_fault (placeless call) op)
args_same call None = refl
args_same call (Some op) = count_same call (length call.args == op.args)

script_same : (ops : List Op) (script : List ScriptCall) → AreSameFaults (script_fault ops script) (script_fault ops (map placeless script))
script_same ops [] = refl
script_same ops (call ∷ calls) = or_same (call_fault ops call) (call_fault ops (placeless call)) (script_fault ops calls) (script_fault ops (map placeless calls))
    (args_same call (slice_get ops (op_number ops call.name))) (script_same ops calls)

scripts_same : (ops : List Op) (scripts : List (List ScriptCall)) → AreSameFaults (scripts_fault ops scripts) (scripts_fault ops (map (map placeless) scripts))
scripts_same ops [] = refl
scripts_same ops (script ∷ scripts) = or_same (script_fault ops script) (script_fault ops (map placeless script)) (scripts_fault ops scripts) (scripts_fault ops (map (map placeless) scripts))
    (script_same ops script) (scripts_same ops scripts)

settings_same : (document : Document) → AreSameFaults (setting_fault document) (setting_fault (bared document))
settings_same document =
    ap (λ (count : ℕ). option_map without_line (first_of (
    sizes_fault (length document.text.kinds) (sizes_of_kinds count (kind_slots document) (greatest_of document.text.fields (length document.text.kinds)) (length document.text.roots))
    ∷ nodes_fault (kind_slots document) (kind_nodes document.text.nodes)
    ∷ rest_fault document
    ∷ [])))
    (as_many document)

shape_same : (document : Document) → AreSameFaults (shape_fault document) (shape_fault (bared document))
shape_same document =
    let scripts : Document → Option ShapeFault = λ d. scripts_fault d.text.ops d.scripts in
    or_same (setting_fault document) (setting_fault (bared document)) (option_or (scripts document) None) (option_or (scripts (bared document)) None)
    (settings_same document)
    (or_same (scripts document) (scripts (bared document)) None None (scripts_same document.text.ops document.scripts) refl)

fault_same : (document : Document) → AreSameFaults (replay_fault document) (replay_fault (bared document))
fault_same document =
    let refused : Document → Option ShapeFault = λ d. option_or (refusal_fault (replay_given d)) None in
    or_same (shape_fault document) (shape_fault (bared document)) (refused document) (refused (bared document))
    (shape_same document) (ap (λ r. option_map without_line (option_or (refusal_fault r) None)) (given_same document))

-- ---- two documents

documents_same : (one other : Document) → AreAlike one other → bared one ≡ bared other
documents_same one other alike =
    ap (λ (text : Text). record (bared one) { text = text }) alike.text
    ∙ (ap (λ (slots : List ℕ). record (bared one) { text = other.text; slots = slots }) alike.slots
    ∙ (ap (λ (first : ℕ). record (bared one) { text = other.text; slots = other.slots; first = first }) alike.first
    ∙ (ap (λ (last : ℕ). record (bared one) { text = other.text; slots = other.slots; first = other.first; last = last }) alike.last
    ∙ (ap (λ (fuel : ℕ). record (bared one) { text = other.text; slots = other.slots; first = other.first; last = other.last; fuel = fuel }) alike.fuel
    ∙ (ap (λ (scripts : List (List ScriptCall)). record (bared other) { scripts = scripts; schedule = one.schedule }) alike.scripts
    ∙ ap (λ (schedule : List Turn). record (bared other) { schedule = schedule }) alike.schedule)))))

-- what is the same of each document and of that without lines is the same of both documents
both_ways : {A : Type 0} (f : Document → A) → ((document : Document) → f document ≡ f (bared document)) → (one other : Document) → AreAlike one other → f one ≡ f other
both_ways f same one other alike = same one ∙ (ap f (documents_same one other alike) ∙ sym (same other))

no_fault : (fault : Option ShapeFault) → option_map without_line fault ≡ None → fault ≡ None
no_fault None is = refl
no_fault (Some fault) is = absurd (let f : ⊥ = cc in f)

runnable : (one other : Document) → AreAlike one other → IsRunnable one → IsRunnable other
runnable one other alike is = record {
  normal = subst IsNormal alike.text is.normal;
  shape = no_fault (shape_fault other) (sym (both_ways (λ d. option_map without_line (shape_fault d)) shape_same one other alike) ∙ ap (option_map without_line) is.shape);
}

turned : (one other : Document) → AreAlike one other → AreAlike other one
turned one other alike = record {
  text = sym alike.text;
  slots = sym alike.slots;
  first = sym alike.first;
  last = sym alike.last;
  fuel = sym alike.fuel;
  scripts = sym alike.scripts;
  schedule = sym alike.schedule;
}

pub alike_documents_are_replayed_alike : AlikeDocumentsAreReplayedAlike
alike_documents_are_replayed_alike one other alike = record {
  runnable = (runnable one other alike, runnable other one (turned one other alike));
  fault = both_ways (λ d. option_map without_line (replay_fault d)) fault_same one other alike;
  given = both_ways replay_given given_same one other alike;
  report = λ state. both_ways (λ d. report_of d state) (λ d. report_same d state) one other alike;
}
