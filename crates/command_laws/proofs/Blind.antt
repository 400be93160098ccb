-- Neither the judge nor the spelling looks at the lines of calls.
use Rattle.std.proofs.Common.{◌≡◌, ◌∙◌, ◌++◌, ℕ, ◌+◌, Bool, not, List, [], ◌∷◌, map, length, Option, Some, None, refl, sym, ap, ap₂, if◌then◌else◌}
use Rattle.std.specs.List.{flat_map}
use Rattle.std.specs.Prelude.{replicate, codes, decimal, option_map, slice_get, slice_index}
use Rattle.std.proofs.lemmas.List.{length-map}
use Rattle.std.proofs.lemmas.Option.{slice_get-map}
use Rattle.norm_lang.specs.declared.text.Op.{Op}
use Rattle.norm_lang.specs.declared.text.Text.{Text}
use Rattle.norm_lang.specs.Spelling.{line_bytes, spelled}
use Rattle.norm_lang.specs.declared.reply.SourceReply.{SourceReply}
use Rattle.source_machine.specs.declared.event.SourceEvent.{SourceEvent}
use Rattle.source_machine.specs.declared.event.SourceEvent.TheVariants as events
use Rattle.source_machine.specs.State.{source_start}
use Rattle.source_machine.specs.Run.{is_enabled}
use Rattle.schedule_turns.specs.declared.turn.Turn.{Turn}
use Rattle.documents.specs.declared.document.ScriptCall.{ScriptCall}
use Rattle.documents.specs.declared.document.Document.{Document}
use Rattle.document_spelling.specs.Spelling.{setting_lines, spelled_call, scripts_lines, schedule_lines, spelling_with}
use Rattle.document_spelling.specs.SpellingLaws.{placeless, AreAlike}
use Rattle.certificates.specs.declared.certificate.Certificate.{Certificate}
use Rattle.certificates.specs.CertificateLaws.{AreLike}
use Rattle.event_judge.specs.Calls.{is_call_of_op, is_call_so, listed, next_call, begins_other}
use Rattle.event_judge.specs.Judging.{event_flaw, advanced, walked_on, walked, found_after, first_progress, verdict_on}
use Rattle.run_judge.specs.Judged.{verdict_of}

-- scripts whose calls stand at no line
abbrev bare : List (List ScriptCall) → List (List ScriptCall)
bare scripts = map (map placeless) scripts

-- ---- the judge

same_call : (line : ScriptCall) (words : List ℕ) (op : Option Op) → is_call_of_op line words op ≡ is_call_of_op (placeless line) words op
same_call line words None = refl
same_call line words (Some op) = refl

call_blind : (ops : List Op) (number : ℕ) (words : List ℕ) (o : Option ScriptCall) → is_call_so ops o number words ≡ is_call_so ops (option_map placeless o) number words
call_blind ops number words None = refl
call_blind ops number words (Some line) = same_call line words (slice_get ops number)

listed_blind : (o : Option (List ScriptCall)) (i : ℕ) → slice_get (listed (option_map (map placeless) o)) i ≡ option_map placeless (slice_get (listed o) i)
listed_blind None i = refl
listed_blind (Some script) i = slice_get-map placeless script i

next_blind : (scripts : List (List ScriptCall)) (begun : List ℕ) (c : ℕ) → next_call (bare scripts) begun c ≡ option_map placeless (next_call scripts begun c)
next_blind scripts begun c =
    ap (λ (o : Option (List ScriptCall)). slice_get (listed o) (slice_index begun c)) (slice_get-map (map placeless) scripts c) ∙ listed_blind (slice_get scripts c) (slice_index begun c)

other_blind : (ops : List Op) (scripts : List (List ScriptCall)) (begun : List ℕ) (event : SourceEvent) → begins_other ops scripts begun event ≡ begins_other ops (bare scripts) begun event
other_blind ops scripts begun (events.Begin c number words) =
    ap not (call_blind ops number words (next_call scripts begun c) ∙ ap (λ (o : Option ScriptCall). is_call_so ops o number words) (sym (next_blind scripts begun c)))
other_blind ops scripts begun (events.Access c name) = refl
other_blind ops scripts begun (events.Restart c) = refl
other_blind ops scripts begun (events.GiveUp c phase) = refl

flaw_blind : (text : Text) (scripts : List (List ScriptCall)) (progress : _) (event : SourceEvent) → event_flaw text scripts progress event ≡ event_flaw text (bare scripts) progress event
flaw_blind text scripts progress event =
    ap (λ (other : Bool). if other then Some 2 else (if is_enabled text progress.state event then None else Some 1)) (other_blind text.ops scripts progress.begun event)

walked_blind : (text : Text) (scripts : List (List ScriptCall)) (at : ℕ) (progress : _) (list : List SourceEvent) → walked text scripts at progress list ≡ walked text (bare scripts) at progress list
walked_blind text scripts at progress [] = refl
walked_blind text scripts at progress (event ∷ list) =
    ap₂ (λ flaw more. walked_on flaw at more) (flaw_blind text scripts progress event) (walked_blind text scripts (at + 1) (advanced text progress event) list)

verdict_blind : (text : Text) (scripts : List (List ScriptCall)) (list : List SourceEvent) (claims : List (List SourceReply)) → verdict_on text scripts list claims ≡ verdict_on text (bare scripts) list claims
verdict_blind text scripts list claims =
    ap (found_after claims) (
    walked_blind text scripts 0 (first_progress text scripts) list
    ∙ ap (λ (n : ℕ). walked text (bare scripts) 0 (record { state = source_start text n; begun = replicate n 0 }) list) (sym (length-map scripts (map placeless))))

-- the same is found of certificates that are alike
pub verdict_same : (one other : Certificate) → AreLike one other → verdict_of one ≡ verdict_of other
verdict_same one other like =
    verdict_blind one.document.text one.document.scripts one.events one.replies
    ∙ ap (λ (text : Text). verdict_on text (bare one.document.scripts) one.events one.replies) like.document.text
    ∙ ap (λ (scripts : List (List ScriptCall)). verdict_on other.document.text scripts one.events one.replies) like.document.scripts
    ∙ ap (λ (list : List SourceEvent). verdict_on other.document.text (bare other.document.scripts) list one.replies) like.events
    ∙ ap (λ (claims : List (List SourceReply)). verdict_on other.document.text (bare other.document.scripts) other.events claims) like.replies
    ∙ sym (verdict_blind other.document.text other.document.scripts other.events other.replies)

-- ---- the spelling

calls_blind : (script : List ScriptCall) → map spelled_call script ≡ map spelled_call (map placeless script)
calls_blind [] = refl
calls_blind (call ∷ script) = ap (λ (lines : List (List (List ℕ))). spelled_call call ∷ lines) (calls_blind script)

scripts_blind : (number : ℕ) (scripts : List (List ScriptCall)) → scripts_lines number scripts ≡ scripts_lines number (bare scripts)
scripts_blind number [] = refl
scripts_blind number (script ∷ scripts) =
    ap₂ (λ (calls rest : List (List (List ℕ))). ((codes "script" ∷ decimal number ∷ []) ∷ calls) ++ rest) (calls_blind script) (scripts_blind (number + 1) scripts)

-- a document without lines
abbrev bared : Document → Document
bared document = record document { scripts = bare document.scripts }

bared_same : (one other : Document) → AreAlike one other → bared one ≡ bared other
bared_same one other alike =
    ap (λ (text : Text). record (bared one) { text = text }) alike.text
    ∙ (ap (λ (slots : List ℕ). record (bared one) { text = other.text; slots = slots }) alike.slots
    ∙ (ap (λ (first : ℕ). record (bared one) { text = other.text; slots = other.slots; first = first }) alike.first
    ∙ (ap (λ (last : ℕ). record (bared one) { text = other.text; slots = other.slots; first = other.first; last = last }) alike.last
    ∙ (ap (λ (fuel : ℕ). record (bared one) { text = other.text; slots = other.slots; first = other.first; last = other.last; fuel = fuel }) alike.fuel
    ∙ (ap (λ (scripts : List (List ScriptCall)). record (bared other) { scripts = scripts; schedule = one.schedule }) alike.scripts
    ∙ ap (λ (schedule : List Turn). record (bared other) { schedule = schedule }) alike.schedule)))))

-- the spelling around the lines of scripts
abbrev spelled_around : Bool → Document → List (List (List ℕ)) → List ℕ
spelled_around always document lines = flat_map line_bytes (spelled document.text ++ (setting_lines document ++ (lines ++ schedule_lines always document.schedule)))

spelling_blind : (always : Bool) (document : Document) → spelling_with always document ≡ spelling_with always (bared document)
spelling_blind always document = ap (λ (lines : List (List (List ℕ))). spelled_around always document lines) (scripts_blind 0 document.scripts)

-- documents that are alike have one spelling
pub spelling_same : (always : Bool) (one other : Document) → AreAlike one other → spelling_with always one ≡ spelling_with always other
spelling_same always one other alike = spelling_blind always one ∙ (ap (spelling_with always) (bared_same one other alike) ∙ sym (spelling_blind always other))

-- ---- alike

pub turned : (one other : Document) → AreAlike one other → AreAlike other one
turned one other alike = record {
  text = sym alike.text;
  slots = sym alike.slots;
  first = sym alike.first;
  last = sym alike.last;
  fuel = sym alike.fuel;
  scripts = sym alike.scripts;
  schedule = sym alike.schedule;
}

pub joined : (one mid other : Document) → AreAlike one mid → AreAlike mid other → AreAlike one other
joined one mid other first second = record {
  text = first.text ∙ second.text;
  slots = first.slots ∙ second.slots;
  first = first.first ∙ second.first;
  last = first.last ∙ second.last;
  fuel = first.fuel ∙ second.fuel;
  scripts = first.scripts ∙ second.scripts;
  schedule = first.schedule ∙ second.schedule;
}
