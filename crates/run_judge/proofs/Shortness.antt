-- A line of the report is short exactly if some call of the certificate didn't return.
use Rattle.std.proofs.Common.{◌≡◌, ℕ, ◌+◌, Bool, true, false, ◌||◌, not, List, [], ◌∷◌, map, Option, Some, None, refl, sym, ap, ◌∙◌, arith}
use Rattle.std.specs.Prelude.{slice_get}
use Rattle.std.specs.List.{list_any}
use Rattle.std.specs.Option.{option_map}
use Rattle.std.proofs.lemmas.List.Folds.{list_any-append}
use Rattle.std.proofs.lemmas.Option.{slice_get-map, slice_get_past}
use Rattle.norm_lang.specs.declared.reply.SourceReply.{SourceReply}
use Rattle.norm_lang.specs.declared.reply.SourceReply.TheVariants as replies
use Rattle.documents.specs.declared.document.Document.{Document}
use Rattle.documents.specs.declared.document.ScriptCall.{ScriptCall}
use Rattle.caller_parts.specs.declared.call.Replied.{Replied}
use Rattle.caller_parts.specs.Pairing.{reply_of}
use Rattle.caller_steps.specs.Entries.{Entry}
use Rattle.oa_simulation.specs.sim_relation.Callers.{replies_of}
use Rattle.document_runs.specs.declared.report.Answer.{Answer}
use Rattle.document_runs.specs.declared.report.Answer.TheVariants as answers
use Rattle.document_runs.specs.Reports.{answer_from, answer_by, answer_among, lines_from, all_lines, report_of}
use Rattle.document_runs.specs.Texts.{is_answered, is_short_line, is_partial}
use Rattle.event_judge.specs.Calls.{listed}
use Rattle.certificates.specs.declared.certificate.Certificate.{Certificate}
use Rattle.certificate_laws.specs.Certified.{replies_in}
use Rattle.run_judge.specs.Made.{IsCertificateOf}
use Rattle.run_judge.specs.Short.{is_returned, is_returned_at, is_short_from, are_short_from, falls_short}

-- ---- one call

as_returned : (reply : SourceReply) → is_answered (answers.Replied reply) ≡ is_returned reply
as_returned (replies.Number n) = refl
as_returned _ = refl

answered_as : (reply : Option Replied) (runs : Bool) → is_answered (answer_from (option_map reply_of reply) runs) ≡ is_returned_at (option_map reply_of reply)
answered_as None true = refl
answered_as None false = refl
answered_as (Some replied) runs = as_returned replied.reply

entry_answered : (entry : Entry) (runs : Bool) (index : ℕ)
    → is_answered (answer_from (slice_get (map reply_of entry.replies) index) runs) ≡ is_returned_at (slice_get (replies_of entry) index)
entry_answered entry runs index =
    ap (λ (o : Option SourceReply). is_answered (answer_from o runs)) (slice_get-map reply_of entry.replies index)
    ∙ answered_as (slice_get entry.replies index) runs
    ∙ ap is_returned_at (sym (slice_get-map reply_of entry.replies index))

answered_by : (entry : Option Entry) (index : ℕ) → is_answered (answer_by entry index) ≡ is_returned_at (slice_get (listed (option_map replies_of entry)) index)
answered_by None index = ap is_returned_at (sym (slice_get_past {X = SourceReply} [] index (omega arith)))
answered_by (Some entry) index = entry_answered entry _ index

answered_among : (entries : List Entry) (caller index : ℕ)
    → is_answered (answer_among entries caller index) ≡ is_returned_at (slice_get (listed (slice_get (map replies_of entries) caller)) index)
answered_among entries caller index =
    answered_by (slice_get entries caller) index
    ∙ ap (λ (o : Option (List SourceReply)). is_returned_at (slice_get (listed o) index)) (sym (slice_get-map replies_of entries caller))

-- ---- all calls

or_same : (a b c d : Bool) → a ≡ b → c ≡ d → (a || c) ≡ (b || d)
or_same a b c d first more = ap (λ x. x || c) first ∙ ap (λ x. b || x) more

lines_short : (answer : ℕ → Answer) (list : List SourceReply) → ((index : ℕ) → is_answered (answer index) ≡ is_returned_at (slice_get list index))
    → (caller index : ℕ) (script : List ScriptCall) → list_any is_short_line (lines_from answer caller index script) ≡ is_short_from index script list
lines_short answer list same caller index [] = refl
lines_short answer list same caller index (call ∷ script) =
    or_same (not (is_answered (answer index))) (not (is_returned_at (slice_get list index))) _ _ (ap not (same index)) (lines_short answer list same caller (index + 1) script)

all_short : (entries : List Entry) (caller : ℕ) (scripts : List (List ScriptCall))
    → list_any is_short_line (all_lines (answer_among entries) caller scripts) ≡ are_short_from caller scripts (map replies_of entries)
all_short entries caller [] = refl
all_short entries caller (script ∷ scripts) =
    list_any-append is_short_line (lines_from (answer_among entries caller) caller 0 script) (all_lines (answer_among entries) (caller + 1) scripts)
    ∙ or_same _ _ _ _
    (lines_short (answer_among entries caller) (listed (slice_get (map replies_of entries) caller)) (answered_among entries caller) caller 0 script)
    (all_short entries (caller + 1) scripts)

pub short_is_told : (document : Document) (certificate : Certificate) (made : IsCertificateOf document certificate)
    → is_partial (report_of document made.replaying.state) ≡ falls_short certificate
short_is_told document certificate made =
    all_short made.replaying.state.entries 0 document.scripts
    ∙ ap (λ (d : Document). are_short_from 0 d.scripts (replies_in made.replaying.state)) (sym made.same)
    ∙ ap (λ (lists : List (List SourceReply)). are_short_from 0 certificate.document.scripts lists) (sym made.replies)
