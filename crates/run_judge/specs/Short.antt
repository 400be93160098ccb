-- Whether some call of a certificate didn't return.
use Rattle.std.specs.Prelude.{◌≡◌, ℕ, ◌+◌, Bool, true, false, ◌||◌, not, List, [], ◌∷◌, Option, Some, None, slice_get}
use Rattle.norm_lang.specs.declared.reply.SourceReply.{SourceReply}
use Rattle.norm_lang.specs.declared.reply.SourceReply.TheVariants as replies
use Rattle.documents.specs.declared.document.Document.{Document}
use Rattle.documents.specs.declared.document.ScriptCall.{ScriptCall}
use Rattle.document_runs.specs.Reports.{report_of}
use Rattle.document_runs.specs.Texts.{is_partial}
use Rattle.certificates.specs.declared.certificate.Certificate.{Certificate}
use Rattle.event_judge.specs.Calls.{listed}
use Rattle.run_judge.specs.Made.{IsCertificateOf}

-- a call returned, with a number or without
abbrev pub is_returned : SourceReply → Bool
is_returned (replies.Number n) = true
is_returned replies.Nothing = true
is_returned replies.Full = false
is_returned (replies.Phases p) = false

-- there is a reply, with which the call returned
abbrev pub is_returned_at : Option SourceReply → Bool
is_returned_at None = false
is_returned_at (Some reply) = is_returned reply

-- some call of a script didn't return, of those from an index on
abbrev pub is_short_from : ℕ → List ScriptCall → List SourceReply → Bool
is_short_from index [] replies = false
is_short_from index (call ∷ script) replies = not (is_returned_at (slice_get replies index)) || is_short_from (index + 1) script replies

-- some call of the scripts, of those from a caller on
abbrev pub are_short_from : ℕ → List (List ScriptCall) → List (List SourceReply) → Bool
are_short_from caller [] lists = false
are_short_from caller (script ∷ scripts) lists = is_short_from 0 script (listed (slice_get lists caller)) || are_short_from (caller + 1) scripts lists

-- some call of a certificate's scripts didn't return
abbrev pub falls_short : Certificate → Bool
falls_short certificate = are_short_from 0 certificate.document.scripts certificate.replies

-- some line that tells of a replay is short exactly if this is so of the replay's certificate
abbrev pub ShortIsTold : Type 0
ShortIsTold =
    (document : Document) (certificate : Certificate) (made : IsCertificateOf document certificate)
    → is_partial (report_of document made.replaying.state) ≡ falls_short certificate
