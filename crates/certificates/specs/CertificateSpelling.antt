-- The canonical spelling of a certificate: that of its document with its `schedule` line always there, then the events and the replies, each
-- line with one space between words and a newline.
use Rattle.std.specs.Prelude.{ℕ, ◌+◌, true, List, [], ◌∷◌, ◌++◌, map, take, Option, Some, None, codes, decimal, slice_get}
use Rattle.std.specs.List.{flat_map}
use Rattle.norm_lang.specs.declared.text.Op.{Op}
use Rattle.norm_lang.specs.Spelling.{line_bytes}
use Rattle.source_machine.specs.declared.event.SourceEvent.{SourceEvent}
use Rattle.source_machine.specs.declared.event.SourceEvent.TheVariants as events
use Rattle.norm_lang.specs.declared.reply.SourceReply.{SourceReply}
use Rattle.norm_lang.specs.declared.reply.SourceReply.TheVariants as replies
use Rattle.schedule_turns.specs.declared.turn.Turn.{Turn}
use Rattle.document_spelling.specs.Spelling.{document_lines}
use Rattle.certificates.specs.declared.certificate.Certificate.{Certificate}

-- the line that the spelling of a document without turns lacks
abbrev pub owed_lines : List Turn → List (List (List ℕ))
owed_lines [] = (codes "schedule" ∷ []) ∷ []
owed_lines (turn ∷ schedule) = []

-- the name of an operation, and as many of the words as it takes
abbrev pub call_words : Option Op → List ℕ → List (List ℕ)
call_words None words = [] ∷ []
call_words (Some op) words = op.name ∷ map decimal (take op.args words)

-- `begin C NAME V V ..`, `access C N`, `restart C`, `full C` or `phases C P`
abbrev pub spelled_event : List Op → SourceEvent → List (List ℕ)
spelled_event ops (events.Begin c op words) = codes "begin" ∷ decimal c ∷ call_words (slice_get ops op) words
spelled_event ops (events.Access c name) = codes "access" ∷ decimal c ∷ decimal name ∷ []
spelled_event ops (events.Restart c) = codes "restart" ∷ decimal c ∷ []
spelled_event ops (events.GiveUp c None) = codes "full" ∷ decimal c ∷ []
spelled_event ops (events.GiveUp c (Some phase)) = codes "phases" ∷ decimal c ∷ decimal phase ∷ []

-- a number, `none`, `full` or `phases P`
abbrev pub reply_words : SourceReply → List (List ℕ)
reply_words (replies.Number n) = decimal n ∷ []
reply_words replies.Nothing = codes "none" ∷ []
reply_words replies.Full = codes "full" ∷ []
reply_words (replies.Phases p) = codes "phases" ∷ decimal p ∷ []

-- `reply C V`
abbrev pub spelled_reply : ℕ → SourceReply → List (List ℕ)
spelled_reply c reply = codes "reply" ∷ decimal c ∷ reply_words reply

-- the replies of callers, the first of which has this number
abbrev pub replies_lines : ℕ → List (List SourceReply) → List (List (List ℕ))
replies_lines c [] = []
replies_lines c (list ∷ lists) = map (spelled_reply c) list ++ replies_lines (c + 1) lists

-- the lines behind the document
abbrev pub account_lines : Certificate → List (List (List ℕ))
account_lines certificate =
    (codes "events" ∷ [])
    ∷ (map (spelled_event certificate.document.text.ops) certificate.events
    ++ ((codes "replies" ∷ []) ∷ replies_lines 0 certificate.replies))

-- the lines of a certificate, each as its words
abbrev pub certificate_lines : Certificate → List (List (List ℕ))
certificate_lines certificate = document_lines true certificate.document ++ account_lines certificate

-- the canonical spelling
abbrev pub certificate_spelling : Certificate → List ℕ
certificate_spelling certificate = flat_map line_bytes (certificate_lines certificate)
