-- What a certificate is: a document with a `schedule` line, then `events` and event lines, `replies` and reply lines.
use Rattle.std.specs.Prelude.{◌≡◌, ℕ, ◌+◌, Bool, false, ◌&&◌, ◌||◌, List, [], ◌∷◌, length, take, drop, Option, Some, None, is_none, Result, Ok, Err, codes, if◌then◌else◌}
use Rattle.std.specs.Option.{unwrap_or}
use Rattle.std.specs.Str.{bytes_eq}
use Rattle.oa_text.specs.Lines.{TextLine, lines_of, numbered}
use Rattle.norm_lang.specs.Faults.{LineFault, form_fault, ◌>>=◌, at_line}
use Rattle.norm_lang.specs.LineWords.{end_at}
use Rattle.line_words.specs.Lines.{words_in, first_word}
use Rattle.documents.specs.declared.document.Document.{Document}
use Rattle.documents.specs.DocumentRead.{document_read}
use Rattle.certificates.specs.declared.account.Account.{Account}
use Rattle.certificates.specs.declared.certificate.Certificate.{Certificate}
use Rattle.certificates.specs.Accounts.{grown, no_account, after_lines}

-- ---- the line that begins the events

abbrev pub word_in : Option (List ℕ × List (List ℕ)) → List ℕ
word_in None = []
word_in (Some word) = word.0

abbrev pub word_of_words : Result (List (List ℕ)) ℕ → Option (List ℕ)
word_of_words (Err fault) = None
word_of_words (Ok words) = Some (word_in (first_word words))

-- the word that a line begins with: no bytes if the line is skipped, none if its bytes have a fault
abbrev pub word_of : TextLine → Option (List ℕ)
word_of line = word_of_words (words_in line)

abbrev pub begins_with : TextLine → List ℕ → Bool
begins_with line word = bytes_eq (unwrap_or (word_of line) []) word

-- how many bytes lines take with their newlines
abbrev pub room_of : List TextLine → ℕ
room_of [] = 0
room_of (line ∷ lines) = length line.bytes + 1 + room_of lines

-- where a document ends: the count of bytes before the line that begins the events, that line, and those behind it
pub record Cut : Type 0 where
  pub before : ℕ
  pub line : TextLine
  pub behind : List TextLine

-- the first line that begins with `events` behind one that begins with `schedule`: no line of a schedule begins so. It isn't looked for
-- behind a line whose bytes have a fault. So many bytes stand before the lines, and `schedule` among them or not
abbrev pub cut_from : Bool → ℕ → List TextLine → Option Cut
cut_from scheduled before [] = None
cut_from scheduled before (line ∷ lines) =
    if is_none (word_of line) then None
    else (if scheduled && begins_with line (codes "events") then Some (record { before = before; line = line; behind = lines })
    else cut_from (scheduled || begins_with line (codes "schedule")) (before + length line.bytes + 1) lines)

-- ---- the whole

-- the number of the line that would follow the last
abbrev pub past : List ℕ → ℕ
past bytes = length (lines_of bytes) + 1

-- the fault of bytes that end where a further line must follow
abbrev pub ends_early : List ℕ → LineFault
ends_early bytes = record { line = past bytes; number = form_fault }

-- `events` alone
abbrev pub events_line : TextLine → Result (Unit {0}) ℕ
events_line line = words_in line >>= λ words. end_at (drop 1 words)

-- a document, and what is said behind it, once the replies have begun
abbrev pub certificate_of : Document → Account → Certificate
certificate_of document account = record { document = document; events = account.events; replies = grown (length document.scripts) account.replies }

abbrev pub whole : List ℕ → Document → Account → Result Certificate LineFault
whole bytes document account = if account.in_replies then Ok (certificate_of document account) else Err (ends_early bytes)

abbrev pub read_at : List ℕ → Option Cut → Result Certificate LineFault
read_at bytes None = document_read bytes >>= λ document. Err (ends_early bytes)
read_at bytes (Some cut) = do
  document ← document_read (take cut.before bytes)
  begun ← at_line cut.line.number (events_line cut.line)
  account ← after_lines document.text.ops (length document.scripts) no_account cut.behind
  whole bytes document account

-- the certificate that bytes spell, or the first line that has a fault, with its first fault
abbrev pub certificate_read : List ℕ → Result Certificate LineFault
certificate_read bytes = read_at bytes (cut_from false 0 (numbered 1 (lines_of bytes)))

-- bytes are in the grammar of certificates, and stand for this one
abbrev pub IsCertificate : List ℕ → Certificate → Type 0
IsCertificate bytes certificate = certificate_read bytes ≡ Ok certificate
