-- What the lines behind `events` say so far.
use Rattle.std.specs.Prelude.{ℕ, ◌+◌, ◌-◌, true, false, List, [], ◌∷◌, ◌++◌, length, replicate, Option, Some, None, Result, Ok, Err, codes, if◌then◌else◌, slice_get, slice_set}
use Rattle.std.specs.Str.{bytes_eq}
use Rattle.oa_text.specs.Lines.{TextLine}
use Rattle.norm_lang.specs.declared.text.Op.{Op}
use Rattle.norm_lang.specs.Faults.{LineFault, form_fault, ◌>>=◌, at_line}
use Rattle.norm_lang.specs.LineWords.{end_at}
use Rattle.line_words.specs.Lines.{words_in, first_word}
use Rattle.norm_lang.specs.declared.reply.SourceReply.{SourceReply}
use Rattle.certificates.specs.declared.account.Account.{Account}
use Rattle.certificates.specs.declared.replies.Claim.{Claim}
use Rattle.certificates.specs.EventLines.{event_line, claim_line}

-- ---- lists of replies, one for each caller

-- with an empty list for each further caller, so that there are so many
abbrev pub grown : ℕ → List (List SourceReply) → List (List SourceReply)
grown count lists = lists ++ replicate (count - length lists) []

abbrev pub list_at : Option (List SourceReply) → List SourceReply
list_at None = []
list_at (Some list) = list

-- one more reply of a caller
abbrev pub with_claim : Claim → List (List SourceReply) → List (List SourceReply)
with_claim claim lists =
    let more = grown (claim.caller + 1) lists in
    slice_set more claim.caller (list_at (slice_get more claim.caller) ++ claim.reply ∷ [])

-- ---- lines

-- nothing is said yet
abbrev pub no_account : Account
no_account = record { in_replies = false; events = []; replies = [] }

-- one more event, or the line that begins the replies
abbrev pub in_events : List Op → Account → List ℕ → List (List ℕ) → Result Account ℕ
in_events ops account word rest =
    if bytes_eq word (codes "replies") then (end_at rest >>= λ done. Ok (record account { in_replies = true }))
    else (event_line ops word rest >>= λ event. Ok (record account { events = account.events ++ event ∷ [] }))

-- one more reply, given the count of scripts
abbrev pub in_claims : ℕ → Account → List ℕ → List (List ℕ) → Result Account ℕ
in_claims scripts account word rest =
    if bytes_eq word (codes "reply") then (claim_line scripts (length account.replies) rest >>= λ claim. Ok (record account { replies = with_claim claim account.replies }))
    else Err form_fault

abbrev pub after_word : List Op → ℕ → Account → List ℕ → List (List ℕ) → Result Account ℕ
after_word ops scripts account word rest = if account.in_replies then in_claims scripts account word rest else in_events ops account word rest

-- what is said after the words of a line, of which there are none if it is skipped
abbrev pub after_words : List Op → ℕ → Account → Option (List ℕ × List (List ℕ)) → Result Account ℕ
after_words ops scripts account None = Ok account
after_words ops scripts account (Some word) = after_word ops scripts account word.0 word.1

-- what is said after a line, or the line's first fault. Its bytes are judged first, even if it is skipped
abbrev pub after_line : List Op → ℕ → Account → TextLine → Result Account ℕ
after_line ops scripts account line = words_in line >>= λ words. after_words ops scripts account (first_word words)

-- what is said after lines, or the first line that has a fault, with its first fault
abbrev pub after_lines : List Op → ℕ → Account → List TextLine → Result Account LineFault
after_lines ops scripts account [] = Ok account
after_lines ops scripts account (line ∷ lines) = do
  next ← at_line line.number (after_line ops scripts account line)
  after_lines ops scripts next lines
