-- Lines of certificates, and whole certificates, read by hand before anything is proved of the reader. Each row is computed from the definitions.
--
-- They tell the reader apart from these wrong ones:
--
--   an unknown operation told before a number that is too large      great_first
--   a count of arguments asked of an unknown operation                unknown_any
--   a number that is too large told before a wrong count              count_first
--   a reply's caller told as too large                                no_such_caller
--   a reply put in another caller's list                              later_caller
--   `events` taken for the end of a document in a script              call_of_events
use Rattle.std.specs.Prelude.{◌≡◌, ℕ, ◌++◌, List, [], ◌∷◌, Some, None, Result, Ok, Err, codes, refl}
use Rattle.norm_lang.specs.declared.text.Instr.TheVariants.{Commit, ReturnNone}
use Rattle.norm_lang.specs.declared.text.Op.{Op}
use Rattle.norm_lang.specs.Faults.{LineFault}
use Rattle.source_machine.specs.declared.event.SourceEvent.{SourceEvent}
use Rattle.source_machine.specs.declared.event.SourceEvent.TheVariants.{Begin, Access, Restart, GiveUp}
use Rattle.norm_lang.specs.declared.reply.SourceReply.{SourceReply}
use Rattle.norm_lang.specs.declared.reply.SourceReply.TheVariants as replies
use Rattle.certificates.specs.declared.certificate.Certificate.{Certificate}
use Rattle.certificates.specs.declared.replies.Claim.{Claim}
use Rattle.certificates.specs.EventLines.{event_line, claim_line}
use Rattle.certificates.specs.Accounts.{grown, with_claim}
use Rattle.certificates.specs.CertificateRead.{certificate_read}

-- an operation of this name with so many arguments
op_of : List ℕ → ℕ → Op
op_of name args = record { name = name; args = args; generator = Commit [] ∷ []; wrapup = ReturnNone ∷ [] }

ops : List Op
unfolding op_of
ops = op_of (codes "add") 1 ∷ op_of (codes "nop") 0 ∷ []

-- 2^64
great : List ℕ
great = codes "18446744073709551616"

-- what the line of an event says
says : List ℕ → List (List ℕ) → Result SourceEvent ℕ
unfolding ops
says word rest = event_line ops word rest

-- ---- events

add_five : says (codes "begin") (codes "0" ∷ codes "add" ∷ codes "5" ∷ []) ≡ Ok (Begin 0 0 (5 ∷ 0 ∷ 0 ∷ 0 ∷ []))
unfolding says
add_five = refl

access : says (codes "access") (codes "3" ∷ codes "17" ∷ []) ≡ Ok (Access 3 17)
unfolding says
access = refl

restart : says (codes "restart") (codes "1" ∷ []) ≡ Ok (Restart 1)
unfolding says
restart = refl

full : says (codes "full") (codes "1" ∷ []) ≡ Ok (GiveUp 1 None)
unfolding says
full = refl

phases : says (codes "phases") (codes "1" ∷ codes "4" ∷ []) ≡ Ok (GiveUp 1 (Some 4))
unfolding says
phases = refl

-- the greatest caller, and one above it
last_caller : says (codes "restart") (codes "4294967295" ∷ []) ≡ Ok (Restart 4294967295)
unfolding says
last_caller = refl

past_caller : says (codes "restart") (codes "4294967296" ∷ []) ≡ Err 7
unfolding says
past_caller = refl

-- an unknown operation may have any count of numbers, and is told before a caller that is too large
unknown_any : says (codes "begin") (codes "4294967296" ∷ codes "sub" ∷ codes "1" ∷ codes "2" ∷ codes "3" ∷ codes "4" ∷ codes "5" ∷ codes "6" ∷ []) ≡ Err 5
unfolding says
unknown_any = refl

-- a number that is too large comes before it
great_first : says (codes "begin") (codes "0" ∷ codes "sub" ∷ great ∷ []) ≡ Err 2
unfolding says great
great_first = refl

-- a wrong count comes before that
count_first : says (codes "begin") (codes "0" ∷ codes "add" ∷ great ∷ codes "1" ∷ []) ≡ Err 4
unfolding says great
count_first = refl

no_number : says (codes "begin") (codes "0" ∷ codes "sub" ∷ codes "01" ∷ great ∷ []) ≡ Err 4
unfolding says great
no_number = refl

more_words : says (codes "access") (codes "0" ∷ codes "0" ∷ codes "0" ∷ []) ≡ Err 4
unfolding says
more_words = refl

no_event : says (codes "reply") (codes "0" ∷ codes "0" ∷ []) ≡ Err 4
unfolding says
no_event = refl

-- ---- replies, with two scripts

claims : ℕ → List (List ℕ) → Result Claim ℕ
claims so_far words = claim_line 2 so_far words

number : claims 0 (codes "1" ∷ codes "5" ∷ []) ≡ Ok (record { caller = 1; reply = replies.Number 5 })
unfolding claims
number = refl

nothing : claims 0 (codes "0" ∷ codes "none" ∷ []) ≡ Ok (record { caller = 0; reply = replies.Nothing })
unfolding claims
nothing = refl

phases_over : claims 1 (codes "0" ∷ codes "phases" ∷ codes "4" ∷ []) ≡ Ok (record { caller = 0; reply = replies.Phases 4 })
unfolding claims
phases_over = refl

-- a caller below the one before
below : claims 2 (codes "0" ∷ codes "5" ∷ []) ≡ Err 4
unfolding claims
below = refl

-- no script: 4, be the number however large
no_such_caller : claims 0 (great ∷ codes "5" ∷ []) ≡ Err 4
unfolding claims great
no_such_caller = refl

great_reply : claims 0 (codes "0" ∷ great ∷ []) ≡ Err 2
unfolding claims great
great_reply = refl

-- a caller before which others have no reply
later_caller : grown 3 (with_claim (record { caller = 1; reply = replies.Full }) []) ≡ [] ∷ (replies.Full ∷ []) ∷ [] ∷ []
later_caller = refl

-- ---- certificates

-- a text with one operation, and lines behind it
lines : List ℕ → List ℕ
lines behind = codes "oa 1\nfield a num\nnodes 0\nroot t num 0\nop f 0\ngen\ncommit 0\nwrap\nreturnnone\n" ++ behind

-- the events and replies that are read
read_of : Result Certificate LineFault → Result (List SourceEvent × List (List SourceReply)) LineFault
read_of (Ok certificate) = Ok (certificate.events, certificate.replies)
read_of (Err fault) = Err fault

reads : List ℕ → Result (List SourceEvent × List (List SourceReply)) LineFault
unfolding read_of lines
reads behind = read_of (certificate_read (lines behind))

whole : reads (codes "script 0\nf\nschedule\n# a comment\nevents\nbegin 0 f\n\naccess 0 0\nreplies\nreply 0 none") ≡ Ok (Begin 0 0 (0 ∷ 0 ∷ 0 ∷ 0 ∷ []) ∷ Access 0 0 ∷ [], (replies.Nothing ∷ []) ∷ [])
unfolding reads
whole = refl

-- within a script `events` is a call; the end comes before a schedule
call_of_events : reads (codes "script 0\nevents\nreplies\n") ≡ Err (record { line = 13; number = 4 })
unfolding reads
call_of_events = refl

no_script : reads (codes "events\n") ≡ Err (record { line = 10; number = 4 })
unfolding reads
no_script = refl

no_replies : reads (codes "schedule\nevents\nrestart 9\n") ≡ Err (record { line = 13; number = 4 })
unfolding reads
no_replies = refl

not_alone : reads (codes "schedule\nevents 1\nreplies\n") ≡ Err (record { line = 11; number = 4 })
unfolding reads
not_alone = refl

-- the first line that has a fault decides, also before the events
first_fault : reads (codes "schedule\nstep 0 0\nevents\nrestart x\n") ≡ Err (record { line = 11; number = 4 })
unfolding reads
first_fault = refl
