-- The lines of a certificate behind its document, each after its first word: what it says, or its first fault. Each reads its whole form
-- before it judges a number, a name or a limit.
use Rattle.std.specs.Prelude.{ℕ, ◌+◌, Bool, true, false, ◌&&◌, not, List, [], ◌∷◌, Option, Some, None, Result, Ok, Err, codes, nat_lt, nat_le, ◌==◌, if◌then◌else◌, slice_get, slice_set}
use Rattle.std.specs.List.{position}
use Rattle.std.specs.Str.{bytes_eq}
use Rattle.norm_lang.specs.declared.text.Op.{Op}
use Rattle.norm_lang.specs.Faults.{form_fault, number_fault, unknown_name, ◌>>=◌, demand, or_fault}
use Rattle.norm_lang.specs.LineWords.{word_at, end_at, name_at, number_in, number_at, value_of, up_to}
use Rattle.source_machine.specs.declared.event.SourceEvent.{SourceEvent}
use Rattle.source_machine.specs.declared.event.SourceEvent.TheVariants as events
use Rattle.norm_lang.specs.declared.reply.SourceReply.{SourceReply}
use Rattle.norm_lang.specs.declared.reply.SourceReply.TheVariants as replies
use Rattle.documents.specs.DocumentLimits.{most_caller}
use Rattle.certificates.specs.declared.numbers.Numbers.{Numbers}
use Rattle.certificates.specs.declared.replies.Claim.{Claim}

-- ---- the arguments of a begin

-- no word has been read yet
abbrev pub no_numbers : Numbers
no_numbers = record { count = 0; great = false; words = 0 ∷ 0 ∷ 0 ∷ 0 ∷ [] }

-- one more; 5 stands for all counts above 4
abbrev pub counted : ℕ → ℕ
counted count = if nat_lt count 5 then count + 1 else count

-- one more number, as it is spelled: the first four are kept, and whether one exceeds 2^64 - 1
abbrev pub with_number : Numbers → Option ℕ → Numbers
with_number numbers None = record { count = counted numbers.count; great = true; words = numbers.words }
with_number numbers (Some value) = record { count = counted numbers.count; great = numbers.great; words = slice_set numbers.words numbers.count value }

-- the numbers that words spell, after those so far
abbrev pub numbers_from : Numbers → List (List ℕ) → Result Numbers ℕ
numbers_from numbers [] = Ok numbers
numbers_from numbers (word ∷ words) = number_in word >>= λ number. numbers_from (with_number numbers number) words

-- the place of the operation so named
abbrev pub op_named : List Op → List ℕ → Option ℕ
op_named ops name = position (λ (op : Op). bytes_eq op.name name) ops

-- the operation takes so many arguments; one that isn't there may take any
abbrev pub may_take : ℕ → Option Op → Bool
may_take count None = true
may_take count (Some op) = count == op.args

abbrev pub may_take_at : List Op → Option ℕ → ℕ → Bool
may_take_at ops None count = true
may_take_at ops (Some place) count = may_take count (slice_get ops place)

-- a caller up to 2^32 - 1
abbrev pub caller_in : ℕ → Result ℕ ℕ
caller_in number = up_to most_caller number

-- ---- events

-- `begin C NAME V V ..`, with as many numbers as the operation takes
abbrev pub begin_line : List Op → List (List ℕ) → Result SourceEvent ℕ
begin_line ops words = do
  caller ← number_at words
  name ← name_at caller.1
  numbers ← numbers_from no_numbers name.1
  fits ← demand form_fault (may_take_at ops (op_named ops name.0) numbers.count)
  who ← value_of caller.0
  small ← demand number_fault (not numbers.great)
  op ← or_fault unknown_name (op_named ops name.0)
  known ← caller_in who
  Ok (events.Begin known op numbers.words)

-- `access C N`
abbrev pub access_line : List (List ℕ) → Result SourceEvent ℕ
access_line words = do
  caller ← number_at words
  name ← number_at caller.1
  done ← end_at name.1
  who ← value_of caller.0
  node ← value_of name.0
  known ← caller_in who
  Ok (events.Access known node)

-- `C` alone: of `restart C` and `full C`
abbrev pub lone_caller : List (List ℕ) → Result ℕ ℕ
lone_caller words = do
  caller ← number_at words
  done ← end_at caller.1
  who ← value_of caller.0
  caller_in who

-- `phases C P`
abbrev pub phases_line : List (List ℕ) → Result SourceEvent ℕ
phases_line words = do
  caller ← number_at words
  phase ← number_at caller.1
  done ← end_at phase.1
  who ← value_of caller.0
  last ← value_of phase.0
  known ← caller_in who
  Ok (events.GiveUp known (Some last))

-- an event, by the line's first word
abbrev pub event_line : List Op → List ℕ → List (List ℕ) → Result SourceEvent ℕ
event_line ops word rest =
    if bytes_eq word (codes "begin") then begin_line ops rest
    else (if bytes_eq word (codes "access") then access_line rest
    else (if bytes_eq word (codes "restart") then (lone_caller rest >>= λ c. Ok (events.Restart c))
    else (if bytes_eq word (codes "full") then (lone_caller rest >>= λ c. Ok (events.GiveUp c None))
    else (if bytes_eq word (codes "phases") then phases_line rest
    else Err form_fault))))

-- ---- replies

-- a reply as it is spelled: a number that exceeds 2^64 - 1 is none
pub data ReplyWord : Type 0 where
  Spelled : (number : Option ℕ) → ReplyWord
  Nothing : ReplyWord
  Full : ReplyWord
  Phases : (phase : Option ℕ) → ReplyWord

-- `none`, `full`, `phases P` or a number, by its first word
abbrev pub reply_by : List ℕ → List (List ℕ) → Result ReplyWord ℕ
reply_by word rest =
    if bytes_eq word (codes "none") then (end_at rest >>= λ done. Ok Nothing)
    else (if bytes_eq word (codes "full") then (end_at rest >>= λ done. Ok Full)
    else (if bytes_eq word (codes "phases") then (number_at rest >>= λ phase. end_at phase.1 >>= λ done. Ok (Phases phase.0))
    else (number_in word >>= λ number. end_at rest >>= λ done. Ok (Spelled number))))

-- the reply, unless a number exceeds 2^64 - 1
abbrev pub reply_of : ReplyWord → Result SourceReply ℕ
reply_of (Spelled number) = value_of number >>= λ n. Ok (replies.Number n)
reply_of Nothing = Ok replies.Nothing
reply_of Full = Ok replies.Full
reply_of (Phases phase) = value_of phase >>= λ p. Ok (replies.Phases p)

-- a caller has a script, of which there are `scripts`, and isn't below the last caller that has a reply. The callers up to that one are `so_far`
abbrev pub may_reply : ℕ → ℕ → Option ℕ → Bool
may_reply scripts so_far None = false
may_reply scripts so_far (Some c) = nat_lt c scripts && nat_le so_far (c + 1)

-- `C V`, where V is a number, `none`, `full` or `phases P`
abbrev pub claim_line : ℕ → ℕ → List (List ℕ) → Result Claim ℕ
claim_line scripts so_far words = do
  caller ← number_at words
  first ← word_at caller.1
  spelled ← reply_by first.0 first.1
  may ← demand form_fault (may_reply scripts so_far caller.0)
  who ← value_of caller.0
  reply ← reply_of spelled
  Ok (record { caller = who; reply = reply })
