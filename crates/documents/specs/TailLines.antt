-- The lines of a document after its text, each after its first word: what it says, or its first fault. Each reads its
-- whole form before it judges a number or a limit.
use Rattle.std.specs.Prelude.{ℕ, Bool, true, false, List, [], ◌∷◌, Option, Some, None, Result, Ok, Err, codes, nat_lt, nat_le, ◌==◌, if◌then◌else◌}
use Rattle.std.specs.List.{list_all}
use Rattle.std.specs.Str.{bytes_eq}
use Rattle.oa_text.specs.Numbers.{is_numeral, number_of, fitting}
use Rattle.norm_lang.specs.declared.text.Version.{Version}
use Rattle.norm_lang.specs.Faults.{form_fault, unknown_name, too_many, ◌>>=◌, demand, or_fault}
use Rattle.norm_lang.specs.LineWords.{is_name, word_at, end_at, owner_at, number_at, positive_at, value_of, up_to}
use Rattle.schedule_turns.specs.declared.turn.StepKind.{StepKind}
use Rattle.schedule_turns.specs.declared.turn.StepKind.TheVariants as steps
use Rattle.schedule_turns.specs.declared.turn.Turn.{Turn}
use Rattle.schedule_turns.specs.declared.turn.Turn.TheVariants as turns
use Rattle.documents.specs.declared.document.ScriptCall.{ScriptCall}
use Rattle.documents.specs.DocumentLimits.{most_scripts, most_calls, most_caller, most_count}

-- a kind is this one or a later one. It also holds if the kind isn't declared, since the line's fault is then that, and not its place
abbrev pub is_from : ℕ → Option ℕ → Bool
is_from next None = true
is_from next (Some owner) = nat_le next owner

-- the slots of a kind
pub record Slots : Type 0 where
  pub owner : ℕ
  pub count : ℕ

-- `slots KIND S`, for this kind or a later one. A line of the first version names no kind
abbrev pub slots_line : Version → List (List ℕ) → ℕ → List (List ℕ) → Result Slots ℕ
slots_line version kinds next words = do
  owner ← owner_at version kinds words
  count ← number_at owner.1
  done ← end_at count.1
  follows ← demand form_fault (is_from next owner.0)
  value ← value_of count.0
  known ← or_fault unknown_name owner.0
  Ok (record { owner = known; count = value })

-- `fuel N`
abbrev pub fuel_line : List (List ℕ) → Result ℕ ℕ
fuel_line words = do
  number ← number_at words
  done ← end_at number.1
  value_of number.0

-- the first and the last phase
pub record Phases : Type 0 where
  pub first : ℕ
  pub last : ℕ

-- `phases F L`
abbrev pub phases_line : List (List ℕ) → Result Phases ℕ
phases_line words = do
  first ← number_at words
  last ← number_at first.1
  done ← end_at last.1
  from ← value_of first.0
  to ← value_of last.0
  Ok (record { first = from; last = to })

-- a number as it is spelled is this one: one that exceeds 2^64 - 1 is none
abbrev pub is_number : ℕ → Option ℕ → Bool
is_number n None = false
is_number n (Some m) = m == n

-- `script C`, where C is the next script's number: at most 256 scripts
abbrev pub script_line : ℕ → List (List ℕ) → Result (Unit {0}) ℕ
script_line next words = do
  number ← number_at words
  done ← end_at number.1
  same ← demand form_fault (is_number next number.0)
  demand too_many (nat_lt next most_scripts)

-- the numbers that words spell, each as a number
abbrev pub values_in : List (List ℕ) → Result (List ℕ) ℕ
values_in [] = Ok []
values_in (word ∷ words) = do
  value ← value_of (fitting (number_of word))
  values ← values_in words
  Ok (value ∷ values)

-- the arguments of a call, up to the end of the line: all are spelled as numbers, and then each fits
abbrev pub arguments_at : List (List ℕ) → Result (List ℕ) ℕ
arguments_at words = do
  spelled ← demand form_fault (list_all is_numeral words)
  values_in words

-- `NAME V V ..` at a line, after so many calls of its script: at most 100,000 calls
abbrev pub call_line : ℕ → ℕ → List ℕ → List (List ℕ) → Result ScriptCall ℕ
call_line line calls word rest = do
  named ← demand form_fault (is_name word)
  args ← arguments_at rest
  room ← demand too_many (nat_lt calls most_calls)
  Ok (record { line = line; name = word; args = args })

-- `load`, `check` or `exchange`
abbrev pub step_kind_in : List ℕ → Result StepKind ℕ
step_kind_in word =
    if bytes_eq word (codes "load") then Ok steps.Load
    else (if bytes_eq word (codes "check") then Ok steps.Check
    else (if bytes_eq word (codes "exchange") then Ok steps.Exchange
    else Err form_fault))

-- a kind of step, and the words after it
abbrev pub step_kind_at : List (List ℕ) → Result (StepKind × List (List ℕ)) ℕ
step_kind_at words = do
  word ← word_at words
  kind ← step_kind_in word.0
  Ok (kind, word.1)

-- the caller of a turn, and its count
pub record Counts : Type 0 where
  pub caller : ℕ
  pub count : ℕ

-- a caller up to 2^32 - 1, and a count up to 1,000,000
abbrev pub counts_of : Option ℕ → Option ℕ → Result Counts ℕ
counts_of caller count = do
  who ← value_of caller
  many ← value_of count
  known ← up_to most_caller who
  few ← up_to most_count many
  Ok (record { caller = known; count = few })

-- `C N`, where N is at least 1
abbrev pub counts_at : List (List ℕ) → Result Counts ℕ
counts_at words = do
  caller ← number_at words
  count ← positive_at caller.1
  done ← end_at count.1
  counts_of caller.0 count.0

-- `upto C load N`, `upto C check N` and `upto C exchange N`, where N is at least 1
abbrev pub upto_line : List (List ℕ) → Result Turn ℕ
upto_line words = do
  caller ← number_at words
  kind ← step_kind_at caller.1
  count ← positive_at kind.1
  done ← end_at count.1
  counts ← counts_of caller.0 count.0
  Ok (turns.Upto counts.caller kind.0 counts.count)

-- a turn, by the line's first word: `step C N`, `op C N`, or `upto C` with a kind of step and N
abbrev pub turn_line : List ℕ → List (List ℕ) → Result Turn ℕ
turn_line word rest =
    if bytes_eq word (codes "step") then (counts_at rest >>= λ counts. Ok (turns.Step counts.caller counts.count))
    else (if bytes_eq word (codes "op") then (counts_at rest >>= λ counts. Ok (turns.Ops counts.caller counts.count))
    else (if bytes_eq word (codes "upto") then upto_line rest
    else Err form_fault))
