-- What words ask for.
use Rattle.std.specs.Prelude.{ℕ, ◌≤◌, ◌&&◌, List, [], ◌∷◌, Option, Some, None, codes, if◌then◌else◌}
use Rattle.std.specs.Option.{option_map}
use Rattle.std.specs.Str.{bytes_eq}
use Rattle.oa_text.specs.Numbers.{is_numeral, number_of}
use Rattle.oa_words.specs.Within.{is_count}
use Rattle.oa_words.specs.declared.limits.TheConstants.{MOST_CALLERS}
use Rattle.documents.specs.DocumentLimits.{most_calls}
use Rattle.command_input.specs.declared.command.Command.{Command}
use Rattle.command_input.specs.declared.command.Command.TheVariants.{Run, Replay, Epochs, Check, Show, Upgrade, Compile, Certify}
use Rattle.command_input.specs.declared.command.Request.{Request}
use Rattle.command_input.specs.declared.command.Request.TheVariants.{OfDocument, OfCertificate, Workload}

-- `run`, `replay`, `epochs`, `check`, `show`, `upgrade` or `compile`
abbrev pub command_named : List ℕ → Option Command
command_named word =
    if bytes_eq word (codes "run") then Some Run
    else (if bytes_eq word (codes "replay") then Some Replay
    else (if bytes_eq word (codes "epochs") then Some Epochs
    else (if bytes_eq word (codes "check") then Some Check
    else (if bytes_eq word (codes "show") then Some Show
    else (if bytes_eq word (codes "upgrade") then Some Upgrade
    else (if bytes_eq word (codes "compile") then Some Compile
    else None))))))

-- the number that a word spells, from 1 to `most`, as a document spells numbers
abbrev pub count_in : ℕ → List ℕ → Option ℕ
count_in most word = if is_numeral word && is_count most (number_of word) then Some (number_of word) else None

abbrev pub workload_of : Option ℕ → Option ℕ → Option Request
workload_of None callers = None
workload_of (Some count) None = None
workload_of (Some count) (Some callers) = Some (Workload count callers)

-- the words after `workload`: N, from 1 to 100,000, and C, from 1 to 8
abbrev pub workload_in : List (List ℕ) → Option Request
workload_in [] = None
workload_in (count ∷ []) = None
workload_in (count ∷ callers ∷ []) = workload_of (count_in most_calls count) (count_in MOST_CALLERS callers)
workload_in (count ∷ callers ∷ other ∷ words) = None

-- the word after `judge`: `make` or `check`
abbrev pub judge_named : List ℕ → Option Request
judge_named word =
    if bytes_eq word (codes "make") then Some (OfDocument Certify)
    else (if bytes_eq word (codes "check") then Some OfCertificate
    else None)

-- the words after `judge`
abbrev pub judge_in : List (List ℕ) → Option Request
judge_in [] = None
judge_in (word ∷ []) = judge_named word
judge_in (word ∷ other ∷ words) = None

-- what words ask for, if they are in the grammar: the word of a command on a document, `judge make`, `judge check` or `workload N C`; no
-- other list of words is
abbrev pub request_of : List (List ℕ) → Option Request
request_of [] = None
request_of (word ∷ []) = option_map OfDocument (command_named word)
request_of (word ∷ other ∷ words) =
    if bytes_eq word (codes "workload") then workload_in (other ∷ words)
    else (if bytes_eq word (codes "judge") then judge_in (other ∷ words)
    else None)

-- the numbers of a workload
abbrev pub IsInRange : Request → Type 0
IsInRange (OfDocument command) = Unit {0}
IsInRange OfCertificate = Unit {0}
IsInRange (Workload count callers) = (1 ≤ count) × (count ≤ most_calls) × (1 ≤ callers) × (callers ≤ MOST_CALLERS)
