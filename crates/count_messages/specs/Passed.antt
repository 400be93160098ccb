-- Which limit a line passes, as its words and the lines above it tell, in the reader's order, and the sentence on it.
use Rattle.std.specs.Prelude.{ℕ, Bool, true, false, not, ◌&&◌, ◌||◌, List, [], ◌∷◌, length, Option, Some, None, codes, decimal, nat_lt, nat_le, ◌==◌, if◌then◌else◌}
use Rattle.std.specs.List.{concat}
use Rattle.oa_text.specs.Lines.{TextLine}
use Rattle.norm_lang.specs.declared.limits.TheConstants.{MOST_OPS, MOST_PICKED, MOST_ENTRIES, LAST_TARGET}
use Rattle.documents.specs.declared.limits.TheConstants.{MOST_CALLER, MOST_COUNT}
use Rattle.message_words.specs.declared.limits.Limit.{Limit}
use Rattle.message_words.specs.declared.limits.Limit.TheVariants as limits
use Rattle.message_words.specs.Limits.{limit_words}
use Rattle.message_lines.specs.Places.{word_at, trimmed, begins, begins_after, number_said, line_that}

-- a number that is said is greater than this one
abbrev pub is_greater : ℕ → Option (Option ℕ) → Bool
is_greater most None = false
is_greater most (Some None) = true
is_greater most (Some (Some n)) = nat_lt most n

-- a limit, if the number at a place of a line passes it, or else another
abbrev pub limit_at : TextLine → ℕ → ℕ → Limit → Limit → Limit
limit_at line at most limit other = if is_greater most (number_said (word_at line at)) then limit else other

-- the place of the count in a turn
abbrev pub count_place : TextLine → ℕ
count_place line = if begins (codes "upto") line then 3 else 2

-- a turn: its caller, its count, or how many turns there are. The lines of a certificate behind the schedule have a caller alone
abbrev pub turn_limit : TextLine → Limit
turn_limit line = limit_at line 1 MOST_CALLER limits.Callers (limit_at line (count_place line) MOST_COUNT limits.Counts limits.Turns)

abbrev pub target_limit : TextLine → ℕ → Limit
target_limit line at = limit_at line at LAST_TARGET limits.Targets limits.Instructions

-- an instruction: a number in it, or how many there are. A `new` has the limit of those besides
abbrev pub instruction_limit : TextLine → Limit
instruction_limit line =
    if begins (codes "new") line then limits.News
    else (if begins (codes "pick") line then limit_at line 3 MOST_PICKED limits.Picked limits.Instructions
    else (if begins (codes "commit") line then limit_at line 1 MOST_ENTRIES limits.Entries limits.Instructions
    else (if begins (codes "jump") line then target_limit line 1
    else (if begins (codes "ifmarked") line then target_limit line 2
    else (if begins (codes "ifeq") line || begins (codes "ifless") line then target_limit line 3
    else (if begins (codes "casroot") line then target_limit line 4
    else (if begins (codes "cas") line then target_limit line 5
    else limits.Instructions)))))))

-- an operation past the last is one too many, and any other has an argument too many
abbrev pub op_by : Option TextLine → TextLine → Limit
op_by None line = limits.Arguments
op_by (Some past) line = if nat_le past.number line.number then limits.Operations else limits.Arguments

abbrev pub op_limit : List ℕ → TextLine → Limit
op_limit bytes line = op_by (line_that (begins_after 0 (codes "op")) bytes MOST_OPS) line

-- a line of a text. A `root` line that declares one has four words or more, and an instruction three
abbrev pub text_limit : List ℕ → TextLine → Limit
text_limit bytes line =
    if begins (codes "kind") line then limits.Kinds
    else (if begins (codes "field") line then limits.Fields
    else (if begins (codes "nodes") line then limits.Nodes
    else (if begins (codes "root") line && not (length (word_at line 3) == 0) then limits.Roots
    else (if begins (codes "use") line then limits.Buckets
    else (if begins (codes "op") line then op_limit bytes line
    else instruction_limit line)))))

-- a line stands below this one, if there is one
abbrev pub stands_below : Option TextLine → TextLine → Bool
stands_below None line = false
stands_below (Some first) line = nat_lt first.number line.number

-- any line: scripts follow the text, and the schedule follows them
abbrev pub limit_passed : List ℕ → TextLine → Limit
limit_passed bytes line =
    if stands_below (line_that (begins_after 0 (codes "schedule")) bytes 0) line then turn_limit line
    else (if stands_below (line_that (begins_after 0 (codes "script")) bytes 0) line then (if begins (codes "script") line then limits.Scripts else limits.Calls)
    else text_limit bytes line)

abbrev pub passed_sentence : List ℕ → TextLine → List ℕ
passed_sentence bytes line = concat (
    codes "oa: line " ∷ decimal line.number ∷ codes " is at fault: it is '" ∷ trimmed line ∷ codes "', which passes a limit: " ∷ limit_words (limit_passed bytes line)
    ∷ codes ". See 'Faults' in docs/language.md.\n" ∷ [])
