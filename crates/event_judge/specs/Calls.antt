-- Which call of its script a caller is to begin next.
use Rattle.std.specs.Prelude.{◌≡◌, ℕ, ◌+◌, Bool, true, false, not, ◌&&◌, ◌==◌, List, [], length, Option, Some, None, slice_get, slice_set, slice_index}
use Rattle.std.specs.Str.{bytes_eq}
use Rattle.norm_lang.specs.declared.text.Op.{Op}
use Rattle.norm_lang.specs.Arguments.{padded}
use Rattle.source_machine.specs.declared.event.SourceEvent.{SourceEvent}
use Rattle.source_machine.specs.declared.event.SourceEvent.TheVariants as events
use Rattle.documents.specs.declared.document.ScriptCall.{ScriptCall}

-- a call is one of this operation with these words: it names the operation, it has as many arguments as that takes, and the
-- words are its arguments with 0 past them
abbrev pub is_call_of_op : ScriptCall → List ℕ → Option Op → Bool
is_call_of_op call words None = false
is_call_of_op call words (Some op) = bytes_eq op.name call.name && (length call.args == op.args && bytes_eq words (padded call.args))

-- there is such a call
abbrev pub is_call_so : List Op → Option ScriptCall → ℕ → List ℕ → Bool
is_call_so ops None number words = false
is_call_so ops (Some call) number words = is_call_of_op call words (slice_get ops number)

-- the list that stands at a place of lists; past their end an empty one
abbrev pub listed : {A : Type 0} → Option (List A) → List A
listed None = []
listed (Some items) = items

abbrev pub script_of : List (List ScriptCall) → ℕ → List ScriptCall
script_of scripts c = listed (slice_get scripts c)

-- the next call of a caller, if each caller has begun so many
abbrev pub next_call : List (List ScriptCall) → List ℕ → ℕ → Option ScriptCall
next_call scripts begun c = slice_get (script_of scripts c) (slice_index begun c)

-- an event begins another call than the next one of its caller's script
abbrev pub begins_other : List Op → List (List ScriptCall) → List ℕ → SourceEvent → Bool
begins_other ops scripts begun (events.Begin c number words) = not (is_call_so ops (next_call scripts begun c) number words)
begins_other ops scripts begun _ = false

-- how many calls each caller has begun, with this event
abbrev pub begun_with : List ℕ → SourceEvent → List ℕ
begun_with begun (events.Begin c number words) = slice_set begun c (slice_index begun c + 1)
begun_with begun _ = begun

-- how many calls a caller has begun if it begins one after so many; none unless that is the right one
abbrev pub IsCounted : Bool → ℕ → Option ℕ → Type 0
IsCounted right count None = right ≡ false
IsCounted right count (Some more) = (right ≡ true) × (more ≡ count + 1)

-- whether an event begins no other call, and then the call is counted
abbrev pub Counts : List Op → List (List ScriptCall) → List ℕ → SourceEvent → List ℕ → Bool → Type 0
Counts ops scripts old event new true = (begins_other ops scripts old event ≡ false) × (new ≡ begun_with old event)
Counts ops scripts old event new false = begins_other ops scripts old event ≡ true
