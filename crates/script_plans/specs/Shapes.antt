-- The shape of a document: its settings are in their ranges, and each call line calls an operation of the text with as many
-- arguments as it has.
use Rattle.std.specs.Prelude.{ℕ, zero, suc, Bool, true, false, ◌&&◌, List, [], ◌∷◌, map, length, take, Option, Some, None, option_map, nat_le, ◌==◌, if◌then◌else◌, slice_get, slice_index}
use Rattle.std.specs.List.{position}
use Rattle.std.specs.Option.{option_or, unwrap_or}
use Rattle.std.specs.Str.{bytes_eq}
use Rattle.norm_lang.specs.declared.text.Op.{Op}
use Rattle.norm_lang.specs.Arguments.{padded}
use Rattle.oa_words.specs.Words.{Sizes}
use Rattle.oa_words.specs.Within.{is_count, are_slots, sizes_of_kinds}
use Rattle.oa_words.specs.declared.limits.TheConstants.{MOST_CALLERS, MOST_KINDS, MOST_FIELDS, MOST_CELLS}
use Rattle.caller_parts.specs.KindCounts.{greatest_of}
pub use Rattle.caller_parts.specs.KindCounts.{kind_nodes}
use Rattle.caller_parts.specs.Settings.{Setting, are_phases}
use Rattle.caller_parts.specs.declared.setting.Reclamation.{Reclamation}
use Rattle.caller_parts.specs.declared.setting.Reclamation.TheVariants.{Optimistic, Epochs}
use Rattle.documents.specs.declared.document.ScriptCall.{ScriptCall}
use Rattle.documents.specs.declared.document.Document.{Document}
use Rattle.script_plans.specs.declared.fault.ShapeFault.{ShapeFault}
use Rattle.script_plans.specs.declared.limits.TheConstants.{MOST_FUEL}

-- the first that is there
abbrev pub first_of : List (Option ShapeFault) → Option ShapeFault
first_of [] = None
first_of (fault ∷ faults) = option_or fault (first_of faults)

-- ---- settings

-- a fault of the document as a whole has the place 0, but for that of a kind
abbrev pub whole_fault : ℕ → ShapeFault
whole_fault number = record { number = number; at = 0 }

-- the fault of this number, unless the test passes
abbrev pub fault_unless : ℕ → Bool → Option ShapeFault
fault_unless number true = None
fault_unless number false = Some (whole_fault number)

-- how many slots each kind of the text has
abbrev pub kind_slots : Document → List ℕ
kind_slots document = take (length document.text.kinds) (padded document.slots)

-- a caller for each script, the slots of each kind, as many fields as the kind with the most has, and the text's roots
abbrev pub sizes_of : Document → Sizes
sizes_of document = sizes_of_kinds (length document.scripts) (kind_slots document) (greatest_of document.text.fields (length document.text.kinds)) (length document.text.roots)

abbrev pub setting_with : Reclamation → Document → Sizes → List ℕ → Setting
setting_with by document sizes nodes = record { reclamation = by; sizes = sizes; first = document.first; last = document.last; nodes = nodes }

-- under a scheme
abbrev pub setting_under : Reclamation → Document → Setting
setting_under by document = setting_with by document (sizes_of document) (kind_nodes document.text.nodes)

abbrev pub setting_of : Document → Setting
setting_of document = setting_under Optimistic document

abbrev pub epoch_setting_of : Document → Setting
epoch_setting_of document = setting_under Epochs document

-- 1 the scripts, 2 the slots of a kind or of all kinds, 3 the fields, 4 the roots. A text within the limits has neither 3 nor 4, and
-- never too many kinds
abbrev pub sizes_fault : ℕ → Sizes → Option ShapeFault
sizes_fault kinds sizes = first_of (
    fault_unless 1 (is_count MOST_CALLERS sizes.callers)
    ∷ fault_unless 2 (is_count MOST_KINDS kinds && are_slots sizes)
    ∷ fault_unless 3 (is_count MOST_FIELDS sizes.fields)
    ∷ fault_unless 4 (is_count MOST_CELLS sizes.cells)
    ∷ [])

-- the first of so many kinds that has more initial nodes than slots, counted from 0
abbrev pub first_crowded : List ℕ → List ℕ → ℕ → Option ℕ
first_crowded slots nodes zero = None
first_crowded slots nodes (suc t) = option_or (first_crowded slots nodes t) (if nat_le (slice_index nodes t) (slice_index slots t) then None else Some t)

-- its place is that kind
abbrev pub nodes_fault : List ℕ → List ℕ → Option ShapeFault
nodes_fault slots nodes = option_map (λ kind. record { number = 5; at = kind }) (first_crowded slots nodes (length slots))

-- 6 the phases, 7 the fuel
abbrev pub rest_fault : Document → Option ShapeFault
rest_fault document = first_of (fault_unless 6 (are_phases document.first document.last) ∷ fault_unless 7 (is_count MOST_FUEL document.fuel) ∷ [])

-- what is wrong with the settings: their sizes, 5 the initial nodes, of which no kind has more than slots, and the rest
abbrev pub setting_fault : Document → Option ShapeFault
setting_fault document = first_of (
    sizes_fault (length document.text.kinds) (sizes_of document)
    ∷ nodes_fault (kind_slots document) (kind_nodes document.text.nodes)
    ∷ rest_fault document
    ∷ [])

-- ---- calls

-- the number of the operation so named; if there is none, their count
abbrev pub op_number : List Op → List ℕ → ℕ
op_number ops name = unwrap_or (position (λ (op : Op). bytes_eq op.name name) ops) (length ops)

abbrev pub call_fault_at : ℕ → ScriptCall → ShapeFault
call_fault_at number call = record { number = number; at = call.line }

-- 8 if the call names no operation, 9 if its arguments are of another count than the operation's; the place is its line
abbrev pub args_fault : ScriptCall → Option Op → Option ShapeFault
args_fault call None = Some (call_fault_at 8 call)
args_fault call (Some op) = if length call.args == op.args then None else Some (call_fault_at 9 call)

abbrev pub call_fault : List Op → ScriptCall → Option ShapeFault
call_fault ops call = args_fault call (slice_get ops (op_number ops call.name))

-- the first call line that has one decides
abbrev pub script_fault : List Op → List ScriptCall → Option ShapeFault
script_fault ops script = first_of (map (call_fault ops) script)

abbrev pub scripts_fault : List Op → List (List ScriptCall) → Option ShapeFault
scripts_fault ops scripts = first_of (map (script_fault ops) scripts)

-- ---- the whole

-- what is wrong with the shape of a document: the settings are judged first, and then the call lines
abbrev pub shape_fault : Document → Option ShapeFault
shape_fault document = first_of (setting_fault document ∷ scripts_fault document.text.ops document.scripts ∷ [])
