-- What a caller's instruction works on: registers as words and as slots, the code of a method, exchanges, cradles.
use Rattle.std.specs.Prelude.{ℕ, zero, suc, ◌+◌, ◌*◌, ◌<◌, ◌^◌, Bool, true, false, ◌&&◌, not, List, [], Option, Some, None, ◌==◌, if◌then◌else◌, slice_get}
use Rattle.norm_lang.specs.declared.text.Reg.{Reg}
use Rattle.norm_lang.specs.declared.text.Reg.TheVariants.{Num, Ref}
use Rattle.norm_lang.specs.declared.text.Place.{Place}
use Rattle.norm_lang.specs.declared.text.Place.TheVariants as places
use Rattle.norm_lang.specs.declared.text.CasEntry.{CasEntry}
use Rattle.norm_lang.specs.declared.text.Instr.{Instr}
use Rattle.norm_lang.specs.declared.text.Instr.TheVariants as instr
use Rattle.norm_lang.specs.declared.registers.Reference.{Reference}
use Rattle.norm_lang.specs.declared.registers.Registers.{Registers}
use Rattle.norm_lang.specs.Registers.{number_in, reference_in, with_number, with_reference}
use Rattle.target_code.specs.declared.target.TargetInstr.{TargetInstr}
use Rattle.target_code.specs.declared.target.TargetInstr.TheVariants.{Plain, Check, Guard}
use Rattle.target_code.specs.declared.target.TargetOp.{TargetOp}
use Rattle.target_code.specs.declared.target.Target.{Target}
use Rattle.target_code.specs.Paths.{target_code_of}
use Rattle.target_code.specs.TargetLimits.{is_target_new}
use Rattle.oa_words.specs.Packed.{ref_word, slot_part, is_marked}

-- a reference as a word, and back
abbrev pub packed : Reference → ℕ
packed reference = ref_word reference.node reference.marked

abbrev pub unpacked : ℕ → Reference
unpacked word = record { node = slot_part word; marked = is_marked word }

-- what a register holds, as a word
abbrev pub word_in : Registers → Reg → ℕ
word_in registers (Num r) = number_in registers (Num r)
word_in registers (Ref r) = packed (reference_in registers (Ref r))

-- the registers after a word is put into one
abbrev pub with_word : Registers → Reg → ℕ → Registers
with_word registers (Num r) word = with_number registers (Num r) word
with_word registers (Ref r) word = with_reference registers (Ref r) (unpacked word)

-- the slot that a register names, 0 for null
abbrev pub slot_in : Registers → Reg → ℕ
slot_in registers r = (reference_in registers r).node

-- each register's node is a slot, which fits its type
pub record AreSlots (registers : Registers) : Type 0 where
  pub each : (r : Reg) → slot_in registers r < 2 ^ 32

abbrev pub register_number : Reg → ℕ
register_number (Num r) = r
register_number (Ref r) = r

-- the code of a method; none if the target has no such operation
abbrev pub method_code : Option TargetOp → Bool → List TargetInstr
method_code None wrapup = []
method_code (Some op) wrapup = target_code_of op wrapup

-- the same by the operation's number, the method and the place
abbrev pub code_at : Target → ℕ → Bool → List TargetInstr
code_at target op wrapup = method_code (slice_get target.ops op) wrapup

abbrev pub instr_at : Target → ℕ → Bool → ℕ → Option TargetInstr
instr_at target op wrapup at = slice_get (code_at target op wrapup) at

-- the exchanges of a commit
abbrev pub plain_list : Instr → List CasEntry
plain_list (instr.Commit exchanges) = exchanges
plain_list _ = []

abbrev pub list_of : Option TargetInstr → List CasEntry
list_of None = []
list_of (Some (Plain i)) = plain_list i
list_of (Some Check) = []
list_of (Some (Guard r)) = []

-- an exchange succeeds if its object isn't null and the expected word was found
abbrev pub has_object : Place → Registers → Bool
has_object (places.Root x) registers = true
has_object (places.Field a f) registers = not (slot_in registers a == 0)

abbrev pub succeeds : CasEntry → Registers → ℕ → Bool
succeeds exchange registers word = has_object exchange.place registers && (word == word_in registers exchange.expected)

-- the slot to retire, 0 for none
abbrev pub to_retire : Option Reg → Registers → ℕ
to_retire None registers = 0
to_retire (Some r) registers = slot_in registers r

-- a `new`
abbrev pub is_new_at : Option TargetInstr → Bool
is_new_at None = false
is_new_at (Some i) = is_target_new i

-- a `new` of a node of a kind
abbrev pub is_new_of : ℕ → Option TargetInstr → Bool
is_new_of kind (Some (Plain (instr.New d k))) = k == kind
is_new_of kind _ = false

-- the kind of the node that a `new` makes; for any other instruction the first
abbrev pub kind_made : Option TargetInstr → ℕ
kind_made (Some (Plain (instr.New d kind))) = kind
kind_made _ = 0

-- how many `new` of a kind stand before a place
abbrev pub news_before : ℕ → List TargetInstr → ℕ → ℕ
news_before kind code zero = 0
news_before kind code (suc n) = if is_new_of kind (slice_get code n) then news_before kind code n + 1 else news_before kind code n

-- how many cradles a caller has: four for each of four kinds
abbrev pub cradle_count : ℕ
cradle_count = 16

-- which of them is that of a `new` of a kind at a place: those of a kind go by instruction order
abbrev pub cradle_of_kind : ℕ → List TargetInstr → ℕ → ℕ
cradle_of_kind kind code at = 4 * kind + news_before kind code at

-- the same by the place
abbrev pub cradle_number : List TargetInstr → ℕ → ℕ
cradle_number code at = cradle_of_kind (kind_made (slice_get code at)) code at

-- the register that a `new` sets gets the unmarked reference
abbrev pub with_new : Option TargetInstr → ℕ → Registers → Registers
with_new (Some (Plain (instr.New d kind))) slot registers = with_reference registers d (record { node = slot; marked = false })
with_new _ slot registers = registers

-- each cradle that holds a slot is emptied; null empties none
abbrev pub emptied : ℕ → ℕ → ℕ
emptied slot cradle = if cradle == slot then 0 else cradle
