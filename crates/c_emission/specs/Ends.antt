-- A `new`, and the ends of an operation, as lines. Each begins with a clear of all hazards.
use Rattle.std.specs.Prelude.{ℕ, zero, suc, ◌+◌, List, [], ◌∷◌, ◌++◌}
use Rattle.norm_lang.specs.declared.text.Reg.{Reg}
use Rattle.caller_parts.specs.Spared.{none_spared}
use Rattle.c_language.specs.declared.lines.Parameter.TheVariants.{LastPhase}
use Rattle.c_language.specs.declared.lines.Operand.TheVariants.{Number, Local, Of}
use Rattle.c_language.specs.declared.lines.Value.TheVariants as values
use Rattle.c_language.specs.declared.lines.Place.TheVariants as places
use Rattle.c_language.specs.declared.lines.Test.TheVariants as tests
use Rattle.c_language.specs.declared.lines.Answer.TheVariants as answers
use Rattle.c_language.specs.declared.lines.Line.{Line}
use Rattle.c_language.specs.declared.lines.Line.TheVariants as lines
use Rattle.c_emission.specs.Blocks.{local_of, clear_lines}

-- a clear of all hazards, from a line on
abbrev pub clear_block : ℕ → List Line
clear_block base = clear_lines none_spared base 0 8

-- the slot of a cradle into local 30, from a line on; if the cradle is empty, that of a claim of a kind, which is kept in the cradle. Functions have
-- the claims of kinds first
abbrev pub cradle_block : ℕ → ℕ → ℕ → List Line
cradle_block base kind cradle =
    lines.Get 30 cradle
    ∷ lines.If (tests.Differ (Local 30) (Number 0)) (base + 8)
    ∷ lines.Call 30 kind
    ∷ lines.If (tests.Equal (Local 30) (Number 0)) (base + 6)
    ∷ lines.If (tests.Differ (Local 30) (Number 18446744073709551615)) (base + 7)
    ∷ lines.Reply answers.Phases (Of LastPhase)
    ∷ lines.Reply answers.Full (Number 0)
    ∷ lines.Keep cradle (Local 30)
    ∷ []

-- a store of 0 to so many fields from one on of the node of a kind in local 30
abbrev pub field_lines : ℕ → ℕ → ℕ → List Line
field_lines kind g zero = []
field_lines kind g (suc n) = lines.Store (places.Field kind (Local 30) g) (Number 0) ∷ field_lines kind (g + 1) n

-- a register becomes the unmarked reference to the slot in local 30
abbrev pub reference_line : Reg → Line
reference_line d = lines.Let (local_of d) (values.Times (Local 30) (Number 2))

-- a `new` of a kind that has so many fields, from a line on
abbrev pub new_block : ℕ → Reg → ℕ → ℕ → ℕ → List Line
new_block base d kind cradle count =
    clear_block base
    ++ (cradle_block (base + 24) kind cradle ++ (field_lines kind 0 count ++ reference_line d ∷ []))

abbrev pub new_size : ℕ → ℕ
new_size count = 33 + count

abbrev pub number_reply : Reg → Line
number_reply a = lines.Reply answers.Number (Local (local_of a))

-- ends with the number in a register
abbrev pub return_block : ℕ → Reg → List Line
return_block base a = clear_block base ++ number_reply a ∷ []

-- ends without a number
abbrev pub none_block : ℕ → List Line
none_block base = clear_block base ++ lines.Reply answers.Nothing (Number 0) ∷ []

-- begins again at a line
abbrev pub again_block : ℕ → ℕ → List Line
again_block base begin = clear_block base ++ lines.Goto begin ∷ []

abbrev pub end_size : ℕ
end_size = 25
