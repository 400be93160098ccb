-- Where a rule is broken, and the sentence on it.
use Rattle.std.specs.Prelude.{ℕ, Bool, true, false, List, [], ◌∷◌, Option, Some, None, codes, decimal}
use Rattle.std.specs.List.{concat}
use Rattle.oa_text.specs.Lines.{TextLine}
use Rattle.norm_lang.specs.declared.text.Reg.TheVariants.{Num, Ref}
use Rattle.norm_check.specs.declared.refusal.Refusal.{Refusal}
use Rattle.statuses.specs.Explanations.{rule_words, method_words}
use Rattle.message_words.specs.Mends.{rule_mend}
use Rattle.refusal_messages.specs.declared.named.Blame.{Blame}
use Rattle.refusal_messages.specs.declared.named.Blame.TheVariants.{Found, NoMemory}
use Rattle.message_lines.specs.Places.{◌>>=◌, word_at, trimmed, begins_after, is_instruction_after, line_that}

-- the line of an operation, and that of one of its instructions
pub record FoundLines : Type 0 where
  pub op : TextLine
  pub at : TextLine

-- the line with which a method begins
abbrev pub method_start : Bool → List ℕ
method_start false = codes "gen"
method_start true = codes "wrap"

-- where the instruction stands that breaks a rule. Operations are counted by their `op` lines, and the instructions of a method by the
-- lines after its `gen` or `wrap` that aren't skipped and are no entries of a commit
abbrev pub refused_lines : List ℕ → Refusal → Option FoundLines
refused_lines bytes refusal = do
  op ← line_that (begins_after 0 (codes "op")) bytes refusal.op
  method ← line_that (begins_after op.number (method_start refusal.wrapup)) bytes 0
  at ← line_that (is_instruction_after method.number) bytes refusal.at
  Some (record { op = op; at = at })

-- what stands before the number of a register that is named, or that there was no memory to find it, and the number
unfoldable pub register_before : Blame → List ℕ
register_before (Found None) = []
register_before (Found (Some (Num n))) = codes ", at n"
register_before (Found (Some (Ref n))) = codes ", at r"
register_before NoMemory = codes ", at a register, if any, that there was no memory to find"

unfoldable pub register_number : Blame → List ℕ
register_number (Found None) = []
register_number (Found (Some (Num n))) = decimal n
register_number (Found (Some (Ref n))) = decimal n
register_number NoMemory = []

-- which rule is broken, by which line, the instruction and the register there, what the rule says, and how to mend it
abbrev pub refused_sentence : FoundLines → Refusal → Blame → List ℕ
refused_sentence found refusal named = concat (
    codes "oa: line " ∷ decimal found.at.number ∷ codes ": rule N" ∷ decimal refusal.rule ∷ codes " is broken by '" ∷ trimmed found.at
    ∷ codes "', instruction " ∷ decimal refusal.at ∷ method_words refusal.wrapup ∷ codes " of '" ∷ word_at found.op 1 ∷ codes "' (counted from 0)"
    ∷ register_before named ∷ register_number named ∷ codes ": "
    ∷ rule_words refusal.rule ∷ codes ". " ∷ rule_mend refusal.rule ∷ codes "; see 'N" ∷ decimal refusal.rule ∷ codes "' in docs/language.md.\n" ∷ [])
