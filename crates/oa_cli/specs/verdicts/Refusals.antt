-- What is told of a text that the rules refuse.
use Rattle.std.specs.Prelude.{ℕ, Bool, true, false, List, [], ◌∷◌, ◌++◌, codes, decimal, Option, Some, None, slice_get}
use Rattle.norm_lang.specs.declared.text.Op.{Op}
use Rattle.norm_lang.specs.declared.text.Text.{Text}
use Rattle.norm_check.specs.declared.refusal.Refusal.{Refusal}

-- the name of an operation, no bytes if there is none
abbrev pub name_of : Option Op → List ℕ
name_of None = []
name_of (Some op) = op.name

-- the name of a text's operation, by its number
abbrev pub op_name : Text → ℕ → List ℕ
op_name text number = name_of (slice_get text.ops number)

-- a generator is told as `gen`, a wrap-up as `wrap`
abbrev pub method_word : Bool → List ℕ
method_word false = codes " gen "
method_word true = codes " wrap "

-- the line that tells why a text is refused: the rule, the operation, the method and the instruction's number in it
abbrev pub refusal_line : Text → Refusal → List ℕ
refusal_line text refusal =
    codes "refused N" ++ decimal refusal.rule ++ codes " op " ++ op_name text refusal.op ++ method_word refusal.wrapup ++ decimal refusal.at ++ 10 ∷ []
