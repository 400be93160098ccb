-- Operations by what their own lines say of them.
use Rattle.std.proofs.Common.{◌≡◌, ℕ, Bool, ◌||◌, List, [], ◌∷◌, map, refl, ap, ◌∙◌}
use Rattle.std.specs.List.{list_any}
use Rattle.std.specs.Str.{bytes_eq}
use Rattle.norm_lang.specs.Declarations.{has_op}
use Rattle.target_code.specs.declared.target.TargetOp.{TargetOp}
use Rattle.target_reader.specs.TargetGrammar.{opened}

pub opened_same : (ops : List TargetOp) (name : List ℕ) → list_any (λ op. bytes_eq op.name name) ops ≡ has_op (map opened ops) name
opened_same [] name = refl
opened_same (op ∷ ops) name = ap (λ b. bytes_eq op.name name || b) (opened_same ops name)

-- an operation has this name exactly if it has it by its own line
pub has_opened : (ops : List TargetOp) (name : List ℕ) (r : Bool) → r ≡ list_any (λ op. bytes_eq op.name name) ops → r ≡ has_op (map opened ops) name
has_opened ops name r is = is ∙ opened_same ops name
