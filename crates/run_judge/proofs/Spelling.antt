-- The calls of a document that can be run are those that its call lines spell.
use Rattle.std.proofs.Common.{◌≡◌, ◌==◌, ◌&&◌, ◌∙◌, ℕ, zero, suc, Bool, true, false, List, [], ◌∷◌, length, map, Option, Some, None, refl, ap, subst, arith, if◌then◌else◌}
use Rattle.std.specs.Prelude.{slice_get}
use Rattle.std.specs.List.{position}
use Rattle.std.specs.Option.{option_or, unwrap_or}
use Rattle.std.specs.Str.{bytes_eq}
use Rattle.std.proofs.lemmas.List.Quantifiers.{position-Some}
use Rattle.std.proofs.lemmas.Option.{slice_get_within, get_or_from_slice_get}
use Rattle.std.proofs.lemmas.Slice.Eq.{bytes_eq-Decides}
use Rattle.norm_lang.specs.declared.text.Op.{Op}
use Rattle.norm_lang.specs.Arguments.{padded}
use Rattle.documents.specs.declared.document.Document.{Document}
use Rattle.documents.specs.declared.document.ScriptCall.{ScriptCall}
use Rattle.script_plans.specs.declared.fault.ShapeFault.{ShapeFault}
use Rattle.script_plans.specs.Shapes.{first_of, op_number, call_fault_at, args_fault, call_fault, script_fault, scripts_fault, setting_fault}
use Rattle.script_plans.specs.Plans.{call_of, calls_of, IsRunnable}
use Rattle.event_judge.specs.Calls.{is_call_of_op}
use Rattle.certificate_laws.specs.Certified.{spells, Spell}

none_first : (a b : Option ShapeFault) → option_or a b ≡ None → a ≡ None
none_first None b is = refl
none_first (Some fault) b is = absurd (let none : Some fault ≡ None = is in cc)

none_last : (a b : Option ShapeFault) → option_or a b ≡ None → b ≡ None
none_last None b is = is
none_last (Some fault) b is = absurd (let none : Some fault ≡ None = is in cc)

-- the operation so named has that name
op_named : (ops : List Op) (name : List ℕ) (op : Op) → slice_get ops (op_number ops name) ≡ Some op → bytes_eq op.name name ≡ true
op_named ops name op there = of (position (λ (x : Op). bytes_eq x.name name) ops) refl there where
  of : (o : Option ℕ) → position (λ (x : Op). bytes_eq x.name name) ops ≡ o → slice_get ops (unwrap_or o (length ops)) ≡ Some op → bytes_eq op.name name ≡ true
  of None found there = absurd (let past = slice_get_within ops (length ops) op there in let none : ⊥ = omega (arith, past) in none)
  of (Some i) found there =
      subst (λ (x : Op). bytes_eq x.name name ≡ true) (get_or_from_slice_get ops i op op there) (position-Some (λ (x : Op). bytes_eq x.name name) ops i op found).1

same_words : (words : List ℕ) → bytes_eq words words ≡ true
same_words words = (bytes_eq-Decides words words).1 refl

call_spelled : (ops : List Op) (line : ScriptCall) → call_fault ops line ≡ None → is_call_of_op line (padded line.args) (slice_get ops (op_number ops line.name)) ≡ true
call_spelled ops line fine = of (slice_get ops (op_number ops line.name)) refl fine where
  counted : (b : Bool) (fault : ShapeFault) → (if b then None else Some fault) ≡ None → b ≡ true
  counted true fault is = refl
  counted false fault is = absurd (let none : Some fault ≡ None = is in cc)

  of : (o : Option Op) → slice_get ops (op_number ops line.name) ≡ o → args_fault line o ≡ None → is_call_of_op line (padded line.args) o ≡ true
  of None there fine = absurd (let none : Some (call_fault_at 8 line) ≡ None = fine in cc)
  of (Some op) there fine =
      ap (λ (b : Bool). b && (length line.args == op.args && bytes_eq (padded line.args) (padded line.args))) (op_named ops line.name op there)
      ∙ (ap (λ (b : Bool). b && bytes_eq (padded line.args) (padded line.args)) (counted (length line.args == op.args) (call_fault_at 9 line) fine) ∙ same_words (padded line.args))

script_spelled : (ops : List Op) (script : List ScriptCall) → script_fault ops script ≡ None → spells ops script (map (call_of ops) script) ≡ true
script_spelled ops [] fine = refl
script_spelled ops (line ∷ script) fine =
    ap (λ (b : Bool). b && spells ops script (map (call_of ops) script)) (call_spelled ops line (none_first (call_fault ops line) (script_fault ops script) fine))
    ∙ script_spelled ops script (none_last (call_fault ops line) (script_fault ops script) fine)

scripts_spelled : (ops : List Op) (scripts : List (List ScriptCall)) → scripts_fault ops scripts ≡ None → Spell ops scripts (map (map (call_of ops)) scripts)
scripts_spelled ops [] fine c = refl
scripts_spelled ops (script ∷ scripts) fine zero = script_spelled ops script (none_first (script_fault ops script) (scripts_fault ops scripts) fine)
scripts_spelled ops (script ∷ scripts) fine (suc c) = scripts_spelled ops scripts (none_last (script_fault ops script) (scripts_fault ops scripts) fine) c

pub spelled : (document : Document) → IsRunnable document → Spell document.text.ops document.scripts (calls_of document)
spelled document runs =
    scripts_spelled document.text.ops document.scripts
    (none_first (scripts_fault document.text.ops document.scripts) None (none_last (setting_fault document) (first_of (scripts_fault document.text.ops document.scripts ∷ [])) runs.shape))
