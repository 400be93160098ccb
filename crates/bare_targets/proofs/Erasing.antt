-- A bare target erases to its text: no jump leads past a method, so none is taken elsewhere.
use Rattle.std.proofs.Common.{ℕ, zero, suc, ◌≡◌, ◌≤◌, ◌∙◌, Bool, true, false, List, [], ◌∷◌, map, length, Some, arith, ap, refl}
use Rattle.std.specs.Prelude.{slice_get, nat_le}
use Rattle.std.proofs.lemmas.Bool.Decides.{nat_tests}
use Rattle.std.proofs.lemmas.Bool.{false_from_ne_true}
use Rattle.norm_lang.specs.declared.text.Instr.{Instr}
use Rattle.norm_lang.specs.declared.text.Instr.TheVariants as instr
use Rattle.norm_lang.specs.declared.text.Op.{Op}
use Rattle.norm_lang.specs.declared.text.RootDecl.{RootDecl}
use Rattle.norm_lang.specs.declared.text.Text.{Text}
use Rattle.norm_lang.specs.InstructionRules.{has_wrong_range}
use Rattle.norm_lang.specs.Kept.{code_of}
use Rattle.norm_lang.specs.NormalForm.{N13, IsNormal}
use Rattle.target_code.specs.declared.target.TargetInstr.TheVariants.{Plain}
use Rattle.target_code.specs.Erasing.{source_place, redirected, plain_code, erased_code, erased_op, ErasesTo}
use Rattle.target_laws.proofs.local_laws.Settled.{keeps_rule}
use Rattle.target_code.specs.Bare.{bare_op, bare}

place_same : (xs : List Instr) (l : ℕ) → l ≤ length xs → source_place (map Plain xs) l ≡ l
place_same [] zero le = refl
place_same [] (suc l) le = absurd (omega (arith, le))
place_same (x ∷ xs) zero le = refl
place_same (x ∷ xs) (suc l) le = let rest = place_same xs l (omega (arith, le)) in omega (arith, rest)

within : (count l : ℕ) → nat_le count l ≡ false → l ≤ count
within count l is = grind (arith, nat_tests)

stays : (place : ℕ → ℕ) (roots : List RootDecl) (i : Instr) (count : ℕ) → ((l : ℕ) → l ≤ count → place l ≡ l) → has_wrong_range roots i count ≡ false → redirected place i ≡ i
stays place roots (instr.Cas entry l) count same right = ap (instr.Cas entry) (same l (within count l right))
stays place roots (instr.Jump l) count same right = ap instr.Jump (same l (within count l right))
stays place roots (instr.IfEq a b l) count same right = ap (instr.IfEq a b) (same l (within count l right))
stays place roots (instr.IfLess a b l) count same right = ap (instr.IfLess a b) (same l (within count l right))
stays place roots (instr.IfMarked a l) count same right = ap (instr.IfMarked a) (same l (within count l right))
stays place roots _ count same right = refl

all_stay : (place : ℕ → ℕ) (xs : List Instr) → ((at : ℕ) (i : Instr) → slice_get xs at ≡ Some i → redirected place i ≡ i) → plain_code place (map Plain xs) ≡ xs
all_stay place [] same = refl
all_stay place (x ∷ xs) same =
    ap (λ (y : Instr). y ∷ plain_code place (map Plain xs)) (same 0 x refl) ∙ ap (λ (ys : List Instr). x ∷ ys) (all_stay place xs (λ at i is. same (suc at) i is))

code_stays : (text : Text) (number : ℕ) (op : Op) (wrapup : Bool) → IsNormal text → slice_get text.ops number ≡ Some op → erased_code (map Plain (code_of op wrapup)) ≡ code_of op wrapup
code_stays text number op wrapup normal there =
    let place = source_place (map Plain (code_of op wrapup)) in
    all_stay place (code_of op wrapup)
    (λ at i is. stays place text.roots i (length (code_of op wrapup)) (place_same (code_of op wrapup))
    (false_from_ne_true (has_wrong_range text.roots i (length (code_of op wrapup))) (λ wrong. keeps_rule text N13 number op wrapup at i normal there is wrong)))

op_stays : (text : Text) (number : ℕ) (op : Op) → IsNormal text → slice_get text.ops number ≡ Some op → erased_op (bare_op op) ≡ op
op_stays text number op normal there =
    ap (λ (code : List Instr). record { name = op.name; args = op.args; generator = code; wrapup = erased_code (map Plain op.wrapup) }) (code_stays text number op false normal there)
    ∙ ap (λ (code : List Instr). record { name = op.name; args = op.args; generator = op.generator; wrapup = code }) (code_stays text number op true normal there)

ops_stay : (ops : List Op) → ((number : ℕ) (op : Op) → slice_get ops number ≡ Some op → erased_op (bare_op op) ≡ op) → map erased_op (map bare_op ops) ≡ ops
ops_stay [] same = refl
ops_stay (op ∷ ops) same =
    ap (λ (first : Op). first ∷ map erased_op (map bare_op ops)) (same 0 op refl) ∙ ap (λ (rest : List Op). op ∷ rest) (ops_stay ops (λ number op is. same (suc number) op is))

pub bare_erases : (text : Text) → IsNormal text → ErasesTo (bare text) text
bare_erases text normal =
    ap (λ (ops : List Op). record { kinds = text.kinds; fields = text.fields; roots = text.roots; nodes = text.nodes; ops = ops })
    (ops_stay text.ops (λ number op there. op_stays text number op normal there))
