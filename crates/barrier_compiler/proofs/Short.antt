-- How long the compiled methods of an operation within the limits are, and what its wrap-up keeps.
use Rattle.std.proofs.Common.{◌≡◌, ℕ, ◌↔◌, Bool, true, false, not, ◌&&◌, List, length, Option, Some, refl, subst}
use Rattle.std.specs.Prelude.{nat_le, IsTrue, IsSomeAnd}
use Rattle.std.specs.List.{list_all}
use Rattle.std.proofs.lemmas.Bool.{and_parts, leb-true}
use Rattle.norm_lang.specs.declared.text.Reg.{Reg}
use Rattle.norm_lang.specs.declared.text.Instr.{Instr}
use Rattle.norm_lang.specs.declared.text.Op.{Op}
use Rattle.norm_lang.specs.LineWords.{is_name}
use Rattle.norm_lang.specs.Declarations.{is_reserved}
use Rattle.norm_lang.specs.Grammar.{news_of}
use Rattle.norm_lang.specs.Limits.{is_method}
use Rattle.norm_lang.specs.Kept.{IsKept}
use Rattle.norm_paths.specs.Found.{IsOpWithin}
use Rattle.target_code.specs.Keeping.{keeps}
use Rattle.target_code.specs.TargetLimits.{is_target_instr}
use Rattle.target_code.specs.Blocks.{laid_out}
use Rattle.target_code.specs.SecondScheme.{second_marks}
use Rattle.barrier_compiler.specs.Sized.{IsShort}
use Rattle.target_code.proofs.Keeping.{keeps_is_kept}
use Rattle.barrier_compiler.proofs.SchemeLimits.{method_within}
use Rattle.barrier_compiler.proofs.Combining.{second_is_scheme}

method_short : (kinds fields roots : ℕ) (op : Op) (code : List Instr) → IsTrue (is_method kinds fields roots code) → IsShort op (second_marks code)
method_short kinds fields roots op code is =
    let compiled = laid_out op (second_marks code) in
    let sizes = and_parts (nat_le 1 (length compiled) && nat_le (length compiled) 4096) (list_all (is_target_instr kinds fields roots) compiled) (method_within kinds fields roots op code (second_marks code) (second_is_scheme.instrs code) is) in
    leb-true (length compiled) 4096 (and_parts (nat_le 1 (length compiled)) (nat_le (length compiled) 4096) sizes.0).1

methods : (op : Op) → IsOpWithin op → (k : ℕ) × (f : ℕ) × (r : ℕ) × IsTrue (is_method k f r op.generator) × IsTrue (is_method k f r op.wrapup)
methods op within =
    let k = within.0 in
    let f = within.1 in
    let r = within.2 in
    let generator = is_method k f r op.generator in
    let wrapup = is_method k f r op.wrapup in
    let few = nat_le (news_of op) 4 in
    let named = and_parts (is_name op.name && not (is_reserved op.name)) (nat_le op.args 4 && (generator && (wrapup && few))) within.3 in
    let args = and_parts (nat_le op.args 4) (generator && (wrapup && few)) named.1 in
    let first = and_parts generator (wrapup && few) args.1 in
    (k, f, r, first.0, (and_parts wrapup few first.1).0)

-- the compiled generator is within the limit of a method
pub generator_short : (op : Op) → IsOpWithin op → IsShort op (second_marks op.generator)
generator_short op within = let m = methods op within in method_short m.0 m.1 m.2 op op.generator m.3

-- and so is the compiled wrap-up
pub wrapup_short : (op : Op) → IsOpWithin op → IsShort op (second_marks op.wrapup)
wrapup_short op within = let m = methods op within in method_short m.0 m.1 m.2 op op.wrapup m.4

alike : (a b : Bool) → IsTrue a ↔ IsTrue b → a ≡ b
alike true true both = refl
alike true false both = let never : false ≡ true = both.0 refl in cc
alike false true both = let never : false ≡ true = both.1 refl in cc
alike false false both = refl

-- an answer that is true exactly if a register is kept is what is computed
pub kept_told : (stands : Option Op) (op : Op) (r : Reg) (told : Bool) → stands ≡ Some op → IsSomeAnd stands (λ o. IsTrue told ↔ IsKept o r) → told ≡ keeps op r
kept_told stands op r told is answer =
    let kept : IsTrue told ↔ IsKept op r = subst (λ (s : Option Op). IsSomeAnd s (λ o. IsTrue told ↔ IsKept o r)) is answer in
    let computed = keeps_is_kept op r in
    alike told (keeps op r) ((λ t. computed.1 (kept.0 t)), (λ k. kept.1 (computed.0 k)))
