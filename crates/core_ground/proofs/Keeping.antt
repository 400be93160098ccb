-- The table of what wrap-ups keep is that of the target's operations.
use Rattle.std.proofs.Common.{◌≡◌, ◌↔◌, ℕ, zero, suc, ◌≤◌, ◌<◌, Bool, true, false, ◌&&◌, List, [], ◌∷◌, length, map, Option, Some, None, refl, sym, ◌∙◌, ap, subst, arith}
use Rattle.std.specs.Prelude.{slice_get, slice_index_or, option_map, IsSomeAnd, IsTrue}
use Rattle.std.proofs.lemmas.Bool.{and_parts}
use Rattle.std.proofs.lemmas.Option.{slice_get_past, slice_get-map}
use Rattle.norm_lang.specs.declared.text.Reg.TheVariants.{Ref}
use Rattle.norm_lang.specs.declared.text.Op.{Op}
use Rattle.norm_lang.specs.declared.text.Text.{Text}
use Rattle.norm_lang.specs.Limits.{has_between, are_different}
use Rattle.norm_lang.specs.Kept.{IsKept}
use Rattle.target_code.specs.declared.target.TargetOp.{TargetOp}
use Rattle.target_code.specs.declared.target.Target.{Target}
use Rattle.target_code.specs.TargetLimits.{IsTargetWithinLimits}
use Rattle.target_code.specs.Erasing.{erased_op, ErasesTo}
use Rattle.target_code.specs.Keeping.{keeps}
use Rattle.target_code.proofs.Keeping.{keeps_is_kept}
use Rattle.target_laws.proofs.target_runs.Limited.{parts, between}
use Rattle.target_code.specs.TargetLimits.{is_target_op}
use Rattle.std.specs.List.{list_all}
use Rattle.caller_parts.specs.Spared.{kept_by, none_spared}
use Rattle.core_ground.specs.Tables.{keeps_at, row_of, table_of}

-- ---- one register

pub same_bool : (b d : Bool) → (IsTrue b → IsTrue d) → (IsTrue d → IsTrue b) → b ≡ d
same_bool true true there back = refl
same_bool false false there back = refl
same_bool true false there back = sym (there refl)
same_bool false true there back = back refl

not_there : (ops : List TargetOp) (k : ℕ) → slice_get ops k ≡ None → k < length ops → ⊥
not_there [] k is lt = omega (arith, lt)
not_there (o ∷ ops) zero is lt = let z : Some o ≡ None = is in cc
not_there (o ∷ ops) (suc k) is lt = not_there ops k is (omega (arith, lt))

kept_found : (target : Target) (source : Text) (op r : ℕ) (b : Bool) → ErasesTo target source → op < length target.ops
    → IsSomeAnd (slice_get source.ops op) (λ (o : Op). IsTrue b ↔ IsKept o (Ref r)) → (o : Option TargetOp) → slice_get target.ops op ≡ o → b ≡ keeps_at o r
kept_found target source op r b erases lt kept None is = absurd (not_there target.ops op is lt)
kept_found target source op r b erases lt kept (Some found) is =
    let there : slice_get source.ops op ≡ Some (erased_op found) =
    ap (λ (t : Text). slice_get t.ops op) (sym erases) ∙ (slice_get-map erased_op target.ops op ∙ ap (option_map erased_op) is) in
    let exact : IsTrue b ↔ IsKept (erased_op found) (Ref r) = subst (λ (o : Option Op). IsSomeAnd o (λ (o : Op). IsTrue b ↔ IsKept o (Ref r))) there kept in
    same_bool b (keeps (erased_op found) (Ref r)) (λ t. (keeps_is_kept (erased_op found) (Ref r)).1 (exact.0 t)) (λ t. exact.1 ((keeps_is_kept (erased_op found) (Ref r)).0 t))

pub kept_register : (target : Target) (source : Text) (op r : ℕ) (b : Bool) → ErasesTo target source → op < length target.ops
    → IsSomeAnd (slice_get source.ops op) (λ (o : Op). IsTrue b ↔ IsKept o (Ref r)) → b ≡ keeps_at (slice_get target.ops op) r
kept_register target source op r b erases lt kept = kept_found target source op r b erases lt kept (slice_get target.ops op) refl

pub kept_by_none : (target : Target) (op r : ℕ) → length target.ops ≤ op → false ≡ keeps_at (slice_get target.ops op) r
kept_by_none target op r past = ap (λ (o : Option TargetOp). keeps_at o r) (sym (slice_get_past target.ops op past))

-- ---- the table

row_is : (op : Option TargetOp) → row_of op ≡ kept_by op
row_is None = refl
row_is (Some op) = refl

few_ops : (target : Target) → IsTargetWithinLimits target → length target.ops ≤ 16
few_ops target within =
    let ops = and_parts (has_between 1 16 target.ops)
    (list_all (is_target_op (length target.kinds) (length target.fields) (length target.roots)) target.ops && are_different (map (λ op. op.name) target.ops)) (parts target within).ops in
    (between 1 16 target.ops ops.0).1

table_is : (target : Target) → length target.ops ≤ 16 → (op : ℕ) → slice_index_or (table_of target) op none_spared ≡ kept_by (slice_get target.ops op)
table_is target few zero = row_is (slice_get target.ops 0)
table_is target few (suc zero) = row_is (slice_get target.ops 1)
table_is target few (suc (suc zero)) = row_is (slice_get target.ops 2)
table_is target few (suc (suc (suc zero))) = row_is (slice_get target.ops 3)
table_is target few (suc (suc (suc (suc zero)))) = row_is (slice_get target.ops 4)
table_is target few (suc (suc (suc (suc (suc zero))))) = row_is (slice_get target.ops 5)
table_is target few (suc (suc (suc (suc (suc (suc zero)))))) = row_is (slice_get target.ops 6)
table_is target few (suc (suc (suc (suc (suc (suc (suc zero))))))) = row_is (slice_get target.ops 7)
table_is target few (suc (suc (suc (suc (suc (suc (suc (suc zero)))))))) = row_is (slice_get target.ops 8)
table_is target few (suc (suc (suc (suc (suc (suc (suc (suc (suc zero))))))))) = row_is (slice_get target.ops 9)
table_is target few (suc (suc (suc (suc (suc (suc (suc (suc (suc (suc zero)))))))))) = row_is (slice_get target.ops 10)
table_is target few (suc (suc (suc (suc (suc (suc (suc (suc (suc (suc (suc zero))))))))))) = row_is (slice_get target.ops 11)
table_is target few (suc (suc (suc (suc (suc (suc (suc (suc (suc (suc (suc (suc zero)))))))))))) = row_is (slice_get target.ops 12)
table_is target few (suc (suc (suc (suc (suc (suc (suc (suc (suc (suc (suc (suc (suc zero))))))))))))) = row_is (slice_get target.ops 13)
table_is target few (suc (suc (suc (suc (suc (suc (suc (suc (suc (suc (suc (suc (suc (suc zero)))))))))))))) = row_is (slice_get target.ops 14)
table_is target few (suc (suc (suc (suc (suc (suc (suc (suc (suc (suc (suc (suc (suc (suc (suc zero))))))))))))))) = row_is (slice_get target.ops 15)
table_is target few (suc (suc (suc (suc (suc (suc (suc (suc (suc (suc (suc (suc (suc (suc (suc (suc n)))))))))))))))) =
    ap kept_by (sym (slice_get_past target.ops (suc (suc (suc (suc (suc (suc (suc (suc (suc (suc (suc (suc (suc (suc (suc (suc n)))))))))))))))) (omega (arith, few))))

pub kept_is : (target : Target) (rows : List (List Bool)) → IsTargetWithinLimits target → rows ≡ table_of target
    → (op : ℕ) → slice_index_or rows op none_spared ≡ kept_by (slice_get target.ops op)
kept_is target rows within is op = ap (λ (t : List (List Bool)). slice_index_or t op none_spared) is ∙ table_is target (few_ops target within) op
