-- The methods of a target within the limits are small.
use Rattle.std.proofs.Common.{◌≡◌, ℕ, zero, suc, ◌≤◌, Bool, true, ◌&&◌, not, ◌+◌, List, [], ◌∷◌, ◌++◌, length, map, drop, Some, None, refl, sym, ◌∙◌, ap, subst, arith}
use Rattle.std.specs.Prelude.{nat_le}
use Rattle.std.specs.List.{list_all, slice_get}
use Rattle.std.proofs.lemmas.List.{append_assoc}
use Rattle.std.proofs.lemmas.Bool.{and_parts, and_from, leb-true}
use Rattle.norm_lang.specs.Bounds.{most_args, most_news}
use Rattle.norm_lang.specs.LineWords.{is_name}
use Rattle.norm_lang.specs.Declarations.{is_reserved}
use Rattle.norm_lang.specs.Limits.{has_between, are_different, is_entry, are_kinds, are_fields, are_nodes, are_roots, owners_of}
use Rattle.norm_lang.specs.declared.text.Instr.TheVariants as instr
use Rattle.target_code.specs.declared.target.TargetInstr.{TargetInstr}
use Rattle.target_code.specs.declared.target.TargetInstr.TheVariants.{Plain, Check, Guard}
use Rattle.target_code.specs.declared.target.TargetOp.{TargetOp}
use Rattle.target_code.specs.declared.target.Target.{Target}
use Rattle.target_code.specs.TargetLimits.{target_news_of, is_target_instr, is_target_method, is_target_op, are_target_ops, IsTargetWithinLimits}
use Rattle.text_laws.proofs.FewDeclared.{few_fields}
use Rattle.c_emission.specs.Fitting.{has_few_exchanges, IsSmall}

instr_few : (kinds fields roots : ℕ) (i : TargetInstr) → is_target_instr kinds fields roots i ≡ true → has_few_exchanges i ≡ true
instr_few kinds fields roots Check is = refl
instr_few kinds fields roots (Guard r) is = refl
instr_few kinds fields roots (Plain (instr.Commit exchanges)) is =
    (and_parts (nat_le (length exchanges) 4) (list_all (is_entry fields roots) exchanges) is).0
instr_few kinds fields roots (Plain _) is = refl

all_few : (kinds fields roots : ℕ) (code : List TargetInstr) → list_all (is_target_instr kinds fields roots) code ≡ true → list_all has_few_exchanges code ≡ true
all_few kinds fields roots [] are = refl
all_few kinds fields roots (i ∷ code) are =
    let parts = and_parts (is_target_instr kinds fields roots i) (list_all (is_target_instr kinds fields roots) code) are in
    and_from (has_few_exchanges i) (list_all has_few_exchanges code) (instr_few kinds fields roots i parts.0) (all_few kinds fields roots code parts.1)

passes : {X : Type 0} (test : X → Bool) (xs : List X) (k : ℕ) (x : X) → list_all test xs ≡ true → slice_get xs k ≡ Some x → test x ≡ true
passes test [] k x all same = absurd (let z : None ≡ Some x = same in cc)
passes test (y ∷ ys) zero x all same =
    let is : y ≡ x = (let s : Some y ≡ Some x = same in cc) in subst (λ z. test z ≡ true) is (and_parts (test y) (list_all test ys) all).0
passes test (y ∷ ys) (suc k) x all same = passes test ys k x (and_parts (test y) (list_all test ys) all).1 same

-- the parts of a target's limits
abbrev nodes_on : Target → Bool
nodes_on target =
    are_nodes (length target.kinds) target.fields target.nodes
    && (are_roots (length target.kinds) (owners_of target.nodes) target.roots
    && are_target_ops (length target.kinds) (length target.fields) (length target.roots) target.ops)

kinds_and_fields : (target : Target) → IsTargetWithinLimits target → (are_kinds target.kinds ≡ true) × (are_fields (length target.kinds) target.fields ≡ true)
kinds_and_fields target within =
    let first = and_parts (are_kinds target.kinds) (are_fields (length target.kinds) target.fields && nodes_on target) within in
    (first.0, (and_parts (are_fields (length target.kinds) target.fields) (nodes_on target) first.1).0)

ops_within : (target : Target) → IsTargetWithinLimits target → are_target_ops (length target.kinds) (length target.fields) (length target.roots) target.ops ≡ true
ops_within target within =
    let o = are_target_ops (length target.kinds) (length target.fields) (length target.roots) target.ops in
    let r = are_roots (length target.kinds) (owners_of target.nodes) target.roots in
    let n = are_nodes (length target.kinds) target.fields target.nodes in
    let f = are_fields (length target.kinds) target.fields in
    (and_parts r o (and_parts n (r && o) (and_parts f (n && (r && o)) (and_parts (are_kinds target.kinds) (f && (n && (r && o))) within).1).1).1).1

kinds_few : (target : Target) → IsTargetWithinLimits target → length target.kinds ≤ 4
kinds_few target within =
    let parts = and_parts (has_between 1 4 target.kinds) (list_all is_name target.kinds && are_different target.kinds) (kinds_and_fields target within).0 in
    leb-true (length target.kinds) 4 (and_parts (nat_le 1 (length target.kinds)) (nat_le (length target.kinds) 4) parts.0).1

fields_few : (target : Target) → IsTargetWithinLimits target → length target.fields ≤ 16
fields_few target within = few_fields (length target.kinds) target.fields (kinds_and_fields target within).1 (kinds_few target within)

method_small : (target : Target) (roots : ℕ) (code : List TargetInstr) → IsTargetWithinLimits target
    → is_target_method (length target.kinds) (length target.fields) roots code ≡ true → IsSmall (length target.kinds) target.fields code
method_small target roots code within is =
    let parts = and_parts (has_between 1 4096 code) (list_all (is_target_instr (length target.kinds) (length target.fields) roots) code) is in
    record {
      kinds = kinds_few target within;
      fields = fields_few target within;
      code = leb-true (length code) 4096 (and_parts (nat_le 1 (length code)) (nat_le (length code) 4096) parts.0).1;
      lists = all_few (length target.kinds) (length target.fields) roots code parts.1;
    }

op_tests : (target : Target) → IsTargetWithinLimits target
    → list_all (is_target_op (length target.kinds) (length target.fields) (length target.roots)) target.ops ≡ true
op_tests target within =
    let tests = list_all (is_target_op (length target.kinds) (length target.fields) (length target.roots)) target.ops in
    let names = are_different (map (λ op. op.name) target.ops) in
    (and_parts tests names (and_parts (has_between 1 16 target.ops) (tests && names) (ops_within target within)).1).0

op_methods : (kinds fields roots : ℕ) (op : TargetOp) → is_target_op kinds fields roots op ≡ true
    → (is_target_method kinds fields roots op.generator ≡ true) × (is_target_method kinds fields roots op.wrapup ≡ true)
op_methods kinds fields roots op is =
    let named = is_name op.name && not (is_reserved op.name) in
    let args = nat_le op.args most_args in
    let g = is_target_method kinds fields roots op.generator in
    let w = is_target_method kinds fields roots op.wrapup in
    let n = nat_le (target_news_of op) most_news in
    let both = and_parts g (w && n) (and_parts args (g && (w && n)) (and_parts named (args && (g && (w && n))) is).1).1 in
    (both.0, (and_parts w n both.1).0)

methods_within : (target : Target) (k : ℕ) (op : TargetOp) → IsTargetWithinLimits target → slice_get target.ops k ≡ Some op
    → (is_target_method (length target.kinds) (length target.fields) (length target.roots) op.generator ≡ true)
    × (is_target_method (length target.kinds) (length target.fields) (length target.roots) op.wrapup ≡ true)
methods_within target k op within stands =
    op_methods (length target.kinds) (length target.fields) (length target.roots) op
    (passes (is_target_op (length target.kinds) (length target.fields) (length target.roots)) target.ops k op (op_tests target within) stands)

pub generator_small : (target : Target) (k : ℕ) (op : TargetOp) → IsTargetWithinLimits target → slice_get target.ops k ≡ Some op
    → IsSmall (length target.kinds) target.fields op.generator
generator_small target k op within stands = method_small target (length target.roots) op.generator within (methods_within target k op within stands).0

pub wrapup_small : (target : Target) (k : ℕ) (op : TargetOp) → IsTargetWithinLimits target → slice_get target.ops k ≡ Some op
    → IsSmall (length target.kinds) target.fields op.wrapup
wrapup_small target k op within stands = method_small target (length target.roots) op.wrapup within (methods_within target k op within stands).1

pub few_ops : (target : Target) → IsTargetWithinLimits target → length target.ops ≤ 16
few_ops target within =
    let tests = list_all (is_target_op (length target.kinds) (length target.fields) (length target.roots)) target.ops in
    let names = are_different (map (λ op. op.name) target.ops) in
    let between = (and_parts (has_between 1 16 target.ops) (tests && names) (ops_within target within)).0 in
    leb-true (length target.ops) 16 (and_parts (nat_le 1 (length target.ops)) (nat_le (length target.ops) 16) between).1

drop_there : {X : Type 0} (xs : List X) (k : ℕ) (x : X) → slice_get xs k ≡ Some x → drop k xs ≡ x ∷ drop (k + 1) xs
drop_there [] k x stands = absurd (let z : None ≡ Some x = stands in cc)
drop_there (y ∷ ys) zero x stands = let is : y ≡ x = (let s : Some y ≡ Some x = stands in cc) in ap (λ z. z ∷ ys) is
drop_there (y ∷ ys) (suc k) x stands =
    let next : suc (k + 1) ≡ suc k + 1 = omega arith in
    drop_there ys k x stands ∙ ap (λ (m : ℕ). x ∷ drop m (y ∷ ys)) next

-- what is left once one more was added
pub map_goes : {X Y : Type 0} (f : X → Y) (xs : List X) (k : ℕ) (x : X) (y : Y) (old new whole : List Y) → slice_get xs k ≡ Some x → y ≡ f x
    → new ≡ old ++ y ∷ [] → old ++ map f (drop k xs) ≡ whole → new ++ map f (drop (k + 1) xs) ≡ whole
map_goes {X} {Y} f xs k x y old new whole stands is put same =
    ap (λ (l : List Y). l ++ map f (drop (k + 1) xs)) put ∙ append_assoc old (y ∷ []) (map f (drop (k + 1) xs))
    ∙ ap (λ (z : Y). old ++ z ∷ map f (drop (k + 1) xs)) is
    ∙ sym (ap (λ (l : List X). old ++ map f l) (drop_there xs k x stands)) ∙ same
