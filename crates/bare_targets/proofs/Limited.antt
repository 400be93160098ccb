-- The limits of a text are stricter than those of a target.
use Rattle.std.proofs.Common.{ℕ, ◌≡◌, ◌+◌, ◌∙◌, Bool, not, ◌&&◌, List, [], ◌∷◌, map, length, arith, sym, ap, subst, refl}
use Rattle.std.specs.Prelude.{nat_le, IsTrue, if◌then◌else◌}
use Rattle.std.specs.List.{list_all}
use Rattle.std.proofs.lemmas.Bool.{and_parts, and_from, leb-true, le-leb}
use Rattle.std.proofs.lemmas.List.{length-map}
use Rattle.std.proofs.lemmas.List.Folds.{list_all-map}
use Rattle.norm_lang.specs.declared.text.Instr.{Instr}
use Rattle.norm_lang.specs.declared.text.Op.{Op}
use Rattle.norm_lang.specs.declared.text.Text.{Text}
use Rattle.norm_lang.specs.LineWords.{is_name}
use Rattle.norm_lang.specs.Declarations.{is_reserved}
use Rattle.norm_lang.specs.Grammar.{is_new, news_in, news_of}
use Rattle.norm_lang.specs.Limits.{has_between, are_different, is_instr, is_method, is_op, are_kinds, are_fields, are_nodes, are_roots, are_ops, IsWithinLimits, owners_of}
use Rattle.target_code.specs.declared.target.TargetInstr.TheVariants.{Plain}
use Rattle.target_code.specs.TargetLimits.{target_news_in, is_target_instr, is_target_method, is_target_op, are_target_ops, IsTargetWithinLimits}
use Rattle.target_code.specs.Bare.{bare_op, bare}

and_weaker : (a b c d : Bool) → (IsTrue a → IsTrue c) → (IsTrue b → IsTrue d) → IsTrue (a && b) → IsTrue (c && d)
and_weaker a b c d one two is = let parts = and_parts a b is in and_from c d (one parts.0) (two parts.1)

and_kept : (a b d : Bool) → (IsTrue b → IsTrue d) → IsTrue (a && b) → IsTrue (a && d)
and_kept a b d two is = let parts = and_parts a b is in and_from a d parts.0 (two parts.1)

method_within : (kinds fields roots : ℕ) (code : List Instr) → IsTrue (is_method kinds fields roots code) → IsTrue (is_target_method kinds fields roots (map Plain code))
method_within kinds fields roots code is =
    let parts = and_parts (has_between 1 256 code) (list_all (is_instr kinds fields roots) code) is in
    let sizes = and_parts (nat_le 1 (length code)) (nat_le (length code) 256) parts.0 in
    let few = leb-true (length code) 256 sizes.1 in
    and_from (has_between 1 4096 (map Plain code)) (list_all (is_target_instr kinds fields roots) (map Plain code))
    (subst (λ (n : ℕ). IsTrue (nat_le 1 n && nat_le n 4096)) (sym (length-map code Plain))
    (and_from (nat_le 1 (length code)) (nat_le (length code) 4096) sizes.0 (le-leb (length code) 4096 (omega (arith, few)))))
    (list_all-map (is_target_instr kinds fields roots) Plain code ∙ parts.1)

news_same : (code : List Instr) → target_news_in (map Plain code) ≡ news_in code
news_same [] = refl
news_same (i ∷ code) = ap (λ (n : ℕ). if is_new i then n + 1 else n) (news_same code)

op_within : (kinds fields roots : ℕ) (op : Op) → IsTrue (is_op kinds fields roots op) → IsTrue (is_target_op kinds fields roots (bare_op op))
op_within kinds fields roots op =
    let generator = map Plain op.generator in
    let wrapup = map Plain op.wrapup in
    let few = nat_le (news_of op) 4 in
    let still = nat_le (target_news_in generator + target_news_in wrapup) 4 in
    let same : news_of op ≡ target_news_in generator + target_news_in wrapup =
    ap (λ (n : ℕ). n + news_in op.wrapup) (sym (news_same op.generator)) ∙ ap (λ (n : ℕ). target_news_in generator + n) (sym (news_same op.wrapup)) in
    let last : IsTrue few → IsTrue still = subst (λ (n : ℕ). IsTrue (nat_le n 4)) same in
    let before = is_method kinds fields roots op.wrapup && few in
    let after = is_target_method kinds fields roots wrapup && still in
    and_kept (is_name op.name && not (is_reserved op.name)) (nat_le op.args 4 && (is_method kinds fields roots op.generator && before)) (nat_le op.args 4 && (is_target_method kinds fields roots generator && after))
    (and_kept (nat_le op.args 4) (is_method kinds fields roots op.generator && before) (is_target_method kinds fields roots generator && after)
    (and_weaker (is_method kinds fields roots op.generator) before (is_target_method kinds fields roots generator) after (method_within kinds fields roots op.generator)
    (and_weaker (is_method kinds fields roots op.wrapup) few (is_target_method kinds fields roots wrapup) still (method_within kinds fields roots op.wrapup) last)))

each_within : (kinds fields roots : ℕ) (ops : List Op) → IsTrue (list_all (is_op kinds fields roots) ops) → IsTrue (list_all (is_target_op kinds fields roots) (map bare_op ops))
each_within kinds fields roots [] is = refl
each_within kinds fields roots (op ∷ ops) is =
    and_weaker (is_op kinds fields roots op) (list_all (is_op kinds fields roots) ops) (is_target_op kinds fields roots (bare_op op)) (list_all (is_target_op kinds fields roots) (map bare_op ops))
    (op_within kinds fields roots op) (each_within kinds fields roots ops) is

names_same : (ops : List Op) → map (λ op. op.name) (map bare_op ops) ≡ map (λ op. op.name) ops
names_same [] = refl
names_same (op ∷ ops) = ap (λ (names : List (List ℕ)). op.name ∷ names) (names_same ops)

ops_within : (kinds fields roots : ℕ) (ops : List Op) → IsTrue (are_ops kinds fields roots ops) → IsTrue (are_target_ops kinds fields roots (map bare_op ops))
ops_within kinds fields roots ops =
    let named = are_different (map (λ op. op.name) ops) in
    let still = are_different (map (λ op. op.name) (map bare_op ops)) in
    and_weaker (has_between 1 16 ops) (list_all (is_op kinds fields roots) ops && named)
    (has_between 1 16 (map bare_op ops)) (list_all (is_target_op kinds fields roots) (map bare_op ops) && still)
    (subst (λ (n : ℕ). IsTrue (nat_le 1 n && nat_le n 16)) (sym (length-map ops bare_op)))
    (and_weaker (list_all (is_op kinds fields roots) ops) named (list_all (is_target_op kinds fields roots) (map bare_op ops)) still
    (each_within kinds fields roots ops) (subst (λ (names : List (List ℕ)). IsTrue (are_different names)) (sym (names_same ops))))

pub bare_within : (text : Text) → IsWithinLimits text → IsTargetWithinLimits (bare text)
bare_within text =
    let kinds = are_kinds text.kinds in
    let fields = are_fields (length text.kinds) text.fields in
    let nodes = are_nodes (length text.kinds) text.fields text.nodes in
    let roots = are_roots (length text.kinds) (owners_of text.nodes) text.roots in
    let before = are_ops (length text.kinds) (length text.fields) (length text.roots) text.ops in
    let after = are_target_ops (length text.kinds) (length text.fields) (length text.roots) (map bare_op text.ops) in
    and_kept kinds (fields && (nodes && (roots && before))) (fields && (nodes && (roots && after)))
    (and_kept fields (nodes && (roots && before)) (nodes && (roots && after))
    (and_kept nodes (roots && before) (roots && after)
    (and_kept roots before after (ops_within (length text.kinds) (length text.fields) (length text.roots) text.ops))))
