-- What a scheme makes of a text within the limits is within those of a target.
use Rattle.std.proofs.Common.{◌≡◌, ℕ, zero, suc, ◌+◌, ◌<◌, ◌≤◌, Bool, true, false, not, ◌&&◌, List, [], ◌∷◌, ◌++◌, map, length, take, refl, sym, ap, subst, ◌∙◌, arith}
use Rattle.std.specs.Prelude.{nat_lt, nat_le, IsTrue, if◌then◌else◌}
use Rattle.std.specs.List.{filter, list_all, list_any}
use Rattle.std.proofs.lemmas.Bool.{and_parts, and_from, leb-true, le-leb, ltb-true}
use Rattle.std.proofs.lemmas.List.{length-append, length-map, length-take}
use Rattle.std.proofs.lemmas.List.Folds.{list_all-map}
use Rattle.norm_lang.specs.declared.text.Reg.{Reg}
use Rattle.norm_lang.specs.declared.text.Reg.TheVariants.{Num, Ref}
use Rattle.norm_lang.specs.declared.text.Place.{Place}
use Rattle.norm_lang.specs.declared.text.Place.TheVariants as places
use Rattle.norm_lang.specs.declared.text.CasEntry.{CasEntry}
use Rattle.norm_lang.specs.declared.text.Instr.{Instr}
use Rattle.norm_lang.specs.declared.text.Instr.TheVariants as instr
use Rattle.norm_lang.specs.declared.text.Op.{Op}
use Rattle.norm_lang.specs.declared.text.Text.{Text}
use Rattle.norm_lang.specs.LineWords.{is_name}
use Rattle.norm_lang.specs.Declarations.{is_reserved}
use Rattle.norm_lang.specs.Grammar.{is_new, news_in, news_of}
use Rattle.norm_lang.specs.Limits.{has_between, are_different, is_register, is_target, is_place, is_retire, is_entry, is_instr, is_method, is_op, are_kinds, are_fields, are_nodes, are_roots, are_ops, IsWithinLimits, owners_of}
use Rattle.norm_lang.specs.RegisterUse.{same_register, objects_of, operands_of}
use Rattle.norm_lang.specs.Kept.{holds_reference}
use Rattle.norm_lang.specs.PathRules.{is_commit}
use Rattle.target_code.specs.declared.target.TargetInstr.{TargetInstr}
use Rattle.target_code.specs.declared.target.TargetInstr.TheVariants.{Plain, Check, Guard}
use Rattle.target_code.specs.Erasing.{redirected, plain_code}
use Rattle.target_code.specs.Flaws.{exchanged}
use Rattle.target_code.specs.Keeping.{keeps}
use Rattle.target_code.specs.TargetLimits.{target_news_in, is_guarded_register, is_target_instr, is_target_method, is_target_op, are_target_ops, IsTargetWithinLimits}
use Rattle.target_code.specs.Blocks.{all_references, kept_at, to_guard, Marked, check_if, barrier, block, block_place, laid_out, scheme_op, scheme}
use Rattle.barrier_compiler.proofs.ListLemmas.{list_all_weaker, list_all_both, list_all_filter, list_all_take, list_all_flat_map, length_flat_map_least, length_flat_map_most}
use Rattle.barrier_compiler.proofs.Erases.{instrs_of, plain_of_blocks}
use Rattle.barrier_compiler.proofs.EachOnce.{all_once, once_short}

and_weaker : (a b c d : Bool) → (IsTrue a → IsTrue c) → (IsTrue b → IsTrue d) → IsTrue (a && b) → IsTrue (c && d)
and_weaker a b c d one two is = let parts = and_parts a b is in and_from c d (one parts.0) (two parts.1)

and_kept : (a b d : Bool) → (IsTrue b → IsTrue d) → IsTrue (a && b) → IsTrue (a && d)
and_kept a b d two is = let parts = and_parts a b is in and_from a d parts.0 (two parts.1)

-- ---- what is guarded

objects_within : (fields roots : ℕ) (place : Place) → IsTrue (is_place fields roots place) → IsTrue (list_all is_register (objects_of place))
objects_within fields roots (places.Root x) is = refl
objects_within fields roots (places.Field a f) is = and_from (is_register a) true (and_parts (is_register a) (nat_lt f fields) is).0 refl

operands_within : (fields roots : ℕ) (entry : CasEntry) → IsTrue (is_entry fields roots entry) → IsTrue (list_all is_register (operands_of entry))
operands_within fields roots entry is =
    let expected = is_register entry.expected in
    let replacement = is_register entry.replacement in
    let retire = is_retire entry.retire in
    let one = and_parts (is_place fields roots entry.place) (expected && (replacement && retire)) is in
    let two = and_parts expected (replacement && retire) one.1 in
    let three = and_parts replacement retire two.1 in
    list_all_both is_register (objects_of entry.place) (entry.expected ∷ entry.replacement ∷ []) (objects_within fields roots entry.place one.0)
    (and_from expected (replacement && true) two.0 (and_from replacement true three.0 refl))

exchanged_within : (kinds fields roots : ℕ) (i : Instr) → IsTrue (is_instr kinds fields roots i) → IsTrue (list_all is_register (exchanged i))
exchanged_within kinds fields roots (instr.Cas entry l) is = operands_within fields roots entry (and_parts (is_entry fields roots entry) (is_target l) is).0
exchanged_within kinds fields roots (instr.Commit entries) is =
    list_all_flat_map (is_entry fields roots) is_register operands_of (operands_within fields roots) entries (and_parts (nat_le (length entries) 4) (list_all (is_entry fields roots) entries) is).1
exchanged_within kinds fields roots _ is = refl

references_guarded : (rs : List Reg) → IsTrue (list_all is_register rs) → IsTrue (list_all is_guarded_register (filter holds_reference rs))
references_guarded [] all = refl
references_guarded (Num n ∷ rs) all = references_guarded rs (and_parts (is_register (Num n)) (list_all is_register rs) all).1
references_guarded (Ref n ∷ rs) all =
    let parts = and_parts (is_register (Ref n)) (list_all is_register rs) all in
    and_from (is_guarded_register (Ref n)) (list_all is_guarded_register (filter holds_reference rs)) parts.0 (references_guarded rs parts.1)

kept_guarded : (keep : Reg → Bool) (commits : Bool) (rs : List Reg) → IsTrue (list_all is_guarded_register rs) → IsTrue (list_all is_guarded_register (if commits then filter keep rs else []))
kept_guarded keep true rs all = list_all_filter is_guarded_register keep rs all
kept_guarded keep false rs all = refl

abbrev guarded_of : Op → Instr → List Reg
guarded_of op i = filter holds_reference (exchanged i) ++ kept_at op i

guarded_within : (kinds fields roots : ℕ) (op : Op) (i : Instr) → IsTrue (is_instr kinds fields roots i) → IsTrue (list_all is_guarded_register (guarded_of op i))
guarded_within kinds fields roots op i is =
    list_all_both is_guarded_register (filter holds_reference (exchanged i)) (kept_at op i)
    (references_guarded (exchanged i) (exchanged_within kinds fields roots i is))
    (kept_guarded (keeps op) (is_commit i) all_references refl)

is_reference : (r : Reg) → IsTrue (is_guarded_register r) → IsTrue (list_any (λ a. same_register a r) all_references)
is_reference (Num n) is = cc
is_reference (Ref zero) is = refl
is_reference (Ref (suc zero)) is = refl
is_reference (Ref (suc (suc zero))) is = refl
is_reference (Ref (suc (suc (suc zero)))) is = refl
is_reference (Ref (suc (suc (suc (suc zero))))) is = refl
is_reference (Ref (suc (suc (suc (suc (suc zero)))))) is = refl
is_reference (Ref (suc (suc (suc (suc (suc (suc zero))))))) is = refl
is_reference (Ref (suc (suc (suc (suc (suc (suc (suc zero)))))))) is = refl
is_reference (Ref (suc (suc (suc (suc (suc (suc (suc (suc n))))))))) is =
    let lt : suc (suc (suc (suc (suc (suc (suc (suc n))))))) < 8 = ltb-true (suc (suc (suc (suc (suc (suc (suc (suc n)))))))) 8 is in
    let no : ⊥ = omega (arith, lt) in absurd no

guards_few : (kinds fields roots : ℕ) (op : Op) (i : Instr) → IsTrue (is_instr kinds fields roots i) → length (to_guard op i) ≤ 8
guards_few kinds fields roots op i is =
    once_short all_references (guarded_of op i) (list_all_weaker is_guarded_register (λ r. list_any (λ a. same_register a r) all_references) is_reference (guarded_of op i) (guarded_within kinds fields roots op i is))

-- ---- blocks

check_length : (wanted : Bool) → length (check_if wanted) ≤ 1
check_length true = omega arith
check_length false = omega arith

barrier_length : (wanted : Bool) (rs : List Reg) → length (barrier wanted rs) ≤ length rs + 1
barrier_length wanted [] = check_length wanted
barrier_length wanted (r ∷ rs) = let long = length-append (map Guard (r ∷ rs)) (Check ∷ []) in let same = length-map (r ∷ rs) Guard in omega (arith, long, same)

block_long : (place : ℕ → ℕ) (op : Op) (m : Marked) → 1 ≤ length (block place op m)
block_long place op m = omega (arith, length-append (barrier m.before (to_guard op m.instr)) (Plain (redirected place m.instr) ∷ check_if m.after))

-- an instruction with a mark, with so many kinds, fields and roots
abbrev is_marked : ℕ → ℕ → ℕ → Marked → Bool
is_marked kinds fields roots m = is_instr kinds fields roots m.instr

-- eight guards with a check, the instruction, and a check: 256 instructions become no more than 2816
block_short : (kinds fields roots : ℕ) (place : ℕ → ℕ) (op : Op) (m : Marked) → IsTrue (is_marked kinds fields roots m) → length (block place op m) ≤ 11
block_short kinds fields roots place op m is =
    let few = guards_few kinds fields roots op m.instr is in
    let before = barrier_length m.before (to_guard op m.instr) in
    let behind : length (check_if m.after) ≤ 1 = check_length m.after in
    omega (arith, few, before, behind, length-append (barrier m.before (to_guard op m.instr)) (Plain (redirected place m.instr) ∷ check_if m.after))

redirected_within : (kinds fields roots : ℕ) (place : ℕ → ℕ) → ((l : ℕ) → IsTrue (is_target (place l))) → (i : Instr) → IsTrue (is_instr kinds fields roots i) → IsTrue (is_instr kinds fields roots (redirected place i))
redirected_within kinds fields roots place leads (instr.Cas entry l) is = and_kept (is_entry fields roots entry) (is_target l) (is_target (place l)) (λ _. leads l) is
redirected_within kinds fields roots place leads (instr.Jump l) is = leads l
redirected_within kinds fields roots place leads (instr.IfEq a b l) is =
    and_kept (is_register a) (is_register b && is_target l) (is_register b && is_target (place l)) (and_kept (is_register b) (is_target l) (is_target (place l)) (λ _. leads l)) is
redirected_within kinds fields roots place leads (instr.IfLess a b l) is =
    and_kept (is_register a) (is_register b && is_target l) (is_register b && is_target (place l)) (and_kept (is_register b) (is_target l) (is_target (place l)) (λ _. leads l)) is
redirected_within kinds fields roots place leads (instr.IfMarked a l) is = and_kept (is_register a) (is_target l) (is_target (place l)) (λ _. leads l) is
redirected_within kinds fields roots place leads _ is = is

check_within : (kinds fields roots : ℕ) (wanted : Bool) → IsTrue (list_all (is_target_instr kinds fields roots) (check_if wanted))
check_within kinds fields roots true = refl
check_within kinds fields roots false = refl

barrier_within : (kinds fields roots : ℕ) (wanted : Bool) (rs : List Reg) → IsTrue (list_all is_guarded_register rs) → IsTrue (list_all (is_target_instr kinds fields roots) (barrier wanted rs))
barrier_within kinds fields roots wanted [] all = check_within kinds fields roots wanted
barrier_within kinds fields roots wanted (r ∷ rs) all =
    list_all_both (is_target_instr kinds fields roots) (map Guard (r ∷ rs)) (Check ∷ []) (list_all-map (is_target_instr kinds fields roots) Guard (r ∷ rs) ∙ all) refl

block_within : (kinds fields roots : ℕ) (place : ℕ → ℕ) → ((l : ℕ) → IsTrue (is_target (place l))) → (op : Op) (m : Marked) → IsTrue (is_marked kinds fields roots m) → IsTrue (list_all (is_target_instr kinds fields roots) (block place op m))
block_within kinds fields roots place leads op m is =
    list_all_both (is_target_instr kinds fields roots) (barrier m.before (to_guard op m.instr)) (Plain (redirected place m.instr) ∷ check_if m.after)
    (barrier_within kinds fields roots m.before (to_guard op m.instr) (all_once is_guarded_register (guarded_of op m.instr) (guarded_within kinds fields roots op m.instr is)))
    (and_from (is_instr kinds fields roots (redirected place m.instr)) (list_all (is_target_instr kinds fields roots) (check_if m.after)) (redirected_within kinds fields roots place leads m.instr is) (check_within kinds fields roots m.after))

-- ---- methods

place_within : (kinds fields roots : ℕ) (op : Op) (marked : List Marked) → length marked ≤ 256 → IsTrue (list_all (is_marked kinds fields roots) marked) → (l : ℕ) → IsTrue (is_target (block_place op marked l))
place_within kinds fields roots op marked few all l =
    let long = length_flat_map_most (is_marked kinds fields roots) (block (λ at. at) op) 11 (block_short kinds fields roots (λ at. at) op) (take l marked) (list_all_take (is_marked kinds fields roots) l marked all) in
    let front = length-take l marked in
    le-leb (block_place op marked l) 65535 (omega (arith, few, long, front))

pub method_within : (kinds fields roots : ℕ) (op : Op) (code : List Instr) (marked : List Marked) → instrs_of marked ≡ code → IsTrue (is_method kinds fields roots code) → IsTrue (is_target_method kinds fields roots (laid_out op marked))
method_within kinds fields roots op code marked same is =
    let parts = and_parts (has_between 1 256 code) (list_all (is_instr kinds fields roots) code) is in
    let sizes = and_parts (nat_le 1 (length code)) (nat_le (length code) 256) parts.0 in
    let long : length marked ≡ length code = sym (length-map marked (λ (m : Marked). m.instr)) ∙ ap length same in
    let some : 1 ≤ length code = leb-true 1 (length code) sizes.0 in
    let few : length code ≤ 256 = leb-true (length code) 256 sizes.1 in
    let all : IsTrue (list_all (is_marked kinds fields roots) marked) = sym (list_all-map (is_instr kinds fields roots) (λ (m : Marked). m.instr) marked) ∙ (ap (list_all (is_instr kinds fields roots)) same ∙ parts.1) in
    let place = block_place op marked in
    let least = length_flat_map_least (block place op) (block_long place op) marked in
    let most = length_flat_map_most (is_marked kinds fields roots) (block place op) 11 (block_short kinds fields roots place op) marked all in
    and_from (has_between 1 4096 (laid_out op marked)) (list_all (is_target_instr kinds fields roots) (laid_out op marked))
    (and_from (nat_le 1 (length (laid_out op marked))) (nat_le (length (laid_out op marked)) 4096)
    (le-leb 1 (length (laid_out op marked)) (omega (arith, some, least, long)))
    (le-leb (length (laid_out op marked)) 4096 (omega (arith, few, most, long))))
    (list_all_flat_map (is_marked kinds fields roots) (is_target_instr kinds fields roots) (block place op) (block_within kinds fields roots place (place_within kinds fields roots op marked (omega (arith, few, long)) all) op) marked all)

-- ---- counts of `new`

abbrev counted : Bool → ℕ → ℕ
counted b n = if b then n + 1 else n

new_same : (place : ℕ → ℕ) (i : Instr) → is_new (redirected place i) ≡ is_new i
new_same place (instr.Cas entry l) = refl
new_same place _ = refl

target_news : (code : List TargetInstr) → target_news_in code ≡ news_in (plain_code (λ l. l) code)
target_news [] = refl
target_news (Plain i ∷ code) =
    ap (counted (is_new i)) (target_news code) ∙ ap (λ b. counted b (news_in (plain_code (λ l. l) code))) (sym (new_same (λ l. l) i))
target_news (Check ∷ code) = target_news code
target_news (Guard r ∷ code) = target_news code

redirected_news : (place : ℕ → ℕ) (code : List Instr) → news_in (map (redirected place) code) ≡ news_in code
redirected_news place [] = refl
redirected_news place (i ∷ code) = ap (λ b. counted b (news_in (map (redirected place) code))) (new_same place i) ∙ ap (counted (is_new i)) (redirected_news place code)

news_same : (op : Op) (code : List Instr) (marked : List Marked) → instrs_of marked ≡ code → target_news_in (laid_out op marked) ≡ news_in code
news_same op code marked same =
    target_news (laid_out op marked)
    ∙ (ap news_in (plain_of_blocks (λ l. l) (block_place op marked) op marked)
    ∙ (redirected_news (λ l. block_place op marked l) (instrs_of marked)
    ∙ ap news_in same))

-- a scheme marks the instructions that it is given
abbrev MarksAll : (List Instr → List Marked) → Type 0
MarksAll marks = (code : List Instr) → instrs_of (marks code) ≡ code

-- ---- operations

op_within : (marks : List Instr → List Marked) → MarksAll marks → (kinds fields roots : ℕ) (op : Op) → IsTrue (is_op kinds fields roots op) → IsTrue (is_target_op kinds fields roots (scheme_op marks op))
op_within marks all kinds fields roots op =
    let generator = laid_out op (marks op.generator) in
    let wrapup = laid_out op (marks op.wrapup) in
    let named = is_name op.name && not (is_reserved op.name) in
    let few = nat_le (news_of op) 4 in
    let still = nat_le (target_news_in generator + target_news_in wrapup) 4 in
    let same : news_of op ≡ target_news_in generator + target_news_in wrapup = ap (λ n. n + news_in op.wrapup) (sym (news_same op op.generator (marks op.generator) (all op.generator))) ∙ ap (λ n. target_news_in generator + n) (sym (news_same op op.wrapup (marks op.wrapup) (all op.wrapup))) in
    let last : IsTrue few → IsTrue still = subst (λ (n : ℕ). IsTrue (nat_le n 4)) same in
    and_kept named (nat_le op.args 4 && (is_method kinds fields roots op.generator && (is_method kinds fields roots op.wrapup && few))) (nat_le op.args 4 && (is_target_method kinds fields roots generator && (is_target_method kinds fields roots wrapup && still)))
    (and_kept (nat_le op.args 4) (is_method kinds fields roots op.generator && (is_method kinds fields roots op.wrapup && few)) (is_target_method kinds fields roots generator && (is_target_method kinds fields roots wrapup && still))
    (and_weaker (is_method kinds fields roots op.generator) (is_method kinds fields roots op.wrapup && few) (is_target_method kinds fields roots generator) (is_target_method kinds fields roots wrapup && still) (method_within kinds fields roots op op.generator (marks op.generator) (all op.generator))
    (and_weaker (is_method kinds fields roots op.wrapup) few (is_target_method kinds fields roots wrapup) still (method_within kinds fields roots op op.wrapup (marks op.wrapup) (all op.wrapup)) last)))

names_same : (marks : List Instr → List Marked) (ops : List Op) → map (λ op. op.name) (map (scheme_op marks) ops) ≡ map (λ op. op.name) ops
names_same marks [] = refl
names_same marks (op ∷ ops) = ap (λ names. op.name ∷ names) (names_same marks ops)

ops_within : (marks : List Instr → List Marked) → MarksAll marks → (kinds fields roots : ℕ) (ops : List Op) → IsTrue (are_ops kinds fields roots ops) → IsTrue (are_target_ops kinds fields roots (map (scheme_op marks) ops))
ops_within marks all kinds fields roots ops is =
    let one = and_parts (has_between 1 16 ops) (list_all (is_op kinds fields roots) ops && are_different (map (λ op. op.name) ops)) is in
    let two = and_parts (list_all (is_op kinds fields roots) ops) (are_different (map (λ op. op.name) ops)) one.1 in
    let each : IsTrue (list_all (λ op. is_target_op kinds fields roots (scheme_op marks op)) ops) = list_all_weaker (is_op kinds fields roots) (λ op. is_target_op kinds fields roots (scheme_op marks op)) (op_within marks all kinds fields roots) ops two.0 in
    and_from (has_between 1 16 (map (scheme_op marks) ops)) (list_all (is_target_op kinds fields roots) (map (scheme_op marks) ops) && are_different (map (λ op. op.name) (map (scheme_op marks) ops)))
    (subst (λ (n : ℕ). IsTrue (nat_le 1 n && nat_le n 16)) (sym (length-map ops (scheme_op marks))) one.0)
    (and_from (list_all (is_target_op kinds fields roots) (map (scheme_op marks) ops)) (are_different (map (λ op. op.name) (map (scheme_op marks) ops)))
    (list_all-map (is_target_op kinds fields roots) (scheme_op marks) ops ∙ each)
    (subst (λ (names : List (List ℕ)). IsTrue (are_different names)) (sym (names_same marks ops)) two.1))

-- what is made of a text within the limits is within them
pub scheme_is_within : (marks : List Instr → List Marked) → MarksAll marks → (text : Text) → IsWithinLimits text → IsTargetWithinLimits (scheme marks text)
scheme_is_within marks all text =
    let kinds = are_kinds text.kinds in
    let fields = are_fields (length text.kinds) text.fields in
    let nodes = are_nodes (length text.kinds) text.fields text.nodes in
    let roots = are_roots (length text.kinds) (owners_of text.nodes) text.roots in
    let before = are_ops (length text.kinds) (length text.fields) (length text.roots) text.ops in
    let after = are_target_ops (length text.kinds) (length text.fields) (length text.roots) (map (scheme_op marks) text.ops) in
    and_kept kinds (fields && (nodes && (roots && before))) (fields && (nodes && (roots && after)))
    (and_kept fields (nodes && (roots && before)) (nodes && (roots && after))
    (and_kept nodes (roots && before) (roots && after)
    (and_kept roots before after (ops_within marks all (length text.kinds) (length text.fields) (length text.roots) text.ops))))
