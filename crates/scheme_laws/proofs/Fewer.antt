-- Combined checks are no more than those of the first scheme: a check that is due was paid for by the load or the `new` that made it
-- due, after which the first scheme has one at once.
use Rattle.std.proofs.Common.{◌≡◌, ℕ, zero, suc, ◌+◌, ◌≤◌, Bool, true, false, ◌&&◌, ◌||◌, List, [], ◌∷◌, ◌++◌, map, Some, refl, ap, subst, arith}
use Rattle.std.specs.Prelude.{slice_get, IsTrue, if◌then◌else◌}
use Rattle.std.specs.List.{list_any, flat_map}
use Rattle.std.proofs.lemmas.Bool.{and_parts}
use Rattle.std.proofs.lemmas.Option.{same_Some}
use Rattle.norm_lang.specs.declared.text.Reg.{Reg}
use Rattle.norm_lang.specs.declared.text.Instr.{Instr}
use Rattle.norm_lang.specs.declared.text.Op.{Op}
use Rattle.norm_lang.specs.declared.text.Text.{Text}
use Rattle.norm_lang.specs.RegisterUse.{registers_named, destination}
use Rattle.norm_lang.specs.Flow.{is_end}
use Rattle.target_code.specs.declared.target.TargetInstr.{TargetInstr}
use Rattle.target_code.specs.declared.target.TargetInstr.TheVariants.{Plain, Check, Guard}
use Rattle.target_code.specs.declared.target.TargetOp.{TargetOp}
use Rattle.target_code.specs.Erasing.{redirected}
use Rattle.target_code.specs.Flaws.{fetches}
use Rattle.target_code.specs.Blocks.{to_guard, Marked, check_if, barrier, block, block_place, laid_out, scheme_op}
use Rattle.target_code.specs.SecondScheme.{Due, none_due, is_any, is_due, breaks, reads_some, needs_check, after_check, noted, left_due, jumps_to, meets_jump, next_due, marked, marks_from, second_marks, second_scheme}
use Rattle.scheme_laws.specs.FirstScheme.{first_mark, first_marks, first_scheme}
use Rattle.scheme_laws.specs.Compared.{checks_in, HasNoMoreChecks}

abbrev one : Bool → ℕ
one true = 1
one false = 0

-- a register is noted, so that a check is still to come
abbrev pending : Due → ℕ
pending due = one (is_any due.fetched || is_any due.others)

-- ---- checks of a block

checks_append : (a b : List TargetInstr) → checks_in (a ++ b) ≡ checks_in a + checks_in b
checks_append [] b = omega arith
checks_append (Plain i ∷ a) b = checks_append a b
checks_append (Check ∷ a) b = let rest = checks_append a b in omega (arith, rest)
checks_append (Guard r ∷ a) b = checks_append a b

checks_wanted : (wanted : Bool) → checks_in (check_if wanted) ≡ one wanted
checks_wanted true = refl
checks_wanted false = refl

-- the checks before an instruction
abbrev count_before : Bool → List Reg → ℕ
count_before wanted [] = one wanted
count_before wanted (r ∷ rs) = 1

guards_checked : (rs : List Reg) → checks_in (map Guard rs ++ (Check ∷ [])) ≡ 1
guards_checked [] = refl
guards_checked (r ∷ rs) = guards_checked rs

checks_before : (wanted : Bool) (rs : List Reg) → checks_in (barrier wanted rs) ≡ count_before wanted rs
checks_before wanted [] = checks_wanted wanted
checks_before wanted (r ∷ rs) = guards_checked rs

block_checks : (place : ℕ → ℕ) (op : Op) (m : Marked) → checks_in (block place op m) ≡ count_before m.before (to_guard op m.instr) + one m.after
block_checks place op m =
    let parts : checks_in (block place op m) ≡ checks_in (barrier m.before (to_guard op m.instr)) + checks_in (check_if m.after) =
    checks_append (barrier m.before (to_guard op m.instr)) (Plain (redirected place m.instr) ∷ check_if m.after) in
    let before = checks_before m.before (to_guard op m.instr) in
    let after = checks_wanted m.after in
    omega (arith, parts, before, after)

-- ---- one instruction

some_read : (i : Instr) (rs : List Reg) → IsTrue (reads_some i rs) → IsTrue (is_any rs)
some_read i [] is = cc
some_read i (r ∷ rs) is = refl

needs_pending : (due : Due) (i : Instr) → needs_check due i ≡ true → pending due ≡ 1
needs_pending due i needs =
    by_bool (is_end i) (reads_some i due.fetched) (reads_some i due.others) (is_any due.fetched) (is_any due.others) (breaks i)
    (some_read i due.fetched) (some_read i due.others) needs
  where
    by_bool : (last reading other fetched others break : Bool) → (IsTrue reading → IsTrue fetched) → (IsTrue other → IsTrue others)
        → (if last then reading || other else fetched && (break || reading)) ≡ true → one (fetched || others) ≡ 1
    by_bool last reading other true others break f g is = refl
    by_bool last reading other false true break f g is = refl
    by_bool true true other false false break f g is = let never : false ≡ true = f refl in cc
    by_bool true false true false false break f g is = let never : false ≡ true = g refl in cc
    by_bool true false false false false break f g is = cc
    by_bool false reading other false false break f g is = cc

before_step : (c : Bool) (rs : List Reg) (due : Due) → (c ≡ true → pending due ≡ 1) → count_before c rs + pending (after_check c due) ≤ pending due + count_before false rs
before_step true [] due needs = let full = needs refl in omega (arith, full)
before_step _ _ due needs = omega arith

one_most : (b : Bool) → one b ≤ 1
one_most true = omega arith
one_most false = omega arith

noted_step : (i : Instr) (due : Due) → pending (noted i due) ≤ pending due + one (fetches i)
noted_step i due = by_bool (is_end i) (fetches i) (is_due due) refl
  where
    by_bool : (last fetched is : Bool) → is_due due ≡ is
        → pending (
        if last then none_due
        else if fetched then record due { fetched = due.fetched ++ registers_named (destination i) }
        else if is then record due { others = due.others ++ registers_named (destination i) }
        else due)
        ≤ pending due + one fetched
    by_bool false true is same =
        let most = one_most (is_any (due.fetched ++ registers_named (destination i)) || is_any due.others) in omega (arith, most)
    by_bool false false true same =
        let before : pending due ≡ 1 = ap (λ b. one (b || is_any due.others)) same in
        let after : one (is_any due.fetched || is_any (due.others ++ registers_named (destination i))) ≡ 1 = ap (λ b. one (b || is_any (due.others ++ registers_named (destination i)))) same in
        omega (arith, before, after)
    by_bool _ _ _ same = omega arith

meets_step : (m : Bool) (due : Due) → (m ≡ true → is_due due ≡ true) → one m + pending (after_check m due) ≤ pending due
meets_step true due meets = let full : pending due ≡ 1 = ap (λ b. one (b || is_any due.others)) (meets refl) in omega (arith, full)
meets_step false due meets = omega arith

-- what an instruction's checks are more than those of the first scheme, it takes from what was pending
step : (op : Op) (code : List Instr) (at : ℕ) (due : Due) (i : Instr)
    → (count_before (needs_check due i) (to_guard op i) + one (meets_jump code (at + 1) (left_due i due))) + pending (next_due code at i due)
    ≤ pending due + (count_before false (to_guard op i) + one (fetches i))
step op code at due i =
    let before = before_step (needs_check due i) (to_guard op i) due (needs_pending due i) in
    let set = noted_step i (after_check (needs_check due i) due) in
    let after = meets_step (meets_jump code (at + 1) (left_due i due)) (left_due i due) (λ is. (and_parts (is_due (left_due i due)) (list_any (jumps_to (at + 1)) code) is).0) in
    omega (arith, before, set, after)

-- ---- methods, operations, texts

code_fewer : (op : Op) (place other : ℕ → ℕ) (code : List Instr) (at : ℕ) (due : Due) (rest : List Instr)
    → checks_in (flat_map (block place op) (marks_from code at due rest)) ≤ pending due + checks_in (flat_map (block other op) (map first_mark rest))
code_fewer op place other code at due [] = omega arith
code_fewer op place other code at due (i ∷ rest) =
    let here = step op code at due i in
    let later = code_fewer op place other code (at + 1) (next_due code at i due) rest in
    let combined = checks_append (block place op (marked code at due i)) (flat_map (block place op) (marks_from code (at + 1) (next_due code at i due) rest)) in
    let apart = checks_append (block other op (first_mark i)) (flat_map (block other op) (map first_mark rest)) in
    let one_combined = block_checks place op (marked code at due i) in
    let one_apart = block_checks other op (first_mark i) in
    omega (arith, here, later, combined, apart, one_combined, one_apart)

method_fewer : (op : Op) (code : List Instr) → checks_in (laid_out op (second_marks code)) ≤ checks_in (laid_out op (first_marks code))
method_fewer op code =
    let all = code_fewer op (block_place op (second_marks code)) (block_place op (first_marks code)) code 0 none_due code in
    omega (arith, all)

ops_fewer : (ops : List Op) (number : ℕ) (op than : TargetOp) → slice_get (map (scheme_op second_marks) ops) number ≡ Some op → slice_get (map (scheme_op first_marks) ops) number ≡ Some than
    → HasNoMoreChecks op than
ops_fewer [] number op than is other = cc
ops_fewer (first ∷ ops) zero op than is other =
    subst (λ z. HasNoMoreChecks z than) (same_Some (scheme_op second_marks first) op is)
    (subst (λ z. HasNoMoreChecks (scheme_op second_marks first) z) (same_Some (scheme_op first_marks first) than other)
    (method_fewer first first.generator, method_fewer first first.wrapup))
ops_fewer (first ∷ ops) (suc number) op than is other = ops_fewer ops number op than is other

pub checks_are_fewer : (text : Text) (number : ℕ) (op than : TargetOp) → slice_get (second_scheme text).ops number ≡ Some op → slice_get (first_scheme text).ops number ≡ Some than
    → HasNoMoreChecks op than
checks_are_fewer text = ops_fewer text.ops
