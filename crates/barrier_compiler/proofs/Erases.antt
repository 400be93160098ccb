-- What a scheme makes of a text in normal form erases to the text.
use Rattle.std.proofs.Common.{◌≡◌, ℕ, ◌<◌, ◌≤◌, inl, inr, Bool, true, false, List, [], ◌∷◌, ◌++◌, map, length, get_or, take, Some, refl, sym, ap, ◌∙◌, arith}
use Rattle.std.specs.Prelude.{slice_get}
use Rattle.std.specs.List.{All, flat_map}
use Rattle.std.proofs.lemmas.Bool.{cases_Bool, leb-false}
use Rattle.std.proofs.lemmas.Option.{slice_get-get_or}
use Rattle.std.proofs.lemmas.List.{length-map, length-take-le}
use Rattle.std.proofs.lemmas.List.Folds.{map_fixed}
use Rattle.norm_lang.specs.declared.text.Reg.{Reg}
use Rattle.norm_lang.specs.declared.text.RootDecl.{RootDecl}
use Rattle.norm_lang.specs.declared.text.Instr.{Instr}
use Rattle.norm_lang.specs.declared.text.Instr.TheVariants as instr
use Rattle.norm_lang.specs.declared.text.Op.{Op}
use Rattle.norm_lang.specs.declared.text.Text.{Text}
use Rattle.norm_lang.specs.Kept.{code_of}
use Rattle.norm_lang.specs.InstructionRules.{has_wrong_range}
use Rattle.norm_lang.specs.NormalForm.{N13, BreaksRule, Breaks, IsNormal}
use Rattle.target_code.specs.declared.target.TargetInstr.{TargetInstr}
use Rattle.target_code.specs.declared.target.TargetInstr.TheVariants.{Plain, Check, Guard}
use Rattle.target_code.specs.Erasing.{plain_count, source_place, redirected, plain_code, erased_code, erased_op, ErasesTo}
use Rattle.target_code.specs.Blocks.{to_guard, Marked, check_if, barrier, block, block_place, laid_out, scheme_op, scheme}
use Rattle.barrier_compiler.proofs.BlockPaths.{same_length}
use Rattle.barrier_compiler.proofs.ListLemmas.{map_back, flat_map_front, length_flat_map_same}

-- ---- what is left of blocks

plain_append : (place : ℕ → ℕ) (xs ys : List TargetInstr) → plain_code place (xs ++ ys) ≡ plain_code place xs ++ plain_code place ys
plain_append place [] ys = refl
plain_append place (Plain i ∷ xs) ys = ap (λ code. redirected place i ∷ code) (plain_append place xs ys)
plain_append place (Check ∷ xs) ys = plain_append place xs ys
plain_append place (Guard r ∷ xs) ys = plain_append place xs ys

none_of_guards : (place : ℕ → ℕ) (rs : List Reg) → plain_code place (map Guard rs ++ (Check ∷ [])) ≡ []
none_of_guards place [] = refl
none_of_guards place (r ∷ rs) = none_of_guards place rs

none_of_check : (place : ℕ → ℕ) (wanted : Bool) → plain_code place (check_if wanted) ≡ []
none_of_check place true = refl
none_of_check place false = refl

none_of_barrier : (place : ℕ → ℕ) (wanted : Bool) (rs : List Reg) → plain_code place (barrier wanted rs) ≡ []
none_of_barrier place wanted [] = none_of_check place wanted
none_of_barrier place wanted (r ∷ rs) = none_of_guards place rs

redirected_twice : (place other : ℕ → ℕ) (i : Instr) → redirected place (redirected other i) ≡ redirected (λ l. place (other l)) i
redirected_twice place other (instr.Cas entry l) = refl
redirected_twice place other _ = refl

-- of a block its instruction is left, with its jump taken elsewhere twice
one_of_block : (place other : ℕ → ℕ) (op : Op) (m : Marked) → plain_code place (block other op m) ≡ redirected (λ l. place (other l)) m.instr ∷ []
one_of_block place other op m =
    plain_append place (barrier m.before (to_guard op m.instr)) (Plain (redirected other m.instr) ∷ check_if m.after)
    ∙ (ap (λ code. code ++ plain_code place (Plain (redirected other m.instr) ∷ check_if m.after)) (none_of_barrier place m.before (to_guard op m.instr))
    ∙ (ap (λ code. redirected place (redirected other m.instr) ∷ code) (none_of_check place m.after)
    ∙ ap (λ j. j ∷ []) (redirected_twice place other m.instr)))

abbrev pub instrs_of : List Marked → List Instr
instrs_of marked = map (λ m. m.instr) marked

-- and of blocks their instructions
pub plain_of_blocks : (place other : ℕ → ℕ) (op : Op) (marked : List Marked) → plain_code place (flat_map (block other op) marked) ≡ map (redirected (λ l. place (other l))) (instrs_of marked)
plain_of_blocks place other op [] = refl
plain_of_blocks place other op (m ∷ marked) =
    plain_append place (block other op m) (flat_map (block other op) marked)
    ∙ (ap (λ one. one ++ plain_code place (flat_map (block other op) marked)) (one_of_block place other op m)
    ∙ ap (λ rest. redirected (λ l. place (other l)) m.instr ∷ rest) (plain_of_blocks place other op marked))

-- ---- where jumps lead

count_is : (place : ℕ → ℕ) (code : List TargetInstr) → plain_count code ≡ length (plain_code place code)
count_is place [] = refl
count_is place (Plain i ∷ code) = let rest = count_is place code in omega (arith, rest)
count_is place (Check ∷ code) = count_is place code
count_is place (Guard r ∷ code) = count_is place code

-- a block begins after those before it in the method
pub block_place_is : (op : Op) (marked : List Marked) (at : ℕ) → block_place op marked at ≡ length (flat_map (block (block_place op marked) op) (take at marked))
block_place_is op marked at = length_flat_map_same (block (λ l. l) op) (block (block_place op marked) op) (same_length (λ l. l) (block_place op marked) op) (take at marked)

-- the first instruction of a block is of the instruction that the block is of
pub place_back : (op : Op) (marked : List Marked) (at : ℕ) → at ≤ length marked → source_place (laid_out op marked) (block_place op marked at) ≡ at
place_back op marked at le =
    let place = block_place op marked in
    let front = flat_map (block place op) (take at marked) in
    let before : take (place at) (laid_out op marked) ≡ front = ap (λ n. take n (laid_out op marked)) (block_place_is op marked at) ∙ flat_map_front (block place op) at marked in
    let count : plain_count front ≡ length (map (redirected (λ l. place l)) (instrs_of (take at marked))) = count_is (λ l. l) front ∙ ap length (plain_of_blocks (λ l. l) place op (take at marked)) in
    ap plain_count before ∙ (count ∙ (length-map (instrs_of (take at marked)) (redirected (λ l. place l)) ∙ (length-map (take at marked) (λ (m : Marked). m.instr) ∙ length-take-le at marked le)))

-- an instruction stays whose jump stays
redirected_same : (roots : List RootDecl) (count : ℕ) (place : ℕ → ℕ) → ((l : ℕ) → l < count → place l ≡ l) → (i : Instr) → has_wrong_range roots i count ≡ false → redirected place i ≡ i
redirected_same roots count place same (instr.Cas entry l) right = ap (instr.Cas entry) (same l (leb-false count l right))
redirected_same roots count place same (instr.Jump l) right = ap instr.Jump (same l (leb-false count l right))
redirected_same roots count place same (instr.IfEq a b l) right = ap (instr.IfEq a b) (same l (leb-false count l right))
redirected_same roots count place same (instr.IfLess a b l) right = ap (instr.IfLess a b) (same l (leb-false count l right))
redirected_same roots count place same (instr.IfMarked a l) right = ap (instr.IfMarked a) (same l (leb-false count l right))
redirected_same roots count place same _ right = refl

-- a method whose jumps all lead into it is what is left of it compiled
code_back : (roots : List RootDecl) (op : Op) (code : List Instr) (marked : List Marked) → instrs_of marked ≡ code → All (λ i. has_wrong_range roots i (length code) ≡ false) code → erased_code (laid_out op marked) ≡ code
code_back roots op code marked same right =
    let back = λ (l : ℕ). source_place (laid_out op marked) (block_place op marked l) in
    let long : length marked ≡ length code = sym (length-map marked (λ (m : Marked). m.instr)) ∙ ap length same in
    plain_of_blocks (source_place (laid_out op marked)) (block_place op marked) op marked
    ∙ (ap (map (redirected back)) same
    ∙ map_fixed (redirected back) code (λ k d lt. redirected_same roots (length code) back (λ l less. place_back op marked l (omega (arith, less, long))) (get_or code k d) (right k d lt)))

-- ---- texts in normal form

breaks_there : (text : Text) (op : Op) (i : Instr) (number : ℕ) (wrapup : Bool) (at : ℕ) → slice_get text.ops number ≡ Some op → slice_get (code_of op wrapup) at ≡ Some i
    → BreaksRule N13 text op wrapup at i → Breaks text (record { rule = N13; op = number; wrapup = wrapup; at = at })
breaks_there text op i number wrapup at is stands breaks = rw (is, stands) breaks

jumps_inside : (text : Text) → IsNormal text → (number : ℕ) (op : Op) (wrapup : Bool) → slice_get text.ops number ≡ Some op
    → All (λ i. has_wrong_range text.roots i (length (code_of op wrapup)) ≡ false) (code_of op wrapup)
jumps_inside text normal number op wrapup is = λ at d lt.
    let code = code_of op wrapup in
    let i = get_or code at d in
    elim (cases_Bool (has_wrong_range text.roots i (length code))) [
      | inl wrong ↦ absurd (normal (record { rule = N13; op = number; wrapup = wrapup; at = at }) (breaks_there text op i number wrapup at is (slice_get-get_or code at d lt) wrong))
      | inr right ↦ right
    ]

op_back : (marks : List Instr → List Marked) → ((code : List Instr) → instrs_of (marks code) ≡ code) → (text : Text) → IsNormal text → (number : ℕ) (op : Op) → slice_get text.ops number ≡ Some op → erased_op (scheme_op marks op) ≡ op
op_back marks same text normal number op is = with_methods op (erased_code (laid_out op (marks op.generator))) (erased_code (laid_out op (marks op.wrapup)))
    (code_back text.roots op op.generator (marks op.generator) (same op.generator) (jumps_inside text normal number op false is))
    (code_back text.roots op op.wrapup (marks op.wrapup) (same op.wrapup) (jumps_inside text normal number op true is))
  where
    with_methods : (op : Op) (generator wrapup : List Instr) → generator ≡ op.generator → wrapup ≡ op.wrapup → record { name = op.name; args = op.args; generator = generator; wrapup = wrapup } ≡ op
    with_methods op generator wrapup one two = ap (λ code. record op { generator = code; wrapup = wrapup }) one ∙ ap (λ code. record op { wrapup = code }) two

-- what is made of a text erases to it
pub scheme_erases : (marks : List Instr → List Marked) → ((code : List Instr) → instrs_of (marks code) ≡ code) → (text : Text) → IsNormal text → ErasesTo (scheme marks text) text
scheme_erases marks same text normal =
    ap (λ ops. record text { ops = ops }) (map_back (scheme_op marks) erased_op text.ops (λ k d lt. op_back marks same text normal k (get_or text.ops k d) (slice_get-get_or text.ops k d lt)))
