-- Blocks, and parts of an operation, stand where they start.
use Rattle.std.proofs.Common.{◌≡◌, ℕ, zero, suc, ◌+◌, ◌<◌, Bool, List, [], ◌∷◌, ◌++◌, length, map, Option, Some, None, refl, sym, ◌∙◌, ap, subst, arith}
use Rattle.std.specs.Prelude.{slice_get}
use Rattle.std.proofs.lemmas.List.{length-append}
use Rattle.target_code.specs.declared.target.TargetInstr.{TargetInstr}
use Rattle.target_code.specs.declared.target.TargetOp.{TargetOp}
use Rattle.target_code.specs.declared.target.Target.{Target}
use Rattle.caller_parts.specs.Spared.{none_spared, kept_by}
use Rattle.c_language.specs.declared.lines.Operand.TheVariants.{Local}
use Rattle.c_language.specs.declared.lines.Value.TheVariants as values
use Rattle.c_language.specs.declared.lines.Line.{Line}
use Rattle.c_language.specs.declared.lines.Line.TheVariants as lines
use Rattle.c_runtime.specs.KindLines.{HasLines}
use Rattle.c_emission.specs.Blocks.{clear_lines, clear_size, copy_lines}
use Rattle.c_emission.specs.Layout.{Method, all_lines, sum_first, start_of, start, block_at, block_size, blocks_from, method_lines, method_sizes, method_size}
use Rattle.c_emission.specs.Operations.{seen_lines, first_lines, warned_lines, warned_size, wrap_up_lines, wrap_up_size, generator_line, generator_warned, wrap_up_line, restart_line, wrap_up_first, wrap_up_warned, generator, wrap_up, generator_part, wrap_up_part, operation_lines}
use Rattle.emission_laws.specs.Layouts.{BlocksStand, OperationStands, OperationsStand}
use Rattle.emission_laws.proofs.Sizes.{clear_length, copy_length, block_length}

-- ---- parts of lines

lines_get : (before rest : List Line) (i : ℕ) → slice_get (before ++ rest) (length before + i) ≡ slice_get rest i
lines_get [] rest i = ap (slice_get rest) (omega arith)
lines_get (x ∷ before) rest i = ap (slice_get (x ∷ (before ++ rest))) (let one : suc (length before) + i ≡ suc (length before + i) = omega arith in one) ∙ lines_get before rest i

first_get : (first rest : List Line) (i : ℕ) → i < length first → slice_get (first ++ rest) i ≡ slice_get first i
first_get [] rest i lt = absurd (omega (arith, lt))
first_get (x ∷ first) rest zero lt = refl
first_get (x ∷ first) rest (suc i) lt = first_get first rest i (omega (arith, lt))

-- a first part stands where the whole does
pub lines_within : (code : List Line) (base : ℕ) (first rest : List Line) → HasLines code base (first ++ rest) → HasLines code base first
lines_within code base first rest has i lt = has i (let all = length-append first rest in omega (arith, all, lt)) ∙ first_get first rest i lt

-- and the rest behind it
pub lines_past : (code : List Line) (base next : ℕ) (first rest : List Line) → base + length first ≡ next → HasLines code base (first ++ rest) → HasLines code next rest
lines_past code base next first rest is has i lt =
    ap (slice_get code) (let same : next + i ≡ base + (length first + i) = omega (arith, is) in same)
    ∙ (has (length first + i) (let all = length-append first rest in omega (arith, all, lt)) ∙ lines_get first rest i)

pub lines_at : (code : List Line) (base next : ℕ) (block : List Line) → base ≡ next → HasLines code base block → HasLines code next block
lines_at code base next block is has = subst (λ (b : ℕ). HasLines code b block) is has

lines_whole : (code : List Line) → HasLines code 0 code
lines_whole code i lt = ap (slice_get code) (let same : 0 + i ≡ i = omega arith in same)

-- ---- blocks

some_block : (a b : List Line) → Some a ≡ Some b → a ≡ b
some_block a b e = cc

stands : (code : List Line) (base : ℕ) (blocks : List (List Line)) (at : ℕ) (block : List Line) → HasLines code base (all_lines blocks) → slice_get blocks at ≡ Some block
    → HasLines code (base + sum_first (map length blocks) at) block
stands code base [] at block has is = absurd (let z : None ≡ Some block = is in let no : ⊥ = cc in no)
stands code base (b ∷ blocks) zero block has is =
    subst (λ (x : List Line). HasLines code (base + 0) x) (some_block b block is) (lines_at code base (base + 0) b (omega arith) (lines_within code base b (all_lines blocks) has))
stands code base (b ∷ blocks) (suc at) block has is =
    lines_at code (base + length b + sum_first (map length blocks) at) (base + (length b + sum_first (map length blocks) at)) block (omega arith)
    (stands code (base + length b) blocks at block (lines_past code base (base + length b) b (all_lines blocks) refl has) is)

follows : (blocks : List (List Line)) (at : ℕ) (block : List Line) → slice_get blocks at ≡ Some block → sum_first (map length blocks) (suc at) ≡ sum_first (map length blocks) at + length block
follows [] at block is = absurd (let z : None ≡ Some block = is in let no : ⊥ = cc in no)
follows (b ∷ []) zero block is = ap (λ (x : List Line). length x + 0) (some_block b block is) ∙ omega arith
follows (b ∷ c ∷ blocks) zero block is = ap (λ (x : List Line). length x + 0) (some_block b block is) ∙ omega arith
follows (b ∷ blocks) (suc at) block is = (let more = follows blocks at block is in omega (arith, more))

-- ---- methods

sizes_are : (method : Method) (n : ℕ) (code : List TargetInstr) → map length (blocks_from method n code) ≡ method_sizes method.kinds method.fields code
sizes_are method n [] = refl
sizes_are method n (i ∷ code) = ap (λ (k : ℕ). k ∷ map length (blocks_from method (n + 1) code)) (block_length method n i)
    ∙ ap (λ (ks : List ℕ). block_size method.kinds method.fields i ∷ ks) (sizes_are method (n + 1) code)

block_there : (method : Method) (n : ℕ) (code : List TargetInstr) (at : ℕ) (i : TargetInstr) → slice_get code at ≡ Some i → slice_get (blocks_from method n code) at ≡ Some (block_at method (n + at) i)
block_there method n [] at i is = absurd (let z : None ≡ Some i = is in let no : ⊥ = cc in no)
block_there method n (j ∷ code) zero i is = ap (λ (k : ℕ). Some (block_at method k j)) (let same : n ≡ n + 0 = omega arith in same) ∙ ap (λ (o : Option TargetInstr). blocked o) is where
  blocked : Option TargetInstr → Option (List Line)
  blocked None = None
  blocked (Some x) = Some (block_at method (n + 0) x)
block_there method n (j ∷ code) (suc at) i is =
    block_there method (n + 1) code at i is ∙ ap (λ (k : ℕ). Some (block_at method k i)) (let same : n + 1 + at ≡ n + suc at = omega arith in same)

method_stands : (code : List Line) (method : Method) (at : ℕ) (i : TargetInstr) → HasLines code method.first (method_lines method) → slice_get method.code at ≡ Some i
    → HasLines code (start method at) (block_at method at i)
method_stands code method at i has is =
    lines_at code (method.first + sum_first (map length (blocks_from method 0 method.code)) at) (start method at) (block_at method at i)
    (ap (λ (ks : List ℕ). method.first + sum_first ks at) (sizes_are method 0 method.code))
    (stands code method.first (blocks_from method 0 method.code) at (block_at method at i) has
    (block_there method 0 method.code at i is ∙ ap (λ (k : ℕ). Some (block_at method k i)) (let same : 0 + at ≡ at = omega arith in same)))

start_next : (method : Method) (at : ℕ) (i : TargetInstr) → slice_get method.code at ≡ Some i → start method (at + 1) ≡ start method at + length (block_at method at i)
start_next method at i is =
    let next = follows (blocks_from method 0 method.code) at (block_at method at i) (block_there method 0 method.code at i is ∙ ap (λ (k : ℕ). Some (block_at method k i)) (let same : 0 + at ≡ at = omega arith in same)) in
    ap (λ (k : ℕ). method.first + sum_first (method_sizes method.kinds method.fields method.code) k) (let one : at + 1 ≡ suc at = omega arith in one)
    ∙ (ap (λ (ks : List ℕ). method.first + sum_first ks (suc at)) (sym (sizes_are method 0 method.code))
    ∙ (ap (λ (k : ℕ). method.first + k) next
    ∙ ((let same : method.first + (sum_first (map length (blocks_from method 0 method.code)) at + length (block_at method at i)) ≡ method.first + sum_first (map length (blocks_from method 0 method.code)) at + length (block_at method at i) = omega arith in same)
    ∙ ap (λ (ks : List ℕ). method.first + sum_first ks at + length (block_at method at i)) (sizes_are method 0 method.code))))

pub blocks_stand : BlocksStand
blocks_stand = record {
  stand = λ before blocks after at block is.
      stands (before ++ (all_lines blocks ++ after)) (length before) blocks at block
      (lines_within (before ++ (all_lines blocks ++ after)) (length before) (all_lines blocks) after
      (lines_past (before ++ (all_lines blocks ++ after)) 0 (length before) before (all_lines blocks ++ after) (omega arith) (lines_whole (before ++ (all_lines blocks ++ after))))) is;
  next = λ base blocks at block is. (let more = follows blocks at block is in ap (λ (k : ℕ). start_of base (map length blocks) k) (let one : at + 1 ≡ suc at = omega arith in one) ∙ omega (arith, more));
  methods = method_stands;
  sizes = start_next;
}

-- ---- operations

-- a method has as many lines as its blocks
all_length : (blocks : List (List Line)) → length (all_lines blocks) ≡ sum_first (map length blocks) (length blocks)
all_length [] = refl
all_length (b ∷ blocks) = length-append b (all_lines blocks) ∙ ap (λ (n : ℕ). length b + n) (all_length blocks)

blocks_length : (method : Method) (n : ℕ) (code : List TargetInstr) → length (blocks_from method n code) ≡ length code
blocks_length method n [] = refl
blocks_length method n (i ∷ code) = ap suc (blocks_length method (n + 1) code)

method_length : (method : Method) → length (method_lines method) ≡ method_size method
method_length method =
    all_length (blocks_from method 0 method.code)
    ∙ (ap (λ (ks : List ℕ). sum_first ks (length (blocks_from method 0 method.code))) (sizes_are method 0 method.code)
    ∙ ap (sum_first (method_sizes method.kinds method.fields method.code)) (blocks_length method 0 method.code))

warned_length : (base : ℕ) (spared : List Bool) (again : ℕ) → length (warned_lines base spared again) ≡ warned_size spared
warned_length base spared again =
    (let more = length-append (clear_lines spared (base + 1) 0 8) (lines.Goto again ∷ []) in let is = clear_length spared (base + 1) 0 8 in omega (arith, more, is))

wrap_up_length : (base : ℕ) (spared : List Bool) → length (wrap_up_lines base spared) ≡ wrap_up_size spared
wrap_up_length base spared =
    (let a = length-append (copy_lines 33 0 16) (clear_lines spared (base + 17) 0 8 ++ (seen_lines ++ copy_lines 0 33 16)) in
    let b = length-append (clear_lines spared (base + 17) 0 8) (seen_lines ++ copy_lines 0 33 16) in
    let c = length-append seen_lines (copy_lines 0 33 16) in
    let d = copy_length 33 0 16 in
    let e = copy_length 0 33 16 in
    let f = clear_length spared (base + 17) 0 8 in
    omega (arith, a, b, c, d, e, f))

-- the parts of a wrap-up's start
clear_stands : (code : List Line) (base : ℕ) (spared : List Bool) → HasLines code base (wrap_up_lines base spared)
    → HasLines code (base + 17) (clear_lines spared (base + 17) 0 8 ++ (seen_lines ++ copy_lines 0 33 16))
clear_stands code base spared has =
    lines_past code (base + 1) (base + 17) (copy_lines 33 0 16) (clear_lines spared (base + 17) 0 8 ++ (seen_lines ++ copy_lines 0 33 16)) (let many = copy_length 33 0 16 in omega (arith, many))
    (lines_past code base (base + 1) (lines.Let 7 (values.Is (Local 32)) ∷ []) (copy_lines 33 0 16 ++ (clear_lines spared (base + 17) 0 8 ++ (seen_lines ++ copy_lines 0 33 16))) refl has)

pub seen_stands : (code : List Line) (base : ℕ) (spared : List Bool) → HasLines code base (wrap_up_lines base spared)
    → HasLines code (base + 17 + clear_size spared 0 8) (seen_lines ++ copy_lines 0 33 16)
seen_stands code base spared has =
    lines_past code (base + 17) (base + 17 + clear_size spared 0 8) (clear_lines spared (base + 17) 0 8) (seen_lines ++ copy_lines 0 33 16)
    (ap (λ (n : ℕ). base + 17 + n) (clear_length spared (base + 17) 0 8)) (clear_stands code base spared has)

operation_stands : (target : Target) (op : TargetOp) → OperationStands target op (operation_lines target op)
operation_stands target op = record {
  begins = lines_within code 0 (seen_lines ++ first_lines) (method_lines (generator target op) ++ warned_lines (generator_warned target op) none_spared generator_line) first_part;
  generates = lines_within code 17 (method_lines (generator target op)) (warned_lines (generator_warned target op) none_spared generator_line) blocks;
  warned = lines_past code 17 (generator_warned target op) (method_lines (generator target op)) (warned_lines (generator_warned target op) none_spared generator_line)
      (ap (λ (n : ℕ). 17 + n) (method_length (generator target op))) blocks;
  ends = start;
  seen = seen_stands code (wrap_up_line target op) (kept_by (Some op)) start;
  wraps_up = lines_within code (wrap_up_first target op) (method_lines (wrap_up target op)) (warned_lines (wrap_up_warned target op) (kept_by (Some op)) (restart_line target op)) late;
  warned_late = lines_past code (wrap_up_first target op) (wrap_up_warned target op) (method_lines (wrap_up target op)) (warned_lines (wrap_up_warned target op) (kept_by (Some op)) (restart_line target op))
      (ap (λ (n : ℕ). wrap_up_first target op + n) (method_length (wrap_up target op))) late;
} where
  code : List Line
  code = operation_lines target op

  first_part : HasLines code 0 (generator_part target op)
  first_part = lines_within code 0 (generator_part target op) (wrap_up_part target op) (lines_whole code)

  blocks : HasLines code 17 (method_lines (generator target op) ++ warned_lines (generator_warned target op) none_spared generator_line)
  blocks = lines_past code 0 17 (seen_lines ++ first_lines) (method_lines (generator target op) ++ warned_lines (generator_warned target op) none_spared generator_line) refl first_part

  long : 0 + length (generator_part target op) ≡ wrap_up_line target op
  long = (let more = length-append (method_lines (generator target op)) (warned_lines (generator_warned target op) none_spared generator_line) in
      let method = method_length (generator target op) in
      let warned = warned_length (generator_warned target op) none_spared generator_line in omega (arith, more, method, warned))

  second_part : HasLines code (wrap_up_line target op) (wrap_up_part target op)
  second_part = lines_past code 0 (wrap_up_line target op) (generator_part target op) (wrap_up_part target op) long (lines_whole code)

  start : HasLines code (wrap_up_line target op) (wrap_up_lines (wrap_up_line target op) (kept_by (Some op)))
  start = lines_within code (wrap_up_line target op) (wrap_up_lines (wrap_up_line target op) (kept_by (Some op)))
      (method_lines (wrap_up target op) ++ warned_lines (wrap_up_warned target op) (kept_by (Some op)) (restart_line target op)) second_part

  late : HasLines code (wrap_up_first target op) (method_lines (wrap_up target op) ++ warned_lines (wrap_up_warned target op) (kept_by (Some op)) (restart_line target op))
  late = lines_past code (wrap_up_line target op) (wrap_up_first target op) (wrap_up_lines (wrap_up_line target op) (kept_by (Some op)))
      (method_lines (wrap_up target op) ++ warned_lines (wrap_up_warned target op) (kept_by (Some op)) (restart_line target op))
      (ap (λ (n : ℕ). wrap_up_line target op + n) (wrap_up_length (wrap_up_line target op) (kept_by (Some op)))) second_part

pub operations_stand : OperationsStand
operations_stand target op = operation_stands target op
