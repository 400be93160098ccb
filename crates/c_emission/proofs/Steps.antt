-- What is left to add after one more step of a loop.
use Rattle.std.proofs.Common.{◌≡◌, ℕ, suc, ◌+◌, ◌-◌, ◌*◌, ◌<◌, ◌≤◌, ◌==◌, Bool, true, false, if◌then◌else◌, List, [], ◌∷◌, ◌++◌, length, map, refl, sym, ◌∙◌, ap, arith}
use Rattle.std.proofs.lemmas.List.{append_assoc, append-nil}
use Rattle.norm_lang.specs.declared.text.FieldDecl.{FieldDecl}
use Rattle.target_code.specs.declared.target.TargetInstr.{TargetInstr}
use Rattle.guard_words.specs.Guards.{is_spared}
use Rattle.caller_parts.specs.KindCounts.{field_count}
use Rattle.c_language.specs.declared.lines.Operand.TheVariants.{Number, Local}
use Rattle.c_language.specs.declared.lines.Value.TheVariants as values
use Rattle.c_language.specs.declared.lines.Place.TheVariants as places
use Rattle.c_language.specs.declared.lines.Line.{Line}
use Rattle.c_language.specs.declared.lines.Line.TheVariants as lines
use Rattle.c_emission.specs.Blocks.{clear_line, clear_lines, clear_size, copy_lines}
use Rattle.c_emission.specs.Ends.{field_lines}
use Rattle.c_emission.specs.Exchanges.{emptied_line, emptied_lines}
use Rattle.c_emission.specs.Layout.{sum_first}
use Rattle.c_emission.specs.Operations.{warned_lines, wrap_up_lines}

-- parts that are added one after another
pub two_added : (old mid new one two : List Line) → mid ≡ old ++ one → new ≡ mid ++ two → new ≡ old ++ (one ++ two)
two_added old mid new one two first second = second ∙ ap (λ (l : List Line). l ++ two) first ∙ append_assoc old one two

pub three_added : (old first second new one two three : List Line) → first ≡ old ++ one → second ≡ first ++ two → new ≡ second ++ three
    → new ≡ old ++ (one ++ (two ++ three))
three_added old first second new one two three a b c = two_added old first new one (two ++ three) a (two_added first second new two three b c)

pub four_added : (old first second third new one two three four : List Line) → first ≡ old ++ one → second ≡ first ++ two → third ≡ second ++ three
    → new ≡ third ++ four → new ≡ old ++ (one ++ (two ++ (three ++ four)))
four_added old first second third new one two three four a b c d =
    two_added old first new one (two ++ (three ++ four)) a (three_added first second third new two three four b c d)

-- one more register is cleared, unless it is spared
pub clear_goes : (spared : List Bool) (base next r : ℕ) (left_out : Bool) (old new whole : List Line) → r < 8 → left_out ≡ is_spared spared r
    → next ≡ (if left_out then base else base + 3) → new ≡ old ++ (if left_out then [] else clear_line base r)
    → old ++ clear_lines spared base r (8 - r) ≡ whole → new ++ clear_lines spared next (r + 1) (8 - (r + 1)) ≡ whole
clear_goes spared base next r true old new whole lt is line put same =
    let left : 8 - r ≡ suc (8 - (r + 1)) = omega (arith, lt) in
    ap (λ (l : List Line). l ++ clear_lines spared next (r + 1) (8 - (r + 1))) (put ∙ append-nil old)
    ∙ ap (λ (b : ℕ). old ++ clear_lines spared b (r + 1) (8 - (r + 1))) line
    ∙ sym (ap (λ (n : ℕ). old ++ clear_lines spared base r n) left ∙ rw (sym is) refl) ∙ same
clear_goes spared base next r false old new whole lt is line put same =
    let left : 8 - r ≡ suc (8 - (r + 1)) = omega (arith, lt) in
    ap (λ (l : List Line). l ++ clear_lines spared next (r + 1) (8 - (r + 1))) put
    ∙ append_assoc old (clear_line base r) (clear_lines spared next (r + 1) (8 - (r + 1)))
    ∙ ap (λ (b : ℕ). old ++ (clear_line base r ++ clear_lines spared b (r + 1) (8 - (r + 1)))) line
    ∙ sym (ap (λ (n : ℕ). old ++ clear_lines spared base r n) left ∙ rw (sym is) refl) ∙ same

-- the next line is near
pub line_near : (left_out : Bool) (first base next r : ℕ) → next ≡ (if left_out then base else base + 3) → base ≤ first + 3 * r → next ≤ first + 3 * (r + 1)
line_near true first base next r line near = omega (arith, line, near)
line_near false first base next r line near = omega (arith, line, near)

-- and so many lines more are to come
pub size_goes : (spared : List Bool) (r size more whole : ℕ) (left_out : Bool) → r < 8 → left_out ≡ is_spared spared r → more ≡ (if left_out then 0 else 3)
    → size + clear_size spared r (8 - r) ≡ whole → size + more + clear_size spared (r + 1) (8 - (r + 1)) ≡ whole
size_goes spared r size more whole true lt is more_is same =
    let left : 8 - r ≡ suc (8 - (r + 1)) = omega (arith, lt) in
    let here : clear_size spared r (8 - r) ≡ clear_size spared (r + 1) (8 - (r + 1)) = ap (clear_size spared r) left ∙ rw (sym is) refl in
    omega (arith, more_is, same, here)
size_goes spared r size more whole false lt is more_is same =
    let left : 8 - r ≡ suc (8 - (r + 1)) = omega (arith, lt) in
    let here : clear_size spared r (8 - r) ≡ 3 + clear_size spared (r + 1) (8 - (r + 1)) = ap (clear_size spared r) left ∙ rw (sym is) refl in
    omega (arith, more_is, same, here)

-- where a loop over instructions has come to
pub line_goes : (f : TargetInstr → ℕ) (rest left : List TargetInstr) (instr : TargetInstr) (line next place at whole : ℕ) → place < at → rest ≡ instr ∷ left
    → next ≡ line + f instr → line + sum_first (map f rest) (at - place) ≡ whole → next + sum_first (map f left) (at - (place + 1)) ≡ whole
line_goes f rest left instr line next place at whole lt is more same =
    let count : at - place ≡ suc (at - (place + 1)) = omega (arith, lt) in
    let here : sum_first (map f rest) (at - place) ≡ f instr + sum_first (map f left) (at - (place + 1)) =
    ap (λ (r : List TargetInstr). sum_first (map f r) (at - place)) is ∙ ap (sum_first (f instr ∷ map f left)) count in
    omega (arith, more, here, same)

pub none_first : (ns : List ℕ) → sum_first ns 0 ≡ 0
none_first [] = refl
none_first (n ∷ ns) = refl

-- no more fields are of a kind than there are
pub few_of_kind : (fields : List FieldDecl) (kind : ℕ) → field_count fields kind ≤ length fields
few_of_kind [] kind = omega arith
few_of_kind (field ∷ fields) kind = by (field.owner == kind) refl (few_of_kind fields kind) where
  by : (b : Bool) → (field.owner == kind) ≡ b → field_count fields kind ≤ length fields → field_count (field ∷ fields) kind ≤ length (field ∷ fields)
  by true is rest = rw is (omega (arith, rest))
  by false is rest = rw is (omega (arith, rest))

pub field_goes : (kind g n : ℕ) (old new whole : List Line) → g < n → new ≡ old ++ lines.Store (places.Field kind (Local 30) g) (Number 0) ∷ []
    → old ++ field_lines kind g (n - g) ≡ whole → new ++ field_lines kind (g + 1) (n - (g + 1)) ≡ whole
field_goes kind g n old new whole lt put same =
    let left : n - g ≡ suc (n - (g + 1)) = omega (arith, lt) in
    ap (λ (l : List Line). l ++ field_lines kind (g + 1) (n - (g + 1))) put
    ∙ append_assoc old (lines.Store (places.Field kind (Local 30) g) (Number 0) ∷ []) (field_lines kind (g + 1) (n - (g + 1)))
    ∙ sym (ap (λ (k : ℕ). old ++ field_lines kind g k) left) ∙ same

pub fields_begin : (kind n : ℕ) (old : List Line) → old ++ field_lines kind 0 (n - 0) ≡ old ++ field_lines kind 0 n
fields_begin kind n old = let all : n - 0 ≡ n = omega arith in ap (λ (k : ℕ). old ++ field_lines kind 0 k) all

pub fields_end : (kind g n : ℕ) (old whole : List Line) → n ≤ g → old ++ field_lines kind g (n - g) ≡ whole → old ≡ whole
fields_end kind g n old whole le same =
    let none : n - g ≡ 0 = omega (arith, le) in
    sym (ap (λ (k : ℕ). old ++ field_lines kind g k) none ∙ append-nil old) ∙ same

pub emptied_goes : (base k n : ℕ) (old new whole : List Line) → k < n → new ≡ old ++ emptied_line (base + 3 * k) k
    → old ++ emptied_lines (base + 3 * k) k (n - k) ≡ whole → new ++ emptied_lines (base + 3 * (k + 1)) (k + 1) (n - (k + 1)) ≡ whole
emptied_goes base k n old new whole lt put same =
    let left : n - k ≡ suc (n - (k + 1)) = omega (arith, lt) in
    let next : base + 3 * (k + 1) ≡ base + 3 * k + 3 = omega arith in
    ap (λ (b : ℕ). new ++ emptied_lines b (k + 1) (n - (k + 1))) next
    ∙ ap (λ (l : List Line). l ++ emptied_lines (base + 3 * k + 3) (k + 1) (n - (k + 1))) put
    ∙ append_assoc old (emptied_line (base + 3 * k) k) (emptied_lines (base + 3 * k + 3) (k + 1) (n - (k + 1)))
    ∙ sym (ap (λ (m : ℕ). old ++ emptied_lines (base + 3 * k) k m) left) ∙ same

pub emptied_begin : (base n : ℕ) (old : List Line) → old ++ emptied_lines (base + 3 * 0) 0 (n - 0) ≡ old ++ emptied_lines base 0 n
emptied_begin base n old =
    let all : n - 0 ≡ n = omega arith in
    let first : base + 3 * 0 ≡ base = omega arith in
    ap (λ (k : ℕ). old ++ emptied_lines (base + 3 * 0) 0 k) all ∙ ap (λ (b : ℕ). old ++ emptied_lines b 0 n) first

pub emptied_end : (base k n : ℕ) (old whole : List Line) → n ≤ k → old ++ emptied_lines base k (n - k) ≡ whole → old ≡ whole
emptied_end base k n old whole le same =
    let none : n - k ≡ 0 = omega (arith, le) in
    sym (ap (λ (m : ℕ). old ++ emptied_lines base k m) none ∙ append-nil old) ∙ same

pub copy_goes : (to from k n : ℕ) (old new whole : List Line) → k < n → new ≡ old ++ lines.Let (to + k) (values.Is (Local (from + k))) ∷ []
    → old ++ copy_lines (to + k) (from + k) (n - k) ≡ whole → new ++ copy_lines (to + (k + 1)) (from + (k + 1)) (n - (k + 1)) ≡ whole
copy_goes to from k n old new whole lt put same =
    let left : n - k ≡ suc (n - (k + 1)) = omega (arith, lt) in
    let next : to + (k + 1) ≡ to + k + 1 = omega arith in
    let other : from + (k + 1) ≡ from + k + 1 = omega arith in
    ap (λ (b : ℕ). new ++ copy_lines b (from + (k + 1)) (n - (k + 1))) next
    ∙ ap (λ (b : ℕ). new ++ copy_lines (to + k + 1) b (n - (k + 1))) other
    ∙ ap (λ (l : List Line). l ++ copy_lines (to + k + 1) (from + k + 1) (n - (k + 1))) put
    ∙ append_assoc old (lines.Let (to + k) (values.Is (Local (from + k))) ∷ []) (copy_lines (to + k + 1) (from + k + 1) (n - (k + 1)))
    ∙ sym (ap (λ (m : ℕ). old ++ copy_lines (to + k) (from + k) m) left) ∙ same

pub copy_begin : (to from n : ℕ) (old : List Line) → old ++ copy_lines (to + 0) (from + 0) (n - 0) ≡ old ++ copy_lines to from n
copy_begin to from n old =
    let all : n - 0 ≡ n = omega arith in
    let one : to + 0 ≡ to = omega arith in
    let two : from + 0 ≡ from = omega arith in
    ap (λ (k : ℕ). old ++ copy_lines (to + 0) (from + 0) k) all ∙ ap (λ (b : ℕ). old ++ copy_lines b (from + 0) n) one ∙ ap (λ (b : ℕ). old ++ copy_lines to b n) two

pub copy_end : (to from k n : ℕ) (old whole : List Line) → n ≤ k → old ++ copy_lines to from (n - k) ≡ whole → old ≡ whole
copy_end to from k n old whole le same =
    let none : n - k ≡ 0 = omega (arith, le) in
    sym (ap (λ (m : ℕ). old ++ copy_lines to from m) none ∙ append-nil old) ∙ same

pub three_more : (left_out : Bool) (more size r : ℕ) → more ≡ (if left_out then 0 else 3) → size ≤ 3 * r → size + more ≤ 3 * (r + 1)
three_more true more size r is few = omega (arith, is, few)
three_more false more size r is few = omega (arith, is, few)

-- parts at lines, and with kept registers, that are what they are
pub wrap_up_same : (base line : ℕ) (kept by : List Bool) (old new : List Line) → base ≡ line → kept ≡ by → new ≡ old ++ wrap_up_lines base kept
    → new ≡ old ++ wrap_up_lines line by
wrap_up_same base line kept by old new at same put =
    put ∙ ap (λ (l : ℕ). old ++ wrap_up_lines l kept) at ∙ ap (λ (k : List Bool). old ++ wrap_up_lines line k) same

pub warned_same : (base line to again : ℕ) (kept by : List Bool) (old new : List Line) → base ≡ line → to ≡ again → kept ≡ by
    → new ≡ old ++ warned_lines base kept to → new ≡ old ++ warned_lines line by again
warned_same base line to again kept by old new at goes same put =
    put ∙ ap (λ (l : ℕ). old ++ warned_lines l kept to) at ∙ ap (λ (t : ℕ). old ++ warned_lines line kept t) goes
    ∙ ap (λ (k : List Bool). old ++ warned_lines line k again) same
