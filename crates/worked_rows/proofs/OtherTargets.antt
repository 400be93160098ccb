-- The rows of targets that erase differently: what differs, and that nothing before does.
use Rattle.std.specs.Prelude.{◌≡◌, ℕ, zero, suc, Bool, true, false, List, [], ◌∷◌, Option, Some, None, slice_get, slice_index, refl, IsTrue}
use Rattle.std.proofs.Common.{inl, inr, ap, arith}
use Rattle.std.proofs.lemmas.Bool.Decides.{nat_tests}
use Rattle.norm_lang.specs.declared.text.FieldKind.{FieldKind}
use Rattle.norm_lang.specs.declared.text.FieldKind.TheVariants as holdings
use Rattle.norm_lang.specs.declared.text.Start.{Start}
use Rattle.norm_lang.specs.declared.text.Start.TheVariants as starts
use Rattle.norm_lang.specs.declared.text.FieldDecl.{FieldDecl}
use Rattle.norm_lang.specs.declared.text.RootDecl.{RootDecl}
use Rattle.norm_lang.specs.declared.text.NodeDecl.{NodeDecl}
use Rattle.norm_lang.specs.declared.text.Instr.{Instr}
use Rattle.norm_lang.specs.declared.text.Instr.TheVariants.{Set, IfEq}
use Rattle.norm_lang.specs.declared.text.Op.{Op}
use Rattle.norm_lang.specs.declared.text.Text.{Text}
use Rattle.target_code.specs.declared.target.Target.{Target}
use Rattle.target_code.specs.Erasing.{erased, ErasesTo, part_at, AreAlike}
use Rattle.target_code.specs.Barred.{flaw_before, erasing_flaw, DiffersAt}
use Rattle.worked_rows.specs.TargetRows.{original, compiled, other_field, other_root, other_node, more_operations, fewer_operations, other_name, other_args, other_generator, other_wrap_up, other_jump, two_differences, uses_and_differs, text_that_picks, IsOtherAt, ErasingRows}

-- What is seen of a part: a number that tells it.

abbrev kind_seen : FieldKind → ℕ
kind_seen holdings.Number = 0
kind_seen (holdings.Reference k) = 1

abbrev start_seen : Start → ℕ
start_seen (starts.Value v) = v
start_seen (starts.Node j) = j

abbrev first_start : List Start → ℕ
first_start [] = 0
first_start (start ∷ starts) = start_seen start

abbrev first_field : List FieldDecl → ℕ
first_field [] = 0
first_field (field ∷ fields) = kind_seen field.kind

abbrev first_root : List RootDecl → ℕ
first_root [] = 0
first_root (root ∷ roots) = start_seen root.start

abbrev first_node : List NodeDecl → ℕ
first_node [] = 0
first_node (node ∷ nodes) = first_start node.values

abbrev name_seen : Option Op → ℕ
name_seen None = 0
name_seen (Some op) = slice_index op.name 1

abbrev args_seen : Option Op → ℕ
args_seen None = 0
args_seen (Some op) = op.args

abbrev number_set : List Instr → ℕ
number_set (Set d n ∷ code) = n
number_set _ = 0

abbrev jump_made : Option Instr → ℕ
jump_made (Some (IfEq a b l)) = l
jump_made _ = 0

abbrev generator_seen : Option Op → ℕ
generator_seen None = 0
generator_seen (Some op) = number_set op.generator

abbrev wrap_up_seen : Option Op → ℕ
wrap_up_seen None = 0
wrap_up_seen (Some op) = number_set op.wrapup

abbrev jump_seen : Option Op → ℕ
jump_seen None = 0
jump_seen (Some op) = jump_made (slice_get op.generator 2)

impossible : false ≡ true → ⊥
impossible e = cc

-- nothing comes before the first generator
none_before_first : (op : ℕ) (inside : Bool) → IsTrue (flaw_before (erasing_flaw op inside) (erasing_flaw 0 false)) → ⊥
none_before_first op false before = let no : ⊥ = grind (arith, nat_tests) in no
none_before_first op true before = let no : ⊥ = grind (arith, nat_tests) in no

-- and no later operation before the second's methods
later_isnt_before : (op : ℕ) (inside there : Bool) → IsTrue (flaw_before (erasing_flaw (suc (suc op)) inside) (erasing_flaw 1 there)) → ⊥
later_isnt_before op inside there before = let no : ⊥ = grind (arith, nat_tests) in no

-- texts that declare different things differ at the first generator
apart : (target : Target) (text : Text) → ¬ AreAlike (erased target) text → IsOtherAt target text 0 false
apart target text other =
    inl (refl, inl (other, refl, refl), λ op inside before. absurd (none_before_first op inside before))

-- a method that is the same doesn't differ
same_part : (one other : Text) (op : ℕ) (inside : Bool) → AreAlike one other → part_at one op inside ≡ part_at other op inside → ¬ DiffersAt one other op inside
same_part one other op inside alike same (inl (unlike, first, generator)) = unlike alike
same_part one other op inside alike same (inr (also, unlike)) = unlike same

-- texts that declare the same differ at the first method that isn't the same
first_wrap_up : (target : Target) (text : Text) → AreAlike (erased target) text → part_at (erased target) 0 false ≡ part_at text 0 false
    → ¬ (part_at (erased target) 0 true ≡ part_at text 0 true) → IsOtherAt target text 0 true
first_wrap_up target text alike same other = inl (refl, inr (alike, other), none_earlier)
  where
    none_earlier : (op : ℕ) (inside : Bool) → IsTrue (flaw_before (erasing_flaw op inside) (erasing_flaw 0 true)) → ¬ DiffersAt (erased target) text op inside
    none_earlier zero false before = same_part (erased target) text 0 false alike same
    none_earlier zero true before = absurd (impossible before)
    none_earlier (suc op) inside before = let no : ⊥ = grind (arith, nat_tests) in absurd no

second_generator : (target : Target) (text : Text) → AreAlike (erased target) text → ((inside : Bool) → part_at (erased target) 0 inside ≡ part_at text 0 inside)
    → ¬ (part_at (erased target) 1 false ≡ part_at text 1 false) → IsOtherAt target text 1 false
second_generator target text alike first other = inl (refl, inr (alike, other), none_earlier)
  where
    none_earlier : (op : ℕ) (inside : Bool) → IsTrue (flaw_before (erasing_flaw op inside) (erasing_flaw 1 false)) → ¬ DiffersAt (erased target) text op inside
    none_earlier zero inside before = same_part (erased target) text 0 inside alike (first inside)
    none_earlier (suc zero) false before = absurd (impossible before)
    none_earlier (suc zero) true before = absurd (impossible before)
    none_earlier (suc (suc op)) inside before = absurd (later_isnt_before op inside false before)

second_wrap_up : (target : Target) (text : Text) → AreAlike (erased target) text → ((inside : Bool) → part_at (erased target) 0 inside ≡ part_at text 0 inside)
    → part_at (erased target) 1 false ≡ part_at text 1 false → ¬ (part_at (erased target) 1 true ≡ part_at text 1 true) → IsOtherAt target text 1 true
second_wrap_up target text alike first same other = inl (refl, inr (alike, other), none_earlier)
  where
    none_earlier : (op : ℕ) (inside : Bool) → IsTrue (flaw_before (erasing_flaw op inside) (erasing_flaw 1 true)) → ¬ DiffersAt (erased target) text op inside
    none_earlier zero inside before = same_part (erased target) text 0 inside alike (first inside)
    none_earlier (suc zero) false before = same_part (erased target) text 1 false alike same
    none_earlier (suc zero) true before = absurd (impossible before)
    none_earlier (suc (suc op)) inside before = absurd (later_isnt_before op inside true before)

nothing_differs : ErasesTo compiled original
nothing_differs = refl

field_differs : IsOtherAt other_field original 0 false
field_differs = apart other_field original (λ alike. let no : ⊥ = omega (arith, ap first_field alike.fields) in no)

root_differs : IsOtherAt other_root original 0 false
root_differs = apart other_root original (λ alike. let no : ⊥ = omega (arith, ap first_root alike.roots) in no)

node_differs : IsOtherAt other_node original 0 false
node_differs = apart other_node original (λ alike. let no : ⊥ = omega (arith, ap first_node alike.nodes) in no)

more_than_there_are : IsOtherAt more_operations original 0 false
more_than_there_are = apart more_operations original (λ alike. let no : ⊥ = omega (arith, alike.count) in no)

fewer_than_there_are : IsOtherAt fewer_operations original 0 false
fewer_than_there_are = apart fewer_operations original (λ alike. let no : ⊥ = omega (arith, alike.count) in no)

same_first : (inside : Bool) → part_at (erased compiled) 0 inside ≡ part_at original 0 inside
same_first false = refl
same_first true = refl

name_differs : IsOtherAt other_name original 1 false
name_differs =
    second_generator other_name original (record { kinds = refl; fields = refl; roots = refl; nodes = refl; count = refl }) same_first
    (λ same. let no : ⊥ = omega (arith, ap name_seen same) in no)

args_differ : IsOtherAt other_args original 1 false
args_differ =
    second_generator other_args original (record { kinds = refl; fields = refl; roots = refl; nodes = refl; count = refl }) same_first
    (λ same. let no : ⊥ = omega (arith, ap args_seen same) in no)

generator_differs : IsOtherAt other_generator original 1 false
generator_differs =
    second_generator other_generator original (record { kinds = refl; fields = refl; roots = refl; nodes = refl; count = refl }) same_first
    (λ same. let no : ⊥ = omega (arith, ap generator_seen same) in no)

wrap_up_differs : IsOtherAt other_wrap_up original 1 true
wrap_up_differs =
    second_wrap_up other_wrap_up original (record { kinds = refl; fields = refl; roots = refl; nodes = refl; count = refl }) same_first refl
    (λ same. let no : ⊥ = omega (arith, ap wrap_up_seen same) in no)

jump_differs : IsOtherAt other_jump original 1 false
jump_differs =
    second_generator other_jump original (record { kinds = refl; fields = refl; roots = refl; nodes = refl; count = refl }) same_first
    (λ same. let no : ⊥ = omega (arith, ap jump_seen same) in no)

first_of_two_told : IsOtherAt two_differences original 0 true
first_of_two_told =
    first_wrap_up two_differences original (record { kinds = refl; fields = refl; roots = refl; nodes = refl; count = refl }) refl
    (λ same. let no : ⊥ = omega (arith, ap wrap_up_seen same) in no)

same_picks : (inside : Bool) → part_at (erased uses_and_differs) 0 inside ≡ part_at text_that_picks 0 inside
same_picks false = refl
same_picks true = refl

told_before_flaws : IsOtherAt uses_and_differs text_that_picks 1 true
told_before_flaws =
    second_wrap_up uses_and_differs text_that_picks (record { kinds = refl; fields = refl; roots = refl; nodes = refl; count = refl }) same_picks refl
    (λ same. let no : ⊥ = omega (arith, ap wrap_up_seen same) in no)

pub erasing_rows : ErasingRows
erasing_rows = record {
  nothing_differs = nothing_differs;
  field_differs = field_differs;
  root_differs = root_differs;
  node_differs = node_differs;
  more_than_there_are = more_than_there_are;
  fewer_than_there_are = fewer_than_there_are;
  name_differs = name_differs;
  args_differ = args_differ;
  generator_differs = generator_differs;
  wrap_up_differs = wrap_up_differs;
  jump_differs = jump_differs;
  first_of_two_told = first_of_two_told;
  told_before_flaws = told_before_flaws;
}
