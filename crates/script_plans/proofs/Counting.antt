-- The first kind with more initial nodes than slots.
use Rattle.std.proofs.Common.{◌≡◌, ℕ, zero, suc, ◌+◌, ◌-◌, ◌≤◌, ◌<◌, Bool, true, false, List, length, Option, Some, None, refl, sym, ap, ◌∙◌, arith}
use Rattle.std.proofs.lemmas.Bool.Decides.{nat_tests}
use Rattle.std.specs.Prelude.{nat_le, slice_index, option_map, if◌then◌else◌}
use Rattle.std.specs.Option.{option_or}
use Rattle.oa_words.specs.Words.{Sizes}
use Rattle.caller_parts.specs.Settings.{have_slots}
use Rattle.script_plans.specs.declared.fault.ShapeFault.{ShapeFault}
use Rattle.script_plans.specs.Shapes.{first_crowded, nodes_fault}

plus_one : (n : ℕ) → n + 1 ≡ suc n
plus_one n = omega arith

-- ---- the first kind with more initial nodes than slots

abbrev crowded_at : List ℕ → List ℕ → ℕ → Option ℕ
crowded_at slots nodes t = if nat_le (slice_index nodes t) (slice_index slots t) then None else Some t

-- none so far, and none at this one
pub crowded_more : (slots nodes : List ℕ) (kind : ℕ) → first_crowded slots nodes kind ≡ None → slice_index nodes kind ≤ slice_index slots kind → first_crowded slots nodes (kind + 1) ≡ None
crowded_more slots nodes kind none le =
    let test : nat_le (slice_index nodes kind) (slice_index slots kind) ≡ true = grind (arith, nat_tests) in
    ap (first_crowded slots nodes) (plus_one kind) ∙ ap (λ (o : Option ℕ). option_or o (crowded_at slots nodes kind)) none ∙ ap (λ (b : Bool). if b then None else Some kind) test

-- those after the first don't matter
stays : (slots nodes : List ℕ) (kind more found : ℕ) → first_crowded slots nodes kind ≡ Some found → first_crowded slots nodes (more + kind) ≡ Some found
stays slots nodes kind zero found is = let same : 0 + kind ≡ kind = omega arith in ap (first_crowded slots nodes) same ∙ is
stays slots nodes kind (suc more) found is =
    let same : suc more + kind ≡ suc (more + kind) = omega arith in
    ap (first_crowded slots nodes) same ∙ ap (λ (o : Option ℕ). option_or o (crowded_at slots nodes (more + kind))) (stays slots nodes kind more found is)

pub crowded_found : (slots nodes : List ℕ) (kind : ℕ) → first_crowded slots nodes kind ≡ None → slice_index slots kind < slice_index nodes kind → kind < length slots
    → Some kind ≡ first_crowded slots nodes (length slots)
crowded_found slots nodes kind none lt below =
    let test : nat_le (slice_index nodes kind) (slice_index slots kind) ≡ false = grind (arith, nat_tests) in
    let here : first_crowded slots nodes (suc kind) ≡ Some kind = ap (λ (o : Option ℕ). option_or o (crowded_at slots nodes kind)) none ∙ ap (λ (b : Bool). if b then None else Some kind) test in
    let more : ℕ = length slots - suc kind in
    let whole : length slots ≡ more + suc kind = omega (arith, below) in
    sym (ap (first_crowded slots nodes) whole ∙ stays slots nodes (suc kind) more kind here)

-- ---- none is crowded

both : {A : Type 0} (one other : Option A) → option_or one other ≡ None → (one ≡ None) × (other ≡ None)
both None other none = (refl, none)
both (Some x) other none = cc

roomy : (t : ℕ) (b : Bool) → (if b then None else Some t) ≡ None → b ≡ true
roomy t true none = refl
roomy t false none = cc

roomy_to : (sizes : Sizes) (nodes : List ℕ) (t : ℕ) → first_crowded sizes.kinds nodes t ≡ None → have_slots sizes nodes t ≡ true
roomy_to sizes nodes zero none = refl
roomy_to sizes nodes (suc t) none =
    let parts = both (first_crowded sizes.kinds nodes t) (crowded_at sizes.kinds nodes t) none in
    rw (roomy_to sizes nodes t parts.0) (roomy t (nat_le (slice_index nodes t) (slice_index sizes.kinds t)) parts.1)

unmapped : (o : Option ℕ) (f : ℕ → ShapeFault) → option_map f o ≡ None → o ≡ None
unmapped None f none = refl
unmapped (Some x) f none = cc

-- then each has slots for its nodes
pub are_roomy : (sizes : Sizes) (nodes : List ℕ) → nodes_fault sizes.kinds nodes ≡ None → have_slots sizes nodes (length sizes.kinds) ≡ true
are_roomy sizes nodes none = roomy_to sizes nodes (length sizes.kinds) (unmapped (first_crowded sizes.kinds nodes (length sizes.kinds)) _ none)
