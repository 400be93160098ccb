-- What a document that can be run gives the laws: a setting within its limits.
use Rattle.std.proofs.Common.{◌≡◌, ℕ, zero, suc, ◌≤◌, ◌<◌, ◌^◌, Bool, true, false, ◌&&◌, List, [], ◌∷◌, length, Option, Some, None, refl, arith}
use Rattle.std.proofs.lemmas.Bool.Decides.{nat_tests}
use Rattle.std.specs.Prelude.{nat_le, slice_index}
use Rattle.std.specs.List.{list_all}
use Rattle.std.specs.Option.{option_or}
use Rattle.oa_words.specs.SlotKinds.{together}
use Rattle.oa_words.specs.Within.{AreKinds, AreSizes, is_count, are_slots}
use Rattle.oa_words.proofs.KindRanges.{part_within}
use Rattle.caller_parts.specs.Settings.{IsSetting, HaveSlots, are_phases}
use Rattle.caller_parts.proofs.KindCounts.{kinds_have_slots}
use Rattle.documents.specs.declared.document.Document.{Document}
use Rattle.script_plans.specs.declared.fault.ShapeFault.{ShapeFault}
use Rattle.oa_words.specs.declared.limits.TheConstants.{MOST_CALLERS, MOST_KINDS, MOST_FIELDS, MOST_CELLS}
use Rattle.script_plans.specs.declared.limits.TheConstants.{MOST_FUEL}
use Rattle.script_plans.specs.Shapes.{first_of, fault_unless, kind_slots, kind_nodes, sizes_of, setting_of, sizes_fault, nodes_fault, rest_fault, setting_fault, scripts_fault}
use Rattle.script_plans.specs.Plans.{IsRunnable}
use Rattle.script_plans.proofs.Counting.{are_roomy}
use Rattle.script_plans.proofs.Ready.{all_kinds}

both : (one other : Option ShapeFault) → option_or one other ≡ None → (one ≡ None) × (other ≡ None)
both None other none = (refl, none)
both (Some fault) other none = cc

-- no fault stands before the others, and none among them
passed : (number : ℕ) (test : Bool) (others : List (Option ShapeFault)) → first_of (fault_unless number test ∷ others) ≡ None → (test ≡ true) × (first_of others ≡ None)
passed number true others none = (refl, none)
passed number false others none = cc

both_true : (a b : Bool) → (a && b) ≡ true → (a ≡ true) × (b ≡ true)
both_true true b is = (refl, is)
both_true false b is = cc

at_most : (n m : ℕ) → nat_le n m ≡ true → n ≤ m
at_most n m is = grind (arith, nat_tests)

counted : (most n : ℕ) → is_count most n ≡ true → (1 ≤ n) × (n ≤ most)
counted most n is = let parts = both_true (nat_le 1 n) (nat_le n most) is in (at_most 1 n parts.0, at_most n most parts.1)

each_counted : (counts : List ℕ) → list_all (is_count 4096) counts ≡ true → (t : ℕ) → t < length counts → 1 ≤ slice_index counts t
each_counted [] all t lt = absurd (omega (arith, lt))
each_counted (count ∷ counts) all zero lt = (counted 4096 count (both_true (is_count 4096 count) (list_all (is_count 4096) counts) all).0).0
each_counted (count ∷ counts) all (suc t) lt = each_counted counts (both_true (is_count 4096 count) (list_all (is_count 4096) counts) all).1 t (omega (arith, lt))

module _ (document : Document) (runs : IsRunnable document) where
  abbrev kinds : ℕ
  kinds = length document.text.kinds

  whole : (setting_fault document ≡ None) × (first_of (scripts_fault document.text.ops document.scripts ∷ []) ≡ None)
  whole = both (setting_fault document) (first_of (scripts_fault document.text.ops document.scripts ∷ [])) runs.shape

  setting : (sizes_fault kinds (sizes_of document) ≡ None) × (first_of (nodes_fault (kind_slots document) (kind_nodes document.text.nodes) ∷ rest_fault document ∷ []) ≡ None)
  setting = both (sizes_fault kinds (sizes_of document)) (first_of (nodes_fault (kind_slots document) (kind_nodes document.text.nodes) ∷ rest_fault document ∷ [])) whole.0

  after_sizes : (nodes_fault (kind_slots document) (kind_nodes document.text.nodes) ≡ None) × (first_of (rest_fault document ∷ []) ≡ None)
  after_sizes = both (nodes_fault (kind_slots document) (kind_nodes document.text.nodes)) (first_of (rest_fault document ∷ [])) setting.1

  last : rest_fault document ≡ None
  last = (both (rest_fault document) None after_sizes.1).0

  abbrev after_fields : List (Option ShapeFault)
  after_fields = fault_unless 4 (is_count MOST_CELLS (sizes_of document).cells) ∷ []

  abbrev after_slots : List (Option ShapeFault)
  after_slots = fault_unless 3 (is_count MOST_FIELDS (sizes_of document).fields) ∷ after_fields

  abbrev after_callers : List (Option ShapeFault)
  after_callers = fault_unless 2 (is_count MOST_KINDS kinds && are_slots (sizes_of document)) ∷ after_slots

  callers : (is_count MOST_CALLERS (sizes_of document).callers ≡ true) × (first_of after_callers ≡ None)
  callers = passed 1 (is_count MOST_CALLERS (sizes_of document).callers) after_callers setting.0

  pub few_callers : (sizes_of document).callers ≤ MOST_CALLERS
  few_callers = (counted MOST_CALLERS (sizes_of document).callers callers.0).1

  slots : ((is_count MOST_KINDS kinds && are_slots (sizes_of document)) ≡ true) × (first_of after_slots ≡ None)
  slots = passed 2 (is_count MOST_KINDS kinds && are_slots (sizes_of document)) after_slots callers.1

  fields : (is_count MOST_FIELDS (sizes_of document).fields ≡ true) × (first_of after_fields ≡ None)
  fields = passed 3 (is_count MOST_FIELDS (sizes_of document).fields) after_fields slots.1

  -- one to four kinds
  pub few : (1 ≤ kinds) × (kinds ≤ 4)
  few = counted MOST_KINDS kinds (both_true (is_count MOST_KINDS kinds) (are_slots (sizes_of document)) slots.0).0

  pub kinds_are_all : length (kind_slots document) ≡ kinds
  kinds_are_all = all_kinds document few.1

  of_kinds : (list_all (is_count 4096) (kind_slots document) ≡ true) × (nat_le (together (kind_slots document)) 4096 ≡ true)
  of_kinds = both_true (list_all (is_count 4096) (kind_slots document)) (nat_le (together (kind_slots document)) 4096) (both_true (is_count MOST_KINDS kinds) (are_slots (sizes_of document)) slots.0).1

  kinds_are : AreKinds (sizes_of document)
  kinds_are =
      let all = kinds_are_all in
      let some = few.0 in
      let most = few.1 in
      record { some = omega (arith, all, some); few = omega (arith, all, most); each = each_counted (kind_slots document) of_kinds.0; whole = refl }

  -- the first kind has a slot
  some_slot : 1 ≤ together (kind_slots document)
  some_slot =
      let all = kinds_are_all in
      let some = few.0 in
      let first = each_counted (kind_slots document) of_kinds.0 0 (omega (arith, all, some)) in
      let part = part_within (kind_slots document) 0 in
      omega (arith, first, part)

  sizes : AreSizes (sizes_of document)
  sizes =
      let a = counted MOST_CALLERS (sizes_of document).callers callers.0 in
      let c = counted MOST_FIELDS (sizes_of document).fields fields.0 in
      let d = counted MOST_CELLS (sizes_of document).cells (passed 4 (is_count MOST_CELLS (sizes_of document).cells) [] fields.1).0 in
      let most = at_most (together (kind_slots document)) 4096 of_kinds.1 in
      record { callers = a.0; slots = some_slot; fields = c.0; cells = d.0; kinds = kinds_are; tops = omega (arith, most); room = omega arith }

  nodes : HaveSlots (sizes_of document) (kind_nodes document.text.nodes)
  nodes = kinds_have_slots (sizes_of document) (kind_nodes document.text.nodes) (are_roomy (sizes_of document) (kind_nodes document.text.nodes) after_sizes.0)

  phased : (are_phases document.first document.last ≡ true) × (first_of (fault_unless 7 (is_count MOST_FUEL document.fuel) ∷ []) ≡ None)
  phased = passed 6 (are_phases document.first document.last) (fault_unless 7 (is_count MOST_FUEL document.fuel) ∷ []) last

  first : (1 ≤ document.first) × ((nat_le document.first document.last && nat_le document.last (2 ^ 50)) ≡ true)
  first = let parts = both_true (nat_le 1 document.first) (nat_le document.first document.last && nat_le document.last (2 ^ 50)) phased.0 in (at_most 1 document.first parts.0, parts.1)

  later : (document.first ≤ document.last) × (document.last ≤ 2 ^ 50)
  later = let parts = both_true (nat_le document.first document.last) (nat_le document.last (2 ^ 50)) first.1 in (at_most document.first document.last parts.0, at_most document.last (2 ^ 50) parts.1)

  pub setting_is : IsSetting (setting_of document)
  setting_is = record { sizes = sizes; first = first.0; phases = later.0; last = (let most = later.1 in omega (arith, most)); nodes = nodes }

  -- each call may make a step
  pub fuel_is : 1 ≤ document.fuel
  fuel_is = (counted MOST_FUEL document.fuel (passed 7 (is_count MOST_FUEL document.fuel) [] phased.1).0).0
