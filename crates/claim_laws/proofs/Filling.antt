-- From the start on: which slots were claimed. If each slot of a kind holds an initial node or was claimed, nodes and claims are at least its slots.
use Rattle.std.proofs.Common.{◌≡◌, ◌≢◌, inl, inr, ℕ, zero, suc, ◌+◌, ◌-◌, ◌≤◌, ◌<◌, Bool, true, false, List, [], ◌∷◌, length, map, replicate, Option, Some, None, refl, sym, ◌∙◌, ap, subst, arith, if◌then◌else◌}
use Rattle.std.specs.Prelude.{slice_get, slice_index, nat_lt, option_map}
use Rattle.std.proofs.lemmas.Bool.Decides.{nat_tests}
use Rattle.std.proofs.lemmas.List.{length-map}
use Rattle.std.proofs.lemmas.Option.{slice_get-map}
use Rattle.norm_lang.specs.declared.text.NodeDecl.{NodeDecl}
use Rattle.norm_lang.specs.KindFields.{fields_of}
use Rattle.norm_lang.specs.Limits.{are_starts, owners_of}
use Rattle.target_code.specs.declared.target.Target.{Target}
use Rattle.target_code.specs.TargetLimits.{IsTargetWithinLimits}
use Rattle.norm_lang.specs.declared.text.Text.{Text}
use Rattle.target_laws.specs.target_runs.Runnable.{MayBeWalked}
use Rattle.target_laws.proofs.target_runs.Limited.{parts}
use Rattle.target_laws.proofs.OneKind.{roots_are}
use Rattle.oa_words.specs.declared.packed.Kind.TheVariants as statuses
use Rattle.oa_words.specs.Words.{Word, Hazard, Status, FieldOf, Cell, IsSlot, in_row}
use Rattle.oa_words.specs.SlotKinds.{together, kind_in, sum_before, slots_of, first_of, range_of, kind_of, range_at}
use Rattle.oa_words.specs.Within.{AreKinds}
use Rattle.oa_words.proofs.KindRanges.{kind_small, in_range_is_of_kind, part_within}
use Rattle.oa_words.specs.Packed.{status_word}
use Rattle.oa_words.specs.Starts.{nodes_of, start_node, first_ready, start_kind, start_word, field_word}
use Rattle.oa_words.specs.Memories.{seen}
use Rattle.guard_words.specs.Guards.{guard_at, no_guards, has_slot}
use Rattle.chain_laws.specs.claim_order.Frontier.{IsOrdered, AreOrdered, Fits as StandingFits}
use Rattle.chain_laws.proofs.claim_order.Frontier.{start_open}
use Rattle.caller_parts.specs.Settings.{Setting, Fits, IsSetting}
use Rattle.caller_parts.specs.KindCounts.{node_counts}
use Rattle.caller_parts.specs.Operands.{cradle_count}
use Rattle.caller_steps.specs.Entries.{Entry, idle_entry}
use Rattle.caller_steps.specs.Lawful.{held_at}
use Rattle.core_runs.specs.Machine.{CoreState, Reachable, core_start, beginning_of, node_home, node_words}
use Rattle.core_runs.proofs.Reaching.{induct_reached}
use Rattle.core_runs.proofs.Starting.{start_is_seen}
use Rattle.core_runs.proofs.caller_laws.Methods.{setting_sane}
use Rattle.core_runs.proofs.caller_laws.Together.{methods}
use Rattle.core_runs.specs.core_sound.Standing.{standing_of}
use Rattle.core_runs.proofs.core_sound.Grouped.{NodesStand, nodes_stand, nodes_together, node_is, node_at, node_of_part}
use Rattle.core_runs.proofs.core_sound.StartSound.{named, suits, idle_at}
use Rattle.core_runs.proofs.core_sound.Reached.{states_are_sound}
use Rattle.claim_laws.specs.Untouched.{nodes_in, HeldNone, ValueAvoids, WordAvoids, EntryAvoids, IsUntouched}
use Rattle.claim_laws.proofs.FirstValues.{home_is_other, fields_avoid, roots_avoid}
use Rattle.claim_laws.proofs.Naming.{null, zero_avoids, first_avoid}
use Rattle.claim_laws.proofs.Counting.{covers}
use Rattle.claim_laws.proofs.Touching.{IsTouched, AllTouched, held_some}
use Rattle.claim_laws.proofs.Onward.{IsBefore}
use Rattle.claim_laws.proofs.Pooling.{Pool, IsPooled, event_pool}

-- ---- the start

none_there : (n k : ℕ) → slice_index (replicate n 0) k ≡ 0
none_there (suc n) (suc k) = none_there n k
none_there _ _ = refl

idle_avoids : (j c : ℕ) → 1 ≤ j → EntryAvoids j (idle_entry c)
idle_avoids j c some = record { registers = first_avoid j some []; started = first_avoid j some []; guards = guards; cradles = cradles; routine = tt } where
  guards : (r : ℕ) → guard_at no_guards r ≢ j
  guards (suc (suc (suc (suc (suc (suc (suc zero))))))) = null j some
  guards _ = null j some

  cradles : (k : ℕ) → slice_index (idle_entry c).cradles k ≢ j
  cradles k = subst (λ (n : ℕ). n ≢ j) (sym (none_there cradle_count k)) (null j some)

module _ {target : Target} {setting : Setting} (within : IsTargetWithinLimits target) (own : IsSetting setting) (fits : Fits target setting) where
  -- as many initial nodes as are told
  nodes_same : (k : ℕ) → nodes_of (beginning_of target setting) k ≡ nodes_in setting k
  nodes_same k = ap (λ (counts : List ℕ). slice_index counts k) (sym fits.nodes)

  few_kinds : length target.kinds ≤ 4
  few_kinds = let few = own.sizes.kinds.few in let same = fits.kinds in omega (arith, few, same)

  stand : NodesStand target
  stand = nodes_stand target few_kinds (parts target within).nodes

  -- a node of a number below the counts of all kinds
  node_there : (i : ℕ) → i < together (node_counts target) → (node : NodeDecl) × (slice_get target.nodes i ≡ Some node)
  node_there i lt = of target.nodes i (let all = nodes_together target stand in omega (arith, lt, all)) where
    of : (nodes : List NodeDecl) (i : ℕ) → i < length nodes → (node : NodeDecl) × (slice_get nodes i ≡ Some node)
    of [] i lt = absurd (let none : i < 0 = lt in let no : ⊥ = omega (arith, none) in no)
    of (node ∷ nodes) zero lt = (node, refl)
    of (node ∷ nodes) (suc i) lt = of nodes i (omega (arith, lt))

  -- the least slot of each kind that held none
  abbrev ready_from : ℕ → ℕ
  ready_from k = first_ready (range_of setting.sizes k) (nodes_in setting k)

  module _ (j : ℕ) (past : HeldNone setting j) (le : j ≤ setting.sizes.slots) where
    some : 1 ≤ j
    some = held_some setting j past

    -- no initial node stands there
    others : (i : ℕ) → i ≤ length (owners_of target.nodes) → node_home target setting.sizes i ≢ j
    others zero le same = omega (arith, some, same)
    others (suc i) le same = home_is_other setting.sizes (node_counts target) (suits within own fits).nodes i small known j there same where
      small : i < together (node_counts target)
      small = let all = nodes_together target stand in let count = length-map target.nodes (λ (node : NodeDecl). node.owner) in omega (arith, le, all, count)

      known : kind_in (node_counts target) (suc i) < length setting.sizes.kinds
      known =
          let node = node_there i small in
          let kind = (node_at target i node.0 stand node.1).kind in
          let lt = (node_is target i node.0 stand node.1).known in
          let same = fits.kinds in omega (arith, kind, lt, same)

      there : first_ready (range_at setting.sizes j) (slice_index (node_counts target) (kind_of setting.sizes j)) ≤ j
      there = let same = nodes_same (kind_of setting.sizes j) in omega (arith, past, same)

    slot_avoids : (i g : ℕ) → WordAvoids target setting.sizes j (FieldOf i g) (field_word (start_node setting.sizes (beginning_of target setting) i) g)
    slot_avoids zero g = null j some
    slot_avoids (suc i) g = of (nat_lt place (nodes_of (beginning_of target setting) t)) refl where
      t : ℕ
      t = kind_of setting.sizes (suc i)

      place : ℕ
      place = suc i - first_of setting.sizes t

      known : t < length target.kinds
      known = let lt = kind_small setting.sizes (suc i) own.sizes.kinds in let same = fits.kinds in omega (arith, lt, same)

      Avoids : Option (List ℕ) → Type 0
      Avoids o = ValueAvoids j (held_at target t g) (field_word o g)

      of : (b : Bool) → nat_lt place (nodes_of (beginning_of target setting) t) ≡ b
          → Avoids (if b then slice_get (map (node_words (node_home target setting.sizes)) target.nodes) (sum_before (node_counts target) t + place) else None)
      of true is =
          let lt : place < slice_index (node_counts target) t = grind (arith, nat_tests) in
          let number = sum_before (node_counts target) t + place in
          let part = part_within (node_counts target) t in
          let node = node_there number (omega (arith, lt, part)) in
          let owner = node_of_part target t number node.0 stand node.1 (omega (arith, known, few_kinds)) (omega arith) (omega (arith, lt)) in
          let filled = subst (λ (k : ℕ). are_starts (owners_of target.nodes) (fields_of k target.fields) node.0.values ≡ true) owner (node_is target number node.0 stand node.1).starts in
          subst Avoids
          (sym (slice_get-map (node_words (node_home target setting.sizes)) target.nodes number ∙ ap (option_map (node_words (node_home target setting.sizes))) node.1))
          (fields_avoid j (node_home target setting.sizes) (length target.kinds) (owners_of target.nodes) others (fields_of t target.fields) node.0.values g filled)
      of false is = zero_avoids j some (held_at target t g)

    start_avoids : (w : Word) → WordAvoids target setting.sizes j w (start_word setting.sizes (beginning_of target setting) w)
    start_avoids (Hazard c r) = null j some
    start_avoids (FieldOf i g) = slot_avoids i g
    start_avoids (Cell x) = roots_avoid j (node_home target setting.sizes) (length target.kinds) (owners_of target.nodes) others target.roots x
        (roots_are (length target.kinds) (owners_of target.nodes) target.roots (parts target within).roots)
    start_avoids _ = tt

    ready_there : start_kind (range_at setting.sizes j) (nodes_of (beginning_of target setting) (kind_of setting.sizes j)) j ≡ statuses.Ready
    ready_there =
        let same = nodes_same (kind_of setting.sizes j) in
        let from : first_ready (range_at setting.sizes j) (nodes_of (beginning_of target setting) (kind_of setting.sizes j)) ≤ j = omega (arith, past, same) in
        let other : nat_lt j (first_ready (range_at setting.sizes j) (nodes_of (beginning_of target setting) (kind_of setting.sizes j))) ≡ false = grind (arith, nat_tests) in
        rw other refl

    status_row : in_row setting.sizes (Status j) ≡ true
    status_row = let lt : j < setting.sizes.slots + 1 = omega (arith, le) in grind (arith, nat_tests)

    pub start_untouched : IsUntouched target setting (core_start target setting) j
    start_untouched = record {
      status = (named within own fits).words (Status j) status_row ∙ ap (status_word setting.first) ready_there;
      words = λ w row. subst (WordAvoids target setting.sizes j w) (sym ((named within own fits).words w row)) (start_avoids w);
      entries = λ c e is. (let there = idle_at 0 setting.sizes.callers c e is in subst (EntryAvoids j) (sym there.1) (idle_avoids j (0 + c) some));
    }

  -- the words at the start, in which no slot was claimed
  start_ordered : AreOrdered setting.sizes (nodes_in setting) setting.first (seen setting.sizes (core_start target setting).words) ready_from
  start_ordered k lt = subst (λ (n : ℕ). IsOrdered setting.sizes.tops (range_of setting.sizes k) k n setting.first (seen setting.sizes (core_start target setting).words) (first_ready (range_of setting.sizes k) n)) (nodes_same k)
      ((start_open setting.sizes (beginning_of target setting) (seen setting.sizes (core_start target setting).words) own.sizes.kinds own.sizes.tops (suits within own fits).nodes
      ((start_is_seen target setting).memory (suits within own fits))).words k lt)

  start_pool : Pool target setting (core_start target setting) [] ready_from
  start_pool = record {
    untouched = λ j u. start_untouched j u.0 u.1;
    past = λ j low lt. absurd (omega (arith, low, lt));
    ahead = λ j from. refl;
    words = start_ordered;
    fits = λ c e is. (let there = idle_at 0 setting.sizes.callers c e is in
        subst (λ (x : Entry). StandingFits setting.sizes (seen setting.sizes (core_start target setting).words) ready_from (standing_of x.routine)) (sym there.1) tt);
    before = λ c e is. (let there = idle_at 0 setting.sizes.callers c e is in subst (λ (x : Entry). IsBefore x.routine) (sym there.1) tt);
    count = omega arith;
  }

-- ---- every state

pub reached_pool : (target : Target) (text : Text) (setting : Setting) → MayBeWalked target text → IsSetting setting → Fits target setting → (state : CoreState) → Reachable target setting state → IsPooled target setting state
reached_pool target text setting runs own fits state reached = induct_reached target setting (IsPooled target setting) (record { slots = []; frontier = ready_from runs.within own fits; pool = start_pool runs.within own fits })
    (λ now later event was pool goes. event_pool target setting (methods target text runs) (setting_sane setting own) fits now later event (states_are_sound target text setting now runs own fits was) pool goes) state reached

-- if each slot of a kind held an initial node or was claimed, these nodes and the claims are at least its slots
pub fills : (setting : Setting) (slots : List ℕ) (k : ℕ) → AreKinds setting.sizes → k < length setting.sizes.kinds → AllTouched setting k slots → slots_of setting.sizes k ≤ nodes_in setting k + length slots
fills setting slots k are lt touched = let cover = covers (slots_of setting.sizes k - nodes_in setting k) base slots claimed in omega (arith, cover) where
  base : ℕ
  base = sum_before setting.sizes.kinds k + nodes_in setting k

  claimed : (i : ℕ) → base < i → i ≤ base + (slots_of setting.sizes k - nodes_in setting k) → has_slot slots i ≡ true
  claimed i low high = by (touched i within) where
    within : IsSlot (range_of setting.sizes k) i
    within = (omega (arith, low), omega (arith, low, high))

    by : IsTouched setting slots i → has_slot slots i ≡ true
    by (inl node) =
        let ready : i < first_ready (range_of setting.sizes k) (nodes_in setting k)
        = subst (λ (a : ℕ). i < first_ready (range_of setting.sizes a) (nodes_in setting a)) (in_range_is_of_kind setting.sizes k i lt within) node in
        absurd (omega (arith, low, ready))
    by (inr has) = has
