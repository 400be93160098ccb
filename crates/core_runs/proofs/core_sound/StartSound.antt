-- The start state is sound.
use Rattle.std.proofs.Common.{◌≡◌, ℕ, zero, suc, ◌+◌, ◌-◌, ◌≤◌, ◌<◌, inl, inr, Bool, true, false, List, [], ◌∷◌, map, length, Option, Some, None, refl, sym, ◌∙◌, ap, subst, arith, if◌then◌else◌}
use Rattle.std.specs.Prelude.{slice_get, slice_index, nat_lt, option_map, IsSomeAnd}
use Rattle.std.specs.List.{list_all}
use Rattle.std.proofs.lemmas.Bool.{and_parts, ltb-true}
use Rattle.std.proofs.lemmas.Bool.Decides.{nat_tests}
use Rattle.std.proofs.lemmas.List.{length-map}
use Rattle.std.proofs.lemmas.Option.{slice_get-map}
use Rattle.norm_lang.specs.declared.text.FieldKind.{FieldKind}
use Rattle.norm_lang.specs.declared.text.FieldKind.TheVariants as holdings
use Rattle.norm_lang.specs.declared.text.FieldDecl.{FieldDecl}
use Rattle.norm_lang.specs.declared.text.RootDecl.{RootDecl}
use Rattle.norm_lang.specs.declared.text.NodeDecl.{NodeDecl}
use Rattle.norm_lang.specs.declared.text.Start.{Start}
use Rattle.norm_lang.specs.declared.text.Start.TheVariants as starts
use Rattle.norm_lang.specs.InstructionRules.{field_kind, root_kind}
use Rattle.norm_lang.specs.KindFields.{fields_of}
use Rattle.norm_lang.specs.Limits.{is_start, are_starts, owners_of, is_root}
use Rattle.norm_lang.specs.LineWords.{is_owner}
use Rattle.target_code.specs.declared.target.Target.{Target}
use Rattle.target_code.specs.TargetLimits.{IsTargetWithinLimits}
use Rattle.target_laws.proofs.target_runs.Limited.{parts}
use Rattle.target_laws.proofs.OneKind.{root_start, roots_are}
use Rattle.oa_words.specs.Words.{Word, Phase, Place, Warning, Hazard, Status, FieldOf, Cell, Head, Link, in_row}
use Rattle.oa_words.specs.SlotKinds.{sum_before, kind_in, slots_of, first_of, range_of, kind_of, range_at, IsNullOrOf}
use Rattle.oa_words.specs.Packed.{StatusParts, HeadParts, slot_part}
use Rattle.oa_words.specs.Starts.{nodes_of, start_node, Suits, start_kind, field_word, start_top, start_word}
use Rattle.oa_words.specs.Laws.{StartsAsNamed}
use Rattle.oa_words.proofs.Homes.{home_is_of_kind, home_is_slot}
use Rattle.oa_words.proofs.KindRanges.{kind_small}
use Rattle.oa_words.proofs.Parts.{slot_back, status_back, head_back}
use Rattle.oa_words.proofs.StartPlaces.{starts_as_named}
use Rattle.caller_parts.specs.KindCounts.{node_counts}
use Rattle.caller_parts.specs.Settings.{Setting, Fits, IsSetting}
use Rattle.caller_steps.specs.Entries.{Entry, idle_entry}
use Rattle.caller_steps.specs.Lawful.{IsLawful, LawfulValue, held_at}
use Rattle.caller_steps.specs.Belongs.{Belongs}
use Rattle.core_runs.specs.Machine.{node_home, value_word, node_words, root_word, beginning_of, idle_from, core_start}
use Rattle.core_runs.proofs.caller_laws.Methods.{Methods}
use Rattle.core_runs.proofs.caller_laws.Beginning.{idle_belongs}
use Rattle.core_runs.proofs.caller_laws.Fields.{fields_fit}
use Rattle.core_runs.proofs.caller_laws.OfKinds.{of_row}
use Rattle.core_runs.proofs.caller_laws.Safety.{below}
use Rattle.core_runs.proofs.caller_laws.Schemes.{first_lawful}
use Rattle.chain_laws.proofs.claim_order.Stamps.{link_within, top_within}
use Rattle.core_runs.specs.core_sound.Sound.{AreLawful, IsSound}
use Rattle.core_runs.proofs.core_sound.Grouped.{NodesStand, nodes_stand, node_is, node_at, node_of_part}

-- ---- first values

-- a word at a place that holds nodes of a kind names one of those slots
abbrev pub Names : (ℕ → ℕ → Type 0) → Option FieldKind → ℕ → Type 0
Names Slot None word = Unit {0}
Names Slot (Some holdings.Number) word = Unit {0}
Names Slot (Some (holdings.Reference k)) word = Slot k (slot_part word)

pub zero_names : (Slot : ℕ → ℕ → Type 0) → ((k : ℕ) → Slot k 0) → (kind : Option FieldKind) → Names Slot kind 0
zero_names Slot none (Some (holdings.Reference k)) = none k
zero_names Slot none _ = tt

pub names_lawful : (setting : Setting) (kind : Option FieldKind) (word : ℕ) → Names (IsNullOrOf setting.sizes) kind word → LawfulValue setting.sizes kind word
names_lawful setting (Some (holdings.Reference k)) word names = names
names_lawful setting _ word names = tt

-- if the initial nodes of each kind have such slots, first values name them
module _ (Slot : ℕ → ℕ → Type 0) (none : (k : ℕ) → Slot k 0) (home : ℕ → ℕ) (null : home 0 ≡ 0) (owners : List ℕ) (homes : (j k : ℕ) → is_owner (slice_get owners j) k ≡ true → Slot k (home (suc j))) where
  start_names : (kind : FieldKind) (start : Start) → is_start owners kind start ≡ true → Names Slot (Some kind) (value_word home start)
  start_names holdings.Number start is = tt
  start_names (holdings.Reference k) (starts.Node zero) is = subst (Slot k) (sym (slot_back (home 0) false ∙ null)) (none k)
  start_names (holdings.Reference k) (starts.Node (suc j)) is = subst (Slot k) (sym (slot_back (home (suc j)) false)) (homes j k is)
  start_names (holdings.Reference k) (starts.Value v) is = absurd (let e : false ≡ true = is in cc)

  -- of a node's fields
  fields_name : (fields : List FieldDecl) (values : List Start) (g : ℕ) → are_starts owners fields values ≡ true → Names Slot (field_kind fields g) (slice_index (map (value_word home) values) g)
  fields_name [] values g is = tt
  fields_name (f ∷ fields) [] g is = absurd (let e : false ≡ true = is in cc)
  fields_name (f ∷ fields) (v ∷ values) zero is = start_names f.kind v (and_parts (is_start owners f.kind v) (are_starts owners fields values) is).0
  fields_name (f ∷ fields) (v ∷ values) (suc g) is = fields_name fields values g (and_parts (is_start owners f.kind v) (are_starts owners fields values) is).1

  -- of the roots
  roots_name : (kinds : ℕ) (roots : List RootDecl) (x : ℕ) → list_all (is_root kinds owners) roots ≡ true → Names Slot (root_kind roots x) (slice_index (map (root_word home) roots) x)
  roots_name kinds [] x are = tt
  roots_name kinds (root ∷ roots) zero are = start_names root.kind root.start (root_start kinds owners root (and_parts (is_root kinds owners root) (list_all (is_root kinds owners) roots) are).0)
  roots_name kinds (root ∷ roots) (suc x) are = roots_name kinds roots x (and_parts (is_root kinds owners root) (list_all (is_root kinds owners) roots) are).1

-- a node has as many words as its kind has fields
starts_length : (home : ℕ → ℕ) (owners : List ℕ) (fields : List FieldDecl) (values : List Start) → are_starts owners fields values ≡ true → length (map (value_word home) values) ≡ length fields
starts_length home owners [] [] is = refl
starts_length home owners [] (v ∷ values) is = absurd (let e : false ≡ true = is in cc)
starts_length home owners (f ∷ fields) [] is = absurd (let e : false ≡ true = is in cc)
starts_length home owners (f ∷ fields) (v ∷ values) is = ap suc (starts_length home owners fields values (and_parts (is_start owners f.kind v) (are_starts owners fields values) is).1)

-- so many words at most, or none
abbrev Small : ℕ → Option (List ℕ) → Type 0
Small fields None = Unit {0}
Small fields (Some words) = length words ≤ fields

-- ---- the words

module _ {target : Target} {setting : Setting} (within : IsTargetWithinLimits target) (own : IsSetting setting) (fits : Fits target setting) where
  pub stand : NodesStand target
  stand = nodes_stand target (let same = fits.kinds in let few = own.sizes.kinds.few in omega (arith, same, few)) (parts target within).nodes

  pub rooted : list_all (is_root (length target.kinds) (owners_of target.nodes)) target.roots ≡ true
  rooted = roots_are (length target.kinds) (owners_of target.nodes) target.roots (parts target within).roots

  abbrev home : ℕ → ℕ
  home = node_home target setting.sizes

  -- no kind has more initial nodes than slots
  fit : (t : ℕ) → t < length setting.sizes.kinds → nodes_of (beginning_of target setting) t ≤ slots_of setting.sizes t
  fit t lt = subst (λ (counts : List ℕ). slice_index counts t ≤ slots_of setting.sizes t) fits.nodes (own.nodes t lt)

  -- the slot of an initial node is one of its kind
  pub home_of : (j : ℕ) (node : NodeDecl) → slice_get target.nodes j ≡ Some node → IsNullOrOf setting.sizes node.owner (home (suc j))
  home_of j node there =
      let at = node_at target j node stand there in
      let of = at.kind in
      let known = (node_is target j node stand there).known in
      let same = fits.kinds in
      let small : kind_in (node_counts target) (suc j) < length setting.sizes.kinds = omega (arith, of, known, same) in
      let slot = home_is_slot setting.sizes (node_counts target) own.sizes.kinds fit j at.within small in
      inr (slot.0, slot.1, home_is_of_kind setting.sizes (node_counts target) fit j at.within small ∙ at.kind)

  pub homes_of : (j k : ℕ) → is_owner (slice_get (owners_of target.nodes) j) k ≡ true → IsNullOrOf setting.sizes k (home (suc j))
  homes_of j k is = of (slice_get target.nodes j) refl (subst (λ (o : Option ℕ). is_owner o k ≡ true) (slice_get-map (λ (node : NodeDecl). node.owner) target.nodes j) is)
    where
      of : (o : Option NodeDecl) → slice_get target.nodes j ≡ o → is_owner (option_map (λ (node : NodeDecl). node.owner) o) k ≡ true → IsNullOrOf setting.sizes k (home (suc j))
      of None there owned = absurd (let no : false ≡ true = owned in cc)
      of (Some node) there owned = let same : node.owner ≡ k = grind (arith, nat_tests) in subst (λ (t : ℕ). IsNullOrOf setting.sizes t (home (suc j))) same (home_of j node there)

  -- the initial node in a slot, if there is one: it is of the slot's kind
  abbrev number_in : ℕ → ℕ
  number_in j = sum_before (node_counts target) (kind_of setting.sizes j) + (j - first_of setting.sizes (kind_of setting.sizes j))

  pub node_in : (j : ℕ) (node : NodeDecl) → nat_lt (j - first_of setting.sizes (kind_of setting.sizes j)) (nodes_of (beginning_of target setting) (kind_of setting.sizes j)) ≡ true
      → slice_get target.nodes (number_in j) ≡ Some node → node.owner ≡ kind_of setting.sizes j
  node_in j node few there =
      let lt = ltb-true (j - first_of setting.sizes (kind_of setting.sizes j)) (nodes_of (beginning_of target setting) (kind_of setting.sizes j)) few in
      let known = kind_small setting.sizes j own.sizes.kinds in
      let four = own.sizes.kinds.few in
      node_of_part target (kind_of setting.sizes j) (number_in j) node stand there (omega (arith, known, four)) (omega arith) (omega (arith, lt))

  -- what holds of the words of each initial node, and of none, holds of those in a slot
  slot_words : (Words : Option (List ℕ) → Type 0) (j : ℕ) → Words None → ((i : ℕ) (node : NodeDecl) → slice_get target.nodes i ≡ Some node → node.owner ≡ kind_of setting.sizes j → Words (Some (node_words home node)))
      → Words (start_node setting.sizes (beginning_of target setting) j)
  slot_words Words zero none each = none
  slot_words Words (suc j) none each = of (nat_lt (suc j - first_of setting.sizes (kind_of setting.sizes (suc j))) (nodes_of (beginning_of target setting) (kind_of setting.sizes (suc j)))) refl
    where
      there : (few : nat_lt (suc j - first_of setting.sizes (kind_of setting.sizes (suc j))) (nodes_of (beginning_of target setting) (kind_of setting.sizes (suc j))) ≡ true)
          → (o : Option NodeDecl) → slice_get target.nodes (number_in (suc j)) ≡ o → Words (option_map (node_words home) o)
      there few None is = none
      there few (Some node) is = each (number_in (suc j)) node is (node_in (suc j) node few is)

      of : (b : Bool) → nat_lt (suc j - first_of setting.sizes (kind_of setting.sizes (suc j))) (nodes_of (beginning_of target setting) (kind_of setting.sizes (suc j))) ≡ b
          → Words (if b then slice_get (map (node_words home) target.nodes) (number_in (suc j)) else None)
      of true few = subst Words (sym (slice_get-map (node_words home) target.nodes (number_in (suc j)))) (there few (slice_get target.nodes (number_in (suc j))) refl)
      of false few = none

  pub suits : Suits setting.sizes (beginning_of target setting)
  suits = record {
    nodes = fit;
    fields = λ j node is. subst (Small setting.sizes.fields) is (slot_words (Small setting.sizes.fields) j tt (λ i node there of. small i node there));
    cells = length-map target.roots (root_word home) ∙ sym fits.cells;
  } where
    small : (i : ℕ) (node : NodeDecl) → slice_get target.nodes i ≡ Some node → length (node_words home node) ≤ setting.sizes.fields
    small i node there =
        let is = node_is target i node stand there in
        let count = starts_length home (owners_of target.nodes) (fields_of node.owner target.fields) node.values is.starts in
        let room = fields_fit target setting node.owner fits is.known in omega (arith, count, room)

  pub named : StartsAsNamed setting.sizes (beginning_of target setting)
  named = starts_as_named setting.sizes (beginning_of target setting) suits

  -- the words of slots and roots at the start name slots that the initial nodes have
  pub slots_name : (Slot : ℕ → ℕ → Type 0) → ((k : ℕ) → Slot k 0) → ((j k : ℕ) → is_owner (slice_get (owners_of target.nodes) j) k ≡ true → Slot k (home (suc j))) → (j g : ℕ)
      → Names Slot (held_at target (kind_of setting.sizes j) g) (field_word (start_node setting.sizes (beginning_of target setting) j) g)
  slots_name Slot none homes j g =
      slot_words (λ (words : Option (List ℕ)). Names Slot (held_at target (kind_of setting.sizes j) g) (field_word words g)) j (zero_names Slot none (held_at target (kind_of setting.sizes j) g))
      (λ i node there of. subst (λ (t : ℕ). Names Slot (held_at target t g) (slice_index (node_words home node) g)) of
      (fields_name Slot none home refl (owners_of target.nodes) homes (fields_of node.owner target.fields) node.values g (node_is target i node stand there).starts))

  pub cells_name : (Slot : ℕ → ℕ → Type 0) → ((k : ℕ) → Slot k 0) → ((j k : ℕ) → is_owner (slice_get (owners_of target.nodes) j) k ≡ true → Slot k (home (suc j))) → (x : ℕ)
      → Names Slot (root_kind target.roots x) (slice_index (map (root_word home) target.roots) x)
  cells_name Slot none homes x = roots_name Slot none home refl (owners_of target.nodes) homes (length target.kinds) target.roots x rooted

  slot_lawful : (j g : ℕ) → LawfulValue setting.sizes (held_at target (kind_of setting.sizes j) g) (field_word (start_node setting.sizes (beginning_of target setting) j) g)
  slot_lawful j g =
      names_lawful setting (held_at target (kind_of setting.sizes j) g) (field_word (start_node setting.sizes (beginning_of target setting) j) g)
      (slots_name (IsNullOrOf setting.sizes) (λ k. inl refl) homes_of j g)

  start_is_lawful : (w : Word) → in_row setting.sizes w ≡ true → IsLawful target setting w (start_word setting.sizes (beginning_of target setting) w)
  start_is_lawful Phase row = (omega arith, own.phases)
  start_is_lawful (Place c) row = tt
  start_is_lawful (Warning c) row = first_lawful setting.reclamation setting own.phases
  start_is_lawful (Hazard c r) row = omega arith
  start_is_lawful (Status j) row =
      subst (λ (o : Option StatusParts). IsSomeAnd o (λ (parts : StatusParts). parts.phase ≤ setting.last))
      (sym (status_back setting.first (start_kind (range_at setting.sizes j) (nodes_of (beginning_of target setting) (kind_of setting.sizes j)) j))) own.phases
  start_is_lawful (FieldOf zero g) row = refl
  start_is_lawful (FieldOf (suc i) g) row = slot_lawful (suc i) g
  start_is_lawful (Cell x) row =
      names_lawful setting (root_kind target.roots x) (slice_index (map (root_word home) target.roots) x) (cells_name (IsNullOrOf setting.sizes) (λ k. inl refl) homes_of x)
  start_is_lawful (Head t) row =
      let top : ℕ = start_top (range_of setting.sizes t) (nodes_of (beginning_of target setting) t) in
      let of = top_within setting.sizes (beginning_of target setting) t own.sizes.kinds (below t (length setting.sizes.kinds) row) in
      let le = of_row setting.sizes t top of in
      subst (λ (parts : HeadParts). (parts.phase ≤ setting.last) × IsNullOrOf setting.sizes t parts.top) (sym (head_back setting.sizes.tops setting.first top (let room = own.sizes.tops in omega (arith, le, room)))) (own.phases, of)
  start_is_lawful (Link j) row = link_within setting.sizes (beginning_of target setting) j own.sizes.kinds

  words_lawful : AreLawful target setting (core_start target setting).words
  words_lawful w row = subst (λ (k : ℕ). IsLawful target setting w k) (sym (named.words w row)) (start_is_lawful w row)

-- ---- the entries

idles_count : (i n : ℕ) → length (idle_from i n) ≡ n
idles_count i zero = refl
idles_count i (suc n) = ap suc (idles_count (i + 1) n)

pub idle_at : (i n c : ℕ) (e : Entry) → slice_get (idle_from i n) c ≡ Some e → (c < n) × (e ≡ idle_entry (i + c))
idle_at i zero c e is = absurd (let z : None ≡ Some e = is in cc)
idle_at i (suc n) zero e is = (omega arith, (let same : idle_entry i ≡ e = cc in sym same ∙ ap idle_entry (omega arith)))
idle_at i (suc n) (suc c) e is = let rest = idle_at (i + 1) n c e is in let lt = rest.0 in (omega (arith, lt), rest.1 ∙ ap idle_entry (omega arith))

-- the start state
pub start_sound : (target : Target) (setting : Setting) → Methods target → IsTargetWithinLimits target → IsSetting setting → Fits target setting → IsSound target setting (core_start target setting)
start_sound target setting methods within own fits = record {
  count = (named within own fits).count;
  callers = idles_count 0 setting.sizes.callers;
  lawful = words_lawful within own fits;
  belong = λ c e is. (let there = idle_at 0 setting.sizes.callers c e is in
      let number : 0 + c ≡ c = omega arith in
      let same : e ≡ idle_entry c = there.1 ∙ ap idle_entry number in
      (subst (λ (x : Entry). Belongs target setting x) (sym same) (idle_belongs target setting c methods there.0), ap (λ (x : Entry). x.number) same));
}
