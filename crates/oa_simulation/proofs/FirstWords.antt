-- The words at the start are those of the source's memory, read with names: initial nodes stand in the first slots of their kinds.
use Rattle.std.proofs.Common.{ℕ, zero, suc, ◌≡◌, ◌≢◌, ◌==◌, ◌+◌, ◌-◌, ◌≤◌, ◌<◌, ◌⊎◌, ◌∙◌, Bool, true, false, List, [], ◌∷◌, map, length, Option, Some, None, inl, inr, arith, sym, ap, subst, refl, if◌then◌else◌}
use Rattle.std.specs.Prelude.{nat_le, nat_lt, slice_get, slice_index, option_map, unwrap_or}
use Rattle.std.specs.List.{list_all}
use Rattle.std.proofs.lemmas.Bool.{and_parts}
use Rattle.std.proofs.lemmas.Bool.Decides.{nat_tests}
use Rattle.std.proofs.lemmas.List.{length-map}
use Rattle.std.proofs.lemmas.Option.{slice_get-map}
use Rattle.norm_lang.specs.declared.text.FieldKind.{FieldKind}
use Rattle.norm_lang.specs.declared.text.FieldKind.TheVariants as holdings
use Rattle.norm_lang.specs.declared.text.FieldDecl.{FieldDecl}
use Rattle.norm_lang.specs.declared.text.RootDecl.{RootDecl}
use Rattle.norm_lang.specs.declared.text.NodeDecl.{NodeDecl}
use Rattle.norm_lang.specs.declared.text.Start.{Start}
use Rattle.norm_lang.specs.declared.text.Start.TheVariants as starts
use Rattle.norm_lang.specs.declared.text.Text.{Text}
use Rattle.norm_lang.specs.Limits.{IsWithinLimits, is_start, are_starts, is_node as is_node_decl, are_nodes, is_root, owners_of}
use Rattle.norm_lang.specs.KindFields.{fields_of}
use Rattle.oa_words.specs.declared.packed.Kind.{Kind}
use Rattle.oa_words.specs.declared.packed.Kind.TheVariants as kinds_of_status
use Rattle.oa_words.specs.Words.{Word, Phase, Warning, Status, FieldOf, Cell, address_of, in_row}
use Rattle.oa_words.specs.Packed.{ref_word, status_word}
use Rattle.oa_words.specs.SlotKinds.{together, kind_in, first_of, kind_of, range_at}
use Rattle.oa_words.specs.Starts.{Suits, start_node, start_kind, start_word, field_word}
use Rattle.oa_words.specs.Starts as row_starts
use Rattle.oa_words.proofs.Homes.{node_at_home}
use Rattle.target_laws.proofs.local_laws.Inside.{there_is}
use Rattle.source_machine.specs.declared.state.Value.{Value}
use Rattle.source_machine.specs.State.{first_value, root_value, named_from, first_memory}
use Rattle.source_machine.specs.Memory.{value_at, fields_named}
use Rattle.source_machine.specs.Proper.{field_of}
use Rattle.source_machine.specs.MethodRuns.{name_in}
use Rattle.caller_parts.specs.KindCounts.{node_counts}
use Rattle.caller_parts.specs.declared.setting.Reclamation.{Reclamation}
use Rattle.caller_parts.specs.declared.setting.Reclamation.TheVariants.{Optimistic, Epochs}
use Rattle.caller_parts.specs.Settings.{Fits, IsSetting, first_warning}
use Rattle.core_runs.specs.Machine.{node_home, value_word, node_words, root_word, beginning_of, core_start}
use Rattle.core_runs.specs.Views.{view}
use Rattle.core_runs.proofs.Starting.{start_is_seen}
use Rattle.core_runs.proofs.core_sound.Grouped.{NodesStand, nodes_stand, nodes_together, node_is, node_at}
use Rattle.core_runs.proofs.core_sound.Reached.{start_suits}
use Rattle.target_laws.proofs.OneKind.{declared, nodes_are, roots_are, root_start, start_known}
use Rattle.run_ahead.proofs.TypedStart.{first_typed}
use Rattle.target_laws.specs.target_runs.Runnable.{MayBeWalked}
use Rattle.oa_simulation.specs.sim_relation.Views.{Plan, word_for}
use Rattle.chain_laws.specs.Chains.{IsOf}
use Rattle.oa_simulation.specs.FirstNames.{first_home}
use Rattle.oa_simulation.specs.Present.{first_present}
use Rattle.oa_simulation.proofs.FirstSlots.{NodesHaveKinds, Named, home_is as slot_home, node_present, node_within, slot_named, number_there, number_past, first_below, past_index}
use Rattle.oa_simulation.proofs.Starting.{IsFirst, is_node, node_some}

-- no caller starts with a warning past the first phase
warned_first : (by : Reclamation) (first : ℕ) → first_warning by first ≤ first
warned_first Optimistic first = omega arith
warned_first Epochs first = omega arith

-- ---- lists of first values

module _ (home slots : ℕ → ℕ) (kinds : ℕ) (owners : List ℕ) (homes : (j : ℕ) → j ≤ length owners → home j ≡ slots j) where
  word_right : (kind : FieldKind) (start : Start) → is_start owners kind start ≡ true → word_for home (first_value start) ≡ value_word slots start
  word_right holdings.Number (starts.Value v) is = refl
  word_right (holdings.Reference t) (starts.Node j) is = ap (λ (k : ℕ). ref_word k false) (homes j (start_known owners t j is))
  word_right _ _ is = absurd (let no : false ≡ true = is in cc)

  words_right : (fields : List FieldDecl) (values : List Start) (g : ℕ) → are_starts owners fields values ≡ true → word_for home (value_at (map first_value values) g) ≡ slice_index (map (value_word slots) values) g
  words_right [] [] g is = refl
  words_right (f ∷ fields) (v ∷ values) zero is = word_right f.kind v (and_parts (is_start owners f.kind v) (are_starts owners fields values) is).0
  words_right (f ∷ fields) (v ∷ values) (suc g) is = words_right fields values g (and_parts (is_start owners f.kind v) (are_starts owners fields values) is).1
  words_right _ _ g is = absurd (let no : false ≡ true = is in cc)

  roots_right : (roots : List RootDecl) (x : ℕ) → list_all (is_root kinds owners) roots ≡ true → word_for home (value_at (map root_value roots) x) ≡ slice_index (map (root_word slots) roots) x
  roots_right [] x all = refl
  roots_right (root ∷ roots) zero all = word_right root.kind root.start (root_start kinds owners root (and_parts (is_root kinds owners root) (list_all (is_root kinds owners) roots) all).0)
  roots_right (root ∷ roots) (suc x) all = roots_right roots x (and_parts (is_root kinds owners root) (list_all (is_root kinds owners) roots) all).1

-- a name among first values is null or an initial node's
name_right : (owners : List ℕ) (kind : FieldKind) (start : Start) → is_start owners kind start ≡ true → name_in (first_value start) ≤ length owners
name_right owners holdings.Number (starts.Value v) is = omega arith
name_right owners (holdings.Reference t) (starts.Node j) is = start_known owners t j is
name_right owners _ _ is = absurd (let no : false ≡ true = is in cc)

names_right : (owners : List ℕ) (fields : List FieldDecl) (values : List Start) (g : ℕ) → are_starts owners fields values ≡ true → name_in (value_at (map first_value values) g) ≤ length owners
names_right owners [] [] g is = omega arith
names_right owners (f ∷ fields) (v ∷ values) zero is = name_right owners f.kind v (and_parts (is_start owners f.kind v) (are_starts owners fields values) is).0
names_right owners (f ∷ fields) (v ∷ values) (suc g) is = names_right owners fields values g (and_parts (is_start owners f.kind v) (are_starts owners fields values) is).1
names_right owners _ _ g is = absurd (let no : false ≡ true = is in cc)

tops_right : (kinds : ℕ) (owners : List ℕ) (roots : List RootDecl) (x : ℕ) → list_all (is_root kinds owners) roots ≡ true → name_in (value_at (map root_value roots) x) ≤ length owners
tops_right kinds owners [] x all = omega arith
tops_right kinds owners (root ∷ roots) zero all = name_right owners root.kind root.start (root_start kinds owners root (and_parts (is_root kinds owners root) (list_all (is_root kinds owners) roots) all).0)
tops_right kinds owners (root ∷ roots) (suc x) all = tops_right kinds owners roots x (and_parts (is_root kinds owners root) (list_all (is_root kinds owners) roots) all).1

starts_count : (owners : List ℕ) (fields : List FieldDecl) (values : List Start) → are_starts owners fields values ≡ true → length values ≡ length fields
starts_count owners [] [] is = refl
starts_count owners (f ∷ fields) (v ∷ values) is = ap suc (starts_count owners fields values (and_parts (is_start owners f.kind v) (are_starts owners fields values) is).1)
starts_count owners _ _ is = absurd (let no : false ≡ true = is in cc)

-- ---- initial nodes by their names

abbrev firsts : NodeDecl → List Value
firsts node = map first_value node.values

named_at : (k i : ℕ) (nodes : List NodeDecl) → fields_named (k + i) (named_from k nodes) ≡ option_map firsts (slice_get nodes i)
named_at k i [] = refl
named_at k zero (node ∷ nodes) = let same : (k == k + zero) ≡ true = grind (arith, nat_tests) in rw same refl
named_at k (suc i) (node ∷ nodes) =
    let other : (k == k + suc i) ≡ false = grind (arith, nat_tests) in
    let next : k + suc i ≡ (k + 1) + i = omega arith in
    rw other (ap (λ (n : ℕ). fields_named n (named_from (k + 1) nodes)) next ∙ named_at (k + 1) i nodes)

named_before : (n k : ℕ) (nodes : List NodeDecl) → n < k → fields_named n (named_from k nodes) ≡ None
named_before n k [] lt = refl
named_before n k (node ∷ nodes) lt = let other : (k == n) ≡ false = grind (arith, nat_tests) in rw other (named_before n (k + 1) nodes (omega (arith, lt)))

none_past : (nodes : List NodeDecl) (i : ℕ) → length nodes ≤ i → slice_get nodes i ≡ None
none_past [] i le = refl
none_past (node ∷ nodes) zero le = absurd (omega (arith, le))
none_past (node ∷ nodes) (suc i) le = none_past nodes i (omega (arith, le))

all_at : (P : NodeDecl → Bool) (nodes : List NodeDecl) (i : ℕ) (node : NodeDecl) → list_all P nodes ≡ true → slice_get nodes i ≡ Some node → P node ≡ true
all_at P [] i node all is = absurd (let no : None ≡ Some node = is in cc)
all_at P (first ∷ nodes) zero node all is = let same : first ≡ node = cc in ap P (sym same) ∙ (and_parts (P first) (list_all P nodes) all).0
all_at P (first ∷ nodes) (suc i) node all is = all_at P nodes i node (and_parts (P first) (list_all P nodes) all).1 is

-- ---- the start

-- the first values of an initial node by its place: one for each field of its kind
starts_at : (text : Text) → IsWithinLimits text → (i : ℕ) (node : NodeDecl) → slice_get text.nodes i ≡ Some node → are_starts (owners_of text.nodes) (fields_of node.owner text.fields) node.values ≡ true
starts_at text within i node there =
    let parts = declared text within in
    let is = all_at (is_node_decl (length text.kinds) text.fields (owners_of text.nodes)) text.nodes i node (nodes_are (length text.kinds) text.fields text.nodes parts.nodes) there in
    (and_parts (nat_lt node.owner (length text.kinds)) (are_starts (owners_of text.nodes) (fields_of node.owner text.fields) node.values) is).1

-- its roots'
rooted : (text : Text) → IsWithinLimits text → list_all (is_root (length text.kinds) (owners_of text.nodes)) text.roots ≡ true
rooted text within = roots_are (length text.kinds) (owners_of text.nodes) text.roots (declared text within).roots

-- as many kinds are told as there are nodes
owners_count : (nodes : List NodeDecl) → length (owners_of nodes) ≡ length nodes
owners_count nodes = length-map nodes (λ node. node.owner)

module _ (t : Plan) (runs : MayBeWalked t.target t.text) (own : IsSetting t.setting) (fits : Fits t.target t.setting) (homes : (n : ℕ) → n < together t.setting.nodes + 1 → t.home n ≡ first_home t.setting n) where
  abbrev memory : Word → ℕ
  memory = (view t.setting (core_start t.target t.setting)).memory

  abbrev suited : Suits t.setting.sizes (beginning_of t.target t.setting)
  suited = (start_suits t.target t.text t.setting runs own fits).suits

  in_it : (w : Word) → in_row t.setting.sizes w ≡ true → memory w ≡ start_word t.setting.sizes (beginning_of t.target t.setting) w
  in_it w row = (start_is_seen t.target t.setting).memory (start_suits t.target t.text t.setting runs own fits).suits w row

  out_of_it : (w : Word) → in_row t.setting.sizes w ≡ false → memory w ≡ 0
  out_of_it w out = ap (λ (b : Bool). if b then slice_index (core_start t.target t.setting).words (address_of t.setting.sizes w) else 0) out

  nodes_same : t.target.nodes ≡ t.text.nodes
  nodes_same = ap (λ (text : Text). text.nodes) runs.erases

  -- the initial nodes by their kinds
  stand : NodesStand t.target
  stand =
      let parts = declared t.text runs.small in
      let few = own.sizes.kinds.few in
      let same = fits.kinds in
      nodes_stand t.target (omega (arith, few, same)) (subst (λ (text : Text). are_nodes (length text.kinds) text.fields text.nodes ≡ true) (sym runs.erases) parts.nodes)

  count : together t.setting.nodes ≡ length t.text.nodes
  count = ap together fits.nodes ∙ (nodes_together t.target stand ∙ ap (λ (nodes : List NodeDecl). length nodes) nodes_same)

  counted : (j : ℕ) → j < together (node_counts t.target) → kind_in (node_counts t.target) (suc j) < length t.setting.sizes.kinds
  counted j lt =
      let all = nodes_together t.target stand in
      let there = there_is t.target.nodes j (omega (arith, lt, all)) in
      let kind = (node_at t.target j there.0 stand there.1).kind in
      let less = (node_is t.target j there.0 stand there.1).known in
      let same = fits.kinds in omega (arith, kind, less, same)

  known : NodesHaveKinds t.setting
  known = subst (λ (counts : List ℕ). (j : ℕ) → j < together counts → kind_in counts (suc j) < length t.setting.sizes.kinds) (sym fits.nodes) counted

  -- the slot of an initial node, as the words have it
  home_is : (n : ℕ) → n ≤ together t.setting.nodes → t.home n ≡ node_home t.target t.setting.sizes n
  home_is n le = homes n (omega (arith, le)) ∙ (slot_home t.setting own.sizes.kinds own.nodes known n le ∙ ap (λ (counts : List ℕ). row_starts.first_home t.setting.sizes counts n) fits.nodes)

  home_owner : (j : ℕ) → j ≤ length (owners_of t.text.nodes) → t.home j ≡ node_home t.target t.setting.sizes j
  home_owner j le = let same = owners_count t.text.nodes in let c = count in home_is j (omega (arith, le, same, c))

  -- a slot with a name, and the node that stands there
  record Initial (j : ℕ) : Type 0 where
    named : Named t.setting j
    node : NodeDecl
    there : slice_get t.text.nodes named.number ≡ Some node
    starts : are_starts (owners_of t.text.nodes) (fields_of node.owner t.text.fields) node.values ≡ true

  initial : (j : ℕ) → first_present t.setting j ≢ 0 → Initial j
  initial j some =
      let named = slot_named t.setting own.sizes.kinds own.nodes known j some in
      let c = count in
      let among = named.among in
      let there = there_is t.text.nodes named.number (omega (arith, c, among)) in
      record { named = named; node = there.0; there = there.1; starts = starts_at t.text runs.small named.number there.0 there.1 }

  named_among : (j : ℕ) (n : Initial j) → first_present t.setting j ≤ together t.setting.nodes
  named_among j n = let among = n.named.among in let name = n.named.name in omega (arith, among, name)

  values_named : (j : ℕ) (n : Initial j) → fields_named (first_present t.setting j) (first_memory t.text).nodes ≡ Some (firsts n.node)
  values_named j n =
      ap (λ (k : ℕ). fields_named k (named_from 1 t.text.nodes)) (n.named.name ∙ (let e : suc n.named.number ≡ 1 + n.named.number = omega arith in e))
      ∙ (named_at 1 n.named.number t.text.nodes ∙ ap (option_map firsts) n.there)

  -- an initial node stands in its slot
  at_home : (j : ℕ) (n : Initial j) → start_node t.setting.sizes (beginning_of t.target t.setting) j ≡ Some (map (value_word (node_home t.target t.setting.sizes)) n.node.values)
  at_home j n =
      let counts : row_starts.first_home t.setting.sizes (node_counts t.target) (suc n.named.number) ≡ j = subst (λ (counts : List ℕ). row_starts.first_home t.setting.sizes counts (suc n.named.number) ≡ j) fits.nodes n.named.stands in
      let among : n.named.number < together (node_counts t.target) = subst (λ (counts : List ℕ). n.named.number < together counts) fits.nodes n.named.among in
      ap (start_node t.setting.sizes (beginning_of t.target t.setting)) (sym counts)
      ∙ (node_at_home t.setting.sizes (beginning_of t.target t.setting) suited.nodes n.named.number among (counted n.named.number among)
      ∙ (ap (λ (nodes : List NodeDecl). slice_get (map (node_words (node_home t.target t.setting.sizes)) nodes) n.named.number) nodes_same
      ∙ (slice_get-map (node_words (node_home t.target t.setting.sizes)) t.text.nodes n.named.number ∙ ap (option_map (node_words (node_home t.target t.setting.sizes))) n.there)))

  slot_within : (j : ℕ) (n : Initial j) → j ≤ t.setting.sizes.slots
  slot_within j n = subst (λ (i : ℕ). i ≤ t.setting.sizes.slots) n.named.stands (node_within t.setting own.sizes.kinds own.nodes known n.named.number n.named.among).1

  -- so its fields' words are in the row
  field_is : (j g : ℕ) (n : Initial j) → g < length (firsts n.node) → memory (FieldOf j g) ≡ slice_index (map (value_word (node_home t.target t.setting.sizes)) n.node.values) g
  field_is j g n lt =
      let within = slot_within j n in
      let most = suited.fields j (map (value_word (node_home t.target t.setting.sizes)) n.node.values) (at_home j n) in
      let words : length (map (value_word (node_home t.target t.setting.sizes)) n.node.values) ≡ length n.node.values = length-map n.node.values (value_word (node_home t.target t.setting.sizes)) in
      let values : length (firsts n.node) ≡ length n.node.values = length-map n.node.values first_value in
      let slot : nat_lt j (t.setting.sizes.slots + 1) ≡ true = (let low : j < t.setting.sizes.slots + 1 = omega (arith, within) in grind (arith, nat_tests)) in
      let field : nat_lt g t.setting.sizes.fields ≡ true = (let low : g < t.setting.sizes.fields = omega (arith, lt, most, words, values) in grind (arith, nat_tests)) in
      in_it (FieldOf j g) (rw (slot, field) refl) ∙ ap (λ (o : Option (List ℕ)). field_word o g) (at_home j n)

  root_is : (x : ℕ) → memory (Cell x) ≡ slice_index (map (root_word (node_home t.target t.setting.sizes)) t.text.roots) x
  root_is x = of (in_row t.setting.sizes (Cell x)) refl where
    of : (b : Bool) → in_row t.setting.sizes (Cell x) ≡ b → memory (Cell x) ≡ slice_index (map (root_word (node_home t.target t.setting.sizes)) t.text.roots) x
    of true row = in_it (Cell x) row ∙ ap (λ (text : Text). slice_index (map (root_word (node_home t.target t.setting.sizes)) text.roots) x) runs.erases
    of false out =
        let beyond : t.setting.sizes.cells ≤ x = grind (arith, nat_tests) in
        let cells : t.setting.sizes.cells ≡ length t.text.roots = fits.cells ∙ ap (λ (text : Text). length text.roots) runs.erases in
        let values : length (map (root_word (node_home t.target t.setting.sizes)) t.text.roots) ≡ length t.text.roots = length-map t.text.roots (root_word (node_home t.target t.setting.sizes)) in
        out_of_it (Cell x) out ∙ sym (past_index (map (root_word (node_home t.target t.setting.sizes)) t.text.roots) x (omega (arith, beyond, cells, values)))

  -- null's slot and those of initial nodes are used, and each other is ready
  used_kind : (j : ℕ) → (j ≡ 0) ⊎ (first_present t.setting j ≢ 0) → start_kind (range_at t.setting.sizes j) (slice_index t.setting.nodes (kind_of t.setting.sizes j)) j ≡ kinds_of_status.Used
  used_kind zero is =
      let test : nat_lt 0 (slice_index t.setting.nodes (kind_of t.setting.sizes 0) + first_of t.setting.sizes (kind_of t.setting.sizes 0)) ≡ true =
      (let lt : 0 < slice_index t.setting.nodes (kind_of t.setting.sizes 0) + first_of t.setting.sizes (kind_of t.setting.sizes 0) = omega arith in grind (arith, nat_tests)) in
      rw test refl
  used_kind (suc j) (inl z) = let no : ⊥ = omega (arith, z) in absurd no
  used_kind (suc j) (inr some) =
      let there = number_there t.setting (kind_of t.setting.sizes (suc j)) (suc j - first_of t.setting.sizes (kind_of t.setting.sizes (suc j))) some in
      let test : nat_lt (suc j) (slice_index t.setting.nodes (kind_of t.setting.sizes (suc j)) + first_of t.setting.sizes (kind_of t.setting.sizes (suc j))) ≡ true =
      (let lt : suc j < slice_index t.setting.nodes (kind_of t.setting.sizes (suc j)) + first_of t.setting.sizes (kind_of t.setting.sizes (suc j)) = omega (arith, there) in grind (arith, nat_tests)) in
      rw test refl

  ready_kind : (j : ℕ) → j ≢ 0 → first_present t.setting j ≡ 0 → start_kind (range_at t.setting.sizes j) (slice_index t.setting.nodes (kind_of t.setting.sizes j)) j ≡ kinds_of_status.Ready
  ready_kind zero ne none = absurd (ne refl)
  ready_kind (suc j) ne none =
      let past = number_past t.setting (kind_of t.setting.sizes (suc j)) (suc j - first_of t.setting.sizes (kind_of t.setting.sizes (suc j))) none in
      let low = first_below t.setting.sizes (suc j) own.sizes.kinds (omega arith) in
      let test : nat_lt (suc j) (slice_index t.setting.nodes (kind_of t.setting.sizes (suc j)) + first_of t.setting.sizes (kind_of t.setting.sizes (suc j))) ≡ false =
      (let le : slice_index t.setting.nodes (kind_of t.setting.sizes (suc j)) + first_of t.setting.sizes (kind_of t.setting.sizes (suc j)) ≤ suc j = omega (arith, past, low) in grind (arith, nat_tests)) in
      rw test refl

  -- what a start kind is
  status_is : (j : ℕ) (kind : Kind) → j ≤ t.setting.sizes.slots → start_kind (range_at t.setting.sizes j) (slice_index t.setting.nodes (kind_of t.setting.sizes j)) j ≡ kind → IsOf kind (memory (Status j))
  status_is j kind le is = (
    t.setting.first,
    in_it (Status j) (let lt : j < t.setting.sizes.slots + 1 = omega (arith, le) in grind (arith, nat_tests))
        ∙ ap (status_word t.setting.first) (ap (λ (counts : List ℕ). start_kind (range_at t.setting.sizes j) (slice_index counts (kind_of t.setting.sizes j)) j) (sym fits.nodes) ∙ is),
  )

  few_or_none : (n : ℕ) → n ≤ length t.text.nodes → (n ≡ 0) ⊎ (is_node t n ≡ true)
  few_or_none n le = of (n == 0) refl where
    of : (b : Bool) → (n == 0) ≡ b → (n ≡ 0) ⊎ (is_node t n ≡ true)
    of true is = inl (grind (arith, nat_tests))
    of false is = let c = count in let inside : nat_le n (together t.setting.nodes) ≡ true = (let few : n ≤ together t.setting.nodes = omega (arith, le, c) in grind (arith, nat_tests)) in inr (rw (is, inside) refl)

  -- an initial node by its name
  record Numbered (n : ℕ) : Type 0 where
    number : ℕ
    is : n ≡ suc number
    among : number < together t.setting.nodes

  numbered : (n : ℕ) → is_node t n ≡ true → Numbered n
  numbered n is = of n (node_some t n is).0 (node_some t n is).1 where
    of : (n : ℕ) → n ≢ 0 → n ≤ together t.setting.nodes → Numbered n
    of zero ne le = absurd (ne refl)
    of (suc i) ne le = record { number = i; is = refl; among = omega (arith, le) }

  found : (i : ℕ) → fields_named (suc i) (first_memory t.text).nodes ≡ option_map firsts (slice_get t.text.nodes i)
  found i = ap (λ (k : ℕ). fields_named k (named_from 1 t.text.nodes)) (let e : suc i ≡ 1 + i = omega arith in e) ∙ named_at 1 i t.text.nodes

  node_there : (n : ℕ) → Numbered n → (values : List Value) × (fields_named n (first_memory t.text).nodes ≡ Some values)
  node_there n k =
      let c = count in
      let among = k.among in
      let there = there_is t.text.nodes k.number (omega (arith, c, among)) in
      (firsts there.0, ap (λ (i : ℕ). fields_named i (first_memory t.text).nodes) k.is ∙ (found k.number ∙ ap (option_map firsts) there.1))

  link_right : (n g : ℕ) (o : Option (List Value)) → fields_named n (first_memory t.text).nodes ≡ o → ((values : List Value) → o ≡ Some values → name_in (value_at values g) ≤ length t.text.nodes)
      → name_in (value_at (unwrap_or o []) g) ≤ length t.text.nodes
  link_right n g None is few = omega arith
  link_right n g (Some values) is few = few values refl

  by_name : (n g : ℕ) (values : List Value) → fields_named n (first_memory t.text).nodes ≡ Some values → name_in (value_at values g) ≤ length t.text.nodes
  by_name zero g values is = absurd (let z : None ≡ Some values = sym (named_before 0 1 t.text.nodes (omega arith)) ∙ is in cc)
  by_name (suc i) g values is = of (slice_get t.text.nodes i) refl where
    of : (o : Option NodeDecl) → slice_get t.text.nodes i ≡ o → name_in (value_at values g) ≤ length t.text.nodes
    of None none = absurd (let z : None ≡ Some values = sym (ap (option_map firsts) none) ∙ (sym (found i) ∙ is) in cc)
    of (Some node) some =
        let same : Some (firsts node) ≡ Some values = sym (ap (option_map firsts) some) ∙ (sym (found i) ∙ is) in
        let equal : firsts node ≡ values = cc in
        subst (λ (vs : List Value). name_in (value_at vs g) ≤ length t.text.nodes) equal
        (subst (λ (n : ℕ). name_in (value_at (firsts node) g) ≤ n) (owners_count t.text.nodes) (names_right (owners_of t.text.nodes) (fields_of node.owner t.text.fields) node.values g (starts_at t.text runs.small i node some)))

  pub first_words : IsFirst t (view t.setting (core_start t.target t.setting)).memory
  first_words = record {
    warning = λ c. warning c (in_row t.setting.sizes (Warning c)) refl;
    null = status_is 0 kinds_of_status.Used (omega arith) (used_kind 0 (inl refl));
    used = λ j some. status_is j kinds_of_status.Used (slot_within j (initial j some)) (used_kind j (inr some));
    ready = λ j ne none. ready j (in_row t.setting.sizes (Status j)) refl (ready_kind j ne none);
    field = λ j g some lt. (let n = initial j some in
        field_is j g n (subst (λ (o : Option (List Value)). g < length (unwrap_or o [])) (values_named j n) lt) ∙ sym (ap (λ (o : Option (List Value)). word_for t.home (value_at (unwrap_or o []) g)) (values_named j n)
        ∙ words_right t.home (node_home t.target t.setting.sizes) (length t.text.kinds) (owners_of t.text.nodes) home_owner (fields_of n.node.owner t.text.fields) n.node.values g n.starts));
    root = λ x. root_is x ∙ sym (roots_right t.home (node_home t.target t.setting.sizes) (length t.text.kinds) (owners_of t.text.nodes) home_owner t.text.roots x (rooted t.text runs.small));
    null_field = λ g. null_field g (in_row t.setting.sizes (FieldOf 0 g)) refl;
    node = λ n node. node_there n (numbered n node);
    null_node = named_before 0 1 t.text.nodes (omega arith);
    link = λ n g. few_or_none (name_in (field_of (first_memory t.text) n g)) (link_right n g (fields_named n (first_memory t.text).nodes) refl (λ values is. by_name n g values is));
    top = λ x. few_or_none (name_in (value_at (first_memory t.text).roots x)) (subst (λ (n : ℕ). name_in (value_at (first_memory t.text).roots x) ≤ n) (owners_count t.text.nodes) (tops_right (length t.text.kinds) (owners_of t.text.nodes) t.text.roots x (rooted t.text runs.small)));
    typed = first_typed t.text runs.small;
    home = λ j some. (let n = initial j some in
        homes (first_present t.setting j) (let le = named_among j n in omega (arith, le)) ∙ (slot_home t.setting own.sizes.kinds own.nodes known (first_present t.setting j) (named_among j n)
        ∙ (ap (row_starts.first_home t.setting.sizes t.setting.nodes) n.named.name ∙ n.named.stands)));
    named = λ j some. (let n = initial j some in is_named (first_present t.setting j) some (named_among j n));
    stands = λ n node. (let k = numbered n node in stands n k);
    past = λ n le. beyond n le;
  } where
    warning : (c : ℕ) (b : Bool) → in_row t.setting.sizes (Warning c) ≡ b → memory (Warning c) ≤ memory Phase
    warning c true row =
        let a : memory (Warning c) ≡ first_warning t.setting.reclamation t.setting.first = in_it (Warning c) row in
        let p = in_it Phase refl in
        let le = warned_first t.setting.reclamation t.setting.first in
        omega (arith, a, p, le)
    warning c false out = let a = out_of_it (Warning c) out in omega (arith, a)

    is_named : (n : ℕ) → n ≢ 0 → n ≤ together t.setting.nodes → is_node t n ≡ true
    is_named n ne le =
        let some : (n == 0) ≡ false = grind (arith, nat_tests) in
        let inside : nat_le n (together t.setting.nodes) ≡ true = grind (arith, nat_tests) in
        rw (some, inside) refl

    stands : (n : ℕ) → Numbered n → first_present t.setting (t.home n) ≡ n
    stands n k =
        let among = k.among in
        let is = k.is in
        ap (first_present t.setting) (homes n (omega (arith, among, is)) ∙ ap (first_home t.setting) is) ∙ (node_present t.setting own.sizes.kinds own.nodes known k.number among ∙ sym is)

    ready : (j : ℕ) (b : Bool) → in_row t.setting.sizes (Status j) ≡ b → start_kind (range_at t.setting.sizes j) (slice_index t.setting.nodes (kind_of t.setting.sizes j)) j ≡ kinds_of_status.Ready → IsOf kinds_of_status.Ready (memory (Status j))
    ready j true row is = let lt : j < t.setting.sizes.slots + 1 = grind (arith, nat_tests) in status_is j kinds_of_status.Ready (omega (arith, lt)) is
    ready j false out is = (0, out_of_it (Status j) out)

    null_field : (g : ℕ) (b : Bool) → in_row t.setting.sizes (FieldOf 0 g) ≡ b → memory (FieldOf 0 g) ≡ 0
    null_field g true row = in_it (FieldOf 0 g) row
    null_field g false out = out_of_it (FieldOf 0 g) out

    beyond : (n : ℕ) → together t.setting.nodes + 1 ≤ n → fields_named n (first_memory t.text).nodes ≡ None
    beyond n le =
        let c = count in
        let e : n ≡ 1 + (n - 1) = omega (arith, le) in
        ap (λ (k : ℕ). fields_named k (named_from 1 t.text.nodes)) e ∙ (named_at 1 (n - 1) t.text.nodes
        ∙ ap (option_map firsts) (none_past t.text.nodes (n - 1) (omega (arith, le, c))))
