-- How the grammar reads the declarations that the spelling writes.
use Rattle.std.specs.Prelude.{◌≡◌, ℕ, zero, suc, ◌+◌, ◌^◌, ◌≤◌, true, false, List, [], ◌∷◌, ◌++◌, map, length, replicate, get_or, Ok, codes, decimal, nat_le, nat_lt, ◌==◌}
use Rattle.std.specs.List.{list_all, list_any}
use Rattle.std.proofs.Common.{refl, ap, ◌∙◌, sym, arith, length-append, append_assoc}
use Rattle.std.proofs.lemmas.Bool.{and_from, and_parts, lt-ltb, le-ltb, le-leb, eq-eqb}
use Rattle.std.proofs.lemmas.List.{append-nil, map-id, length-map, length-replicate}
use Rattle.norm_lang.specs.declared.text.FieldDecl.{FieldDecl}
use Rattle.norm_lang.specs.declared.text.RootDecl.{RootDecl}
use Rattle.norm_lang.specs.declared.text.NodeDecl.{NodeDecl}
use Rattle.norm_lang.specs.declared.text.Start.{Start}
use Rattle.norm_lang.specs.declared.text.Text.{Text}
use Rattle.norm_lang.specs.declared.text.Version.{Version}
use Rattle.norm_lang.specs.declared.text.Version.TheVariants.{First, Second}
use Rattle.norm_lang.specs.KindFields.{fields_of}
use Rattle.norm_lang.specs.Spelling.{kind_name, owner_words, kind_words, start_word, kind_lines, spelled_field, nodes_of, spelled_count, count_lines, spelled_node, spelled_root, declaration_lines}
use Rattle.norm_lang.specs.LineWords.{is_name, is_great, is_match}
use Rattle.norm_lang.specs.Declarations.{groups_begun, field_line, nodes_line, values_at, starts_of, are_matches, node_line, root_line}
use Rattle.norm_lang.specs.Grammar.{Section, Opening, Kinds, Fields, Counts, Nodes, Roots, Draft, no_op, draft_at, among_nodes, among_counts, with_count, after_words}
use Rattle.norm_lang.specs.Limits.{is_number, are_different, is_field, is_rising, is_start, are_starts, is_node, owners_of, is_root}
use Rattle.text_laws.specs.StandsFor.{KindsOf}
use Rattle.text_laws.proofs.WithinLimits.{Declared, KindParts, FieldParts, NodeParts, field_parts, node_parts, root_parts}
use Rattle.text_laws.proofs.WordsRead.{number_read, owner_read, holding_read, last_holding_read, holding_kind, holding_spelled, start_read_as, start_read, start_fits, start_found, start_matches, AreKinds}
use Rattle.text_laws.proofs.FieldGroups.{all_imply}
use Rattle.text_laws.proofs.InTurn.{name_in_turn, field_follows, field_has_room, every_begun, promised, promised_all, promised_few}
use Rattle.text_laws.proofs.SpelledFolds.{after_spelled, line_then, lines_then, items_read, passes_among, fresh_among}
use Rattle.text_laws.proofs.FewDeclared.{owned}

-- a draft among the declarations
abbrev pub declared : Version → Section → ℕ → List ℕ → List (List ℕ) → List FieldDecl → List NodeDecl → List RootDecl → Draft
declared version section counted owners kinds fields nodes roots = record {
  section = section;
  version = version;
  counted = counted;
  owners = owners;
  text = record { kinds = kinds; fields = fields; roots = roots; nodes = nodes; ops = [] };
  op = no_op;
  left = 0;
  entries = [];
}

-- after the version line, or among the kinds
abbrev among_kinds : List (List ℕ) → Draft
among_kinds [] = draft_at Second Opening
among_kinds (kind ∷ kinds) = declared Second Kinds 0 [] (kind ∷ kinds) [] [] []

kind_line_read : (done rest whole : List (List ℕ)) (name : List ℕ) → AreKinds Second whole → length whole ≤ 4 → done ++ name ∷ rest ≡ whole
    → after_words (among_kinds done) (codes "kind" ∷ name ∷ []) ≡ Ok (among_kinds (done ++ name ∷ []))
kind_line_read [] rest whole name are short same = rw (passes_among is_name [] rest whole name same are.names) refl
kind_line_read (first ∷ done) rest whole name are short same =
    let kinds = first ∷ done in
    let long : length whole ≡ length kinds + suc (length rest) = ap length (sym same) ∙ length-append kinds (name ∷ rest) in
    let room : nat_lt (length kinds) 4 ≡ true = lt-ltb (length kinds) 4 (omega arith) in
    rw (passes_among is_name kinds rest whole name same are.names, fresh_among (λ (kind : List ℕ). kind) kinds rest whole name same (ap are_different (map-id whole) ∙ are.different), room) refl

-- before the first field
abbrev opened : Version → Section
opened First = Opening
opened Second = Kinds

-- before the first field, or among the fields
abbrev among_fields : Version → List (List ℕ) → List FieldDecl → Draft
among_fields version kinds [] = declared version (opened version) 0 [] kinds [] [] []
among_fields version kinds (field ∷ fields) = declared version Fields 0 [] kinds (field ∷ fields) [] []

among_some_kinds : (kinds : List (List ℕ)) → 1 ≤ length kinds → among_kinds kinds ≡ among_fields Second kinds []
among_some_kinds [] some = absurd (omega (arith, some))
among_some_kinds (kind ∷ kinds) some = refl

pub kinds_read : (version : Version) (kinds : List (List ℕ)) → AreKinds version kinds → 1 ≤ length kinds → length kinds ≤ 4
    → after_spelled (draft_at version Opening) (kind_lines version kinds) ≡ Ok (among_fields version kinds [])
kinds_read First kinds are some short = rw are.of refl
kinds_read Second kinds are some short =
    items_read (λ name. codes "kind" ∷ name ∷ []) among_kinds kinds (λ done rest name same. kind_line_read done rest kinds name are short same) [] kinds refl
    ∙ ap Ok (among_some_kinds kinds some)

-- a field's line, after its first word
field_line_read : (version : Version) (kinds : List (List ℕ)) (done rest whole : List FieldDecl) (field : FieldDecl) → AreKinds version kinds → FieldParts (length kinds) whole → done ++ field ∷ rest ≡ whole
    → field_line version kinds done (owner_words version kinds field.owner ++ (field.name ∷ kind_words version kinds field.kind)) ≡ Ok field
field_line_read version kinds done rest whole field ks are same =
    let is = field_parts (length kinds) field (passes_among (is_field (length kinds)) done rest whole field same are.each) in
    rw (
      owner_read version kinds field.owner (field.name ∷ kind_words version kinds field.kind) ks is.owner,
      is.name,
      last_holding_read version kinds field.kind ks is.kind,
      field_follows (length kinds) done rest whole field same are.rising are.groups is.owner,
      holding_kind field.kind,
      fresh_among (λ (field : FieldDecl). field.name) done rest whole field same are.apart,
      field_has_room (length kinds) done rest whole field same are.rising are.groups is.owner,
    ) refl

field_read : (version : Version) (kinds : List (List ℕ)) (done rest whole : List FieldDecl) (field : FieldDecl) → AreKinds version kinds → FieldParts (length kinds) whole → done ++ field ∷ rest ≡ whole
    → after_words (among_fields version kinds done) (spelled_field version kinds field) ≡ Ok (among_fields version kinds (done ++ field ∷ []))
field_read First kinds [] rest whole field ks are same = rw (field_line_read First kinds [] rest whole field ks are same) refl
field_read Second kinds [] rest whole field ks are same = rw (field_line_read Second kinds [] rest whole field ks are same) refl
field_read version kinds (first ∷ done) rest whole field ks are same = rw (field_line_read version kinds (first ∷ done) rest whole field ks are same) refl

among_some : (version : Version) (kinds : List (List ℕ)) (fields : List FieldDecl) → 1 ≤ length fields → among_fields version kinds fields ≡ declared version Fields 0 [] kinds fields [] []
among_some version kinds [] some = absurd (omega (arith, some))
among_some version kinds (field ∷ fields) some = refl

pub fields_read : (version : Version) (kinds : List (List ℕ)) (fields : List FieldDecl) → AreKinds version kinds → FieldParts (length kinds) fields → 1 ≤ length fields
    → after_spelled (among_fields version kinds []) (map (spelled_field version kinds) fields) ≡ Ok (declared version Fields 0 [] kinds fields [] [])
fields_read version kinds fields ks are some =
    items_read (spelled_field version kinds) (among_fields version kinds) fields (λ done rest field same. field_read version kinds done rest fields field ks are same) [] fields refl
    ∙ ap Ok (among_some version kinds fields some)

-- after the counts of the first kinds, so many
abbrev counted : Version → List (List ℕ) → List FieldDecl → List NodeDecl → ℕ → Draft
counted version kinds fields nodes zero = declared version Fields 0 [] kinds fields [] []
counted version kinds fields nodes (suc k) = among_counts (declared version Counts (suc k) (promised (suc k) nodes) kinds fields [] [])

-- among the nodes of a list, or after them
abbrev pub behind_nodes : Version → List (List ℕ) → List FieldDecl → List NodeDecl → List NodeDecl → Draft
behind_nodes version kinds fields whole done = among_nodes (declared version Nodes (length kinds) (owners_of whole) kinds fields done [])

-- a count's line, after its first word
count_line_read : (version : Version) (kinds : List (List ℕ)) (k : ℕ) (nodes : List NodeDecl) → AreKinds version kinds → nat_lt k (length kinds) ≡ true → is_rising (owners_of nodes) ≡ true → length nodes ≤ 256
    → nodes_line version kinds k (length (promised k nodes)) (owner_words version kinds k ++ (decimal (length (nodes_of k nodes)) ∷ [])) ≡ Ok (length (nodes_of k nodes))
count_line_read version kinds k nodes ks within rising few =
    let count = length (nodes_of k nodes) in
    let all : length (promised (suc k) nodes) ≡ length (promised k nodes) + count = length-append (promised k nodes) (replicate count k) ∙ ap (λ n. length (promised k nodes) + n) (length-replicate count k) in
    let most : length (promised (suc k) nodes) ≤ length nodes = promised_few (suc k) nodes rising in
    let here : (k == k) ≡ true = eq-eqb k k refl in
    let room : nat_le (length (promised k nodes) + count) 256 ≡ true = le-leb (length (promised k nodes) + count) 256 (omega (arith, all, most, few)) in
    let small : is_number count ≡ true = lt-ltb count (2 ^ 64) (omega (arith, all, most, few)) in
    rw (owner_read version kinds k (decimal count ∷ []) ks within, number_read count small, here, room) refl

-- the draft with the next kind's count
next_counted : (version : Version) (kinds : List (List ℕ)) (fields : List FieldDecl) (nodes : List NodeDecl) (k : ℕ)
    → with_count (declared version Counts k (promised k nodes) kinds fields [] []) (length (nodes_of k nodes)) ≡ counted version kinds fields nodes (k + 1)
next_counted version kinds fields nodes k =
    let next : k + 1 ≡ suc k = omega arith in
    ap (λ n. among_counts (declared version Counts n (promised (suc k) nodes) kinds fields [] [])) next ∙ ap (counted version kinds fields nodes) (sym next)

-- while a kind lacks its count
still_counted : (version : Version) (kinds : List (List ℕ)) (fields : List FieldDecl) (nodes : List NodeDecl) (k : ℕ) → nat_lt (suc k) (length kinds) ≡ true
    → counted version kinds fields nodes (suc k) ≡ declared version Counts (suc k) (promised (suc k) nodes) kinds fields [] []
still_counted version kinds fields nodes k more = rw more refl

count_read : (version : Version) (kinds : List (List ℕ)) (fields : List FieldDecl) (nodes : List NodeDecl) (k : ℕ) → AreKinds version kinds → nat_lt k (length kinds) ≡ true
    → groups_begun fields ≡ length kinds → is_rising (owners_of nodes) ≡ true → length nodes ≤ 256
    → after_words (counted version kinds fields nodes k) (spelled_count version k (kind_name kinds k) nodes) ≡ Ok (counted version kinds fields nodes (k + 1))
count_read version kinds fields nodes zero ks within begun rising few =
    let every : (groups_begun fields == length kinds) ≡ true = eq-eqb (groups_begun fields) (length kinds) begun in
    rw (every, count_line_read version kinds 0 nodes ks within rising few) (ap Ok (next_counted version kinds fields nodes 0))
count_read version kinds fields nodes (suc k) ks within begun rising few =
    ap (λ draft. after_words draft (spelled_count version (suc k) (kind_name kinds (suc k)) nodes)) (still_counted version kinds fields nodes k within)
    ∙ (rw (count_line_read version kinds (suc k) nodes ks within rising few) (ap Ok (next_counted version kinds fields nodes (suc k))))

counts_from : (version : Version) (kinds : List (List ℕ)) (fields : List FieldDecl) (nodes : List NodeDecl) (k : ℕ) (done rest : List (List ℕ)) → AreKinds version kinds
    → groups_begun fields ≡ length kinds → is_rising (owners_of nodes) ≡ true → length nodes ≤ 256 → done ++ rest ≡ kinds → length done ≡ k
    → after_spelled (counted version kinds fields nodes k) (count_lines version k rest nodes) ≡ Ok (counted version kinds fields nodes (length kinds))
counts_from version kinds fields nodes k done [] ks begun rising few same at =
    let all : k ≡ length kinds = sym at ∙ ap length (sym (append-nil done)) ∙ ap length same in
    ap (λ n. Ok (counted version kinds fields nodes n)) all
counts_from version kinds fields nodes k done (name ∷ rest) ks begun rising few same at =
    let long : length kinds ≡ length done + suc (length rest) = ap length (sym same) ∙ length-append done (name ∷ rest) in
    let within : nat_lt k (length kinds) ≡ true = lt-ltb k (length kinds) (omega (arith, long, at)) in
    let named : kind_name kinds k ≡ name = ap (kind_name kinds) (sym at) ∙ ap (λ l. kind_name l (length done)) (sym same) ∙ name_in_turn done rest name in
    let next : length (done ++ name ∷ []) ≡ k + 1 = length-append done (name ∷ []) ∙ ap (λ n. n + 1) at in
    line_then (counted version kinds fields nodes k) (counted version kinds fields nodes (k + 1)) (spelled_count version k name nodes) (count_lines version (k + 1) rest nodes) (Ok (counted version kinds fields nodes (length kinds)))
    (ap (λ name. after_words (counted version kinds fields nodes k) (spelled_count version k name nodes)) (sym named) ∙ count_read version kinds fields nodes k ks within begun rising few)
    (counts_from version kinds fields nodes (k + 1) (done ++ name ∷ []) rest ks begun rising few (append_assoc done (name ∷ []) rest ∙ same) next)

all_counted : (version : Version) (kinds : List (List ℕ)) (fields : List FieldDecl) (nodes : List NodeDecl) (k : ℕ) → k ≡ length kinds → 1 ≤ k → promised k nodes ≡ owners_of nodes
    → counted version kinds fields nodes k ≡ behind_nodes version kinds fields nodes []
all_counted version kinds fields nodes zero all some promises = absurd (omega (arith, some))
all_counted version kinds fields nodes (suc k) all some promises =
    let none : nat_lt (suc k) (length kinds) ≡ false = le-ltb (suc k) (length kinds) (omega (arith, all)) in
    rw (none, promises, all) refl

node_owners : (kinds : ℕ) (fields : List FieldDecl) (owners : List ℕ) (nodes : List NodeDecl) → list_all (is_node kinds fields owners) nodes ≡ true → list_all (λ (node : NodeDecl). nat_lt node.owner kinds) nodes ≡ true
node_owners kinds fields owners nodes each = all_imply (is_node kinds fields owners) (λ node. nat_lt node.owner kinds) nodes (λ node is. (node_parts kinds fields owners node is).owner) each

pub counts_read : (version : Version) (kinds : List (List ℕ)) (fields : List FieldDecl) (nodes : List NodeDecl) → AreKinds version kinds → 1 ≤ length kinds → FieldParts (length kinds) fields
    → NodeParts (length kinds) fields nodes
    → after_spelled (declared version Fields 0 [] kinds fields [] []) (count_lines version 0 kinds nodes) ≡ Ok (behind_nodes version kinds fields nodes [])
counts_read version kinds fields nodes ks some fs ns =
    let begun : groups_begun fields ≡ length kinds = every_begun (length kinds) fields some fs.groups (owned (length kinds) fields fs.each) in
    let promises : promised (length kinds) nodes ≡ owners_of nodes = promised_all (length kinds) nodes ns.rising (node_owners (length kinds) fields (owners_of nodes) nodes ns.each) in
    counts_from version kinds fields nodes 0 [] kinds ks begun ns.rising ns.count refl refl ∙ ap Ok (all_counted version kinds fields nodes (length kinds) refl some promises)

values_read : (owners : List ℕ) (fields : List FieldDecl) (values : List Start) → length owners ≤ 256 → are_starts owners fields values ≡ true
    → values_at fields (map start_word values) ≡ Ok (map start_read_as values)
values_read owners [] [] few are = refl
values_read owners [] (start ∷ values) few are = let e : false ≡ true = are in absurd (let f : ⊥ = cc in f)
values_read owners (field ∷ fields) [] few are = let e : false ≡ true = are in absurd (let f : ⊥ = cc in f)
values_read owners (field ∷ fields) (start ∷ values) few are =
    let p = and_parts (is_start owners field.kind start) (are_starts owners fields values) are in
    rw (start_read owners field.kind start few p.0, values_read owners fields values few p.1) refl

values_fit : (values : List Start) → list_any is_great (map start_read_as values) ≡ false
values_fit [] = refl
values_fit (start ∷ values) = rw (start_fits start, values_fit values) refl

values_found : (owners : List ℕ) (fields : List FieldDecl) (values : List Start) → are_starts owners fields values ≡ true → starts_of (length owners) (map start_read_as values) ≡ Ok values
values_found owners [] [] are = refl
values_found owners [] (start ∷ values) are = let e : false ≡ true = are in absurd (let f : ⊥ = cc in f)
values_found owners (field ∷ fields) [] are = let e : false ≡ true = are in absurd (let f : ⊥ = cc in f)
values_found owners (field ∷ fields) (start ∷ values) are =
    let p = and_parts (is_start owners field.kind start) (are_starts owners fields values) are in
    rw (start_found owners field.kind start p.0, values_found owners fields values p.1) refl

values_match : (owners : List ℕ) (fields : List FieldDecl) (values : List Start) → are_starts owners fields values ≡ true → are_matches owners fields values ≡ true
values_match owners [] values are = refl
values_match owners (field ∷ fields) [] are = refl
values_match owners (field ∷ fields) (start ∷ values) are =
    let p = and_parts (is_start owners field.kind start) (are_starts owners fields values) are in
    and_from (is_match owners field.kind start) (are_matches owners fields values) (start_matches owners field.kind start p.0) (values_match owners fields values p.1)

-- a node's line, after its first word
node_line_read : (fields : List FieldDecl) (owners : List ℕ) (at : ℕ) (node : NodeDecl) → get_or owners at 0 ≡ node.owner → length owners ≤ 256
    → are_starts owners (fields_of node.owner fields) node.values ≡ true → node_line fields owners at (map start_word node.values) ≡ Ok node
node_line_read fields owners at node owner few starts =
    let own = fields_of node.owner fields in
    rw (owner, values_read owners own node.values few starts, values_fit node.values, values_found owners own node.values starts, values_match owners own node.values starts) refl

owner_there : (done rest : List NodeDecl) (node : NodeDecl) → get_or (owners_of (done ++ node ∷ rest)) (length done) 0 ≡ node.owner
owner_there [] rest node = refl
owner_there (first ∷ done) rest node = owner_there done rest node

node_read : (version : Version) (kinds : List (List ℕ)) (fields : List FieldDecl) (done rest whole : List NodeDecl) (node : NodeDecl) → NodeParts (length kinds) fields whole → done ++ node ∷ rest ≡ whole
    → after_words (behind_nodes version kinds fields whole done) (spelled_node node) ≡ Ok (behind_nodes version kinds fields whole (done ++ node ∷ []))
node_read version kinds fields done rest whole node ns same =
    let owners = owners_of whole in
    let count : length owners ≡ length whole = length-map whole (λ (node : NodeDecl). node.owner) in
    let long : length whole ≡ length done + suc (length rest) = ap length (sym same) ∙ length-append done (node ∷ rest) in
    let more : nat_lt (length done) (length owners) ≡ true = lt-ltb (length done) (length owners) (omega (arith, count, long)) in
    let owner : get_or owners (length done) 0 ≡ node.owner = ap (λ l. get_or (owners_of l) (length done) 0) (sym same) ∙ owner_there done rest node in
    let is = node_parts (length kinds) fields owners node (passes_among (is_node (length kinds) fields owners) done rest whole node same ns.each) in
    rw (more, node_line_read fields owners (length done) node owner (omega (arith, count, ns.count)) is.starts) refl

pub nodes_read : (version : Version) (kinds : List (List ℕ)) (fields : List FieldDecl) (nodes : List NodeDecl) → NodeParts (length kinds) fields nodes
    → after_spelled (behind_nodes version kinds fields nodes []) (map spelled_node nodes) ≡ Ok (declared version Roots (length kinds) (owners_of nodes) kinds fields nodes [])
nodes_read version kinds fields nodes ns =
    let count : length (owners_of nodes) ≡ length nodes = length-map nodes (λ (node : NodeDecl). node.owner) in
    let none : nat_lt (length nodes) (length (owners_of nodes)) ≡ false = le-ltb (length nodes) (length (owners_of nodes)) (omega (arith, count)) in
    items_read spelled_node (behind_nodes version kinds fields nodes) nodes (λ done rest node same. node_read version kinds fields done rest nodes node ns same) [] nodes refl
    ∙ (rw none refl)

-- the roots of a text, with these kinds of its initial nodes
abbrev pub RootParts : ℕ → List ℕ → List RootDecl → Type 0
RootParts kinds owners roots = Declared 1 256 (λ root. root.name) (is_root kinds owners) roots

-- a root's line, after its first word
root_line_read : (version : Version) (kinds : List (List ℕ)) (owners : List ℕ) (done rest whole : List RootDecl) (root : RootDecl) → AreKinds version kinds → length owners ≤ 256
    → RootParts (length kinds) owners whole → done ++ root ∷ rest ≡ whole
    → root_line version kinds owners done (root.name ∷ (kind_words version kinds root.kind ++ (start_word root.start ∷ []))) ≡ Ok root
root_line_read version kinds owners done rest whole root ks few rs same =
    let long : length whole ≡ length done + suc (length rest) = ap length (sym same) ∙ length-append done (root ∷ rest) in
    let room : nat_lt (length done) 256 ≡ true = lt-ltb (length done) 256 (omega (arith, long, (rs.count).few)) in
    let is = root_parts (length kinds) owners root (passes_among (is_root (length kinds) owners) done rest whole root same rs.each) in
    rw (
      is.name,
      holding_read version kinds root.kind (start_word root.start ∷ []) ks is.kind,
      holding_spelled root.kind,
      start_read owners root.kind root.start few is.start,
      start_found owners root.kind root.start is.start,
      holding_kind root.kind,
      fresh_among (λ (root : RootDecl). root.name) done rest whole root same rs.apart,
      room,
      start_matches owners root.kind root.start is.start,
    ) refl

pub roots_read : (version : Version) (kinds : List (List ℕ)) (fields : List FieldDecl) (nodes : List NodeDecl) (roots : List RootDecl) → AreKinds version kinds → length (owners_of nodes) ≤ 256
    → RootParts (length kinds) (owners_of nodes) roots
    → after_spelled (declared version Roots (length kinds) (owners_of nodes) kinds fields nodes []) (map (spelled_root version kinds) roots) ≡ Ok (declared version Roots (length kinds) (owners_of nodes) kinds fields nodes roots)
roots_read version kinds fields nodes roots ks few rs =
    items_read (spelled_root version kinds) (declared version Roots (length kinds) (owners_of nodes) kinds fields nodes) roots
    (λ done rest root same. rw (root_line_read version kinds (owners_of nodes) done rest roots root ks few rs same) refl) [] roots refl

-- the declarations of a text that stands in a version are within the limits
pub record AreDeclared (version : Version) (text : Text) : Type 0 where
  pub of : KindsOf version text.kinds
  pub kinds : KindParts text.kinds
  pub fields : FieldParts (length text.kinds) text.fields
  pub nodes : NodeParts (length text.kinds) text.fields text.nodes
  pub roots : RootParts (length text.kinds) (owners_of text.nodes) text.roots

-- the kinds' names
pub kinds_named : (version : Version) (text : Text) → AreDeclared version text → AreKinds version text.kinds
kinds_named version text are = record { of = are.of; names = (are.kinds).each; different = (are.kinds).apart }

-- each kind has a field
some_declared : (kinds : ℕ) (fields : List FieldDecl) → 1 ≤ kinds → FieldParts kinds fields → 1 ≤ length fields
some_declared kinds [] some fs =
    let none : 0 ≡ kinds = every_begun kinds [] some fs.groups (owned kinds [] fs.each) in
    absurd (omega (arith, none, some))
some_declared kinds (field ∷ fields) some fs = omega arith

-- after the declarations the roots stand
pub declarations_read : (version : Version) (text : Text) → AreDeclared version text
    → after_spelled (draft_at version Opening) (declaration_lines version text)
    ≡ Ok (declared version Roots (length text.kinds) (owners_of text.nodes) text.kinds text.fields text.nodes text.roots)
declarations_read version text are =
    let kinds = text.kinds in
    let fields = text.fields in
    let nodes = text.nodes in
    let ks = kinds_named version text are in
    let some : 1 ≤ length kinds = ((are.kinds).count).some in
    let before : Draft = among_fields version kinds [] in
    let behind_fields : Draft = declared version Fields 0 [] kinds fields [] [] in
    let before_nodes : Draft = behind_nodes version kinds fields nodes [] in
    let before_roots : Draft = declared version Roots (length kinds) (owners_of nodes) kinds fields nodes [] in
    let last = Ok (declared version Roots (length kinds) (owners_of nodes) kinds fields nodes text.roots) in
    let root_lines = map (spelled_root version kinds) text.roots in
    let node_lines = map spelled_node nodes in
    let counts = count_lines version 0 kinds nodes in
    lines_then (draft_at version Opening) before (kind_lines version kinds) (map (spelled_field version kinds) fields ++ (counts ++ (node_lines ++ root_lines))) last
    (kinds_read version kinds ks some ((are.kinds).count).few)
    (lines_then before behind_fields (map (spelled_field version kinds) fields) (counts ++ (node_lines ++ root_lines)) last
    (fields_read version kinds fields ks are.fields (some_declared (length kinds) fields some are.fields))
    (lines_then behind_fields before_nodes counts (node_lines ++ root_lines) last
    (counts_read version kinds fields nodes ks some are.fields are.nodes)
    (lines_then before_nodes before_roots node_lines root_lines last
    (nodes_read version kinds fields nodes are.nodes)
    (roots_read version kinds fields nodes text.roots ks (let count = length-map nodes (λ (node : NodeDecl). node.owner) in omega (arith, count, (are.nodes).count)) are.roots))))
