-- The lines so far are those that spell what they declare, whichever line comes next.
use Rattle.std.specs.Prelude.{◌≡◌, ℕ, zero, suc, ◌+◌, ◌<◌, ◌≤◌, Bool, true, false, not, ◌&&◌, List, [], ◌∷◌, ◌++◌, map, length, replicate, IfOk, codes, decimal, nat_lt, ◌==◌, if◌then◌else◌}
use Rattle.std.specs.List.{list_all, flat_map, filter}
use Rattle.std.specs.Str.{bytes_eq}
use Rattle.std.proofs.Common.{refl, ap, ◌∙◌, sym, arith, append_assoc, length-append, inl, inr}
use Rattle.std.proofs.lemmas.Bool.{and_parts, eqb-true, not_from_false}
use Rattle.std.proofs.lemmas.Bool.Decides.{nat_tests}
use Rattle.std.proofs.lemmas.Grind.{flat_map-append}
use Rattle.std.proofs.lemmas.List.{map-append, append-nil, length-replicate}
use Rattle.std.proofs.lemmas.List.Elements.{filter-append}
use Rattle.norm_lang.specs.declared.text.FieldDecl.{FieldDecl}
use Rattle.norm_lang.specs.declared.text.RootDecl.{RootDecl}
use Rattle.norm_lang.specs.declared.text.NodeDecl.{NodeDecl}
use Rattle.norm_lang.specs.declared.text.CasEntry.{CasEntry}
use Rattle.norm_lang.specs.declared.text.Instr.{Instr}
use Rattle.norm_lang.specs.declared.text.Instr.TheVariants as instr
use Rattle.norm_lang.specs.declared.text.Op.{Op}
use Rattle.norm_lang.specs.declared.text.Text.{Text}
use Rattle.norm_lang.specs.declared.text.Version.{Version}
use Rattle.norm_lang.specs.declared.text.Version.TheVariants.{First, Second}
use Rattle.norm_lang.specs.Faults.{form_fault, too_many}
use Rattle.norm_lang.specs.Declarations.{version_line, kind_line, groups_begun, field_line, nodes_line, node_line, root_line, op_line, use_line}
use Rattle.norm_lang.specs.Instructions.{Step, Whole, Commits, step_line, entry_line}
use Rattle.norm_lang.specs.Spelling.{kind_name, owner_words, spelled_version, kind_lines, spelled_field, spelled_count, count_lines, spelled_node, spelled_root, spelled_op, spelled_entry, instr_lines, code_lines, op_lines, declaration_lines, spelled_by}
use Rattle.norm_lang.specs.Limits.{owners_of}
use Rattle.norm_lang.specs.Grammar.{Section, Start, Opening, Kinds, Fields, Counts, Nodes, Roots, Begun, Generator, WrapUp, Shipped, Draft, first_kinds, draft_at, is_comment, after_words, among_nodes, among_counts, with_whole_op, with_entries, with_step, has_room, in_start, next_kind, next_field, next_count, first_declared, in_kinds, in_fields, in_counts, in_opening, in_nodes, in_roots, in_begun, in_method, in_generator, in_wrap_up, in_section, in_place, finished_in, finished}
use Rattle.text_laws.specs.StandsFor.{MayBeIn, begins_with_hash, is_skipped, NamesText, SaysText}
use Rattle.text_laws.proofs.Readings.{then_has, demanded, either}
use Rattle.text_laws.proofs.FieldGroups.{all_imply, all_repeated}
use Rattle.text_laws.proofs.InTurn.{name_in_turn, none_kept, all_kept, nodes_counted}
use Rattle.text_laws.proofs.WordsSaid.{same_word, end_then}
use Rattle.text_laws.proofs.DeclarationsSaid.{SaysOp, NamesBy, version_said, kind_said, field_said, nodes_said, node_said, root_said, op_said, use_said}
use Rattle.text_laws.proofs.InstrsSaid.{StepSays, step_said, entry_said}
use Rattle.text_laws.proofs.DraftLimits.{Keeps, Kept}

abbrev pub Lines : Type 0
Lines = List (List (List ℕ))

-- how many of the promised nodes are of a kind
abbrev pub promised_of : ℕ → List ℕ → ℕ
promised_of k owners = length (filter (λ n. n == k) owners)

-- the line of a kind's count, with nodes of these kinds promised
abbrev pub promised_line : Version → List (List ℕ) → List ℕ → ℕ → List (List ℕ)
promised_line version kinds owners k = codes "nodes" ∷ (owner_words version kinds k ++ (decimal (promised_of k owners) ∷ []))

-- the lines of the counts of the first kinds, so many
abbrev pub promised_lines : Version → List (List ℕ) → List ℕ → ℕ → Lines
promised_lines version kinds owners zero = []
promised_lines version kinds owners (suc k) = promised_lines version kinds owners k ++ promised_line version kinds owners k ∷ []

-- the lines of the kinds and fields so far
abbrev pub field_lines : Version → Text → Lines
field_lines version text = spelled_version version ∷ (kind_lines version text.kinds ++ map (spelled_field version text.kinds) text.fields)

-- the lines of the declarations so far, with so many kinds counted and nodes of these kinds promised
abbrev pub declared_lines : Version → ℕ → List ℕ → Text → Lines
declared_lines version counted owners text =
    spelled_version version
    ∷ (kind_lines version text.kinds
    ++ (map (spelled_field version text.kinds) text.fields
    ++ (promised_lines version text.kinds owners counted
    ++ (map spelled_node text.nodes
    ++ map (spelled_root version text.kinds) text.roots))))

-- the line of a commit whose entry lines are still to come, and the entry lines before them
abbrev pub pending_lines : List FieldDecl → List RootDecl → ℕ → List CasEntry → Lines
pending_lines fields roots zero entries = []
pending_lines fields roots (suc left) entries = (codes "commit" ∷ decimal (length entries + suc left) ∷ []) ∷ map (spelled_entry fields roots) entries

-- the lines of a method so far
abbrev pub code_so_far_lines : Version → List (List ℕ) → List FieldDecl → List RootDecl → List Instr → ℕ → List CasEntry → Lines
code_so_far_lines version kinds fields roots code left entries = code_lines version kinds fields roots code ++ pending_lines fields roots left entries

-- the lines before a generator's, and before a wrap-up's
abbrev pub before_generator : Version → Text → Op → Lines
before_generator version text op = spelled_by version text ++ (spelled_op op ∷ (codes "gen" ∷ []) ∷ [])

abbrev pub before_wrap_up : Version → Text → Op → Lines
before_wrap_up version text op = spelled_by version text ++ (spelled_op op ∷ (codes "gen" ∷ []) ∷ (code_lines version text.kinds text.fields text.roots op.generator ++ (codes "wrap" ∷ []) ∷ []))

-- the lines, with no entry line still to come
pub record Says (lines expected : Lines) (left : ℕ) : Type 0 where
  pub said : lines ≡ expected
  pub whole : left ≡ 0

-- right after the version line
pub record SaysOpening (draft : Draft) (lines : Lines) : Type 0 where
  pub said : lines ≡ spelled_version draft.version ∷ []
  pub kinds : draft.text.kinds ≡ first_kinds draft.version
  pub whole : draft.left ≡ 0

pub record SaysBegun (draft : Draft) (lines : Lines) : Type 0 where
  may : MayBeIn draft.version draft.text
  said : lines ≡ spelled_by draft.version draft.text ++ (spelled_op draft.op ∷ [])
  no_generator : draft.op.generator ≡ []
  no_wrap_up : draft.op.wrapup ≡ []
  whole : draft.left ≡ 0

pub record SaysGenerator (draft : Draft) (lines : Lines) : Type 0 where
  may : MayBeIn draft.version draft.text
  said : lines ≡ before_generator draft.version draft.text draft.op ++ code_so_far_lines draft.version draft.text.kinds draft.text.fields draft.text.roots draft.op.generator draft.left draft.entries
  no_wrap_up : draft.op.wrapup ≡ []

pub record SaysWrapUp (draft : Draft) (lines : Lines) : Type 0 where
  may : MayBeIn draft.version draft.text
  said : lines ≡ before_wrap_up draft.version draft.text draft.op ++ code_so_far_lines draft.version draft.text.kinds draft.text.fields draft.text.roots draft.op.wrapup draft.left draft.entries

pub record SaysShipped (draft : Draft) (lines : Lines) : Type 0 where
  named : NamesText lines draft.text
  whole : draft.left ≡ 0

-- what the lines so far are, for a draft at a section
abbrev pub SaysIn : Section → Draft → Lines → Type 0
SaysIn Start draft lines = Says lines [] draft.left
SaysIn Opening draft lines = SaysOpening draft lines
SaysIn Kinds draft lines = Says lines (spelled_version draft.version ∷ kind_lines draft.version draft.text.kinds) draft.left
SaysIn Fields draft lines = Says lines (field_lines draft.version draft.text) draft.left
SaysIn Counts draft lines = Says lines (declared_lines draft.version draft.counted draft.owners draft.text) draft.left
SaysIn Nodes draft lines = Says lines (declared_lines draft.version draft.counted draft.owners draft.text) draft.left
SaysIn Roots draft lines = Says lines (declared_lines draft.version draft.counted draft.owners draft.text) draft.left
SaysIn Begun draft lines = SaysBegun draft lines
SaysIn Generator draft lines = SaysGenerator draft lines
SaysIn WrapUp draft lines = SaysWrapUp draft lines
SaysIn Shipped draft lines = SaysShipped draft lines

-- the lines are those of the draft
abbrev pub SaidIn : Lines → Draft → Type 0
SaidIn lines draft = SaysIn draft.section draft lines

-- a draft at a section, with no entry line still to come
abbrev pub at : Section → Draft → Draft
at section draft = record draft { section = section; left = 0 }

-- one more kind, in the second version
kind_lines_more : (version : Version) (kinds : List (List ℕ)) (name : List ℕ) → version ≡ Second → kind_lines version (kinds ++ name ∷ []) ≡ kind_lines version kinds ++ (codes "kind" ∷ name ∷ []) ∷ []
kind_lines_more First kinds name second = let f : ⊥ = cc in absurd f
kind_lines_more Second kinds name second = map-append (λ name. codes "kind" ∷ name ∷ []) kinds (name ∷ [])

no_kind_lines : (version : Version) (kinds : List (List ℕ)) → kinds ≡ first_kinds version → kind_lines version kinds ≡ []
no_kind_lines First kinds none = refl
no_kind_lines Second kinds none = rw none refl

-- one more count changes no earlier one
count_kept : (k j count : ℕ) (owners : List ℕ) → j < k → promised_of j (owners ++ replicate count k) ≡ promised_of j owners
count_kept k j count owners before =
    let other : (k == j) ≡ false = grind (arith, nat_tests, before) in
    let none : filter (λ n. n == j) (replicate count k) ≡ [] = none_kept (λ n. n == j) (replicate count k) (all_repeated (λ n. not (n == j)) count k (not_from_false (k == j) other)) in
    ap length (filter-append (λ n. n == j) owners (replicate count k) ∙ ap (λ l. filter (λ n. n == j) owners ++ l) none ∙ append-nil (filter (λ n. n == j) owners))

-- what is counted is promised
count_made : (k count : ℕ) (owners : List ℕ) → list_all (λ n. nat_lt n k) owners ≡ true → promised_of k (owners ++ replicate count k) ≡ count
count_made k count owners below =
    let none : filter (λ n. n == k) owners ≡ [] = none_kept (λ n. n == k) owners (all_imply (λ n. nat_lt n k) (λ n. not (n == k)) owners (λ n less. another n less) below) in
    let same : (k == k) ≡ true = grind (arith, nat_tests) in
    let all : filter (λ n. n == k) (replicate count k) ≡ replicate count k = all_kept (λ n. n == k) (replicate count k) (all_repeated (λ n. n == k) count k same) in
    ap length (filter-append (λ n. n == k) owners (replicate count k)) ∙ (rw (none, all) (length-replicate count k))
  where
    another : (n : ℕ) → nat_lt n k ≡ true → not (n == k) ≡ true
    another n less = let other : (n == k) ≡ false = grind (arith, nat_tests) in not_from_false (n == k) other

promised_kept : (version : Version) (kinds : List (List ℕ)) (owners : List ℕ) (count k j : ℕ) → j ≤ k → promised_lines version kinds (owners ++ replicate count k) j ≡ promised_lines version kinds owners j
promised_kept version kinds owners count k zero within = refl
promised_kept version kinds owners count k (suc j) within =
    rw (promised_kept version kinds owners count k j (omega (arith, within)), count_kept k j count owners (omega (arith, within))) refl

-- one more count
promised_more : (version : Version) (kinds : List (List ℕ)) (owners : List ℕ) (count k : ℕ) → list_all (λ n. nat_lt n k) owners ≡ true
    → promised_lines version kinds (owners ++ replicate count k) (k + 1) ≡ promised_lines version kinds owners k ++ (codes "nodes" ∷ (owner_words version kinds k ++ (decimal count ∷ []))) ∷ []
promised_more version kinds owners count k below =
    let next : k + 1 ≡ suc k = omega arith in
    ap (promised_lines version kinds (owners ++ replicate count k)) next ∙ (rw (promised_kept version kinds owners count k k (omega arith), count_made k count owners below) refl)

-- once all kinds are counted and all nodes stand, the lines of the counts are those of the nodes
promised_from : (version : Version) (kinds : List (List ℕ)) (nodes : List NodeDecl) (k : ℕ) (done rest : List (List ℕ)) → done ++ rest ≡ kinds → length done ≡ k
    → promised_lines version kinds (owners_of nodes) k ++ count_lines version k rest nodes ≡ promised_lines version kinds (owners_of nodes) (length kinds)
promised_from version kinds nodes k done [] same at =
    let all : k ≡ length kinds = sym at ∙ ap length (sym (append-nil done)) ∙ ap length same in
    append-nil (promised_lines version kinds (owners_of nodes) k) ∙ ap (promised_lines version kinds (owners_of nodes)) all
promised_from version kinds nodes k done (name ∷ rest) same at =
    let lines = promised_lines version kinds (owners_of nodes) in
    let named : kind_name kinds k ≡ name = ap (kind_name kinds) (sym at) ∙ ap (λ l. kind_name l (length done)) (sym same) ∙ name_in_turn done rest name in
    let next : length (done ++ name ∷ []) ≡ k + 1 = length-append done (name ∷ []) ∙ ap (λ n. n + 1) at in
    let line : spelled_count version k name nodes ≡ promised_line version kinds (owners_of nodes) k = rw (sym named, nodes_counted k nodes) refl in
    let more : suc k ≡ k + 1 = omega arith in
    ap (λ l. lines k ++ l ∷ count_lines version (k + 1) rest nodes) line
    ∙ sym (append_assoc (lines k) (promised_line version kinds (owners_of nodes) k ∷ []) (count_lines version (k + 1) rest nodes))
    ∙ ap (λ n. lines n ++ count_lines version (k + 1) rest nodes) more
    ∙ promised_from version kinds nodes (k + 1) (done ++ name ∷ []) rest (append_assoc done (name ∷ []) rest ∙ same) next

-- the lines of whole declarations
pub whole_declared : (version : Version) (counted : ℕ) (owners : List ℕ) (text : Text) → counted ≡ length text.kinds → owners_of text.nodes ≡ owners
    → declared_lines version counted owners text ≡ spelled_version version ∷ declaration_lines version text
whole_declared version counted owners text all_counted all =
    let lines : promised_lines version text.kinds owners counted ≡ count_lines version 0 text.kinds text.nodes =
    ap (promised_lines version text.kinds owners) all_counted ∙ ap (λ l. promised_lines version text.kinds l (length text.kinds)) (sym all) ∙ sym (promised_from version text.kinds text.nodes 0 [] text.kinds refl refl) in
    rw lines refl

-- lists of lines with one more
one_more_field : (version line : List (List ℕ)) (kinds fields : Lines) → (version ∷ (kinds ++ fields)) ++ line ∷ [] ≡ version ∷ (kinds ++ (fields ++ line ∷ []))
one_more_field version line kinds fields = simp append_assoc

one_more_count : (version line : List (List ℕ)) (kinds fields counts : Lines) → (version ∷ (kinds ++ (fields ++ counts))) ++ line ∷ [] ≡ version ∷ (kinds ++ (fields ++ ((counts ++ line ∷ []) ++ ([] ++ []))))
one_more_count version line kinds fields counts = simp (append_assoc, append-nil)

one_more_node : (version line : List (List ℕ)) (kinds fields counts nodes : Lines)
    → (version ∷ (kinds ++ (fields ++ (counts ++ (nodes ++ []))))) ++ line ∷ [] ≡ version ∷ (kinds ++ (fields ++ (counts ++ ((nodes ++ line ∷ []) ++ []))))
one_more_node version line kinds fields counts nodes = simp (append_assoc, append-nil)

one_more_root : (version line : List (List ℕ)) (kinds fields counts nodes roots : Lines)
    → (version ∷ (kinds ++ (fields ++ (counts ++ (nodes ++ roots))))) ++ line ∷ [] ≡ version ∷ (kinds ++ (fields ++ (counts ++ (nodes ++ (roots ++ line ∷ [])))))
one_more_root version line kinds fields counts nodes roots = simp append_assoc

after_declarations : (version line : List (List ℕ)) (declared : Lines) → (version ∷ declared) ++ line ∷ [] ≡ (version ∷ (declared ++ [])) ++ line ∷ []
after_declarations version line declared = ap (λ l. (version ∷ l) ++ line ∷ []) (sym (append-nil declared))

module _ (draft : Draft) (word : List ℕ) (rest : List (List ℕ)) (lines : Lines) where
  -- the lines with this one
  abbrev more : Lines
  more = lines ++ (word ∷ rest) ∷ []

  start_said : SaysIn Start draft lines → IfOk (in_start (at Start draft) word rest) (SaidIn more)
  start_said h = either (bytes_eq word (codes "oa")) _ _ (SaidIn more)
      (λ e. then_has (version_line rest) _ (λ version. codes "oa" ∷ rest ≡ spelled_version version) _ (version_said rest) λ version same.
      record { said = rw (h.said, same_word word (codes "oa") e, same) refl; kinds = refl; whole = refl }) λ _. tt

  next_kind_said : (section : Section) → lines ≡ spelled_version draft.version ∷ kind_lines draft.version draft.text.kinds → draft.version ≡ Second → bytes_eq word (codes "kind") ≡ true
      → IfOk (next_kind (at section draft) rest) (SaidIn more)
  next_kind_said section said second e =
      then_has (kind_line draft.text.kinds rest) _ (λ name. rest ≡ name ∷ []) (SaidIn more) (kind_said draft.text.kinds rest) λ name same.
      record { said = rw (said, same_word word (codes "kind") e, same, kind_lines_more draft.version draft.text.kinds name second) refl; whole = refl }

  next_field_said : (section : Section) → lines ≡ field_lines draft.version draft.text → bytes_eq word (codes "field") ≡ true → IfOk (next_field (at section draft) rest) (SaidIn more)
  next_field_said section said e =
      then_has (field_line draft.version draft.text.kinds draft.text.fields rest) _ (λ field. codes "field" ∷ rest ≡ spelled_field draft.version draft.text.kinds field) (SaidIn more)
      (field_said draft.version draft.text.kinds draft.text.fields rest) λ field same. record {
        said =
            rw (said, same_word word (codes "field") e, same, map-append (spelled_field draft.version draft.text.kinds) draft.text.fields (field ∷ []))
            (one_more_field (spelled_version draft.version) (spelled_field draft.version draft.text.kinds field) (kind_lines draft.version draft.text.kinds) (map (spelled_field draft.version draft.text.kinds) draft.text.fields));
        whole = refl;
      }

  -- once all nodes are declared, roots follow
  among_said : (counted : ℕ) (owners : List ℕ) (text : Text) → more ≡ declared_lines draft.version counted owners text
      → SaidIn more (among_nodes (record (at Nodes draft) { counted = counted; owners = owners; text = text }))
  among_said counted owners text said = go (nat_lt (length text.nodes) (length owners))
    where
      go : (b : Bool) → SaidIn more (record (at Nodes draft) { counted = counted; owners = owners; text = text; section = if b then Nodes else Roots })
      go true = record { said = said; whole = refl }
      go false = record { said = said; whole = refl }

  -- once all kinds are counted, nodes follow
  counts_said : (counted : ℕ) (owners : List ℕ) → more ≡ declared_lines draft.version counted owners draft.text
      → SaidIn more (among_counts (record (at Nodes draft) { counted = counted; owners = owners }))
  counts_said counted owners said = go (nat_lt counted (length draft.text.kinds))
    where
      go : (b : Bool) → SaidIn more (if b then record (record (at Nodes draft) { counted = counted; owners = owners }) { section = Counts } else among_nodes (record (at Nodes draft) { counted = counted; owners = owners }))
      go true = record { said = said; whole = refl }
      go false = among_said counted owners draft.text said

  next_count_said : (section : Section) → lines ≡ spelled_version draft.version ∷ (kind_lines draft.version draft.text.kinds ++ (map (spelled_field draft.version draft.text.kinds) draft.text.fields ++ promised_lines draft.version draft.text.kinds draft.owners draft.counted))
      → list_all (λ n. nat_lt n draft.counted) draft.owners ≡ true → draft.text.nodes ≡ [] → draft.text.roots ≡ [] → bytes_eq word (codes "nodes") ≡ true
      → IfOk (next_count (at section draft) rest) (SaidIn more)
  next_count_said section said below nodes roots e =
      then_has (nodes_line draft.version draft.text.kinds draft.counted (length draft.owners) rest) _ (λ count. rest ≡ owner_words draft.version draft.text.kinds draft.counted ++ (decimal count ∷ [])) (SaidIn more)
      (nodes_said draft.version draft.text.kinds draft.counted (length draft.owners) rest) λ count same.
      counts_said (draft.counted + 1) (draft.owners ++ replicate count draft.counted)
      (rw (said, same_word word (codes "nodes") e, same, nodes, roots, promised_more draft.version draft.text.kinds draft.owners count draft.counted below)
      (one_more_count (spelled_version draft.version) (codes "nodes" ∷ (owner_words draft.version draft.text.kinds draft.counted ++ (decimal count ∷ []))) (kind_lines draft.version draft.text.kinds)
      (map (spelled_field draft.version draft.text.kinds) draft.text.fields) (promised_lines draft.version draft.text.kinds draft.owners draft.counted)))

  opening_said : SaysIn Opening draft lines → draft.text.fields ≡ [] → IfOk (in_opening (at Opening draft) word rest) (SaidIn more)
  opening_said h fields =
      either (bytes_eq word (codes "use")) _ _ (SaidIn more)
      (λ e. then_has (use_line rest) _ (NamesBy (codes "use" ∷ rest)) _ (use_said rest) λ text by.
      record { named = (draft.version, by.shipped, by.may_be, named_line (same_word word (codes "use") e) by.line, by.named); whole = refl })
      (λ _. first_said draft.version refl)
    where
      named_line : {words : List (List ℕ)} → word ≡ codes "use" → codes "use" ∷ rest ≡ words → more ≡ spelled_version draft.version ∷ words ∷ []
      named_line is same = rw (h.said, is, same) refl

      no_lines : kind_lines draft.version draft.text.kinds ≡ []
      no_lines = no_kind_lines draft.version draft.text.kinds h.kinds

      first_said : (version : Version) → draft.version ≡ version → IfOk (first_declared version (at Opening draft) word rest) (SaidIn more)
      first_said First is = either (bytes_eq word (codes "field")) _ _ (SaidIn more) (λ e. next_field_said Opening (h.said ∙ (rw (no_lines, fields) refl)) e) λ _. tt
      first_said Second is = either (bytes_eq word (codes "kind")) _ _ (SaidIn more) (λ e. next_kind_said Opening (h.said ∙ (rw no_lines refl)) is e) λ _. tt

  kinds_said : SaysIn Kinds draft lines → draft.version ≡ Second → draft.text.fields ≡ [] → IfOk (in_kinds (at Kinds draft) word rest) (SaidIn more)
  kinds_said h second fields =
      either (bytes_eq word (codes "kind")) _ _ (SaidIn more) (λ e. next_kind_said Kinds h.said second e) λ _.
      either (bytes_eq word (codes "field")) _ _ (SaidIn more) (λ e. next_field_said Kinds (h.said ∙ (rw (fields, append-nil (kind_lines draft.version draft.text.kinds)) refl)) e) λ _. tt

  fields_said : SaysIn Fields draft lines → draft.counted ≡ 0 → draft.owners ≡ [] → draft.text.nodes ≡ [] → draft.text.roots ≡ [] → IfOk (in_fields (at Fields draft) word rest) (SaidIn more)
  fields_said h counted owners nodes roots =
      either (bytes_eq word (codes "field")) _ _ (SaidIn more) (λ e. next_field_said Fields h.said e) λ _.
      either (bytes_eq word (codes "nodes") && groups_begun draft.text.fields == length draft.text.kinds) _ _ (SaidIn more)
      (λ e. next_count_said Fields (h.said ∙ (rw (counted, append-nil (map (spelled_field draft.version draft.text.kinds) draft.text.fields)) refl)) (rw owners refl) nodes roots (first e)) λ _. tt
    where
      first : bytes_eq word (codes "nodes") && groups_begun draft.text.fields == length draft.text.kinds ≡ true → bytes_eq word (codes "nodes") ≡ true
      first e = (and_parts _ _ e).0

  counts_lines_said : SaysIn Counts draft lines → list_all (λ n. nat_lt n draft.counted) draft.owners ≡ true → draft.text.nodes ≡ [] → draft.text.roots ≡ [] → IfOk (in_counts (at Counts draft) word rest) (SaidIn more)
  counts_lines_said h below nodes roots =
      either (bytes_eq word (codes "nodes")) _ _ (SaidIn more)
      (λ e. next_count_said Counts (h.said ∙ (rw (nodes, roots, append-nil (promised_lines draft.version draft.text.kinds draft.owners draft.counted)) refl)) below nodes roots e) λ _. tt

  nodes_lines_said : SaysIn Nodes draft lines → draft.text.roots ≡ [] → IfOk (in_nodes (at Nodes draft) word rest) (SaidIn more)
  nodes_lines_said h roots =
      either (bytes_eq word (codes "node")) _ _ (SaidIn more)
      (λ e. then_has (node_line draft.text.fields draft.owners (length draft.text.nodes) rest) _ (λ node. codes "node" ∷ rest ≡ spelled_node node) _ (node_said draft.text.fields draft.owners (length draft.text.nodes) rest) λ node same.
      among_said draft.counted draft.owners (record draft.text { nodes = draft.text.nodes ++ node ∷ [] })
      (rw (h.said, same_word word (codes "node") e, same, roots, map-append spelled_node draft.text.nodes (node ∷ []))
      (one_more_node (spelled_version draft.version) (spelled_node node) (kind_lines draft.version draft.text.kinds) (map (spelled_field draft.version draft.text.kinds) draft.text.fields)
      (promised_lines draft.version draft.text.kinds draft.owners draft.counted) (map spelled_node draft.text.nodes)))) λ _. tt

  roots_said : SaysIn Roots draft lines → MayBeIn draft.version draft.text → draft.counted ≡ length draft.text.kinds → owners_of draft.text.nodes ≡ draft.owners → draft.text.ops ≡ []
      → IfOk (in_roots (at Roots draft) word rest) (SaidIn more)
  roots_said h may counted all ops =
      either (bytes_eq word (codes "root")) _ _ (SaidIn more)
      (λ e. then_has (root_line draft.version draft.text.kinds draft.owners draft.text.roots rest) _ (λ root. codes "root" ∷ rest ≡ spelled_root draft.version draft.text.kinds root) _
      (root_said draft.version draft.text.kinds draft.owners draft.text.roots rest) λ root same.
      record {
        said =
            rw (h.said, same_word word (codes "root") e, same, map-append (spelled_root draft.version draft.text.kinds) draft.text.roots (root ∷ []))
            (one_more_root (spelled_version draft.version) (spelled_root draft.version draft.text.kinds root) (kind_lines draft.version draft.text.kinds) (map (spelled_field draft.version draft.text.kinds) draft.text.fields)
            (promised_lines draft.version draft.text.kinds draft.owners draft.counted) (map spelled_node draft.text.nodes) (map (spelled_root draft.version draft.text.kinds) draft.text.roots));
        whole = refl;
      }) λ _.
      either (bytes_eq word (codes "op") && nat_lt 0 (length draft.text.roots)) _ _ (SaidIn more)
      (λ e. then_has (op_line draft.text.ops rest) _ (SaysOp rest) _ (op_said draft.text.ops rest) λ op by.
      record { may = may; said = first_op op (and_parts _ _ e).0 by.line; no_generator = by.no_generator; no_wrap_up = by.no_wrap_up; whole = refl }) λ _. tt
    where
      first_op : (op : Op) → bytes_eq word (codes "op") ≡ true → codes "op" ∷ rest ≡ spelled_op op → more ≡ spelled_by draft.version draft.text ++ (spelled_op op ∷ [])
      first_op op e same = rw (h.said ∙ whole_declared draft.version draft.counted draft.owners draft.text counted all, same_word word (codes "op") e, same, ops)
          (after_declarations (spelled_version draft.version) (spelled_op op) (declaration_lines draft.version draft.text))

  begun_said : SaysIn Begun draft lines → IfOk (in_begun (at Begun draft) word rest) (SaidIn more)
  begun_said h =
      either (bytes_eq word (codes "gen")) _ _ (SaidIn more) (λ e. end_then rest _ (SaidIn more) λ last. record {
        may = h.may;
        said = begins (spelled_by draft.version draft.text) (same_word word (codes "gen") e) last h.no_generator h.said;
        no_wrap_up = h.no_wrap_up;
      }) λ _. tt
    where
      begins : (before : Lines) → word ≡ codes "gen" → rest ≡ [] → draft.op.generator ≡ [] → lines ≡ before ++ (spelled_op draft.op ∷ [])
          → more ≡ (before ++ (spelled_op draft.op ∷ (codes "gen" ∷ []) ∷ [])) ++ code_so_far_lines draft.version draft.text.kinds draft.text.fields draft.text.roots draft.op.generator 0 draft.entries
      begins before is last none said = rw (said, is, last, none) (simp (append_assoc, append-nil))

one_more_instr : (lines : Instr → Lines) (code : List Instr) (i : Instr) (words : List (List ℕ)) → words ∷ [] ≡ lines i
    → (flat_map lines code ++ []) ++ words ∷ [] ≡ flat_map lines (code ++ i ∷ []) ++ []
one_more_instr lines code i words same = rw (flat_map-append lines code (i ∷ []), ← same) (placed (flat_map lines code) words)
  where
    placed : (before : Lines) (words : List (List ℕ)) → (before ++ []) ++ words ∷ [] ≡ (before ++ ((words ∷ []) ++ [])) ++ []
    placed before words = simp (append_assoc, append-nil)

-- a method's lines with one more line
module _ (version : Version) (kinds : List (List ℕ)) (fields : List FieldDecl) (roots : List RootDecl) where
  -- a whole instruction
  instr_said : (code : List Instr) (i : Instr) (words : List (List ℕ)) (entries others : List CasEntry) → words ∷ [] ≡ instr_lines version kinds fields roots i
      → code_so_far_lines version kinds fields roots code 0 entries ++ words ∷ [] ≡ code_so_far_lines version kinds fields roots (code ++ i ∷ []) 0 others
  instr_said code i words entries others same = one_more_instr (instr_lines version kinds fields roots) code i words same

  -- the line of a commit, if entry lines follow
  commit_said : (code : List Instr) (count : ℕ) (words : List (List ℕ)) (entries : List CasEntry) → words ≡ codes "commit" ∷ decimal (suc count) ∷ []
      → code_so_far_lines version kinds fields roots code 0 entries ++ words ∷ [] ≡ code_so_far_lines version kinds fields roots code (suc count) []
  commit_said code count words entries same =
      let counted : 0 + suc count ≡ suc count = omega arith in
      rw (same, counted) (ap (λ l. l ++ (codes "commit" ∷ decimal (suc count) ∷ []) ∷ []) (append-nil (code_lines version kinds fields roots code)))

  -- an entry line, if more follow
  entry_line_said : (code : List Instr) (left : ℕ) (words : List (List ℕ)) (entries : List CasEntry) (entry : CasEntry) → words ≡ spelled_entry fields roots entry
      → code_so_far_lines version kinds fields roots code (suc (suc left)) entries ++ words ∷ [] ≡ code_so_far_lines version kinds fields roots code (suc left) (entries ++ entry ∷ [])
  entry_line_said code left words entries entry same =
      let counted : length (entries ++ entry ∷ []) + suc left ≡ length entries + suc (suc left) = omega (arith, length-append entries (entry ∷ [])) in
      rw (same, counted, map-append (spelled_entry fields roots) entries (entry ∷ []))
      (append_assoc (code_lines version kinds fields roots code) ((codes "commit" ∷ decimal (length entries + suc (suc left)) ∷ []) ∷ map (spelled_entry fields roots) entries) (spelled_entry fields roots entry ∷ []))

  -- the last entry line
  last_entry_said : (code : List Instr) (words : List (List ℕ)) (entries : List CasEntry) (entry : CasEntry) → words ≡ spelled_entry fields roots entry
      → code_so_far_lines version kinds fields roots code 1 entries ++ words ∷ [] ≡ code_so_far_lines version kinds fields roots (code ++ instr.Commit (entries ++ entry ∷ []) ∷ []) 0 []
  last_entry_said code words entries entry same =
      let counted : length (entries ++ entry ∷ []) ≡ length entries + 1 = omega (arith, length-append entries (entry ∷ [])) in
      rw (same, flat_map-append (instr_lines version kinds fields roots) code (instr.Commit (entries ++ entry ∷ []) ∷ []), counted, map-append (spelled_entry fields roots) entries (entry ∷ []))
      (placed (code_lines version kinds fields roots code) (map (spelled_entry fields roots) entries) (codes "commit" ∷ decimal (length entries + 1) ∷ []) (spelled_entry fields roots entry))
    where
      placed : (before entries : Lines) (first words : List (List ℕ)) → (before ++ (first ∷ entries)) ++ words ∷ [] ≡ (before ++ ((first ∷ (entries ++ words ∷ [])) ++ [])) ++ []
      placed before entries first words = simp (append_assoc, append-nil)

-- one more line of a method, whatever it adds
grown : (before code next lines : Lines) (words : List (List ℕ)) → lines ≡ before ++ code → code ++ words ∷ [] ≡ next → lines ++ words ∷ [] ≡ before ++ next
grown before code next lines words said same = rw said (append_assoc before code (words ∷ []) ∙ ap (λ l. before ++ l) same)

generator_step_said : (draft : Draft) (step : Step) (words : List (List ℕ)) (lines : Lines) → SaysGenerator (at Generator draft) lines
    → StepSays draft.version draft.text.kinds draft.text.fields draft.text.roots words step → SaidIn (lines ++ words ∷ []) (with_step (at Generator draft) step)
generator_step_said draft (Whole i) words lines h same = record {
  may = h.may;
  said = grown (before_generator draft.version draft.text draft.op) _ _ lines words h.said (instr_said draft.version draft.text.kinds draft.text.fields draft.text.roots draft.op.generator i words draft.entries draft.entries same);
  no_wrap_up = h.no_wrap_up;
}
generator_step_said draft (Commits zero) words lines h same = record {
  may = h.may;
  said = grown (before_generator draft.version draft.text draft.op) _ _ lines words h.said (instr_said draft.version draft.text.kinds draft.text.fields draft.text.roots draft.op.generator (instr.Commit []) words draft.entries [] (ap (λ w. w ∷ []) same));
  no_wrap_up = h.no_wrap_up;
}
generator_step_said draft (Commits (suc count)) words lines h same = record {
  may = h.may;
  said = grown (before_generator draft.version draft.text draft.op) _ _ lines words h.said (commit_said draft.version draft.text.kinds draft.text.fields draft.text.roots draft.op.generator count words draft.entries same);
  no_wrap_up = h.no_wrap_up;
}

wrap_up_step_said : (draft : Draft) (step : Step) (words : List (List ℕ)) (lines : Lines) → SaysWrapUp (at WrapUp draft) lines
    → StepSays draft.version draft.text.kinds draft.text.fields draft.text.roots words step → SaidIn (lines ++ words ∷ []) (with_step (at WrapUp draft) step)
wrap_up_step_said draft (Whole i) words lines h same = record {
  may = h.may;
  said = grown (before_wrap_up draft.version draft.text draft.op) _ _ lines words h.said (instr_said draft.version draft.text.kinds draft.text.fields draft.text.roots draft.op.wrapup i words draft.entries draft.entries same);
}
wrap_up_step_said draft (Commits zero) words lines h same = record {
  may = h.may;
  said = grown (before_wrap_up draft.version draft.text draft.op) _ _ lines words h.said (instr_said draft.version draft.text.kinds draft.text.fields draft.text.roots draft.op.wrapup (instr.Commit []) words draft.entries [] (ap (λ w. w ∷ []) same));
}
wrap_up_step_said draft (Commits (suc count)) words lines h same = record {
  may = h.may;
  said = grown (before_wrap_up draft.version draft.text draft.op) _ _ lines words h.said (commit_said draft.version draft.text.kinds draft.text.fields draft.text.roots draft.op.wrapup count words draft.entries same);
}

-- a line of a method, if each step that the line says is said
method_said : (draft : Draft) (word : List ℕ) (rest : List (List ℕ)) (lines : Lines)
    → ((step : Step) → StepSays draft.version draft.text.kinds draft.text.fields draft.text.roots (word ∷ rest) step → SaidIn (lines ++ (word ∷ rest) ∷ []) (with_step draft step))
    → IfOk (in_method draft word rest) (SaidIn (lines ++ (word ∷ rest) ∷ []))
method_said draft word rest lines next =
    then_has (step_line draft.version draft.text.kinds draft.text.fields draft.text.roots word rest) _ (StepSays draft.version draft.text.kinds draft.text.fields draft.text.roots (word ∷ rest)) _ (step_said draft.version draft.text.kinds draft.text.fields draft.text.roots word rest) λ step same.
    demanded too_many (has_room draft step) _ _ λ _. next step same

generator_said : (draft : Draft) (word : List ℕ) (rest : List (List ℕ)) (lines : Lines) → SaysGenerator (at Generator draft) lines
    → IfOk (in_generator (at Generator draft) word rest) (SaidIn (lines ++ (word ∷ rest) ∷ []))
generator_said draft word rest lines h =
    either (bytes_eq word (codes "wrap") && nat_lt 0 (length draft.op.generator)) _ _ (SaidIn (lines ++ (word ∷ rest) ∷ []))
    (λ e. end_then rest _ (SaidIn (lines ++ (word ∷ rest) ∷ [])) λ last. record {
      may = h.may;
      said = wraps (same_word word (codes "wrap") (and_parts _ _ e).0) last (spelled_by draft.version draft.text) (code_lines draft.version draft.text.kinds draft.text.fields draft.text.roots draft.op.generator) h.said;
    }) λ _.
    method_said (at Generator draft) word rest lines λ step same. generator_step_said draft step (word ∷ rest) lines h same
  where
    placed : (before code : Lines) (o g w : List (List ℕ)) → ((before ++ (o ∷ g ∷ [])) ++ (code ++ [])) ++ w ∷ [] ≡ (before ++ (o ∷ g ∷ (code ++ w ∷ []))) ++ ([] ++ [])
    placed before code o g w = simp (append_assoc, append-nil)

    wraps : word ≡ codes "wrap" → rest ≡ [] → (before code : Lines) → lines ≡ (before ++ (spelled_op draft.op ∷ (codes "gen" ∷ []) ∷ [])) ++ (code ++ [])
        → lines ++ (word ∷ rest) ∷ [] ≡ (before ++ (spelled_op draft.op ∷ (codes "gen" ∷ []) ∷ (code ++ (codes "wrap" ∷ []) ∷ []))) ++ code_so_far_lines draft.version draft.text.kinds draft.text.fields draft.text.roots draft.op.wrapup 0 draft.entries
    wraps is last before code said = rw (said, is, last, h.no_wrap_up) (placed before code (spelled_op draft.op) (codes "gen" ∷ []) (codes "wrap" ∷ []))

-- the lines of whole operations
record SaysWhole (lines : Lines) (next : Draft) : Type 0 where
  may : MayBeIn next.version next.text
  said : lines ≡ spelled_by next.version next.text
  whole : next.left ≡ 0

whole_op_said : (draft : Draft) (lines : Lines) → draft.left ≡ 0 → SaysWrapUp draft lines → IfOk (with_whole_op draft) (SaysWhole lines)
whole_op_said draft lines whole h = demanded form_fault (nat_lt 0 (length draft.op.wrapup)) _ (SaysWhole lines) λ _. record { may = h.may; said = said; whole = whole }
  where
    text : Text
    text = draft.text

    lines_of_op : Op → Lines
    lines_of_op = op_lines draft.version text.kinds text.fields text.roots

    placed : (version o g w : List (List ℕ)) (declared ops first second : Lines) → ((version ∷ (declared ++ ops)) ++ (o ∷ g ∷ (first ++ w ∷ []))) ++ (second ++ []) ≡ version ∷ (declared ++ (ops ++ ((o ∷ g ∷ (first ++ (w ∷ second))) ++ [])))
    placed version o g w declared ops first second = simp (append_assoc, append-nil)

    said : lines ≡ spelled_by draft.version (record text { ops = text.ops ++ draft.op ∷ [] })
    said =
        (rw whole at h.said)
        ∙ placed (spelled_version draft.version) (spelled_op draft.op) (codes "gen" ∷ []) (codes "wrap" ∷ []) (declaration_lines draft.version text) (flat_map lines_of_op text.ops) (code_lines draft.version text.kinds text.fields text.roots draft.op.generator) (code_lines draft.version text.kinds text.fields text.roots draft.op.wrapup)
        ∙ sym (ap (λ l. spelled_version draft.version ∷ (declaration_lines draft.version text ++ l)) (flat_map-append lines_of_op text.ops (draft.op ∷ [])))

wrap_up_said : (draft : Draft) (word : List ℕ) (rest : List (List ℕ)) (lines : Lines) → SaysWrapUp (at WrapUp draft) lines
    → IfOk (in_wrap_up (at WrapUp draft) word rest) (SaidIn (lines ++ (word ∷ rest) ∷ []))
wrap_up_said draft word rest lines h =
    either (bytes_eq word (codes "op")) _ _ (SaidIn (lines ++ (word ∷ rest) ∷ []))
    (λ e. then_has (with_whole_op (at WrapUp draft)) _ (SaysWhole lines) (SaidIn (lines ++ (word ∷ rest) ∷ [])) (whole_op_said (at WrapUp draft) lines refl h) λ next before.
    then_has (op_line next.text.ops rest) _ (SaysOp rest) (SaidIn (lines ++ (word ∷ rest) ∷ [])) (op_said next.text.ops rest) λ op by.
    record { may = before.may; said = begins (spelled_by next.version next.text) op (same_word word (codes "op") e) by.line before.said; no_generator = by.no_generator; no_wrap_up = by.no_wrap_up; whole = before.whole })
    (λ _. method_said (at WrapUp draft) word rest lines λ step same. wrap_up_step_said draft step (word ∷ rest) lines h same)
  where
    begins : (before : Lines) (op : Op) → word ≡ codes "op" → codes "op" ∷ rest ≡ spelled_op op → lines ≡ before → lines ++ (word ∷ rest) ∷ [] ≡ before ++ (spelled_op op ∷ [])
    begins before op is same said = rw (said, is, same) refl

section_said : (section : Section) (draft : Draft) (word : List ℕ) (rest : List (List ℕ)) (lines : Lines) → Keeps section (at section draft) → SaysIn section (at section draft) lines
    → IfOk (in_section section (at section draft) word rest) (SaidIn (lines ++ (word ∷ rest) ∷ []))
section_said Start draft word rest lines keeps h = start_said (at Start draft) word rest lines h
section_said Opening draft word rest lines keeps h = opening_said (at Opening draft) word rest lines h keeps.fields
section_said Kinds draft word rest lines keeps h = kinds_said (at Kinds draft) word rest lines h keeps.1 keeps.0.fields
section_said Fields draft word rest lines keeps h = fields_said (at Fields draft) word rest lines h keeps.none_counted keeps.none_promised keeps.nodes keeps.roots
section_said Counts draft word rest lines keeps h = counts_lines_said (at Counts draft) word rest lines h keeps.0.owners_so_far.below keeps.0.nodes keeps.0.roots
section_said Nodes draft word rest lines keeps h = nodes_lines_said (at Nodes draft) word rest lines h keeps.0.roots
section_said Roots draft word rest lines keeps h = roots_said (at Roots draft) word rest lines h keeps.named keeps.all_counted keeps.all keeps.ops
section_said Begun draft word rest lines keeps h = begun_said (at Begun draft) word rest lines h
section_said Generator draft word rest lines keeps h = generator_said draft word rest lines h
section_said WrapUp draft word rest lines keeps h = wrap_up_said draft word rest lines h
section_said Shipped draft word rest lines keeps h = tt

none : (left : ℕ) → suc left ≡ 0 → ⊥
none left e = absurd (omega arith)

-- one more entry of a commit
entry_pushed : (section : Section) (left : ℕ) (draft : Draft) (entry : CasEntry) (words : List (List ℕ)) (lines : Lines) → SaysIn section (record draft { left = suc left }) lines
    → words ≡ spelled_entry draft.text.fields draft.text.roots entry
    → SaysIn section (with_entries left (record draft { section = section }) (draft.entries ++ entry ∷ [])) (lines ++ words ∷ [])
entry_pushed Generator zero draft entry words lines h same = record {
  may = h.may;
  said = grown (before_generator draft.version draft.text draft.op) _ _ lines words h.said (last_entry_said draft.version draft.text.kinds draft.text.fields draft.text.roots draft.op.generator words draft.entries entry same);
  no_wrap_up = h.no_wrap_up;
}
entry_pushed Generator (suc left) draft entry words lines h same = record {
  may = h.may;
  said = grown (before_generator draft.version draft.text draft.op) _ _ lines words h.said (entry_line_said draft.version draft.text.kinds draft.text.fields draft.text.roots draft.op.generator left words draft.entries entry same);
  no_wrap_up = h.no_wrap_up;
}
entry_pushed WrapUp zero draft entry words lines h same = record {
  may = h.may;
  said = grown (before_wrap_up draft.version draft.text draft.op) _ _ lines words h.said (last_entry_said draft.version draft.text.kinds draft.text.fields draft.text.roots draft.op.wrapup words draft.entries entry same);
}
entry_pushed WrapUp (suc left) draft entry words lines h same = record {
  may = h.may;
  said = grown (before_wrap_up draft.version draft.text draft.op) _ _ lines words h.said (entry_line_said draft.version draft.text.kinds draft.text.fields draft.text.roots draft.op.wrapup left words draft.entries entry same);
}
entry_pushed _ left draft entry words lines h same = absurd (none left h.whole)

-- what is said at a section is said of a draft there
said_there : (section : Section) (left : ℕ) (draft : Draft) (entries : List CasEntry) (lines : Lines)
    → SaysIn section (with_entries left (record draft { section = section }) entries) lines → SaidIn lines (with_entries left (record draft { section = section }) entries)
said_there section zero draft entries lines h = h
said_there section (suc left) draft entries lines h = h

place_said : (left : ℕ) (draft : Draft) (word : List ℕ) (rest : List (List ℕ)) (lines : Lines) → Kept (record draft { left = left }) → SaidIn lines (record draft { left = left })
    → IfOk (in_place left (record draft { left = left }) word rest) (SaidIn (lines ++ (word ∷ rest) ∷ []))
place_said zero draft word rest lines keeps h = section_said draft.section (record draft { left = 0 }) word rest lines keeps h
place_said (suc left) draft word rest lines keeps h =
    then_has (entry_line draft.text.fields draft.text.roots word rest) _ (λ entry. word ∷ rest ≡ spelled_entry draft.text.fields draft.text.roots entry) (SaidIn (lines ++ (word ∷ rest) ∷ []))
    (entry_said draft.version draft.text.kinds draft.text.fields draft.text.roots word rest) λ entry same.
    said_there draft.section left (record draft { left = suc left }) (draft.entries ++ entry ∷ []) (lines ++ (word ∷ rest) ∷ [])
    (entry_pushed draft.section left (record draft { left = suc left }) entry (word ∷ rest) lines h same)

-- a line's words, unless the line is skipped
abbrev pub told_line : List (List ℕ) → Lines
told_line words = filter (λ words. not (is_skipped words)) (words ∷ [])

pub same_comment : (word : List ℕ) → is_comment word ≡ begins_with_hash word
same_comment [] = refl
same_comment (b ∷ bytes) = refl

pub words_said : (draft : Draft) (words : List (List ℕ)) (lines : Lines) → Kept draft → SaidIn lines draft → IfOk (after_words draft words) (SaidIn (lines ++ told_line words))
words_said draft [] lines keeps h = rw (append-nil lines) h
words_said draft (word ∷ rest) lines keeps h =
    either (is_comment word) _ _ (SaidIn (lines ++ told_line (word ∷ rest)))
    (λ e. skipped (sym (same_comment word) ∙ e))
    (λ e. taken (sym (same_comment word) ∙ e))
  where
    skipped : begins_with_hash word ≡ true → SaidIn (lines ++ told_line (word ∷ rest)) draft
    skipped e = rw (e, append-nil lines) h

    taken : begins_with_hash word ≡ false → IfOk (in_place draft.left draft word rest) (SaidIn (lines ++ told_line (word ∷ rest)))
    taken e = rw e (place_said draft.left draft word rest lines keeps h)

-- nothing is said before the first line
pub nothing_said : SaidIn [] (draft_at Second Start)
nothing_said = record { said = refl; whole = refl }

finished_in_said : (section : Section) (draft : Draft) (lines : Lines) → draft.left ≡ 0 → SaysIn section draft lines → IfOk (finished_in section draft) (SaysText lines)
finished_in_said WrapUp draft lines whole h = then_has (with_whole_op draft) _ (SaysWhole lines) (SaysText lines) (whole_op_said draft lines whole h) λ next last. inl (next.version, last.may, last.said)
finished_in_said Shipped draft lines whole h = inr h.named
finished_in_said _ draft lines whole h = tt

-- a text that ends is what its lines say
pub finished_said : (draft : Draft) (lines : Lines) → SaidIn lines draft → IfOk (finished draft) (SaysText lines)
finished_said draft lines h = demanded form_fault (draft.left == 0) _ (SaysText lines) λ e. finished_in_said draft.section draft lines (eqb-true draft.left 0 e) h
