-- What the lines so far declare is within the limits, whichever line comes next.
use Rattle.std.specs.Prelude.{◌≡◌, ℕ, zero, suc, ◌+◌, ◌<◌, ◌≤◌, Bool, true, false, not, ◌&&◌, List, [], ◌∷◌, ◌++◌, map, length, take, replicate, Result, Ok, Err, IfOk, nat_lt, nat_le, codes, ⊤, ◌==◌, if◌then◌else◌}
use Rattle.std.specs.List.{list_all}
use Rattle.std.specs.Str.{bytes_eq}
use Rattle.std.proofs.Common.{refl, ap, subst, ◌∙◌, sym, arith, length-append}
use Rattle.std.proofs.Math.Seq.{take-length}
use Rattle.std.proofs.lemmas.Bool.{and_from, and_parts, not-true, eqb-true, ltb-true, leb-true}
use Rattle.std.proofs.lemmas.Bool.Decides.{nat_tests}
use Rattle.std.proofs.lemmas.List.{map-append, map-id, length-map, length-replicate, take_more}
use Rattle.std.proofs.lemmas.List.Folds.{list_all-append}
use Rattle.std.proofs.lemmas.Result.{IfOk-at_ok}
use Rattle.oa_text.specs.Lines.{TextLine, lines_of, numbered}
use Rattle.oa_text.specs.Tokens.{words_of, line_fault}
use Rattle.norm_lang.specs.declared.text.FieldDecl.{FieldDecl}
use Rattle.norm_lang.specs.declared.text.RootDecl.{RootDecl}
use Rattle.norm_lang.specs.declared.text.NodeDecl.{NodeDecl}
use Rattle.norm_lang.specs.declared.text.CasEntry.{CasEntry}
use Rattle.norm_lang.specs.declared.text.Instr.{Instr}
use Rattle.norm_lang.specs.declared.text.Instr.TheVariants as instr
use Rattle.norm_lang.specs.declared.text.Op.{Op}
use Rattle.norm_lang.specs.declared.text.Text.{Text}
use Rattle.norm_lang.specs.declared.text.Version.{Version}
use Rattle.norm_lang.specs.declared.text.Version.TheVariants.{First, Second}
use Rattle.norm_lang.specs.Faults.{at_line, form_fault, too_many}
use Rattle.norm_lang.specs.LineWords.{is_name, end_at}
use Rattle.norm_lang.specs.Declarations.{version_line, kind_line, groups_begun, field_line, nodes_line, node_line, root_line, op_line, use_line, is_reserved}
use Rattle.norm_lang.specs.Instructions.{Step, Whole, Commits, step_line, entry_line}
use Rattle.norm_lang.specs.Grammar.{Section, Start, Opening, Kinds, Fields, Counts, Nodes, Roots, Begun, Generator, WrapUp, Shipped, Draft, draft_at, among_nodes, among_counts, with_whole_op, is_new, news_in, news_of, code_so_far, with_instr, with_entries, with_step, has_room, in_start, next_kind, next_field, next_count, first_declared, in_opening, in_kinds, in_fields, in_counts, in_nodes, in_roots, in_begun, in_method, in_generator, in_wrap_up, in_section, in_place, is_comment, after_words, plain, after_line, after_lines, finished_in, finished, text_in}
use Rattle.norm_lang.specs.Laws.{TextsAreWithin}
use Rattle.norm_lang.specs.Limits.{are_different, is_rising, has_groups, are_kinds, is_field, are_fields, owners_of, is_node, are_nodes, are_roots, is_root, is_op, is_instr, is_entry, is_within_limits}
use Rattle.text_laws.specs.StandsFor.{KindsOf}
use Rattle.text_laws.proofs.Readings.{then_has, anyhow, demanded, either}
use Rattle.text_laws.proofs.Declared.{SoFar, IsNext, pushed, all_pushed, different_pushed, whole_list}
use Rattle.text_laws.proofs.FieldGroups.{all_imply, rising_repeated, all_repeated, passes_at, AreGrouped, grouped_pushed}
use Rattle.text_laws.proofs.DeclarationLimits.{NextKind, kind_fits, NextField, field_fits, NextCount, nodes_fit, NextNode, node_fits, NextRoot, root_fits, NextOp, op_fits, use_fits}
use Rattle.text_laws.proofs.InstrLimits.{StepFits, step_fits, entry_fits}

-- kinds so far, or none yet
abbrev pub KindsSoFar : List (List ℕ) → Type 0
KindsSoFar kinds = SoFar 4 (λ kind. kind) is_name kinds

-- fields so far, of some of so many kinds
pub record FieldsSoFar (kinds : ℕ) (fields : List FieldDecl) : Type 0 where
  pub grouped : AreGrouped fields
  pub each : list_all (is_field kinds) fields ≡ true
  pub apart : are_different (map (λ field. field.name) fields) ≡ true

-- the kinds of the nodes that are promised so far, of the first kinds, so many
pub record OwnersSoFar (counted : ℕ) (owners : List ℕ) : Type 0 where
  pub few : nat_le (length owners) 256 ≡ true
  pub rising : is_rising owners ≡ true
  pub below : list_all (λ k. nat_lt k counted) owners ≡ true

abbrev pub RootsSoFar : ℕ → List ℕ → List RootDecl → Type 0
RootsSoFar kinds owners roots = SoFar 256 (λ root. root.name) (is_root kinds owners) roots

abbrev pub OpsSoFar : ℕ → ℕ → ℕ → List Op → Type 0
OpsSoFar kinds fields roots ops = SoFar 16 (λ op. op.name) (is_op kinds fields roots) ops

-- kinds alone are declared
pub record HasKinds (version : Version) (counted : ℕ) (owners : List ℕ) (text : Text) : Type 0 where
  pub named : KindsOf version text.kinds
  pub kinds : KindsSoFar text.kinds
  pub fields : text.fields ≡ []
  pub none_counted : counted ≡ 0
  pub none_promised : owners ≡ []
  pub nodes : text.nodes ≡ []
  pub roots : text.roots ≡ []
  pub ops : text.ops ≡ []

-- kinds and fields alone are declared
pub record HasFields (version : Version) (counted : ℕ) (owners : List ℕ) (text : Text) : Type 0 where
  pub named : KindsOf version text.kinds
  pub kinds : KindsSoFar text.kinds
  pub fields : FieldsSoFar (length text.kinds) text.fields
  pub none_counted : counted ≡ 0
  pub none_promised : owners ≡ []
  pub nodes : text.nodes ≡ []
  pub roots : text.roots ≡ []
  pub ops : text.ops ≡ []

-- all fields are declared, and the nodes of the first kinds are promised
pub record HasCounts (version : Version) (counted : ℕ) (owners : List ℕ) (text : Text) : Type 0 where
  pub named : KindsOf version text.kinds
  pub kinds : KindsSoFar text.kinds
  pub fields : are_fields (length text.kinds) text.fields ≡ true
  pub owners_so_far : OwnersSoFar counted owners
  pub within : nat_le counted (length text.kinds) ≡ true
  pub nodes : text.nodes ≡ []
  pub roots : text.roots ≡ []
  pub ops : text.ops ≡ []

-- all nodes are promised, and the first of them are declared
pub record HasNodes (version : Version) (counted : ℕ) (owners : List ℕ) (text : Text) : Type 0 where
  pub named : KindsOf version text.kinds
  pub kinds : are_kinds text.kinds ≡ true
  pub fields : are_fields (length text.kinds) text.fields ≡ true
  pub all_counted : counted ≡ length text.kinds
  pub promised : OwnersSoFar (length text.kinds) owners
  pub each : list_all (is_node (length text.kinds) text.fields owners) text.nodes ≡ true
  pub begun : owners_of text.nodes ≡ take (length text.nodes) owners
  pub within : nat_le (length text.nodes) (length owners) ≡ true
  pub roots : text.roots ≡ []
  pub ops : text.ops ≡ []

-- kinds, fields, all nodes and roots are declared
pub record HasRoots (version : Version) (counted : ℕ) (owners : List ℕ) (text : Text) : Type 0 where
  pub named : KindsOf version text.kinds
  pub kinds : are_kinds text.kinds ≡ true
  pub fields : are_fields (length text.kinds) text.fields ≡ true
  pub all_counted : counted ≡ length text.kinds
  pub nodes : are_nodes (length text.kinds) text.fields text.nodes ≡ true
  pub all : owners_of text.nodes ≡ owners
  pub roots : RootsSoFar (length text.kinds) owners text.roots
  pub ops : text.ops ≡ []

-- the declarations are whole, and operations stand after them
pub record HasOps (text : Text) : Type 0 where
  pub kinds : are_kinds text.kinds ≡ true
  pub fields : are_fields (length text.kinds) text.fields ≡ true
  pub nodes : are_nodes (length text.kinds) text.fields text.nodes ≡ true
  pub roots : are_roots (length text.kinds) (owners_of text.nodes) text.roots ≡ true
  pub ops : OpsSoFar (length text.kinds) (length text.fields) (length text.roots) text.ops

-- a method's instructions so far
pub record CodeSoFar (kinds fields roots : ℕ) (code : List Instr) : Type 0 where
  few : nat_le (length code) 256 ≡ true
  each : list_all (is_instr kinds fields roots) code ≡ true

-- the operation whose lines stand here
pub record OpSoFar (kinds fields roots : ℕ) (ops : List Op) (op : Op) : Type 0 where
  next : IsNext 16 (λ op. op.name) ops op
  named : is_name op.name && not (is_reserved op.name) ≡ true
  args : nat_le op.args 4 ≡ true
  generator : CodeSoFar kinds fields roots op.generator
  wrapup : CodeSoFar kinds fields roots op.wrapup
  news : nat_le (news_of op) 4 ≡ true

-- a commit's entries so far, and room for it
pub record CommitSoFar (fields roots left : ℕ) (code : List Instr) (entries : List CasEntry) : Type 0 where
  room : nat_lt (length code) 256 ≡ true
  few : nat_le (length entries + left) 4 ≡ true
  each : list_all (is_entry fields roots) entries ≡ true

abbrev pub Pending : ℕ → ℕ → ℕ → List Instr → List CasEntry → Type 0
Pending fields roots zero code entries = ⊤
Pending fields roots (suc left) code entries = CommitSoFar fields roots (suc left) code entries

-- so many kinds have their count of nodes, and so many nodes are promised, at most
pub record FewPromised (counted : ℕ) (owners : List ℕ) : Type 0 where
  pub counted_few : counted ≤ 4
  pub owners_few : length owners ≤ 256

-- an operation's lines stand here
pub record InOp (section : Section) (draft : Draft) : Type 0 where
  pub named : KindsOf draft.version draft.text.kinds
  pub promised : FewPromised draft.counted draft.owners
  pub text : HasOps draft.text
  op : OpSoFar (length draft.text.kinds) (length draft.text.fields) (length draft.text.roots) draft.text.ops draft.op
  pending : Pending (length draft.text.fields) (length draft.text.roots) draft.left (code_so_far section draft.op) draft.entries

-- what holds of a draft at a section
abbrev pub Keeps : Section → Draft → Type 0
Keeps Start draft = HasKinds draft.version draft.counted draft.owners draft.text
Keeps Opening draft = HasKinds draft.version draft.counted draft.owners draft.text
Keeps Kinds draft = HasKinds draft.version draft.counted draft.owners draft.text × (draft.version ≡ Second)
Keeps Fields draft = HasFields draft.version draft.counted draft.owners draft.text
Keeps Counts draft = HasCounts draft.version draft.counted draft.owners draft.text × (nat_lt draft.counted (length draft.text.kinds) ≡ true)
Keeps Nodes draft = HasNodes draft.version draft.counted draft.owners draft.text × (nat_lt (length draft.text.nodes) (length draft.owners) ≡ true)
Keeps Roots draft = HasRoots draft.version draft.counted draft.owners draft.text
Keeps Begun draft = InOp Begun draft
Keeps Generator draft = InOp Generator draft
Keeps WrapUp draft = InOp WrapUp draft × (nat_lt 0 (length draft.op.generator) ≡ true)
Keeps Shipped draft = (is_within_limits draft.text ≡ true) × FewPromised draft.counted draft.owners

-- what holds of each draft
abbrev pub Kept : Draft → Type 0
Kept draft = Keeps draft.section draft

-- a draft at a section, with no entry line still to come
abbrev at : Section → Draft → Draft
at section draft = record draft { section = section; left = 0 }

no_kinds : KindsSoFar []
no_kinds = record { few = refl; each = refl; apart = refl }

-- before the first declaration there is no kind, or in the first version one
pub nothing_declared : (version : Version) → HasKinds version 0 [] (draft_at version Start).text
nothing_declared First = record {
  named = refl;
  kinds = record { few = refl; each = refl; apart = refl };
  fields = refl;
  none_counted = refl;
  none_promised = refl;
  nodes = refl;
  roots = refl;
  ops = refl;
}
nothing_declared Second = record { named = tt; kinds = no_kinds; fields = refl; none_counted = refl; none_promised = refl; nodes = refl; roots = refl; ops = refl }

start_kept : (draft : Draft) (word : List ℕ) (rest : List (List ℕ)) → IfOk (in_start (at Start draft) word rest) Kept
start_kept draft word rest = either (bytes_eq word (codes "oa")) _ _ _ (λ _. anyhow (version_line rest) _ _ λ version. nothing_declared version) (λ _. tt)

no_fields : (kinds : ℕ) → FieldsSoFar kinds []
no_fields kinds = record { grouped = record { rising = refl; groups = refl }; each = refl; apart = refl }

no_owners : OwnersSoFar 0 []
no_owners = record { few = refl; rising = refl; below = refl }

no_roots : (kinds : ℕ) (owners : List ℕ) → RootsSoFar kinds owners []
no_roots kinds owners = record { few = refl; each = refl; apart = refl }

no_ops : (kinds fields roots : ℕ) → OpsSoFar kinds fields roots []
no_ops kinds fields roots = record { few = refl; each = refl; apart = refl }

least : (n : ℕ) → nat_le 0 n ≡ true
least n = grind (arith, nat_tests)

-- fields may follow if kinds alone are declared
pub may_have_fields : (version : Version) (counted : ℕ) (owners : List ℕ) (text : Text) → HasKinds version counted owners text → HasFields version counted owners text
may_have_fields version counted owners text h = record {
  named = h.named;
  kinds = h.kinds;
  fields = rw h.fields (no_fields (length text.kinds));
  none_counted = h.none_counted;
  none_promised = h.none_promised;
  nodes = h.nodes;
  roots = h.roots;
  ops = h.ops;
}

-- kinds so far, of which there is one, are those of a text
whole_kinds : (kinds : List (List ℕ)) → KindsSoFar kinds → nat_lt 0 (length kinds) ≡ true → are_kinds kinds ≡ true
whole_kinds kinds so_far some = rw (map-id kinds) at (whole_list 4 (λ kind. kind) is_name kinds so_far some)

kind_kept : (draft : Draft) (rest : List (List ℕ)) → HasKinds draft.version draft.counted draft.owners draft.text → draft.version ≡ Second → IfOk (next_kind draft rest) Kept
kind_kept draft rest h second =
    then_has (kind_line draft.text.kinds rest) _ (NextKind draft.text.kinds) _ (kind_fits draft.text.kinds rest) λ name next. (
      record {
        named = rw second tt;
        kinds = pushed 4 _ _ draft.text.kinds name h.kinds next.0 next.1;
        fields = h.fields;
        none_counted = h.none_counted;
        none_promised = h.none_promised;
        nodes = h.nodes;
        roots = h.roots;
        ops = h.ops;
      },
      second,
    )

-- one more field
field_pushed : (kinds : ℕ) (fields : List FieldDecl) (field : FieldDecl) → FieldsSoFar kinds fields → NextField kinds fields field → FieldsSoFar kinds (fields ++ field ∷ [])
field_pushed kinds fields field so_far next = record {
  grouped = grouped_pushed fields field so_far.grouped next.follows;
  each = all_pushed _ fields field so_far.each next.fine;
  apart = different_pushed (λ field. field.name) fields field so_far.apart (not-true _ next.new);
}

field_kept : (draft : Draft) (rest : List (List ℕ)) → HasFields draft.version draft.counted draft.owners draft.text → IfOk (next_field draft rest) Kept
field_kept draft rest h =
    then_has (field_line draft.version draft.text.kinds draft.text.fields rest) _ (NextField (length draft.text.kinds) draft.text.fields) _
    (field_fits draft.version draft.text.kinds draft.text.fields rest h.named) λ field next. record {
      named = h.named;
      kinds = h.kinds;
      fields = field_pushed (length draft.text.kinds) draft.text.fields field h.fields next;
      none_counted = h.none_counted;
      none_promised = h.none_promised;
      nodes = h.nodes;
      roots = h.roots;
      ops = h.ops;
    }

pub none_promised : (counted : ℕ) (owners : List ℕ) → counted ≡ 0 → owners ≡ [] → FewPromised counted owners
none_promised counted owners none empty = record { counted_few = omega (arith, none); owners_few = rw empty (omega arith) }

opening_kept : (draft : Draft) (word : List ℕ) (rest : List (List ℕ)) → Keeps Opening draft → IfOk (in_opening draft word rest) Kept
opening_kept draft word rest h =
    either (bytes_eq word (codes "use")) _ _ _ (λ _. then_has (use_line rest) _ (λ text. is_within_limits text ≡ true) _ (use_fits rest) λ text within. (within, none_promised draft.counted draft.owners h.none_counted h.none_promised))
    (λ _. go draft.version refl)
  where
    go : (version : Version) → draft.version ≡ version → IfOk (first_declared version draft word rest) Kept
    go First same = either (bytes_eq word (codes "field")) _ _ _ (λ _. field_kept draft rest (may_have_fields _ _ _ draft.text h)) λ _. tt
    go Second same = either (bytes_eq word (codes "kind")) _ _ _ (λ _. kind_kept draft rest h same) λ _. tt

kinds_kept : (draft : Draft) (word : List ℕ) (rest : List (List ℕ)) → Keeps Kinds draft → IfOk (in_kinds draft word rest) Kept
kinds_kept draft word rest h =
    either (bytes_eq word (codes "kind")) _ _ _ (λ _. kind_kept draft rest h.0 h.1) λ _.
    either (bytes_eq word (codes "field")) _ _ _ (λ _. field_kept draft rest (may_have_fields _ _ _ draft.text h.0)) λ _. tt

-- nodes as many as are promised are those of a text
whole_nodes : (kinds : ℕ) (fields : List FieldDecl) (owners : List ℕ) (nodes : List NodeDecl) → OwnersSoFar kinds owners → list_all (is_node kinds fields owners) nodes ≡ true
    → owners_of nodes ≡ owners → length nodes ≡ length owners → are_nodes kinds fields nodes ≡ true
whole_nodes kinds fields owners nodes promised each same all =
    and_from _ _ (and_from _ _ (least (length nodes)) (rw all promised.few)) (rw same (and_from _ _ promised.rising each))

-- once all nodes are declared, roots follow
among_kept : (draft : Draft) → HasNodes draft.version draft.counted draft.owners draft.text → Kept (among_nodes draft)
among_kept draft h = go (nat_lt (length draft.text.nodes) (length draft.owners)) refl
  where
    go : (b : Bool) → nat_lt (length draft.text.nodes) (length draft.owners) ≡ b → Kept (record draft { section = if b then Nodes else Roots })
    go true e = (h, e)
    go false e =
        let within : nat_le (length draft.text.nodes) (length draft.owners) ≡ true = h.within in
        let all : length draft.text.nodes ≡ length draft.owners = grind (arith, nat_tests) in
        let same : owners_of draft.text.nodes ≡ draft.owners = h.begun ∙ ap (λ n. take n draft.owners) all ∙ take-length draft.owners in
        record {
          named = h.named;
          kinds = h.kinds;
          fields = h.fields;
          all_counted = h.all_counted;
          nodes = whole_nodes (length draft.text.kinds) draft.text.fields draft.owners draft.text.nodes h.promised h.each same all;
          all = same;
          roots = rw h.roots (no_roots (length draft.text.kinds) draft.owners);
          ops = h.ops;
        }

-- once the nodes of each kind are promised, they follow
counted_kept : (draft : Draft) → HasCounts draft.version draft.counted draft.owners draft.text → are_kinds draft.text.kinds ≡ true → Kept (among_counts draft)
counted_kept draft h kinds = go (nat_lt draft.counted (length draft.text.kinds)) refl
  where
    go : (b : Bool) → nat_lt draft.counted (length draft.text.kinds) ≡ b → Kept (if b then record draft { section = Counts } else among_nodes draft)
    go true e = (h, e)
    go false e =
        let within : nat_le draft.counted (length draft.text.kinds) ≡ true = h.within in
        let all : draft.counted ≡ length draft.text.kinds = grind (arith, nat_tests) in
        among_kept draft (record {
          named = h.named;
          kinds = kinds;
          fields = h.fields;
          all_counted = all;
          promised = subst (λ n. OwnersSoFar n draft.owners) all h.owners_so_far;
          each = rw h.nodes refl;
          begun = rw h.nodes refl;
          within = rw h.nodes (least (length draft.owners));
          roots = h.roots;
          ops = h.ops;
        })

-- so many more nodes of the next kind
owners_pushed : (counted count : ℕ) (owners : List ℕ) → OwnersSoFar counted owners → nat_le (length owners + count) 256 ≡ true → OwnersSoFar (counted + 1) (owners ++ replicate count counted)
owners_pushed counted count owners so_far few = record {
  few = all_few;
  rising = rising_repeated owners count counted so_far.rising (all_imply (λ k. nat_lt k counted) (λ k. nat_le k counted) owners at_most so_far.below);
  below =
      list_all-append (λ k. nat_lt k (counted + 1)) owners (replicate count counted)
      ∙ and_from _ _ (all_imply (λ k. nat_lt k counted) (λ k. nat_lt k (counted + 1)) owners still so_far.below) (all_repeated (λ k. nat_lt k (counted + 1)) count counted last);
}
  where
    all_few : nat_le (length (owners ++ replicate count counted)) 256 ≡ true
    all_few = let k = length-append owners (replicate count counted) in let n = length-replicate count counted in grind (arith, nat_tests, k, n)

    at_most : (k : ℕ) → nat_lt k counted ≡ true → nat_le k counted ≡ true
    at_most k less = grind (arith, nat_tests)

    still : (k : ℕ) → nat_lt k counted ≡ true → nat_lt k (counted + 1) ≡ true
    still k less = grind (arith, nat_tests)

    last : nat_lt counted (counted + 1) ≡ true
    last = grind (arith, nat_tests)

count_kept : (draft : Draft) (rest : List (List ℕ)) → HasCounts draft.version draft.counted draft.owners draft.text → IfOk (next_count draft rest) Kept
count_kept draft rest h =
    then_has (nodes_line draft.version draft.text.kinds draft.counted (length draft.owners) rest) _ (NextCount (length draft.text.kinds) draft.counted (length draft.owners)) _
    (nodes_fit draft.version draft.text.kinds draft.counted (length draft.owners) rest h.named) λ count next.
    counted_kept (record draft { counted = draft.counted + 1; owners = draft.owners ++ replicate count draft.counted }) (record {
      named = h.named;
      kinds = h.kinds;
      fields = h.fields;
      owners_so_far = owners_pushed draft.counted count draft.owners h.owners_so_far next.few;
      within = one_less draft.counted (length draft.text.kinds) next.below;
      nodes = h.nodes;
      roots = h.roots;
      ops = h.ops;
    }) (whole_kinds draft.text.kinds h.kinds (some draft.counted (length draft.text.kinds) next.below))
  where
    one_less : (n m : ℕ) → nat_lt n m ≡ true → nat_le (n + 1) m ≡ true
    one_less n m less = grind (arith, nat_tests)

    some : (n m : ℕ) → nat_lt n m ≡ true → nat_lt 0 m ≡ true
    some n m less = grind (arith, nat_tests)

-- counts may follow if each kind has a field
may_have_counts : (draft : Draft) → HasFields draft.version draft.counted draft.owners draft.text → (groups_begun draft.text.fields == length draft.text.kinds) ≡ true
    → HasCounts draft.version draft.counted draft.owners draft.text
may_have_counts draft h whole = record {
  named = h.named;
  kinds = h.kinds;
  fields = and_from _ _ h.fields.grouped.rising (and_from _ _ (all_groups (eqb-true _ _ whole)) (and_from _ _ h.fields.each h.fields.apart));
  owners_so_far = rw (h.none_counted, h.none_promised) no_owners;
  within = rw h.none_counted (least (length draft.text.kinds));
  nodes = h.nodes;
  roots = h.roots;
  ops = h.ops;
}
  where
    all_groups : groups_begun draft.text.fields ≡ length draft.text.kinds → has_groups (length draft.text.kinds) draft.text.fields ≡ true
    all_groups same = ap (λ n. has_groups n draft.text.fields) (sym same) ∙ h.fields.grouped.groups

fields_kept : (draft : Draft) (word : List ℕ) (rest : List (List ℕ)) → Keeps Fields draft → IfOk (in_fields draft word rest) Kept
fields_kept draft word rest h =
    either (bytes_eq word (codes "field")) _ _ _ (λ _. field_kept draft rest h) λ _.
    either (bytes_eq word (codes "nodes") && groups_begun draft.text.fields == length draft.text.kinds) _ _ _
    (λ e. count_kept draft rest (may_have_counts draft h (and_parts _ _ e).1)) λ _. tt

counts_kept : (draft : Draft) (word : List ℕ) (rest : List (List ℕ)) → Keeps Counts draft → IfOk (in_counts draft word rest) Kept
counts_kept draft word rest h = either (bytes_eq word (codes "nodes")) _ _ _ (λ _. count_kept draft rest h.0) λ _. tt

-- one more node, of the kind that is promised
node_pushed : (kinds : ℕ) (fields : List FieldDecl) (owners : List ℕ) (nodes : List NodeDecl) (node : NodeDecl) → OwnersSoFar kinds owners → length nodes < length owners
    → NextNode fields owners (length nodes) node → is_node kinds fields owners node ≡ true
node_pushed kinds fields owners nodes node promised room next =
    and_from _ _ (ap (λ k. nat_lt k kinds) next.owner ∙ passes_at (λ k. nat_lt k kinds) owners (length nodes) 0 room promised.below) next.starts

owner_pushed : (fields : List FieldDecl) (owners : List ℕ) (nodes : List NodeDecl) (node : NodeDecl) → length nodes < length owners
    → NextNode fields owners (length nodes) node → owners_of nodes ≡ take (length nodes) owners → owners_of (nodes ++ node ∷ []) ≡ take (length (nodes ++ node ∷ [])) owners
owner_pushed fields owners nodes node room next begun =
    map-append (λ (node : NodeDecl). node.owner) nodes (node ∷ [])
    ∙ ap (λ (l : List ℕ). l ++ node.owner ∷ []) begun
    ∙ ap (λ (k : ℕ). take (length nodes) owners ++ k ∷ []) next.owner
    ∙ sym (take_more owners (length nodes) 0 room)
    ∙ ap (λ n. take n owners) (sym (length-append nodes (node ∷ [])))

nodes_kept : (draft : Draft) (word : List ℕ) (rest : List (List ℕ)) → Keeps Nodes draft → IfOk (in_nodes draft word rest) Kept
nodes_kept draft word rest h =
    either (bytes_eq word (codes "node")) _ _ _
    (λ _. then_has (node_line draft.text.fields draft.owners (length draft.text.nodes) rest) _ (NextNode draft.text.fields draft.owners (length draft.text.nodes)) _
    (node_fits draft.text.fields draft.owners (length draft.text.nodes) rest) λ node next.
    among_kept (record draft { text = record draft.text { nodes = draft.text.nodes ++ node ∷ [] } }) (record {
      named = h.0.named;
      kinds = h.0.kinds;
      fields = h.0.fields;
      all_counted = h.0.all_counted;
      promised = h.0.promised;
      each = all_pushed _ draft.text.nodes node h.0.each (node_pushed (length draft.text.kinds) draft.text.fields draft.owners draft.text.nodes node h.0.promised room next);
      begun = owner_pushed draft.text.fields draft.owners draft.text.nodes node room next h.0.begun;
      within = few_pushed draft.text.nodes node h.1;
      roots = h.0.roots;
      ops = h.0.ops;
    })) λ _. tt
  where
    room : length draft.text.nodes < length draft.owners
    room = ltb-true _ _ h.1

    few_pushed : (nodes : List NodeDecl) (node : NodeDecl) → nat_lt (length nodes) (length draft.owners) ≡ true → nat_le (length (nodes ++ node ∷ [])) (length draft.owners) ≡ true
    few_pushed nodes node few = let k = length-append nodes (node ∷ []) in grind (arith, nat_tests, k)

no_code : (kinds fields roots : ℕ) → CodeSoFar kinds fields roots []
no_code kinds fields roots = record { few = refl; each = refl }

-- an operation begins without code
op_begins : (kinds fields roots : ℕ) (ops : List Op) (op : Op) → NextOp ops op → OpSoFar kinds fields roots ops op
op_begins kinds fields roots ops op h = record {
  next = h.next;
  named = h.named;
  args = h.args;
  generator = rw h.no_generator (no_code kinds fields roots);
  wrapup = rw h.no_wrap_up (no_code kinds fields roots);
  news = rw (h.no_generator, h.no_wrap_up) refl;
}

pub few_kinds : (kinds : List (List ℕ)) → are_kinds kinds ≡ true → length kinds ≤ 4
few_kinds kinds h = leb-true (length kinds) 4 (and_parts _ _ (and_parts _ _ h).0).1

few_nodes : (kinds : ℕ) (fields : List FieldDecl) (nodes : List NodeDecl) → are_nodes kinds fields nodes ≡ true → length nodes ≤ 256
few_nodes kinds fields nodes h = leb-true (length nodes) 256 (and_parts _ _ (and_parts _ _ h).0).1

-- once the nodes are declared, they are those that were promised
pub all_promised : (draft : Draft) → Keeps Roots draft → FewPromised draft.counted draft.owners
all_promised draft h =
    let kinds = few_kinds draft.text.kinds h.kinds in
    let nodes = few_nodes (length draft.text.kinds) draft.text.fields draft.text.nodes h.nodes in
    let all = h.all_counted in
    let same : length draft.owners ≡ length draft.text.nodes = ap length (sym h.all) ∙ length-map draft.text.nodes (λ (node : NodeDecl). node.owner) in
    record { counted_few = omega (arith, kinds, all); owners_few = omega (arith, nodes, same) }

roots_kept : (draft : Draft) (word : List ℕ) (rest : List (List ℕ)) → Keeps Roots draft → IfOk (in_roots (at Roots draft) word rest) Kept
roots_kept draft word rest h =
    either (bytes_eq word (codes "root")) _ _ _
    (λ _. then_has (root_line draft.version draft.text.kinds draft.owners draft.text.roots rest) _ (NextRoot (length draft.text.kinds) draft.owners draft.text.roots) _
    (root_fits draft.version draft.text.kinds draft.owners draft.text.roots rest h.named) λ root next. record {
      named = h.named;
      kinds = h.kinds;
      fields = h.fields;
      all_counted = h.all_counted;
      nodes = h.nodes;
      all = h.all;
      roots = pushed 256 _ _ draft.text.roots root h.roots next.0 next.1;
      ops = h.ops;
    }) λ _.
    either (bytes_eq word (codes "op") && nat_lt 0 (length draft.text.roots)) _ _ _
    (λ e. then_has (op_line draft.text.ops rest) _ (NextOp draft.text.ops) _ (op_fits draft.text.ops rest) λ op next. record {
      named = h.named;
      promised = all_promised draft h;
      text = record {
        kinds = h.kinds;
        fields = h.fields;
        nodes = h.nodes;
        roots = rw h.all (whole_list 256 _ _ draft.text.roots h.roots (and_parts _ _ e).1);
        ops = rw h.ops (no_ops (length draft.text.kinds) (length draft.text.fields) (length draft.text.roots));
      };
      op = op_begins _ _ _ draft.text.ops op next;
      pending = tt;
    }) λ _. tt

begun_kept : (draft : Draft) (word : List ℕ) (rest : List (List ℕ)) → Keeps Begun draft → IfOk (in_begun (at Begun draft) word rest) Kept
begun_kept draft word rest h =
    either (bytes_eq word (codes "gen")) _ _ _ (λ _. anyhow (end_at rest) _ _ λ done. record { named = h.named; promised = h.promised; text = h.text; op = h.op; pending = tt }) λ _. tt

-- one more instruction of a method
code_pushed : (kinds fields roots : ℕ) (code : List Instr) (i : Instr) → CodeSoFar kinds fields roots code → nat_lt (length code) 256 ≡ true
    → is_instr kinds fields roots i ≡ true → CodeSoFar kinds fields roots (code ++ i ∷ [])
code_pushed kinds fields roots code i h room fine = record { few = few_pushed; each = all_pushed _ code i h.each fine }
  where
    few_pushed : nat_le (length (code ++ i ∷ [])) 256 ≡ true
    few_pushed = let k = length-append code (i ∷ []) in grind (arith, nat_tests, k)

abbrev one_if : Bool → ℕ
one_if b = if b then 1 else 0

-- one more instruction is a `new`, or not
news_pushed : (code : List Instr) (i : Instr) → news_in (code ++ i ∷ []) ≡ news_in code + one_if (is_new i)
news_pushed [] i = go (is_new i)
  where
    go : (b : Bool) → (if b then 0 + 1 else 0) ≡ 0 + one_if b
    go true = refl
    go false = refl
news_pushed (j ∷ code) i = go (is_new j) (news_pushed code i)
  where
    go : (b : Bool) → news_in (code ++ i ∷ []) ≡ news_in code + one_if (is_new i)
        → (if b then news_in (code ++ i ∷ []) + 1 else news_in (code ++ i ∷ [])) ≡ (if b then news_in code + 1 else news_in code) + one_if (is_new i)
    go true e = omega (arith, e)
    go false e = e

-- at most 4 `new` if the last isn't the fifth
news_fit : (n m : ℕ) (b : Bool) → nat_le n 4 ≡ true → not (b && nat_lt 3 n) ≡ true → m ≡ n + one_if b → nat_le m 4 ≡ true
news_fit n m true few fifth e = let below : nat_lt 3 n ≡ false = not-true _ fifth in grind (arith, nat_tests)
news_fit n m false few fifth e = grind (arith, nat_tests)

-- one more instruction of an operation
op_pushed : (section : Section) (kinds fields roots : ℕ) (ops : List Op) (op : Op) (i : Instr) → OpSoFar kinds fields roots ops op
    → nat_lt (length (code_so_far section op)) 256 ≡ true → not (is_new i && nat_lt 3 (news_of op)) ≡ true → is_instr kinds fields roots i ≡ true
    → OpSoFar kinds fields roots ops (with_instr section op i)
op_pushed Generator kinds fields roots ops op i h room fifth fine = record {
  next = record { room = h.next.room; new = h.next.new };
  named = h.named;
  args = h.args;
  generator = code_pushed kinds fields roots op.generator i h.generator room fine;
  wrapup = h.wrapup;
  news = news_fit (news_of op) _ (is_new i) h.news fifth (let e = news_pushed op.generator i in omega (arith, e));
}
op_pushed _ kinds fields roots ops op i h room fifth fine = record {
  next = record { room = h.next.room; new = h.next.new };
  named = h.named;
  args = h.args;
  generator = h.generator;
  wrapup = code_pushed kinds fields roots op.wrapup i h.wrapup room fine;
  news = news_fit (news_of op) _ (is_new i) h.news fifth (let e = news_pushed op.wrapup i in omega (arith, e));
}

-- a whole instruction, or a commit whose entries follow
whole_in_op : (section : Section) (draft : Draft) (i : Instr) → InOp section draft
    → nat_lt (length (code_so_far section draft.op)) 256 ≡ true → not (is_new i && nat_lt 3 (news_of draft.op)) ≡ true
    → is_instr (length draft.text.kinds) (length draft.text.fields) (length draft.text.roots) i ≡ true
    → InOp section (record (at section draft) { op = with_instr section draft.op i })
whole_in_op section draft i h room fifth fine = record { named = h.named; promised = h.promised; text = h.text; op = op_pushed section _ _ _ draft.text.ops draft.op i h.op room fifth fine; pending = tt }

-- a commit that is whole with these entries, or whose entry lines go on
entries_in_op : (section : Section) (left : ℕ) (draft : Draft) (entries : List CasEntry) → KindsOf draft.version draft.text.kinds → FewPromised draft.counted draft.owners → HasOps draft.text
    → OpSoFar (length draft.text.kinds) (length draft.text.fields) (length draft.text.roots) draft.text.ops draft.op
    → CommitSoFar (length draft.text.fields) (length draft.text.roots) left (code_so_far section draft.op) entries
    → InOp section (with_entries left (record draft { section = section }) entries)
entries_in_op section zero draft entries named promised text op h = record {
  named = named;
  promised = promised;
  text = text;
  op = op_pushed section _ _ _ draft.text.ops draft.op (instr.Commit entries) op h.room refl (and_from _ _ few h.each);
  pending = tt;
}
  where
    few : nat_le (length entries) 4 ≡ true
    few = let k : nat_le (length entries + 0) 4 ≡ true = h.few in grind (arith, nat_tests)
entries_in_op section (suc left) draft entries named promised text op h = record { named = named; promised = promised; text = text; op = op; pending = h }

no_entries : (fields roots count : ℕ) (code : List Instr) → nat_lt (length code) 256 ≡ true → nat_le count 4 ≡ true → CommitSoFar fields roots count code []
no_entries fields roots count code room few = record { room = room; few = let k : nat_le count 4 ≡ true = few in grind (arith, nat_tests); each = refl }

generator_step_kept : (draft : Draft) (step : Step) → InOp Generator draft
    → StepFits (length draft.text.kinds) (length draft.text.fields) (length draft.text.roots) step → has_room (at Generator draft) step ≡ true
    → Kept (with_step (at Generator draft) step)
generator_step_kept draft (Whole i) h fits room =
    let parts = and_parts _ _ room in whole_in_op Generator draft i h parts.0 parts.1 fits
generator_step_kept draft (Commits zero) h fits room =
    entries_in_op Generator 0 draft [] h.named h.promised h.text h.op (no_entries _ _ 0 draft.op.generator (and_parts _ _ room).0 fits)
generator_step_kept draft (Commits (suc count)) h fits room =
    entries_in_op Generator (suc count) draft [] h.named h.promised h.text h.op (no_entries _ _ (suc count) draft.op.generator (and_parts _ _ room).0 fits)

wrap_up_step_kept : (draft : Draft) (step : Step) → Keeps WrapUp draft
    → StepFits (length draft.text.kinds) (length draft.text.fields) (length draft.text.roots) step → has_room (at WrapUp draft) step ≡ true
    → Kept (with_step (at WrapUp draft) step)
wrap_up_step_kept draft (Whole i) h fits room =
    let parts = and_parts _ _ room in (whole_in_op WrapUp draft i h.0 parts.0 parts.1 fits, h.1)
wrap_up_step_kept draft (Commits zero) h fits room =
    (entries_in_op WrapUp 0 draft [] h.0.named h.0.promised h.0.text h.0.op (no_entries _ _ 0 draft.op.wrapup (and_parts _ _ room).0 fits), h.1)
wrap_up_step_kept draft (Commits (suc count)) h fits room =
    (entries_in_op WrapUp (suc count) draft [] h.0.named h.0.promised h.0.text h.0.op (no_entries _ _ (suc count) draft.op.wrapup (and_parts _ _ room).0 fits), h.1)

-- a line of a method, if each step that fits keeps what holds
method_kept : (draft : Draft) (word : List ℕ) (rest : List (List ℕ)) → KindsOf draft.version draft.text.kinds
    → ((step : Step) → StepFits (length draft.text.kinds) (length draft.text.fields) (length draft.text.roots) step → has_room draft step ≡ true → Kept (with_step draft step))
    → IfOk (in_method draft word rest) Kept
method_kept draft word rest named next =
    then_has (step_line draft.version draft.text.kinds draft.text.fields draft.text.roots word rest) _ (StepFits (length draft.text.kinds) (length draft.text.fields) (length draft.text.roots)) _
    (step_fits draft.version draft.text.kinds draft.text.fields draft.text.roots named word rest) λ step fits.
    demanded too_many (has_room draft step) _ _ λ room. next step fits room

generator_kept : (draft : Draft) (word : List ℕ) (rest : List (List ℕ)) → Keeps Generator draft → IfOk (in_generator (at Generator draft) word rest) Kept
generator_kept draft word rest h =
    either (bytes_eq word (codes "wrap") && nat_lt 0 (length draft.op.generator)) _ _ _
    (λ e. anyhow (end_at rest) _ _ λ done. (record { named = h.named; promised = h.promised; text = h.text; op = h.op; pending = tt }, (and_parts _ _ e).1)) λ _.
    method_kept (at Generator draft) word rest h.named λ step fits room. generator_step_kept draft step h fits room

-- the operations with one more that is whole
record IsNextDraft (left : ℕ) (next : Draft) : Type 0 where
  named : KindsOf next.version next.text.kinds
  promised : FewPromised next.counted next.owners
  text : HasOps next.text
  left_as_before : next.left ≡ left
  some : nat_lt 0 (length next.text.ops) ≡ true

op_is : (kinds fields roots : ℕ) (ops : List Op) (op : Op) → OpSoFar kinds fields roots ops op → nat_lt 0 (length op.generator) ≡ true → nat_lt 0 (length op.wrapup) ≡ true → is_op kinds fields roots op ≡ true
op_is kinds fields roots ops op h begun some =
    and_from _ _ h.named (and_from _ _ h.args (and_from _ _ (and_from _ _ (and_from _ _ begun h.generator.few) h.generator.each)
    (and_from _ _ (and_from _ _ (and_from _ _ some h.wrapup.few) h.wrapup.each) h.news)))

whole_op_has : (draft : Draft) → Keeps WrapUp draft → IfOk (with_whole_op draft) (IsNextDraft draft.left)
whole_op_has draft h =
    demanded form_fault (nat_lt 0 (length draft.op.wrapup)) _ _ λ some. record {
      named = h.0.named;
      promised = h.0.promised;
      text = record {
        kinds = h.0.text.kinds;
        fields = h.0.text.fields;
        nodes = h.0.text.nodes;
        roots = h.0.text.roots;
        ops = pushed 16 _ _ draft.text.ops draft.op h.0.text.ops h.0.op.next (op_is _ _ _ draft.text.ops draft.op h.0.op h.1 some);
      };
      left_as_before = refl;
      some = not_empty draft.text.ops draft.op;
    }
  where
    not_empty : (ops : List Op) (op : Op) → nat_lt 0 (length (ops ++ op ∷ [])) ≡ true
    not_empty ops op = let k = length-append ops (op ∷ []) in grind (arith, nat_tests, k)

wrap_up_kept : (draft : Draft) (word : List ℕ) (rest : List (List ℕ)) → Keeps WrapUp draft → IfOk (in_wrap_up (at WrapUp draft) word rest) Kept
wrap_up_kept draft word rest h =
    either (bytes_eq word (codes "op")) _ _ _
    (λ _. then_has (with_whole_op (at WrapUp draft)) _ (IsNextDraft 0) _ (whole_op_has (at WrapUp draft) (record { named = h.0.named; promised = h.0.promised; text = h.0.text; op = h.0.op; pending = tt }, h.1)) λ next so_far.
    then_has (op_line next.text.ops rest) _ (NextOp next.text.ops) _ (op_fits next.text.ops rest) λ op begun.
    record { named = so_far.named; promised = so_far.promised; text = so_far.text; op = op_begins _ _ _ next.text.ops op begun; pending = rw so_far.left_as_before tt })
    (λ _. method_kept (at WrapUp draft) word rest h.0.named λ step fits room. wrap_up_step_kept draft step h fits room)

-- one more entry of a commit
entry_pushed : (fields roots left : ℕ) (code : List Instr) (entries : List CasEntry) (entry : CasEntry)
    → CommitSoFar fields roots (suc left) code entries → is_entry fields roots entry ≡ true → CommitSoFar fields roots left code (entries ++ entry ∷ [])
entry_pushed fields roots left code entries entry h fine = record { room = h.room; few = few; each = all_pushed _ entries entry h.each fine }
  where
    few : nat_le (length (entries ++ entry ∷ []) + left) 4 ≡ true
    few = let before : nat_le (length entries + suc left) 4 ≡ true = h.few in let k = length-append entries (entry ∷ []) in grind (arith, nat_tests, k)

-- what holds at a section holds of a draft there
keeps_there : (section : Section) (left : ℕ) (draft : Draft) (entries : List CasEntry)
    → Keeps section (with_entries left (record draft { section = section }) entries) → Kept (with_entries left (record draft { section = section }) entries)
keeps_there section zero draft entries h = h
keeps_there section (suc left) draft entries h = h

-- entries change no declarations
same_text : (left : ℕ) (draft : Draft) (entries : List CasEntry) (P : Version → ℕ → List ℕ → Text → Type 0) → P draft.version draft.counted draft.owners draft.text
    → P (with_entries left draft entries).version (with_entries left draft entries).counted (with_entries left draft entries).owners (with_entries left draft entries).text
same_text zero draft entries P h = h
same_text (suc left) draft entries P h = h

same_generator : (left : ℕ) (draft : Draft) (entries : List CasEntry) → nat_lt 0 (length draft.op.generator) ≡ true
    → nat_lt 0 (length (with_entries left (record draft { section = WrapUp }) entries).op.generator) ≡ true
same_generator zero draft entries h = h
same_generator (suc left) draft entries h = h

entry_kept : (section : Section) (left : ℕ) (draft : Draft) (entry : CasEntry) → Keeps section (record draft { left = suc left })
    → is_entry (length draft.text.fields) (length draft.text.roots) entry ≡ true
    → Keeps section (with_entries left (record draft { section = section }) (draft.entries ++ entry ∷ []))
entry_kept Start left draft entry h fine = same_text left (record draft { section = Start }) _ HasKinds h
entry_kept Opening left draft entry h fine = same_text left (record draft { section = Opening }) _ HasKinds h
entry_kept Kinds left draft entry h fine = same_text left (record draft { section = Kinds }) _ (λ version counted owners text. HasKinds version counted owners text × (version ≡ Second)) h
entry_kept Fields left draft entry h fine = same_text left (record draft { section = Fields }) _ HasFields h
entry_kept Counts left draft entry h fine =
    same_text left (record draft { section = Counts }) _ (λ version counted owners text. HasCounts version counted owners text × (nat_lt counted (length text.kinds) ≡ true)) h
entry_kept Nodes left draft entry h fine =
    same_text left (record draft { section = Nodes }) _ (λ version counted owners text. HasNodes version counted owners text × (nat_lt (length text.nodes) (length owners) ≡ true)) h
entry_kept Roots left draft entry h fine = same_text left (record draft { section = Roots }) _ HasRoots h
entry_kept Begun left draft entry h fine = entries_in_op Begun left draft _ h.named h.promised h.text h.op (entry_pushed _ _ left draft.op.wrapup draft.entries entry h.pending fine)
entry_kept Generator left draft entry h fine = entries_in_op Generator left draft _ h.named h.promised h.text h.op (entry_pushed _ _ left draft.op.generator draft.entries entry h.pending fine)
entry_kept WrapUp left draft entry h fine =
    (entries_in_op WrapUp left draft _ h.0.named h.0.promised h.0.text h.0.op (entry_pushed _ _ left draft.op.wrapup draft.entries entry h.0.pending fine), same_generator left draft _ h.1)
entry_kept Shipped left draft entry h fine = same_text left (record draft { section = Shipped }) _ (λ version counted owners text. (is_within_limits text ≡ true) × FewPromised counted owners) h

section_kept : (section : Section) (draft : Draft) (word : List ℕ) (rest : List (List ℕ)) → Keeps section draft → IfOk (in_section section (at section draft) word rest) Kept
section_kept Start draft word rest h = start_kept draft word rest
section_kept Opening draft word rest h = opening_kept (at Opening draft) word rest h
section_kept Kinds draft word rest h = kinds_kept (at Kinds draft) word rest h
section_kept Fields draft word rest h = fields_kept (at Fields draft) word rest h
section_kept Counts draft word rest h = counts_kept (at Counts draft) word rest h
section_kept Nodes draft word rest h = nodes_kept (at Nodes draft) word rest h
section_kept Roots draft word rest h = roots_kept draft word rest h
section_kept Begun draft word rest h = begun_kept draft word rest h
section_kept Generator draft word rest h = generator_kept draft word rest h
section_kept WrapUp draft word rest h = wrap_up_kept draft word rest h
section_kept Shipped draft word rest h = tt

place_kept : (left : ℕ) (draft : Draft) (word : List ℕ) (rest : List (List ℕ)) → Kept (record draft { left = left }) → IfOk (in_place left (record draft { left = left }) word rest) Kept
place_kept zero draft word rest h = section_kept draft.section (record draft { left = 0 }) word rest h
place_kept (suc left) draft word rest h =
    then_has (entry_line draft.text.fields draft.text.roots word rest) _ (λ entry. is_entry (length draft.text.fields) (length draft.text.roots) entry ≡ true) _
    (entry_fits draft.text.fields draft.text.roots word rest) λ entry fine.
    keeps_there draft.section left (record draft { left = suc left }) (draft.entries ++ entry ∷ []) (entry_kept draft.section left (record draft { left = suc left }) entry h fine)

words_kept : (draft : Draft) (words : List (List ℕ)) → Kept draft → IfOk (after_words draft words) Kept
words_kept draft [] h = h
words_kept draft (word ∷ rest) h = either (is_comment word) _ _ _ (λ _. h) (λ _. place_kept draft.left draft word rest h)

pub line_kept : (draft : Draft) (line : TextLine) → Kept draft → IfOk (after_line draft line) Kept
line_kept draft line h = anyhow (plain (line_fault line)) _ _ λ done. words_kept draft (words_of line.bytes) h

pub at_line_has : {A : Type 0} (line : ℕ) (r : Result A ℕ) (P : A → Type 0) → IfOk r P → IfOk (at_line line r) P
at_line_has line (Ok x) P h = h
at_line_has line (Err e) P h = tt

pub lines_kept : (draft : Draft) (lines : List TextLine) → Kept draft → IfOk (after_lines draft lines) Kept
lines_kept draft [] h = h
lines_kept draft (line ∷ lines) h =
    then_has (at_line line.number (after_line draft line)) _ Kept Kept (at_line_has line.number _ Kept (line_kept draft line h)) λ next kept. lines_kept next lines kept

-- declarations with at least one root are those of a text within the limits
pub roots_within : (draft : Draft) → Keeps Roots draft → nat_lt 0 (length draft.text.roots) ≡ true
    → are_kinds draft.text.kinds && (are_fields (length draft.text.kinds) draft.text.fields
    && (are_nodes (length draft.text.kinds) draft.text.fields draft.text.nodes && are_roots (length draft.text.kinds) (owners_of draft.text.nodes) draft.text.roots)) ≡ true
roots_within draft h some =
    and_from _ _ h.kinds (and_from _ _ h.fields (and_from _ _ h.nodes (rw h.all (whole_list 256 _ _ draft.text.roots h.roots some))))

-- a text that ends is within the limits
finished_in_is : (section : Section) (draft : Draft) → Keeps section draft → IfOk (finished_in section draft) (λ text. is_within_limits text ≡ true)
finished_in_is WrapUp draft h =
    then_has (with_whole_op draft) _ (IsNextDraft draft.left) _ (whole_op_has draft h) λ next last.
    and_from _ _ last.text.kinds (and_from _ _ last.text.fields (and_from _ _ last.text.nodes
    (and_from _ _ last.text.roots (whole_list 16 _ _ next.text.ops last.text.ops last.some))))
finished_in_is Shipped draft h = h.0
finished_in_is _ draft h = tt

pub finished_is : (draft : Draft) → Kept draft → IfOk (finished draft) (λ text. is_within_limits text ≡ true)
finished_is draft h = demanded form_fault (draft.left == 0) _ _ λ _. finished_in_is draft.section draft h

-- a text that lines spell is within the limits
text_in_is : (lines : List (List ℕ)) → IfOk (text_in lines) (λ text. is_within_limits text ≡ true)
text_in_is lines =
    then_has (after_lines (draft_at Second Start) (numbered 1 lines)) _ Kept _ (lines_kept (draft_at Second Start) (numbered 1 lines) (nothing_declared Second)) λ draft h.
    at_line_has (length lines + 1) _ (λ text. is_within_limits text ≡ true) (finished_is draft h)

-- each text for which bytes stand is within the limits
pub texts_are_within : TextsAreWithin
texts_are_within bytes text stands = IfOk-at_ok (λ text. is_within_limits text ≡ true) stands (text_in_is (lines_of bytes))
