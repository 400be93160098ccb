-- How much the lines so far declare at most.
use Rattle.std.specs.Prelude.{◌≡◌, ℕ, ◌*◌, ◌≤◌, true, List, [], length, nat_lt}
use Rattle.std.specs.List.{list_all}
use Rattle.std.proofs.Common.{arith}
use Rattle.std.proofs.lemmas.Bool.{and_parts, leb-true}
use Rattle.norm_lang.specs.declared.text.FieldDecl.{FieldDecl}
use Rattle.norm_lang.specs.declared.text.RootDecl.{RootDecl}
use Rattle.norm_lang.specs.declared.text.Text.{Text}
use Rattle.norm_lang.specs.declared.text.Version.{Version}
use Rattle.norm_lang.specs.Declarations.{groups_begun}
use Rattle.norm_lang.specs.Grammar.{Section, Start, Opening, Kinds, Fields, Counts, Nodes, Roots, Begun, Generator, WrapUp, Shipped, Draft}
use Rattle.norm_lang.specs.Limits.{has_groups, are_kinds, is_field, are_fields, owners_of, are_roots}
use Rattle.text_laws.proofs.FieldGroups.{all_imply, few_grouped, few_begun, all_of_begun}
use Rattle.text_laws.proofs.DraftLimits.{FieldsSoFar, HasKinds, HasOps, FewPromised, none_promised, few_kinds, all_promised, Keeps, Kept}

-- how much is declared at most
pub record Few (text : Text) : Type 0 where
  pub kinds : length text.kinds ≤ 4
  pub fields : length text.fields ≤ 16
  pub roots : length text.roots ≤ 256

pub owned : (kinds : ℕ) (fields : List FieldDecl) → list_all (is_field kinds) fields ≡ true → list_all (λ (field : FieldDecl). nat_lt field.owner kinds) fields ≡ true
owned kinds fields each = all_imply (is_field kinds) _ fields (λ field h. (and_parts _ _ (and_parts _ _ h).1).0) each

few_whole : (kinds : ℕ) (fields : List FieldDecl) → has_groups kinds fields ≡ true → list_all (is_field kinds) fields ≡ true → kinds ≤ 4 → length fields ≤ 16
few_whole kinds fields groups each few =
    let all : length fields ≤ 4 * kinds = few_grouped kinds fields groups (owned kinds fields each) in
    omega (arith, all, few)

-- at most 16 fields
pub few_fields : (kinds : ℕ) (fields : List FieldDecl) → are_fields kinds fields ≡ true → kinds ≤ 4 → length fields ≤ 16
few_fields kinds fields h few =
    let groups = and_parts (has_groups kinds fields) _ (and_parts _ _ h).1 in
    few_whole kinds fields groups.0 (and_parts _ _ groups.1).0 few

few_so_far : (kinds : ℕ) (fields : List FieldDecl) → FieldsSoFar kinds fields → kinds ≤ 4 → length fields ≤ 16
few_so_far kinds fields h few =
    let all = few_grouped (groups_begun fields) fields h.grouped.groups (all_of_begun fields) in
    let begun = few_begun kinds fields (owned kinds fields h.each) in
    omega (arith, all, begun, few)

few_roots : (kinds : ℕ) (owners : List ℕ) (roots : List RootDecl) → are_roots kinds owners roots ≡ true → length roots ≤ 256
few_roots kinds owners roots h = leb-true (length roots) 256 (and_parts _ _ (and_parts _ _ h).0).1

few_of : (text : Text) → are_kinds text.kinds ≡ true → are_fields (length text.kinds) text.fields ≡ true → are_roots (length text.kinds) (owners_of text.nodes) text.roots ≡ true → Few text
few_of text kinds fields roots = record {
  kinds = few_kinds text.kinds kinds;
  fields = few_fields (length text.kinds) text.fields fields (few_kinds text.kinds kinds);
  roots = few_roots (length text.kinds) (owners_of text.nodes) text.roots roots;
}

none : {A : Type 0} (items : List A) (most : ℕ) → items ≡ [] → length items ≤ most
none items most same = rw same (omega arith)

few_opened : (version : Version) (counted : ℕ) (owners : List ℕ) (text : Text) → HasKinds version counted owners text → Few text
few_opened version counted owners text h = record { kinds = leb-true _ 4 h.kinds.few; fields = none text.fields 16 h.fields; roots = none text.roots 256 h.roots }

few_in_op : (text : Text) → HasOps text → Few text
few_in_op text h = few_of text h.kinds h.fields h.roots

few_in : (section : Section) (draft : Draft) → Keeps section draft → Few draft.text
few_in Start draft h = few_opened _ _ _ draft.text h
few_in Opening draft h = few_opened _ _ _ draft.text h
few_in Kinds draft h = few_opened _ _ _ draft.text h.0
few_in Fields draft h = record {
  kinds = leb-true _ 4 h.kinds.few;
  fields = few_so_far (length draft.text.kinds) draft.text.fields h.fields (leb-true _ 4 h.kinds.few);
  roots = none draft.text.roots 256 h.roots;
}
few_in Counts draft h = record {
  kinds = leb-true _ 4 h.0.kinds.few;
  fields = few_fields (length draft.text.kinds) draft.text.fields h.0.fields (leb-true _ 4 h.0.kinds.few);
  roots = none draft.text.roots 256 h.0.roots;
}
few_in Nodes draft h = record {
  kinds = few_kinds draft.text.kinds h.0.kinds;
  fields = few_fields (length draft.text.kinds) draft.text.fields h.0.fields (few_kinds draft.text.kinds h.0.kinds);
  roots = none draft.text.roots 256 h.0.roots;
}
few_in Roots draft h = record {
  kinds = few_kinds draft.text.kinds h.kinds;
  fields = few_fields (length draft.text.kinds) draft.text.fields h.fields (few_kinds draft.text.kinds h.kinds);
  roots = leb-true _ 256 h.roots.few;
}
few_in Begun draft h = few_in_op draft.text h.text
few_in Generator draft h = few_in_op draft.text h.text
few_in WrapUp draft h = few_in_op draft.text h.0.text
few_in Shipped draft h =
    let kinds = and_parts _ _ h.0 in
    let fields = and_parts _ _ kinds.1 in
    let nodes = and_parts _ _ fields.1 in
    few_of draft.text kinds.0 fields.0 (and_parts _ _ nodes.1).0

-- at most 4 kinds, 16 fields and 256 roots are declared
pub few_declared : (draft : Draft) → Kept draft → Few draft.text
few_declared draft h = few_in draft.section draft h

promised_in : (section : Section) (draft : Draft) → Keeps section draft → FewPromised draft.counted draft.owners
promised_in Start draft h = none_promised draft.counted draft.owners h.none_counted h.none_promised
promised_in Opening draft h = none_promised draft.counted draft.owners h.none_counted h.none_promised
promised_in Kinds draft h = none_promised draft.counted draft.owners h.0.none_counted h.0.none_promised
promised_in Fields draft h = none_promised draft.counted draft.owners h.none_counted h.none_promised
promised_in Counts draft h = record { counted_few = counted; owners_few = leb-true _ 256 h.0.owners_so_far.few }
  where
    counted : draft.counted ≤ 4
    counted =
        let within : draft.counted ≤ length draft.text.kinds = leb-true _ _ h.0.within in
        let few : length draft.text.kinds ≤ 4 = leb-true _ 4 h.0.kinds.few in
        omega (arith, within, few)
promised_in Nodes draft h = record { counted_few = counted; owners_few = leb-true _ 256 h.0.promised.few }
  where
    counted : draft.counted ≤ 4
    counted = let all = h.0.all_counted in let few = few_kinds draft.text.kinds h.0.kinds in omega (arith, all, few)
promised_in Roots draft h = all_promised draft h
promised_in Begun draft h = h.promised
promised_in Generator draft h = h.promised
promised_in WrapUp draft h = h.0.promised
promised_in Shipped draft h = h.1

-- the nodes of at most 4 kinds are promised, and at most 256 in all
pub few_promised : (draft : Draft) → Kept draft → FewPromised draft.counted draft.owners
few_promised draft h = promised_in draft.section draft h
