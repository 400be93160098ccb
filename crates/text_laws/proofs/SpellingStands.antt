-- The spelling of a text within the limits stands for it by the grammar, in each version in which the text may stand.
use Rattle.std.specs.Prelude.{◌≡◌, ℕ, ◌+◌, ◌≤◌, Bool, true, List, [], ◌∷◌, ◌++◌, map, length, Ok, codes, nat_le, ◌==◌}
use Rattle.std.specs.List.{list_all, flat_map, AllByRecursion}
use Rattle.std.proofs.Common.{refl, ap, ◌∙◌, sym, arith}
use Rattle.std.proofs.lemmas.Bool.{and_parts, ltb-true}
use Rattle.std.proofs.lemmas.List.{length-map}
use Rattle.norm_lang.specs.declared.text.FieldDecl.{FieldDecl}
use Rattle.norm_lang.specs.declared.text.RootDecl.{RootDecl}
use Rattle.norm_lang.specs.declared.text.NodeDecl.{NodeDecl}
use Rattle.norm_lang.specs.declared.text.Instr.{Instr}
use Rattle.norm_lang.specs.declared.text.Instr.TheVariants as instr
use Rattle.norm_lang.specs.declared.text.Op.{Op}
use Rattle.norm_lang.specs.declared.text.Text.{Text}
use Rattle.norm_lang.specs.declared.text.Version.{Version}
use Rattle.norm_lang.specs.declared.text.Version.TheVariants.{First, Second}
use Rattle.oa_text.specs.Lines.{numbered}
use Rattle.norm_lang.specs.Laws.{SpellingsStand}
use Rattle.norm_lang.specs.KindFields.{fields_of}
use Rattle.norm_lang.specs.Spelling.{joined_words, spelled_version, kind_lines, spelled_field, count_lines, spelled_node, spelled_root, spelled_entry, entries_of, instr_lines, code_lines, op_lines, declaration_lines, spelled_by, spelled}
use Rattle.norm_lang.specs.LineWords.{is_name}
use Rattle.norm_lang.specs.Grammar.{Start, Opening, Roots, WrapUp, Draft, no_op, draft_at, after_words, after_lines, finished, text_in}
use Rattle.norm_lang.specs.Limits.{is_entry, is_instr, is_field, is_node, owners_of, is_root, is_op, is_within_limits}
use Rattle.norm_lang.proofs.SpelledLines.{IsLine, lines_found}
use Rattle.text_laws.specs.StandsFor.{MayBeIn}
use Rattle.text_laws.proofs.WithinLimits.{field_parts, node_parts, root_parts, parts_of}
use Rattle.text_laws.proofs.LinesSpelled.{version_is, kind_line_is, gen_is, wrap_is, field_is, count_is, node_line_is, root_is, op_is, entry_is, instr_is}
use Rattle.text_laws.proofs.WordsRead.{AreKinds, AreFields, AreRoots}
use Rattle.text_laws.proofs.InTurn.{kept_few, group_few}
use Rattle.text_laws.proofs.SpelledFolds.{after_spelled, line_then, lines_then, lines_read}
use Rattle.text_laws.proofs.CodeRead.{in_code, AreNamed}
use Rattle.text_laws.proofs.TextRead.{AreDeclared, kinds_named, declarations_read}
use Rattle.text_laws.proofs.OpsRead.{op_is as op_within, AreOps, first_op_read, behind_ops, ops_read, ops_finished}

abbrev Lines : List (List (List ℕ)) → Type 0
Lines lines = AllByRecursion IsLine lines

both : (xs ys : List (List (List ℕ))) → Lines xs → Lines ys → Lines (xs ++ ys)
both [] ys first second = second
both (x ∷ xs) ys first second = (first.0, both xs ys first.1 second)

each_line : {A : Type 0} (line : A → List (List ℕ)) (test : A → Bool) → ((x : A) → test x ≡ true → IsLine (line x)) → (xs : List A) → list_all test xs ≡ true → Lines (map line xs)
each_line line test is [] all = tt
each_line line test is (x ∷ xs) all =
    let p = and_parts (test x) (list_all test xs) all in
    (is x p.0, each_line line test is xs p.1)

each_lines : {A : Type 0} (lines : A → List (List (List ℕ))) (test : A → Bool) → ((x : A) → test x ≡ true → Lines (lines x)) → (xs : List A) → list_all test xs ≡ true → Lines (flat_map lines xs)
each_lines lines test are [] all = tt
each_lines lines test are (x ∷ xs) all =
    let p = and_parts (test x) (list_all test xs) all in
    both (lines x) (flat_map lines xs) (are x p.0) (each_lines lines test are xs p.1)

entries_lines : (fields : List FieldDecl) (roots : List RootDecl) (kinds : ℕ) (i : Instr) → AreFields fields → AreRoots roots → is_instr kinds (length fields) (length roots) i ≡ true
    → Lines (map (spelled_entry fields roots) (entries_of i))
entries_lines fields roots kinds (instr.Commit entries) fs rs is =
    let p = and_parts (nat_le (length entries) 4) (list_all (is_entry (length fields) (length roots)) entries) is in
    each_line (spelled_entry fields roots) (is_entry (length fields) (length roots)) (λ entry is. entry_is fields roots entry fs rs is) entries p.1
entries_lines fields roots kinds _ fs rs is = tt

code_are : (version : Version) (kinds : List (List ℕ)) (fields : List FieldDecl) (roots : List RootDecl) (code : List Instr) → AreKinds version kinds → AreFields fields → AreRoots roots
    → list_all (is_instr (length kinds) (length fields) (length roots)) code ≡ true → Lines (code_lines version kinds fields roots code)
code_are version kinds fields roots code ks fs rs all =
    each_lines (instr_lines version kinds fields roots) (is_instr (length kinds) (length fields) (length roots))
    (λ i is. (instr_is version kinds fields roots i ks fs rs is, entries_lines fields roots (length kinds) i fs rs is)) code all

op_are : (version : Version) (kinds : List (List ℕ)) (fields : List FieldDecl) (roots : List RootDecl) (op : Op) → AreKinds version kinds → AreFields fields → AreRoots roots
    → is_op (length kinds) (length fields) (length roots) op ≡ true → Lines (op_lines version kinds fields roots op)
op_are version kinds fields roots op ks fs rs within =
    let is = op_within (length kinds) (length fields) (length roots) op within in (
      op_is op is.name is.args,
      (
        gen_is,
        both (code_lines version kinds fields roots op.generator) ((codes "wrap" ∷ []) ∷ code_lines version kinds fields roots op.wrapup)
            (code_are version kinds fields roots op.generator ks fs rs (is.generator).each) (wrap_is, code_are version kinds fields roots op.wrapup ks fs rs (is.wrapup).each),
      ),
    )

-- what passes a test that asks for a name has one
all_named : {A : Type 0} (name : A → List ℕ) (good : A → Bool) (items : List A) → ((x : A) → good x ≡ true → is_name (name x) ≡ true) → list_all good items ≡ true → list_all (λ x. is_name (name x)) items ≡ true
all_named name good [] named all = refl
all_named name good (x ∷ items) named all =
    let p = and_parts (good x) (list_all good items) all in
    rw (named x p.0, all_named name good items named p.1) refl

-- the names of declarations within the limits
pub names_of : (version : Version) (text : Text) → AreDeclared version text → AreNamed version text
names_of version text are = record {
  kinds = kinds_named version text are;
  fields = record {
    names = all_named (λ (field : FieldDecl). field.name) (is_field (length text.kinds)) text.fields (λ field is. (field_parts (length text.kinds) field is).name) (are.fields).each;
    different = (are.fields).apart;
  };
  roots = record {
    names = all_named (λ (root : RootDecl). root.name) (is_root (length text.kinds) (owners_of text.nodes)) text.roots (λ root is. (root_parts (length text.kinds) (owners_of text.nodes) root is).name) (are.roots).each;
    different = (are.roots).apart;
  };
}

kinds_are : (version : Version) (kinds : List (List ℕ)) → list_all is_name kinds ≡ true → Lines (kind_lines version kinds)
kinds_are First kinds names = tt
kinds_are Second kinds names = each_line (λ name. codes "kind" ∷ name ∷ []) is_name kind_line_is kinds names

counts_are : (version : Version) (k : ℕ) (kinds : List (List ℕ)) (nodes : List NodeDecl) → list_all is_name kinds ≡ true → length nodes ≤ 256 → Lines (count_lines version k kinds nodes)
counts_are version k [] nodes names few = tt
counts_are version k (name ∷ kinds) nodes names few =
    let p = and_parts (is_name name) (list_all is_name kinds) names in
    (count_is version k name nodes p.0 (omega (arith, kept_few (λ (node : NodeDecl). node.owner == k) nodes, few)), counts_are version (k + 1) kinds nodes p.1 few)

-- each line of the declarations is plain and short
pub declarations_are : (version : Version) (text : Text) → AreDeclared version text → AllByRecursion IsLine (declaration_lines version text)
declarations_are version text are =
    let kinds = text.kinds in
    let fields = text.fields in
    let nodes = text.nodes in
    let owners = owners_of nodes in
    let ks = kinds_named version text are in
    let few : length owners ≤ 256 = (let count = length-map nodes (λ (node : NodeDecl). node.owner) in omega (arith, count, (are.nodes).count)) in
    let field_lines = map (spelled_field version kinds) fields in
    let counts = count_lines version 0 kinds nodes in
    let node_lines = map spelled_node nodes in
    let root_lines = map (spelled_root version kinds) text.roots in
    both (kind_lines version kinds) (field_lines ++ (counts ++ (node_lines ++ root_lines))) (kinds_are version kinds ks.names)
    (both field_lines (counts ++ (node_lines ++ root_lines))
    (each_line (spelled_field version kinds) (is_field (length kinds)) (λ field it.
    let p = field_parts (length kinds) field it in
    field_is version kinds field ks p.name p.owner p.kind) fields (are.fields).each)
    (both counts (node_lines ++ root_lines) (counts_are version 0 kinds nodes ks.names (are.nodes).count)
    (both node_lines root_lines
    (each_line spelled_node (is_node (length kinds) fields owners) (λ node it.
    let p = node_parts (length kinds) fields owners node it in
    node_line_is owners (fields_of node.owner fields) node (group_few (length kinds) node.owner fields (are.fields).groups (ltb-true node.owner (length kinds) p.owner)) few p.starts) nodes (are.nodes).each)
    (each_line (spelled_root version kinds) (is_root (length kinds) owners) (λ root it.
    let p = root_parts (length kinds) owners root it in
    root_is version kinds owners root ks few p.name p.kind p.start) text.roots (are.roots).each))))

-- a text within the limits that stands in a version, part by part
pub record IsText (version : Version) (text : Text) : Type 0 where
  pub declared : AreDeclared version text
  pub ops : AreOps (length text.kinds) (length text.fields) (length text.roots) text.ops
  pub some_ops : 1 ≤ length text.ops

pub text_is : (version : Version) (text : Text) → MayBeIn version text → is_within_limits text ≡ true → IsText version text
text_is version text may within =
    let parts = parts_of text within in
    record {
      declared = record { of = may; kinds = parts.kinds; fields = parts.fields; nodes = parts.nodes; roots = parts.roots };
      ops = record { each = (parts.ops).each; different = (parts.ops).apart; few = ((parts.ops).count).few };
      some_ops = ((parts.ops).count).some;
    }

-- each line of the spelling is plain and short
spelled_are : (version : Version) (text : Text) → IsText version text → Lines (spelled_by version text)
spelled_are version text is =
    let names = names_of version text is.declared in
    let lines = op_lines version text.kinds text.fields text.roots in (
      version_is version,
      both (declaration_lines version text) (flat_map lines text.ops) (declarations_are version text is.declared)
          (each_lines lines (is_op (length text.kinds) (length text.fields) (length text.roots)) (λ op it. op_are version text.kinds text.fields text.roots op names.kinds names.fields names.roots it) text.ops (is.ops).each),
    )

-- the operations give the text
pub record GivesText (text : Text) (lines : List (List (List ℕ))) : Type 0 where
  pub draft : Draft
  pub read : after_spelled (draft_at Second Start) lines ≡ Ok draft
  pub done : finished draft ≡ Ok text

version_read : (version : Version) → after_words (draft_at Second Start) (spelled_version version) ≡ Ok (draft_at version Opening)
version_read First = refl
version_read Second = refl

ops_give : (version : Version) (text : Text) (ops : List Op) → IsText version text → text.ops ≡ ops
    → GivesText text (spelled_version version ∷ (declaration_lines version text ++ flat_map (op_lines version text.kinds text.fields text.roots) ops))
ops_give version text [] is same = absurd (omega (arith, is.some_ops, ap length same))
ops_give version text (op ∷ rest) is same =
    let lines = op_lines version text.kinds text.fields text.roots in
    let test = is_op (length text.kinds) (length text.fields) (length text.roots) in
    let names = names_of version text is.declared in
    let opens : Draft = draft_at version Opening in
    let start = in_code version text Roots [] no_op in
    let begun = in_code version text WrapUp [] op in
    let last = behind_ops version text [] op rest in
    let each : list_all test (op ∷ rest) ≡ true = ap (list_all test) (sym same) ∙ (is.ops).each in
    let first = op_within (length text.kinds) (length text.fields) (length text.roots) op (and_parts (test op) (list_all test rest) each).0 in
    record {
      draft = last;
      read =
          line_then (draft_at Second Start) opens (spelled_version version) (declaration_lines version text ++ flat_map lines (op ∷ rest)) (Ok last) (version_read version)
          (lines_then opens start (declaration_lines version text) (flat_map lines (op ∷ rest)) (Ok last) (declarations_read version text is.declared)
          (lines_then start begun (lines op) (flat_map lines rest) (Ok last)
          (first_op_read version text op names (((is.declared).roots).count).some first)
          (ops_read version text [] op rest text.ops names is.ops (sym same))));
      done = ops_finished version text [] op rest text.ops (is.ops).each (sym same);
    }

-- the spelling in a version gives the text
pub spelling_gives : (version : Version) (text : Text) → IsText version text → GivesText text (spelled_by version text)
spelling_gives version text is = ops_give version text text.ops is refl

pub text_from : (found : List (List ℕ)) (draft : Draft) (text : Text) → after_lines (draft_at Second Start) (numbered 1 found) ≡ Ok draft → finished draft ≡ Ok text → text_in found ≡ Ok text
text_from found draft text read done = rw (read, done) refl

pub spellings_stand : SpellingsStand
spellings_stand text within =
    let is = text_is Second text tt within in
    let gives = spelling_gives Second text is in
    let are = spelled_are Second text is in
    ap text_in (lines_found (spelled text) are)
    ∙ text_from (map joined_words (spelled text)) gives.draft text (lines_read (spelled text) 1 (draft_at Second Start) gives.draft are gives.read) gives.done
