-- The lines of a spelled text after its version line: each is plain, and none ends the text early or names a shipped one.
use Rattle.std.specs.Prelude.{◌≡◌, ℕ, ◌+◌, Bool, true, false, List, [], ◌∷◌, ◌++◌, map, length, codes, nat_le}
use Rattle.std.specs.List.{list_all, flat_map, AllByRecursion}
use Rattle.std.proofs.Common.{refl}
use Rattle.std.proofs.lemmas.Bool.{and_parts}
use Rattle.norm_lang.specs.declared.text.FieldDecl.{FieldDecl}
use Rattle.norm_lang.specs.declared.text.RootDecl.{RootDecl}
use Rattle.norm_lang.specs.declared.text.NodeDecl.{NodeDecl}
use Rattle.norm_lang.specs.declared.text.Place.{Place}
use Rattle.norm_lang.specs.declared.text.Place.TheVariants as places
use Rattle.norm_lang.specs.declared.text.Instr.{Instr}
use Rattle.norm_lang.specs.declared.text.Instr.TheVariants as instr
use Rattle.norm_lang.specs.declared.text.Op.{Op}
use Rattle.norm_lang.specs.declared.text.Text.{Text}
use Rattle.norm_lang.specs.declared.text.Version.TheVariants.{Second}
use Rattle.norm_lang.specs.Bounds.{most_entries}
use Rattle.norm_lang.specs.Spelling.{cas_words, with_words, kind_lines, spelled_field, count_lines, spelled_node, spelled_root, spelled_entry, entries_of, spelled_instr, instr_lines, code_lines, op_lines, declaration_lines}
use Rattle.norm_lang.specs.Limits.{is_entry, is_instr, is_op, is_within_limits}
use Rattle.norm_lang.proofs.SpelledLines.{IsLine}
use Rattle.norm_parser.specs.FrontRead.{front_of, ends_text, names_text}
use Rattle.text_laws.proofs.LinesSpelled.{gen_is, wrap_is, op_is, entry_is, instr_is}
use Rattle.text_laws.proofs.CodeRead.{AreNamed}
use Rattle.text_laws.proofs.OpsRead.{op_is as op_within}
use Rattle.text_laws.proofs.SpellingStands.{names_of, text_is, declarations_are}
use Rattle.document_spelling.proofs.JoinedWords.{IsPlain, line_is_plain}

-- ---- lists of lines

module _ {B : Type 0} (P : B → Type 0) where
  pub all_both : (xs ys : List B) → AllByRecursion P xs → AllByRecursion P ys → AllByRecursion P (xs ++ ys)
  all_both [] ys first second = second
  all_both (x ∷ xs) ys first second = (first.0, all_both xs ys first.1 second)

  pub all_mapped : {A : Type 0} (line : A → B) → ((x : A) → P (line x)) → (xs : List A) → AllByRecursion P (map line xs)
  all_mapped line is [] = tt
  all_mapped line is (x ∷ xs) = (is x, all_mapped line is xs)

  all_flat : {A : Type 0} (lines : A → List B) → ((x : A) → AllByRecursion P (lines x)) → (xs : List A) → AllByRecursion P (flat_map lines xs)
  all_flat lines are [] = tt
  all_flat lines are (x ∷ xs) = all_both (lines x) (flat_map lines xs) (are x) (all_flat lines are xs)

  tested_mapped : {A : Type 0} (line : A → B) (test : A → Bool) → ((x : A) → test x ≡ true → P (line x)) → (xs : List A) → list_all test xs ≡ true → AllByRecursion P (map line xs)
  tested_mapped line test is [] all = tt
  tested_mapped line test is (x ∷ xs) all =
      let parts = and_parts (test x) (list_all test xs) all in
      (is x parts.0, tested_mapped line test is xs parts.1)

  tested_flat : {A : Type 0} (lines : A → List B) (test : A → Bool) → ((x : A) → test x ≡ true → AllByRecursion P (lines x)) → (xs : List A) → list_all test xs ≡ true → AllByRecursion P (flat_map lines xs)
  tested_flat lines test are [] all = tt
  tested_flat lines test are (x ∷ xs) all =
      let parts = and_parts (test x) (list_all test xs) all in
      all_both (lines x) (flat_map lines xs) (are x parts.0) (tested_flat lines test are xs parts.1)

-- ---- the words that lines begin with

-- a line that neither ends a text nor names a shipped one
abbrev pub IsFree : List (List ℕ) → Type 0
IsFree words = (ends_text (front_of words) ≡ false) × (names_text (front_of words) ≡ false)

cas_free : (fields : List FieldDecl) (roots : List RootDecl) (place : Place) (rest : List (List ℕ)) → IsFree (cas_words fields roots place ++ rest)
cas_free fields roots (places.Root x) rest = (refl, refl)
cas_free fields roots (places.Field a f) rest = (refl, refl)

with_free : (fields : List FieldDecl) (roots : List RootDecl) (place : Place) (rest : List (List ℕ)) → IsFree (with_words fields roots place ++ rest)
with_free fields roots (places.Root x) rest = (refl, refl)
with_free fields roots (places.Field a f) rest = (refl, refl)

instr_free : (kinds : List (List ℕ)) (fields : List FieldDecl) (roots : List RootDecl) (i : Instr) → IsFree (spelled_instr Second kinds fields roots i)
instr_free kinds fields roots (instr.Cas entry l) = cas_free fields roots entry.place _
instr_free kinds fields roots _ = (refl, refl)

code_free : (kinds : List (List ℕ)) (fields : List FieldDecl) (roots : List RootDecl) (code : List Instr) → AllByRecursion IsFree (code_lines Second kinds fields roots code)
code_free kinds fields roots code =
    all_flat IsFree (instr_lines Second kinds fields roots) (λ i. (instr_free kinds fields roots i, all_mapped IsFree (spelled_entry fields roots) (λ entry. with_free fields roots entry.place _) (entries_of i))) code

op_free : (kinds : List (List ℕ)) (fields : List FieldDecl) (roots : List RootDecl) (op : Op) → AllByRecursion IsFree (op_lines Second kinds fields roots op)
op_free kinds fields roots op =
    let wrapup = code_lines Second kinds fields roots op.wrapup in (
      (refl, refl),
      (
        (refl, refl),
        all_both IsFree (code_lines Second kinds fields roots op.generator) ((codes "wrap" ∷ []) ∷ wrapup) (code_free kinds fields roots op.generator) ((refl, refl), code_free kinds fields roots op.wrapup),
      ),
    )

counts_free : (k : ℕ) (kinds : List (List ℕ)) (nodes : List NodeDecl) → AllByRecursion IsFree (count_lines Second k kinds nodes)
counts_free k [] nodes = tt
counts_free k (name ∷ kinds) nodes = ((refl, refl), counts_free (k + 1) kinds nodes)

-- ---- the lines after the version line

-- the declarations and the operations
abbrev pub own_lines : Text → List (List (List ℕ))
own_lines text = declaration_lines Second text ++ flat_map (op_lines Second text.kinds text.fields text.roots) text.ops

declared_free : (text : Text) → AllByRecursion IsFree (declaration_lines Second text)
declared_free text =
    let fields = map (spelled_field Second text.kinds) text.fields in
    let counts = count_lines Second 0 text.kinds text.nodes in
    let nodes = map spelled_node text.nodes in
    let roots = map (spelled_root Second text.kinds) text.roots in
    all_both IsFree (kind_lines Second text.kinds) (fields ++ (counts ++ (nodes ++ roots))) (all_mapped IsFree (λ name. codes "kind" ∷ name ∷ []) (λ name. (refl, refl)) text.kinds)
    (all_both IsFree fields (counts ++ (nodes ++ roots)) (all_mapped IsFree (spelled_field Second text.kinds) (λ field. (refl, refl)) text.fields)
    (all_both IsFree counts (nodes ++ roots) (counts_free 0 text.kinds text.nodes)
    (all_both IsFree nodes roots (all_mapped IsFree spelled_node (λ node. (refl, refl)) text.nodes) (all_mapped IsFree (spelled_root Second text.kinds) (λ root. (refl, refl)) text.roots))))

pub own_free : (text : Text) → AllByRecursion IsFree (own_lines text)
own_free text =
    let lines = op_lines Second text.kinds text.fields text.roots in
    all_both IsFree (declaration_lines Second text) (flat_map lines text.ops) (declared_free text) (all_flat IsFree lines (op_free text.kinds text.fields text.roots) text.ops)

-- ---- each is plain, and of few words

module _ (text : Text) (names : AreNamed Second text) where
  entries_are : (i : Instr) → is_instr (length text.kinds) (length text.fields) (length text.roots) i ≡ true → AllByRecursion IsLine (map (spelled_entry text.fields text.roots) (entries_of i))
  entries_are (instr.Commit entries) is =
      let parts = and_parts (nat_le (length entries) most_entries) (list_all (is_entry (length text.fields) (length text.roots)) entries) is in
      tested_mapped IsLine (spelled_entry text.fields text.roots) (is_entry (length text.fields) (length text.roots)) (λ entry fits. entry_is text.fields text.roots entry names.fields names.roots fits) entries parts.1
  entries_are _ is = tt

  code_are : (code : List Instr) → list_all (is_instr (length text.kinds) (length text.fields) (length text.roots)) code ≡ true → AllByRecursion IsLine (code_lines Second text.kinds text.fields text.roots code)
  code_are code all =
      tested_flat IsLine (instr_lines Second text.kinds text.fields text.roots) (is_instr (length text.kinds) (length text.fields) (length text.roots))
      (λ i is. (instr_is Second text.kinds text.fields text.roots i names.kinds names.fields names.roots is, entries_are i is)) code all

  op_are : (op : Op) → is_op (length text.kinds) (length text.fields) (length text.roots) op ≡ true → AllByRecursion IsLine (op_lines Second text.kinds text.fields text.roots op)
  op_are op within =
      let is = op_within (length text.kinds) (length text.fields) (length text.roots) op within in
      let lines = code_lines Second text.kinds text.fields text.roots in (
        op_is op is.name is.args,
        (
          gen_is,
          all_both IsLine (lines op.generator) ((codes "wrap" ∷ []) ∷ lines op.wrapup) (code_are op.generator (is.generator).each) (wrap_is, code_are op.wrapup (is.wrapup).each),
        ),
      )

pub own_are : (text : Text) → is_within_limits text ≡ true → AllByRecursion IsLine (own_lines text)
own_are text within =
    let is = text_is Second text tt within in
    let lines = op_lines Second text.kinds text.fields text.roots in
    all_both IsLine (declaration_lines Second text) (flat_map lines text.ops) (declarations_are Second text is.declared)
    (tested_flat IsLine lines (is_op (length text.kinds) (length text.fields) (length text.roots)) (op_are text (names_of Second text is.declared)) text.ops (is.ops).each)

pub lines_are_plain : (lines : List (List (List ℕ))) → AllByRecursion IsLine lines → AllByRecursion IsPlain lines
lines_are_plain [] are = tt
lines_are_plain (words ∷ lines) are = (line_is_plain words are.0, lines_are_plain lines are.1)
