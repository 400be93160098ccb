-- The spelling of a target within the limits spells it.
use Rattle.std.specs.Prelude.{◌≡◌, ℕ, ◌+◌, ◌≤◌, ◌&&◌, ◌||◌, Bool, true, false, List, [], ◌∷◌, ◌++◌, map, length, Result, Ok, codes, nat_le, nat_lt}
use Rattle.std.specs.List.{list_all, flat_map, AllByRecursion}
use Rattle.std.proofs.Common.{refl, ap, ◌∙◌, arith}
use Rattle.std.proofs.lemmas.Bool.{and_parts, ltb-true, leb-true, lt-ltb}
use Rattle.oa_text.specs.Lines.{TextLine, numbered}
use Rattle.norm_lang.specs.declared.text.Reg.{Reg}
use Rattle.norm_lang.specs.declared.text.FieldDecl.{FieldDecl}
use Rattle.norm_lang.specs.declared.text.RootDecl.{RootDecl}
use Rattle.norm_lang.specs.declared.text.NodeDecl.{NodeDecl}
use Rattle.norm_lang.specs.declared.text.Instr.{Instr}
use Rattle.norm_lang.specs.declared.text.Instr.TheVariants as instr
use Rattle.norm_lang.specs.declared.text.Version.TheVariants.{Second}
use Rattle.norm_lang.specs.Faults.{LineFault, ◌>>=◌}
use Rattle.norm_lang.specs.Kept.{holds_reference}
use Rattle.norm_lang.specs.Spelling.{joined_words, register_word, kind_lines, spelled_field, count_lines, spelled_node, spelled_root, spelled_entry, entries_of, declaration_lines}
use Rattle.norm_lang.specs.Grammar.{Opening, Roots, Draft, draft_at, after_lines}
use Rattle.norm_lang.specs.Limits.{is_register, is_entry, is_instr, are_kinds, are_fields, owners_of, are_nodes, are_roots}
use Rattle.norm_lang.proofs.SpelledLines.{is_visible, IsWord, IsLine, lines_found, words_found}
use Rattle.text_laws.proofs.LinesSpelled.{gen_is, wrap_is, op_is, entry_is, instr_is}
use Rattle.text_laws.proofs.WordsRead.{AreKinds, AreFields, AreRoots}
use Rattle.text_laws.proofs.WithinLimits.{Declared, declared}
use Rattle.text_laws.proofs.SpelledFolds as text
use Rattle.text_laws.proofs.CodeRead.{AreNamed}
use Rattle.text_laws.proofs.TextRead.{AreDeclared, declared as declared_draft, declarations_read}
use Rattle.text_laws.proofs.SpellingStands.{names_of, declarations_are}
use Rattle.norm_parser.specs.declared.head.Head.{Head}
use Rattle.norm_parser.specs.FrontRead.{from_line, front_of, names_text, ends_head, head_lines, after_head, head_in}
use Rattle.norm_parser.proofs.LinesLeft.{numbered_from}
use Rattle.target_code.specs.declared.target.TargetInstr.{TargetInstr}
use Rattle.target_code.specs.declared.target.TargetInstr.TheVariants.{Plain, Check, Guard}
use Rattle.target_code.specs.declared.target.TargetOp.{TargetOp}
use Rattle.target_code.specs.declared.target.Target.{Target}
use Rattle.target_code.specs.TargetSpelling.{spelled_target_version, spelled_check, spelled_target_op, target_instr_lines, target_code_lines, target_op_lines, declared_by, spelled_target}
use Rattle.target_code.specs.TargetLimits.{is_target_instr, is_target_op, are_target_ops, is_target_within_limits}
use Rattle.target_reader.specs.TargetGrammar.{WrapUp, no_ops, opened, after_target_lines, ops_read, version_end, target_of}
use Rattle.target_reader.specs.Laws.{SpellingsSpell}
use Rattle.target_reader.proofs.Ordered.{all_left}
use Rattle.target_reader.proofs.Targets.{declared_within}
use Rattle.target_reader.proofs.CodeSpelled.{after_spelled, lines_then, lines_read, in_code}
use Rattle.target_reader.proofs.OpsSpelled.{op_is as op_within, AreOps, first_op_read, behind_ops, ops_spelled, ops_finished}

abbrev Lines : List (List (List ℕ)) → Type 0
Lines lines = AllByRecursion IsLine lines

both : (xs ys : List (List (List ℕ))) → Lines xs → Lines ys → Lines (xs ++ ys)
both [] ys first second = second
both (x ∷ xs) ys first second = (first.0, both xs ys first.1 second)

each_line : {A : Type 0} (line : A → List (List ℕ)) (test : A → Bool) → ((x : A) → test x ≡ true → IsLine (line x)) → (xs : List A) → list_all test xs ≡ true → Lines (map line xs)
each_line line test is [] all = tt
each_line line test is (x ∷ xs) all =
    let p = and_parts (test x) (list_all test xs) all in
    (is x p.0, each_line line test is xs p.1)

each_lines : {A : Type 0} (lines : A → List (List (List ℕ))) (test : A → Bool) → ((x : A) → test x ≡ true → Lines (lines x)) → (xs : List A) → list_all test xs ≡ true → Lines (flat_map lines xs)
each_lines lines test are [] all = tt
each_lines lines test are (x ∷ xs) all =
    let p = and_parts (test x) (list_all test xs) all in
    both (lines x) (flat_map lines xs) (are x p.0) (each_lines lines test are xs p.1)

-- a word that computes
keyword : (word : List ℕ) → nat_lt 0 (length word) && (nat_le (length word) 20 && list_all is_visible word) ≡ true → IsWord word
keyword word is =
    let p = and_parts (nat_lt 0 (length word)) (nat_le (length word) 20 && list_all is_visible word) is in
    let q = and_parts (nat_le (length word) 20) (list_all is_visible word) p.1 in
    record { some = ltb-true 0 (length word) p.0; short = leb-true (length word) 20 q.0; visible = q.1 }

version_is : IsLine spelled_target_version
version_is = record { few = omega arith; word = (keyword (codes "oat") refl, (keyword (codes "2") refl, tt)) }

check_is : IsLine spelled_check
check_is = record { few = omega arith; word = (keyword (codes "chk") refl, tt) }

module _ (kinds : List (List ℕ)) (fields : List FieldDecl) (roots : List RootDecl) (ks : AreKinds Second kinds) (fs : AreFields fields) (rs : AreRoots roots) where
  guard_is : (r : Reg) → is_register r ≡ true → IsLine (codes "grd" ∷ register_word r ∷ [])
  guard_is r is = record { few = omega arith; word = (keyword (codes "grd") refl, (instr_is Second kinds fields roots (instr.Null r) ks fs rs is).word.1) }

  entries_lines : (i : Instr) → is_instr (length kinds) (length fields) (length roots) i ≡ true → Lines (map (spelled_entry fields roots) (entries_of i))
  entries_lines (instr.Commit entries) is =
      let p = and_parts (nat_le (length entries) 4) (list_all (is_entry (length fields) (length roots)) entries) is in
      each_line (spelled_entry fields roots) (is_entry (length fields) (length roots)) (λ entry is. entry_is fields roots entry fs rs is) entries p.1
  entries_lines _ is = tt

  instr_lines_are : (i : TargetInstr) → is_target_instr (length kinds) (length fields) (length roots) i ≡ true → Lines (target_instr_lines kinds fields roots i)
  instr_lines_are (Plain i) is = (instr_is Second kinds fields roots i ks fs rs is, entries_lines i is)
  instr_lines_are Check is = (check_is, tt)
  instr_lines_are (Guard r) is = (guard_is r (and_parts (holds_reference r) (is_register r) is).1, tt)

  code_are : (code : List TargetInstr) → list_all (is_target_instr (length kinds) (length fields) (length roots)) code ≡ true → Lines (target_code_lines kinds fields roots code)
  code_are code all = each_lines (target_instr_lines kinds fields roots) (is_target_instr (length kinds) (length fields) (length roots)) instr_lines_are code all

  op_are : (op : TargetOp) → is_target_op (length kinds) (length fields) (length roots) op ≡ true → Lines (target_op_lines kinds fields roots op)
  op_are op within =
      let is = op_within (length kinds) (length fields) (length roots) op within in (
        op_is (opened op) is.name is.args,
        (
          gen_is,
          both (target_code_lines kinds fields roots op.generator) ((codes "wrap" ∷ []) ∷ target_code_lines kinds fields roots op.wrapup)
              (code_are op.generator (is.generator).each) (wrap_is, code_are op.wrapup (is.wrapup).each),
        ),
      )

-- a target within the limits, part by part
pub record IsTarget (target : Target) : Type 0 where
  pub declared : AreDeclared Second (declared_by target)
  pub kinds : AreKinds Second target.kinds
  pub fields : AreFields target.fields
  pub roots : AreRoots target.roots
  pub some_roots : 1 ≤ length target.roots
  pub ops : AreOps (length target.kinds) (length target.fields) (length target.roots) target.ops
  pub some_ops : 1 ≤ length target.ops

pub parts_of : (target : Target) → is_target_within_limits target ≡ true → IsTarget target
parts_of target within =
    let fields = are_fields (length target.kinds) target.fields in
    let nodes = are_nodes (length target.kinds) target.fields target.nodes in
    let roots = are_roots (length target.kinds) (owners_of target.nodes) target.roots in
    let all = are_target_ops (length target.kinds) (length target.fields) (length target.roots) target.ops in
    let first = and_parts (are_kinds target.kinds) (fields && (nodes && (roots && all))) within in
    let second = and_parts fields (nodes && (roots && all)) first.1 in
    let third = and_parts nodes (roots && all) second.1 in
    let fourth = and_parts roots all third.1 in
    let are : AreDeclared Second (declared_by target) = declared_within (declared_by target) record { kinds = first.0; fields = second.0; nodes = third.0; roots = fourth.0 } in
    let names : AreNamed Second (declared_by target) = names_of Second (declared_by target) are in
    let ops : Declared 1 16 (λ op. op.name) (is_target_op (length target.kinds) (length target.fields) (length target.roots)) target.ops = declared 1 16 _ _ target.ops fourth.1 in
    record {
      declared = are;
      kinds = names.kinds;
      fields = names.fields;
      roots = names.roots;
      some_roots = ((are.roots).count).some;
      ops = record { each = ops.each; different = ops.apart; few = (ops.count).few };
      some_ops = (ops.count).some;
    }

-- the draft after the declarations
abbrev pub declared_target : Target → Draft
declared_target target = declared_draft Second Roots (length target.kinds) (owners_of target.nodes) target.kinds target.fields target.nodes target.roots

-- the declarations give their draft
pub target_declared : (target : Target) → IsTarget target → text.after_spelled (draft_at Second Opening) (declaration_lines Second (declared_by target)) ≡ Ok (declared_target target)
target_declared target is = declarations_read Second (declared_by target) is.declared

-- declarations end before a line that begins so: an operation begins, or a shipped text is named
abbrev pub ends_declarations : List ℕ → Bool
ends_declarations word = ends_head word || names_text word

-- lines of which none ends the declarations
abbrev pub NoEnds : List (List (List ℕ)) → Type 0
NoEnds lines = AllByRecursion (λ words. ends_declarations (front_of words) ≡ false) lines

no_ends_in : {A : Type 0} (line : A → List (List ℕ)) → ((x : A) → ends_declarations (front_of (line x)) ≡ false) → (xs : List A) → NoEnds (map line xs)
no_ends_in line is [] = tt
no_ends_in line is (x ∷ xs) = (is x, no_ends_in line is xs)

no_ends_both : (xs ys : List (List (List ℕ))) → NoEnds xs → NoEnds ys → NoEnds (xs ++ ys)
no_ends_both [] ys first second = second
no_ends_both (x ∷ xs) ys first second = (first.0, no_ends_both xs ys first.1 second)

counts_end_none : (k : ℕ) (kinds : List (List ℕ)) (nodes : List NodeDecl) → NoEnds (count_lines Second k kinds nodes)
counts_end_none k [] nodes = tt
counts_end_none k (name ∷ kinds) nodes = (refl, counts_end_none (k + 1) kinds nodes)

pub declarations_end_none : (target : Target) → NoEnds (declaration_lines Second (declared_by target))
declarations_end_none target =
    let kinds = target.kinds in
    let kind_names = kind_lines Second kinds in
    let field_lines = map (spelled_field Second kinds) target.fields in
    let counts = count_lines Second 0 kinds target.nodes in
    let node_lines = map spelled_node target.nodes in
    let root_lines = map (spelled_root Second kinds) target.roots in
    no_ends_both kind_names (field_lines ++ (counts ++ (node_lines ++ root_lines))) (no_ends_in (λ name. codes "kind" ∷ name ∷ []) (λ name. refl) kinds)
    (no_ends_both field_lines (counts ++ (node_lines ++ root_lines)) (no_ends_in (spelled_field Second kinds) (λ field. refl) target.fields)
    (no_ends_both counts (node_lines ++ root_lines) (counts_end_none 0 kinds target.nodes)
    (no_ends_both node_lines root_lines (no_ends_in spelled_node (λ node. refl) target.nodes) (no_ends_in (spelled_root Second kinds) (λ root. refl) target.roots))))

-- where the head ends
record Splits (n at : ℕ) (xs ys : List (List (List ℕ))) : Type 0 where
  front : head_lines (numbered n (map joined_words (xs ++ ys))) ≡ numbered n (map joined_words xs)
  behind : after_head (numbered n (map joined_words (xs ++ ys))) ≡ numbered at (map joined_words ys)

splits : (n at : ℕ) (xs : List (List (List ℕ))) (first : List (List ℕ)) (rest : List (List (List ℕ))) → n + length xs ≡ at → Lines xs → NoEnds xs → IsLine first
    → ends_declarations (front_of first) ≡ true → Splits n at xs (first ∷ rest)
splits n at [] first rest count are none is ends =
    let same : n ≡ at = omega (arith, count) in
    record { front = rw (words_found first is, ends) refl; behind = rw (words_found first is, ends, same) refl }
splits n at (x ∷ xs) first rest count are none is ends =
    let next = splits (n + 1) at xs first rest (omega (arith, count)) are.1 none.1 is ends in
    record { front = rw (words_found x are.0, none.0, next.front) refl; behind = rw (words_found x are.0, none.0, next.behind) refl }

-- lines before a number are passed over
passes : (n start : ℕ) (xs ys : List (List (List ℕ))) → n + length xs ≡ start → from_line start (numbered n (map joined_words (xs ++ ys))) ≡ numbered start (map joined_words ys)
passes n start [] ys count =
    let same : n ≡ start = omega (arith, count) in
    rw same (all_left start start (numbered start (map joined_words ys)) (omega arith) (numbered_from start (map joined_words ys)))
passes n start (x ∷ xs) ys count =
    let e : nat_lt n start ≡ true = lt-ltb n start (omega (arith, count)) in
    rw e (passes (n + 1) start xs ys (omega (arith, count)))

-- what is read of lines
abbrev read_of : List (List ℕ) → Result Target LineFault
read_of lines =
    version_end (length lines + 1) (numbered 1 lines) >>= λ behind.
    head_in (from_line behind (numbered 1 lines)) (length lines + 1) >>= λ head.
    ops_read head.0.kinds head.0.fields head.0.roots (length lines + 1) no_ops (from_line head.1 (numbered 1 lines)) >>= λ ops. Ok (target_of head.0 ops)

-- what a target declares
abbrev pub head_of : Target → Head
head_of target = record { kinds = target.kinds; fields = target.fields; roots = target.roots; nodes = target.nodes }

abbrev op_lines_of : Target → List TargetOp → List (List (List ℕ))
op_lines_of target ops = flat_map (target_op_lines target.kinds target.fields target.roots) ops

abbrev head_at : Target → ℕ → Result (Head × ℕ) LineFault
head_at target at = Ok (head_of target, at)

-- the declarations up to the first operation
head_read_of : (target : Target) (past at : ℕ) (op : TargetOp) (others : List (List (List ℕ))) → IsTarget target → IsLine (spelled_target_op op)
    → 2 + length (declaration_lines Second (declared_by target)) ≡ at
    → head_in (numbered 2 (map joined_words (declaration_lines Second (declared_by target) ++ spelled_target_op op ∷ others))) past ≡ head_at target at
head_read_of target past at op others is line count =
    let lines = declaration_lines Second (declared_by target) in
    let first = spelled_target_op op in
    let opens : Draft = draft_at Second Opening in
    let are : Lines lines = declarations_are Second (declared_by target) is.declared in
    let split = splits 2 at lines first others count are (declarations_end_none target) line refl in
    let read : after_lines opens (numbered 2 (map joined_words lines)) ≡ Ok (declared_target target) = text.lines_read lines 2 opens (declared_target target) are (target_declared target is) in
    rw (split.front, read, split.behind, words_found first line, lt-ltb 0 (length target.roots) is.some_roots) refl

-- each line of the operations is plain and short
ops_are : (target : Target) (ops : List TargetOp) → IsTarget target → list_all (is_target_op (length target.kinds) (length target.fields) (length target.roots)) ops ≡ true → Lines (op_lines_of target ops)
ops_are target ops is each =
    each_lines (target_op_lines target.kinds target.fields target.roots) (is_target_op (length target.kinds) (length target.fields) (length target.roots))
    (op_are target.kinds target.fields target.roots is.kinds is.fields is.roots) ops each

-- the lines of the operations give their draft
pub ops_given : (target : Target) (op : TargetOp) (rest : List TargetOp) → IsTarget target → target.ops ≡ op ∷ rest
    → after_spelled target.kinds target.fields target.roots no_ops (flat_map (target_op_lines target.kinds target.fields target.roots) (op ∷ rest)) ≡ Ok (behind_ops [] op rest)
ops_given target op rest is same =
    let kinds = target.kinds in
    let fields = target.fields in
    let roots = target.roots in
    let test = is_target_op (length kinds) (length fields) (length roots) in
    let are : AreOps (length kinds) (length fields) (length roots) (op ∷ rest) = rw same at is.ops in
    let first = op_within (length kinds) (length fields) (length roots) op (and_parts (test op) (list_all test rest) are.each).0 in
    lines_then kinds fields roots no_ops (in_code WrapUp [] op) (target_op_lines kinds fields roots op) (op_lines_of target rest) (Ok (behind_ops [] op rest))
    (first_op_read kinds fields roots op is.kinds is.fields is.roots first)
    (ops_spelled kinds fields roots [] op rest (op ∷ rest) is.kinds is.fields is.roots are refl)

-- once they are read, the operations are whole
pub ops_whole : (target : Target) (past : ℕ) (op : TargetOp) (rest : List TargetOp) (lines : List TextLine) → IsTarget target → target.ops ≡ op ∷ rest
    → after_target_lines target.kinds target.fields target.roots no_ops lines ≡ Ok (behind_ops [] op rest) → ops_read target.kinds target.fields target.roots past no_ops lines ≡ Ok (op ∷ rest)
ops_whole target past op rest lines is same read =
    let are : AreOps (length target.kinds) (length target.fields) (length target.roots) (op ∷ rest) = rw same at is.ops in
    rw (read, ops_finished (length target.kinds) (length target.fields) (length target.roots) [] op rest (op ∷ rest) are.each refl) refl

-- the operations
ops_read_of : (target : Target) (past at : ℕ) (op : TargetOp) (rest : List TargetOp) → IsTarget target → target.ops ≡ op ∷ rest
    → ops_read target.kinds target.fields target.roots past no_ops (numbered at (map joined_words (op_lines_of target (op ∷ rest)))) ≡ Ok (op ∷ rest)
ops_read_of target past at op rest is same =
    let lines = op_lines_of target (op ∷ rest) in
    let are : Lines lines = ops_are target (op ∷ rest) is (rw same at (is.ops).each) in
    ops_whole target past op rest (numbered at (map joined_words lines)) is same
    (lines_read target.kinds target.fields target.roots lines at no_ops (behind_ops [] op rest) are (ops_given target op rest is same))

-- the whole target
read_of_spelled : (target : Target) (ops : List TargetOp) → IsTarget target → target.ops ≡ ops
    → read_of (map joined_words (spelled_target_version ∷ (declaration_lines Second (declared_by target) ++ op_lines_of target ops))) ≡ Ok (target_of (head_of target) ops)
read_of_spelled target [] is same = absurd (omega (arith, is.some_ops, ap length same))
read_of_spelled target (op ∷ rest) is same =
    let lines = declaration_lines Second (declared_by target) in
    let behind = op_lines_of target (op ∷ rest) in
    let past = length (map joined_words (spelled_target_version ∷ (lines ++ behind))) + 1 in
    let at = 2 + length lines in
    let count : 1 + length (spelled_target_version ∷ lines) ≡ at = omega arith in
    let are : Lines behind = ops_are target (op ∷ rest) is (rw same at (is.ops).each) in
    rw (
      passes 1 2 (spelled_target_version ∷ []) (lines ++ behind) refl,
      head_read_of target past at op _ is are.0 refl,
      passes 1 at (spelled_target_version ∷ lines) behind count,
      ops_read_of target past at op rest is same,
    ) refl

pub spellings_spell : SpellingsSpell
spellings_spell target within =
    let is = parts_of target within in
    ap read_of (lines_found (spelled_target target)
    (version_is, both (declaration_lines Second (declared_by target)) (op_lines_of target target.ops) (declarations_are Second (declared_by target) is.declared) (ops_are target target.ops is (is.ops).each)))
    ∙ read_of_spelled target target.ops is refl
