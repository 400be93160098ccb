-- How the grammar reads the operations of a target that the spelling writes.
use Rattle.std.specs.Prelude.{◌≡◌, ℕ, suc, ◌+◌, ◌^◌, ◌<◌, ◌≤◌, ◌&&◌, true, false, not, List, [], ◌∷◌, ◌++◌, map, length, Ok, codes, decimal, nat_le, nat_lt}
use Rattle.std.specs.List.{list_all, list_any, flat_map}
use Rattle.std.specs.Str.{bytes_eq}
use Rattle.std.proofs.Common.{refl, ap, ◌∙◌, sym, arith, append_assoc, length-append}
use Rattle.std.proofs.lemmas.Bool.{and_parts, not-true, lt-ltb, leb-true}
use Rattle.norm_lang.specs.declared.text.FieldDecl.{FieldDecl}
use Rattle.norm_lang.specs.declared.text.RootDecl.{RootDecl}
use Rattle.norm_lang.specs.declared.text.Version.TheVariants.{Second}
use Rattle.norm_lang.specs.LineWords.{is_name}
use Rattle.norm_lang.specs.Declarations.{is_reserved, has_op}
use Rattle.norm_lang.specs.Limits.{has_between, are_different}
use Rattle.text_laws.proofs.WordsRead.{number_read, AreKinds, AreFields, AreRoots}
use Rattle.text_laws.proofs.SpelledFolds.{passes_among, fresh_among}
use Rattle.target_code.specs.declared.target.TargetInstr.{TargetInstr}
use Rattle.target_code.specs.declared.target.TargetOp.{TargetOp}
use Rattle.target_code.specs.TargetSpelling.{spelled_target_op, target_code_lines, target_op_lines}
use Rattle.target_code.specs.TargetLimits.{target_news_of, is_target_instr, is_target_method, is_target_op}
use Rattle.target_reader.specs.TargetGrammar.{Begun, Generator, WrapUp, OpsDraft, no_ops, opened, target_op_at, finished_ops}
use Rattle.target_reader.proofs.Opened.{opened_same}
use Rattle.target_reader.proofs.CodeSpelled.{after_spelled, line_then, lines_then, in_code, with_code, code_read}

-- a method's code is within its limits
pub record IsCode (kinds fields roots : ℕ) (code : List TargetInstr) : Type 0 where
  pub some : 1 ≤ length code
  pub short : length code ≤ 4096
  pub each : list_all (is_target_instr kinds fields roots) code ≡ true

code_is : (kinds fields roots : ℕ) (code : List TargetInstr) → is_target_method kinds fields roots code ≡ true → IsCode kinds fields roots code
code_is kinds fields roots code is =
    let p = and_parts (has_between 1 4096 code) (list_all (is_target_instr kinds fields roots) code) is in
    let q = and_parts (nat_le 1 (length code)) (nat_le (length code) 4096) p.0 in
    record { some = leb-true 1 (length code) q.0; short = leb-true (length code) 4096 q.1; each = p.1 }

-- an operation is within its limits
pub record IsOp (kinds fields roots : ℕ) (op : TargetOp) : Type 0 where
  pub name : is_name op.name ≡ true
  pub free : is_reserved op.name ≡ false
  pub args : nat_le op.args 4 ≡ true
  pub generator : IsCode kinds fields roots op.generator
  pub wrapup : IsCode kinds fields roots op.wrapup
  pub news : target_news_of op ≤ 4

pub op_is : (kinds fields roots : ℕ) (op : TargetOp) → is_target_op kinds fields roots op ≡ true → IsOp kinds fields roots op
op_is kinds fields roots op is =
    let p = and_parts (is_name op.name && not (is_reserved op.name)) (nat_le op.args 4 && (is_target_method kinds fields roots op.generator && (is_target_method kinds fields roots op.wrapup && nat_le (target_news_of op) 4))) is in
    let n = and_parts (is_name op.name) (not (is_reserved op.name)) p.0 in
    let a = and_parts (nat_le op.args 4) (is_target_method kinds fields roots op.generator && (is_target_method kinds fields roots op.wrapup && nat_le (target_news_of op) 4)) p.1 in
    let g = and_parts (is_target_method kinds fields roots op.generator) (is_target_method kinds fields roots op.wrapup && nat_le (target_news_of op) 4) a.1 in
    let w = and_parts (is_target_method kinds fields roots op.wrapup) (nat_le (target_news_of op) 4) g.1 in
    record {
      name = n.0;
      free = not-true (is_reserved op.name) n.1;
      args = a.0;
      generator = code_is kinds fields roots op.generator g.0;
      wrapup = code_is kinds fields roots op.wrapup w.0;
      news = leb-true (target_news_of op) 4 w.1;
    }

-- an operation without its code
abbrev bare : TargetOp → TargetOp
bare op = record { name = op.name; args = op.args; generator = []; wrapup = [] }

opened_count : (ops : List TargetOp) → length (map opened ops) ≡ length ops
opened_count [] = refl
opened_count (op ∷ ops) = ap suc (opened_count ops)

op_line_read : (kinds fields roots : ℕ) (ops : List TargetOp) (op : TargetOp) → IsOp kinds fields roots op → list_any (λ other. bytes_eq other.name op.name) ops ≡ false → length ops < 16
    → target_op_at ops (op.name ∷ decimal op.args ∷ []) ≡ Ok (bare op)
op_line_read kinds fields roots ops op is fresh room =
    let le : op.args ≤ 4 = leb-true op.args 4 is.args in
    let new : has_op (map opened ops) op.name ≡ false = sym (opened_same ops op.name) ∙ fresh in
    rw (is.name, number_read op.args (lt-ltb op.args (2 ^ 64) (omega arith)), is.free, new, opened_count ops, lt-ltb (length ops) 16 room, is.args) refl

-- the lines after an operation's first
abbrev body_lines : List (List ℕ) → List FieldDecl → List RootDecl → TargetOp → List (List (List ℕ))
body_lines kinds fields roots op = (codes "gen" ∷ []) ∷ (target_code_lines kinds fields roots op.generator ++ ((codes "wrap" ∷ []) ∷ target_code_lines kinds fields roots op.wrapup))

body_read : (kinds : List (List ℕ)) (fields : List FieldDecl) (roots : List RootDecl) (ops : List TargetOp) (op : TargetOp) → AreKinds Second kinds → AreFields fields → AreRoots roots → IsOp (length kinds) (length fields) (length roots) op
    → after_spelled kinds fields roots (in_code Begun ops (bare op)) (body_lines kinds fields roots op) ≡ Ok (in_code WrapUp ops op)
body_read kinds fields roots ops op ks fs rs is =
    let coded : TargetOp = record (bare op) { generator = op.generator } in
    let few : target_news_of (with_code Generator (bare op) op.generator) ≤ 4 = omega (arith, is.news) in
    let some : nat_lt 0 (length op.generator) ≡ true = lt-ltb 0 (length op.generator) (omega (arith, (is.generator).some)) in
    let whole = in_code WrapUp ops op in
    let generator = target_code_lines kinds fields roots op.generator in
    let wrapup = target_code_lines kinds fields roots op.wrapup in
    line_then kinds fields roots (in_code Begun ops (bare op)) (in_code Generator ops (bare op)) (codes "gen" ∷ []) (generator ++ ((codes "wrap" ∷ []) ∷ wrapup)) (Ok whole) refl
    (lines_then kinds fields roots (in_code Generator ops (bare op)) (in_code Generator ops coded) generator ((codes "wrap" ∷ []) ∷ wrapup) (Ok whole)
    (code_read kinds fields roots Generator ops (bare op) [] op.generator op.generator tt ks fs rs (is.generator).each (is.generator).short few refl)
    (line_then kinds fields roots (in_code Generator ops coded) (in_code WrapUp ops coded) (codes "wrap" ∷ []) wrapup (Ok whole) (rw some refl)
    (code_read kinds fields roots WrapUp ops coded [] op.wrapup op.wrapup tt ks fs rs (is.wrapup).each (is.wrapup).short is.news refl)))

-- the first operation
pub first_op_read : (kinds : List (List ℕ)) (fields : List FieldDecl) (roots : List RootDecl) (op : TargetOp) → AreKinds Second kinds → AreFields fields → AreRoots roots → IsOp (length kinds) (length fields) (length roots) op
    → after_spelled kinds fields roots no_ops (target_op_lines kinds fields roots op) ≡ Ok (in_code WrapUp [] op)
first_op_read kinds fields roots op ks fs rs is =
    line_then kinds fields roots no_ops (in_code Begun [] (bare op)) (spelled_target_op op) (body_lines kinds fields roots op) (Ok (in_code WrapUp [] op))
    (rw (op_line_read (length kinds) (length fields) (length roots) [] op is refl (omega arith)) refl)
    (body_read kinds fields roots [] op ks fs rs is)

-- a further operation
next_op_read : (kinds : List (List ℕ)) (fields : List FieldDecl) (roots : List RootDecl) (done : List TargetOp) (last op : TargetOp) → AreKinds Second kinds → AreFields fields → AreRoots roots → 1 ≤ length last.wrapup
    → IsOp (length kinds) (length fields) (length roots) op → list_any (λ other. bytes_eq other.name op.name) (done ++ last ∷ []) ≡ false → length (done ++ last ∷ []) < 16
    → after_spelled kinds fields roots (in_code WrapUp done last) (target_op_lines kinds fields roots op) ≡ Ok (in_code WrapUp (done ++ last ∷ []) op)
next_op_read kinds fields roots done last op ks fs rs some is fresh room =
    line_then kinds fields roots (in_code WrapUp done last) (in_code Begun (done ++ last ∷ []) (bare op)) (spelled_target_op op) (body_lines kinds fields roots op) (Ok (in_code WrapUp (done ++ last ∷ []) op))
    (rw (lt-ltb 0 (length last.wrapup) some, op_line_read (length kinds) (length fields) (length roots) (done ++ last ∷ []) op is fresh room) refl)
    (body_read kinds fields roots (done ++ last ∷ []) op ks fs rs is)

-- the draft after the last of the operations
abbrev pub behind_ops : List TargetOp → TargetOp → List TargetOp → OpsDraft
behind_ops done last [] = in_code WrapUp done last
behind_ops done last (op ∷ rest) = behind_ops (done ++ last ∷ []) op rest

-- each operation of a list is within its limits, and their names are different
pub record AreOps (kinds fields roots : ℕ) (ops : List TargetOp) : Type 0 where
  pub each : list_all (is_target_op kinds fields roots) ops ≡ true
  pub different : are_different (map (λ op. op.name) ops) ≡ true
  pub few : length ops ≤ 16

pub ops_spelled : (kinds : List (List ℕ)) (fields : List FieldDecl) (roots : List RootDecl) (done : List TargetOp) (last : TargetOp) (rest whole : List TargetOp) → AreKinds Second kinds → AreFields fields → AreRoots roots
    → AreOps (length kinds) (length fields) (length roots) whole → done ++ last ∷ rest ≡ whole
    → after_spelled kinds fields roots (in_code WrapUp done last) (flat_map (target_op_lines kinds fields roots) rest) ≡ Ok (behind_ops done last rest)
ops_spelled kinds fields roots done last [] whole ks fs rs are same = refl
ops_spelled kinds fields roots done last (op ∷ rest) whole ks fs rs are same =
    let behind : (done ++ last ∷ []) ++ op ∷ rest ≡ whole = append_assoc done (last ∷ []) (op ∷ rest) ∙ same in
    let long : length whole ≡ length (done ++ last ∷ []) + suc (length rest) = ap length (sym behind) ∙ length-append (done ++ last ∷ []) (op ∷ rest) in
    let last_is = op_is (length kinds) (length fields) (length roots) last (passes_among (is_target_op (length kinds) (length fields) (length roots)) done (op ∷ rest) whole last same are.each) in
    let this_is = op_is (length kinds) (length fields) (length roots) op (passes_among (is_target_op (length kinds) (length fields) (length roots)) (done ++ last ∷ []) rest whole op behind are.each) in
    lines_then kinds fields roots (in_code WrapUp done last) (in_code WrapUp (done ++ last ∷ []) op) (target_op_lines kinds fields roots op) (flat_map (target_op_lines kinds fields roots) rest) (Ok (behind_ops (done ++ last ∷ []) op rest))
    (next_op_read kinds fields roots done last op ks fs rs (last_is.wrapup).some this_is (fresh_among (λ (op : TargetOp). op.name) (done ++ last ∷ []) rest whole op behind are.different) (omega (arith, are.few)))
    (ops_spelled kinds fields roots (done ++ last ∷ []) op rest whole ks fs rs are behind)

-- the operations after the last of them
pub ops_finished : (kinds fields roots : ℕ) (done : List TargetOp) (last : TargetOp) (rest whole : List TargetOp) → list_all (is_target_op kinds fields roots) whole ≡ true → done ++ last ∷ rest ≡ whole
    → finished_ops (behind_ops done last rest) ≡ Ok whole
ops_finished kinds fields roots done last [] whole each same =
    let last_is = op_is kinds fields roots last (passes_among (is_target_op kinds fields roots) done [] whole last same each) in
    rw (lt-ltb 0 (length last.wrapup) (last_is.wrapup).some, same) refl
ops_finished kinds fields roots done last (op ∷ rest) whole each same =
    ops_finished kinds fields roots (done ++ last ∷ []) op rest whole each (append_assoc done (last ∷ []) (op ∷ rest) ∙ same)
