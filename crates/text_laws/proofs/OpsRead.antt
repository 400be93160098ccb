-- How the grammar reads the operations that the spelling writes.
use Rattle.std.specs.Prelude.{◌≡◌, ℕ, suc, ◌+◌, ◌^◌, ◌<◌, ◌≤◌, ◌&&◌, true, false, not, List, [], ◌∷◌, ◌++◌, map, length, Ok, codes, decimal, nat_le, nat_lt}
use Rattle.std.specs.List.{list_all, flat_map}
use Rattle.std.proofs.Common.{refl, ap, ◌∙◌, sym, arith, append_assoc, length-append}
use Rattle.std.proofs.lemmas.Bool.{and_parts, not-true, lt-ltb, leb-true}
use Rattle.norm_lang.specs.declared.text.Op.{Op}
use Rattle.norm_lang.specs.declared.text.Instr.{Instr}
use Rattle.norm_lang.specs.declared.text.Text.{Text}
use Rattle.norm_lang.specs.declared.text.Version.{Version}
use Rattle.norm_lang.specs.Spelling.{spelled_op, op_lines, code_lines}
use Rattle.norm_lang.specs.LineWords.{is_name}
use Rattle.norm_lang.specs.Declarations.{is_reserved, has_op, op_line}
use Rattle.norm_lang.specs.Grammar.{Roots, Begun, Generator, WrapUp, Draft, no_op, news_of, finished}
use Rattle.norm_lang.specs.Limits.{has_between, are_different, is_instr, is_method, is_op}
use Rattle.text_laws.proofs.WordsRead.{number_read}
use Rattle.text_laws.proofs.SpelledFolds.{after_spelled, line_then, lines_then, passes_among, fresh_among}
use Rattle.text_laws.proofs.CodeRead.{in_code, AreNamed, with_code, code_read}

-- a method's code is within its limits
pub record IsCode (kinds fields roots : ℕ) (code : List Instr) : Type 0 where
  pub some : 1 ≤ length code
  pub short : length code ≤ 256
  pub each : list_all (is_instr kinds fields roots) code ≡ true

pub code_is : (kinds fields roots : ℕ) (code : List Instr) → is_method kinds fields roots code ≡ true → IsCode kinds fields roots code
code_is kinds fields roots code is =
    let p = and_parts (has_between 1 256 code) (list_all (is_instr kinds fields roots) code) is in
    let q = and_parts (nat_le 1 (length code)) (nat_le (length code) 256) p.0 in
    record { some = leb-true 1 (length code) q.0; short = leb-true (length code) 256 q.1; each = p.1 }

-- an operation is within its limits
pub record IsOp (kinds fields roots : ℕ) (op : Op) : Type 0 where
  pub name : is_name op.name ≡ true
  pub free : is_reserved op.name ≡ false
  pub args : nat_le op.args 4 ≡ true
  pub generator : IsCode kinds fields roots op.generator
  pub wrapup : IsCode kinds fields roots op.wrapup
  pub news : news_of op ≤ 4

pub op_is : (kinds fields roots : ℕ) (op : Op) → is_op kinds fields roots op ≡ true → IsOp kinds fields roots op
op_is kinds fields roots op is =
    let p = and_parts (is_name op.name && not (is_reserved op.name)) (nat_le op.args 4 && (is_method kinds fields roots op.generator && (is_method kinds fields roots op.wrapup && nat_le (news_of op) 4))) is in
    let n = and_parts (is_name op.name) (not (is_reserved op.name)) p.0 in
    let a = and_parts (nat_le op.args 4) (is_method kinds fields roots op.generator && (is_method kinds fields roots op.wrapup && nat_le (news_of op) 4)) p.1 in
    let g = and_parts (is_method kinds fields roots op.generator) (is_method kinds fields roots op.wrapup && nat_le (news_of op) 4) a.1 in
    let w = and_parts (is_method kinds fields roots op.wrapup) (nat_le (news_of op) 4) g.1 in
    record {
      name = n.0;
      free = not-true (is_reserved op.name) n.1;
      args = a.0;
      generator = code_is kinds fields roots op.generator g.0;
      wrapup = code_is kinds fields roots op.wrapup w.0;
      news = leb-true (news_of op) 4 w.1;
    }

-- an operation without code yet
abbrev begun : Op → Op
begun op = record { name = op.name; args = op.args; generator = []; wrapup = [] }

op_line_read : (kinds fields roots : ℕ) (ops : List Op) (op : Op) → IsOp kinds fields roots op → has_op ops op.name ≡ false → length ops < 16
    → op_line ops (op.name ∷ decimal op.args ∷ []) ≡ Ok (begun op)
op_line_read kinds fields roots ops op is fresh room =
    let le : op.args ≤ 4 = leb-true op.args 4 is.args in
    rw (is.name, number_read op.args (lt-ltb op.args (2 ^ 64) (omega arith)), is.free, fresh, lt-ltb (length ops) 16 room, is.args) refl

-- the lines after an operation's first
body_read : (version : Version) (text : Text) (ops : List Op) (op : Op) → AreNamed version text → IsOp (length text.kinds) (length text.fields) (length text.roots) op
    → after_spelled (in_code version text Begun ops (begun op)) ((codes "gen" ∷ []) ∷ (code_lines version text.kinds text.fields text.roots op.generator ++ ((codes "wrap" ∷ []) ∷ code_lines version text.kinds text.fields text.roots op.wrapup)))
    ≡ Ok (in_code version text WrapUp ops op)
body_read version text ops op named is =
    let coded : Op = record (begun op) { generator = op.generator } in
    let few : news_of (with_code Generator (begun op) op.generator) ≤ 4 = omega (arith, is.news) in
    let some : nat_lt 0 (length op.generator) ≡ true = lt-ltb 0 (length op.generator) (omega (arith, (is.generator).some)) in
    let begins = in_code version text Begun ops (begun op) in
    let generates = in_code version text Generator ops (begun op) in
    let generated = in_code version text Generator ops coded in
    let wraps = in_code version text WrapUp ops coded in
    let whole = in_code version text WrapUp ops op in
    let generator = code_lines version text.kinds text.fields text.roots op.generator in
    let wrapup = code_lines version text.kinds text.fields text.roots op.wrapup in
    line_then begins generates (codes "gen" ∷ []) (generator ++ ((codes "wrap" ∷ []) ∷ wrapup)) (Ok whole) refl
    (lines_then generates generated generator ((codes "wrap" ∷ []) ∷ wrapup) (Ok whole)
    (code_read version text Generator ops (begun op) [] op.generator op.generator tt named (is.generator).each (is.generator).short few refl)
    (line_then generated wraps (codes "wrap" ∷ []) wrapup (Ok whole) (rw some refl)
    (code_read version text WrapUp ops coded [] op.wrapup op.wrapup tt named (is.wrapup).each (is.wrapup).short is.news refl)))

-- the lines after an operation's first
abbrev body_lines : Version → Text → Op → List (List (List ℕ))
body_lines version text op = (codes "gen" ∷ []) ∷ (code_lines version text.kinds text.fields text.roots op.generator ++ ((codes "wrap" ∷ []) ∷ code_lines version text.kinds text.fields text.roots op.wrapup))

-- the first operation
pub first_op_read : (version : Version) (text : Text) (op : Op) → AreNamed version text → 1 ≤ length text.roots → IsOp (length text.kinds) (length text.fields) (length text.roots) op
    → after_spelled (in_code version text Roots [] no_op) (op_lines version text.kinds text.fields text.roots op) ≡ Ok (in_code version text WrapUp [] op)
first_op_read version text op named some is =
    line_then (in_code version text Roots [] no_op) (in_code version text Begun [] (begun op)) (spelled_op op) (body_lines version text op) (Ok (in_code version text WrapUp [] op))
    (rw (lt-ltb 0 (length text.roots) some, op_line_read (length text.kinds) (length text.fields) (length text.roots) [] op is refl (omega arith)) refl)
    (body_read version text [] op named is)

-- a further operation
next_op_read : (version : Version) (text : Text) (done : List Op) (last op : Op) → AreNamed version text
    → 1 ≤ length last.wrapup → IsOp (length text.kinds) (length text.fields) (length text.roots) op → has_op (done ++ last ∷ []) op.name ≡ false → length (done ++ last ∷ []) < 16
    → after_spelled (in_code version text WrapUp done last) (op_lines version text.kinds text.fields text.roots op) ≡ Ok (in_code version text WrapUp (done ++ last ∷ []) op)
next_op_read version text done last op named some is fresh room =
    line_then (in_code version text WrapUp done last) (in_code version text Begun (done ++ last ∷ []) (begun op)) (spelled_op op) (body_lines version text op) (Ok (in_code version text WrapUp (done ++ last ∷ []) op))
    (rw (lt-ltb 0 (length last.wrapup) some, op_line_read (length text.kinds) (length text.fields) (length text.roots) (done ++ last ∷ []) op is fresh room) refl)
    (body_read version text (done ++ last ∷ []) op named is)

-- the draft after the last of the operations
abbrev pub behind_ops : Version → Text → List Op → Op → List Op → Draft
behind_ops version text done last [] = in_code version text WrapUp done last
behind_ops version text done last (op ∷ rest) = behind_ops version text (done ++ last ∷ []) op rest

-- each operation of a list is within its limits, and their names are different
pub record AreOps (kinds fields roots : ℕ) (ops : List Op) : Type 0 where
  pub each : list_all (is_op kinds fields roots) ops ≡ true
  pub different : are_different (map (λ op. op.name) ops) ≡ true
  pub few : length ops ≤ 16

pub ops_read : (version : Version) (text : Text) (done : List Op) (last : Op) (rest whole : List Op) → AreNamed version text
    → AreOps (length text.kinds) (length text.fields) (length text.roots) whole → done ++ last ∷ rest ≡ whole
    → after_spelled (in_code version text WrapUp done last) (flat_map (op_lines version text.kinds text.fields text.roots) rest) ≡ Ok (behind_ops version text done last rest)
ops_read version text done last [] whole named are same = refl
ops_read version text done last (op ∷ rest) whole named are same =
    let behind : (done ++ last ∷ []) ++ op ∷ rest ≡ whole = append_assoc done (last ∷ []) (op ∷ rest) ∙ same in
    let long : length whole ≡ length (done ++ last ∷ []) + suc (length rest) = ap length (sym behind) ∙ length-append (done ++ last ∷ []) (op ∷ rest) in
    let last_is = op_is (length text.kinds) (length text.fields) (length text.roots) last (passes_among (is_op (length text.kinds) (length text.fields) (length text.roots)) done (op ∷ rest) whole last same are.each) in
    let this_is = op_is (length text.kinds) (length text.fields) (length text.roots) op (passes_among (is_op (length text.kinds) (length text.fields) (length text.roots)) (done ++ last ∷ []) rest whole op behind are.each) in
    lines_then (in_code version text WrapUp done last) (in_code version text WrapUp (done ++ last ∷ []) op) (op_lines version text.kinds text.fields text.roots op) (flat_map (op_lines version text.kinds text.fields text.roots) rest) (Ok (behind_ops version text (done ++ last ∷ []) op rest))
    (next_op_read version text done last op named (last_is.wrapup).some this_is (fresh_among (λ (op : Op). op.name) (done ++ last ∷ []) rest whole op behind are.different) (omega (arith, are.few)))
    (ops_read version text (done ++ last ∷ []) op rest whole named are behind)

-- the text after the last of the operations
pub ops_finished : (version : Version) (text : Text) (done : List Op) (last : Op) (rest whole : List Op)
    → list_all (is_op (length text.kinds) (length text.fields) (length text.roots)) whole ≡ true → done ++ last ∷ rest ≡ whole
    → finished (behind_ops version text done last rest) ≡ Ok (record text { ops = whole })
ops_finished version text done last [] whole each same =
    let last_is = op_is (length text.kinds) (length text.fields) (length text.roots) last (passes_among (is_op (length text.kinds) (length text.fields) (length text.roots)) done [] whole last same each) in
    rw (lt-ltb 0 (length last.wrapup) (last_is.wrapup).some, same) refl
ops_finished version text done last (op ∷ rest) whole each same =
    ops_finished version text (done ++ last ∷ []) op rest whole each (append_assoc done (last ∷ []) (op ∷ rest) ∙ same)
