-- Plain lines that tell a target within the limits spell it.
use Rattle.std.specs.Prelude.{◌≡◌, ℕ, ◌+◌, ◌<◌, Bool, true, false, cond, not, List, [], ◌∷◌, ◌++◌, length, Some, None, Result, Ok, Err, codes, nat_lt}
use Rattle.std.specs.List.{list_all, flat_map}
use Rattle.std.proofs.Common.{refl, ap, ◌∙◌, sym, arith}
use Rattle.std.proofs.lemmas.Bool.{and_parts, lt-ltb}
use Rattle.std.proofs.lemmas.List.Folds.{list_all-append}
use Rattle.oa_text.specs.Lines.{TextLine, lines_of, numbered}
use Rattle.oa_text.specs.Tokens.{words_of}
use Rattle.norm_lang.specs.declared.text.FieldDecl.{FieldDecl}
use Rattle.norm_lang.specs.declared.text.RootDecl.{RootDecl}
use Rattle.norm_lang.specs.declared.text.Version.TheVariants.{Second}
use Rattle.norm_lang.specs.Faults.{LineFault, ◌>>=◌, at_line}
use Rattle.norm_lang.specs.Spelling.{declaration_lines}
use Rattle.norm_lang.specs.Grammar.{Opening, Draft, draft_at, after_lines}
use Rattle.norm_parser.specs.declared.head.Head.{Head}
use Rattle.norm_parser.specs.FrontRead.{from_line, before_op, ended, whole_head, head_in}
use Rattle.norm_parser.specs.Version.{after_version}
use Rattle.line_words.specs.Lines.{first_word}
use Rattle.text_laws.specs.StandsFor.{is_plain_line, begins_with_hash, is_skipped, told_in}
use Rattle.text_laws.proofs.DraftSaid.{same_comment}
use Rattle.text_laws.proofs.SpelledFolds as text
use Rattle.text_laws.proofs.TextsSaid.{no_fault, lines_read}
use Rattle.target_code.specs.declared.target.TargetOp.{TargetOp}
use Rattle.target_code.specs.declared.target.Target.{Target}
use Rattle.target_code.specs.TargetSpelling.{spelled_target_version, spelled_target_op, target_op_lines, declared_by}
use Rattle.target_reader.specs.TargetGrammar.{OpsDraft, no_ops, after_target_words, after_target_lines, ops_read, version_of, target_of}
use Rattle.target_reader.proofs.CodeSpelled.{after_spelled}
use Rattle.target_reader.proofs.OpsSpelled.{behind_ops}
use Rattle.target_reader.proofs.Spelled.{IsTarget, parts_of, declared_target, target_declared, declarations_end_none, head_of, ops_given, ops_whole}
use Rattle.target_text_laws.specs.TargetStandsFor.{TargetsAreSaid}
use Rattle.target_text_laws.proofs.Parts.{Lines, told_both, all_later, from_twice, EndsHere, HeadSplit, head_split, end_stands, end_told, SameParts, same_parts}
use Rattle.target_text_laws.proofs.TargetsSaid.{read_of, target_of_bytes}

abbrev head_words : Lines → List (List ℕ)
head_words [] = []
head_words (words ∷ lines) = words

abbrev tail_of : Lines → Lines
tail_of [] = []
tail_of (words ∷ lines) = lines

-- the version line is found, and these lines come after it
record VersionRead (past n : ℕ) (lines : List (List ℕ)) (others : Lines) : Type 0 where
  behind : ℕ
  rest : List (List ℕ)
  later : n < behind
  read : after_version (codes "oat") past (numbered n lines) ≡ Ok (behind, Second)
  left : from_line behind (numbered n lines) ≡ numbered behind rest
  told_rest : told_in rest ≡ others
  plain_rest : list_all is_plain_line rest ≡ true

-- a line that is skipped
version_later : (past n : ℕ) (bytes : List ℕ) (lines : List (List ℕ)) (others : Lines) → version_of (record { number = n; bytes = bytes }) ≡ Ok None → VersionRead past (n + 1) lines others
    → VersionRead past n (bytes ∷ lines) others
version_later past n bytes lines others other next =
    let later : n + 1 < next.behind = next.later in
    let passed : nat_lt n next.behind ≡ true = lt-ltb n next.behind (omega arith) in
    record {
      behind = next.behind;
      rest = next.rest;
      later = omega arith;
      read = rw other next.read;
      left = rw passed next.left;
      told_rest = next.told_rest;
      plain_rest = next.plain_rest;
    }

-- the version line itself
version_here : (past n : ℕ) (bytes : List ℕ) (lines : List (List ℕ)) (others : Lines) → version_of (record { number = n; bytes = bytes }) ≡ Ok (Some Second) → told_in lines ≡ others
    → list_all is_plain_line lines ≡ true → VersionRead past n (bytes ∷ lines) others
version_here past n bytes lines others says same are =
    let passed : nat_lt n (n + 1) ≡ true = lt-ltb n (n + 1) (omega arith) in
    record {
      behind = n + 1;
      rest = lines;
      later = omega arith;
      read = rw says refl;
      left = rw passed (all_later (n + 1) (n + 1) lines (omega arith));
      told_rest = same;
      plain_rest = are;
    }

version_read : (past n : ℕ) (lines : List (List ℕ)) (others : Lines) → list_all is_plain_line lines ≡ true → told_in lines ≡ spelled_target_version ∷ others → VersionRead past n lines others
version_read past n [] others are same = absurd (let f : ⊥ = cc in f)
version_read past n (bytes ∷ lines) others are same =
    by (words_of bytes) refl same (λ same. version_read past (n + 1) lines others parts.1 same)
  where
    parts : (is_plain_line bytes ≡ true) × (list_all is_plain_line lines ≡ true)
    parts = and_parts (is_plain_line bytes) (list_all is_plain_line lines) are

    by : (words : List (List ℕ)) → words_of bytes ≡ words → cond (not (is_skipped words)) (words ∷ told_in lines) (told_in lines) ≡ spelled_target_version ∷ others
        → (told_in lines ≡ spelled_target_version ∷ others → VersionRead past (n + 1) lines others) → VersionRead past n (bytes ∷ lines) others
    by [] is same next = version_later past n bytes lines others (rw (no_fault n bytes parts.0, is) refl) (next same)
    by (word ∷ rest) is same next = go (begins_with_hash word) refl same
      where
        version : word ∷ rest ≡ spelled_target_version → version_of (record { number = n; bytes = bytes }) ≡ Ok (Some Second)
        version whole = rw (no_fault n bytes parts.0, is ∙ whole) refl

        go : (t : Bool) → begins_with_hash word ≡ t → cond (not t) ((word ∷ rest) ∷ told_in lines) (told_in lines) ≡ spelled_target_version ∷ others → VersionRead past n (bytes ∷ lines) others
        go true e same = version_later past n bytes lines others (rw (no_fault n bytes parts.0, is, same_comment word, e) refl) (next same)
        go false e same = version_here past n bytes lines others (version (ap head_words same)) (ap tail_of same) parts.1

module _ (kinds : List (List ℕ)) (fields : List FieldDecl) (roots : List RootDecl) where
  -- a line and those after it
  line_read : (words : List (List ℕ)) (others : Lines) (draft last : OpsDraft) (number : ℕ) (next : OpsDraft → Result OpsDraft LineFault)
      → after_spelled kinds fields roots draft (cond (not (is_skipped words)) (words ∷ others) others) ≡ Ok last → ((d : OpsDraft) → after_spelled kinds fields roots d others ≡ Ok last → next d ≡ Ok last)
      → (at_line number (after_target_words kinds fields roots draft (first_word words)) >>= next) ≡ Ok last
  line_read [] others draft last number next read more = more draft read
  line_read (word ∷ rest) others draft last number next read more = go (begins_with_hash word) refl read
    where
      taken : (w : Result OpsDraft ℕ) → (w >>= λ d. after_spelled kinds fields roots d others) ≡ Ok last → (at_line number w >>= next) ≡ Ok last
      taken (Ok d) read = more d read
      taken (Err e) read = let f : ⊥ = cc in absurd f

      go : (t : Bool) → begins_with_hash word ≡ t → after_spelled kinds fields roots draft (cond (not t) ((word ∷ rest) ∷ others) others) ≡ Ok last
          → (at_line number (after_target_words kinds fields roots draft (first_word (word ∷ rest))) >>= next) ≡ Ok last
      go true e read = rw (same_comment word ∙ e) (more draft read)
      go false e read = taken (after_target_words kinds fields roots draft (first_word (word ∷ rest))) read

  -- what plain lines tell gives the draft that they give
  ops_lines_read : (number : ℕ) (lines : List (List ℕ)) (draft last : OpsDraft) → list_all is_plain_line lines ≡ true → after_spelled kinds fields roots draft (told_in lines) ≡ Ok last
      → after_target_lines kinds fields roots draft (numbered number lines) ≡ Ok last
  ops_lines_read number [] draft last are read = let same : draft ≡ last = cc in rw same refl
  ops_lines_read number (bytes ∷ lines) draft last are read =
      let parts = and_parts (is_plain_line bytes) (list_all is_plain_line lines) are in
      rw (no_fault number bytes parts.0)
      (line_read (words_of bytes) (told_in lines) draft last number (λ d. after_target_lines kinds fields roots d (numbered (number + 1) lines)) read (λ d read. ops_lines_read (number + 1) lines d last parts.1 read))

abbrev op_lines_of : Target → List TargetOp → Lines
op_lines_of target ops = flat_map (target_op_lines target.kinds target.fields target.roots) ops

-- the operations are read of the lines that tell them
ops_told_read : (target : Target) (past place : ℕ) (lines : List (List ℕ)) (op : TargetOp) (rest : List TargetOp) → IsTarget target → target.ops ≡ op ∷ rest → list_all is_plain_line lines ≡ true
    → told_in lines ≡ op_lines_of target (op ∷ rest) → ops_read target.kinds target.fields target.roots past no_ops (numbered place lines) ≡ Ok (op ∷ rest)
ops_told_read target past place lines op rest is same plain_lines tells =
    ops_whole target past op rest (numbered place lines) is same
    (ops_lines_read target.kinds target.fields target.roots place lines no_ops (behind_ops [] op rest) plain_lines
    (ap (after_spelled target.kinds target.fields target.roots no_ops) tells ∙ ops_given target op rest is same))

abbrev head_at : Target → ℕ → Result (Head × ℕ) LineFault
head_at target at = Ok (head_of target, at)

-- what is read of declarations where their lines end
abbrev head_behind : Draft → List TextLine → ℕ → Result (Head × ℕ) LineFault
head_behind draft lines past = before_op draft lines past >>= λ head. ended (whole_head head.0) head.1

-- the declarations are read of the lines that tell them, up to the first operation
head_given : (target : Target) (past n : ℕ) (lines : List (List ℕ)) (split : HeadSplit n lines) (op : TargetOp) (others : Lines) → IsTarget target → list_all is_plain_line split.front ≡ true
    → told_in split.front ≡ declaration_lines Second (declared_by target) → told_in split.back ≡ spelled_target_op op ∷ others → head_in (numbered n lines) past ≡ head_at target split.place
head_given target past n lines split op others is plain_lines tells tells_back =
    rw (split.first, split.behind, read) (ends split.back split.ends tells_back)
  where
    read : after_lines (draft_at Second Opening) (numbered n split.front) ≡ Ok (declared_target target)
    read = lines_read n split.front (draft_at Second Opening) (declared_target target) plain_lines (ap (text.after_spelled (draft_at Second Opening)) tells ∙ target_declared target is)

    ends : (back : List (List ℕ)) → EndsHere back → told_in back ≡ spelled_target_op op ∷ others → head_behind (declared_target target) (numbered split.place back) past ≡ head_at target split.place
    ends [] here tells = absurd (let f : ⊥ = cc in f)
    ends (bytes ∷ back) here tells =
        let stands : is_skipped (words_of bytes) ≡ false = end_stands (words_of bytes) here in
        let words : words_of bytes ≡ spelled_target_op op = ap head_words (rw stands at tells) in
        rw (words, lt-ltb 0 (length target.roots) is.some_roots) refl

-- the lines after the version line
rest_given : (target : Target) (past behind : ℕ) (all : List TextLine) (lines : List (List ℕ)) (op : TargetOp) (rest : List TargetOp) → IsTarget target → target.ops ≡ op ∷ rest
    → list_all is_plain_line lines ≡ true → told_in lines ≡ declaration_lines Second (declared_by target) ++ op_lines_of target (op ∷ rest) → from_line behind all ≡ numbered behind lines
    → (head_in (from_line behind all) past >>= λ head. ops_read head.0.kinds head.0.fields head.0.roots past no_ops (from_line head.1 all) >>= λ ops. Ok (target_of head.0 ops)) ≡ Ok (target_of (head_of target) (op ∷ rest))
rest_given target past behind all lines op rest is same plain_lines tells left =
    rw (left, head_given target past behind lines split op _ is both_plain.0 parts.before parts.from_there, from, ops_told_read target past split.place split.back op rest is same both_plain.1 parts.from_there) refl
  where
    split : HeadSplit behind lines
    split = head_split behind lines

    both_plain : (list_all is_plain_line split.front ≡ true) × (list_all is_plain_line split.back ≡ true)
    both_plain = and_parts (list_all is_plain_line split.front) (list_all is_plain_line split.back) (sym (list_all-append is_plain_line split.front split.back) ∙ ap (list_all is_plain_line) (sym split.split) ∙ plain_lines)

    parts : SameParts (told_in split.front) (told_in split.back) (declaration_lines Second (declared_by target)) (op_lines_of target (op ∷ rest))
    parts = same_parts (told_in split.front) (told_in split.back) (declaration_lines Second (declared_by target)) (spelled_target_op op) _ split.none (end_told split.back split.ends) (declarations_end_none target) refl
        (sym (told_both split.front split.back) ∙ ap told_in (sym split.split) ∙ tells)

    from : from_line split.place all ≡ numbered split.place split.back
    from = sym (from_twice split.place behind all split.later) ∙ ap (from_line split.place) left ∙ split.left

target_given : (target : Target) (lines : List (List ℕ)) (ops : List TargetOp) → IsTarget target → target.ops ≡ ops → list_all is_plain_line lines ≡ true
    → told_in lines ≡ spelled_target_version ∷ (declaration_lines Second (declared_by target) ++ op_lines_of target ops) → read_of lines ≡ Ok (target_of (head_of target) ops)
target_given target lines [] is same plain_lines tells = absurd (omega (arith, is.some_ops, ap length same))
target_given target lines (op ∷ rest) is same plain_lines tells =
    let version = version_read (length lines + 1) 1 lines (declaration_lines Second (declared_by target) ++ op_lines_of target (op ∷ rest)) plain_lines tells in
    rw version.read (rest_given target (length lines + 1) version.behind (numbered 1 lines) version.rest op rest is same version.plain_rest version.told_rest version.left)

pub targets_are_said : TargetsAreSaid
targets_are_said bytes target = (
  λ spells. let it = target_of_bytes bytes target spells in (it.plain_lines, it.within, it.told),
  λ has. target_given target (lines_of bytes) target.ops (parts_of target has.1) refl has.0 has.2,
)
