-- The lines of operations, one after the other.
use Rattle.std.proofs.Common.{◌≡◌, ℕ, ◌+◌, List, [], ◌∷◌, length, Result, Ok, refl, sym, ap, ◌∙◌}
use Rattle.std.specs.Prelude.{Option, MatchOption, option_map, codes}
use Rattle.oa_text.specs.declared.line.Line.{Line}
use Rattle.oa_text.specs.Lines.{TextLine, lines_of}
use Rattle.oa_text.specs.Shown.{line_shown}
use Rattle.norm_lang.specs.declared.text.FieldDecl.{FieldDecl}
use Rattle.norm_lang.specs.declared.text.RootDecl.{RootDecl}
use Rattle.norm_lang.specs.Faults.{LineFault}
use Rattle.line_words.specs.declared.fault.ParseError.{ParseError}
use Rattle.line_words.specs.declared.fault.ParseError.TheVariants as errors
use Rattle.line_words.specs.Answered.{Fails}
use Rattle.norm_parser.specs.declared.head.Head.{Head}
use Rattle.norm_parser.specs.Instruction.{AreLeftOf}
use Rattle.norm_parser.specs.Cursors.{LinesLeft, all_lines, past_of, IsRestOf, with_next, IsLast}
use Rattle.norm_parser.specs.Version.{after_second_version}
use Rattle.norm_parser.specs.FrontRead.{head_in}
use Rattle.norm_parser.proofs.CursorLines.{all_stand, none_behind, rest_of_rest, input_from, second_version_read, head_is_read}
use Rattle.target_code.specs.declared.target.TargetOp.{TargetOp}
use Rattle.target_reader.specs.TargetGrammar.{OpsDraft, no_ops, ops_read, target_of, target_read}
use Rattle.target_reader.proofs.Ordered.{AreUpTo, behind_line, left_up_to}

pub left_all : (whole : List TextLine) → AreLeftOf whole whole
left_all whole = record { front = []; same = refl }

-- once a line and those that it takes are read, what is left gives what the whole gives
pub ops_on : (kinds : List (List ℕ)) (fields : List FieldDecl) (roots : List RootDecl) (past : ℕ) (draft next : OpsDraft) (line : TextLine) (lines before left : List TextLine) (whole : Result (List TargetOp) LineFault)
    → before ≡ line ∷ lines → AreUpTo past before
    → ops_read kinds fields roots (line.number + 1 + length lines) draft (line ∷ lines) ≡ ops_read kinds fields roots (line.number + 1 + length lines) next left
    → AreLeftOf lines left → ops_read kinds fields roots past draft before ≡ whole
    → (ops_read kinds fields roots past next left ≡ whole) × AreUpTo past left
ops_on kinds fields roots past draft next line lines before left whole is up step rest so_far =
    let last = (behind_line past line lines before is up).1 in
    let taken : ops_read kinds fields roots past draft (line ∷ lines) ≡ ops_read kinds fields roots past next left
    = ap (λ n. ops_read kinds fields roots n draft (line ∷ lines)) (sym last) ∙ step ∙ ap (λ n. ops_read kinds fields roots n next left) last in (
      sym taken ∙ ap (ops_read kinds fields roots past draft) (sym is) ∙ so_far,
      left_up_to past before left up record { front = line ∷ rest.front; same = ap (λ ls. line ∷ ls) rest.same ∙ sym is },
    )

-- the next line, if there is one, and those after it are all that is left
pub ops_next : (kinds : List (List ℕ)) (fields : List FieldDecl) (roots : List RootDecl) (past : ℕ) (draft next : OpsDraft) (line : TextLine) (taken : Option Line) (lines before left after : List TextLine) (whole : Result (List TargetOp) LineFault)
    → before ≡ line ∷ lines → AreUpTo past before
    → ops_read kinds fields roots (line.number + 1 + length lines) draft (line ∷ lines) ≡ ops_read kinds fields roots (line.number + 1 + length lines) next left
    → AreLeftOf lines left → MatchOption taken ((left ≡ []) × (after ≡ [])) (λ line. left ≡ line_shown line ∷ after)
    → ops_read kinds fields roots past draft before ≡ whole
    → (ops_read kinds fields roots past next (with_next (option_map line_shown taken) after) ≡ whole) × AreUpTo past (with_next (option_map line_shown taken) after) × IsLast (option_map line_shown taken) after
ops_next kinds fields roots past draft next line taken lines before left after whole is up step rest takes so_far =
    let on = ops_on kinds fields roots past draft next line lines before left whole is up step rest so_far in
    let same : with_next (option_map line_shown taken) after ≡ left = all_stand taken left after takes in
    (rw same on.0, rw same on.1, none_behind taken left after takes)

-- ---- the parts of a target, in turn

pub version_fails : (bytes : List ℕ) (all : LinesLeft) (error : ParseError) → all ≡ all_lines bytes → Fails error (after_second_version (codes "oat") (past_of all) all.lines)
    → Fails error (target_read bytes)
version_fails bytes all errors.Memory same fails = tt
version_fails bytes all (errors.Fault fault) same fails = rw (second_version_read (codes "oat") bytes all _ same fails) refl

pub head_fails : (bytes : List ℕ) (all start : LinesLeft) (error : ParseError) → all ≡ all_lines bytes → IsRestOf all start
    → after_second_version (codes "oat") (past_of all) all.lines ≡ Ok start.number → Fails error (head_in start.lines (past_of start)) → Fails error (target_read bytes)
head_fails bytes all start errors.Memory same is begun fails = tt
head_fails bytes all start (errors.Fault fault) same is begun fails =
    rw (second_version_read (codes "oat") bytes all _ same begun, head_is_read bytes all start _ same is fails) refl

pub ops_fail : (bytes : List ℕ) (all start left : LinesLeft) (head : Head) (error : ParseError) → all ≡ all_lines bytes → IsRestOf all start → IsRestOf start left
    → after_second_version (codes "oat") (past_of all) all.lines ≡ Ok start.number → head_in start.lines (past_of start) ≡ Ok (head, left.number)
    → Fails error (ops_read head.kinds head.fields head.roots (length (lines_of bytes) + 1) no_ops left.lines) → Fails error (target_read bytes)
ops_fail bytes all start left head errors.Memory same is on begun declared fails = tt
ops_fail bytes all start left head (errors.Fault fault) same is on begun declared fails =
    rw (second_version_read (codes "oat") bytes all _ same begun, head_is_read bytes all start _ same is declared, input_from bytes all left same (rest_of_rest all start left is on), fails) refl

pub target_is : (bytes : List ℕ) (all start left : LinesLeft) (head : Head) (ops : List TargetOp) → all ≡ all_lines bytes → IsRestOf all start → IsRestOf start left
    → after_second_version (codes "oat") (past_of all) all.lines ≡ Ok start.number → head_in start.lines (past_of start) ≡ Ok (head, left.number)
    → ops_read head.kinds head.fields head.roots (length (lines_of bytes) + 1) no_ops left.lines ≡ Ok ops → target_read bytes ≡ Ok (target_of head ops)
target_is bytes all start left head ops same is on begun declared read =
    rw (second_version_read (codes "oat") bytes all _ same begun, head_is_read bytes all start _ same is declared, input_from bytes all left same (rest_of_rest all start left is on), read) refl

-- what is left of what is left of an input
pub ops_left : (bytes : List ℕ) (all start left : LinesLeft) → all ≡ all_lines bytes → IsRestOf all start → IsRestOf start left → IsRestOf (all_lines bytes) left
ops_left bytes all start left same is on = rw (← same) (rest_of_rest all start left is on)
