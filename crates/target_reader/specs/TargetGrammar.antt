-- The target that bytes spell, line by line, or the first fault.
--
-- A target has the version line `oat 2`, the declarations of a text, no `use` line, and operations in whose methods `chk` and
-- `grd R` may stand. Its lines are those of the second version of the language. A line's fault is the first that it has, as in a
-- text: its bytes are judged first, even if it is skipped, and each line's form before its numbers, names and limits.
use Rattle.std.specs.Prelude.{◌≡◌, ℕ, zero, suc, ◌+◌, Bool, false, ◌&&◌, not, List, [], ◌∷◌, ◌++◌, map, length, Option, Some, None, Result, Ok, Err, codes, nat_lt, nat_le, ◌==◌, if◌then◌else◌}
use Rattle.std.specs.Str.{bytes_eq}
use Rattle.oa_text.specs.Lines.{TextLine, lines_of, numbered}
use Rattle.norm_lang.specs.declared.text.Reg.{Reg}
use Rattle.norm_lang.specs.declared.text.FieldDecl.{FieldDecl}
use Rattle.norm_lang.specs.declared.text.RootDecl.{RootDecl}
use Rattle.norm_lang.specs.declared.text.CasEntry.{CasEntry}
use Rattle.norm_lang.specs.declared.text.Instr.TheVariants as instr
use Rattle.norm_lang.specs.declared.text.Op.{Op}
use Rattle.norm_lang.specs.declared.text.Version.{Version}
use Rattle.norm_lang.specs.declared.text.Version.TheVariants.{Second}
use Rattle.norm_lang.specs.Faults.{LineFault, form_fault, too_many, ◌>>=◌, demand, at_line}
use Rattle.norm_lang.specs.LineWords.{end_at}
use Rattle.norm_lang.specs.Declarations.{op_line}
use Rattle.norm_lang.specs.Instructions.{Step, Whole, Commits, one_register, step_line, entry_line}
use Rattle.norm_lang.specs.Grammar.{is_new}
use Rattle.norm_lang.specs.Kept.{holds_reference}
use Rattle.line_words.specs.Lines.{words_in, first_word}
use Rattle.norm_parser.specs.declared.head.Head.{Head}
use Rattle.norm_parser.specs.FrontRead.{from_line, head_read}
use Rattle.norm_parser.specs.Version.{version_said, line_version, after_second_version}
use Rattle.target_code.specs.declared.target.TargetInstr.{TargetInstr}
use Rattle.target_code.specs.declared.target.TargetInstr.TheVariants.{Plain, Check, Guard}
use Rattle.target_code.specs.declared.target.TargetOp.{TargetOp}
use Rattle.target_code.specs.declared.target.Target.{Target}
use Rattle.norm_lang.specs.Bounds.{most_news}
use Rattle.target_code.specs.TargetLimits.{most_target_instrs, target_news_of}

-- where among the operations a line stands: before the first; after an `op` line; in a generator; in a wrap-up
pub data Part : Type 0 where
  Outside : Part
  Begun : Part
  Generator : Part
  WrapUp : Part

-- what the lines so far say of the operations
pub record OpsDraft : Type 0 where
  pub part : Part
  -- the whole operations
  pub ops : List TargetOp
  -- the operation whose lines stand here
  pub op : TargetOp
  -- how many entry lines of a commit must follow, and the entries before them
  pub left : ℕ
  pub entries : List CasEntry

-- no operation is begun
abbrev pub no_target_op : TargetOp
no_target_op = record { name = []; args = 0; generator = []; wrapup = [] }

-- before the first operation
abbrev pub no_ops : OpsDraft
no_ops = record { part = Outside; ops = []; op = no_target_op; left = 0; entries = [] }

-- what an operation's own line says of it
abbrev pub opened : TargetOp → Op
opened op = record { name = op.name; args = op.args; generator = []; wrapup = [] }

-- an operation without code yet
abbrev pub begun : Op → TargetOp
begun op = record { name = op.name; args = op.args; generator = []; wrapup = [] }

-- an operation begins
abbrev pub with_target_op : OpsDraft → TargetOp → OpsDraft
with_target_op draft op = record draft { part = Begun; op = op }

-- `op NAME A`, after these operations
abbrev pub target_op_at : List TargetOp → List (List ℕ) → Result TargetOp ℕ
target_op_at ops words = op_line (map opened ops) words >>= λ op. Ok (begun op)

-- `op NAME A`
abbrev pub target_op_line : OpsDraft → List (List ℕ) → Result OpsDraft ℕ
target_op_line draft words = target_op_at draft.ops words >>= λ op. Ok (with_target_op draft op)

-- the operation is whole, if its wrap-up has an instruction
abbrev pub with_whole_target_op : OpsDraft → Result OpsDraft ℕ
with_whole_target_op draft = do
  some ← demand form_fault (nat_lt 0 (length draft.op.wrapup))
  Ok (record draft { ops = draft.ops ++ draft.op ∷ []; op = no_target_op })

-- the instructions so far of the method whose lines stand here
abbrev pub target_code_so_far : Part → TargetOp → List TargetInstr
target_code_so_far Generator op = op.generator
target_code_so_far _ op = op.wrapup

-- the operation with one more instruction of this method
abbrev pub with_target_instr : Part → TargetOp → TargetInstr → TargetOp
with_target_instr Generator op i = record op { generator = op.generator ++ i ∷ [] }
with_target_instr _ op i = record op { wrapup = op.wrapup ++ i ∷ [] }

-- one more instruction
abbrev pub with_one_more : OpsDraft → TargetInstr → OpsDraft
with_one_more draft i = record draft { op = with_target_instr draft.part draft.op i }

-- a method has at most 4096 instructions
abbrev pub has_place : OpsDraft → Bool
has_place draft = nat_lt (length (target_code_so_far draft.part draft.op)) most_target_instrs

-- whether a step is a fifth `new` of its operation
abbrev pub is_fifth_target_new : OpsDraft → Step → Bool
is_fifth_target_new draft (Whole i) = is_new i && nat_le most_news (target_news_of draft.op)
is_fifth_target_new draft (Commits count) = false

-- a commit is an instruction once none of its entry lines is left
abbrev pub with_target_entries : ℕ → OpsDraft → List CasEntry → OpsDraft
with_target_entries zero draft entries = with_one_more (record draft { left = 0; entries = [] }) (Plain (instr.Commit entries))
with_target_entries (suc left) draft entries = record draft { left = suc left; entries = entries }

-- one more instruction of the language, or a commit with its entry lines still to come
abbrev pub with_target_step : OpsDraft → Step → OpsDraft
with_target_step draft (Whole i) = with_one_more draft (Plain i)
with_target_step draft (Commits count) = with_target_entries count draft []

-- an instruction of the language: its own faults come before a limit that it passes
abbrev pub plain_line : List (List ℕ) → List FieldDecl → List RootDecl → OpsDraft → List ℕ → List (List ℕ) → Result OpsDraft ℕ
plain_line kinds fields roots draft word rest = do
  step ← step_line Second kinds fields roots word rest
  room ← demand too_many (has_place draft && not (is_fifth_target_new draft step))
  Ok (with_target_step draft step)

-- one more check or guard
abbrev pub with_added : OpsDraft → TargetInstr → Result (Option OpsDraft) ℕ
with_added draft i = do
  room ← demand too_many (has_place draft)
  Ok (Some (with_one_more draft i))

-- `R` of a guard, a reference, and then the end
abbrev pub guarded_at : List (List ℕ) → Result Reg ℕ
guarded_at words = do
  r ← one_register words
  reference ← demand form_fault (holds_reference r)
  Ok r

-- `chk`, or `grd R`: none if the line must be an instruction of the language
abbrev pub added_line : OpsDraft → List ℕ → List (List ℕ) → Result (Option OpsDraft) ℕ
added_line draft word rest =
    if bytes_eq word (codes "chk") then (end_at rest >>= λ done. with_added draft Check)
    else (if bytes_eq word (codes "grd") then (guarded_at rest >>= λ r. with_added draft (Guard r))
    else Ok None)

-- the first operation
abbrev pub in_outside : OpsDraft → List ℕ → List (List ℕ) → Result (Option OpsDraft) ℕ
in_outside draft word rest =
    if bytes_eq word (codes "op") then (target_op_line draft rest >>= λ next. Ok (Some next))
    else Err form_fault

-- `gen`
abbrev pub in_begun_op : OpsDraft → List ℕ → List (List ℕ) → Result (Option OpsDraft) ℕ
in_begun_op draft word rest =
    if bytes_eq word (codes "gen") then (end_at rest >>= λ done. Ok (Some (record draft { part = Generator })))
    else Err form_fault

-- a check or a guard, or after at least one instruction `wrap`
abbrev pub in_target_generator : OpsDraft → List ℕ → List (List ℕ) → Result (Option OpsDraft) ℕ
in_target_generator draft word rest =
    if bytes_eq word (codes "wrap") && nat_lt 0 (length draft.op.generator) then (end_at rest >>= λ done. Ok (Some (record draft { part = WrapUp })))
    else added_line draft word rest

-- `op NAME A` after a whole operation
abbrev pub next_target_op : OpsDraft → List (List ℕ) → Result (Option OpsDraft) ℕ
next_target_op draft words = do
  whole ← with_whole_target_op draft
  next ← target_op_line whole words
  Ok (Some next)

-- a check or a guard, or another operation after a whole one
abbrev pub in_target_wrap_up : OpsDraft → List ℕ → List (List ℕ) → Result (Option OpsDraft) ℕ
in_target_wrap_up draft word rest =
    if bytes_eq word (codes "op") then next_target_op draft rest
    else added_line draft word rest

-- what a line says that isn't an instruction of the language, by its first word: none if it must be one
abbrev pub own_line : Part → OpsDraft → List ℕ → List (List ℕ) → Result (Option OpsDraft) ℕ
own_line Outside draft word rest = in_outside draft word rest
own_line Begun draft word rest = in_begun_op draft word rest
own_line Generator draft word rest = in_target_generator draft word rest
own_line WrapUp draft word rest = in_target_wrap_up draft word rest

-- what it says, or else the instruction that it must be
abbrev pub or_plain : List (List ℕ) → List FieldDecl → List RootDecl → OpsDraft → List ℕ → List (List ℕ) → Option OpsDraft → Result OpsDraft ℕ
or_plain kinds fields roots draft word rest (Some next) = Ok next
or_plain kinds fields roots draft word rest None = plain_line kinds fields roots draft word rest

-- the draft after a line that isn't skipped: if entry lines of a commit must follow, they alone may stand
abbrev pub in_target_place : List (List ℕ) → List FieldDecl → List RootDecl → ℕ → OpsDraft → List ℕ → List (List ℕ) → Result OpsDraft ℕ
in_target_place kinds fields roots zero draft word rest = do
  own ← own_line draft.part draft word rest
  or_plain kinds fields roots draft word rest own
in_target_place kinds fields roots (suc left) draft word rest = do
  entry ← entry_line fields roots word rest
  Ok (with_target_entries left draft (draft.entries ++ entry ∷ []))

-- the draft after a line's words: one that is skipped adds nothing
abbrev pub after_target_words : List (List ℕ) → List FieldDecl → List RootDecl → OpsDraft → Option (List ℕ × List (List ℕ)) → Result OpsDraft ℕ
after_target_words kinds fields roots draft None = Ok draft
after_target_words kinds fields roots draft (Some word) = in_target_place kinds fields roots draft.left draft word.0 word.1

-- the draft after a line, or the line's first fault
abbrev pub after_target_line : List (List ℕ) → List FieldDecl → List RootDecl → OpsDraft → TextLine → Result OpsDraft ℕ
after_target_line kinds fields roots draft line = do
  words ← words_in line
  after_target_words kinds fields roots draft (first_word words)

-- the draft after lines, or the first line that has a fault, with its first fault
abbrev pub after_target_lines : List (List ℕ) → List FieldDecl → List RootDecl → OpsDraft → List TextLine → Result OpsDraft LineFault
after_target_lines kinds fields roots draft [] = Ok draft
after_target_lines kinds fields roots draft (line ∷ lines) = do
  next ← at_line line.number (after_target_line kinds fields roots draft line)
  after_target_lines kinds fields roots next lines

-- operations end after an instruction of a wrap-up
abbrev pub finished_ops_in : Part → OpsDraft → Result (List TargetOp) ℕ
finished_ops_in WrapUp draft = with_whole_target_op draft >>= λ next. Ok next.ops
finished_ops_in _ draft = Err form_fault

-- the operations of a draft, unless a further line must follow
abbrev pub finished_ops : OpsDraft → Result (List TargetOp) ℕ
finished_ops draft = do
  none ← demand form_fault (draft.left == 0)
  finished_ops_in draft.part draft

-- the operations after a draft, where `past` is one more than the last line's number
abbrev pub ops_read : List (List ℕ) → List FieldDecl → List RootDecl → ℕ → OpsDraft → List TextLine → Result (List TargetOp) LineFault
ops_read kinds fields roots past draft lines = do
  last ← after_target_lines kinds fields roots draft lines
  at_line past (finished_ops last)

-- the version that a line's words say: `oat` and its number. A line that is skipped says none, and any other is faulty
abbrev pub version_words : Option (List ℕ × List (List ℕ)) → Result (Option Version) ℕ
version_words words = version_said (codes "oat") words

-- the same by its bytes
abbrev pub version_of : TextLine → Result (Option Version) ℕ
version_of line = line_version (codes "oat") line

-- the number of the line after the version line: `oat 1` is faulty
abbrev pub version_end : ℕ → List TextLine → Result ℕ LineFault
version_end past lines = after_second_version (codes "oat") past lines

-- declarations, with operations after them
abbrev pub target_of : Head → List TargetOp → Target
target_of head ops = record { kinds = head.kinds; fields = head.fields; roots = head.roots; nodes = head.nodes; ops = ops }

-- the target that bytes spell, or the first fault. If a further line must follow, the fault is one line past the last
abbrev pub target_read : List ℕ → Result Target LineFault
target_read bytes = do
  behind ← version_end (length (lines_of bytes) + 1) (numbered 1 (lines_of bytes))
  head ← head_read bytes behind
  ops ← ops_read head.0.kinds head.0.fields head.0.roots (length (lines_of bytes) + 1) no_ops (from_line head.1 (numbered 1 (lines_of bytes)))
  Ok (target_of head.0 ops)

-- bytes spell a target
abbrev pub Spells : List ℕ → Target → Type 0
Spells bytes target = target_read bytes ≡ Ok target
