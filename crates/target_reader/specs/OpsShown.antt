-- What contracts see of a reader's draft of operations, and of how it goes on.
use Rattle.std.specs.Prelude.{◌≡◌, ℕ, Bool, true, false, List, [], Option, Some, None, Result, Ok, Err}
use Rattle.oa_text.specs.Lines.{TextLine}
use Rattle.norm_lang.specs.declared.text.FieldDecl.{FieldDecl}
use Rattle.norm_lang.specs.declared.text.RootDecl.{RootDecl}
use Rattle.norm_lang.specs.declared.text.Instr.{Instr}
use Rattle.norm_lang.specs.Faults.{LineFault, too_many, ◌>>=◌, at_line}
use Rattle.norm_parser.specs.Instruction.{step_of, instr_read}
use Rattle.line_words.specs.Lines.{words_in, first_word}
use Rattle.line_words.specs.declared.fault.ParseError.{ParseError}
use Rattle.line_words.specs.Answered.{Fails}
use Rattle.target_reader.specs.declared.draft.Part.{Part as ReadPart}
use Rattle.target_reader.specs.declared.draft.Part.TheVariants as read
use Rattle.target_reader.specs.declared.draft.OpsDraft.{OpsDraft as ReadDraft}
use Rattle.target_reader.specs.TargetGrammar.{Part, Outside, Begun, Generator, WrapUp, OpsDraft, own_line}

-- where a line stands
abbrev pub part_shown : ReadPart → Part
part_shown read.Outside = Outside
part_shown read.Begun = Begun
part_shown read.Generator = Generator
part_shown read.WrapUp = WrapUp

-- what the lines so far say: between them no commit is open
abbrev pub draft_shown : ReadDraft → OpsDraft
draft_shown draft = record { part = part_shown draft.part; ops = draft.ops; op = draft.op; left = 0; entries = [] }

-- the draft after a line that was read, or none if the line must be an instruction of the language
abbrev pub read_or_plain : Bool → OpsDraft → Option OpsDraft
read_or_plain true draft = Some draft
read_or_plain false draft = None

-- what a line's words say that is skipped or isn't an instruction of the language
abbrev pub words_own : OpsDraft → Option (List ℕ × List (List ℕ)) → Result (Option OpsDraft) ℕ
words_own draft None = Ok (Some draft)
words_own draft (Some word) = own_line draft.part draft word.0 word.1

-- the same of a line
abbrev pub line_own : OpsDraft → TextLine → Result (Option OpsDraft) ℕ
line_own draft line = words_in line >>= λ words. words_own draft (first_word words)

-- whatever is read
abbrev pub settled : Instr × List TextLine → Result (Unit {0}) LineFault
settled read = Ok tt

-- an instruction's line as it is read with no line after it
abbrev pub alone : List (List ℕ) → List FieldDecl → List RootDecl → TextLine → Result (Unit {0}) LineFault
alone kinds fields roots line = instr_read kinds fields roots line [] >>= settled

-- a line that must be an instruction of the language, if its method is full: its own fault comes before the limit's
abbrev pub too_many_at : List (List ℕ) → List FieldDecl → List RootDecl → TextLine → Result (Unit {0}) LineFault
too_many_at kinds fields roots line = at_line line.number (step_of kinds fields roots line >>= λ step. Err too_many)

-- what is left gives what the whole gives, or the whole has this fault, unless memory ran out
abbrev pub GoesOn : {X Y : Type 0} → Result Y LineFault → Result Y LineFault → Result X ParseError → Type 0
GoesOn whole left (Ok x) = whole ≡ left
GoesOn whole left (Err error) = Fails error whole
