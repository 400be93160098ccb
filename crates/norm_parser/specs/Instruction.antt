-- One instruction in the second version: its own line, and for a commit its entry lines among the lines after it. Lines that
-- are skipped are passed over, and their bytes are judged.
use Rattle.std.specs.Prelude.{◌≡◌, ℕ, zero, suc, ◌+◌, ◌≤◌, Bool, true, List, [], ◌∷◌, ◌++◌, length, map, Option, Some, None, Result, Ok, Err}
use Rattle.oa_text.specs.Lines.{TextLine, numbered}
use Rattle.norm_lang.specs.declared.text.FieldDecl.{FieldDecl}
use Rattle.norm_lang.specs.declared.text.RootDecl.{RootDecl}
use Rattle.norm_lang.specs.declared.text.CasEntry.{CasEntry}
use Rattle.norm_lang.specs.declared.text.Instr.{Instr}
use Rattle.norm_lang.specs.declared.text.Instr.TheVariants as instr
use Rattle.norm_lang.specs.declared.text.Version.TheVariants.{Second}
use Rattle.norm_lang.specs.Faults.{LineFault, form_fault, ◌>>=◌, at_line}
use Rattle.norm_lang.specs.LineWords.{word_at}
use Rattle.norm_lang.specs.Grammar.{is_comment}
use Rattle.norm_lang.specs.Instructions.{Step, Whole, Commits, step_line, entry_line}
use Rattle.line_words.specs.Lines.{words_in, first_word}
use Rattle.line_words.specs.declared.fault.ParseError.{ParseError}
use Rattle.line_words.specs.declared.fault.ParseError.TheVariants as errors
use Rattle.norm_parser.specs.FrontRead.{from_line}

-- words of a line that is skipped: there is none, or the first begins with `#`
abbrev pub are_skipped : List (List ℕ) → Bool
are_skipped [] = true
are_skipped (word ∷ rest) = is_comment word

-- lines with their numbers in order, from this one on
abbrev pub AreFrom : ℕ → List TextLine → Type 0
AreFrom n lines = lines ≡ numbered n (map (λ line. line.bytes) lines)

-- lines that are left of others: some stood before them
pub record AreLeftOf (whole left : List TextLine) : Type 0 where
  pub front : List TextLine
  pub same : front ++ left ≡ whole

-- the lines that are left after a fault are those after its line: none if the input ended too early. If memory runs
-- out, no line was taken
abbrev pub AreLeftAt : ParseError → List TextLine → List TextLine → Type 0
AreLeftAt errors.Memory whole left = left ≡ whole
AreLeftAt (errors.Fault fault) whole left = left ≡ from_line (fault.line + 1) whole

-- the lines after a fault's line are left, of lines up to the one before `past`; memory doesn't run out
abbrev pub AreAfter : ℕ → ParseError → List TextLine → Type 0
AreAfter past errors.Memory left = ⊥
AreAfter past (errors.Fault fault) left = AreFrom (fault.line + 1) left × (past ≤ fault.line + 1 + length left)

-- what the words of an instruction's own line say, or their first fault
abbrev pub step_in : List (List ℕ) → List FieldDecl → List RootDecl → List (List ℕ) → Result Step ℕ
step_in kinds fields roots words = word_at words >>= λ word. step_line Second kinds fields roots word.0 word.1

-- what an instruction's own line says, or its first fault
abbrev pub step_of : List (List ℕ) → List FieldDecl → List RootDecl → TextLine → Result Step ℕ
step_of kinds fields roots line = words_in line >>= λ words. step_in kinds fields roots words

-- the entry that a line's words say: none if the line is skipped
abbrev pub entry_in : List FieldDecl → List RootDecl → Option (List ℕ × List (List ℕ)) → Result (Option CasEntry) ℕ
entry_in fields roots None = Ok None
entry_in fields roots (Some word) = entry_line fields roots word.0 word.1 >>= λ entry. Ok (Some entry)

-- the entry that a line says, or its first fault
abbrev pub entry_of : List FieldDecl → List RootDecl → TextLine → Result (Option CasEntry) ℕ
entry_of fields roots line = words_in line >>= λ words. entry_in fields roots (first_word words)

-- the entry of a line and the lines after it, or else what the lines after say
abbrev pub entry_or : Option CasEntry → List TextLine → Result (CasEntry × List TextLine) LineFault → Result (CasEntry × List TextLine) LineFault
entry_or None lines next = next
entry_or (Some entry) lines next = Ok (entry, lines)

-- the next entry, and the lines after it: if there is none, a further line must follow. `past` is one more than the
-- number of lines
abbrev pub next_entry : List FieldDecl → List RootDecl → ℕ → List TextLine → Result (CasEntry × List TextLine) LineFault
next_entry fields roots past [] = Err (record { line = past; number = form_fault })
next_entry fields roots past (line ∷ lines) = do
  entry ← at_line line.number (entry_of fields roots line)
  entry_or entry lines (next_entry fields roots past lines)

-- so many entries after those so far, and the lines after them
abbrev pub entries_from : List FieldDecl → List RootDecl → ℕ → ℕ → List CasEntry → List TextLine → Result (List CasEntry × List TextLine) LineFault
entries_from fields roots past zero entries lines = Ok (entries, lines)
entries_from fields roots past (suc left) entries lines = do
  entry ← next_entry fields roots past lines
  entries_from fields roots past left (entries ++ entry.0 ∷ []) entry.1

-- the whole instruction, and the lines after it
abbrev pub completed : List FieldDecl → List RootDecl → ℕ → Step → List TextLine → Result (Instr × List TextLine) LineFault
completed fields roots past (Whole i) lines = Ok (i, lines)
completed fields roots past (Commits count) lines = do
  entries ← entries_from fields roots past count [] lines
  Ok (instr.Commit entries.0, entries.1)

-- the instruction that begins with a line, and those of the lines after it that it doesn't take: or the first line that
-- has a fault, with its first fault
abbrev pub instr_read : List (List ℕ) → List FieldDecl → List RootDecl → TextLine → List TextLine → Result (Instr × List TextLine) LineFault
instr_read kinds fields roots line lines = do
  step ← at_line line.number (step_of kinds fields roots line)
  completed fields roots (line.number + 1 + length lines) step lines
