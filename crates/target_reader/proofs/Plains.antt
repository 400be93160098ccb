-- An instruction of the language among a target's operations: what the draft does with its lines is what its reading gives.
use Rattle.std.specs.Prelude.{◌≡◌, ℕ, zero, suc, ◌+◌, Bool, true, false, ◌&&◌, not, List, [], ◌∷◌, length, Option, Some, None, Result, Ok, Err, if◌then◌else◌}
use Rattle.std.proofs.Common.{refl, ap, sym, ◌∙◌, arith}
use Rattle.oa_text.specs.Lines.{TextLine}
use Rattle.oa_text.specs.Tokens.{words_of, line_fault}
use Rattle.norm_lang.specs.declared.text.FieldDecl.{FieldDecl}
use Rattle.norm_lang.specs.declared.text.RootDecl.{RootDecl}
use Rattle.norm_lang.specs.declared.text.CasEntry.{CasEntry}
use Rattle.norm_lang.specs.declared.text.Instr.{Instr}
use Rattle.norm_lang.specs.declared.text.Instr.TheVariants as instr
use Rattle.norm_lang.specs.declared.text.Version.TheVariants.{Second}
use Rattle.norm_lang.specs.Faults.{LineFault, too_many, ◌>>=◌, demand, at_line}
use Rattle.norm_lang.specs.LineWords.{word_at}
use Rattle.norm_lang.specs.Instructions.{Step, Whole, Commits, step_line}
use Rattle.norm_lang.specs.Grammar.{is_comment, plain}
use Rattle.line_words.specs.declared.fault.ParseError.{ParseError}
use Rattle.line_words.specs.declared.fault.ParseError.TheVariants as errors
use Rattle.line_words.specs.Answered.{Fails}
use Rattle.line_words.specs.Lines.{words_in, first_word}
use Rattle.norm_parser.specs.Instruction.{are_skipped, step_of, entries_from, completed, instr_read}
use Rattle.target_code.specs.declared.target.TargetInstr.TheVariants.{Plain}
use Rattle.target_code.specs.declared.target.TargetOp.{TargetOp}
use Rattle.target_reader.specs.TargetGrammar.{Part, OpsDraft, with_one_more, has_place, is_fifth_target_new, with_target_step, own_line, or_plain, after_target_words, after_target_line, after_target_lines, finished_ops, ops_read}
use Rattle.target_reader.specs.OpsShown.{words_own, line_own, settled, alone, too_many_at}
use Rattle.target_reader.proofs.Commits.{behind_entries, entries_give}

-- a draft of which no entry line is left
abbrev rested : Part → List TargetOp → TargetOp → OpsDraft
rested part ops op = record { part = part; ops = ops; op = op; left = 0; entries = [] }

-- one more step of a method, if there is room for it
abbrev roomed : OpsDraft → Step → Result OpsDraft ℕ
roomed draft step = demand too_many (has_place draft && not (is_fifth_target_new draft step)) >>= λ room. Ok (with_target_step draft step)

abbrev nothing : Result (Option OpsDraft) ℕ
nothing = Ok None

abbrev adds : OpsDraft → Result (Option OpsDraft) ℕ
adds draft = Ok (Some draft)

-- a line says nothing of its own: its words are read as a step
own_of_word : (kinds : List (List ℕ)) (fields : List FieldDecl) (roots : List RootDecl) (draft : OpsDraft) (word : List ℕ) (rest : List (List ℕ)) (own : Result (Option OpsDraft) ℕ) → own ≡ nothing
    → (own >>= or_plain kinds fields roots draft word rest) ≡ (step_line Second kinds fields roots word rest >>= roomed draft)
own_of_word kinds fields roots draft word rest own none = rw none refl

own_of_first : (kinds : List (List ℕ)) (fields : List FieldDecl) (roots : List RootDecl) (part : Part) (ops : List TargetOp) (op : TargetOp) (word : List ℕ) (rest : List (List ℕ)) (skipped : Bool)
    → words_own (rested part ops op) (if skipped then None else Some (word, rest)) ≡ nothing
    → after_target_words kinds fields roots (rested part ops op) (if skipped then None else Some (word, rest)) ≡ (step_line Second kinds fields roots word rest >>= roomed (rested part ops op))
own_of_first kinds fields roots part ops op word rest true none = let e : adds (rested part ops op) ≡ nothing = none in absurd (let f : ⊥ = cc in f)
own_of_first kinds fields roots part ops op word rest false none = own_of_word kinds fields roots (rested part ops op) word rest (own_line part (rested part ops op) word rest) none

own_of_words : (kinds : List (List ℕ)) (fields : List FieldDecl) (roots : List RootDecl) (part : Part) (ops : List TargetOp) (op : TargetOp) (words : List (List ℕ))
    → words_own (rested part ops op) (first_word words) ≡ nothing
    → after_target_words kinds fields roots (rested part ops op) (first_word words)
    ≡ ((word_at words >>= λ word. step_line Second kinds fields roots word.0 word.1) >>= roomed (rested part ops op))
own_of_words kinds fields roots part ops op [] none = let e : adds (rested part ops op) ≡ nothing = none in absurd (let f : ⊥ = cc in f)
own_of_words kinds fields roots part ops op (word ∷ rest) none = own_of_first kinds fields roots part ops op word rest (is_comment word) none

own_of_line : (kinds : List (List ℕ)) (fields : List FieldDecl) (roots : List RootDecl) (part : Part) (ops : List TargetOp) (op : TargetOp) (r : Result (List (List ℕ)) ℕ)
    → (r >>= λ words. words_own (rested part ops op) (first_word words)) ≡ nothing
    → (r >>= λ words. after_target_words kinds fields roots (rested part ops op) (first_word words))
    ≡ ((r >>= λ words. word_at words >>= λ word. step_line Second kinds fields roots word.0 word.1) >>= roomed (rested part ops op))
own_of_line kinds fields roots part ops op (Ok words) none = own_of_words kinds fields roots part ops op words none
own_of_line kinds fields roots part ops op (Err fault) none = let e : Err fault ≡ nothing = none in absurd (let f : ⊥ = cc in f)

-- the draft after a line that must be an instruction of the language
step_roomed : (kinds : List (List ℕ)) (fields : List FieldDecl) (roots : List RootDecl) (part : Part) (ops : List TargetOp) (op : TargetOp) (line : TextLine) → line_own (rested part ops op) line ≡ nothing
    → after_target_line kinds fields roots (rested part ops op) line ≡ (step_of kinds fields roots line >>= roomed (rested part ops op))
step_roomed kinds fields roots part ops op line none = own_of_line kinds fields roots part ops op (words_in line) none

-- an instruction that is read, if it isn't a fifth `new`
abbrev counted : OpsDraft → ℕ → Instr → Result OpsDraft LineFault
counted draft number i = at_line number (demand too_many (not (is_fifth_target_new draft (Whole i))) >>= λ room. Ok (with_one_more draft (Plain i)))

-- the operations after an instruction that is read
abbrev behind_instr : List (List ℕ) → List FieldDecl → List RootDecl → ℕ → OpsDraft → ℕ → Instr × List TextLine → Result (List TargetOp) LineFault
behind_instr kinds fields roots past draft number read = counted draft number read.0 >>= λ next. ops_read kinds fields roots past next read.1

opened : (kinds : List (List ℕ)) (fields : List FieldDecl) (roots : List RootDecl) (past number : ℕ) (part : Part) (ops : List TargetOp) (op : TargetOp) (r : Result (List CasEntry × List TextLine) LineFault)
    → (r >>= behind_entries kinds fields roots past (rested part ops op))
    ≡ ((r >>= λ entries. Ok (instr.Commit entries.0, entries.1)) >>= behind_instr kinds fields roots past (rested part ops op) number)
opened kinds fields roots past number part ops op (Ok read) = refl
opened kinds fields roots past number part ops op (Err fault) = refl

whole : (kinds : List (List ℕ)) (fields : List FieldDecl) (roots : List RootDecl) (past number : ℕ) (next : OpsDraft) (lines : List TextLine) (room : Bool)
    → ((at_line number (demand too_many room >>= λ done. Ok next) >>= λ after. after_target_lines kinds fields roots after lines) >>= λ last. at_line past (finished_ops last))
    ≡ (at_line number (demand too_many room >>= λ done. Ok next) >>= λ after. ops_read kinds fields roots past after lines)
whole kinds fields roots past number next lines true = refl
whole kinds fields roots past number next lines false = refl

by_step : (kinds : List (List ℕ)) (fields : List FieldDecl) (roots : List RootDecl) (past : ℕ) (part : Part) (ops : List TargetOp) (op : TargetOp) (line : TextLine) (lines : List TextLine) (r : Result Step ℕ)
    → has_place (rested part ops op) ≡ true → after_target_line kinds fields roots (rested part ops op) line ≡ (r >>= roomed (rested part ops op))
    → ops_read kinds fields roots past (rested part ops op) (line ∷ lines)
    ≡ ((at_line line.number r >>= λ step. completed fields roots past step lines) >>= behind_instr kinds fields roots past (rested part ops op) line.number)
by_step kinds fields roots past part ops op line lines (Err fault) room read = rw read refl
by_step kinds fields roots past part ops op line lines (Ok (Whole i)) room read =
    rw (read, room) (whole kinds fields roots past line.number (with_one_more (rested part ops op) (Plain i)) lines (not (is_fifth_target_new (rested part ops op) (Whole i))))
by_step kinds fields roots past part ops op line lines (Ok (Commits count)) room read =
    rw (read, room) (entries_give kinds fields roots past count (rested part ops op) [] lines ∙ opened kinds fields roots past line.number part ops op (entries_from fields roots past count [] lines))

-- if the method isn't full, the operations are those after the instruction
plain_gives : (kinds : List (List ℕ)) (fields : List FieldDecl) (roots : List RootDecl) (past : ℕ) (part : Part) (ops : List TargetOp) (op : TargetOp) (line : TextLine) (lines : List TextLine)
    → line_own (rested part ops op) line ≡ nothing → has_place (rested part ops op) ≡ true → line.number + 1 + length lines ≡ past
    → ops_read kinds fields roots past (rested part ops op) (line ∷ lines) ≡ (instr_read kinds fields roots line lines >>= behind_instr kinds fields roots past (rested part ops op) line.number)
plain_gives kinds fields roots past part ops op line lines own room last =
    rw last (by_step kinds fields roots past part ops op line lines (step_of kinds fields roots line) room (step_roomed kinds fields roots part ops op line own))

pub plain_faulty : (kinds : List (List ℕ)) (fields : List FieldDecl) (roots : List RootDecl) (past : ℕ) (draft : OpsDraft) (line : TextLine) (lines : List TextLine) (fault : LineFault)
    → draft ≡ rested draft.part draft.ops draft.op → line_own draft line ≡ Ok None → has_place draft ≡ true → line.number + 1 + length lines ≡ past
    → instr_read kinds fields roots line lines ≡ Err fault → ops_read kinds fields roots past draft (line ∷ lines) ≡ Err fault
plain_faulty kinds fields roots past draft line lines fault rest own room last read =
    ap (λ d. ops_read kinds fields roots past d (line ∷ lines)) rest
    ∙ plain_gives kinds fields roots past draft.part draft.ops draft.op line lines (ap (λ d. line_own d line) (sym rest) ∙ own) (ap has_place (sym rest) ∙ room) last
    ∙ rw read refl

pub plain_added : (kinds : List (List ℕ)) (fields : List FieldDecl) (roots : List RootDecl) (past : ℕ) (draft next : OpsDraft) (line : TextLine) (lines left : List TextLine) (i : Instr)
    → draft ≡ rested draft.part draft.ops draft.op → line_own draft line ≡ Ok None → has_place draft ≡ true → line.number + 1 + length lines ≡ past
    → instr_read kinds fields roots line lines ≡ Ok (i, left) → is_fifth_target_new draft (Whole i) ≡ false → next ≡ with_one_more draft (Plain i)
    → ops_read kinds fields roots past draft (line ∷ lines) ≡ ops_read kinds fields roots past next left
plain_added kinds fields roots past draft next line lines left i rest own room last read few added =
    ap (λ d. ops_read kinds fields roots past d (line ∷ lines)) rest
    ∙ plain_gives kinds fields roots past draft.part draft.ops draft.op line lines (ap (λ d. line_own d line) (sym rest) ∙ own) (ap has_place (sym rest) ∙ room) last
    ∙ ap (λ d. instr_read kinds fields roots line lines >>= behind_instr kinds fields roots past d line.number) (sym rest)
    ∙ rw (read, few, added) refl

pub plain_fifth : (kinds : List (List ℕ)) (fields : List FieldDecl) (roots : List RootDecl) (past : ℕ) (draft : OpsDraft) (line : TextLine) (lines left : List TextLine) (i : Instr)
    → draft ≡ rested draft.part draft.ops draft.op → line_own draft line ≡ Ok None → has_place draft ≡ true → line.number + 1 + length lines ≡ past
    → instr_read kinds fields roots line lines ≡ Ok (i, left) → is_fifth_target_new draft (Whole i) ≡ true
    → ops_read kinds fields roots past draft (line ∷ lines) ≡ Err (record { line = line.number; number = too_many })
plain_fifth kinds fields roots past draft line lines left i rest own room last read fifth =
    ap (λ d. ops_read kinds fields roots past d (line ∷ lines)) rest
    ∙ plain_gives kinds fields roots past draft.part draft.ops draft.op line lines (ap (λ d. line_own d line) (sym rest) ∙ own) (ap has_place (sym rest) ∙ room) last
    ∙ ap (λ d. instr_read kinds fields roots line lines >>= behind_instr kinds fields roots past d line.number) (sym rest)
    ∙ rw (read, fifth) refl

abbrev refused : Result (Unit {0}) ℕ
refused = Err too_many

-- the fault of a line's reading, as that of others
abbrev failed : Result (Unit {0}) LineFault → Result (List TargetOp) LineFault
failed (Ok done) = Ok []
failed (Err fault) = Err fault

-- the line of a fault
abbrev line_of : Result (Unit {0}) LineFault → ℕ
line_of (Ok done) = 0
line_of (Err fault) = fault.line

-- the same by the step that the line is
full_step : (kinds : List (List ℕ)) (fields : List FieldDecl) (roots : List RootDecl) (past : ℕ) (draft : OpsDraft) (line : TextLine) (lines : List TextLine) (fault : LineFault) (r : Result Step ℕ)
    → has_place draft ≡ false → after_target_line kinds fields roots draft line ≡ (r >>= roomed draft) → at_line line.number (r >>= λ step. refused) ≡ Err fault
    → ops_read kinds fields roots past draft (line ∷ lines) ≡ Err fault
full_step kinds fields roots past draft line lines fault (Err number) full read at = rw read (ap failed at)
full_step kinds fields roots past draft line lines fault (Ok step) full read at = rw (read, full) (ap failed at)

-- if the method is full, the line is one too many, unless it has a fault of its own
pub full_faulty : (kinds : List (List ℕ)) (fields : List FieldDecl) (roots : List RootDecl) (past : ℕ) (draft : OpsDraft) (line : TextLine) (lines : List TextLine) (fault : LineFault)
    → draft ≡ rested draft.part draft.ops draft.op → line_own draft line ≡ Ok None → has_place draft ≡ false → too_many_at kinds fields roots line ≡ Err fault
    → ops_read kinds fields roots past draft (line ∷ lines) ≡ Err fault
full_faulty kinds fields roots past draft line lines fault rest own full at =
    ap (λ d. ops_read kinds fields roots past d (line ∷ lines)) rest
    ∙ full_step kinds fields roots past (rested draft.part draft.ops draft.op) line lines fault (step_of kinds fields roots line) (ap has_place (sym rest) ∙ full)
    (step_roomed kinds fields roots draft.part draft.ops draft.op line (ap (λ d. line_own d line) (sym rest) ∙ own)) at

pub full_fails : (kinds : List (List ℕ)) (fields : List FieldDecl) (roots : List RootDecl) (past : ℕ) (draft : OpsDraft) (line : TextLine) (lines : List TextLine) (error : ParseError)
    → draft ≡ rested draft.part draft.ops draft.op → line_own draft line ≡ Ok None → has_place draft ≡ false → Fails error (too_many_at kinds fields roots line)
    → Fails error (ops_read kinds fields roots past draft (line ∷ lines))
full_fails kinds fields roots past draft line lines errors.Memory rest own full at = tt
full_fails kinds fields roots past draft line lines (errors.Fault fault) rest own full at =
    full_faulty kinds fields roots past draft line lines (record { line = fault.line; number = fault.number }) rest own full at

pub plain_fails : (kinds : List (List ℕ)) (fields : List FieldDecl) (roots : List RootDecl) (past : ℕ) (draft : OpsDraft) (line : TextLine) (lines : List TextLine) (error : ParseError)
    → draft ≡ rested draft.part draft.ops draft.op → line_own draft line ≡ Ok None → has_place draft ≡ true → line.number + 1 + length lines ≡ past
    → Fails error (instr_read kinds fields roots line lines) → Fails error (ops_read kinds fields roots past draft (line ∷ lines))
plain_fails kinds fields roots past draft line lines errors.Memory rest own room last read = tt
plain_fails kinds fields roots past draft line lines (errors.Fault fault) rest own room last read =
    plain_faulty kinds fields roots past draft line lines (record { line = fault.line; number = fault.number }) rest own room last read

abbrev settled_so : Result (Unit {0}) LineFault
settled_so = Ok tt

-- what is read of the line alone tells its own fault from that of a commit's missing entries
alone_ok : (fields : List FieldDecl) (roots : List RootDecl) (line : TextLine) (r : Result Step ℕ)
    → ((at_line line.number r >>= λ step. completed fields roots (line.number + 1 + 0) step []) >>= settled) ≡ settled_so
    → at_line line.number (r >>= λ step. refused) ≡ Err (record { line = line.number; number = too_many })
alone_ok fields roots line (Ok step) is = refl
alone_ok fields roots line (Err fault) is = absurd (let f : ⊥ = cc in f)

alone_own : (fields : List FieldDecl) (roots : List RootDecl) (line : TextLine) (fault : LineFault) (r : Result Step ℕ)
    → ((at_line line.number r >>= λ step. completed fields roots (line.number + 1 + 0) step []) >>= settled) ≡ Err fault → fault.line ≡ line.number
    → at_line line.number (r >>= λ step. refused) ≡ Err fault
alone_own fields roots line fault (Ok (Whole i)) is same = absurd (let f : ⊥ = cc in f)
alone_own fields roots line fault (Ok (Commits zero)) is same = absurd (let f : ⊥ = cc in f)
alone_own fields roots line fault (Ok (Commits (suc count))) is same =
    let e : line.number + 1 + 0 ≡ fault.line = ap line_of is in
    absurd (omega (arith, e, same))
alone_own fields roots line fault (Err number) is same = is

alone_other : (fields : List FieldDecl) (roots : List RootDecl) (line : TextLine) (fault : LineFault) (r : Result Step ℕ)
    → ((at_line line.number r >>= λ step. completed fields roots (line.number + 1 + 0) step []) >>= settled) ≡ Err fault → (fault.line ≡ line.number → ⊥)
    → at_line line.number (r >>= λ step. refused) ≡ Err (record { line = line.number; number = too_many })
alone_other fields roots line fault (Ok step) is other = refl
alone_other fields roots line fault (Err number) is other = absurd (other (sym (ap line_of is)))

pub read_alone : (kinds : List (List ℕ)) (fields : List FieldDecl) (roots : List RootDecl) (line : TextLine) → alone kinds fields roots line ≡ settled_so
    → too_many_at kinds fields roots line ≡ Err (record { line = line.number; number = too_many })
read_alone kinds fields roots line read = alone_ok fields roots line (step_of kinds fields roots line) read

pub faulty_alone : (kinds : List (List ℕ)) (fields : List FieldDecl) (roots : List RootDecl) (line : TextLine) (fault : LineFault) → alone kinds fields roots line ≡ Err fault → fault.line ≡ line.number
    → too_many_at kinds fields roots line ≡ Err fault
faulty_alone kinds fields roots line fault read same = alone_own fields roots line fault (step_of kinds fields roots line) read same

pub other_alone : (kinds : List (List ℕ)) (fields : List FieldDecl) (roots : List RootDecl) (line : TextLine) (fault : LineFault) → alone kinds fields roots line ≡ Err fault → (fault.line ≡ line.number → ⊥)
    → too_many_at kinds fields roots line ≡ Err (record { line = line.number; number = too_many })
other_alone kinds fields roots line fault read other = alone_other fields roots line fault (step_of kinds fields roots line) read other

-- a line that must be an instruction isn't skipped
stands_in : (draft : OpsDraft) (words : List (List ℕ)) → words_own draft (first_word words) ≡ nothing → are_skipped words ≡ false
stands_in draft [] none = let e : adds draft ≡ nothing = none in absurd (let f : ⊥ = cc in f)
stands_in draft (word ∷ rest) none = go (is_comment word) none
  where
    go : (skipped : Bool) → words_own draft (if skipped then None else Some (word, rest)) ≡ nothing → skipped ≡ false
    go true none = let e : adds draft ≡ nothing = none in absurd (let f : ⊥ = cc in f)
    go false none = refl

pub stands : (draft : OpsDraft) (line : TextLine) → line_own draft line ≡ Ok None → are_skipped (words_of line.bytes) ≡ false
stands draft line none = go (plain (line_fault line)) none
  where
    go : (r : Result (Unit {0}) ℕ) → ((r >>= λ done. Ok (words_of line.bytes)) >>= λ words. words_own draft (first_word words)) ≡ nothing → are_skipped (words_of line.bytes) ≡ false
    go (Ok done) none = stands_in draft (words_of line.bytes) none
    go (Err fault) none = let e : Err fault ≡ nothing = none in absurd (let f : ⊥ = cc in f)
