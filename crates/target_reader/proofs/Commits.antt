-- A commit and its entry lines: what the draft does line by line is what the reading of the instruction does at once.
use Rattle.std.specs.Prelude.{◌≡◌, ℕ, zero, suc, ◌==◌, false, List, [], ◌∷◌, ◌++◌, Option, Some, None, Result, Ok, Err}
use Rattle.std.proofs.Common.{refl, ap, arith}
use Rattle.std.proofs.lemmas.Bool.Decides.{nat_tests}
use Rattle.oa_text.specs.Lines.{TextLine}
use Rattle.norm_lang.specs.declared.text.FieldDecl.{FieldDecl}
use Rattle.norm_lang.specs.declared.text.RootDecl.{RootDecl}
use Rattle.norm_lang.specs.declared.text.CasEntry.{CasEntry}
use Rattle.target_code.specs.declared.target.TargetOp.{TargetOp}
use Rattle.norm_lang.specs.Faults.{LineFault, ◌>>=◌, at_line}
use Rattle.norm_lang.specs.Instructions.{entry_line}
use Rattle.line_words.specs.Lines.{words_in, first_word}
use Rattle.norm_parser.specs.Instruction.{entry_in, entry_of, entry_or, next_entry, entries_from}
use Rattle.target_reader.specs.TargetGrammar.{OpsDraft, with_target_entries, after_target_words, after_target_line, ops_read}

-- with the entries a draft waits in the same way, whatever it waited for before
waits : (left a : ℕ) (draft : OpsDraft) (b entries : List CasEntry) → with_target_entries left (record draft { left = a; entries = b }) entries ≡ with_target_entries left draft entries
waits zero a draft b entries = refl
waits (suc left) a draft b entries = refl

-- the draft after an entry's line, by the entry that it says
abbrev entered : ℕ → OpsDraft → List CasEntry → Option CasEntry → Result OpsDraft ℕ
entered left draft entries None = Ok (with_target_entries (suc left) draft entries)
entered left draft entries (Some entry) = Ok (with_target_entries left draft (entries ++ entry ∷ []))

said : (left : ℕ) (draft : OpsDraft) (entries : List CasEntry) (r : Result CasEntry ℕ)
    → (r >>= λ entry. Ok (with_target_entries left (record draft { left = suc left; entries = entries }) (entries ++ entry ∷ [])))
    ≡ ((r >>= λ entry. Ok (Some entry)) >>= entered left draft entries)
said left draft entries (Ok entry) = ap Ok (waits left (suc left) draft entries (entries ++ entry ∷ []))
said left draft entries (Err fault) = refl

by_words : (kinds : List (List ℕ)) (fields : List FieldDecl) (roots : List RootDecl) (left : ℕ) (draft : OpsDraft) (entries : List CasEntry) (first : Option (List ℕ × List (List ℕ)))
    → after_target_words kinds fields roots (with_target_entries (suc left) draft entries) first ≡ (entry_in fields roots first >>= entered left draft entries)
by_words kinds fields roots left draft entries None = refl
by_words kinds fields roots left draft entries (Some word) = said left draft entries (entry_line fields roots word.0 word.1)

by_line : (kinds : List (List ℕ)) (fields : List FieldDecl) (roots : List RootDecl) (left : ℕ) (draft : OpsDraft) (entries : List CasEntry) (r : Result (List (List ℕ)) ℕ)
    → (r >>= λ words. after_target_words kinds fields roots (with_target_entries (suc left) draft entries) (first_word words))
    ≡ ((r >>= λ words. entry_in fields roots (first_word words)) >>= entered left draft entries)
by_line kinds fields roots left draft entries (Ok words) = by_words kinds fields roots left draft entries (first_word words)
by_line kinds fields roots left draft entries (Err fault) = refl

-- the operations after a commit whose entries are read
abbrev pub behind_entries : List (List ℕ) → List FieldDecl → List RootDecl → ℕ → OpsDraft → List CasEntry × List TextLine → Result (List TargetOp) LineFault
behind_entries kinds fields roots past draft read = ops_read kinds fields roots past (with_target_entries 0 draft read.0) read.1

more : (kinds : List (List ℕ)) (fields : List FieldDecl) (roots : List RootDecl) (past left : ℕ) (draft : OpsDraft) (entries : List CasEntry) (line : TextLine) (lines : List TextLine) (r : Result (Option CasEntry) ℕ)
    → after_target_line kinds fields roots (with_target_entries (suc left) draft entries) line ≡ (r >>= entered left draft entries)
    → ops_read kinds fields roots past (with_target_entries (suc left) draft entries) lines ≡ (entries_from fields roots past (suc left) entries lines >>= behind_entries kinds fields roots past draft)
    → ((entry : CasEntry) → ops_read kinds fields roots past (with_target_entries left draft (entries ++ entry ∷ [])) lines
    ≡ (entries_from fields roots past left (entries ++ entry ∷ []) lines >>= behind_entries kinds fields roots past draft))
    → ops_read kinds fields roots past (with_target_entries (suc left) draft entries) (line ∷ lines)
    ≡ (((at_line line.number r >>= λ entry. entry_or entry lines (next_entry fields roots past lines)) >>= λ entry. entries_from fields roots past left (entries ++ entry.0 ∷ []) entry.1)
    >>= behind_entries kinds fields roots past draft)
more kinds fields roots past left draft entries line lines (Err fault) step none some = rw step refl
more kinds fields roots past left draft entries line lines (Ok None) step none some = rw step none
more kinds fields roots past left draft entries line lines (Ok (Some entry)) step none some = rw step (some entry)

-- while entry lines must follow, the lines that follow give the entries, and then the commit
pub entries_give : (kinds : List (List ℕ)) (fields : List FieldDecl) (roots : List RootDecl) (past left : ℕ) (draft : OpsDraft) (entries : List CasEntry) (lines : List TextLine)
    → ops_read kinds fields roots past (with_target_entries left draft entries) lines ≡ (entries_from fields roots past left entries lines >>= behind_entries kinds fields roots past draft)
entries_give kinds fields roots past zero draft entries lines = refl
entries_give kinds fields roots past (suc left) draft entries [] = let some : (suc left == 0) ≡ false = grind (arith, nat_tests) in rw some refl
entries_give kinds fields roots past (suc left) draft entries (line ∷ lines) =
    more kinds fields roots past left draft entries line lines (entry_of fields roots line)
    (by_line kinds fields roots left draft entries (words_in line))
    (entries_give kinds fields roots past (suc left) draft entries lines)
    (λ entry. entries_give kinds fields roots past left draft (entries ++ entry ∷ []) lines)
