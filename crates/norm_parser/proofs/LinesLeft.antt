-- Lines taken one by one: those that are left keep their numbers.
use Rattle.std.proofs.Common.{◌≡◌, ℕ, suc, ◌+◌, ◌-◌, ◌<◌, ◌≤◌, List, [], ◌∷◌, ◌++◌, map, None, Result, Ok, Err, refl, sym, ap, ◌∙◌, append_assoc, arith}
use Rattle.oa_text.specs.Lines.{TextLine, numbered}
use Rattle.norm_lang.specs.declared.text.FieldDecl.{FieldDecl}
use Rattle.norm_lang.specs.declared.text.RootDecl.{RootDecl}
use Rattle.norm_lang.specs.declared.text.CasEntry.{CasEntry}
use Rattle.norm_lang.specs.Faults.{LineFault, ◌>>=◌}
use Rattle.norm_parser.specs.Instruction.{AreFrom, AreLeftOf, entry_of, next_entry, entries_from}

-- the first of the lines, or this one
abbrev first_or : TextLine → List TextLine → TextLine
first_or line [] = line
first_or line (first ∷ lines) = first

-- the lines after the first
abbrev after_first : List TextLine → List TextLine
after_first [] = []
after_first (first ∷ lines) = lines

pub number_is : (n : ℕ) (line : TextLine) (lines whole : List TextLine) → whole ≡ line ∷ lines → AreFrom n whole → line.number ≡ n
number_is n line lines whole is from =
    let same : line ∷ lines ≡ numbered n (map (λ l. l.bytes) (line ∷ lines)) = sym is ∙ from ∙ ap (λ ls. numbered n (map (λ l. l.bytes) ls)) is in
    ap (λ ls. (first_or line ls).number) same

numbered_bytes : (n : ℕ) (lines : List (List ℕ)) → map (λ (line : TextLine). line.bytes) (numbered n lines) ≡ lines
numbered_bytes n [] = refl
numbered_bytes n (line ∷ lines) = ap (λ ls. line ∷ ls) (numbered_bytes (n + 1) lines)

pub numbered_from : (n : ℕ) (lines : List (List ℕ)) → AreFrom n (numbered n lines)
numbered_from n lines = ap (numbered n) (sym (numbered_bytes n lines))

-- the lines of an input are numbered from 1
pub first_from : (lines : List (List ℕ)) (all : List TextLine) → all ≡ numbered 1 lines → AreFrom 1 all
first_from lines all same = rw same (numbered_from 1 lines)

pub from_next : (n m : ℕ) (line : TextLine) (lines whole : List TextLine) → m ≡ n + 1 → whole ≡ line ∷ lines → AreFrom n whole → AreFrom m lines
from_next n m line lines whole next is from =
    let same : line ∷ lines ≡ numbered n (map (λ l. l.bytes) (line ∷ lines)) = sym is ∙ from ∙ ap (λ ls. numbered n (map (λ l. l.bytes) ls)) is in
    rw next (ap after_first same)

pub left_all : (whole : List TextLine) → AreLeftOf whole whole
left_all whole = record { front = []; same = refl }

pub left_more : (whole lines left : List TextLine) → AreLeftOf whole lines → AreLeftOf lines left → AreLeftOf whole left
left_more whole lines left a b = record { front = a.front ++ b.front; same = append_assoc a.front b.front left ∙ ap (λ ls. a.front ++ ls) b.same ∙ a.same }

pub left_next : (whole lines left : List TextLine) (line : TextLine) → AreLeftOf whole lines → lines ≡ line ∷ left → AreLeftOf whole left
left_next whole lines left line a is = left_more whole lines left a record { front = line ∷ []; same = sym is }

-- a line that is skipped is passed over
pub entry_passed : (fields : List FieldDecl) (roots : List RootDecl) (past : ℕ) (line : TextLine) (left lines : List TextLine)
    (whole : Result (CasEntry × List TextLine) LineFault) → lines ≡ line ∷ left → entry_of fields roots line ≡ Ok None
    → next_entry fields roots past lines ≡ whole → next_entry fields roots past left ≡ whole
entry_passed fields roots past line left lines whole is skipped so_far =
    sym (ap (next_entry fields roots past) is ∙ rw skipped refl) ∙ so_far

entries_turn : (fields : List FieldDecl) (roots : List RootDecl) (past n i : ℕ) (entries : List CasEntry) (lines : List TextLine) → i < n
    → entries_from fields roots past (n - i) entries lines ≡ (next_entry fields roots past lines >>= λ entry. entries_from fields roots past (n - (i + 1)) (entries ++ entry.0 ∷ []) entry.1)
entries_turn fields roots past n i entries lines lt = let k : n - i ≡ suc (n - (i + 1)) = omega arith in rw k refl

pub entries_more : (fields : List FieldDecl) (roots : List RootDecl) (past n i : ℕ) (entries : List CasEntry) (lines left : List TextLine) (entry : CasEntry)
    (whole : Result (List CasEntry × List TextLine) LineFault) → i < n → next_entry fields roots past lines ≡ Ok (entry, left)
    → entries_from fields roots past (n - i) entries lines ≡ whole → entries_from fields roots past (n - (i + 1)) (entries ++ entry ∷ []) left ≡ whole
entries_more fields roots past n i entries lines left entry whole lt read so_far =
    sym (entries_turn fields roots past n i entries lines lt ∙ rw read refl) ∙ so_far

pub entries_stopped : (fields : List FieldDecl) (roots : List RootDecl) (past n i : ℕ) (entries : List CasEntry) (lines : List TextLine) (fault : LineFault)
    (whole : Result (List CasEntry × List TextLine) LineFault) → i < n → next_entry fields roots past lines ≡ Err fault
    → entries_from fields roots past (n - i) entries lines ≡ whole → whole ≡ Err fault
entries_stopped fields roots past n i entries lines fault whole lt read so_far = sym so_far ∙ entries_turn fields roots past n i entries lines lt ∙ rw read refl

pub entries_done : (fields : List FieldDecl) (roots : List RootDecl) (past n i : ℕ) (entries : List CasEntry) (lines : List TextLine)
    (whole : Result (List CasEntry × List TextLine) LineFault) → n ≤ i → entries_from fields roots past (n - i) entries lines ≡ whole → whole ≡ Ok (entries, lines)
entries_done fields roots past n i entries lines whole le so_far = let k : n - i ≡ 0 = omega arith in sym so_far ∙ rw k refl
