-- A line of a target's operations, as the reader goes over its words.
use Rattle.std.specs.Prelude.{◌≡◌, ℕ, zero, suc, List, ◌∷◌, Option, Some, None, Result, Ok, Err}
use Rattle.std.proofs.Common.{refl, arith}
use Rattle.oa_text.specs.Lines.{TextLine}
use Rattle.norm_lang.specs.declared.text.FieldDecl.{FieldDecl}
use Rattle.norm_lang.specs.declared.text.RootDecl.{RootDecl}
use Rattle.norm_lang.specs.Faults.{◌>>=◌}
use Rattle.line_words.specs.Lines.{words_in, first_word}
use Rattle.line_words.specs.declared.fault.Stop.{Stop}
use Rattle.line_words.specs.declared.fault.Stop.TheVariants as stops
use Rattle.line_words.specs.declared.fault.ParseError.{ParseError}
use Rattle.line_words.specs.Faults.{number_of_fault, stopped_at}
use Rattle.line_words.specs.Answered.{Stops, Fails}
use Rattle.target_reader.specs.TargetGrammar.{OpsDraft, own_line, in_target_place, after_target_words, after_target_line, ops_read}
use Rattle.target_reader.specs.OpsShown.{words_own, line_own}

pub line_skipped : (draft : OpsDraft) (line : TextLine) (words : List (List ℕ)) → words_in line ≡ Ok words → first_word words ≡ None → line_own draft line ≡ Ok (Some draft)
line_skipped draft line words read none = rw (read, none) refl

pub line_placed : (draft : OpsDraft) (line : TextLine) (words rest : List (List ℕ)) (word : List ℕ) → words_in line ≡ Ok words → first_word words ≡ Some (word, rest)
    → line_own draft line ≡ own_line draft.part draft word rest
line_placed draft line words rest word read some = rw (read, some) refl

pub line_faulty : (draft : OpsDraft) (line : TextLine) (fault : ℕ) → words_in line ≡ Err fault → line_own draft line ≡ Err fault
line_faulty draft line fault read = rw read refl

abbrev adds : OpsDraft → Result (Option OpsDraft) ℕ
adds draft = Ok (Some draft)

own_place : (kinds : List (List ℕ)) (fields : List FieldDecl) (roots : List RootDecl) (left : ℕ) (draft next : OpsDraft) (word : List ℕ) (rest : List (List ℕ)) → left ≡ 0 → own_line draft.part draft word rest ≡ adds next
    → in_target_place kinds fields roots left draft word rest ≡ Ok next
own_place kinds fields roots zero draft next word rest none own = rw own refl
own_place kinds fields roots (suc left) draft next word rest none own = absurd (omega (arith, none))

fault_place : (kinds : List (List ℕ)) (fields : List FieldDecl) (roots : List RootDecl) (left fault : ℕ) (draft : OpsDraft) (word : List ℕ) (rest : List (List ℕ)) → left ≡ 0 → own_line draft.part draft word rest ≡ Err fault
    → in_target_place kinds fields roots left draft word rest ≡ Err fault
fault_place kinds fields roots zero fault draft word rest none own = rw own refl
fault_place kinds fields roots (suc left) fault draft word rest none own = absurd (omega (arith, none))

own_first : (kinds : List (List ℕ)) (fields : List FieldDecl) (roots : List RootDecl) (draft next : OpsDraft) (first : Option (List ℕ × List (List ℕ))) → draft.left ≡ 0 → words_own draft first ≡ adds next
    → after_target_words kinds fields roots draft first ≡ Ok next
own_first kinds fields roots draft next None rest own = cc
own_first kinds fields roots draft next (Some word) rest own = own_place kinds fields roots draft.left draft next word.0 word.1 rest own

own_words : (kinds : List (List ℕ)) (fields : List FieldDecl) (roots : List RootDecl) (draft next : OpsDraft) (r : Result (List (List ℕ)) ℕ) → draft.left ≡ 0
    → (r >>= λ words. words_own draft (first_word words)) ≡ adds next → (r >>= λ words. after_target_words kinds fields roots draft (first_word words)) ≡ Ok next
own_words kinds fields roots draft next (Ok words) rest own = own_first kinds fields roots draft next (first_word words) rest own
own_words kinds fields roots draft next (Err fault) rest own = absurd (let f : ⊥ = cc in f)

-- a line that says something of its own
pub own_added : (kinds : List (List ℕ)) (fields : List FieldDecl) (roots : List RootDecl) (past : ℕ) (draft next : OpsDraft) (line : TextLine) (lines : List TextLine) → draft.left ≡ 0 → line_own draft line ≡ Ok (Some next)
    → ops_read kinds fields roots past draft (line ∷ lines) ≡ ops_read kinds fields roots past next lines
own_added kinds fields roots past draft next line lines rest own =
    let read : after_target_line kinds fields roots draft line ≡ Ok next = own_words kinds fields roots draft next (words_in line) rest own in
    rw read refl

fault_first : (kinds : List (List ℕ)) (fields : List FieldDecl) (roots : List RootDecl) (draft : OpsDraft) (fault : ℕ) (first : Option (List ℕ × List (List ℕ))) → draft.left ≡ 0 → words_own draft first ≡ Err fault
    → after_target_words kinds fields roots draft first ≡ Err fault
fault_first kinds fields roots draft fault None rest own = absurd (let f : ⊥ = cc in f)
fault_first kinds fields roots draft fault (Some word) rest own = fault_place kinds fields roots draft.left fault draft word.0 word.1 rest own

fault_words : (kinds : List (List ℕ)) (fields : List FieldDecl) (roots : List RootDecl) (draft : OpsDraft) (fault : ℕ) (r : Result (List (List ℕ)) ℕ) → draft.left ≡ 0
    → (r >>= λ words. words_own draft (first_word words)) ≡ Err fault → (r >>= λ words. after_target_words kinds fields roots draft (first_word words)) ≡ Err fault
fault_words kinds fields roots draft fault (Ok words) rest own = fault_first kinds fields roots draft fault (first_word words) rest own
fault_words kinds fields roots draft fault (Err other) rest own = cc

-- and one that is faulty before it is read as an instruction
pub own_faulty : (kinds : List (List ℕ)) (fields : List FieldDecl) (roots : List RootDecl) (past fault : ℕ) (draft : OpsDraft) (line : TextLine) (lines : List TextLine) → draft.left ≡ 0 → line_own draft line ≡ Err fault
    → ops_read kinds fields roots past draft (line ∷ lines) ≡ Err (record { line = line.number; number = fault })
own_faulty kinds fields roots past fault draft line lines rest own =
    let read : after_target_line kinds fields roots draft line ≡ Err fault = fault_words kinds fields roots draft fault (words_in line) rest own in
    rw read refl

-- the same for whatever stops the reader
pub own_fails : (kinds : List (List ℕ)) (fields : List FieldDecl) (roots : List RootDecl) (past : ℕ) (draft : OpsDraft) (line : TextLine) (lines : List TextLine) (stop : Stop) (error : ParseError) → draft.left ≡ 0
    → error ≡ stopped_at line.number stop → Stops stop (line_own draft line) → Fails error (ops_read kinds fields roots past draft (line ∷ lines))
own_fails kinds fields roots past draft line lines stops.Memory error rest is own = rw is tt
own_fails kinds fields roots past draft line lines (stops.Fault fault) error rest is own = rw is (own_faulty kinds fields roots past (number_of_fault fault) draft line lines rest own)
