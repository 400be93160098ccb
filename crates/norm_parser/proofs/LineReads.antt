-- A line's words, as a reader goes over them.
use Rattle.std.specs.Prelude.{◌≡◌, ℕ, Bool, true, false, List, [], ◌∷◌, Option, Some, None, Result, Ok, Err, if◌then◌else◌}
use Rattle.std.proofs.Common.{refl, ap}
use Rattle.oa_text.specs.Lines.{TextLine}
use Rattle.oa_text.specs.Tokens.{words_of, line_fault}
use Rattle.norm_lang.specs.Faults.{◌>>=◌}
use Rattle.norm_lang.specs.Grammar.{Draft, is_comment, plain, after_words, after_line, in_place}
use Rattle.line_words.specs.Lines.{words_in, first_word}

-- what a line that isn't skipped has
abbrev unless : {A : Type 0} → Bool → A → Option A
unless skipped x = if skipped then None else Some x

abbrev shown : List ℕ → List (List ℕ) → Option (List ℕ × List (List ℕ))
shown word rest = Some (word, rest)

-- a line that is skipped adds nothing
pub words_skipped : (draft : Draft) (words : List (List ℕ)) → first_word words ≡ None → after_words draft words ≡ Ok draft
words_skipped draft [] none = refl
words_skipped draft (word ∷ rest) none = go (is_comment word) none
  where
    go : (b : Bool) → unless {A = List ℕ × List (List ℕ)} b (word, rest) ≡ None → (if b then Ok draft else in_place draft.left draft word rest) ≡ Ok draft
    go true none = refl
    go false none = let e : shown word rest ≡ None = none in absurd (let f : ⊥ = cc in f)

-- a line by its first word and those after it
abbrev placed : Draft → Option (List ℕ × List (List ℕ)) → Result Draft ℕ
placed draft None = Ok draft
placed draft (Some first) = in_place draft.left draft first.0 first.1

-- any other line is read by its first word
pub words_placed : (draft : Draft) (words : List (List ℕ)) (word : List ℕ) (rest : List (List ℕ)) → first_word words ≡ Some (word, rest)
    → after_words draft words ≡ in_place draft.left draft word rest
words_placed draft [] word rest some = let e : None ≡ shown word rest = some in absurd (let f : ⊥ = cc in f)
words_placed draft (first ∷ others) word rest some = go (is_comment first) some
  where
    go : (b : Bool) → unless {A = List ℕ × List (List ℕ)} b (first, others) ≡ Some (word, rest)
        → (if b then Ok draft else in_place draft.left draft first others) ≡ in_place draft.left draft word rest
    go true some = let e : None ≡ shown word rest = some in absurd (let f : ⊥ = cc in f)
    go false some = ap (placed draft) some

-- a line without a fault of its bytes
pub line_plain : (draft : Draft) (line : TextLine) (words : List (List ℕ)) → words_in line ≡ Ok words → after_line draft line ≡ after_words draft words
line_plain draft line words read = go (plain (line_fault line)) read
  where
    go : (r : Result (Unit {0}) ℕ) → (r >>= λ done. Ok (words_of line.bytes)) ≡ Ok words → (r >>= λ done. after_words draft (words_of line.bytes)) ≡ after_words draft words
    go (Ok done) read = let e : Ok (words_of line.bytes) ≡ Ok words = read in cc
    go (Err fault) read = let e : Err fault ≡ Ok words = read in cc

pub line_faulty : (draft : Draft) (line : TextLine) (fault : ℕ) → words_in line ≡ Err fault → after_line draft line ≡ Err fault
line_faulty draft line fault read = go (plain (line_fault line)) read
  where
    go : (r : Result (Unit {0}) ℕ) → (r >>= λ done. Ok (words_of line.bytes)) ≡ Err fault → (r >>= λ done. after_words draft (words_of line.bytes)) ≡ Err fault
    go (Ok done) read = let e : Ok (words_of line.bytes) ≡ Err fault = read in cc
    go (Err other) read = let e : Err other ≡ Err fault = read in cc
