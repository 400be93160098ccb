-- The arguments of a call, one by one: those so far and the words that are left give what all words give.
use Rattle.std.proofs.Common.{◌≡◌, ℕ, List, [], ◌∷◌, ◌++◌, Option, Some, None, Result, Ok, Err, refl, sym, ap, ◌∙◌, append_assoc}
use Rattle.std.specs.Prelude.{Bool, true, false, if◌then◌else◌}
use Rattle.std.specs.List.{list_all}
use Rattle.std.proofs.lemmas.List.{append-nil}
use Rattle.oa_text.specs.Numbers.{is_numeral, number_of, fitting}
use Rattle.norm_lang.specs.Faults.{form_fault, number_fault, ◌>>=◌, demand}
use Rattle.norm_lang.specs.LineWords.{number_in}
use Rattle.documents.specs.TailLines.{values_in, arguments_at}

-- the arguments so far, and then those that are read, unless one of those so far exceeds 2^64 - 1
abbrev settled : List ℕ → Bool → Result (List ℕ) ℕ → Result (List ℕ) ℕ
settled args true read = Err number_fault
settled args false read = read >>= λ rest. Ok (args ++ rest)

-- what the words from here on say, after the arguments so far
abbrev pub arguments_from : List ℕ → Bool → List (List ℕ) → Result (List ℕ) ℕ
arguments_from args great words = demand form_fault (list_all is_numeral words) >>= λ spelled. settled args great (values_in words)

pub arguments_start : (words : List (List ℕ)) → arguments_from [] false words ≡ arguments_at words
arguments_start words = ap (λ read. demand form_fault (list_all is_numeral words) >>= λ spelled. read) (all (values_in words))
  where
    all : (read : Result (List ℕ) ℕ) → settled [] false read ≡ read
    all (Ok args) = refl
    all (Err fault) = refl

-- one more argument before what is read is one more after those so far
settled_more : (args : List ℕ) (value : ℕ) (great : Bool) (read : Result (List ℕ) ℕ)
    → settled args great (read >>= λ rest. Ok (value ∷ rest)) ≡ settled (args ++ value ∷ []) great read
settled_more args value false (Ok rest) = rw (append_assoc args (value ∷ []) rest) refl
settled_more args value _ _ = refl

settled_great : (args : List ℕ) (great : Bool) (read : Result (List ℕ) ℕ) → settled args great (Err number_fault) ≡ settled args true read
settled_great args true read = refl
settled_great args false read = refl

-- the number that a word says
abbrev said : Option ℕ → Result (Option ℕ) ℕ → Option ℕ
said other (Ok n) = n
said other (Err fault) = other

-- the fault of a word that is no number
abbrev faulty : Result (Option ℕ) ℕ → ℕ
faulty (Ok n) = form_fault
faulty (Err fault) = fault

-- a word that is read as a number is spelled as one
numeral : (word : List ℕ) (n : Option ℕ) → number_in word ≡ Ok n → (is_numeral word ≡ true) × (fitting (number_of word) ≡ n)
numeral word n read = go (is_numeral word) refl read
  where
    go : (b : Bool) → is_numeral word ≡ b → (if b then Ok (fitting (number_of word)) else Err form_fault) ≡ Ok n → (is_numeral word ≡ true) × (fitting (number_of word) ≡ n)
    go true same read = (same, ap (said n) read)
    go false same read = absurd (let f : ⊥ = cc in f)

pub argument_more : (args : List ℕ) (great : Bool) (word : List ℕ) (words rest : List (List ℕ)) (value : ℕ) (whole : Result (List ℕ) ℕ)
    → words ≡ word ∷ rest → number_in word ≡ Ok (Some value)
    → arguments_from args great words ≡ whole → arguments_from (args ++ value ∷ []) great rest ≡ whole
argument_more args great word words rest value whole cut read so_far =
    let p = numeral word (Some value) read in
    let step : arguments_from args great words ≡ arguments_from (args ++ value ∷ []) great rest
    = rw (cut, p.0, p.1) (ap (λ read. demand form_fault (list_all is_numeral rest) >>= λ spelled. read) (settled_more args value great (values_in rest))) in
    sym step ∙ so_far

pub argument_great : (args : List ℕ) (great : Bool) (word : List ℕ) (words rest : List (List ℕ)) (whole : Result (List ℕ) ℕ)
    → words ≡ word ∷ rest → number_in word ≡ Ok None
    → arguments_from args great words ≡ whole → arguments_from args true rest ≡ whole
argument_great args great word words rest whole cut read so_far =
    let p = numeral word None read in
    let step : arguments_from args great words ≡ arguments_from args true rest
    = rw (cut, p.0, p.1) (ap (λ read. demand form_fault (list_all is_numeral rest) >>= λ spelled. read) (settled_great args great (values_in rest))) in
    sym step ∙ so_far

pub argument_odd : (args : List ℕ) (great : Bool) (word : List ℕ) (words rest : List (List ℕ)) (fault : ℕ) (whole : Result (List ℕ) ℕ)
    → words ≡ word ∷ rest → number_in word ≡ Err fault
    → arguments_from args great words ≡ whole → whole ≡ Err fault
argument_odd args great word words rest fault whole cut read so_far = go (is_numeral word) refl read
  where
    go : (b : Bool) → is_numeral word ≡ b → (if b then Ok (fitting (number_of word)) else Err form_fault) ≡ Err fault → whole ≡ Err fault
    go true same read = absurd (let f : ⊥ = cc in f)
    go false same read = let e : form_fault ≡ fault = ap faulty read in sym so_far ∙ rw (cut, same, e) refl

pub arguments_fit : (args : List ℕ) (words : List (List ℕ)) (whole : Result (List ℕ) ℕ) → words ≡ []
    → arguments_from args false words ≡ whole → whole ≡ Ok args
arguments_fit args words whole end so_far = sym so_far ∙ rw (end, append-nil args) refl

pub arguments_exceed : (args : List ℕ) (words : List (List ℕ)) (whole : Result (List ℕ) ℕ) → words ≡ []
    → arguments_from args true words ≡ whole → whole ≡ Err number_fault
arguments_exceed args words whole end so_far = sym so_far ∙ rw end refl
