-- The values of a node line, one by one, over the fields of the node's kind: what comes first and what is left give what the whole gives.
use Rattle.std.proofs.Common.{◌≡◌, ℕ, eq-eqb, ne_eqb, Bool, true, false, ◌+◌, ◌<◌, ◌≤◌, List, [], ◌∷◌, ◌++◌, length, map, get_or, drop, Result, Ok, Err, refl, sym, ap, ◌∙◌, append_assoc}
use Rattle.std.proofs.lemmas.List.{append-nil, drop_more, drop_all}
use Rattle.std.specs.Prelude.{◌||◌}
use Rattle.std.specs.List.{list_any}
use Rattle.norm_lang.specs.declared.text.FieldDecl.{FieldDecl}
use Rattle.norm_lang.specs.declared.text.Start.{Start}
use Rattle.norm_lang.specs.Faults.{◌>>=◌}
use Rattle.norm_lang.specs.LineWords.{StartWord, start_at, is_great, start_of, is_match, end_at}
use Rattle.norm_lang.specs.KindFields.{fields_of}
use Rattle.norm_lang.specs.Declarations.{values_at, starts_of, are_matches}
use Rattle.line_words.specs.declared.words.StartWord.{StartWord as ReadStart}
use Rattle.line_words.specs.Shown.{start_shown}

-- what comes first, and then what is read after it
abbrev pub before : {A : Type 0} → List A → Result (List A) ℕ → Result (List A) ℕ
before front read = read >>= λ rest. Ok (front ++ rest)

-- one more item before what is read is one more after the prefix
after_one : {A : Type 0} (front : List A) (x : A) (read : Result (List A) ℕ)
    → before front (read >>= λ rest. Ok (x ∷ rest)) ≡ before (front ++ x ∷ []) read
after_one front x (Ok rest) = rw (append_assoc front (x ∷ []) rest) refl
after_one front x (Err fault) = refl

-- the fields of a kind from a place on, if one of them stands there
here : (fields : List FieldDecl) (owner i : ℕ) (d : FieldDecl) → i < length fields → (get_or fields i d).owner ≡ owner
    → fields_of owner (drop i fields) ≡ get_or fields i d ∷ fields_of owner (drop (i + 1) fields)
here fields owner i d lt is = rw (drop_more fields i d lt, eq-eqb ((get_or fields i d).owner) owner is) refl

-- .. and if a field of another kind stands there
passed : (fields : List FieldDecl) (owner i : ℕ) (d : FieldDecl) → i < length fields → ((get_or fields i d).owner ≡ owner → ⊥)
    → fields_of owner (drop i fields) ≡ fields_of owner (drop (i + 1) fields)
passed fields owner i d lt other = rw (drop_more fields i d lt, ne_eqb ((get_or fields i d).owner) owner other) refl

-- .. and past the last
past : (fields : List FieldDecl) (owner i : ℕ) → length fields ≤ i → fields_of owner (drop i fields) ≡ []
past fields owner i le = ap (fields_of owner) (drop_all i fields le)

pub value_more : (fields : List FieldDecl) (owner i : ℕ) (d : FieldDecl) (front : List StartWord) (words left : List (List ℕ)) (value : StartWord)
    (whole : Result (List StartWord) ℕ) → i < length fields → (get_or fields i d).owner ≡ owner → start_at (get_or fields i d).kind words ≡ Ok (value, left)
    → before front (values_at (fields_of owner (drop i fields)) words) ≡ whole
    → before (front ++ value ∷ []) (values_at (fields_of owner (drop (i + 1) fields)) left) ≡ whole
value_more fields owner i d front words left value whole lt is read so_far =
    let step : before front (values_at (fields_of owner (drop (i + 1) fields)) left >>= λ rest. Ok (value ∷ rest)) ≡ before front (values_at (fields_of owner (drop i fields)) words)
    = rw (here fields owner i d lt is, read) refl in
    sym (after_one front value (values_at (fields_of owner (drop (i + 1) fields)) left)) ∙ step ∙ so_far

pub value_passed : (fields : List FieldDecl) (owner i : ℕ) (d : FieldDecl) (front : List StartWord) (words : List (List ℕ))
    (whole : Result (List StartWord) ℕ) → i < length fields → ((get_or fields i d).owner ≡ owner → ⊥)
    → before front (values_at (fields_of owner (drop i fields)) words) ≡ whole → before front (values_at (fields_of owner (drop (i + 1) fields)) words) ≡ whole
value_passed fields owner i d front words whole lt other so_far =
    ap (λ left. before front (values_at left words)) (sym (passed fields owner i d lt other)) ∙ so_far

pub value_stopped : (fields : List FieldDecl) (owner i : ℕ) (d : FieldDecl) (front : List StartWord) (words : List (List ℕ)) (fault : ℕ)
    (whole : Result (List StartWord) ℕ) → i < length fields → (get_or fields i d).owner ≡ owner → start_at (get_or fields i d).kind words ≡ Err fault
    → before front (values_at (fields_of owner (drop i fields)) words) ≡ whole → whole ≡ Err fault
value_stopped fields owner i d front words fault whole lt is read so_far = sym so_far ∙ rw (here fields owner i d lt is, read) refl

pub values_done : (fields : List FieldDecl) (owner i : ℕ) (front : List StartWord) (words : List (List ℕ)) (whole : Result (List StartWord) ℕ)
    → length fields ≤ i → end_at words ≡ Ok tt → before front (values_at (fields_of owner (drop i fields)) words) ≡ whole → whole ≡ Ok front
values_done fields owner i front words whole le read so_far = sym so_far ∙ rw (past fields owner i le, read, append-nil front) refl

pub values_stopped : (fields : List FieldDecl) (owner i : ℕ) (front : List StartWord) (words : List (List ℕ)) (fault : ℕ) (whole : Result (List StartWord) ℕ)
    → length fields ≤ i → end_at words ≡ Err fault → before front (values_at (fields_of owner (drop i fields)) words) ≡ whole → whole ≡ Err fault
values_stopped fields owner i front words fault whole le read so_far = sym so_far ∙ rw (past fields owner i le, read) refl

-- a value that fits its field
pub fit_more : (owners : List ℕ) (fields : List FieldDecl) (owner i : ℕ) (d : FieldDecl) (start : Start) (left rest : List Start) (whole : Bool)
    → i < length fields → (get_or fields i d).owner ≡ owner → left ≡ start ∷ rest → is_match owners (get_or fields i d).kind start ≡ true
    → are_matches owners (fields_of owner (drop i fields)) left ≡ whole → are_matches owners (fields_of owner (drop (i + 1) fields)) rest ≡ whole
fit_more owners fields owner i d start left rest whole lt is first fit so_far =
    let step : are_matches owners (fields_of owner (drop (i + 1) fields)) rest ≡ are_matches owners (fields_of owner (drop i fields)) left
    = rw (here fields owner i d lt is, first, fit) refl in
    step ∙ so_far

-- one that doesn't
pub fit_refused : (owners : List ℕ) (fields : List FieldDecl) (owner i : ℕ) (d : FieldDecl) (start : Start) (left rest : List Start) (whole : Bool)
    → i < length fields → (get_or fields i d).owner ≡ owner → left ≡ start ∷ rest → is_match owners (get_or fields i d).kind start ≡ false
    → are_matches owners (fields_of owner (drop i fields)) left ≡ whole → whole ≡ false
fit_refused owners fields owner i d start left rest whole lt is first unfit so_far = sym so_far ∙ rw (here fields owner i d lt is, first, unfit) refl

-- no value is left
pub fit_ended : (owners : List ℕ) (fields : List FieldDecl) (left : List Start) (whole : Bool) → left ≡ [] → are_matches owners fields left ≡ whole → whole ≡ true
fit_ended owners [] left whole none so_far = sym so_far
fit_ended owners (field ∷ fields) left whole none so_far = sym so_far ∙ rw none refl

pub fit_passed : (owners : List ℕ) (fields : List FieldDecl) (owner i : ℕ) (d : FieldDecl) (left : List Start) (whole : Bool)
    → i < length fields → ((get_or fields i d).owner ≡ owner → ⊥)
    → are_matches owners (fields_of owner (drop i fields)) left ≡ whole → are_matches owners (fields_of owner (drop (i + 1) fields)) left ≡ whole
fit_passed owners fields owner i d left whole lt other so_far = ap (λ those. are_matches owners those left) (sym (passed fields owner i d lt other)) ∙ so_far

pub fits_done : (owners : List ℕ) (fields : List FieldDecl) (owner i : ℕ) (left : List Start) (whole : Bool)
    → length fields ≤ i → are_matches owners (fields_of owner (drop i fields)) left ≡ whole → whole ≡ true
fits_done owners fields owner i left whole le so_far = sym so_far ∙ rw (past fields owner i le) refl

pub start_more : (count : ℕ) (words : List ReadStart) (i : ℕ) (d : ReadStart) (front : List Start) (start : Start) (whole : Result (List Start) ℕ)
    → i < length words → start_of count (start_shown (get_or words i d)) ≡ Ok start
    → before front (starts_of count (map start_shown (drop i words))) ≡ whole
    → before (front ++ start ∷ []) (starts_of count (map start_shown (drop (i + 1) words))) ≡ whole
start_more count words i d front start whole lt read so_far =
    let step : before front (starts_of count (map start_shown (drop (i + 1) words)) >>= λ rest. Ok (start ∷ rest)) ≡ before front (starts_of count (map start_shown (drop i words)))
    = rw (drop_more words i d lt, read) refl in
    sym (after_one front start (starts_of count (map start_shown (drop (i + 1) words)))) ∙ step ∙ so_far

pub start_stopped : (count : ℕ) (words : List ReadStart) (i : ℕ) (d : ReadStart) (front : List Start) (fault : ℕ) (whole : Result (List Start) ℕ)
    → i < length words → start_of count (start_shown (get_or words i d)) ≡ Err fault
    → before front (starts_of count (map start_shown (drop i words))) ≡ whole → whole ≡ Err fault
start_stopped count words i d front fault whole lt read so_far = sym so_far ∙ rw (drop_more words i d lt, read) refl

pub starts_done : (count : ℕ) (words : List ReadStart) (i : ℕ) (front : List Start) (whole : Result (List Start) ℕ)
    → length words ≤ i → before front (starts_of count (map start_shown (drop i words))) ≡ whole → whole ≡ Ok front
starts_done count words i front whole le so_far = sym so_far ∙ rw (drop_all i words le, append-nil front) refl

-- a test of what contracts see of values
pub any_shown : (words : List ReadStart) → list_any (λ word. is_great (start_shown word)) words ≡ list_any is_great (map start_shown words)
any_shown [] = refl
any_shown (word ∷ words) = ap (λ rest. is_great (start_shown word) || rest) (any_shown words)
