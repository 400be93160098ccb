-- The lines behind a text as they are spelled, and what they say, line by line.
use Rattle.std.specs.Prelude.{◌≡◌, ℕ, ◌+◌, ◌<◌, true, List, [], ◌∷◌, ◌++◌, length, replicate, set, get_or, Some, Result, Ok, Err, codes, decimal, slice_index, nat_lt}
use Rattle.std.specs.List.{list_all, AllByRecursion}
use Rattle.std.proofs.Common.{refl, ap, sym, ◌∙◌, arith, append_assoc, length-append}
use Rattle.std.proofs.Math.Seq.{get_or-append_seam, set-append_seam}
use Rattle.std.proofs.lemmas.Bool.{and_parts, lt-ltb, le-leb}
use Rattle.std.proofs.lemmas.List.{append-nil}
use Rattle.norm_lang.specs.declared.text.Version.TheVariants.{Second}
use Rattle.norm_lang.specs.Faults.{◌>>=◌, at_line}
use Rattle.norm_lang.specs.LineWords.{owner_at}
use Rattle.norm_lang.specs.Limits.{is_number}
use Rattle.norm_lang.specs.Spelling.{joined_words, kind_name}
use Rattle.line_words.specs.Lines.{first_word}
use Rattle.documents.specs.DocumentRead.{AfterFuel, Tail, default_slots, empty_tail, after_words, after_lines}
use Rattle.text_laws.proofs.InTurn.{name_in_turn}
use Rattle.text_laws.proofs.TextsSaid.{no_fault}
use Rattle.text_laws.proofs.WordsRead.{AreKinds, number_read, owner_read}
use Rattle.document_spelling.specs.Spelling.{spelled_slots, slots_lines, spelled_phases, spelled_fuel}
use Rattle.document_spelling.proofs.JoinedWords.{IsPlain}
use Rattle.document_spelling.proofs.SpelledFront.{found_from}

-- what lines say by their words, given the number of the first
abbrev pub after_told : Tail → ℕ → List (List (List ℕ)) → Result Tail ℕ
after_told tail n [] = Ok tail
after_told tail n (words ∷ lines) = after_words tail n (first_word words) >>= λ next. after_told next (n + 1) lines

-- a first line, and then others
pub line_then : (tail next : Tail) (n : ℕ) (words : List (List ℕ)) (lines : List (List (List ℕ))) (r : Result Tail ℕ) → after_words tail n (first_word words) ≡ Ok next → after_told next (n + 1) lines ≡ r
    → after_told tail n (words ∷ lines) ≡ r
line_then tail next n words lines r first others = rw first others

pub renumbered : (tail : Tail) (m n : ℕ) (lines : List (List (List ℕ))) (r : Result Tail ℕ) → n ≡ m → after_told tail m lines ≡ r → after_told tail n lines ≡ r
renumbered tail m n lines r same read = rw same read

-- first lines, and then others
pub lines_then : (tail next : Tail) (n : ℕ) (xs ys : List (List (List ℕ))) (r : Result Tail ℕ) → after_told tail n xs ≡ Ok next → after_told next (n + length xs) ys ≡ r → after_told tail n (xs ++ ys) ≡ r
lines_then tail next n [] ys r first others =
    let same : tail ≡ next = cc in
    let e : n ≡ n + 0 = omega arith in
    ap (λ k. after_told tail k ys) e ∙ (rw same others)
lines_then tail next n (words ∷ xs) ys r first others =
    let e : n + 1 + length xs ≡ n + length (words ∷ xs) = omega arith in
    go (after_words tail n (first_word words)) first (λ t read. lines_then t next (n + 1) xs ys r read (ap (λ k. after_told next k ys) e ∙ others))
  where
    go : (w : Result Tail ℕ) → (w >>= λ t. after_told t (n + 1) xs) ≡ Ok next → ((t : Tail) → after_told t (n + 1) xs ≡ Ok next → after_told t (n + 1) (xs ++ ys) ≡ r)
        → (w >>= λ t. after_told t (n + 1) (xs ++ ys)) ≡ r
    go (Ok t) first more = more t first
    go (Err fault) first more = absurd (let f : ⊥ = cc in f)

-- what the words of plain lines say the lines say as they are found
pub lines_read : (lines : List (List (List ℕ))) (n : ℕ) (tail last : Tail) → AllByRecursion IsPlain lines → after_told tail n lines ≡ Ok last → after_lines tail (found_from n lines) ≡ Ok last
lines_read [] n tail last are read = let same : tail ≡ last = cc in rw same refl
lines_read (words ∷ lines) n tail last are read =
    rw (no_fault n (joined_words words) (are.0).plain, (are.0).found) (go (after_words tail n (first_word words)) read (λ t read. lines_read lines (n + 1) t last are.1 read))
  where
    go : (w : Result Tail ℕ) → (w >>= λ t. after_told t (n + 1) lines) ≡ Ok last → ((t : Tail) → after_told t (n + 1) lines ≡ Ok last → after_lines t (found_from (n + 1) lines) ≡ Ok last)
        → (at_line n w >>= λ t. after_lines t (found_from (n + 1) lines)) ≡ Ok last
    go (Ok t) read more = more t read
    go (Err fault) read more = absurd (let f : ⊥ = cc in f)

-- ---- slots

-- behind a text with these kinds, once the slots of the kinds before one are set
abbrev pub slots_at : List (List ℕ) → ℕ → List ℕ → Tail
slots_at kinds next slots = record (empty_tail Second kinds) { next_kind = next; slots = slots }

slots_line_read : (kinds : List (List ℕ)) (name : List ℕ) (k s n : ℕ) (slots : List ℕ) → AreKinds Second kinds → nat_lt k (length kinds) ≡ true → kind_name kinds k ≡ name → is_number s ≡ true
    → after_words (slots_at kinds k slots) n (first_word (codes "slots" ∷ name ∷ decimal s ∷ [])) ≡ Ok (slots_at kinds (k + 1) (set slots k s))
slots_line_read kinds name k s n slots are within named small =
    let owner : owner_at Second kinds (name ∷ decimal s ∷ []) ≡ Ok (Some k, decimal s ∷ [])
    = ap (λ word. owner_at Second kinds (word ∷ decimal s ∷ [])) (sym named) ∙ owner_read Second kinds k (decimal s ∷ []) are within in
    rw (owner, number_read s small, le-leb k k (omega arith)) refl

-- from another kind on
moved : (kinds names : List (List ℕ)) (n k j : ℕ) (from to before after : List ℕ) → k ≡ j → from ≡ to → before ≡ after
    → after_told (slots_at kinds k from) n (slots_lines k names before) ≡ Ok (slots_at kinds (length kinds) before)
    → after_told (slots_at kinds j to) n (slots_lines j names after) ≡ Ok (slots_at kinds (length kinds) after)
moved kinds names n k j from to before after place slots counts read = rw (place, slots, counts) at read

-- the kinds before have their slots, and those that are left have the default
slots_read : (kinds done names : List (List ℕ)) (before counts : List ℕ) (n : ℕ) → AreKinds Second kinds → done ++ names ≡ kinds → length before ≡ length done → length counts ≡ length names
    → list_all is_number counts ≡ true
    → after_told (slots_at kinds (length done) (before ++ replicate (length names) default_slots)) n (slots_lines (length done) names (before ++ counts)) ≡ Ok (slots_at kinds (length kinds) (before ++ counts))
slots_read kinds done [] before [] n are same long count all =
    let end : length done ≡ length kinds = ap length (sym (append-nil done) ∙ same) in
    ap (λ k. Ok (slots_at kinds k (before ++ []))) end
slots_read kinds done [] before (c ∷ counts) n are same long count all = absurd (omega (arith, count))
slots_read kinds done (name ∷ names) before [] n are same long count all = absurd (omega (arith, count))
slots_read kinds done (name ∷ names) before (c ∷ counts) n are same long count all =
    let k = length done in
    let rest = replicate (length names) default_slots in
    let start = slots_at kinds k (before ++ default_slots ∷ rest) in
    let parts = and_parts (is_number c) (list_all is_number counts) all in
    let value : slice_index (before ++ c ∷ counts) k ≡ c = ap (λ i. get_or (before ++ c ∷ counts) i 0) (sym long) ∙ get_or-append_seam before c counts 0 in
    let stored : set (before ++ default_slots ∷ rest) k c ≡ before ++ c ∷ rest = ap (λ i. set (before ++ default_slots ∷ rest) i c) (sym long) ∙ set-append_seam before default_slots rest c in
    let named : kind_name kinds k ≡ name = ap (λ l. kind_name l k) (sym same) ∙ name_in_turn done names name in
    let within : k < length kinds = omega (arith, ap length same, length-append done (name ∷ names)) in
    let line : after_words start n (first_word (spelled_slots k name (before ++ c ∷ counts))) ≡ Ok (slots_at kinds (k + 1) (before ++ c ∷ rest))
    = ap (λ s. after_words start n (first_word (codes "slots" ∷ name ∷ decimal s ∷ []))) value
    ∙ slots_line_read kinds name k c n (before ++ default_slots ∷ rest) are (lt-ltb k (length kinds) within) named parts.0
    ∙ ap (λ slots. Ok (slots_at kinds (k + 1) slots)) stored in
    line_then start (slots_at kinds (k + 1) (before ++ c ∷ rest)) n (spelled_slots k name (before ++ c ∷ counts)) (slots_lines (k + 1) names (before ++ c ∷ counts)) (Ok (slots_at kinds (length kinds) (before ++ c ∷ counts))) line
    (moved kinds names (n + 1) (length (done ++ name ∷ [])) (k + 1) ((before ++ c ∷ []) ++ rest) (before ++ c ∷ rest) ((before ++ c ∷ []) ++ counts) (before ++ c ∷ counts)
    (length-append done (name ∷ [])) (append_assoc before (c ∷ []) rest) (append_assoc before (c ∷ []) counts)
    (slots_read kinds (done ++ name ∷ []) names (before ++ c ∷ []) counts (n + 1) are (append_assoc done (name ∷ []) names ∙ same)
    (length-append before (c ∷ []) ∙ ap (λ i. i + 1) long ∙ sym (length-append done (name ∷ []))) (omega (arith, count)) parts.1))

-- ---- the other settings

-- behind the settings of a text with these kinds
abbrev pub settled : List (List ℕ) → List ℕ → ℕ → ℕ → ℕ → Tail
settled kinds slots first last fuel = record (slots_at kinds (length kinds) slots) { stage = AfterFuel; first = first; last = last; fuel = fuel }

others_read : (kinds : List (List ℕ)) (slots : List ℕ) (first last fuel n : ℕ) → is_number first ≡ true → is_number last ≡ true → is_number fuel ≡ true
    → after_told (slots_at kinds (length kinds) slots) n (spelled_phases first last ∷ spelled_fuel fuel ∷ []) ≡ Ok (settled kinds slots first last fuel)
others_read kinds slots first last fuel n from to most = rw (number_read first from, number_read last to, number_read fuel most) refl

-- all settings
pub settings_read : (kinds : List (List ℕ)) (slots : List ℕ) (first last fuel n : ℕ) → AreKinds Second kinds → length slots ≡ length kinds → list_all is_number slots ≡ true
    → is_number first ≡ true → is_number last ≡ true → is_number fuel ≡ true
    → after_told (empty_tail Second kinds) n (slots_lines 0 kinds slots ++ (spelled_phases first last ∷ spelled_fuel fuel ∷ [])) ≡ Ok (settled kinds slots first last fuel)
settings_read kinds slots first last fuel n are long all from to most =
    lines_then (empty_tail Second kinds) (slots_at kinds (length kinds) slots) n (slots_lines 0 kinds slots) (spelled_phases first last ∷ spelled_fuel fuel ∷ []) (Ok (settled kinds slots first last fuel))
    (slots_read kinds [] kinds [] slots n are refl refl long all)
    (others_read kinds slots first last fuel (n + length (slots_lines 0 kinds slots)) from to most)
