-- A text that goes from the line after the version line to the end of the input is that of the whole input.
use Rattle.std.specs.Prelude.{◌≡◌, ℕ, ◌+◌, ◌<◌, ◌≤◌, Bool, true, false, List, [], ◌∷◌, length, Result, Ok, Err, if◌then◌else◌}
use Rattle.std.proofs.Common.{refl, ap, sym, arith}
use Rattle.std.proofs.lemmas.Bool.{le-ltb}
use Rattle.oa_text.specs.Lines.{TextLine, numbered}
use Rattle.norm_lang.specs.declared.text.Text.{Text}
use Rattle.norm_lang.specs.declared.text.Version.{Version}
use Rattle.norm_lang.specs.declared.text.Version.TheVariants.{Second}
use Rattle.norm_lang.specs.Faults.{LineFault, at_line, ◌>>=◌}
use Rattle.norm_lang.specs.Grammar.{Start, Opening, Draft, draft_at, after_line, after_lines, finished, text_in}
use Rattle.norm_parser.specs.FrontRead.{from_line, line_word, ends_text, names_text, text_lines, after_text, end_at, ended, front_in}
use Rattle.norm_parser.specs.FrontLaws.{FrontsAreTexts}

-- lines that all come later
all_later : (n start : ℕ) (lines : List (List ℕ)) → start ≤ n → from_line start (numbered n lines) ≡ numbered n lines
all_later n start [] le = refl
all_later n start (line ∷ lines) le =
    rw (le-ltb n start le) (ap (λ (rest : List TextLine). record { number = n; bytes = line } ∷ rest) (all_later (n + 1) start lines (omega arith)))

-- the first of the lines, if any, stands before that number
abbrev Below : ℕ → List TextLine → Type 0
Below past [] = Unit {0}
Below past (line ∷ lines) = line.number < past

numbered_below : (n past : ℕ) (lines : List (List ℕ)) → n + length lines ≡ past → Below past (numbered n lines)
numbered_below n past [] count = tt
numbered_below n past (line ∷ lines) count = omega (arith, count)

after_below : (n past : ℕ) (lines : List (List ℕ)) → n + length lines ≡ past → Below past (after_text (numbered n lines))
after_below n past [] count = tt
after_below n past (line ∷ lines) count =
    go (ends_text (line_word (record { number = n; bytes = line }))) (names_text (line_word (record { number = n; bytes = line }))) (after_below (n + 1) past lines (omega (arith, count)))
  where
    go : (ended named : Bool) → Below past (after_text (numbered (n + 1) lines))
        → Below past (if ended then record { number = n; bytes = line } ∷ numbered (n + 1) lines else (if named then numbered (n + 1) lines else after_text (numbered (n + 1) lines)))
    go true named rest = omega (arith, count)
    go false true rest = numbered_below (n + 1) past lines (omega (arith, count))
    go false false rest = rest

-- a text with no line after it has all lines
whole : (lines : List TextLine) → after_text lines ≡ [] → text_lines lines ≡ lines
whole [] none = refl
whole (line ∷ lines) none = go (ends_text (line_word line)) (names_text (line_word line)) none (whole lines)
  where
    go : (ended named : Bool) → (if ended then line ∷ lines else (if named then lines else after_text lines)) ≡ [] → (after_text lines ≡ [] → text_lines lines ≡ lines)
        → (if ended then [] else (if named then line ∷ [] else line ∷ text_lines lines)) ≡ line ∷ lines
    go true named none rest = let e : line ∷ lines ≡ [] = none in absurd (let f : ⊥ = cc in f)
    go false true none rest = ap (λ (others : List TextLine). line ∷ others) (sym none)
    go false false none rest = ap (λ (others : List TextLine). line ∷ others) (rest none)

-- what a reader answers: a text, and the number of the line after it
abbrev answer : Text → ℕ → Result (Text × ℕ) LineFault
answer text next = Ok (text, next)

abbrev text_of : Text → Result (Text × ℕ) LineFault → Text
text_of other (Ok front) = front.0
text_of other (Err fault) = other

abbrev next_of : Result (Text × ℕ) LineFault → ℕ
next_of (Ok front) = front.1
next_of (Err fault) = 0

-- a text that ends with the input has no line after it
ends_past : (read : Result Text ℕ) (behind : List TextLine) (past : ℕ) (text : Text) → Below past behind → ended read (end_at behind past) ≡ answer text past
    → (read ≡ Ok text) × (behind ≡ [])
ends_past (Err fault) behind past text below e = absurd (let f : ⊥ = cc in f)
ends_past (Ok x) [] past text below e = (ap Ok (ap (text_of x) e), refl)
ends_past (Ok x) (line ∷ lines) past text below e = let same : line.number ≡ past = ap next_of e in absurd (omega (arith, below, same))

-- a draft, and where its lines end
abbrev with_end : LineFault → Draft → Result (Draft × LineFault) LineFault
with_end end draft = Ok (draft, end)

abbrev front_ended : Draft × LineFault → Result (Text × ℕ) LineFault
front_ended front = ended (finished front.0) front.1

front_whole : (version : Version) (lines : List TextLine) (past : ℕ) (text : Text) → Below past (after_text lines) → front_in version lines past ≡ Ok (text, past)
    → (after_lines (draft_at version Opening) lines >>= λ draft. at_line past (finished draft)) ≡ Ok text
front_whole version lines past text below read = go (after_lines (draft_at version Opening) (text_lines lines)) refl read
  where
    go : (r : Result Draft LineFault) → after_lines (draft_at version Opening) (text_lines lines) ≡ r
        → ((r >>= with_end (end_at (after_text lines) past)) >>= front_ended) ≡ answer text past
        → (after_lines (draft_at version Opening) lines >>= λ draft. at_line past (finished draft)) ≡ Ok text
    go (Err fault) so_far read = absurd (let f : ⊥ = cc in f)
    go (Ok draft) so_far read =
        let ends = ends_past (finished draft) (after_text lines) past text below read in
        let all : after_lines (draft_at version Opening) lines ≡ Ok draft = rw (whole lines ends.1) at so_far in
        rw (all, ends.0) refl

-- the version line, and then the others
version_then : (first : List ℕ) (rest : List (List ℕ)) (version : Version) (text : Text)
    → after_line (draft_at Second Start) (record { number = 1; bytes = first }) ≡ Ok (draft_at version Opening)
    → front_in version (from_line 2 (numbered 1 (first ∷ rest))) (length (first ∷ rest) + 1) ≡ Ok (text, length (first ∷ rest) + 1)
    → text_in (first ∷ rest) ≡ Ok text
version_then first rest version text said read =
    let past = length (first ∷ rest) + 1 in
    let below : Below past (after_text (numbered 2 rest)) = after_below 2 past rest (omega arith) in
    let front : front_in version (numbered 2 rest) past ≡ Ok (text, past) = rw (all_later 2 2 rest (omega arith)) at read in
    rw said (front_whole version (numbered 2 rest) past text below front)

pub fronts_are_texts : FrontsAreTexts
fronts_are_texts bytes first rest version text lines said read = rw lines (version_then first rest version text said (rw lines at read))
