-- The lines of a text within a document, line by line.
use Rattle.std.specs.Prelude.{◌≡◌, ℕ, ◌+◌, length, Bool, true, false, ◌||◌, List, [], ◌∷◌, Result, Ok, Err, if◌then◌else◌}
use Rattle.std.proofs.Common.{◌<◌, ◌≤◌, refl, sym, ap, ◌∙◌, arith}
use Rattle.std.proofs.lemmas.Bool.{lt-ltb, le-ltb}
use Rattle.oa_text.specs.Lines.{TextLine}
use Rattle.oa_text.specs.Tokens.{line_fault}
use Rattle.norm_lang.specs.Faults.{LineFault, form_fault, at_line, ◌>>=◌}
use Rattle.norm_lang.specs.declared.text.Version.{Version}
use Rattle.norm_lang.specs.declared.text.Version.TheVariants.{Second}
use Rattle.norm_lang.specs.Grammar.{Opening, Draft, draft_at, after_line, after_lines}
use Rattle.norm_parser.specs.Cursors.{LinesLeft, past_of, rest_of, StandsNext}
use Rattle.norm_parser.specs.FrontRead.{from_line, line_word, ends_text, names_text, text_lines, after_text, misplaced, end_before, end_at, head_lines, after_head, ends_head, before_op, front_end, head_end}

-- what the lines from here on declare up to the end of a text, given whether the line before these named a shipped one
abbrev pub front_from : Draft → Bool → List TextLine → ℕ → Result (Draft × LineFault) LineFault
front_from draft named [] past = Ok (draft, end_at [] past)
front_from draft named (line ∷ lines) past =
    if named || ends_text (line_word line) then Ok (draft, end_before line)
    else (at_line line.number (after_line draft line) >>= λ next. front_from next (names_text (line_word line)) lines past)

-- after a line that names a shipped text it is whole
front_named : (draft : Draft) (lines : List TextLine) (past : ℕ) → front_from draft true lines past ≡ Ok (draft, end_at lines past)
front_named draft [] past = refl
front_named draft (line ∷ lines) past = refl

-- what the lines of a text declare, and where they end
abbrev ends : Draft → List TextLine → ℕ → Result (Draft × LineFault) LineFault
ends draft lines past = after_lines draft (text_lines lines) >>= λ next. Ok (next, end_at (after_text lines) past)

-- a draft, and where its lines end
abbrev with_end : LineFault → Draft → Result (Draft × LineFault) LineFault
with_end end draft = Ok (draft, end)

-- what is read of one line, and then of the others
read_then : (read : Result Draft LineFault) (lines own behind : List TextLine) (past : ℕ) (named : Bool)
    → ((next : Draft) → front_from next named lines past ≡ (after_lines next own >>= with_end (end_at behind past)))
    → (read >>= λ next. front_from next named lines past) ≡ ((read >>= λ next. after_lines next own) >>= with_end (end_at behind past))
read_then (Ok next) lines own behind past named rest = rest next
read_then (Err fault) lines own behind past named rest = refl

pub front_is : (draft : Draft) (lines : List TextLine) (past : ℕ) → front_from draft false lines past ≡ ends draft lines past
front_is draft [] past = refl
front_is draft (line ∷ lines) past = go (ends_text (line_word line)) (names_text (line_word line)) (λ next. front_is next lines past)
  where
    go : (ended named : Bool) → ((next : Draft) → front_from next false lines past ≡ ends next lines past)
        → (if ended then with_end (end_before line) draft else (at_line line.number (after_line draft line) >>= λ next. front_from next named lines past))
        ≡ (after_lines draft (if ended then [] else (if named then line ∷ [] else line ∷ text_lines lines))
        >>= with_end (end_at (if ended then line ∷ lines else (if named then lines else after_text lines)) past))
    go true named rest = refl
    go false true rest = read_then (at_line line.number (after_line draft line)) lines [] lines past true (λ next. front_named next lines past)
    go false false rest = read_then (at_line line.number (after_line draft line)) lines (text_lines lines) (after_text lines) past false rest

-- what the lines from here on declare up to the first operation
abbrev pub head_from : Draft → List TextLine → ℕ → Result (Draft × LineFault) LineFault
head_from draft [] past = Err (end_at [] past)
head_from draft (line ∷ lines) past =
    if names_text (line_word line) then Err (end_before line)
    else (if ends_head (line_word line) then Ok (draft, end_before line)
    else (at_line line.number (after_line draft line) >>= λ next. head_from next lines past))

abbrev head_ends : Draft → List TextLine → ℕ → Result (Draft × LineFault) LineFault
head_ends draft lines past = after_lines draft (head_lines lines) >>= λ next. before_op next (after_head lines) past

head_then : (read : Result Draft LineFault) (lines : List TextLine) (past : ℕ) → ((next : Draft) → head_from next lines past ≡ head_ends next lines past)
    → (read >>= λ next. head_from next lines past) ≡ ((read >>= λ next. after_lines next (head_lines lines)) >>= λ last. before_op last (after_head lines) past)
head_then (Ok next) lines past rest = rest next
head_then (Err fault) lines past rest = refl

-- where declarations end, with the first line after them naming a shipped text or not
abbrev stopped : Bool → Draft → TextLine → Result (Draft × LineFault) LineFault
stopped named draft line = if named then Err (end_before line) else with_end (end_before line) draft

pub head_is : (draft : Draft) (lines : List TextLine) (past : ℕ) → head_from draft lines past ≡ head_ends draft lines past
head_is draft [] past = refl
head_is draft (line ∷ lines) past = go (ends_head (line_word line)) (names_text (line_word line)) refl (λ next. head_is next lines past)
  where
    go : (ended named : Bool) → names_text (line_word line) ≡ named → ((next : Draft) → head_from next lines past ≡ head_ends next lines past)
        → (if named then Err (end_before line) else (if ended then with_end (end_before line) draft else (at_line line.number (after_line draft line) >>= λ next. head_from next lines past)))
        ≡ (after_lines draft (if ended || named then [] else line ∷ head_lines lines) >>= λ next. before_op next (if ended || named then line ∷ lines else after_head lines) past)
    go false false is rest = head_then (at_line line.number (after_line draft line)) lines past rest
    go _ _ is rest = sym (ap (λ b. stopped b draft line) is)

-- a line before the first is passed
pub earlier : (start : ℕ) (line : TextLine) (lines : List TextLine) → line.number < start → from_line start (line ∷ lines) ≡ from_line start lines
earlier start line lines lt = rw (lt-ltb line.number start lt) refl

pub later : (start : ℕ) (line : TextLine) (lines : List TextLine) → start ≤ line.number → from_line start (line ∷ lines) ≡ line ∷ from_line start lines
later start line lines ge = rw (le-ltb line.number start ge) refl

-- ---- the lines of a text, as a cursor goes over them

pub front_starts : (draft : Draft) (version : Version) (lines : List TextLine) (past : ℕ) → draft ≡ draft_at version Opening
    → front_from draft false lines past ≡ front_end version lines past
front_starts draft version lines past first = rw first (front_is (draft_at version Opening) lines past)

pub front_goes_on : (draft after : Draft) (named names : Bool) (past : ℕ) (line : TextLine) (left next : LinesLeft) (word : List ℕ) (whole : Result (Draft × LineFault) LineFault)
    → StandsNext line left → next ≡ rest_of left → word ≡ line_word line → false ≡ (named || ends_text word)
    → at_line line.number (after_line draft line) ≡ Ok after → names ≡ names_text word
    → front_from draft named left.lines past ≡ whole → front_from after names next.lines past ≡ whole
front_goes_on draft after named names past line left next word whole stands taken is on read name so_far =
    let on_here : named || ends_text (line_word line) ≡ false = rw (← is) (sym on) in
    let whole_is : whole ≡ front_from draft named (line ∷ (rest_of left).lines) past = sym so_far ∙ ap (λ ls. front_from draft named ls past) stands.first in
    rw (name, is, taken) (sym (rw (on_here, read) at whole_is))

pub front_ends : (draft : Draft) (named : Bool) (past later : ℕ) (line : TextLine) (left : LinesLeft) (word : List ℕ) (whole : Result (Draft × LineFault) LineFault)
    → StandsNext line left → word ≡ line_word line → true ≡ (named || ends_text word)
    → front_from draft named left.lines past ≡ whole → whole ≡ Ok (draft, end_at left.lines later)
front_ends draft named past later line left word whole stands is stop so_far =
    let stop_here : named || ends_text (line_word line) ≡ true = rw (← is) (sym stop) in
    let whole_is : whole ≡ front_from draft named (line ∷ (rest_of left).lines) past = sym so_far ∙ ap (λ ls. front_from draft named ls past) stands.first in
    rw stop_here at whole_is ∙ ap (λ ls. Ok (draft, end_at ls later)) (sym stands.first)

pub front_over : (draft : Draft) (named : Bool) (past later : ℕ) (left : LinesLeft) (whole : Result (Draft × LineFault) LineFault)
    → left.lines ≡ [] → later ≡ past → front_from draft named left.lines past ≡ whole → whole ≡ Ok (draft, end_at left.lines later)
front_over draft named past later left whole none same so_far =
    sym so_far ∙ ap (λ ls. front_from draft named ls past) none ∙ rw (none, same) refl

pub front_stops : (draft : Draft) (named : Bool) (past : ℕ) (line : TextLine) (left : LinesLeft) (word : List ℕ) (fault : LineFault) (whole : Result (Draft × LineFault) LineFault)
    → StandsNext line left → word ≡ line_word line → false ≡ (named || ends_text word) → at_line line.number (after_line draft line) ≡ Err fault
    → front_from draft named left.lines past ≡ whole → whole ≡ Err fault
front_stops draft named past line left word fault whole stands is on read so_far =
    let on_here : named || ends_text (line_word line) ≡ false = rw (← is) (sym on) in
    let whole_is : whole ≡ front_from draft named (line ∷ (rest_of left).lines) past = sym so_far ∙ ap (λ ls. front_from draft named ls past) stands.first in
    rw (on_here, read) at whole_is

-- ---- and those of declarations

pub head_starts : (draft : Draft) (lines : List TextLine) (past : ℕ) → draft ≡ draft_at Second Opening → head_from draft lines past ≡ head_end lines past
head_starts draft lines past first = rw first (head_is (draft_at Second Opening) lines past)

pub head_goes_on : (draft after : Draft) (past : ℕ) (line : TextLine) (left next : LinesLeft) (word : List ℕ) (whole : Result (Draft × LineFault) LineFault)
    → StandsNext line left → next ≡ rest_of left → word ≡ line_word line → false ≡ names_text word → false ≡ ends_head word
    → at_line line.number (after_line draft line) ≡ Ok after
    → head_from draft left.lines past ≡ whole → head_from after next.lines past ≡ whole
head_goes_on draft after past line left next word whole stands taken is other on read so_far =
    let other_here : names_text (line_word line) ≡ false = rw (← is) (sym other) in
    let on_here : ends_head (line_word line) ≡ false = rw (← is) (sym on) in
    let whole_is : whole ≡ head_from draft (line ∷ (rest_of left).lines) past = sym so_far ∙ ap (λ ls. head_from draft ls past) stands.first in
    rw taken (sym (rw (other_here, on_here, read) at whole_is))

-- a line that names a shipped text is faulty
pub head_misplaced : (draft : Draft) (past later : ℕ) (line : TextLine) (left : LinesLeft) (word : List ℕ) (whole : Result (Draft × LineFault) LineFault)
    → StandsNext line left → word ≡ line_word line → true ≡ names_text word
    → head_from draft left.lines past ≡ whole → whole ≡ Err (end_at left.lines later)
head_misplaced draft past later line left word whole stands is names so_far =
    let names_here : names_text (line_word line) ≡ true = rw (← is) (sym names) in
    let whole_is : whole ≡ head_from draft (line ∷ (rest_of left).lines) past = sym so_far ∙ ap (λ ls. head_from draft ls past) stands.first in
    rw names_here at whole_is ∙ ap (λ ls. Err (end_at ls later)) (sym stands.first)

pub head_ends_here : (draft : Draft) (past later : ℕ) (line : TextLine) (left : LinesLeft) (word : List ℕ) (whole : Result (Draft × LineFault) LineFault)
    → StandsNext line left → word ≡ line_word line → false ≡ names_text word → true ≡ ends_head word
    → head_from draft left.lines past ≡ whole → whole ≡ Ok (draft, end_at left.lines later)
head_ends_here draft past later line left word whole stands is other stop so_far =
    let other_here : names_text (line_word line) ≡ false = rw (← is) (sym other) in
    let stop_here : ends_head (line_word line) ≡ true = rw (← is) (sym stop) in
    let whole_is : whole ≡ head_from draft (line ∷ (rest_of left).lines) past = sym so_far ∙ ap (λ ls. head_from draft ls past) stands.first in
    rw (other_here, stop_here) at whole_is ∙ ap (λ ls. Ok (draft, end_at ls later)) (sym stands.first)

pub head_over : (draft : Draft) (past later : ℕ) (left : LinesLeft) (whole : Result (Draft × LineFault) LineFault)
    → left.lines ≡ [] → later ≡ past → head_from draft left.lines past ≡ whole → whole ≡ Err (end_at left.lines later)
head_over draft past later left whole none same so_far =
    sym so_far ∙ ap (λ ls. head_from draft ls past) none ∙ rw (none, same) refl

pub head_faulty : (draft : Draft) (past : ℕ) (line : TextLine) (left : LinesLeft) (word : List ℕ) (fault : LineFault) (whole : Result (Draft × LineFault) LineFault)
    → StandsNext line left → word ≡ line_word line → false ≡ names_text word → false ≡ ends_head word
    → at_line line.number (after_line draft line) ≡ Err fault
    → head_from draft left.lines past ≡ whole → whole ≡ Err fault
head_faulty draft past line left word fault whole stands is other on read so_far =
    let other_here : names_text (line_word line) ≡ false = rw (← is) (sym other) in
    let on_here : ends_head (line_word line) ≡ false = rw (← is) (sym on) in
    let whole_is : whole ≡ head_from draft (line ∷ (rest_of left).lines) past = sym so_far ∙ ap (λ ls. head_from draft ls past) stands.first in
    rw (other_here, on_here, read) at whole_is

-- ---- where lines end

pub end_line_stands : (later : ℕ) (line : TextLine) (left : LinesLeft) → StandsNext line left → (end_at left.lines later).line ≡ left.number
end_line_stands later line left stands = ap (λ ls. (end_at ls later).line) stands.first ∙ stands.number

pub end_line_over : (left : LinesLeft) → left.lines ≡ [] → (end_at left.lines (past_of left)).line ≡ left.number
end_line_over left none = let past : past_of left ≡ left.number = ap (λ (ls : List TextLine). left.number + length ls) none ∙ omega arith in ap (λ ls. (end_at ls (past_of left)).line) none ∙ past

-- the fault at the next line
pub end_stands : (later number fault : ℕ) (line : TextLine) (left : LinesLeft) → StandsNext line left → number ≡ left.number → fault ≡ misplaced (line_fault line)
    → record { line = number; number = fault } ≡ end_at left.lines later
end_stands later number fault line left stands same is = rw (same, is) (ap (λ n. record { line = n; number = misplaced (line_fault line) }) (sym stands.number) ∙ ap (λ ls. end_at ls later) (sym stands.first))

-- and past the input
pub end_over : (number fault : ℕ) (left : LinesLeft) → left.lines ≡ [] → number ≡ left.number → fault ≡ form_fault → record { line = number; number = fault } ≡ end_at left.lines (past_of left)
end_over number fault left none same is =
    let past : left.number ≡ past_of left = sym (ap (λ (ls : List TextLine). left.number + length ls) none ∙ omega arith) in
    rw (same, is) (ap (λ n. record { line = n; number = form_fault }) past ∙ ap (λ ls. end_at ls (past_of left)) (sym none))
