-- The lines of a function are read again, one after another.
use Rattle.std.proofs.Common.{◌≡◌, ℕ, ◌+◌, ◌<◌, ◌≤◌, ◌^◌, Bool, true, false, List, [], ◌∷◌, ◌++◌, map, length, Option, Some, if◌then◌else◌, refl, ◌∙◌, ap, arith, append_assoc}
use Rattle.std.specs.Prelude.{nat_lt}
use Rattle.std.specs.List.{list_all, list_any}
use Rattle.std.proofs.lemmas.Bool.{and_from, and_parts, eq-eqb}
use Rattle.std.proofs.lemmas.Bool.Decides.{nat_tests}
use Rattle.oa_text.specs.Lines.{lines_of}
use Rattle.oa_text.specs.Tokens.{words_of}
use Rattle.oa_text.proofs.Again.{lines_of_line}
use Rattle.norm_lang.specs.LineWords.{is_name}
use Rattle.c_language.specs.declared.lines.Line.{Line}
use Rattle.c_language.specs.declared.lines.Line.TheVariants as lines
use Rattle.c_printer.specs.declared.tokens.Sign.TheVariants as signs
use Rattle.c_printer.specs.declared.tokens.Token.{Token}
use Rattle.c_printer.specs.declared.tokens.Token.TheVariants as tokens
use Rattle.c_printer.specs.Names.{are_names}
use Rattle.c_printer.specs.Words.{token_word, token_bytes, token_line}
use Rattle.c_printer.specs.Tokens.{sign, line_tokens}
use Rattle.c_printer.specs.Lexing.{after_said, tokens_said}
use Rattle.c_printer.specs.Reading.{line_said}
use Rattle.c_printer.specs.Fitting.{is_fitting, is_fitting_line}
use Rattle.c_printer.specs.Functions.{jumps_to, placed_tokens, code_text}
use Rattle.c_printer.specs.FileRead.{Placed, CodeRead, placed_said, is_end, before, code_said, same_bool, labels_stand, lines_in}
use Rattle.c_printer.proofs.LineBack.{line_back}
use Rattle.c_printer.proofs.LinesBack.{words_plain, are_words, bytes_back}

-- lines with their labels
abbrev pub marked : List Line → ℕ → List Line → List Placed
marked code at [] = []
marked code at (line ∷ rest) = record { labelled = list_any (jumps_to at) code; line = line } ∷ marked code (at + 1) rest

pub marked_lines : (code : List Line) (at : ℕ) (rest : List Line) → lines_in (marked code at rest) ≡ rest
marked_lines code at [] = refl
marked_lines code at (line ∷ rest) = ap (λ (l : List Line). line ∷ l) (marked_lines code (at + 1) rest)

same_itself : (b : Bool) → same_bool b b ≡ true
same_itself true = refl
same_itself false = refl

pub marked_stand : (code : List Line) (at : ℕ) (rest : List Line) → labels_stand code at (marked code at rest) ≡ true
marked_stand code at [] = refl
marked_stand code at (line ∷ rest) =
    and_from (same_bool (list_any (jumps_to at) code) (list_any (jumps_to at) code)) (labels_stand code (at + 1) (marked code (at + 1) rest))
    (same_itself (list_any (jumps_to at) code)) (marked_stand code (at + 1) rest)

-- ---- one line

abbrev unlabelled : Line → Option Placed
unlabelled line = Some (record { labelled = false; line = line })

-- no line begins with a label of its own
bare : (at : ℕ) (line : Line) → placed_said at (line_tokens line) ≡ after_said (line_said (line_tokens line)) unlabelled
bare at (lines.Let d value) = refl
bare at (lines.Goto l) = refl
bare at (lines.If test l) = refl
bare at (lines.Load d place) = refl
bare at (lines.Store place a) = refl
bare at (lines.Exchange d place a b) = refl
bare at (lines.Note j) = refl
bare at (lines.IfNoted j l) = refl
bare at (lines.Get d k) = refl
bare at (lines.Keep k a) = refl
bare at (lines.Call d function) = refl
bare at (lines.Return a) = refl
bare at (lines.Reply answer a) = refl

-- and none is the end of a function
no_end : (line : Line) → is_end (line_tokens line) ≡ false
no_end (lines.Let d value) = refl
no_end (lines.Goto l) = refl
no_end (lines.If test l) = refl
no_end (lines.Load d place) = refl
no_end (lines.Store place a) = refl
no_end (lines.Exchange d place a b) = refl
no_end (lines.Note j) = refl
no_end (lines.IfNoted j l) = refl
no_end (lines.Get d k) = refl
no_end (lines.Keep k a) = refl
no_end (lines.Call d function) = refl
no_end (lines.Return a) = refl
no_end (lines.Reply answer a) = refl

-- the same tokens, by whether there is a label
abbrev placed_by : Bool → ℕ → Line → List Token
placed_by b at line = (if b then tokens.Label at ∷ sign signs.Colon ∷ [] else []) ++ line_tokens line

placed_back : (b : Bool) (at : ℕ) (line : Line) → placed_said at (placed_by b at line) ≡ Some (record { labelled = b; line = line })
placed_back true at line = rw (eq-eqb at at refl, line_back line) refl
placed_back false at line = bare at line ∙ ap (λ (o : Option Line). after_said o unlabelled) (line_back line)

placed_goes : (b : Bool) (at : ℕ) (line : Line) → is_end (placed_by b at line) ≡ false
placed_goes true at line = refl
placed_goes false at line = no_end line

placed_fits : (names : List (List ℕ)) (b : Bool) (at : ℕ) (line : Line) → nat_lt at (2 ^ 64) ≡ true → is_fitting_line names line ≡ true
    → list_all (is_fitting names) (placed_by b at line) ≡ true
placed_fits names true at line lt fits = and_from (nat_lt at (2 ^ 64)) (list_all (is_fitting names) (line_tokens line)) lt fits
placed_fits names false at line lt fits = fits

-- ---- one line after another

code_goes : (name : List ℕ) (names : List (List ℕ)) (code : List Line) (at : ℕ) (line : Line) (rest : List Line) (more : List ℕ)
    → code_text name names code at (line ∷ rest) ++ more ≡ token_bytes name names (placed_tokens code at line) ++ 10 ∷ (code_text name names code (at + 1) rest ++ more)
code_goes name names code at line rest more =
    ap (λ (l : List ℕ). l ++ more) (append_assoc (token_bytes name names (placed_tokens code at line)) (10 ∷ []) (code_text name names code (at + 1) rest))
    ∙ append_assoc (token_bytes name names (placed_tokens code at line)) (10 ∷ code_text name names code (at + 1) rest) more

pub code_back : (name : List ℕ) (names : List (List ℕ)) (code : List Line) (at : ℕ) (rest : List Line) (tail : List ℕ) → is_name name ≡ true → are_names names ≡ true
    → at + length rest ≤ 2 ^ 64 → list_all (is_fitting_line names) rest ≡ true
    → code_said name names at (lines_of (code_text name names code at rest ++ (token_line name names (sign signs.CloseBrace ∷ []) ++ tail)))
    ≡ Some (record { placed = marked code at rest; rest = lines_of tail })
code_back name names code at [] tail is are room fits = refl
code_back name names code at (line ∷ rest) tail is are room fits =
    let parts = and_parts (is_fitting_line names line) (list_all (is_fitting_line names) rest) fits in
    let here : nat_lt at (2 ^ 64) ≡ true = (let lt : at < 2 ^ 64 = omega (arith, room) in grind (arith, nat_tests)) in
    let b = list_any (jumps_to at) code in
    let fit = placed_fits names b at line here parts.0 in
    let more = token_line name names (sign signs.CloseBrace ∷ []) ++ tail in
    let next = code_back name names code (at + 1) rest tail is are (omega (arith, room)) parts.1 in
    let plain = words_plain (map (token_word name names) (placed_tokens code at line)) (are_words name names (placed_tokens code at line) is are fit) in
    let cut : lines_of (code_text name names code at (line ∷ rest) ++ more)
    ≡ token_bytes name names (placed_tokens code at line) ∷ lines_of (code_text name names code (at + 1) rest ++ more)
    = ap lines_of (code_goes name names code at line rest more) ∙ lines_of_line (token_bytes name names (placed_tokens code at line)) (code_text name names code (at + 1) rest ++ more) plain in
    ap (code_said name names at) cut ∙ steps (placed_by b at line) (record { labelled = b; line = line }) (lines_of (code_text name names code (at + 1) rest ++ more))
    (record { placed = marked code (at + 1) rest; rest = lines_of tail }) (bytes_back name names (placed_tokens code at line) is are fit) (placed_goes b at line) (placed_back b at line) next
  where
    steps : (ts : List Token) (placed : Placed) (after : List (List ℕ)) (read : CodeRead) → tokens_said name names (words_of (token_bytes name names (placed_tokens code at line))) ≡ Some ts
        → is_end ts ≡ false → placed_said at ts ≡ Some placed → code_said name names (at + 1) after ≡ Some read
        → code_said name names at (token_bytes name names (placed_tokens code at line) ∷ after) ≡ before placed read
    steps ts placed after read said goes is more = rw (said, goes, is, more) refl
