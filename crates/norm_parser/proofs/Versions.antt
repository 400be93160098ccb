-- The lines before a version line.
use Rattle.std.specs.Prelude.{◌≡◌, ℕ, ◌+◌, List, ◌∷◌, Some, None, Result, Ok, Err}
use Rattle.std.proofs.Common.{refl, sym, ap, ◌∙◌}
use Rattle.oa_text.specs.Lines.{TextLine}
use Rattle.norm_lang.specs.declared.text.Version.{Version}
use Rattle.norm_lang.specs.Faults.{LineFault}
use Rattle.norm_parser.specs.Cursors.{LinesLeft, rest_in, rest_of, StandsNext}
use Rattle.norm_parser.specs.Version.{line_version, after_version}

-- the version line ends them
pub version_here : (name : List ℕ) (past : ℕ) (version : Version) (line : TextLine) (left next : LinesLeft) (whole : Result (ℕ × Version) LineFault)
    → line_version name line ≡ Ok (Some version) → StandsNext line left → next ≡ rest_of left
    → after_version name past left.lines ≡ whole → whole ≡ Ok (next.number, version)
version_here name past version line left next whole read stands taken so_far =
    let is : left.lines ≡ line ∷ (rest_of left).lines = stands.first in
    let e : line.number + 1 ≡ next.number = ap (λ n. n + 1) stands.number ∙ sym (ap (λ ls. (rest_in left.number ls).number) is) ∙ sym (ap (λ (ls : LinesLeft). ls.number) taken) in
    sym so_far ∙ ap (after_version name past) is ∙ rw (read, e) refl

-- a line that is skipped leaves the others
pub version_skipped : (name : List ℕ) (past : ℕ) (line : TextLine) (left next : LinesLeft) (whole : Result (ℕ × Version) LineFault)
    → line_version name line ≡ Ok None → StandsNext line left → next ≡ rest_of left
    → after_version name past left.lines ≡ whole → after_version name past next.lines ≡ whole
version_skipped name past line left next whole read stands taken so_far =
    ap (λ (ls : LinesLeft). after_version name past ls.lines) taken
    ∙ sym (ap (after_version name past) stands.first ∙ rw read refl) ∙ so_far

pub version_faulty : (name : List ℕ) (past fault : ℕ) (line : TextLine) (left : LinesLeft) (whole : Result (ℕ × Version) LineFault)
    → line_version name line ≡ Err fault → StandsNext line left
    → after_version name past left.lines ≡ whole → whole ≡ Err (record { line = line.number; number = fault })
version_faulty name past fault line left whole read stands so_far = sym so_far ∙ ap (after_version name past) stands.first ∙ rw read refl
