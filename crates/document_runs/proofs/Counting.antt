-- The counts of calls that returned and that didn't.
use Rattle.std.proofs.Common.{◌≡◌, ℕ, suc, ◌+◌, ◌-◌, ◌<◌, ◌≤◌, Bool, true, false, not, cond, List, [], ◌∷◌, length, drop, get_or, refl, sym, ap, ◌∙◌, arith}
use Rattle.std.proofs.lemmas.List.{drop_more, drop_all}
use Rattle.std.proofs.lemmas.List.Sums.{sum_by-cons}
use Rattle.std.specs.List.{count_by}
use Rattle.document_runs.specs.declared.report.ReportLine.{ReportLine}
use Rattle.document_runs.specs.Texts.{is_answered, is_answered_line, is_short_line}

count_more : (p : ReportLine → Bool) (line : ReportLine) (rest : List ReportLine) (b : Bool) → p line ≡ b → count_by p (line ∷ rest) ≡ cond b 1 0 + count_by p rest
count_more p line rest b is = sum_by-cons (λ (x : ReportLine). cond (p x) 1 0) line rest ∙ ap (λ (v : Bool). cond v 1 0 + count_by p rest) is

turn : (lines : List ReportLine) (i : ℕ) (d : ReportLine) (b : Bool) → i < length lines → b ≡ is_answered (get_or lines i d).answer
    → count_by is_answered_line (drop i lines) ≡ cond b 1 0 + count_by is_answered_line (drop (i + 1) lines)
turn lines i d b lt is = rw (drop_more lines i d lt) (count_more is_answered_line (get_or lines i d) (drop (i + 1) lines) b (sym is))

pub counts_more : (lines : List ReportLine) (i count whole : ℕ) (d : ReportLine) → i < length lines → true ≡ is_answered (get_or lines i d).answer
    → count + count_by is_answered_line (drop i lines) ≡ whole → (count + 1) + count_by is_answered_line (drop (i + 1) lines) ≡ whole
counts_more lines i count whole d lt is so_far = let one = turn lines i d true lt is in omega (arith, one, so_far)

pub counts_same : (lines : List ReportLine) (i count whole : ℕ) (d : ReportLine) → i < length lines → false ≡ is_answered (get_or lines i d).answer
    → count + count_by is_answered_line (drop i lines) ≡ whole → count + count_by is_answered_line (drop (i + 1) lines) ≡ whole
counts_same lines i count whole d lt is so_far = let none = turn lines i d false lt is in omega (arith, none, so_far)

nothing_left : (lines : List ReportLine) (i : ℕ) → length lines ≤ i → count_by is_answered_line (drop i lines) ≡ 0
nothing_left lines i le = rw (drop_all i lines le) refl

pub counts_all : (lines : List ReportLine) (i count whole : ℕ) → length lines ≤ i → count + count_by is_answered_line (drop i lines) ≡ whole → count ≡ whole
counts_all lines i count whole le so_far = let none = nothing_left lines i le in omega (arith, none, so_far)

both : (b : Bool) (n m : ℕ) → (cond b 1 0 + n) + (cond (not b) 1 0 + m) ≡ suc (n + m)
both true n m = omega arith
both false n m = omega arith

-- each call returned or it didn't
count_all : (lines : List ReportLine) → count_by is_answered_line lines + count_by is_short_line lines ≡ length lines
count_all [] = refl
count_all (line ∷ lines) =
    rw (count_more is_answered_line line lines (is_answered line.answer) refl, count_more is_short_line line lines (not (is_answered line.answer)) refl)
    (both (is_answered line.answer) (count_by is_answered_line lines) (count_by is_short_line lines) ∙ ap suc (count_all lines))

pub counts_left : (lines : List ReportLine) → length lines - count_by is_answered_line lines ≡ count_by is_short_line lines
counts_left lines = omega (arith, count_all lines)
