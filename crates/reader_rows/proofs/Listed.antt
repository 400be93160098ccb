-- A row of names, name by name.
use Rattle.std.proofs.Common.{◌≡◌, ℕ, ◌+◌, ◌<◌, ◌≤◌, Bool, List, ◌∷◌, length, map, drop, get_or, sym, ap, ◌∙◌, Bor}
use Rattle.std.proofs.lemmas.List.{drop_more, drop_all}
use Rattle.reader_rows.specs.Answers.{with_answer, names_after}

abbrev pub texts : List (Bor (List ℕ)) → List (List ℕ)
texts names = map (λ name. name.now) names

-- what is left gives what the whole gives
pub names_turn : (names : List (Bor (List ℕ))) (answers : List Bool) (row next whole : List ℕ) (i : ℕ) (d : Bor (List ℕ)) (e : Bool) → i < length names → i < length answers
    → next ≡ with_answer row (get_or names i d).now (get_or answers i e)
    → names_after row (texts (drop i names)) (drop i answers) ≡ whole → names_after next (texts (drop (i + 1) names)) (drop (i + 1) answers) ≡ whole
names_turn names answers row next whole i d e lt there is so_far =
    ap (λ r. names_after r (texts (drop (i + 1) names)) (drop (i + 1) answers)) is
    ∙ sym (ap (λ l. names_after row (texts l) (drop i answers)) (drop_more names i d lt)
    ∙ ap (λ l. names_after row (texts (get_or names i d ∷ drop (i + 1) names)) l) (drop_more answers i e there))
    ∙ so_far

pub names_end : (names : List (Bor (List ℕ))) (answers : List Bool) (row whole : List ℕ) (i : ℕ) → length names ≤ i
    → names_after row (texts (drop i names)) (drop i answers) ≡ whole → row ≡ whole
names_end names answers row whole i all so_far = sym (ap (λ l. names_after row (texts l) (drop i answers)) (drop_all i names all)) ∙ so_far
