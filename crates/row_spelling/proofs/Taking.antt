-- The lines with names after a line that names some, or none.
use Rattle.std.proofs.Common.{◌≡◌, ℕ, ◌++◌, [], ◌∷◌, List, Option, Some, None, map, sym, ap, ◌∙◌}
use Rattle.std.specs.Option.{option_to_list}
use Rattle.std.proofs.lemmas.List.{map-append, append-nil}
use Rattle.row_spelling.specs.Spelling.{named_shown}
use Rattle.row_spelling.specs.declared.spelling.NamedLines.{NamedLines}

pub taken : (old new : List NamedLines) (lines : NamedLines) (read : Option (List ℕ × List ℕ)) → read ≡ Some (named_shown lines) → new ≡ old ++ lines ∷ [] → map named_shown new ≡ map named_shown old ++ option_to_list read
taken old new lines read is pushed =
    ap (map named_shown) pushed ∙ map-append named_shown old (lines ∷ []) ∙ ap (λ (o : Option (List ℕ × List ℕ)). map named_shown old ++ option_to_list o) (sym is)

pub not_taken : (old new : List NamedLines) (read : Option (List ℕ × List ℕ)) → read ≡ None → new ≡ old → map named_shown new ≡ map named_shown old ++ option_to_list read
not_taken old new read is same =
    ap (map named_shown) same ∙ sym (append-nil (map named_shown old)) ∙ ap (λ (o : Option (List ℕ × List ℕ)). map named_shown old ++ option_to_list o) (sym is)
