-- A line that shows one byte more.
use Rattle.std.proofs.Common.{◌≡◌, ℕ, ◌+◌, ◌<◌, ◌++◌, [], ◌∷◌, List, length, take, get_or, rules, sym, ap, ◌∙◌}
use Rattle.std.specs.Prelude.{encode_utf8}
use Rattle.std.proofs.lemmas.List.{take_more}
use Rattle.std.proofs.lemmas.Grind.{flat_map-append}
use Rattle.row_spelling.specs.OneLine.{shown, one_line}

pub line_more : (bytes line more : List ℕ) (i d : ℕ) → i < length bytes → line ≡ one_line (take i bytes) → more ≡ line ++ encode_utf8 (shown (get_or bytes i d)) → more ≡ one_line (take (i + 1) bytes)
line_more bytes line more i d lt is pushed =
    let single : one_line (get_or bytes i d ∷ []) ≡ encode_utf8 (shown (get_or bytes i d)) = search rules in
    pushed ∙ ap (λ (l : List ℕ). l ++ encode_utf8 (shown (get_or bytes i d))) is
    ∙ ap (λ (l : List ℕ). one_line (take i bytes) ++ l) (sym single)
    ∙ sym (flat_map-append (λ b. encode_utf8 (shown b)) (take i bytes) (get_or bytes i d ∷ []))
    ∙ ap one_line (sym (take_more bytes i d lt))
