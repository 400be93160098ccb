-- The first word of bytes.
use Rattle.std.proofs.Common.{◌≡◌, ℕ, List, [], ◌∷◌, take, drop, map, refl, sym, ap, arith}
use Rattle.std.specs.List.{prefix_len}
use Rattle.oa_text.specs.Tokens.{TextToken, is_blank, is_ink, words_of}
use Rattle.oa_text.proofs.TokenLemmas.{no_token, first_token}
use Rattle.std.proofs.lemmas.List.Sums.{prefix_len-le-length}
use Rattle.norm_parser.specs.FrontRead.{front_of}

-- blanks and words at the start are no longer than the bytes
pub ruleset fronts = (prefix_len-le-length)

abbrev front_in : List TextToken → List ℕ
front_in tokens = front_of (map (λ (token : TextToken). token.bytes) tokens)

-- after the blanks at the start, up to the next blank
pub front_word : (bytes inked word : List ℕ) (n m : ℕ) → n ≡ prefix_len is_blank bytes → inked ≡ drop n bytes → m ≡ prefix_len is_ink inked
    → word ≡ take m inked → word ≡ front_of (words_of bytes)
front_word bytes [] word n m skipped behind count front =
    let none : m ≡ 0 = count in
    rw (front, none) (sym (ap front_in (no_token 1 n bytes [] skipped behind refl)))
front_word bytes (b ∷ inked) word n m skipped behind count front =
    sym (ap front_in (first_token 1 n m bytes (b ∷ inked) word (drop m (b ∷ inked)) skipped behind (omega arith) count front refl))
