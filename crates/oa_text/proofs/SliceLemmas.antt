-- Each token of a line is a slice of it.
use Rattle.std.proofs.Common.{◌≡◌, ℕ, zero, suc, ◌+◌, ◌-◌, ◌<◌, ◌≤◌, true, false, List, [], ◌∷◌, length, take, drop, get_or, eqb, ◌⊎◌, inl, inr, ⊎_elim, refl, sym, ap, ◌∙◌, arith}
use Rattle.std.proofs.lemmas.Bool.{cases_Bool, not-true, eqb-true}
use Rattle.std.proofs.lemmas.List.{drop-drop, get_or-drop, length-drop}
use Rattle.std.proofs.lemmas.List.Elements.{All-nil, All-cons}
use Rattle.std.proofs.lemmas.List.Folds.{length-prefix_len}
use Rattle.std.specs.List.{All, Any, prefix_len}
use Rattle.oa_text.specs.Tokens.{TextToken, is_blank, is_ink, is_edge, joined, tokens_from}
use Rattle.oa_text.specs.Slices.{IsTokenOf, Spans, TokensAreSlices, TokensHoldAll}
use Rattle.oa_text.proofs.TokenLemmas.{tokens_from_blank, cut_word, word_inked, word_ends, word_some}

-- what stands before a place is a blank, or the line's begin
abbrev IsGap : List ℕ → ℕ → Type 0
IsGap bytes at = (at ≡ 0) ⊎ (is_blank (get_or bytes (at - 1) 0) ≡ true)

step : (bytes rest : List ℕ) (at b : ℕ) → drop at bytes ≡ b ∷ rest → drop (at + 1) bytes ≡ rest
step bytes rest at b same = sym (drop-drop 1 at bytes) ∙ ap (drop 1) same

byte_at : (bytes rest : List ℕ) (at b : ℕ) → drop at bytes ≡ b ∷ rest → get_or bytes (at + 1 - 1) 0 ≡ b
byte_at bytes rest at b same =
    let place : at + 1 - 1 ≡ at + 0 = omega arith in
    rw place (sym (get_or-drop at bytes 0 0) ∙ ap (λ l. get_or l 0 0) same)

-- the word at a place
word_of : (bytes rest : List ℕ) (at b : ℕ) → drop at bytes ≡ b ∷ rest → IsGap bytes at → is_blank b ≡ false
    → IsTokenOf bytes (record { column = at + 1; bytes = take (prefix_len is_ink (b ∷ rest)) (b ∷ rest) })
word_of bytes rest at b same gap ink =
    let m = prefix_len is_ink (b ∷ rest) in
    let long : length (take m (b ∷ rest)) ≡ m = length-prefix_len is_ink (b ∷ rest) in
    let place : at + 1 - 1 ≡ at = omega arith in
    let front : at + 1 - 2 ≡ at - 1 = omega arith in
    let end : at + 1 + length (take m (b ∷ rest)) - 1 ≡ at + m = omega arith in
    record {
      place = omega arith;
      some = rw long (word_some b rest ink);
      inked = word_inked (b ∷ rest);
      slice = rw (place, same, long) refl;
      before = ⊎_elim (λ begin. inl (omega arith)) (λ blank. inr (rw front blank)) gap;
      after = rw (end, ← drop-drop m at bytes, same) (word_ends (b ∷ rest));
    }

walk : (n : ℕ) (bytes rest : List ℕ) (at : ℕ) → length rest ≤ n → drop at bytes ≡ rest → IsGap bytes at ⊎ (is_edge rest ≡ true)
    → All (IsTokenOf bytes) (tokens_from (at + 1) rest)
walk n bytes [] at le same gap = All-nil (IsTokenOf bytes)
walk zero bytes (b ∷ rest) at le same gap = absurd (omega arith)
walk (suc n) bytes (b ∷ rest) at le same gap =
    ⊎_elim
    (λ blank.
    let here : is_blank (get_or bytes (at + 1 - 1) 0) ≡ true = rw (byte_at bytes rest at b same) blank in
    rw (tokens_from_blank (at + 1) b rest blank) (walk n bytes rest (at + 1) (omega arith) (step bytes rest at b same) (inl (inr here))))
    (λ ink.
    let m = prefix_len is_ink (b ∷ rest) in
    let here : IsGap bytes at = ⊎_elim (λ gap. gap) (λ edge. let e : false ≡ true = sym ink ∙ edge in absurd (let f : ⊥ = cc in f)) gap in
    let some : 0 < m = word_some b rest ink in
    let short : length (drop m (b ∷ rest)) ≤ n = omega (arith, length-drop m (b ∷ rest)) in
    let left : drop (at + m) bytes ≡ drop m (b ∷ rest) = sym (drop-drop m at bytes) ∙ ap (drop m) same in
    let place : at + 1 + m ≡ at + m + 1 = omega arith in
    rw (cut_word (at + 1) b rest ink, place)
    (All-cons (IsTokenOf bytes) _ _ (word_of bytes rest at b same here ink) (walk n bytes (drop m (b ∷ rest)) (at + m) short left (inr (word_ends (b ∷ rest))))))
    (cases_Bool (is_blank b))

pub tokens_are_slices : TokensAreSlices
tokens_are_slices bytes = walk (length bytes) bytes bytes 0 (omega arith) refl (inl (inl refl))

any_here : {X : Type 0} (P : X → Type 0) (x : X) (xs : List X) → P x → Any P (x ∷ xs)
any_here P x xs holds = (0, x, omega arith, refl, holds)

any_there : {X : Type 0} (P : X → Type 0) (x : X) (xs : List X) → Any P xs → Any P (x ∷ xs)
any_there P x xs (k, y, lt, same, holds) = (suc k, y, omega arith, same, holds)

any_split : {X : Type 0} (P : X → Type 0) (x : X) (xs : List X) → Any P (x ∷ xs) → P x ⊎ Any P xs
any_split P x xs (zero, y, lt, same, holds) = inl (rw same holds)
any_split P x xs (suc k, y, lt, same, holds) = inr (k, y, omega arith, same, holds)

-- a byte goes on to the first token or makes one: it is held, and what was held is
joined_holds : (c b at : ℕ) (tokens : List TextToken) → (at ≡ c) ⊎ ((c < at) × Any (Spans at) tokens) → Any (Spans at) (joined c b tokens)
joined_holds c b at [] held =
    ⊎_elim
    (λ here. any_here (Spans at) _ [] (omega arith, omega arith))
    (λ there. let k : there.1.0 < 0 = there.1.2 in absurd (omega arith))
    held
joined_holds c b at (token ∷ tokens) held =
    ⊎_elim
    (λ same.
    let place : token.column ≡ c + 1 = eqb-true token.column (c + 1) same in
    rw same (⊎_elim
    (λ here. any_here (Spans at) _ tokens (omega arith, omega arith))
    (λ there.
    ⊎_elim
    (λ first. any_here (Spans at) _ tokens (omega (arith, first.0), omega (arith, first.1)))
    (λ other. any_there (Spans at) _ tokens other)
    (any_split (Spans at) token tokens there.1))
    held))
    (λ apart.
    rw apart (⊎_elim
    (λ here. any_here (Spans at) _ (token ∷ tokens) (omega arith, omega arith))
    (λ there. any_there (Spans at) _ (token ∷ tokens) there.1)
    held))
    (cases_Bool (eqb token.column (c + 1)))

held_from : (c k : ℕ) (bytes : List ℕ) → k < length bytes → is_ink (get_or bytes k 0) ≡ true → Any (Spans (c + k)) (tokens_from c bytes)
held_from c k [] lt ink = absurd (omega arith)
held_from c zero (b ∷ bytes) lt ink =
    let no : is_blank b ≡ false = not-true (is_blank b) ink in
    rw no (joined_holds c b (c + 0) (tokens_from (c + 1) bytes) (inl (omega arith)))
held_from c (suc k) (b ∷ bytes) lt ink =
    let place : c + 1 + k ≡ c + suc k = omega arith in
    let rest : Any (Spans (c + suc k)) (tokens_from (c + 1) bytes) = rw place at (held_from (c + 1) k bytes (omega arith) ink) in
    ⊎_elim
    (λ blank. rw blank rest)
    (λ no. rw no (joined_holds c b (c + suc k) (tokens_from (c + 1) bytes) (inr (omega arith, rest))))
    (cases_Bool (is_blank b))

pub tokens_hold_all : TokensHoldAll
tokens_hold_all bytes k lt ink = let place : 1 + k ≡ k + 1 = omega arith in rw place at (held_from 1 k bytes lt ink)
