-- Replies that agree.
use Rattle.std.proofs.Common.{ℕ, zero, suc, ◌+◌, ◌<◌, ◌≤◌, ◌≡◌, ◌==◌, ◌&&◌, ◌||◌, ◌∙◌, ◌++◌, inl, inr, ◌↔◌, Bool, true, false, cond, List, [], ◌∷◌, length, take, Option, Some, None, sym, ap, refl, subst, arith}
use Rattle.std.specs.Bool.{Decides}
use Rattle.std.specs.Cmp.Lexicographic.{pointwise_decides}
use Rattle.std.proofs.lemmas.Bool.{eq-eqb, eqb-true, and_parts, or_cases, or_left, or_right, and_from}
use Rattle.std.specs.Prelude.{slice_get}
use Rattle.norm_lang.specs.declared.reply.SourceReply.{SourceReply}
use Rattle.norm_lang.specs.declared.reply.SourceReply.TheVariants as replies
use Rattle.event_judge.specs.Calls.{listed}
use Rattle.event_judge.specs.declared.verdict.Verdict.{Verdict}
use Rattle.event_judge.specs.declared.verdict.Verdict.TheVariants.{Accepted, Rejected}
use Rattle.event_judge.specs.declared.judging.Progress.{Progress}
use Rattle.event_judge.specs.Judging.{is_same_reply, are_same, is_one_more, agrees, agrees_after, found_from}
use Rattle.event_judge.specs.JudgingLaws.{AllEnded, LastIsOpen, Agrees}

-- ---- the same replies

-- an unlike pair
same_reply : (a b : SourceReply) → Decides (is_same_reply a b) (a ≡ b)
same_reply (replies.Number n) (replies.Number m) = (λ e. ap replies.Number (eqb-true n m e), λ e. eq-eqb n m (let z : replies.Number n ≡ replies.Number m = e in cc))
same_reply (replies.Number n) replies.Nothing = (λ e. absurd (let z : false ≡ true = e in cc), λ e. absurd (let z : replies.Number n ≡ replies.Nothing = e in cc))
same_reply (replies.Number n) replies.Full = (λ e. absurd (let z : false ≡ true = e in cc), λ e. absurd (let z : replies.Number n ≡ replies.Full = e in cc))
same_reply (replies.Number n) (replies.Phases q) = (λ e. absurd (let z : false ≡ true = e in cc), λ e. absurd (let z : replies.Number n ≡ replies.Phases q = e in cc))
same_reply replies.Nothing (replies.Number m) = (λ e. absurd (let z : false ≡ true = e in cc), λ e. absurd (let z : replies.Nothing ≡ replies.Number m = e in cc))
same_reply replies.Nothing replies.Nothing = (λ e. refl, λ e. refl)
same_reply replies.Nothing replies.Full = (λ e. absurd (let z : false ≡ true = e in cc), λ e. absurd (let z : replies.Nothing ≡ replies.Full = e in cc))
same_reply replies.Nothing (replies.Phases q) = (λ e. absurd (let z : false ≡ true = e in cc), λ e. absurd (let z : replies.Nothing ≡ replies.Phases q = e in cc))
same_reply replies.Full (replies.Number m) = (λ e. absurd (let z : false ≡ true = e in cc), λ e. absurd (let z : replies.Full ≡ replies.Number m = e in cc))
same_reply replies.Full replies.Nothing = (λ e. absurd (let z : false ≡ true = e in cc), λ e. absurd (let z : replies.Full ≡ replies.Nothing = e in cc))
same_reply replies.Full replies.Full = (λ e. refl, λ e. refl)
same_reply replies.Full (replies.Phases q) = (λ e. absurd (let z : false ≡ true = e in cc), λ e. absurd (let z : replies.Full ≡ replies.Phases q = e in cc))
same_reply (replies.Phases p) (replies.Number m) = (λ e. absurd (let z : false ≡ true = e in cc), λ e. absurd (let z : replies.Phases p ≡ replies.Number m = e in cc))
same_reply (replies.Phases p) replies.Nothing = (λ e. absurd (let z : false ≡ true = e in cc), λ e. absurd (let z : replies.Phases p ≡ replies.Nothing = e in cc))
same_reply (replies.Phases p) replies.Full = (λ e. absurd (let z : false ≡ true = e in cc), λ e. absurd (let z : replies.Phases p ≡ replies.Full = e in cc))
same_reply (replies.Phases p) (replies.Phases q) = (λ e. ap replies.Phases (eqb-true p q e), λ e. eq-eqb p q (let z : replies.Phases p ≡ replies.Phases q = e in cc))

pub same_replies : (xs ys : List SourceReply) → Decides (are_same xs ys) (xs ≡ ys)
same_replies xs ys = pointwise_decides same_reply xs ys

-- replies and one more
one_behind : (made claimed : List SourceReply) → length made ≡ length claimed + 1 → take (length claimed) made ≡ claimed
    → (reply : SourceReply) × (made ≡ claimed ++ reply ∷ [])
one_behind [] claimed many same = absurd (omega (arith, many))
one_behind (reply ∷ []) [] many same = (reply, refl)
one_behind (reply ∷ other ∷ made) [] many same = absurd (omega (arith, many))
one_behind (reply ∷ made) (first ∷ claimed) many same =
    let fewer : length made ≡ length claimed + 1 = omega (arith, many) in
    let heads : reply ≡ first = (let z : reply ∷ take (length claimed) made ≡ first ∷ claimed = same in cc) in
    let tails : take (length claimed) made ≡ claimed = (let z : reply ∷ take (length claimed) made ≡ first ∷ claimed = same in cc) in
    let rest = one_behind made claimed fewer tails in
    (rest.0, ap (λ xs. reply ∷ xs) rest.1 ∙ ap (λ x. x ∷ claimed ++ rest.0 ∷ []) heads)

taken : (claimed : List SourceReply) (reply : SourceReply) → take (length claimed) (claimed ++ reply ∷ []) ≡ claimed
taken [] reply = refl
taken (first ∷ claimed) reply = ap (λ xs. first ∷ xs) (taken claimed reply)

longer : (claimed : List SourceReply) (reply : SourceReply) → length (claimed ++ reply ∷ []) ≡ length claimed + 1
longer [] reply = omega arith
longer (first ∷ claimed) reply = let more : length (claimed ++ reply ∷ []) ≡ length claimed + 1 = longer claimed reply in omega (arith, more)

pub is_one_behind : (made claimed : List SourceReply) → is_one_more made claimed ≡ true → (reply : SourceReply) × (made ≡ claimed ++ reply ∷ [])
is_one_behind made claimed e =
    let parts = and_parts (length made == length claimed + 1) (are_same (take (length claimed) made) claimed) e in
    one_behind made claimed (eqb-true (length made) (length claimed + 1) parts.0) ((same_replies (take (length claimed) made) claimed).0 parts.1)

pub one_behind_is : (made claimed : List SourceReply) (reply : SourceReply) → made ≡ claimed ++ reply ∷ [] → is_one_more made claimed ≡ true
one_behind_is made claimed reply e = subst (λ xs. is_one_more xs claimed ≡ true) (sym e)
    (and_from (length (claimed ++ reply ∷ []) == length claimed + 1) (are_same (take (length claimed) (claimed ++ reply ∷ [])) claimed)
    (eq-eqb (length (claimed ++ reply ∷ [])) (length claimed + 1) (longer claimed reply))
    ((same_replies (take (length claimed) (claimed ++ reply ∷ [])) claimed).1 (taken claimed reply)))

-- ---- a caller

module _ (begun : ℕ) (idle : Bool) (made claimed : List SourceReply) where
  pub agrees_is : agrees begun idle made claimed ≡ true → Agrees begun idle made claimed
  agrees_is e = elim (or_cases (begun == length claimed && (idle && are_same made claimed)) (begun == length claimed + 1 && (are_same made claimed || is_one_more made claimed)) e) [
    | inl ended ↦
        let count = and_parts (begun == length claimed) (idle && are_same made claimed) ended in
        let rest = and_parts idle (are_same made claimed) count.1 in
        inl (record { counted = eqb-true begun (length claimed) count.0; is_idle = rest.0; same = (same_replies made claimed).0 rest.1 })
    | inr last ↦
        let count = and_parts (begun == length claimed + 1) (are_same made claimed || is_one_more made claimed) last in
        inr (record {
          counted = eqb-true begun (length claimed + 1) count.0;
          same = elim (or_cases (are_same made claimed) (is_one_more made claimed) count.1) [
            | inl same ↦ inl ((same_replies made claimed).0 same)
            | inr more ↦ inr (is_one_behind made claimed more)
          ];
        })
  ]

  pub is_agrees : Agrees begun idle made claimed → agrees begun idle made claimed ≡ true
  is_agrees a = elim a [
    | inl ended ↦ or_left (begun == length claimed && (idle && are_same made claimed)) (begun == length claimed + 1 && (are_same made claimed || is_one_more made claimed))
        (and_from (begun == length claimed) (idle && are_same made claimed) (eq-eqb begun (length claimed) ended.counted)
        (and_from idle (are_same made claimed) ended.is_idle ((same_replies made claimed).1 ended.same)))
    | inr last ↦ or_right (begun == length claimed && (idle && are_same made claimed)) (begun == length claimed + 1 && (are_same made claimed || is_one_more made claimed))
        (and_from (begun == length claimed + 1) (are_same made claimed || is_one_more made claimed) (eq-eqb begun (length claimed + 1) last.counted)
        (elim last.same [
          | inl same ↦ or_left (are_same made claimed) (is_one_more made claimed) ((same_replies made claimed).1 same)
          | inr more ↦ or_right (are_same made claimed) (is_one_more made claimed) (one_behind_is made claimed more.0 more.1)
        ]))
  ]

-- ---- all callers

module _ (progress : Progress) where
  first_plus : (c k : ℕ) → c + suc k ≡ (c + 1) + k
  first_plus c k = omega arith

  pub all_agree : (claims : List (List SourceReply)) (c : ℕ) → found_from c progress claims ≡ Accepted
      → (k : ℕ) → k < length claims → agrees_after progress (c + k) (listed (slice_get claims k)) ≡ true
  all_agree [] c e k below = absurd (omega (arith, below))
  all_agree (claimed ∷ claims) c e k below =
      of (agrees_after progress c claimed) refl e (λ h j under. all_agree claims (c + 1) h j under) k below where
        of : (b : Bool) → agrees_after progress c claimed ≡ b → cond b (found_from (c + 1) progress claims) (Rejected 3 c) ≡ Accepted
            → (found_from (c + 1) progress claims ≡ Accepted → (j : ℕ) → j < length claims → agrees_after progress ((c + 1) + j) (listed (slice_get claims j)) ≡ true)
            → (k : ℕ) → k < suc (length claims) → agrees_after progress (c + k) (listed (slice_get (claimed ∷ claims) k)) ≡ true
        of false h e more k below = absurd (let z : Rejected 3 c ≡ Accepted = e in cc)
        of true h e more zero below = let here : c + zero ≡ c = omega arith in subst (λ d. agrees_after progress d claimed ≡ true) (sym here) h
        of true h e more (suc k) below =
            let fewer : k < length claims = omega (arith, below) in
            subst (λ d. agrees_after progress d (listed (slice_get claims k)) ≡ true) (sym (first_plus c k)) (more e k fewer)

  pub is_accepted : (claims : List (List SourceReply)) (c : ℕ)
      → ((k : ℕ) → k < length claims → agrees_after progress (c + k) (listed (slice_get claims k)) ≡ true) → found_from c progress claims ≡ Accepted
  is_accepted [] c agree = refl
  is_accepted (claimed ∷ claims) c agree =
      let here : c + zero ≡ c = omega arith in
      let first : agrees_after progress c claimed ≡ true = subst (λ d. agrees_after progress d claimed ≡ true) here (agree zero (omega arith)) in
      ap (λ b. cond b (found_from (c + 1) progress claims) (Rejected 3 c)) first
      ∙ is_accepted claims (c + 1) (λ k below. subst (λ d. agrees_after progress d (listed (slice_get claims k)) ≡ true) (first_plus c k) (agree (suc k) (omega (arith, below))))
