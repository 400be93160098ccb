-- A line of replies with one reply more.
use Rattle.std.proofs.Common.{◌≡◌, ℕ, ◌+◌, ◌<◌, ◌≤◌, ◌++◌, [], ◌∷◌, List, length, take, get_or, rules, sym, ap, ◌∙◌}
use Rattle.std.specs.Prelude.{codes}
use Rattle.std.specs.List.{flat_map}
use Rattle.std.proofs.lemmas.List.{take_more, take_all, append_assoc}
use Rattle.std.proofs.lemmas.Grind.{flat_map-append}
use Rattle.norm_lang.specs.declared.reply.SourceReply.{SourceReply}
use Rattle.row_replies.specs.Replies.{reply_word, replies_line}

-- what stands in the line after some of the replies
abbrev pub so_far : List ℕ → List SourceReply → List ℕ
so_far before replies = before ++ (codes "replies" ++ flat_map reply_word replies)

pub replies_more : (before out more : List ℕ) (replies : List SourceReply) (i : ℕ) (d : SourceReply) → i < length replies → out ≡ so_far before (take i replies)
    → more ≡ out ++ reply_word (get_or replies i d) → more ≡ so_far before (take (i + 1) replies)
replies_more before out more replies i d lt is added =
    let single : flat_map reply_word (get_or replies i d ∷ []) ≡ reply_word (get_or replies i d) = search rules in
    added ∙ ap (λ (l : List ℕ). l ++ reply_word (get_or replies i d)) is
    ∙ append_assoc before (codes "replies" ++ flat_map reply_word (take i replies)) (reply_word (get_or replies i d))
    ∙ ap (λ (l : List ℕ). before ++ l) (append_assoc (codes "replies") (flat_map reply_word (take i replies)) (reply_word (get_or replies i d)))
    ∙ ap (λ (l : List ℕ). before ++ (codes "replies" ++ (flat_map reply_word (take i replies) ++ l))) (sym single)
    ∙ ap (λ (l : List ℕ). before ++ (codes "replies" ++ l)) (sym (flat_map-append reply_word (take i replies) (get_or replies i d ∷ [])))
    ∙ ap (λ (l : List SourceReply). so_far before l) (sym (take_more replies i d lt))

pub replies_end : (before out more : List ℕ) (replies : List SourceReply) (i : ℕ) → length replies ≤ i → out ≡ so_far before (take i replies)
    → more ≡ out ++ 10 ∷ [] → more ≡ before ++ replies_line replies
replies_end before out more replies i all is added =
    added ∙ ap (λ (l : List ℕ). l ++ 10 ∷ []) (is ∙ ap (λ (l : List SourceReply). so_far before l) (take_all i replies all))
    ∙ append_assoc before (codes "replies" ++ flat_map reply_word replies) (10 ∷ [])
    ∙ ap (λ (l : List ℕ). before ++ l) (append_assoc (codes "replies") (flat_map reply_word replies) (10 ∷ []))
