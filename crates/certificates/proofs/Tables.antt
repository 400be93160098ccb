-- Lists of replies that grow.
use Rattle.std.proofs.Common.{ℕ, suc, ◌-◌, ◌<◌, ◌≤◌, ◌≡◌, ◌∙◌, ◌++◌, List, [], ◌∷◌, length, replicate, sym, ap, arith, append_assoc, length-append}
use Rattle.std.proofs.lemmas.List.{append-nil}
use Rattle.norm_lang.specs.declared.reply.SourceReply.{SourceReply}
use Rattle.certificates.specs.Accounts.{grown}

-- one more empty list is one of those to come
pub grown_more : (count : ℕ) (lists : List (List SourceReply)) → length lists < count → grown count (lists ++ [] ∷ []) ≡ grown count lists
grown_more count lists below =
    let less : count - length lists ≡ suc (count - length (lists ++ [] ∷ [])) = omega (arith, below, length-append lists ([] ∷ [])) in
    append_assoc lists ([] ∷ []) (replicate (count - length (lists ++ [] ∷ [])) [])
    ∙ ap (λ (n : ℕ). lists ++ replicate n []) (sym less)

-- there are so many
pub grown_whole : (count : ℕ) (lists : List (List SourceReply)) → count ≤ length lists → grown count lists ≡ lists
grown_whole count lists enough =
    let none : count - length lists ≡ 0 = omega (arith, enough) in
    ap (λ (n : ℕ). lists ++ replicate n []) none ∙ append-nil lists
