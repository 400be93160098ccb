-- Replies in a line of a row's answer.
use Rattle.std.specs.Prelude.{ℕ, List, [], ◌∷◌, ◌++◌, codes, decimal}
use Rattle.std.specs.List.{flat_map}
use Rattle.norm_lang.specs.declared.reply.SourceReply.{SourceReply}
use Rattle.norm_lang.specs.declared.reply.SourceReply.TheVariants.{Number, Nothing, Full, Phases}

-- the word for a reply, with a space before it
abbrev pub reply_word : SourceReply → List ℕ
reply_word (Number n) = codes " Number(" ++ (decimal n ++ codes ")")
reply_word Nothing = codes " Nothing"
reply_word Full = codes " Full"
reply_word (Phases phase) = codes " Phases(" ++ (decimal phase ++ codes ")")

-- the line with replies in their order
abbrev pub replies_line : List SourceReply → List ℕ
replies_line replies = codes "replies" ++ (flat_map reply_word replies ++ 10 ∷ [])
