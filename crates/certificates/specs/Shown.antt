-- What contracts see of what the reader has.
use Rattle.oa_text.specs.Shown.{line_shown}
use Rattle.certificates.specs.EventLines.{ReplyWord, Spelled, Nothing, Full, Phases}
use Rattle.certificates.specs.declared.replies.ReplyWord.{ReplyWord as ReadWord}
use Rattle.certificates.specs.declared.replies.ReplyWord.TheVariants as read
use Rattle.certificates.specs.declared.cut.Cut.{Cut as FoundCut}
use Rattle.certificates.specs.CertificateRead.{Cut}

-- a reply as it is spelled
abbrev pub reply_word_shown : ReadWord → ReplyWord
reply_word_shown (read.Spelled number) = Spelled number
reply_word_shown read.Nothing = Nothing
reply_word_shown read.Full = Full
reply_word_shown (read.Phases phase) = Phases phase

-- where the document ends
abbrev pub cut_shown : FoundCut → Cut
cut_shown cut = record { before = cut.before; line = line_shown cut.line; behind = cut.behind }
