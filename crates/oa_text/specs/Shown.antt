-- What contracts see of lines and tokens: their numbers and their bytes.
use Rattle.oa_text.specs.Lines.{TextLine}
use Rattle.oa_text.specs.Tokens.{TextToken}
use Rattle.oa_text.specs.declared.line.Line.{Line}
use Rattle.oa_text.specs.declared.token.Token.{Token}

abbrev pub line_shown : Line → TextLine
line_shown line = record { number = line.number; bytes = line.bytes.now }

abbrev pub token_shown : Token → TextToken
token_shown token = record { column = token.column; bytes = token.bytes.now }
