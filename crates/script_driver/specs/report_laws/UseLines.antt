-- Documents with a `use` line.
use Rattle.std.specs.Prelude.{◌≡◌, ℕ, ◌+◌, Bool, List, length, Some, Ok, codes}
use Rattle.std.specs.List.{find}
use Rattle.oa_text.specs.Lines.{TextLine, lines_of, numbered}
use Rattle.oa_text.specs.Tokens.{words_of}
use Rattle.norm_lang.specs.declared.text.Version.{Version}
use Rattle.norm_parser.specs.FrontRead.{from_line, line_word, names_text, text_lines}
use Rattle.norm_parser.specs.Version.{after_version}
use Rattle.documents.specs.declared.document.Document.{Document}
use Rattle.documents.specs.DocumentRead.{IsDocument}
use Rattle.script_driver.specs.report_laws.Sources.{IsNamed}

-- a line that begins with the word `use`
abbrev pub is_use_line : TextLine → Bool
is_use_line line = names_text (line_word line)

-- among the lines of a document's text, those after its version line and before its settings and scripts, this is the first `use` line
pub record HasUseLine (bytes : List ℕ) : Type 0 where
  pub start : ℕ
  pub version : Version
  pub begins : after_version (codes "oa") (length (lines_of bytes) + 1) (numbered 1 (lines_of bytes)) ≡ Ok (start, version)
  pub line : TextLine
  pub first : find is_use_line (text_lines (from_line start (numbered 1 (lines_of bytes)))) ≡ Some line

-- its text is the one that the words of this line name
abbrev pub UseLinesName : Type 0
UseLinesName = (bytes : List ℕ) (document : Document) → IsDocument bytes document → (has : HasUseLine bytes) → IsNamed (words_of has.line.bytes) document.text
