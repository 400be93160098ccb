-- What holds of texts that are read from a line on.
use Rattle.std.specs.Prelude.{◌≡◌, ℕ, ◌+◌, List, ◌∷◌, length, Ok}
use Rattle.oa_text.specs.Lines.{lines_of}
use Rattle.norm_lang.specs.declared.text.Text.{Text}
use Rattle.norm_lang.specs.declared.text.Version.{Version}
use Rattle.norm_lang.specs.declared.text.Version.TheVariants.{Second}
use Rattle.norm_lang.specs.Grammar.{Start, Opening, draft_at, after_line, Grammar}
use Rattle.norm_parser.specs.FrontRead.{front_read}

-- after a version line, a text of that version that goes up to the end of the input is the text that the bytes spell
abbrev pub FrontsAreTexts : Type 0
FrontsAreTexts =
    (bytes first : List ℕ) (rest : List (List ℕ)) (version : Version) (text : Text) → lines_of bytes ≡ first ∷ rest
    → after_line (draft_at Second Start) (record { number = 1; bytes = first }) ≡ Ok (draft_at version Opening)
    → front_read version bytes 2 ≡ Ok (text, length (lines_of bytes) + 1) → Grammar bytes text
