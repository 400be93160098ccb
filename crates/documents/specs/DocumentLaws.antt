-- What holds of texts as documents.
use Rattle.std.specs.Prelude.{ℕ, List}
use Rattle.norm_lang.specs.declared.text.Text.{Text}
use Rattle.norm_lang.specs.Grammar.{Grammar}
use Rattle.documents.specs.DocumentRead.{bare_document, IsDocument}

-- bytes that stand for a text are in the grammar of documents: they stand for the text with the default settings, no
-- script and no schedule
abbrev pub TextsAreDocuments : Type 0
TextsAreDocuments = (bytes : List ℕ) (text : Text) → Grammar bytes text → IsDocument bytes (bare_document text)
