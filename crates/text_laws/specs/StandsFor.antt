-- Which bytes stand for a text, told by their lines and words: nothing here says how a reader goes over them.
use Rattle.std.specs.Prelude.{◌≡◌, ℕ, ◌≤◌, ◌⊎◌, ◌↔◌, Bool, true, false, ◌&&◌, ◌||◌, not, List, [], ◌∷◌, map, length, codes, decimal, nat_le, ◌==◌, IsTrue, ⊤}
use Rattle.std.specs.List.{list_all, filter}
use Rattle.oa_text.specs.declared.limits.TheConstants.{LONGEST_LINE}
use Rattle.oa_text.specs.Lines.{lines_of}
use Rattle.oa_text.specs.Tokens.{words_of}
use Rattle.norm_lang.specs.declared.text.Text.{Text}
use Rattle.norm_lang.specs.declared.text.Version.{Version}
use Rattle.norm_lang.specs.declared.text.Version.TheVariants.{First, Second}
use Rattle.norm_lang.specs.LineWords.{item_kind}
use Rattle.norm_lang.specs.Shipped.{set_text, queue_text}
use Rattle.norm_lang.specs.Spelling.{spelled_version, spelled_by}
use Rattle.norm_lang.specs.Limits.{IsWithinLimits}
use Rattle.norm_lang.specs.Grammar.{Grammar}

-- a tab, or a byte from space to `~`
abbrev pub is_plain_byte : ℕ → Bool
is_plain_byte b = (b == 9) || (nat_le 32 b && nat_le b 126)

-- a line of plain bytes, not too long
abbrev pub is_plain_line : List ℕ → Bool
is_plain_line line = nat_le (length line) LONGEST_LINE && list_all is_plain_byte line

-- every line of the bytes is plain and short enough, those that are skipped too
abbrev pub ArePlain : List ℕ → Type 0
ArePlain bytes = IsTrue (list_all is_plain_line (lines_of bytes))

-- a word that begins with `#`
abbrev pub begins_with_hash : List ℕ → Bool
begins_with_hash [] = false
begins_with_hash (b ∷ bytes) = b == 35

-- a line with these words is skipped: it is blank, or its first word begins with `#`
abbrev pub is_skipped : List (List ℕ) → Bool
is_skipped [] = true
is_skipped (word ∷ words) = begins_with_hash word

-- the lines that aren't skipped, each as its words
abbrev pub told_in : List (List ℕ) → List (List (List ℕ))
told_in lines = filter (λ words. not (is_skipped words)) (map words_of lines)

-- what the bytes tell: their lines that aren't skipped, each as its words
abbrev pub told : List ℕ → List (List (List ℕ))
told bytes = told_in (lines_of bytes)

-- the texts that a `use` line may name
pub data ShippedText : Type 0 where
  TheList : ShippedText
  TheSet : (buckets : ℕ) → ShippedText
  TheQueue : ShippedText

-- a set has 1 to 64 buckets
abbrev pub IsShipped : ShippedText → Type 0
IsShipped TheList = ⊤
IsShipped (TheSet buckets) = (1 ≤ buckets) × (buckets ≤ 64)
IsShipped TheQueue = ⊤

-- `use list`, `use set B` and `use queue`
abbrev pub spelled_use : ShippedText → List (List ℕ)
spelled_use TheList = codes "use" ∷ codes "list" ∷ []
spelled_use (TheSet buckets) = codes "use" ∷ codes "set" ∷ decimal buckets ∷ []
spelled_use TheQueue = codes "use" ∷ codes "queue" ∷ []

-- the text that a `use` line names: a list is a set of one bucket
abbrev pub shipped_text : ShippedText → Text
shipped_text TheList = set_text 1
shipped_text (TheSet buckets) = set_text buckets
shipped_text TheQueue = queue_text

-- the kinds that a text of a version has: in the first one the kind `item` alone
abbrev pub KindsOf : Version → List (List ℕ) → Type 0
KindsOf First kinds = kinds ≡ item_kind ∷ []
KindsOf Second kinds = ⊤

-- a text may stand in a version: any text in the second one
abbrev pub MayBeIn : Version → Text → Type 0
MayBeIn version text = KindsOf version text.kinds

-- the lines of words are those of the text's spelling in a version
abbrev pub SpellsText : List (List (List ℕ)) → Text → Type 0
SpellsText lines text = (version : Version) × MayBeIn version text × (lines ≡ spelled_by version text)

-- the lines of words are a version line and a `use` line that names the text
abbrev pub NamesText : List (List (List ℕ)) → Text → Type 0
NamesText lines text =
    (version : Version) × (shipped : ShippedText) × IsShipped shipped × (lines ≡ spelled_version version ∷ spelled_use shipped ∷ []) × (text ≡ shipped_text shipped)

-- the lines of words say the text: they spell it, or name it
abbrev pub SaysText : List (List (List ℕ)) → Text → Type 0
SaysText lines text = SpellsText lines text ⊎ NamesText lines text

-- bytes stand for a text exactly if every line is plain and short enough, the text is within the limits, and the lines
-- that aren't skipped say it, word for word
abbrev pub TextsAreSaid : Type 0
TextsAreSaid = (bytes : List ℕ) (text : Text) → Grammar bytes text ↔ (ArePlain bytes × IsWithinLimits text × SaysText (told bytes) text)
