-- The header of a text: a pool of nodes of its kinds that opens with its initial nodes and the first values of its roots, and a claim for each kind. It reads back, and its places are elements of arrays.
use Rattle.std.specs.Prelude.{◌≡◌, ℕ, zero, suc, ◌+◌, ◌^◌, ◌<◌, ◌≤◌, true, List, [], ◌∷◌, length, nat_le, Some, if◌then◌else◌}
use Rattle.norm_lang.specs.KindFields.{fields_of}
use Rattle.norm_lang.specs.Limits.{IsWithinLimits}
use Rattle.norm_lang.specs.LineWords.{is_name}
use Rattle.norm_lang.specs.declared.text.Text.{Text}
use Rattle.oa_words.specs.Within.{AreKinds}
use Rattle.c_language.specs.declared.lines.Line.{Line}
use Rattle.c_language.specs.Steps.{Pool}
use Rattle.c_runtime.specs.ClaimLines.{claim_lines}
use Rattle.c_printer.specs.Header.{header_text}
use Rattle.c_printer.specs.FileRead.{header_said}
use Rattle.c_printer.specs.Lvalues.{PlacesAreLvalues}

-- the least power of two that is no less than so many fields, of which there are at most four
abbrev pub stride_of : ℕ → ℕ
stride_of fields = if nat_le fields 1 then 1 else (if nat_le fields 2 then 2 else 4)

-- what this gives for so many numbers, from one on
abbrev pub counted : {A : Type 0} → (ℕ → A) → ℕ → ℕ → List A
counted f k zero = []
counted f k (suc count) = f k ∷ counted f (k + 1) count

-- how many fields nodes of a kind have
abbrev pub field_count : Text → ℕ → ℕ
field_count text k = length (fields_of k text.fields)

abbrev pub kind_stride : Text → ℕ → ℕ
kind_stride text k = stride_of (field_count text k)

abbrev pub strides_of : Text → List ℕ
strides_of text = counted (kind_stride text) 0 (length text.kinds)

abbrev pub claim_of : ℕ → ℕ → List Line
claim_of kinds k = claim_lines k kinds

abbrev pub claims_of : ℕ → List (List Line)
claims_of kinds = counted (claim_of kinds) 0 kinds

abbrev pub emitted : List ℕ → Text → List ℕ
emitted name text = header_text name (strides_of text) text.roots text.nodes (claims_of (length text.kinds)) []

-- the bytes of an emitted header say the claims of the text's kinds, and no other function
abbrev pub EmittedReadsBack : Type 0
EmittedReadsBack =
    (name : List ℕ) (text : Text) → is_name name ≡ true → length text.kinds ≤ 4
    → header_said name (strides_of text) text.roots text.nodes (length text.kinds) [] (emitted name text) ≡ Some (claims_of (length text.kinds))

-- a pool for a text: its nodes have the fields of their kinds, its roots are the text's, and it has fewer than 2^32 slots
pub record IsPoolOf (text : Text) (pool : Pool) : Type 0 where
  pub kinds : AreKinds pool.sizes
  pub count : length pool.sizes.kinds ≡ length text.kinds
  pub fields : pool.fields ≡ counted (field_count text) 0 (length text.kinds)
  pub slots : pool.sizes.slots < 2 ^ 32
  pub cells : pool.sizes.cells ≡ length text.roots

-- the emitted strides have room for the fields of each kind: each printed place is an element inside its array, and the words are told apart
abbrev pub EmittedPlacesStandApart : Type 0
EmittedPlacesStandApart = (text : Text) (pool : Pool) → IsWithinLimits text → IsPoolOf text pool → PlacesAreLvalues pool (strides_of text)
