-- The lines up to the version line with which a document or a target begins: its name, `oa` or `oat`, and the version.
use Rattle.std.specs.Prelude.{◌≡◌, ◌⊎◌, ℕ, ◌+◌, ◌-◌, ◌==◌, List, [], ◌∷◌, Option, Some, None, Result, Ok, Err, if◌then◌else◌}
use Rattle.std.specs.Str.{bytes_eq}
use Rattle.oa_text.specs.Lines.{TextLine}
use Rattle.norm_lang.specs.declared.text.Version.{Version}
use Rattle.norm_lang.specs.declared.text.Version.TheVariants.{First, Second}
use Rattle.norm_lang.specs.Faults.{LineFault, form_fault, ◌>>=◌, at_line}
use Rattle.norm_lang.specs.Declarations.{version_line}
use Rattle.line_words.specs.Lines.{words_in, first_word}

-- the number of a version
abbrev pub IsVersionNumber : ℕ → Type 0
IsVersionNumber n = (n ≡ 1) ⊎ (n ≡ 2)

-- the version with a number
abbrev pub numbered_version : ℕ → Version
numbered_version n = if n == 1 then First else Second

-- the version that the words of a line say: a line that is skipped says none, and any other that isn't the version line is
-- faulty
abbrev pub version_said : List ℕ → Option (List ℕ × List (List ℕ)) → Result (Option Version) ℕ
version_said name None = Ok None
version_said name (Some word) =
    if bytes_eq word.0 name then (version_line word.1 >>= λ version. Ok (Some version))
    else Err form_fault

-- the same by its bytes, which are judged first, even if it is skipped
abbrev pub line_version : List ℕ → TextLine → Result (Option Version) ℕ
line_version name line = words_in line >>= λ words. version_said name (first_word words)

-- the number of the line after the version line, with its version, or else what the lines after say
abbrev pub version_or : Option Version → ℕ → Result (ℕ × Version) LineFault → Result (ℕ × Version) LineFault
version_or None line next = next
version_or (Some version) line next = Ok (line + 1, version)

-- the number of the line after the version line, and the version, where `past` is one more than the last line's number
abbrev pub after_version : List ℕ → ℕ → List TextLine → Result (ℕ × Version) LineFault
after_version name past [] = Err (record { line = past; number = form_fault })
after_version name past (line ∷ lines) = do
  said ← at_line line.number (line_version name line)
  version_or said line.number (after_version name past lines)

-- the number of the line after a version line of the second version. One of the first is faulty
abbrev pub of_second : ℕ → Version → Result ℕ LineFault
of_second next Second = Ok next
of_second next First = Err (record { line = next - 1; number = form_fault })

-- the number of the line after the version line, which must be that of the second version
abbrev pub after_second_version : List ℕ → ℕ → List TextLine → Result ℕ LineFault
after_second_version name past lines = do
  next ← after_version name past lines
  of_second next.0 next.1
