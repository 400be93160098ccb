-- Text with a name and numbers in their places.
use Rattle.std.specs.Prelude.{ℕ, List, [], ◌∷◌, decimal, if◌then◌else◌, ◌==◌}
use Rattle.std.specs.List.{flat_map}

-- `@` stands for the name, `$` and `~` for the numbers
abbrev pub filled_byte : List ℕ → ℕ → ℕ → ℕ → List ℕ
filled_byte name first second byte =
    if byte == 64 then name
    else (if byte == 36 then decimal first
    else (if byte == 126 then decimal second
    else byte ∷ []))

abbrev pub filled : List ℕ → ℕ → ℕ → List ℕ → List ℕ
filled name first second text = flat_map (filled_byte name first second) text
