-- Bytes in one line of text.
use Rattle.std.specs.Prelude.{ℕ, List, ◌==◌, if◌then◌else◌, encode_utf8}
use Rattle.std.specs.List.{flat_map}

-- the character that stands for a byte: `|` for a newline, and else the one with this number
abbrev pub shown : ℕ → ℕ
shown b = if b == 10 then 124 else b

-- the bytes of the line that shows bytes
abbrev pub one_line : List ℕ → List ℕ
one_line bytes = flat_map (λ b. encode_utf8 (shown b)) bytes
