-- The cells of a word: numbers below 2^64, of which most are small, and many 0.
use Rattle.std.specs.Prelude.{ℕ, ◌+◌, ◌-◌, ◌*◌, ◌%◌, ◌^◌, List, [], ◌∷◌, ◌++◌, replicate, nat_lt, if◌then◌else◌}

abbrev pub joined : ℕ → ℕ → ℕ → ℕ
joined high base low = ((high * base) % (2 ^ 64) + low) % (2 ^ 64)

-- A byte below 128 ends a number with its last seven bits. One from 128 to 191 stands for so many zeros, less 127. One from 192 on has six
-- bits of a number that goes on.
abbrev pub cells_by : ℕ → ℕ → List ℕ
cells_by high byte = if nat_lt byte 128 then joined high 128 byte ∷ [] else (if nat_lt byte 192 then replicate (byte - 127) 0 else [])

abbrev pub high_after : ℕ → ℕ → ℕ
high_after high byte = if nat_lt byte 192 then 0 else joined high 64 (byte - 192)

abbrev pub cells_from : ℕ → List ℕ → List ℕ
cells_from high [] = []
cells_from high (byte ∷ bytes) = cells_by high byte ++ cells_from (high_after high byte) bytes
