-- What a spelling spells.
use Rattle.std.specs.Prelude.{ℕ, ◌+◌, ◌-◌, ◌*◌, ◌/◌, ◌%◌, ◌^◌, ◌&&◌, ◌==◌, if◌then◌else◌, List, [], ◌∷◌, ◌++◌, length, Option, Some, None, nat_lt, nat_le}
use Rattle.std.specs.List.{flat_map, slice_split, before_first, after_first, position_or_len, range_with_len}
use Rattle.std.specs.Option.{option_map, option_and_then}
use Rattle.std.specs.Fmt.{decimal}
use Rattle.std.specs.Str.{bytes_eq, all_ascii_digits}
use Rattle.std.specs.Str.Parse.{digits_value, without_leading_plus}
use Rattle.std.specs.String.{string_bytes}
use Rattle.std.specs.Vec.{vec_items}
use Rattle.row_spelling.specs.declared.spelling.NamedLines.{NamedLines}

-- the number that a hexadecimal digit is, with small letters
abbrev pub hex_digit : ℕ → Option ℕ
hex_digit c = if nat_le 48 c && nat_le c 57 then Some (c - 48) else if nat_le 97 c && nat_le c 102 then Some (c - 97 + 10) else None

-- the two letters of a copy
abbrev pub letters : ℕ → List ℕ
letters copy = (97 + copy / 26 % 26) ∷ (97 + copy % 26) ∷ []

-- what a byte spells in a copy: `|` a newline, `%` the copy's number, `&` its letters, and each other byte itself
abbrev pub byte_spelled : ℕ → ℕ → List ℕ
byte_spelled copy b = if b == 124 then 10 ∷ [] else if b == 37 then decimal copy else if b == 38 then letters copy else b ∷ []

-- what bytes without an escape spell in a copy
abbrev pub plain_spelled : ℕ → List ℕ → List ℕ
plain_spelled copy bytes = flat_map (byte_spelled copy) bytes

-- old bytes, and those that are spelled at their end
abbrev pub onto : List ℕ → Option (List ℕ) → Option (List ℕ)
onto old None = None
onto old (Some bytes) = Some (old ++ bytes)

-- what is spelled by one thing, and then by another
abbrev pub followed : Option (List ℕ) → Option (List ℕ) → Option (List ℕ)
followed None more = None
followed (Some bytes) more = onto bytes more

-- what several things spell, one after another
abbrev pub all_spelled : {X : Type 0} → (X → Option (List ℕ)) → List X → Option (List ℕ)
all_spelled spell [] = Some []
all_spelled spell (x ∷ xs) = followed (spell x) (all_spelled spell xs)

-- what a text spells whose parts stand between marks: by one rule up to the first mark, and by another after each
abbrev pub parts_spelled : (List ℕ → Option (List ℕ)) → (List ℕ → Option (List ℕ)) → List (List ℕ) → Option (List ℕ)
parts_spelled before after [] = Some []
parts_spelled before after (part ∷ parts) = followed (before part) (all_spelled after parts)

-- the parts of a text between the bytes that are this mark
abbrev pub parts_at : ℕ → List ℕ → List (List ℕ)
parts_at mark text = slice_split (λ b. b == mark) text

-- what stands before the first mark, and what stands after it
abbrev pub cut_at : ℕ → List ℕ → Option (List ℕ × List ℕ)
cut_at mark text = if nat_lt (position_or_len (λ b. b == mark) text) (length text) then Some (before_first (λ b. b == mark) text, after_first (λ b. b == mark) text) else None

-- the byte of two digits, and then others
abbrev pub byte_then : Option ℕ → Option ℕ → List ℕ → Option (List ℕ)
byte_then None low bytes = None
byte_then (Some high) None bytes = None
byte_then (Some high) (Some low) bytes = Some ((high * 16 + low) ∷ bytes)

-- what stands after a `\`: an `x` and the two digits of a byte, and then bytes without an escape
abbrev pub escape_spelled : ℕ → List ℕ → Option (List ℕ)
escape_spelled copy [] = None
escape_spelled copy (x ∷ []) = None
escape_spelled copy (x ∷ high ∷ []) = None
escape_spelled copy (x ∷ high ∷ low ∷ bytes) = if x == 120 then byte_then (hex_digit high) (hex_digit low) (plain_spelled copy bytes) else None

-- what a text without names and counts spells in a copy
abbrev pub text_spelled : ℕ → List ℕ → Option (List ℕ)
text_spelled copy text = parts_spelled (λ part. Some (plain_spelled copy part)) (escape_spelled copy) (parts_at 92 text)

-- the bytes of the first lines with a name
abbrev pub lines_named : List NamedLines → List ℕ → Option (List ℕ)
lines_named [] name = None
lines_named (lines ∷ named) name = if bytes_eq (string_bytes lines.name) name then Some (vec_items lines.bytes) else lines_named named name

-- what stands after a `{`: a name, a `}`, and then a text without names and counts
abbrev pub name_spelled : List NamedLines → List ℕ → Option (List ℕ)
name_spelled named part = option_and_then (λ cut. followed (lines_named named cut.0) (text_spelled 0 cut.1)) (cut_at 125 part)

-- what a text without counts spells
abbrev pub lines_spelled : List NamedLines → List ℕ → Option (List ℕ)
lines_spelled named text = parts_spelled (text_spelled 0) (name_spelled named) (parts_at 123 text)

-- the number below 2 ^ 32 that digits are, before which a plus may stand
abbrev pub count_in : List ℕ → Option ℕ
count_in text =
    let digits = without_leading_plus text in
    if nat_lt 0 (length digits) && all_ascii_digits digits && nat_lt (digits_value 10 digits) (2 ^ 32) then Some (digits_value 10 digits) else None

-- what so many copies of a text spell, numbered from 0
abbrev pub copies_spelled : ℕ → List ℕ → Option (List ℕ)
copies_spelled count text = all_spelled (λ copy. text_spelled copy text) (range_with_len 0 count)

-- a count, a `:`, and the text whose copies it counts
abbrev pub counted_spelled : List ℕ → Option (List ℕ)
counted_spelled counted = option_and_then (λ cut. option_and_then (λ count. copies_spelled count cut.1) (count_in cut.0)) (cut_at 58 counted)

-- what stands after a `(`: counted copies, a `)`, and then a text without counts
abbrev pub count_spelled : List NamedLines → List ℕ → Option (List ℕ)
count_spelled named part = option_and_then (λ cut. followed (counted_spelled cut.0) (lines_spelled named cut.1)) (cut_at 41 part)

-- the bytes that a row spells, if it is spelled as a row
abbrev pub spelled : List NamedLines → List ℕ → Option (List ℕ)
spelled named spelling = parts_spelled (lines_spelled named) (count_spelled named) (parts_at 40 spelling)

-- the name and the bytes of lines
abbrev pub named_shown : NamedLines → List ℕ × List ℕ
named_shown lines = (string_bytes lines.name, vec_items lines.bytes)

-- the name and the bytes of the lines that a line names: a name, a space, and their spelling
abbrev pub lines_in : List NamedLines → List ℕ → Option (List ℕ × List ℕ)
lines_in named line = option_and_then (λ cut. option_map (λ bytes. (cut.0, bytes)) (spelled named cut.1)) (cut_at 32 line)
