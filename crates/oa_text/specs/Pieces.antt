-- What pieces and parts of a text are, in bytes.
use Rattle.std.specs.Prelude.{ℕ, List, ◌∷◌, decimal}
use Rattle.std.specs.List.{flat_map}
use Rattle.oa_text.specs.declared.pieces.Piece.{Piece}
use Rattle.oa_text.specs.declared.pieces.Piece.TheVariants.{Number, Bytes}
use Rattle.oa_text.specs.declared.pieces.Part.{Part}
use Rattle.oa_text.specs.declared.pieces.Part.TheVariants.{One, Arguments}

-- a number in decimal, or the bytes themselves
abbrev pub piece_bytes : Piece → List ℕ
piece_bytes (Number n) = decimal n
piece_bytes (Bytes bytes) = bytes.now

-- a number in decimal after a space
abbrev pub argument_bytes : ℕ → List ℕ
argument_bytes n = 32 ∷ decimal n

-- one piece, or numbers with a space before each
abbrev pub part_bytes : Part → List ℕ
part_bytes (One piece) = piece_bytes piece
part_bytes (Arguments arguments) = flat_map argument_bytes arguments.now
