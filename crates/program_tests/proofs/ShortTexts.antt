-- Of the lines of what the tests read.
use Rattle.std.proofs.Common.{ℕ, ◌+◌, ◌<◌, ◌^◌, List, length, arith}
use Rattle.oa_text.specs.Lines.{lines_of}
use Rattle.oa_text.proofs.Counts.{length-lines_of-le}

pub few_lines : (bytes : List ℕ) → length bytes < 1000000 → length (lines_of bytes) + 1 < 2 ^ 32
few_lines bytes short = omega (arith, length-lines_of-le bytes, short)
