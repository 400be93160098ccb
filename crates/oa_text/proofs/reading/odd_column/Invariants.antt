use Rattle.std.proofs.Common.{◌≡◌, ◌+◌, drop}
use Rattle.oa_text.specs.Tokens.{odd_column_from}
use Rattle.oa_text.proofs.reading.odd_column.Given as goal

abbrev pub invariant-loop-b : goal.invariant-loop-b
invariant-loop-b l = record {
  place : l.column ≡ l.b-index + 1;
  same : odd_column_from l.column (drop l.b-index l.bytes) ≡ odd_column_from 1 l.bytes;
}
