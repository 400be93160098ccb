use Rattle.std.proofs.Common.{◌≡◌, ◌+◌, ◌≤◌, ◌++◌, drop}
use Rattle.target_code.specs.Erasing.{plain_count}
use Rattle.barrier_check.proofs.Counts.{counts_from}
use Rattle.barrier_check.proofs.places.Places.of_code.Given as goal

-- what is left gives what the whole gives
abbrev pub invariant-loop-instr : goal.invariant-loop-instr
invariant-loop-instr l = record {
  few : l.count ≤ l.instr-index;
  places : l.before.items ++ counts_from l.count (drop l.instr-index l.code) ≡ counts_from 0 l.code;
  all : l.count + plain_count (drop l.instr-index l.code) ≡ plain_count l.code;
}
