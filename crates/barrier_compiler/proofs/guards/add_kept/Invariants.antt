use Rattle.std.proofs.Common.{◌≡◌, take}
use Rattle.std.specs.List.{filter}
use Rattle.target_code.specs.Keeping.{keeps}
use Rattle.target_code.specs.Blocks.{all_references}
use Rattle.barrier_compiler.proofs.guards.add_kept.Given as goal

-- the kept ones of the first references
abbrev pub invariant-loop-register : goal.invariant-loop-register
invariant-loop-register l = l.kept.items ≡ filter (keeps l.op) (take l.register all_references)
