use Rattle.std.proofs.Common.{◌≡◌, ◌++◌, drop}
use Rattle.std.specs.List.{flat_map}
use Rattle.norm_lang.specs.Spelling.{line_bytes, count_lines}
use Rattle.norm_lang.specs.declared.text.Version.TheVariants.{Second}
use Rattle.norm_lang.proofs.spelling.put_counts.Given as goal

abbrev pub invariant-loop-kind : goal.invariant-loop-kind
invariant-loop-kind l = l.out.items ++ flat_map line_bytes (count_lines Second l.kind (drop l.kind l.kinds) l.nodes) ≡ l.fn.out.items ++ flat_map line_bytes (count_lines Second 0 l.kinds l.nodes)
