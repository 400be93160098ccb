use Rattle.std.proofs.Common.{◌≡◌, ◌++◌, drop}
use Rattle.std.specs.List.{flat_map}
use Rattle.norm_lang.specs.Spelling.{line_bytes, kind_lines}
use Rattle.norm_lang.specs.declared.text.Version.TheVariants.{Second}
use Rattle.norm_lang.proofs.spelling.put_kinds.Given as goal

abbrev pub invariant-loop-name : goal.invariant-loop-name
invariant-loop-name l = l.out.items ++ flat_map line_bytes (kind_lines Second (drop l.name-index l.kinds)) ≡ l.fn.out.items ++ flat_map line_bytes (kind_lines Second l.kinds)
