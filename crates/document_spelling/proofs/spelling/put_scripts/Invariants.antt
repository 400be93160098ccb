use Rattle.std.proofs.Common.{◌≡◌, ◌++◌, drop}
use Rattle.std.specs.List.{flat_map}
use Rattle.norm_lang.specs.Spelling.{line_bytes}
use Rattle.document_spelling.specs.Spelling.{scripts_lines}
use Rattle.document_spelling.proofs.spelling.put_scripts.Given as goal

abbrev pub invariant-loop-number : goal.invariant-loop-number
invariant-loop-number l = l.out.items ++ flat_map line_bytes (scripts_lines l.number (drop l.number l.scripts)) ≡ l.fn.out.items ++ flat_map line_bytes (scripts_lines 0 l.scripts)
