use Rattle.std.proofs.Common.{◌≡◌, ◌++◌, drop}
use Rattle.std.specs.List.{flat_map}
use Rattle.norm_lang.specs.Spelling.{line_bytes}
use Rattle.document_spelling.specs.Spelling.{slots_lines}
use Rattle.document_spelling.proofs.spelling.put_slots.Given as goal

abbrev pub invariant-loop-kind : goal.invariant-loop-kind
invariant-loop-kind l = l.out.items ++ flat_map line_bytes (slots_lines l.kind (drop l.kind l.kinds) l.slots) ≡ l.fn.out.items ++ flat_map line_bytes (slots_lines 0 l.kinds l.slots)
