use Rattle.std.proofs.Common.{◌≡◌, ◌++◌, drop, map}
use Rattle.std.specs.List.{flat_map}
use Rattle.norm_lang.specs.Spelling.{line_bytes}
use Rattle.document_spelling.specs.Spelling.{spelled_call}
use Rattle.document_spelling.proofs.spelling.put_calls.Given as goal

abbrev pub invariant-loop-call : goal.invariant-loop-call
invariant-loop-call l = l.out.items ++ flat_map line_bytes (map spelled_call (drop l.call-index l.calls)) ≡ l.fn.out.items ++ flat_map line_bytes (map spelled_call l.calls)
