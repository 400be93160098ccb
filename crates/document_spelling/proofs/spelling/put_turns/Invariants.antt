use Rattle.std.proofs.Common.{◌≡◌, ◌++◌, drop, map}
use Rattle.std.specs.List.{flat_map}
use Rattle.norm_lang.specs.Spelling.{line_bytes}
use Rattle.document_spelling.specs.Spelling.{spelled_turn}
use Rattle.document_spelling.proofs.spelling.put_turns.Given as goal

abbrev pub invariant-loop-turn : goal.invariant-loop-turn
invariant-loop-turn l = l.out.items ++ flat_map line_bytes (map spelled_turn (drop l.turn-index l.schedule)) ≡ l.fn.out.items ++ flat_map line_bytes (map spelled_turn l.schedule)
