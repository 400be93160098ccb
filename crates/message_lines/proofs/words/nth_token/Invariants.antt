use Rattle.std.proofs.Common.{◌≡◌, [], map, get_or}
use Rattle.message_lines.proofs.words.nth_token.Given as goal

abbrev pub invariant-loop-token : goal.invariant-loop-token
invariant-loop-token l = get_or (map (λ token. token.bytes) l.token-iterator) l.left [] ≡ get_or (map (λ token. token.bytes) l.fn.tokens) l.fn.at []
