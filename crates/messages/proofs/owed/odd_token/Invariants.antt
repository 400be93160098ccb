use Rattle.std.proofs.Common.{◌≡◌, map, find}
use Rattle.messages.specs.Owed.{is_odd_word}
use Rattle.messages.proofs.owed.odd_token.Given as goal

abbrev pub invariant-loop-token : goal.invariant-loop-token
invariant-loop-token l = find is_odd_word (map (λ token. token.bytes) l.token-iterator) ≡ find is_odd_word (map (λ token. token.bytes) l.fn.tokens)
