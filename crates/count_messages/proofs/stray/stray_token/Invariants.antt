use Rattle.std.proofs.Common.{◌≡◌, map, find}
use Rattle.count_messages.specs.Stray.{is_stray_word}
use Rattle.count_messages.proofs.stray.stray_token.Given as goal

abbrev pub invariant-loop-token : goal.invariant-loop-token
invariant-loop-token l = find (is_stray_word l.bytes l.number) (map (λ token. token.bytes) l.token-iterator) ≡ find (is_stray_word l.bytes l.number) (map (λ token. token.bytes) l.fn.tokens)
