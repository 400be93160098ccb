use Rattle.std.proofs.Common.{◌≡◌, ◌++◌, drop, map}
use Rattle.norm_lang.specs.Spelling.{spaced}
use Rattle.c_printer.specs.Names.{names_of}
use Rattle.c_printer.specs.Words.{token_word}
use Rattle.c_printer.proofs.tokens.put_tokens.Given as goal

abbrev pub invariant-loop-token : goal.invariant-loop-token
invariant-loop-token l =
    l.out.items ++ spaced (map (token_word l.name (names_of l.table)) (drop l.token-index l.tokens))
    ≡ l.fn.out.items ++ spaced (map (token_word l.name (names_of l.table)) l.tokens)
