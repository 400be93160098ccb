-- What the words of the command line ask for.
use Rattle.std.specs.Prelude.{ℕ, List, [], ◌∷◌, Option, Some, None, codes, if◌then◌else◌}
use Rattle.std.specs.Str.{bytes_eq}
use Rattle.oax_cli.specs.declared.request.Request.{Request}
use Rattle.oax_cli.specs.declared.request.Request.TheVariants.{Proper, Help, Version}

-- `proper`, `--help` or `--version`
abbrev pub request_named : List ℕ → Option Request
request_named word =
    if bytes_eq word (codes "proper") then Some Proper
    else (if bytes_eq word (codes "--help") then Some Help
    else (if bytes_eq word (codes "--version") then Some Version
    else None))

-- one word alone
abbrev pub request_of : List (List ℕ) → Option Request
request_of [] = None
request_of (word ∷ []) = request_named word
request_of (word ∷ other ∷ words) = None
