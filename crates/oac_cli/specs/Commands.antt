-- What a word of the command line asks for.
use Rattle.std.specs.Prelude.{List, ℕ, codes, Option, Some, None, if◌then◌else◌}
use Rattle.std.specs.Str.{bytes_eq}
use Rattle.norm_lang.specs.LineWords.{is_name}
use Rattle.oac_cli.specs.declared.command.Request.{Request}
use Rattle.oac_cli.specs.declared.command.Request.TheVariants.{Help, Version, Header}

abbrev pub request_of : List ℕ → Option Request
request_of word =
    if bytes_eq word (codes "--help") then Some Help
    else (if bytes_eq word (codes "--version") then Some Version
    else (if is_name word then Some Header
    else None))
