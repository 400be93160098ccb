use Rattle.std.proofs.Common.{◌≡◌, map, drop}
use Rattle.norm_lang.specs.Declarations.{starts_of}
use Rattle.line_words.specs.Shown.{start_shown}
use Rattle.text_lines.proofs.NodeLines.{before}
use Rattle.text_lines.proofs.declarations.starts.Given as goal

abbrev pub invariant-loop-value : goal.invariant-loop-value
invariant-loop-value l =
    before l.starts (starts_of l.count (map start_shown (drop l.value-index l.values))) ≡ starts_of l.count (map start_shown l.values)
