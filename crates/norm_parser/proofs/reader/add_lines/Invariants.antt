use Rattle.std.proofs.Common.{◌≡◌, length}
use Rattle.norm_lang.specs.declared.text.Version.TheVariants.{Second}
use Rattle.norm_lang.specs.Grammar.{Start, draft_at, after_lines}
use Rattle.text_laws.proofs.DraftLimits.{Kept}
use Rattle.norm_parser.specs.Cursors.{IsRestOf}
use Rattle.norm_parser.specs.DraftShown.{draft_shown}
use Rattle.norm_parser.proofs.reader.add_lines.Given as goal

abbrev pub invariant-lines : goal.invariant-lines
invariant-lines l = record {
  same : after_lines (draft_shown l.draft) l.cursor.lines ≡ after_lines (draft_at Second Start) l.fn.cursor.lines;
  kept : Kept (draft_shown l.draft);
  rest : IsRestOf l.fn.cursor l.cursor;
}

abbrev pub decreases-lines : goal.decreases-lines
decreases-lines l = length l.cursor.lines
