use Rattle.std.proofs.Common.{◌≡◌, length}
use Rattle.text_laws.proofs.DraftLimits.{Kept}
use Rattle.norm_parser.specs.Cursors.{past_of, IsRestOf}
use Rattle.norm_parser.specs.DraftShown.{draft_shown}
use Rattle.norm_parser.specs.FrontRead.{head_end}
use Rattle.norm_parser.proofs.Fronts.{head_from}
use Rattle.norm_parser.proofs.LinesPassed.{ArePassed}
use Rattle.norm_parser.proofs.reader.add_head.Given as goal

abbrev pub invariant-lines : goal.invariant-lines
invariant-lines l = record {
  same : head_from (draft_shown l.draft) l.cursor.lines (past_of l.fn.cursor) ≡ head_end l.fn.cursor.lines (past_of l.fn.cursor);
  kept : Kept (draft_shown l.draft);
  rest : IsRestOf l.fn.cursor l.cursor;
  passed : ArePassed l.fn.cursor l.cursor;
}

abbrev pub decreases-lines : goal.decreases-lines
decreases-lines l = length l.cursor.lines
