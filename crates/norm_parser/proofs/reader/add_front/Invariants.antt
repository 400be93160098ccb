use Rattle.std.proofs.Common.{◌≡◌, length}
use Rattle.text_laws.proofs.DraftLimits.{Kept}
use Rattle.norm_parser.specs.Cursors.{past_of, IsRestOf}
use Rattle.norm_parser.specs.DraftShown.{draft_shown}
use Rattle.norm_parser.specs.FrontRead.{front_end}
use Rattle.norm_parser.proofs.Fronts.{front_from}
use Rattle.norm_parser.proofs.LinesPassed.{ArePassed}
use Rattle.norm_parser.proofs.reader.add_front.Given as goal

abbrev pub invariant-lines : goal.invariant-lines
invariant-lines l = record {
  same : front_from (draft_shown l.draft) l.named l.cursor.lines (past_of l.fn.cursor) ≡ front_end l.fn.draft.version l.fn.cursor.lines (past_of l.fn.cursor);
  kept : Kept (draft_shown l.draft);
  rest : IsRestOf l.fn.cursor l.cursor;
  passed : ArePassed l.fn.cursor l.cursor;
}

abbrev pub decreases-lines : goal.decreases-lines
decreases-lines l = length l.cursor.lines
