use Rattle.std.proofs.Common.{◌≡◌, ◌+◌, length}
use Rattle.std.specs.Prelude.{option_map}
use Rattle.oa_text.specs.Lines.{lines_of}
use Rattle.oa_text.specs.Shown.{line_shown}
use Rattle.norm_parser.specs.Cursors.{with_next, IsLast}
use Rattle.target_reader.specs.TargetGrammar.{no_ops, ops_read}
use Rattle.target_reader.specs.OpsShown.{draft_shown}
use Rattle.target_reader.proofs.Ordered.{AreUpTo}
use Rattle.target_reader.proofs.reader.add_ops.Given as goal

abbrev pub invariant-lines : goal.invariant-lines
invariant-lines l = record {
  same :
      ops_read l.head.kinds l.head.fields l.head.roots (length (lines_of l.input) + 1) (draft_shown l.draft) (with_next (option_map line_shown l.next) l.rest)
      ≡ ops_read l.head.kinds l.head.fields l.head.roots (length (lines_of l.input) + 1) no_ops l.fn.cursor.lines;
  ordered : AreUpTo (length (lines_of l.input) + 1) (with_next (option_map line_shown l.next) l.rest);
  last : IsLast (option_map line_shown l.next) l.rest;
}

abbrev pub decreases-lines : goal.decreases-lines
decreases-lines l = length (with_next (option_map line_shown l.next) l.rest)
