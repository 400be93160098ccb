use Rattle.norm_parser.specs.Cursors.{past_of}
use Rattle.norm_parser.specs.DraftShown.{draft_shown}
use Rattle.norm_parser.specs.FrontRead.{end_at}
use Rattle.norm_parser.proofs.Reading.{head_is_within}
use Rattle.norm_parser.proofs.reader.read_head.Goals as goal

pub returns-in-Ok-clause-within : goal.returns-in-Ok-clause-within
returns-in-Ok-clause-within c =
    head_is_within c.args.cursor.now.lines (past_of c.args.cursor.now) (draft_shown c.in_ok-draft.draft) (end_at c.head_draft.new.cursor.lines (past_of c.head_draft.new.cursor)) c.in-Ok.head
    c.in_ok-draft.ensures.exact c.in-Ok.ensures
