-- Replies beside what got them.
use Rattle.std.specs.Prelude.{List, [], ◌∷◌}
use Rattle.norm_lang.specs.declared.reply.SourceReply.{SourceReply}
use Rattle.caller_parts.specs.declared.call.Running.{Running}
use Rattle.caller_parts.specs.declared.call.Replied.{Replied}

abbrev pub replied_by : SourceReply → Running → Replied
replied_by reply run = record { call = run.call; reply = reply; steps = run.steps }

abbrev pub reply_of : Replied → SourceReply
reply_of replied = replied.reply

abbrev pub run_of : Replied → Running
run_of replied = record { call = replied.call; steps = replied.steps }

-- one by one
abbrev pub side_by_side : List SourceReply → List Running → List Replied
side_by_side [] runs = []
side_by_side (reply ∷ replies) [] = []
side_by_side (reply ∷ replies) (run ∷ runs) = replied_by reply run ∷ side_by_side replies runs
