use Rattle.std.proofs.Common.{◌≡◌, true, map, take}
use Rattle.std.specs.List.{list_all}
use Rattle.replay_logs.specs.UnderWay.{entry_replies}
use Rattle.norm_lang.specs.Limits.{is_reply}
use Rattle.replay_logs.proofs.replies.all_replies.Given as goal

abbrev pub invariant-loop-entry : goal.invariant-loop-entry
invariant-loop-entry l = record {
  same : l.lists ≡ map entry_replies (take l.entry-index l.entries);
  sized : list_all (list_all is_reply) l.lists ≡ true;
}
