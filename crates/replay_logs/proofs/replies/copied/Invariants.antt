use Rattle.std.proofs.Common.{◌≡◌, true, take}
use Rattle.std.specs.List.{list_all}
use Rattle.norm_lang.specs.Limits.{is_reply}
use Rattle.replay_logs.proofs.replies.copied.Given as goal

abbrev pub invariant-loop-reply : goal.invariant-loop-reply
invariant-loop-reply l = record {
  same : l.list ≡ take l.reply-index l.replies;
  sized : list_all is_reply l.list ≡ true;
}
