use Rattle.std.proofs.Common.{◌≡◌, take}
use Rattle.std.specs.String.{string_bytes}
use Rattle.row_replies.proofs.Replies.{so_far}
use Rattle.row_replies.proofs.told.add_replies.Given as goal

abbrev pub invariant-loop-reply : goal.invariant-loop-reply
invariant-loop-reply l = string_bytes l.out ≡ so_far (string_bytes l.fn.out) (take l.reply-index l.replies)
