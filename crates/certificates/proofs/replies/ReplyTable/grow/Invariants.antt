use Rattle.std.proofs.Common.{◌≡◌, ◌-◌, length}
use Rattle.certificates.specs.Accounts.{grown}
use Rattle.certificates.proofs.replies.ReplyTable.grow.Given as goal

abbrev pub invariant-lists : goal.invariant-lists
invariant-lists l = grown l.count l.self ≡ grown l.count l.fn.self

abbrev pub decreases-lists : goal.decreases-lists
decreases-lists l = l.count - length l.self
