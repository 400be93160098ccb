use Rattle.std.proofs.Common.{◌≡◌, ◌+◌, ◌≤◌, ◌++◌, length, vec_len, vec_capacity}
use Rattle.epoch_runner.proofs.close.pour.Given as goal

-- what was poured and what is left are the whole, and there is room for what is left
abbrev pub invariant-entries : goal.invariant-entries
invariant-entries l =
    (l.list.items ++ l.entries.items ≡ l.fn.list.items ++ l.fn.entries.items) × (length l.list.items + length l.entries.items ≤ vec_capacity l.list)
    × (vec_len l.list ≡ length l.list.items) × (vec_len l.entries ≡ length l.entries.items)

abbrev pub decreases-entries : goal.decreases-entries
decreases-entries l = vec_len l.entries
