-- An access as the code makes it: where, what it leaves there, and what is answered.
use Rattle.std.specs.Prelude.{ℕ, max, ◌==◌, if◌then◌else◌}
use Rattle.phase_pools.specs.declared.access.Access.{Access}
use Rattle.phase_pools.specs.declared.access.Access.TheVariants as codes

abbrev pub at_of : Access → ℕ
at_of (codes.Load at) = at
at_of (codes.Store at word) = at
at_of (codes.CompareExchange at expected replacement) = at
at_of (codes.FetchMax at word) = at

-- what stands there afterwards
abbrev pub left_by : Access → ℕ → ℕ
left_by (codes.Load at) found = found
left_by (codes.Store at word) found = word
left_by (codes.CompareExchange at expected replacement) found = if found == expected then replacement else found
left_by (codes.FetchMax at word) found = max found word

-- the word found, but 0 for a store
abbrev pub answer_to : Access → ℕ → ℕ
answer_to (codes.Load at) found = found
answer_to (codes.Store at word) found = 0
answer_to (codes.CompareExchange at expected replacement) found = found
answer_to (codes.FetchMax at word) found = found
