-- The step of the search: a legal order that begins with a certain call. What the search is to find is said without it, in Histories.
use Rattle.std.specs.Prelude.{◌≡◌, ℕ, ◌==◌, Bool, true, false, List, take, slice_index_or}
use Rattle.std.specs.List.{list_any, remove}
use Rattle.histories.specs.declared.call.Call.{Call}
use Rattle.histories.specs.declared.call.Answer.{Answer}
use Rattle.histories.specs.declared.call.Answer.TheVariants.{Number, Nothing, Spent, NoEffect}
use Rattle.histories.specs.Histories.{Shared, Leaves, HasLegalOrder}

-- whether an answer can come of a call that has its effect, given what its reply would be
abbrev pub can_be_made : Answer → Answer → Bool
can_be_made (Number n) (Number m) = m == n
can_be_made (Number n) Nothing = false
can_be_made (Number n) Spent = false
can_be_made (Number n) NoEffect = false
can_be_made Nothing (Number m) = false
can_be_made Nothing Nothing = true
can_be_made Nothing Spent = false
can_be_made Nothing NoEffect = false
can_be_made Spent reply = true
can_be_made NoEffect reply = false

-- whether it can come of a call that has none
abbrev pub can_be_missing : Answer → Bool
can_be_missing (Number n) = false
can_be_missing Nothing = false
can_be_missing Spent = true
can_be_missing NoEffect = true

-- no earlier call of its caller is left
abbrev pub IsFirst : List Call → ℕ → Call → Type 0
IsFirst left at call = list_any (λ it. it.caller == call.caller) (take at left) ≡ false

-- the rest can be made after a call that has its answer
abbrev pub GoesOn : Shared → Call → List Call → Type 0
GoesOn shared call rest = (next : Shared) × Leaves shared call.action call.answer next × HasLegalOrder next rest

-- a legal order begins with the call at this place
abbrev pub BeginsAt : Shared → List Call → ℕ → Type 0
BeginsAt shared left at = (call : Call) × (slice_index_or left at call ≡ call) × IsFirst left at call × GoesOn shared call (remove left at)
