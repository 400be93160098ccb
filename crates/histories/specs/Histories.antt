-- Histories of callers who share a set and a queue, and the orders that explain them.
use Rattle.std.specs.Prelude.{◌≡◌, ℕ, ◌==◌, ◌<◌, ◌≤◌, Bool, true, false, not, List, [], ◌∷◌, ◌++◌, length, drop, if◌then◌else◌}
use Rattle.std.specs.List.{list_any, filter}
use mathlib.Core.Logic.{◌⊎◌}
use Rattle.histories.specs.declared.call.Call.{Call}
use Rattle.histories.specs.declared.call.Action.{Action}
use Rattle.histories.specs.declared.call.Action.TheVariants.{Insert, Remove, Contains, Enqueue, Dequeue}
use Rattle.histories.specs.declared.call.Answer.{Answer}
use Rattle.histories.specs.declared.call.Answer.TheVariants.{Number, Nothing, Spent, NoEffect}
use Rattle.histories.specs.declared.judgement.Judgement.{Judgement}
use Rattle.histories.specs.declared.judgement.Judgement.TheVariants.{Legal, NoLegalOrder, TooLarge}
use Rattle.histories.specs.declared.limits.TheConstants.{MOST_CALLS}

-- the keys of the set, and the values of the queue, of which the first goes out first
pub record Shared : Type 0 where
  pub keys : List ℕ
  pub values : List ℕ

abbrev pub nothing_shared : Shared
nothing_shared = record { keys = []; values = [] }

abbrev pub has_key : List ℕ → ℕ → Bool
has_key keys key = list_any (λ it. it == key) keys

-- a test's answer is 1 for yes
abbrev pub number_of : Bool → Answer
number_of true = Number 1
number_of false = Number 0

abbrev pub first_value : List ℕ → Answer
first_value [] = Nothing
first_value (value ∷ values) = Number value

-- what a set and a queue reply
abbrev pub reply_to : Shared → Action → Answer
reply_to shared (Insert key) = number_of (not (has_key shared.keys key))
reply_to shared (Remove key) = number_of (has_key shared.keys key)
reply_to shared (Contains key) = number_of (has_key shared.keys key)
reply_to shared (Enqueue value) = Number value
reply_to shared Dequeue = first_value shared.values

abbrev pub with_key : List ℕ → ℕ → List ℕ
with_key keys key = if has_key keys key then keys else keys ++ key ∷ []

abbrev pub without_key : List ℕ → ℕ → List ℕ
without_key keys key = filter (λ it. not (it == key)) keys

-- what they hold after it
abbrev pub after : Shared → Action → Shared
after shared (Insert key) = record { keys = with_key shared.keys key; values = shared.values }
after shared (Remove key) = record { keys = without_key shared.keys key; values = shared.values }
after shared (Contains key) = shared
after shared (Enqueue value) = record { keys = shared.keys; values = shared.values ++ value ∷ [] }
after shared Dequeue = record { keys = shared.keys; values = drop 1 shared.values }

-- A call with this answer may leave this. A spent call may have had its effect or not.
abbrev pub Leaves : Shared → Action → Answer → Shared → Type 0
Leaves shared action (Number n) next = (reply_to shared action ≡ Number n) × (next ≡ after shared action)
Leaves shared action Nothing next = (reply_to shared action ≡ Nothing) × (next ≡ after shared action)
Leaves shared action Spent next = (next ≡ after shared action) ⊎ (next ≡ shared)
Leaves shared action NoEffect next = next ≡ shared

-- calls that are made one after another can have their answers
abbrev pub IsLegal : Shared → List Call → Type 0
IsLegal shared [] = Unit {0}
IsLegal shared (call ∷ calls) = (next : Shared) × Leaves shared call.action call.answer next × IsLegal next calls

abbrev pub calls_of : ℕ → List Call → List Call
calls_of caller calls = filter (λ call. call.caller == caller) calls

-- all calls of a history in one order, each caller's in its own
abbrev pub IsOrderOf : List Call → List Call → Type 0
IsOrderOf history order = (caller : ℕ) → calls_of caller order ≡ calls_of caller history

-- from what is shared the calls can be made in some order
abbrev pub HasLegalOrder : Shared → List Call → Type 0
HasLegalOrder shared history = (order : List Call) × IsOrderOf history order × IsLegal shared order

-- how many calls a history has at most that is searched
abbrev pub most_calls : ℕ
most_calls = MOST_CALLS

-- what is found of a history of an empty set and an empty queue
abbrev pub IsHistoryJudged : List Call → Judgement → Type 0
IsHistoryJudged history Legal = (length history ≤ most_calls) × HasLegalOrder nothing_shared history
IsHistoryJudged history NoLegalOrder = (length history ≤ most_calls) × (HasLegalOrder nothing_shared history → ⊥)
IsHistoryJudged history TooLarge = most_calls < length history
