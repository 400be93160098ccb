-- Turns that count more than one access, or go on over a call's end, and so change an answer. An `add` is five steps: the load at
-- its begin, the root's load, the check, the exchange, and the load at its wrap-up's start. A `get` is four, with the root's load second.
use Rattle.std.specs.Prelude.{◌≡◌, ℕ, List, [], ◌∷◌, Result, Err}
use Rattle.norm_lang.specs.declared.reply.SourceReply.TheVariants as replies
use Rattle.schedule_turns.specs.declared.turn.Turn.{Turn}
use Rattle.schedule_turns.specs.declared.turn.Turn.TheVariants as turns
use Rattle.schedule_turns.specs.declared.turn.StepKind.{StepKind}
use Rattle.schedule_turns.specs.declared.turn.StepKind.TheVariants as kinds
use Rattle.caller_parts.specs.declared.call.Call.{Call}
use Rattle.core_runs.specs.Replays.{Refusal, StepOfNobody}
use Rattle.core_rows.specs.Short.{call_of, setting_of}
use Rattle.core_rows.specs.SmallTargets.{numbers_target}
use Rattle.core_rows.specs.ReplayRows.{Summary, summary, add, replied}
use Rattle.corner_rows.specs.CornerTargets.{total_target}

abbrev pub get : Call
get = call_of 2 0

-- two callers of the number in a root
abbrev pub totals : List (List Call) → List Turn → Result Summary Refusal
totals scripts turns = summary total_target (setting_of 2 2 1 1 0 1000) scripts turns

-- caller 0 adds 5, 6 and 1, one after another. After its turns caller 1 adds 7 and has ended
abbrev pub three_adds : List Turn → Result Summary Refusal
three_adds before = totals ((add 5 ∷ add 6 ∷ add 1 ∷ []) ∷ (add 7 ∷ []) ∷ []) before

abbrev pub to_first_and_second : StepKind → List Turn
to_first_and_second kind = turns.Upto 0 kind 1 ∷ turns.Upto 0 kind 2 ∷ turns.Ops 1 1 ∷ []

-- the answers if caller 1 adds before the sum of caller 0's second call is stored, and after the first call
abbrev pub second_disturbed : Result Summary Refusal
second_disturbed = replied ((replies.Number 5 ∷ replies.Number 18 ∷ replies.Number 19 ∷ []) ∷ (replies.Number 12 ∷ []) ∷ [])

-- and if it adds before the sum of the third call is stored
abbrev pub third_disturbed : Result Summary Refusal
third_disturbed = replied ((replies.Number 5 ∷ replies.Number 11 ∷ replies.Number 19 ∷ []) ∷ (replies.Number 18 ∷ []) ∷ [])

-- the access that is wanted when the turn begins is the first that it counts: so the second is that of the next call
pub record WantedRows : Type 0 where
  pub load : three_adds (to_first_and_second kinds.Load) ≡ second_disturbed
  pub check : three_adds (to_first_and_second kinds.Check) ≡ second_disturbed
  pub exchange : three_adds (to_first_and_second kinds.Exchange) ≡ second_disturbed
  -- the third from there is that of the call after it
  pub third_load : three_adds (turns.Upto 0 kinds.Load 1 ∷ turns.Upto 0 kinds.Load 3 ∷ turns.Ops 1 1 ∷ []) ≡ third_disturbed
  -- a turn that begins between the two counts from there
  pub begun_between : three_adds (turns.Upto 0 kinds.Load 1 ∷ turns.Step 0 1 ∷ turns.Upto 0 kinds.Load 2 ∷ turns.Ops 1 1 ∷ []) ≡ third_disturbed

abbrev pub nulls : List Turn → Result Summary Refusal
nulls turns = summary numbers_target (setting_of 1 1 1 3 0 1000) ((call_of 1 0 ∷ []) ∷ []) turns

pub record CheckRows : Type 0 where
  -- `nulls` has two checks, its third and its sixth step of eight: before the second one three steps are left, and no fourth
  pub second_check : nulls (turns.Upto 0 kinds.Check 2 ∷ turns.Step 0 3 ∷ []) ≡ replied ((replies.Number 1 ∷ []) ∷ [])
  pub no_fourth : nulls (turns.Upto 0 kinds.Check 2 ∷ turns.Step 0 4 ∷ []) ≡ Err (StepOfNobody 8)
  -- over calls: each has one
  pub second_calls : three_adds (turns.Upto 0 kinds.Check 2 ∷ turns.Ops 1 1 ∷ []) ≡ second_disturbed
  pub third_calls : three_adds (turns.Upto 0 kinds.Check 3 ∷ turns.Ops 1 1 ∷ []) ≡ third_disturbed

-- caller 0 adds 5, and gets the number; after its turn caller 1 adds 7 and has ended
abbrev pub add_and_get : ℕ → Result Summary Refusal
add_and_get steps = totals ((add 5 ∷ get ∷ []) ∷ (add 7 ∷ []) ∷ []) (turns.Step 0 steps ∷ turns.Ops 1 1 ∷ [])

abbrev pub got : ℕ → Result Summary Refusal
got number = replied ((replies.Number 5 ∷ replies.Number number ∷ []) ∷ (replies.Number 12 ∷ []) ∷ [])

pub record OverCallsRows : Type 0 where
  -- to the end of the first call, and on to the begin of the second: its load is still to come
  pub to_end : add_and_get 5 ≡ got 12
  pub to_begin : add_and_get 6 ≡ got 12
  -- and on to its load, which finds what the first call left
  pub to_load : add_and_get 7 ≡ got 5
  pub to_check : add_and_get 8 ≡ got 5
  -- both calls are nine steps
  pub to_last : add_and_get 9 ≡ got 5
  pub past_last : add_and_get 10 ≡ Err (StepOfNobody 9)
