-- Whole runs of the list, of the queue and of the counter, each by the turns of a schedule and then every caller to its end.
use Rattle.std.specs.Prelude.{◌≡◌, ℕ, zero, suc, ◌+◌, List, [], ◌∷◌, map, Result, Ok, Err, slice_index}
use Rattle.norm_lang.specs.declared.reply.SourceReply.{SourceReply}
use Rattle.norm_lang.specs.declared.reply.SourceReply.TheVariants as replies
use Rattle.schedule_turns.specs.declared.turn.Turn.{Turn}
use Rattle.schedule_turns.specs.declared.turn.Turn.TheVariants as turns
use Rattle.schedule_turns.specs.declared.turn.StepKind.TheVariants as kinds
use Rattle.target_code.specs.declared.target.Target.{Target}
use Rattle.caller_parts.specs.declared.call.Call.{Call}
use Rattle.caller_parts.specs.Settings.{Setting}
use Rattle.caller_parts.specs.Pairing.{reply_of}
use Rattle.caller_steps.specs.Entries.{Entry}
use Rattle.core_runs.specs.Replays.{Replaying, Refusal, StepOfNobody, LongReplay, replayed}
use Rattle.core_rows.specs.Short.{call_of, setting_of}
use Rattle.core_rows.specs.SmallTargets.{counter_target, numbers_target, swap_target}
use Rattle.core_rows.specs.ShippedTargets.{list_target, queue_target}

-- what a document's answers are made of
pub record Summary : Type 0 where
  -- of each caller
  pub replies : List (List SourceReply)
  pub phase : ℕ
  -- of all callers
  pub claims : ℕ
  pub restarts : ℕ

abbrev pub all_claims : List Entry → ℕ
all_claims [] = 0
all_claims (e ∷ es) = e.counts.claims + all_claims es

abbrev pub all_restarts : List Entry → ℕ
all_restarts [] = 0
all_restarts (e ∷ es) = e.counts.restarts + all_restarts es

abbrev pub replies_of : Entry → List SourceReply
replies_of e = map reply_of e.replies

abbrev pub summary_of : Result Replaying Refusal → Result Summary Refusal
summary_of (Err refusal) = Err refusal
summary_of (Ok r) = Ok (record {
  replies = map replies_of r.state.entries;
  phase = slice_index r.state.words 0;
  claims = all_claims r.state.entries;
  restarts = all_restarts r.state.entries;
})

abbrev pub summary : Target → Setting → List (List Call) → List Turn → Result Summary Refusal
summary target setting scripts turns = summary_of (replayed (record { target = target; setting = setting; scripts = scripts; fuel = 1000000; limit = 20000000 }) turns)

-- the list's calls, and the queue's
abbrev pub insert : ℕ → Call
insert key = call_of 0 key

abbrev pub remove : ℕ → Call
remove key = call_of 1 key

abbrev pub contains : ℕ → Call
contains key = call_of 2 key

abbrev pub enqueue : ℕ → Call
enqueue value = call_of 0 value

abbrev pub dequeue : Call
dequeue = call_of 1 0

abbrev pub yes : SourceReply
yes = replies.Number 1

abbrev pub no : SourceReply
no = replies.Number 0

-- so many rounds of `insert 7` and `remove 7`, and as many replies, before others
abbrev pub rounds : ℕ → List Call → List Call
rounds zero more = more
rounds (suc n) more = insert 7 ∷ remove 7 ∷ rounds n more

abbrev pub two_each : ℕ → List SourceReply → List SourceReply
two_each zero more = more
two_each (suc n) more = yes ∷ yes ∷ two_each n more

-- the list and the queue for so many callers and slots, to a last phase
abbrev pub list_for : ℕ → ℕ → ℕ → Setting
list_for callers slots last = setting_of callers slots 2 1 1 last

abbrev pub queue_for : ℕ → ℕ → Setting
queue_for callers slots = setting_of callers slots 2 2 1 1000000000

pub record ListReplays : Type 0 where
  -- insert, contains, remove, contains
  pub plain : summary list_target (list_for 1 64 1000000000) ((insert 5 ∷ contains 5 ∷ remove 5 ∷ contains 5 ∷ []) ∷ []) []
      ≡ Ok (record { replies = (yes ∷ yes ∷ yes ∷ no ∷ []) ∷ []; phase = 1; claims = 1; restarts = 0 })
  -- slots 2 and 3 are used in turn: rounds 3, 5, 7 and 9 sweep once and begin once more
  pub recycling : summary list_target (list_for 1 3 1000000000) (rounds 10 [] ∷ []) []
      ≡ Ok (record { replies = two_each 10 [] ∷ []; phase = 5; claims = 10; restarts = 4 })
  -- two nodes fill the list, and the third insert is given up after two sweeps
  pub full : summary list_target (list_for 1 3 1000000000) ((insert 1 ∷ insert 2 ∷ insert 3 ∷ contains 1 ∷ []) ∷ []) []
      ≡ Ok (record { replies = (yes ∷ yes ∷ replies.Full ∷ yes ∷ []) ∷ []; phase = 3; claims = 2; restarts = 0 })
  -- a retired slot comes back
  pub comes_back : summary list_target (list_for 1 3 1000000000) ((insert 1 ∷ insert 2 ∷ remove 1 ∷ insert 3 ∷ contains 3 ∷ []) ∷ []) []
      ≡ Ok (record { replies = (yes ∷ yes ∷ yes ∷ yes ∷ yes ∷ []) ∷ []; phase = 2; claims = 3; restarts = 1 })
  -- with phases 1 and 2 the third sweep can't be made
  pub phases_over : summary list_target (list_for 1 3 2) (rounds 4 (insert 7 ∷ contains 7 ∷ []) ∷ []) []
      ≡ Ok (record { replies = two_each 4 (replies.Phases 2 ∷ no ∷ []) ∷ []; phase = 2; claims = 4; restarts = 1 })
  -- a caller that warns itself takes its slot from the cradle
  pub warns_itself : summary list_target (list_for 2 2 1000000000) ((insert 5 ∷ remove 5 ∷ insert 6 ∷ contains 6 ∷ []) ∷ [] ∷ []) []
      ≡ Ok (record { replies = (yes ∷ yes ∷ yes ∷ yes ∷ []) ∷ [] ∷ []; phase = 2; claims = 2; restarts = 1 })

pub record SharedReplays : Type 0 where
  -- a read of a recycled slot
  pub recycled : summary list_target (list_for 2 2 1000000000) ((insert 5 ∷ remove 5 ∷ insert 6 ∷ []) ∷ (contains 5 ∷ []) ∷ [])
      (turns.Ops 0 1 ∷ turns.Upto 1 kinds.Load 3 ∷ turns.Ops 0 2 ∷ [])
      ≡ Ok (record { replies = (yes ∷ yes ∷ yes ∷ []) ∷ (no ∷ []) ∷ []; phase = 2; claims = 2; restarts = 2 })
  -- a guarded slot
  pub guarded : summary list_target (list_for 2 3 1000000000)
      ((insert 5 ∷ remove 5 ∷ insert 6 ∷ remove 6 ∷ insert 8 ∷ []) ∷ (remove 5 ∷ []) ∷ [])
      (turns.Ops 0 1 ∷ turns.Upto 1 kinds.Exchange 1 ∷ turns.Ops 0 4 ∷ [])
      ≡ Ok (record { replies = (yes ∷ yes ∷ yes ∷ yes ∷ yes ∷ []) ∷ (no ∷ []) ∷ []; phase = 2; claims = 3; restarts = 1 })
  -- the expected node is guarded: it isn't given out, and the exchange fails
  pub expected : summary list_target (list_for 2 4 1000000000)
      ((insert 6 ∷ remove 6 ∷ insert 3 ∷ remove 3 ∷ insert 4 ∷ []) ∷ (insert 5 ∷ contains 4 ∷ contains 5 ∷ contains 6 ∷ []) ∷ [])
      (turns.Ops 0 1 ∷ turns.Upto 1 kinds.Exchange 1 ∷ turns.Ops 0 4 ∷ [])
      ≡ Ok (record { replies = (yes ∷ yes ∷ yes ∷ yes ∷ yes ∷ []) ∷ (yes ∷ yes ∷ yes ∷ no ∷ []) ∷ []; phase = 2; claims = 4; restarts = 1 })

pub record QueueReplays : Type 0 where
  -- one caller: nothing, two values in the order in which they were put in, nothing, and one more, whose slot a sweep made ready
  pub alone : summary queue_target (queue_for 1 3)
      ((dequeue ∷ enqueue 9 ∷ enqueue 8 ∷ dequeue ∷ dequeue ∷ dequeue ∷ enqueue 7 ∷ dequeue ∷ []) ∷ []) []
      ≡ Ok (record {
        replies = (replies.Nothing ∷ replies.Number 9 ∷ replies.Number 8 ∷ replies.Number 9 ∷ replies.Number 8 ∷ replies.Nothing ∷ replies.Number 7 ∷ replies.Number 7 ∷ []) ∷ [];
        phase = 2;
        claims = 3;
        restarts = 1;
      })
  -- the dequeuer swings the tail before the enqueuer's wrap-up does
  pub late_swing : summary queue_target (queue_for 2 8) ((dequeue ∷ []) ∷ (enqueue 4 ∷ []) ∷ []) (turns.Upto 1 kinds.Exchange 2 ∷ [])
      ≡ Ok (record { replies = (replies.Number 4 ∷ []) ∷ (replies.Number 4 ∷ []) ∷ []; phase = 1; claims = 1; restarts = 0 })

-- ---- turns, fuel and the limit of steps, on the counter: an `add` is five steps, a `nop` two

abbrev pub counter_summary : ℕ → ℕ → ℕ → List (List Call) → List Turn → Result Summary Refusal
counter_summary callers fuel limit scripts turns =
    summary_of (replayed (record { target = counter_target; setting = setting_of callers 2 1 1 0 1000; scripts = scripts; fuel = fuel; limit = limit }) turns)

abbrev pub add : ℕ → Call
add n = call_of 0 n

abbrev pub nop : Call
nop = call_of 1 0

-- these replies, and nothing claimed
abbrev pub replied : List (List SourceReply) → Result Summary Refusal
replied replies = Ok (record { replies = replies; phase = 1; claims = 0; restarts = 0 })

pub record TurnRows : Type 0 where
  -- one script without a schedule
  pub first : counter_summary 1 1000000 20000000 ((add 5 ∷ add 7 ∷ nop ∷ []) ∷ []) []
      ≡ replied ((replies.Number 5 ∷ replies.Number 12 ∷ replies.Nothing ∷ []) ∷ [])
  -- with a fuel of 3 an `add` is spent, and its caller takes no further call; a `nop` isn't
  pub spent : counter_summary 2 3 20000000 ((add 5 ∷ nop ∷ []) ∷ (nop ∷ nop ∷ []) ∷ []) [] ≡ replied ([] ∷ (replies.Nothing ∷ replies.Nothing ∷ []) ∷ [])
  -- a call that ends with the last step of its fuel has ended
  pub just : counter_summary 1 5 20000000 ((add 5 ∷ nop ∷ []) ∷ []) [] ≡ replied ((replies.Number 5 ∷ replies.Nothing ∷ []) ∷ [])
  -- caller 0 stands before its exchange while caller 1 adds 7: it begins again, and replies the sum
  pub disturbed : counter_summary 2 1000000 20000000 ((add 5 ∷ []) ∷ (add 7 ∷ []) ∷ []) (turns.Upto 0 kinds.Exchange 1 ∷ turns.Ops 1 1 ∷ [])
      ≡ replied ((replies.Number 12 ∷ []) ∷ (replies.Number 7 ∷ []) ∷ [])
  -- the same by three steps, and by the turn that stops before the first check and one step more
  pub stepped : counter_summary 2 1000000 20000000 ((add 5 ∷ []) ∷ (add 7 ∷ []) ∷ []) (turns.Step 0 3 ∷ turns.Ops 1 1 ∷ [])
      ≡ replied ((replies.Number 12 ∷ []) ∷ (replies.Number 7 ∷ []) ∷ [])
  pub checked : counter_summary 2 1000000 20000000 ((add 5 ∷ []) ∷ (add 7 ∷ []) ∷ []) (turns.Upto 0 kinds.Check 1 ∷ turns.Step 0 1 ∷ turns.Ops 1 1 ∷ [])
      ≡ replied ((replies.Number 12 ∷ []) ∷ (replies.Number 7 ∷ []) ∷ [])
  -- a turn has ended if its access is wanted at its beginning
  pub wanted_already : counter_summary 2 1000000 20000000 ((add 5 ∷ []) ∷ (add 7 ∷ []) ∷ []) (turns.Upto 0 kinds.Exchange 1 ∷ turns.Upto 0 kinds.Exchange 1 ∷ turns.Ops 1 1 ∷ [])
      ≡ replied ((replies.Number 12 ∷ []) ∷ (replies.Number 7 ∷ []) ∷ [])
  -- before its load it isn't disturbed
  pub before_load : counter_summary 2 1000000 20000000 ((add 5 ∷ []) ∷ (add 7 ∷ []) ∷ []) (turns.Upto 0 kinds.Load 1 ∷ turns.Ops 1 1 ∷ [])
      ≡ replied ((replies.Number 12 ∷ []) ∷ (replies.Number 7 ∷ []) ∷ [])
  -- the second load of a caller with two calls is the second call's
  pub second_load : counter_summary 2 1000000 20000000 ((add 5 ∷ add 6 ∷ []) ∷ (add 7 ∷ []) ∷ []) (turns.Upto 0 kinds.Load 2 ∷ turns.Ops 1 1 ∷ [])
      ≡ replied ((replies.Number 5 ∷ replies.Number 18 ∷ []) ∷ (replies.Number 12 ∷ []) ∷ [])
  -- a caller whose script has ended, a spent one, and one that doesn't exist have no step to take; five steps were made before
  pub nobody : counter_summary 1 1000000 20000000 ((add 5 ∷ []) ∷ []) (turns.Ops 0 1 ∷ turns.Step 0 1 ∷ []) ≡ Err (StepOfNobody 5)
  pub nobody_spent : counter_summary 1 3 20000000 ((add 5 ∷ []) ∷ []) (turns.Step 0 4 ∷ []) ≡ Err (StepOfNobody 3)
  pub nobody_else : counter_summary 1 1000000 20000000 ((add 5 ∷ []) ∷ []) (turns.Step 0 5 ∷ turns.Step 1 1 ∷ []) ≡ Err (StepOfNobody 5)
  -- an `add` makes one exchange, and no second one comes
  pub no_second : counter_summary 1 1000000 20000000 ((add 5 ∷ []) ∷ []) (turns.Upto 0 kinds.Exchange 2 ∷ []) ≡ Err (StepOfNobody 5)
  -- the loads of the warning at the begin and at the wrap-up's start aren't checks: no second one comes
  pub one_check : counter_summary 1 1000000 20000000 ((add 5 ∷ []) ∷ []) (turns.Upto 0 kinds.Check 2 ∷ []) ≡ Err (StepOfNobody 5)
  -- each turn counts the calls that end in it: two calls have ended, and both were made
  pub two_turns : counter_summary 1 1000000 20000000 ((add 5 ∷ add 6 ∷ []) ∷ []) (turns.Ops 0 1 ∷ turns.Ops 0 1 ∷ turns.Step 0 1 ∷ []) ≡ Err (StepOfNobody 10)
  -- without turns the callers are run to their ends in the order of their numbers
  pub in_order : counter_summary 2 1000000 20000000 ((add 5 ∷ []) ∷ (add 7 ∷ []) ∷ []) []
      ≡ replied ((replies.Number 5 ∷ []) ∷ (replies.Number 12 ∷ []) ∷ [])
  -- a turn whose access is wanted has ended, even if its caller has just been spent
  pub wanted_spent : counter_summary 1 3 20000000 ((add 5 ∷ []) ∷ []) (turns.Upto 0 kinds.Exchange 1 ∷ []) ≡ replied ([] ∷ [])
  -- five steps at most: the five of an `add` may be made, and no sixth
  pub limited : counter_summary 1 1000000 5 ((add 5 ∷ []) ∷ []) [] ≡ replied ((replies.Number 5 ∷ []) ∷ [])
  pub long : counter_summary 1 1000000 5 ((add 5 ∷ nop ∷ []) ∷ []) [] ≡ Err (LongReplay 5)
  pub long_turn : counter_summary 1 1000000 5 ((add 5 ∷ nop ∷ []) ∷ []) (turns.Ops 0 2 ∷ []) ≡ Err (LongReplay 5)
  -- at the limit a step of nobody is told first
  pub nobody_first : counter_summary 1 1000000 5 ((add 5 ∷ []) ∷ []) (turns.Ops 0 1 ∷ turns.Step 0 1 ∷ []) ≡ Err (StepOfNobody 5)

pub record KindRows : Type 0 where
  -- the load of slot 0's field by an exchange on null is a load: the second one is the call's seventh step of eight
  pub null_loads : summary numbers_target (setting_of 1 1 1 3 0 1000) ((call_of 1 0 ∷ []) ∷ []) (turns.Upto 0 kinds.Load 2 ∷ turns.Step 0 3 ∷ []) ≡ Err (StepOfNobody 8)
  pub null_loads_end : summary numbers_target (setting_of 1 1 1 3 0 1000) ((call_of 1 0 ∷ []) ∷ []) (turns.Upto 0 kinds.Load 2 ∷ turns.Step 0 2 ∷ []) ≡ replied ((yes ∷ []) ∷ [])
  pub null_exchanges : summary numbers_target (setting_of 1 1 1 3 0 1000) ((call_of 1 0 ∷ []) ∷ []) (turns.Upto 0 kinds.Exchange 1 ∷ []) ≡ Err (StepOfNobody 8)
  -- a call that got Full has ended: 30 steps, and then six of the next call
  pub full_ended : summary swap_target (setting_of 1 1 1 2 1 1000) ((call_of 0 8 ∷ call_of 1 0 ∷ []) ∷ []) (turns.Ops 0 1 ∷ turns.Step 0 7 ∷ []) ≡ Err (StepOfNobody 36)
  -- and one that got the phase too: 5 steps, and then six
  pub over_ended : summary swap_target (setting_of 1 1 1 2 1 1) ((call_of 0 8 ∷ call_of 1 0 ∷ []) ∷ []) (turns.Ops 0 1 ∷ turns.Step 0 7 ∷ []) ≡ Err (StepOfNobody 11)
  -- a claim's exchange and a sweep's aren't exchanges of the text: `swap` has two of these, and the second is its 26th step of 28
  pub text_exchanges : summary swap_target (setting_of 1 2 1 2 1 1000) ((call_of 0 7 ∷ []) ∷ []) (turns.Upto 0 kinds.Exchange 2 ∷ turns.Step 0 4 ∷ []) ≡ Err (StepOfNobody 28)
