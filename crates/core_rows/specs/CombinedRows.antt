-- The shipped queue as `compile` makes it: loads that don't feed each other share a check, and a load before an exchange shares that of
-- the guards. Its target written by hand, and its runs: an `enqueue 9` alone, a `dequeue` after it, and one of an empty queue.
use Rattle.std.specs.Prelude.{◌≡◌, List, [], ◌∷◌, ◌++◌, length, Ok, Some}
use Rattle.schedule_turns.specs.declared.turn.Turn.TheVariants as turns
use Rattle.schedule_turns.specs.declared.turn.StepKind.TheVariants as kinds
use Rattle.norm_lang.specs.declared.text.Instr.TheVariants.{Set, Null, LoadRoot, LoadField, New, Put, Cas, Jump, IfEq, Commit, Return, Again}
use Rattle.norm_lang.specs.Shipped.{root_entry, next_entry, retiring, queue_text}
use Rattle.norm_lang.specs.declared.reply.SourceReply.TheVariants as replies
use Rattle.oa_words.specs.Words.{FieldOf, Cell}
use Rattle.target_code.specs.declared.target.TargetInstr.TheVariants.{Plain, Check, Guard}
use Rattle.target_code.specs.declared.target.TargetOp.{TargetOp}
use Rattle.target_code.specs.declared.target.Target.{Target}
use Rattle.target_code.specs.SecondScheme.{second_scheme}
use Rattle.caller_parts.specs.Settings.{Setting}
use Rattle.core_runs.specs.Machine.{CoreEvent}
use Rattle.core_rows.specs.Short.{n0, n1, n2, n7, r0, r1, r2, r3, no_slots}
use Rattle.core_rows.specs.ShippedTargets.{enqueue_target, dequeue_target, queue_target}
use Rattle.core_rows.specs.Stories.{Line, Exchange, gives, story, lines_after, left_after, calls, begins, passes, ends, renews, reads, puts, exchanges, guards, clears, draws, zeroes, takes, retires}
use Rattle.core_rows.specs.ReplayRows.{summary, queue_for, enqueue, dequeue}
use Rattle.caller_steps.specs.Signs.{Accesses}

-- ---- the target

-- the check of the tail's `next` comes after the null that it is compared with
abbrev pub combined_enqueue : TargetOp
combined_enqueue = record enqueue_target {
  generator =
      Plain (LoadRoot r0 1)
      ∷ Check
      ∷ Plain (LoadField r1 r0 1)
      ∷ Plain (Null r2)
      ∷ Check
      ∷ Plain (IfEq r1 r2 11)
      ∷ Guard r0
      ∷ Guard r1
      ∷ Check
      ∷ Plain (Cas (root_entry 1 r0 r1) 0)
      ∷ Plain (Jump 0)
      ∷ Plain (New r3 0)
      ∷ Check
      ∷ Plain (Put r3 0 n0)
      ∷ Guard r0
      ∷ Guard r2
      ∷ Guard r3
      ∷ Check
      ∷ Plain (Commit (next_entry r0 r2 r3 ∷ []))
      ∷ [];
  wrapup =
      Plain (Set n1 0)
      ∷ Plain (IfEq n7 n1 13)
      ∷ Plain (LoadRoot r0 1)
      ∷ Check
      ∷ Plain (LoadField r1 r0 1)
      ∷ Plain (Null r2)
      ∷ Check
      ∷ Plain (IfEq r1 r2 12)
      ∷ Guard r0
      ∷ Guard r1
      ∷ Check
      ∷ Plain (Cas (root_entry 1 r0 r1) 12)
      ∷ Plain (Return n0)
      ∷ Plain Again
      ∷ [];
}

-- head and tail share a check, and the load of the value shares that of the guards
abbrev pub combined_dequeue : TargetOp
combined_dequeue = record dequeue_target {
  generator =
      Plain (Null r3)
      ∷ Plain (LoadRoot r0 0)
      ∷ Plain (LoadRoot r1 1)
      ∷ Check
      ∷ Plain (LoadField r2 r0 1)
      ∷ Check
      ∷ Plain (IfEq r0 r1 13)
      ∷ Plain (LoadField n1 r2 0)
      ∷ Plain (Set n2 1)
      ∷ Guard r0
      ∷ Guard r2
      ∷ Check
      ∷ Plain (Commit (retiring (root_entry 0 r0 r2) r0 ∷ []))
      ∷ Plain (IfEq r2 r3 19)
      ∷ Guard r1
      ∷ Guard r2
      ∷ Check
      ∷ Plain (Cas (root_entry 1 r1 r2) 1)
      ∷ Plain (Jump 1)
      ∷ Plain (Set n1 0)
      ∷ Plain (Set n2 0)
      ∷ Plain (Commit [])
      ∷ [];
}

abbrev pub combined_queue : Target
combined_queue = record queue_target { ops = combined_enqueue ∷ combined_dequeue ∷ [] }

-- ---- runs of one caller with three slots

abbrev pub alone : Setting
alone = queue_for 1 3

-- `enqueue 9` with slot 2, which goes after the sentinel, and the tail is helped on; the last exchange ends a wrap-up run that has
-- made accesses
abbrev pub nine_enqueued : List Line
nine_enqueued = story (
    (begins 0 1 (enqueue 9) ∷ reads (Cell 1) 2 ∷ passes 0 1 ∷ reads (FieldOf 1 1) 0 ∷ passes 0 1 ∷ [])
    ∷ takes 2 8194 3 8195 5
    ∷ (zeroes 2 0 ∷ draws 2 1 ∷ passes 0 1 ∷ puts (FieldOf 2 0) 9 ∷ [])
    ∷ (guards 0 0 1 ∷ guards 0 2 0 ∷ guards 0 3 2 ∷ passes 0 1 ∷ exchanges (FieldOf 1 1) 0 4 0 ∷ [])
    ∷ (clears 0 0 ∷ clears 0 3 ∷ renews 0 1 ∷ [])
    ∷ (reads (Cell 1) 2 ∷ passes 0 1 ∷ reads (FieldOf 1 1) 4 ∷ passes 0 1 ∷ guards 0 0 1 ∷ guards 0 1 2 ∷ passes 0 1 ∷ [])
    ∷ (gives (Exchange (Cell 1) 2 4 2) (Accesses ∷ Accesses ∷ []) ∷ clears 0 0 ∷ clears 0 1 ∷ [])
    ∷ [])

-- a `dequeue` of the 9: head and tail, the head's `next` and its value, and the exchange of the head, which retires the sentinel
abbrev pub nine_dequeued : List Line
nine_dequeued = story (
    (begins 0 1 dequeue ∷ reads (Cell 0) 2 ∷ reads (Cell 1) 4 ∷ passes 0 1 ∷ reads (FieldOf 1 1) 4 ∷ passes 0 1 ∷ [])
    ∷ (reads (FieldOf 2 0) 9 ∷ guards 0 0 1 ∷ guards 0 2 2 ∷ passes 0 1 ∷ exchanges (Cell 0) 2 4 2 ∷ [])
    ∷ retires 1 1 6
    ∷ (clears 0 0 ∷ clears 0 2 ∷ renews 0 1 ∷ [])
    ∷ [])

-- a `dequeue` of an empty queue: its list is empty, and ends with the check before it
abbrev pub nothing_dequeued : List Line
nothing_dequeued = begins 0 1 dequeue ∷ reads (Cell 0) 2 ∷ reads (Cell 1) 2 ∷ passes 0 1 ∷ reads (FieldOf 1 1) 0 ∷ ends 0 1 ∷ renews 0 1 ∷ []

abbrev pub enqueued : List CoreEvent
enqueued = calls 0 (enqueue 9) 31

pub record CombinedRows : Type 0 where
  pub compiled : second_scheme queue_text ≡ combined_queue
  pub enqueue_alone : lines_after combined_queue alone [] enqueued ≡ nine_enqueued
  pub dequeue_alone : lines_after combined_queue alone enqueued (calls 0 dequeue 16) ≡ nine_dequeued
  -- 16 steps; with a check after each load it takes 18
  pub steps : length nine_dequeued ≡ 16
  pub dequeue_empty : lines_after combined_queue alone [] (calls 0 dequeue 7) ≡ nothing_dequeued
  -- each of the calls has ended with its last line
  pub left : left_after combined_queue alone (enqueued ++ calls 0 dequeue 16) 0
      ≡ Some (record { replies = replies.Number 9 ∷ replies.Number 9 ∷ []; cradles = no_slots; restarts = 0; claims = 1 })
  pub left_empty : left_after combined_queue alone (calls 0 dequeue 7) 0
      ≡ Some (record { replies = replies.Nothing ∷ []; cradles = no_slots; restarts = 0; claims = 0 })
  -- one caller: nothing, two values in the order in which they were put in, nothing, and one more, whose slot a sweep made ready
  pub recycled : summary combined_queue alone
      ((dequeue ∷ enqueue 9 ∷ enqueue 8 ∷ dequeue ∷ dequeue ∷ dequeue ∷ enqueue 7 ∷ dequeue ∷ []) ∷ []) []
      ≡ Ok (record {
        replies = (replies.Nothing ∷ replies.Number 9 ∷ replies.Number 8 ∷ replies.Number 9 ∷ replies.Number 8 ∷ replies.Nothing ∷ replies.Number 7 ∷ replies.Number 7 ∷ []) ∷ [];
        phase = 2;
        claims = 3;
        restarts = 1;
      })
  -- the dequeuer swings the tail before the enqueuer's wrap-up does
  pub late_swing : summary combined_queue (queue_for 2 8) ((dequeue ∷ []) ∷ (enqueue 4 ∷ []) ∷ []) (turns.Upto 1 kinds.Exchange 2 ∷ [])
      ≡ Ok (record { replies = (replies.Number 4 ∷ []) ∷ (replies.Number 4 ∷ []) ∷ []; phase = 1; claims = 1; restarts = 0 })
