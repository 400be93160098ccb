-- The steps of calls, causes, claims, and calls with a `new`, on explicit runs.
use Rattle.std.specs.Prelude.{◌≡◌, ℕ, List, [], ◌∷◌, ◌++◌, map, codes}
use Rattle.norm_lang.specs.declared.text.Instr.TheVariants as instr
use Rattle.norm_lang.specs.Shipped.{root_entry}
use Rattle.norm_lang.specs.declared.reply.SourceReply.TheVariants as replies
use Rattle.target_code.specs.declared.target.TargetInstr.TheVariants.{Plain}
use Rattle.target_code.specs.declared.target.TargetOp.{TargetOp}
use Rattle.caller_parts.specs.declared.call.Call.{Call}
use Rattle.caller_parts.specs.declared.call.Running.{Running}
use Rattle.caller_parts.specs.declared.call.Replied.{Replied}
use Rattle.caller_parts.specs.declared.routine.Routine.TheVariants.{At}
use Rattle.caller_parts.specs.declared.setting.Reclamation.TheVariants.{Epochs}
use Rattle.caller_parts.specs.Settings.{Setting}
use Rattle.caller_steps.specs.Entries.{Entry, idle_entry}
use Rattle.core_runs.specs.Machine.{CoreEvent, Takes}
use Rattle.core_rows.specs.Short.{r0, r1, call_of, setting_of}
use Rattle.core_rows.specs.SmallTargets.{counter_target, swap_target, branches_target}
use Rattle.core_rows.specs.ShippedTargets.{list_target, queue_target}
use Rattle.core_rows.specs.ReplayRows.{insert, remove, contains, enqueue, dequeue, add, nop}
use Rattle.core_rows.specs.SwapRows.{again_setting}
use Rattle.core_rows.specs.MeetingRows.{outlooked}
use Rattle.core_rows.specs.ChainRows.{circle_target, circle_setting, all_taken}
use Rattle.core_rows.specs.Stories.{calls, steps}
use Rattle.claim_laws.specs.CallSteps.{StepMade, call_steps, steps_of_call}
use Rattle.claim_laws.specs.Causes.{FoundLastPhase, EndsInFailedLook}
use Rattle.claim_laws.specs.Claimed.{claimed_by}
use Rattle.claim_laws.specs.Publishing.{news_of_call, new_calls, new_calls_in}
use Rattle.corner_rows.specs.CornerTargets.{four_target, later_target}
use Rattle.corner_rows.specs.FourRows.{four_setting, third_full}
use Rattle.corner_rows.specs.LaterRows.{later_setting}

-- ---- the steps of each call

abbrev pub found_in : StepMade → ℕ
found_in step = step.found

abbrev pub words_found : List StepMade → List ℕ
words_found steps = map found_in steps

-- caller 0 begins to add 5, caller 1 adds 7, caller 0 goes on to its end; then it does nothing, of which it makes one step of two
abbrev pub mixed : List CoreEvent
mixed = calls 0 (add 5) 1 ++ (calls 1 (add 7) 5 ++ (steps 0 4 ++ calls 0 nop 1))

abbrev pub mixed_setting : Setting
mixed_setting = setting_of 2 2 1 1 0 1000

abbrev pub found_by_calls : List CoreEvent → ℕ → List (List ℕ)
found_by_calls events c = map words_found (call_steps counter_target mixed_setting events c)

pub record StepRows : Type 0 where
  -- by an `add`: the warning, the sum, the warning, the sum, and the warning
  pub both : found_by_calls mixed 0 ≡ (1 ∷ 7 ∷ 1 ∷ 7 ∷ 1 ∷ []) ∷ (1 ∷ []) ∷ []
  pub other : found_by_calls mixed 1 ≡ (1 ∷ 0 ∷ 1 ∷ 0 ∷ 1 ∷ []) ∷ []
  pub first : words_found (steps_of_call counter_target mixed_setting mixed 0 0) ≡ 1 ∷ 7 ∷ 1 ∷ 7 ∷ 1 ∷ []
  pub second : words_found (steps_of_call counter_target mixed_setting mixed 0 1) ≡ 1 ∷ []
  pub third : steps_of_call counter_target mixed_setting mixed 0 2 ≡ []
  -- a call that was taken and has made no step, and a caller that has taken none
  pub untouched : found_by_calls (Takes 0 nop ∷ []) 0 ≡ [] ∷ []
  pub nobody : found_by_calls (Takes 0 nop ∷ []) 1 ≡ []

-- ---- why a call was given up

-- one slot, which holds the initial node, and phases to this one
abbrev pub crowded : ℕ → Setting
crowded last = record later_setting { last = last }

-- the steps of a `put_in` that wants the slot, so many
abbrev pub wanting : ℕ → ℕ → List StepMade
wanting last n = steps_of_call later_target (crowded last) (calls 0 (call_of 1 0) n) 0 0

pub record CauseRows : Type 0 where
  -- its third step loads phase 1, which is the last one, and no other
  pub over : FoundLastPhase (crowded 1) 1 (wanting 1 3)
  pub not_second : FoundLastPhase (crowded 1) 2 (wanting 1 3) → ⊥
  -- before it, and if phase 2 comes after it
  pub not_yet : FoundLastPhase (crowded 1) 1 (wanting 1 2) → ⊥
  pub not_last : FoundLastPhase (crowded 2) 1 (wanting 2 3) → ⊥
  -- its second, 24th and 46th steps are the looks, each of which finds no slot on top: the last one follows two sweeps
  pub full : EndsInFailedLook (crowded 1000) (wanting 1000 46)
  pub first_look : EndsInFailedLook (crowded 1000) (wanting 1000 2) → ⊥
  pub second_look : EndsInFailedLook (crowded 1000) (wanting 1000 24) → ⊥
  -- and the step before it is a sweep's
  pub before_look : EndsInFailedLook (crowded 1000) (wanting 1000 45) → ⊥

-- the same under epochs: the code of the text itself
abbrev pub bare_put_in : TargetOp
bare_put_in = record {
  name = codes "put_in";
  args = 0;
  generator = Plain (instr.Null r0) ∷ Plain (instr.New r1 0) ∷ Plain (instr.Commit (root_entry 1 r0 r1 ∷ [])) ∷ [];
  wrapup = Plain instr.ReturnNone ∷ [];
}

abbrev pub announced : ℕ → Setting
announced last = record (crowded last) { reclamation = Epochs }

abbrev pub waiting : ℕ → ℕ → List StepMade
waiting last n = steps_of_call (record later_target { ops = bare_put_in ∷ [] }) (announced last) (calls 0 (call_of 0 0) n) 0 0

pub record EpochCauseRows : Type 0 where
  -- its fifth step is the sweep's load of the phase, after the look and the withdrawal of what it had announced. Its first step loaded the
  -- same word, to announce it
  pub over : FoundLastPhase (crowded 1) 1 (waiting 1 5)
  pub not_yet : FoundLastPhase (crowded 1) 1 (waiting 1 4) → ⊥
  -- the looks are its third, tenth and 16th steps: a sweep loads the two warnings and one status
  pub full : EndsInFailedLook (announced 1000) (waiting 1000 16)
  pub first_look : EndsInFailedLook (announced 1000) (waiting 1000 3) → ⊥
  pub second_look : EndsInFailedLook (announced 1000) (waiting 1000 10) → ⊥
  pub before_look : EndsInFailedLook (announced 1000) (waiting 1000 15) → ⊥

-- ---- claims

pub record ClaimedRows : Type 0 where
  -- each `new` of a path claims a slot, in the order of the chain
  pub four : claimed_by four_target (four_setting 2 5) third_full 0 ≡ 1 ∷ 2 ∷ 3 ∷ 4 ∷ []
  pub other : claimed_by four_target (four_setting 2 5) third_full 1 ≡ 5 ∷ []
  -- at the exchange, and not before it nor with the store after it: the caller's fourth step and its fifth
  pub before : claimed_by four_target (four_setting 1 4) (calls 0 (call_of 0 0) 3) 0 ≡ []
  pub exchanged : claimed_by four_target (four_setting 1 4) (calls 0 (call_of 0 0) 4) 0 ≡ 1 ∷ []
  pub stored : claimed_by four_target (four_setting 1 4) (calls 0 (call_of 0 0) 5) 0 ≡ 1 ∷ []
  -- an exchange that fails claims nothing, and the look after it does
  pub lost : claimed_by swap_target again_setting (outlooked ++ steps 0 1) 0 ≡ []
  pub won : claimed_by swap_target again_setting (outlooked ++ steps 0 1) 1 ≡ 2 ∷ []
  pub next : claimed_by swap_target again_setting (outlooked ++ steps 0 6) 0 ≡ 3 ∷ []
  -- a slot that is claimed by each of three
  pub thrice : map (claimed_by circle_target circle_setting all_taken) (0 ∷ 1 ∷ 2 ∷ []) ≡ (1 ∷ []) ∷ (1 ∷ []) ∷ (1 ∷ []) ∷ []

-- ---- calls with a `new`

abbrev pub run_with : Call → Running
run_with call = record { call = call; steps = 0 }

-- some calls of the list, and of the queue
abbrev pub list_runs : List Running
list_runs = map run_with (insert 5 ∷ contains 5 ∷ insert 5 ∷ remove 5 ∷ insert 6 ∷ [])

abbrev pub queue_runs : List Running
queue_runs = map run_with (enqueue 5 ∷ dequeue ∷ dequeue ∷ enqueue 6 ∷ dequeue ∷ [])

abbrev pub told_one : Call → Replied
told_one call = record { call = call; reply = replies.Number 1; steps = 9 }

-- a caller that had replies to an `insert` and a `remove`, and runs another `insert`; and one that was told of two and runs none
abbrev pub running_third : Entry
running_third = record (idle_entry 0) { running = run_with (insert 8); routine = At; replies = told_one (insert 5) ∷ told_one (remove 5) ∷ [] }

abbrev pub ended_both : Entry
ended_both = record (idle_entry 1) { running = run_with (insert 7); replies = told_one (contains 7) ∷ told_one (insert 7) ∷ [] }

abbrev pub both_entries : List Entry
both_entries = running_third ∷ ended_both ∷ []

pub record NewRows : Type 0 where
  pub insert_has_one : news_of_call list_target (insert 5) ≡ 1
  pub remove_has_none : news_of_call list_target (remove 5) ≡ 0
  -- two in branches, and four in one path
  pub fill_has_two : news_of_call branches_target (call_of 0 1) ≡ 2
  pub four_has_four : news_of_call four_target (call_of 0 0) ≡ 4
  pub no_operation : news_of_call list_target (call_of 3 0) ≡ 0
  pub of_list : new_calls list_target list_runs ≡ 3
  pub of_queue : new_calls queue_target queue_runs ≡ 2
  pub of_four : new_calls four_target (map run_with (call_of 0 0 ∷ call_of 1 0 ∷ call_of 0 0 ∷ [])) ≡ 9
  pub of_callers : new_calls_in list_target both_entries ≡ 3
