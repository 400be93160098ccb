-- A slow sweep meets a slot that was retired in a later phase than the one that it announces: it leaves the slot, and the next sweep
-- of its claim makes it ready.
use Rattle.std.specs.Prelude.{◌≡◌, List, [], ◌∷◌, ◌++◌, Some}
use Rattle.norm_lang.specs.declared.reply.SourceReply.TheVariants as replies
use Rattle.oa_words.specs.Words.{Phase, Warning, Cell}
use Rattle.caller_parts.specs.Settings.{Setting}
use Rattle.core_runs.specs.Machine.{CoreEvent}
use Rattle.core_rows.specs.Short.{call_of, setting_of, no_slots, cradles_of}
use Rattle.core_rows.specs.Stories.{Line, Exchange, Raise, silent, story, lines_after, left_after, steps, calls, begins, passes, renews, reads, exchanges, guards, clears, looks, takes, retires, raises, warns, no_hazards, finds, frees, pushes}
use Rattle.corner_rows.specs.CornerTargets.{later_target}

-- two callers, and one slot, which holds the initial node
abbrev pub later_setting : Setting
later_setting = setting_of 2 1 1 2 1 1000

-- caller 0 wants a slot: it has found none on top, and its sweep has loaded phase 1. Caller 1 wants one too, sweeps twice, to phases 2
-- and 3, and gets none
abbrev pub outrun_twice : List CoreEvent
outrun_twice = calls 0 (call_of 1 0) 3 ++ calls 1 (call_of 1 0) 46

-- then caller 1 takes the node out of its root, and retires slot 1 in phase 3: 4 times 3, and 2 for retired
abbrev pub drop_late : List Line
drop_late = story (
    (begins 1 3 (call_of 0 0) ∷ reads (Cell 0) 2 ∷ passes 1 3 ∷ guards 1 0 1 ∷ guards 1 1 0 ∷ passes 1 3 ∷ exchanges (Cell 0) 2 0 2 ∷ [])
    ∷ retires 1 3 14
    ∷ (clears 1 0 ∷ renews 1 3 ∷ [])
    ∷ [])

abbrev pub dropped_late : List CoreEvent
dropped_late = outrun_twice ++ calls 1 (call_of 0 0) 11

-- the exchange of the phase fails, and the sweep's s is 2. The slot was retired in phase 3, which isn't below 2: it stays, and the look finds
-- none. The second sweep's s is 4; ready in phase 4 is 16, and the head of phase 4 is 32768 and the slot on top
abbrev pub slow_then_fresh : List Line
slow_then_fresh = story (
    (silent (Exchange Phase 1 2 3) ∷ silent (Raise (Warning 0) 2 3) ∷ silent (Raise (Warning 1) 2 3) ∷ [])
    ∷ no_hazards 0
    ∷ no_hazards 1
    ∷ (finds 1 14 ∷ looks 8192 ∷ [])
    ∷ raises 3 4
    ∷ (warns 0 4 3 ∷ warns 1 4 3 ∷ [])
    ∷ no_hazards 0
    ∷ no_hazards 1
    ∷ (finds 1 14 ∷ frees 1 14 16 ∷ [])
    ∷ pushes 1 8192 0 32769
    ∷ takes 1 32769 0 32768 17
    ∷ [])

pub record LaterRows : Type 0 where
  pub retired : lines_after later_target later_setting outrun_twice (calls 1 (call_of 0 0) 11) ≡ drop_late
  pub other_left : left_after later_target later_setting dropped_late 1
      ≡ Some (record { replies = replies.Full ∷ replies.Nothing ∷ []; cradles = no_slots; restarts = 0; claims = 0 })
  pub sweeps : lines_after later_target later_setting dropped_late (steps 0 50) ≡ slow_then_fresh
  pub left : left_after later_target later_setting (dropped_late ++ steps 0 50) 0
      ≡ Some (record { replies = []; cradles = cradles_of 1 0 0 0; restarts = 0; claims = 1 })
