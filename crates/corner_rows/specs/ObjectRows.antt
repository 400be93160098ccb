-- Runs in which the object of an exchange is retired, and not the node that it compares.
use Rattle.std.specs.Prelude.{◌≡◌, List, [], ◌∷◌, Some}
use Rattle.norm_lang.specs.declared.reply.SourceReply.TheVariants as replies
use Rattle.oa_words.specs.Words.{Phase, Status, FieldOf, Cell}
use Rattle.caller_parts.specs.Settings.{Setting}
use Rattle.caller_steps.specs.Signs.{Accesses}
use Rattle.core_rows.specs.Short.{call_of, setting_of, no_slots}
use Rattle.core_rows.specs.Stories.{Line, Load, Store, gives, silent, story, lines_after, left_after, calls, begins, passes, renews, reads, exchanges, guards, clears, retires}
use Rattle.corner_rows.specs.CornerTargets.{unlink_target}

abbrev pub unlink_setting : Setting
unlink_setting = setting_of 1 2 1 1 2 1000

-- slot 1 leads to slot 2. The exchange compares slot 2's reference, which is 4, and slot 1 is retired: 6 is the status of one retired in phase 1
abbrev pub cut_lines : List Line
cut_lines = story (
    (begins 0 1 (call_of 0 0) ∷ reads (Cell 0) 2 ∷ passes 0 1 ∷ reads (FieldOf 1 0) 4 ∷ passes 0 1 ∷ [])
    ∷ (guards 0 0 1 ∷ guards 0 1 2 ∷ guards 0 2 0 ∷ passes 0 1 ∷ [])
    ∷ (exchanges (FieldOf 1 0) 4 0 4 ∷ [])
    ∷ retires 1 1 6
    ∷ (clears 0 0 ∷ clears 0 1 ∷ renews 0 1 ∷ [])
    ∷ [])

-- the mark of the object doesn't matter: its guard and its retirement are of slot 1. With the retirement's end local code comes to the
-- end of the empty list, which is an access
abbrev pub snip_lines : List Line
snip_lines = story (
    (begins 0 1 (call_of 1 0) ∷ reads (Cell 0) 2 ∷ passes 0 1 ∷ reads (FieldOf 1 0) 4 ∷ passes 0 1 ∷ [])
    ∷ (guards 0 3 1 ∷ guards 0 1 2 ∷ guards 0 2 0 ∷ passes 0 1 ∷ [])
    ∷ (exchanges (FieldOf 1 0) 4 0 4 ∷ silent (Load Phase 1) ∷ gives (Store (Status 1) 6) (Accesses ∷ []) ∷ [])
    ∷ (clears 0 1 ∷ clears 0 3 ∷ renews 0 1 ∷ [])
    ∷ [])

pub record ObjectRows : Type 0 where
  pub list : lines_after unlink_target unlink_setting [] (calls 0 (call_of 0 0) 15) ≡ cut_lines
  pub list_left : left_after unlink_target unlink_setting (calls 0 (call_of 0 0) 15) 0
      ≡ Some (record { replies = replies.Number 1 ∷ []; cradles = no_slots; restarts = 0; claims = 0 })
  pub marked : lines_after unlink_target unlink_setting [] (calls 0 (call_of 1 0) 15) ≡ snip_lines
  pub marked_left : left_after unlink_target unlink_setting (calls 0 (call_of 1 0) 15) 0
      ≡ Some (record { replies = replies.Nothing ∷ []; cradles = no_slots; restarts = 0; claims = 0 })
