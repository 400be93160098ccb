-- Runs in which cradles keep slots: they go by the order of the `new` instructions, a list that fails leaves them, a list's
-- exchange that succeeds empties them, an auxiliary exchange doesn't, and no end of a call does.
use Rattle.std.specs.Prelude.{◌≡◌, ℕ, List, [], ◌∷◌, ◌++◌, Option, Some}
use Rattle.norm_lang.specs.declared.reply.SourceReply.{SourceReply}
use Rattle.norm_lang.specs.declared.reply.SourceReply.TheVariants as replies
use Rattle.oa_words.specs.Words.{Cell}
use Rattle.caller_parts.specs.Settings.{Setting}
use Rattle.caller_steps.specs.Signs.{Accesses}
use Rattle.core_runs.specs.Machine.{CoreEvent}
use Rattle.core_rows.specs.Short.{call_of, setting_of, no_slots, cradles_of}
use Rattle.core_rows.specs.SmallTargets.{branches_target, stale_target}
use Rattle.core_rows.specs.Stories.{Line, Left, Exchange, gives, story, lines_after, left_after, calls, begins, passes, renews, reads, exchanges, guards, clears, draws, looks, takes, retires, raises, warns, no_hazards, finds, frees, pushes}

-- ---- two `new` in branches

abbrev pub branches_setting : ℕ → Setting
branches_setting slots = setting_of 1 slots 1 2 1 1000

-- two slots and one phase
abbrev pub last_setting : Setting
last_setting = setting_of 1 2 1 2 1 1

-- the second `new` claims slot 2, but the second root is full: the list fails
abbrev pub second_branch : List Line
second_branch = story (
    (begins 0 1 (call_of 0 0) ∷ [])
    ∷ takes 2 8194 3 8195 5
    ∷ (draws 2 0 ∷ passes 0 1 ∷ [])
    ∷ (guards 0 0 0 ∷ guards 0 2 2 ∷ passes 0 1 ∷ exchanges (Cell 1) 0 4 2 ∷ clears 0 2 ∷ renews 0 1 ∷ [])
    ∷ [])

-- the first `new` claims slot 3, which goes into the empty root
abbrev pub first_branch : List Line
first_branch = story (
    (begins 0 1 (call_of 0 1) ∷ [])
    ∷ takes 3 8195 4 8196 5
    ∷ (draws 3 0 ∷ passes 0 1 ∷ [])
    ∷ (guards 0 0 0 ∷ guards 0 1 3 ∷ passes 0 1 ∷ exchanges (Cell 0) 0 6 0 ∷ clears 0 1 ∷ renews 0 1 ∷ [])
    ∷ [])

-- the second `new` once more: it takes slot 2 from its cradle and claims nothing
abbrev pub second_again : List Line
second_again = story (
    (begins 0 1 (call_of 0 0) ∷ draws 2 0 ∷ passes 0 1 ∷ [])
    ∷ (guards 0 0 0 ∷ guards 0 2 2 ∷ passes 0 1 ∷ exchanges (Cell 1) 0 4 2 ∷ clears 0 2 ∷ renews 0 1 ∷ [])
    ∷ [])

abbrev pub one_fill : List CoreEvent
one_fill = calls 0 (call_of 0 0) 13

abbrev pub two_fills : List CoreEvent
two_fills = one_fill ++ calls 0 (call_of 0 1) 13

abbrev pub three_fills : List CoreEvent
three_fills = two_fills ++ calls 0 (call_of 0 0) 9

-- the first `new` claims slot 4, and the first root is full by now
abbrev pub four_fills : List CoreEvent
four_fills = three_fills ++ calls 0 (call_of 0 1) 13

abbrev pub filled : List SourceReply → List ℕ → ℕ → Option Left
filled replies cradles claims = Some (record { replies = replies; cradles = cradles; restarts = 0; claims = claims })

pub record BranchRows : Type 0 where
  pub second : lines_after branches_target (branches_setting 4) [] one_fill ≡ second_branch
  -- the second `new` by instruction order is the first that this caller makes: its slot is in cradle 1
  pub claimed : left_after branches_target (branches_setting 4) (calls 0 (call_of 0 0) 5) 0 ≡ filled [] (cradles_of 0 2 0 0) 1
  -- the exchange before has counted it
  pub counted : left_after branches_target (branches_setting 4) (calls 0 (call_of 0 0) 4) 0 ≡ filled [] no_slots 1
  pub failed : left_after branches_target (branches_setting 4) one_fill 0 ≡ filled (replies.Number 0 ∷ []) (cradles_of 0 2 0 0) 1
  pub first : lines_after branches_target (branches_setting 4) one_fill (calls 0 (call_of 0 1) 13) ≡ first_branch
  -- the slot is in cradle 0 until the exchange, its eleventh step
  pub unpublished : left_after branches_target (branches_setting 4) (one_fill ++ calls 0 (call_of 0 1) 10) 0 ≡ filled (replies.Number 0 ∷ []) (cradles_of 3 2 0 0) 2
  pub published : left_after branches_target (branches_setting 4) (one_fill ++ calls 0 (call_of 0 1) 11) 0 ≡ filled (replies.Number 0 ∷ []) (cradles_of 0 2 0 0) 2
  pub again : lines_after branches_target (branches_setting 4) two_fills (calls 0 (call_of 0 0) 9) ≡ second_again
  pub four : left_after branches_target (branches_setting 4) four_fills 0
      ≡ filled (replies.Number 0 ∷ replies.Number 1 ∷ replies.Number 0 ∷ replies.Number 0 ∷ []) (cradles_of 4 2 0 0) 3
  -- with two slots the first `new` gets none: three looks, with two sweeps of 13 steps between them. Cradle 1
  -- keeps its slot
  pub full : left_after branches_target (branches_setting 2) (one_fill ++ calls 0 (call_of 0 1) 30) 0
      ≡ filled (replies.Number 0 ∷ replies.Full ∷ []) (cradles_of 0 2 0 0) 1
  -- and if the phases are over, it gets none after the look and the load of the phase
  pub over : left_after branches_target last_setting (one_fill ++ calls 0 (call_of 0 1) 3) 0
      ≡ filled (replies.Number 0 ∷ replies.Phases 1 ∷ []) (cradles_of 0 2 0 0) 1

-- ---- a text that isn't proper

abbrev pub stale_setting : Setting
stale_setting = setting_of 1 2 1 2 1 1000

-- `renew` puts slot 2 in place of slot 1
abbrev pub renew_lines : List Line
renew_lines = story (
    (begins 0 1 (call_of 0 0) ∷ reads (Cell 0) 2 ∷ passes 0 1 ∷ [])
    ∷ takes 2 8194 0 8192 5
    ∷ (draws 2 0 ∷ passes 0 1 ∷ [])
    ∷ (guards 0 0 1 ∷ guards 0 1 2 ∷ passes 0 1 ∷ exchanges (Cell 0) 2 4 2 ∷ [])
    ∷ retires 1 1 6
    ∷ (clears 0 0 ∷ clears 0 1 ∷ renews 0 1 ∷ [])
    ∷ [])

-- `copy` puts slot 2 into the second root. With its exchange local code comes to the end of the empty list, an access too
abbrev pub copy_lines : List Line
copy_lines =
    begins 0 1 (call_of 1 0)
    ∷ reads (Cell 0) 4
    ∷ passes 0 1
    ∷ reads (Cell 1) 0
    ∷ passes 0 1
    ∷ guards 0 1 0
    ∷ guards 0 0 2
    ∷ passes 0 1
    ∷ gives (Exchange (Cell 1) 0 4 0) (Accesses ∷ Accesses ∷ [])
    ∷ clears 0 0
    ∷ renews 0 1
    ∷ []

-- the second `renew` sweeps, claims slot 1, and begins once more since it has warned itself. Then it retires slot 2, which
-- the second root still has
abbrev pub second_renew : List Line
second_renew = story (
    (begins 0 1 (call_of 0 0) ∷ reads (Cell 0) 4 ∷ passes 0 1 ∷ looks 8192 ∷ [])
    ∷ raises 1 2
    ∷ (warns 0 2 1 ∷ [])
    ∷ no_hazards 0
    ∷ (finds 2 5 ∷ finds 1 6 ∷ frees 1 6 8 ∷ [])
    ∷ pushes 1 8192 0 16385
    ∷ takes 1 16385 0 16384 9
    ∷ (draws 1 0 ∷ renews 0 2 ∷ [])
    ∷ (reads (Cell 0) 4 ∷ passes 0 2 ∷ draws 1 0 ∷ passes 0 2 ∷ [])
    ∷ (guards 0 0 2 ∷ guards 0 1 1 ∷ passes 0 2 ∷ exchanges (Cell 0) 4 2 4 ∷ [])
    ∷ retires 2 2 10
    ∷ (clears 0 0 ∷ clears 0 1 ∷ renews 0 2 ∷ [])
    ∷ [])

-- `hold` sweeps and claims slot 2. Its auxiliary exchange puts what the second root has, slot 2, into the first
abbrev pub hold_lines : List Line
hold_lines = story (
    (begins 0 2 (call_of 2 0) ∷ reads (Cell 0) 2 ∷ passes 0 2 ∷ reads (Cell 1) 4 ∷ passes 0 2 ∷ looks 16384 ∷ [])
    ∷ raises 2 3
    ∷ (warns 0 3 2 ∷ [])
    ∷ no_hazards 0
    ∷ (finds 2 10 ∷ frees 2 10 12 ∷ [])
    ∷ pushes 2 16384 0 24578
    ∷ (finds 1 9 ∷ [])
    ∷ takes 2 24578 0 24576 13
    ∷ (draws 2 0 ∷ renews 0 3 ∷ [])
    ∷ (reads (Cell 0) 2 ∷ passes 0 3 ∷ reads (Cell 1) 4 ∷ passes 0 3 ∷ draws 2 0 ∷ passes 0 3 ∷ [])
    ∷ (guards 0 0 1 ∷ guards 0 2 2 ∷ passes 0 3 ∷ [])
    ∷ (gives (Exchange (Cell 0) 2 4 2) (Accesses ∷ Accesses ∷ []) ∷ clears 0 0 ∷ clears 0 2 ∷ renews 0 3 ∷ [])
    ∷ [])

-- the cradle still has slot 2: the next `hold` claims nothing
abbrev pub second_hold : List Line
second_hold = story (
    (begins 0 3 (call_of 2 0) ∷ reads (Cell 0) 4 ∷ passes 0 3 ∷ reads (Cell 1) 4 ∷ passes 0 3 ∷ draws 2 0 ∷ passes 0 3 ∷ [])
    ∷ (guards 0 0 2 ∷ guards 0 2 2 ∷ passes 0 3 ∷ [])
    ∷ (gives (Exchange (Cell 0) 4 4 4) (Accesses ∷ Accesses ∷ []) ∷ clears 0 0 ∷ clears 0 2 ∷ renews 0 3 ∷ [])
    ∷ [])

abbrev pub renewed : List CoreEvent
renewed = calls 0 (call_of 0 0) 18

abbrev pub copied : List CoreEvent
copied = renewed ++ calls 0 (call_of 1 0) 11

abbrev pub renewed_twice : List CoreEvent
renewed_twice = copied ++ calls 0 (call_of 0 0) 40

abbrev pub held : List CoreEvent
held = renewed_twice ++ calls 0 (call_of 2 0) 42

abbrev pub held_twice : List CoreEvent
held_twice = held ++ calls 0 (call_of 2 0) 14

abbrev pub stale_replies : List SourceReply
stale_replies = replies.Number 1 ∷ replies.Nothing ∷ replies.Number 1 ∷ replies.Nothing ∷ []

pub record StaleRows : Type 0 where
  pub renew : lines_after stale_target stale_setting [] renewed ≡ renew_lines
  pub copy : lines_after stale_target stale_setting renewed (calls 0 (call_of 1 0) 11) ≡ copy_lines
  pub renew_again : lines_after stale_target stale_setting copied (calls 0 (call_of 0 0) 40) ≡ second_renew
  pub hold : lines_after stale_target stale_setting renewed_twice (calls 0 (call_of 2 0) 42) ≡ hold_lines
  -- the auxiliary exchange put a reference to the cradle's slot in place, and the cradle isn't emptied
  pub after_hold : left_after stale_target stale_setting held 0
      ≡ Some (record { replies = stale_replies; cradles = cradles_of 2 0 0 0; restarts = 2; claims = 3 })
  pub hold_again : lines_after stale_target stale_setting held (calls 0 (call_of 2 0) 14) ≡ second_hold
  pub after_second_hold : left_after stale_target stale_setting held_twice 0
      ≡ Some (record { replies = stale_replies ++ replies.Nothing ∷ []; cradles = cradles_of 2 0 0 0; restarts = 2; claims = 3 })

-- `late` has a guard where it comes to its `new`, which is cleared before the claim
abbrev pub late_lines : List Line
late_lines = story (
    (begins 0 1 (call_of 3 0) ∷ reads (Cell 0) 2 ∷ passes 0 1 ∷ guards 0 0 1 ∷ passes 0 1 ∷ exchanges (Cell 0) 2 2 2 ∷ [])
    ∷ (clears 0 0 ∷ [])
    ∷ takes 2 8194 0 8192 5
    ∷ (draws 2 0 ∷ passes 0 1 ∷ [])
    ∷ (guards 0 0 1 ∷ guards 0 1 2 ∷ passes 0 1 ∷ exchanges (Cell 0) 2 4 2 ∷ [])
    ∷ retires 1 1 6
    ∷ (clears 0 0 ∷ clears 0 1 ∷ renews 0 1 ∷ [])
    ∷ [])

-- and if the claim warns the caller itself, the generator that begins once more clears nothing, publishes its guard once
-- more, and clears it at the `new` before it zeroes the cradle's slot
abbrev pub late_again : List Line
late_again = story (
    (begins 0 1 (call_of 3 0) ∷ reads (Cell 0) 4 ∷ passes 0 1 ∷ guards 0 0 2 ∷ passes 0 1 ∷ exchanges (Cell 0) 4 4 4 ∷ [])
    ∷ (clears 0 0 ∷ looks 8192 ∷ [])
    ∷ raises 1 2
    ∷ (warns 0 2 1 ∷ [])
    ∷ no_hazards 0
    ∷ (finds 2 5 ∷ finds 1 6 ∷ frees 1 6 8 ∷ [])
    ∷ pushes 1 8192 0 16385
    ∷ takes 1 16385 0 16384 9
    ∷ (draws 1 0 ∷ renews 0 2 ∷ [])
    ∷ (reads (Cell 0) 4 ∷ passes 0 2 ∷ guards 0 0 2 ∷ passes 0 2 ∷ exchanges (Cell 0) 4 4 4 ∷ clears 0 0 ∷ draws 1 0 ∷ passes 0 2 ∷ [])
    ∷ (guards 0 0 2 ∷ guards 0 1 1 ∷ passes 0 2 ∷ exchanges (Cell 0) 4 2 4 ∷ [])
    ∷ retires 2 2 10
    ∷ (clears 0 0 ∷ clears 0 1 ∷ renews 0 2 ∷ [])
    ∷ [])

pub record LateRows : Type 0 where
  pub lines : lines_after stale_target stale_setting [] (calls 0 (call_of 3 0) 22) ≡ late_lines
  pub again : lines_after stale_target stale_setting (calls 0 (call_of 3 0) 22) (calls 0 (call_of 3 0) 48) ≡ late_again
  pub left : left_after stale_target stale_setting (calls 0 (call_of 3 0) 22 ++ calls 0 (call_of 3 0) 48) 0
      ≡ Some (record { replies = replies.Number 1 ∷ replies.Number 1 ∷ []; cradles = no_slots; restarts = 1; claims = 2 })
