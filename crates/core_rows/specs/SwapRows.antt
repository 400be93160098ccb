-- Runs of a text whose wrap-up keeps a register: the guard of the old node stays through the wrap-up and through its restart,
-- and is cleared by `again` and at the end. And wrap-ups that load, claims that are given up.
use Rattle.std.specs.Prelude.{◌≡◌, ℕ, true, false, List, [], ◌∷◌, ◌++◌, Some, None}
use Rattle.norm_lang.specs.declared.reply.SourceReply.TheVariants as replies
use Rattle.oa_words.specs.Words.{Phase, Warning, FieldOf, Cell, Head}
use Rattle.caller_parts.specs.Settings.{Setting}
use Rattle.caller_steps.specs.Signs.{Begins, Accesses, GivesUp}
use Rattle.core_runs.specs.Machine.{CoreEvent}
use Rattle.core_rows.specs.Short.{call_of, setting_of, no_slots}
use Rattle.core_rows.specs.SmallTargets.{swap_target}
use Rattle.core_rows.specs.Stories.{Line, Load, Exchange, gives, story, lines_after, left_after, accessed_after, guards_after, steps, calls, begins, passes, ends, renews, reads, puts, exchanges, guards, clears, draws, looks, takes, retires, raises, warns, hazards, no_hazards, finds}

-- two callers, and two slots: the second caller finds none on top
abbrev pub swap_setting : Setting
swap_setting = setting_of 2 2 1 2 1 1000

-- `swap 7` takes slot 2, puts it in place of slot 1, and retires slot 1. At the wrap-up's start the guard of the new node is
-- cleared, and the old node's stays. The wrap-up goes on to before its last check
abbrev pub swap_lines : List Line
swap_lines = story (
    (begins 0 1 (call_of 0 7) ∷ reads (Cell 0) 2 ∷ passes 0 1 ∷ [])
    ∷ takes 2 8194 0 8192 5
    ∷ (draws 2 0 ∷ passes 0 1 ∷ [])
    ∷ (puts (FieldOf 2 0) 7 ∷ guards 0 0 1 ∷ guards 0 1 2 ∷ passes 0 1 ∷ [])
    ∷ (exchanges (Cell 0) 2 4 2 ∷ [])
    ∷ retires 1 1 6
    ∷ (clears 0 1 ∷ renews 0 1 ∷ [])
    ∷ (reads (Cell 0) 4 ∷ passes 0 1 ∷ reads (Cell 1) 0 ∷ passes 0 1 ∷ guards 0 3 0 ∷ guards 0 2 2 ∷ [])
    ∷ [])

-- the other caller sweeps twice. Each time slot 1 is retired and guarded, and slot 2 used: nothing is made ready, and the
-- claim ends
abbrev pub other_lines : List Line
other_lines = story (
    (begins 1 1 (call_of 0 8) ∷ reads (Cell 0) 4 ∷ passes 1 1 ∷ [])
    ∷ (looks 8192 ∷ [])
    ∷ raises 1 2
    ∷ (warns 0 2 1 ∷ warns 1 2 1 ∷ [])
    ∷ hazards 0 (1 ∷ 0 ∷ 2 ∷ 0 ∷ 0 ∷ 0 ∷ 0 ∷ 0 ∷ [])
    ∷ no_hazards 1
    ∷ (finds 2 5 ∷ finds 1 6 ∷ looks 8192 ∷ [])
    ∷ raises 2 3
    ∷ (warns 0 3 2 ∷ warns 1 3 2 ∷ [])
    ∷ hazards 0 (1 ∷ 0 ∷ 2 ∷ 0 ∷ 0 ∷ 0 ∷ 0 ∷ 0 ∷ [])
    ∷ no_hazards 1
    ∷ (finds 2 5 ∷ finds 1 6 ∷ gives (Load (Head 0) 8192) (GivesUp None ∷ []) ∷ [])
    ∷ [])

-- the check fails: r2's guard is cleared and r0's stays, and the wrap-up runs once more with the registers of its start, so
-- that the argument is counted up once. Its exchange is an access, and so is the end to which local code comes. Then all
-- guards are cleared, in the order of numbers
abbrev pub restart_lines : List Line
restart_lines = story (
    (renews 0 3 ∷ clears 0 2 ∷ [])
    ∷ (reads (Cell 0) 4 ∷ passes 0 3 ∷ reads (Cell 1) 0 ∷ passes 0 3 ∷ guards 0 3 0 ∷ guards 0 2 2 ∷ passes 0 3 ∷ [])
    ∷ (gives (Exchange (Cell 1) 0 4 0) (Accesses ∷ Accesses ∷ []) ∷ clears 0 0 ∷ clears 0 2 ∷ [])
    ∷ [])

abbrev pub swapped : List CoreEvent
swapped = calls 0 (call_of 0 7) 24

abbrev pub swept : List CoreEvent
swept = swapped ++ calls 1 (call_of 0 8) 50

-- between the failed check and its clear the other caller's next call warns once more
abbrev pub warned_between : List CoreEvent
warned_between = swept ++ (steps 0 1 ++ calls 1 (call_of 0 8) 7)

-- `seen` is what the check found, so the next check fails too
abbrev pub fails_again : List Line
fails_again = clears 0 2 ∷ reads (Cell 0) 4 ∷ renews 0 4 ∷ reads (Cell 0) 4 ∷ passes 0 4 ∷ []

pub record KeptRows : Type 0 where
  pub lines : lines_after swap_target swap_setting [] swapped ≡ swap_lines
  -- the kept guard was validated in the generator; those of the wrap-up wait for a check, and null's never gets one
  pub kept : guards_after swap_target swap_setting swapped 0
      ≡ Some (record { slots = 1 ∷ 0 ∷ 2 ∷ 0 ∷ 0 ∷ 0 ∷ 0 ∷ 0 ∷ []; validated = true ∷ false ∷ false ∷ false ∷ false ∷ false ∷ false ∷ false ∷ [] })
  pub other : lines_after swap_target swap_setting swapped (calls 1 (call_of 0 8) 50) ≡ other_lines
  pub restart : lines_after swap_target swap_setting swept (steps 0 12) ≡ restart_lines
  -- right after the failed check, with a guard still to clear: the restart is counted, and the wrap-up run to come has
  -- made no access
  pub counted : left_after swap_target swap_setting (swept ++ steps 0 1) 0 ≡ Some (record { replies = []; cradles = no_slots; restarts = 1; claims = 1 })
  pub accessed : accessed_after swap_target swap_setting (swept ++ steps 0 1) 0 ≡ Some false
  pub accessed_before : accessed_after swap_target swap_setting swept 0 ≡ Some true
  pub between : lines_after swap_target swap_setting warned_between (steps 0 5) ≡ fails_again
  pub left : left_after swap_target swap_setting (swept ++ steps 0 12) 0
      ≡ Some (record { replies = replies.Number 8 ∷ []; cradles = no_slots; restarts = 1; claims = 1 })
  pub other_left : left_after swap_target swap_setting (swept ++ steps 0 12) 1
      ≡ Some (record { replies = replies.Full ∷ []; cradles = no_slots; restarts = 0; claims = 0 })

-- with three slots: caller 0 stands before the exchange of its `swap 7`, and caller 1 makes a whole `swap 8`
abbrev pub again_setting : Setting
again_setting = setting_of 2 3 1 2 1 1000

abbrev pub overtaken : List CoreEvent
overtaken = calls 0 (call_of 0 7) 13 ++ calls 1 (call_of 0 8) 28

-- the exchange fails, and the cradle keeps its slot. The wrap-up makes its three accesses and begins again: all guards are
-- cleared, the kept one too. Then the generator runs with its argument, and its `new` takes the cradle's slot
abbrev pub again_lines : List Line
again_lines = story (
    (exchanges (Cell 0) 2 4 6 ∷ clears 0 1 ∷ renews 0 1 ∷ [])
    ∷ (reads (Cell 0) 6 ∷ passes 0 1 ∷ reads (Cell 1) 6 ∷ passes 0 1 ∷ guards 0 3 3 ∷ guards 0 2 3 ∷ passes 0 1 ∷ [])
    ∷ (gives (Exchange (Cell 1) 6 6 6) (Accesses ∷ Accesses ∷ []) ∷ clears 0 0 ∷ clears 0 2 ∷ clears 0 3 ∷ renews 0 1 ∷ [])
    ∷ (reads (Cell 0) 6 ∷ passes 0 1 ∷ draws 2 0 ∷ passes 0 1 ∷ puts (FieldOf 2 0) 7 ∷ guards 0 0 3 ∷ guards 0 1 2 ∷ passes 0 1 ∷ [])
    ∷ (exchanges (Cell 0) 6 4 6 ∷ [])
    ∷ retires 3 1 6
    ∷ (clears 0 1 ∷ renews 0 1 ∷ [])
    ∷ (reads (Cell 0) 4 ∷ passes 0 1 ∷ reads (Cell 1) 6 ∷ passes 0 1 ∷ guards 0 3 3 ∷ guards 0 2 2 ∷ passes 0 1 ∷ [])
    ∷ (gives (Exchange (Cell 1) 6 4 6) (Accesses ∷ Accesses ∷ []) ∷ clears 0 0 ∷ clears 0 2 ∷ clears 0 3 ∷ [])
    ∷ [])

pub record KeptAgainRows : Type 0 where
  pub lines : lines_after swap_target again_setting overtaken (steps 0 39) ≡ again_lines
  pub left : left_after swap_target again_setting (overtaken ++ steps 0 39) 0
      ≡ Some (record { replies = replies.Number 8 ∷ []; cradles = no_slots; restarts = 0; claims = 1 })
  pub other_left : left_after swap_target again_setting (overtaken ++ steps 0 39) 1
      ≡ Some (record { replies = replies.Number 9 ∷ []; cradles = no_slots; restarts = 0; claims = 1 })

-- one slot: a claim never finds one
abbrev pub peek_setting : Setting
peek_setting = setting_of 2 1 1 2 1 1000

-- `peek` loads the root and then its node in the wrap-up, and stands before the second check
abbrev pub peek_lines : List Line
peek_lines =
    gives (Load (Warning 0) 1) (Begins (call_of 1 0) ∷ Accesses ∷ [])
    ∷ renews 0 1
    ∷ reads (Cell 0) 2
    ∷ passes 0 1
    ∷ reads (FieldOf 1 0) 40
    ∷ []

abbrev pub peeked : ℕ → List CoreEvent
peeked n = calls 0 (call_of 1 0) n

-- the other caller's claim has swept twice
abbrev pub warned : List CoreEvent
warned = peeked 5 ++ calls 1 (call_of 0 8) 48

-- the check fails: the wrap-up run begins once more, and its end is an access
abbrev pub peek_again : List Line
peek_again = renews 0 3 ∷ reads (Cell 0) 2 ∷ passes 0 3 ∷ reads (FieldOf 1 0) 40 ∷ ends 0 3 ∷ []

pub record PeekRows : Type 0 where
  pub lines : lines_after swap_target peek_setting [] (peeked 5) ≡ peek_lines
  pub again : lines_after swap_target peek_setting warned (steps 0 5) ≡ peek_again
  pub left : left_after swap_target peek_setting (warned ++ steps 0 5) 0
      ≡ Some (record { replies = replies.Number 40 ∷ []; cradles = no_slots; restarts = 1; claims = 0 })
  -- whether the present wrap-up run has made an access: not at its start, from its first load on, not after its failed check,
  -- and once more from the next load on
  pub at_start : accessed_after swap_target peek_setting (peeked 2) 0 ≡ Some false
  pub at_load : accessed_after swap_target peek_setting (peeked 3) 0 ≡ Some true
  pub at_failure : accessed_after swap_target peek_setting (warned ++ steps 0 1) 0 ≡ Some false
  pub at_second_load : accessed_after swap_target peek_setting (warned ++ steps 0 2) 0 ≡ Some true
  -- a generator's loads don't count
  pub in_generator : accessed_after swap_target peek_setting (calls 0 (call_of 0 8) 2) 0 ≡ Some false

-- one caller, one slot and one phase: the sweep can't raise the phase
abbrev pub over_setting : Setting
over_setting = setting_of 1 1 1 2 1 1

abbrev pub over_lines : List Line
over_lines =
    begins 0 1 (call_of 0 8)
    ∷ reads (Cell 0) 2
    ∷ passes 0 1
    ∷ looks 8192
    ∷ gives (Load Phase 1) (GivesUp (Some 1) ∷ [])
    ∷ []

-- one caller, one slot and phases enough: three looks and two sweeps between them
abbrev pub full_setting : Setting
full_setting = setting_of 1 1 1 2 1 1000

abbrev pub full_lines : List Line
full_lines = story (
    (begins 0 1 (call_of 0 8) ∷ reads (Cell 0) 2 ∷ passes 0 1 ∷ looks 8192 ∷ [])
    ∷ raises 1 2
    ∷ (warns 0 2 1 ∷ [])
    ∷ no_hazards 0
    ∷ (finds 1 5 ∷ looks 8192 ∷ [])
    ∷ raises 2 3
    ∷ (warns 0 3 2 ∷ [])
    ∷ no_hazards 0
    ∷ (finds 1 5 ∷ gives (Load (Head 0) 8192) (GivesUp None ∷ []) ∷ [])
    ∷ [])

-- with phases 1 and 2 the second sweep can't raise the phase
abbrev pub second_over_setting : Setting
second_over_setting = setting_of 1 1 1 2 1 2

abbrev pub second_over_lines : List Line
second_over_lines = story (
    (begins 0 1 (call_of 0 8) ∷ reads (Cell 0) 2 ∷ passes 0 1 ∷ looks 8192 ∷ [])
    ∷ raises 1 2
    ∷ (warns 0 2 1 ∷ [])
    ∷ no_hazards 0
    ∷ (finds 1 5 ∷ looks 8192 ∷ gives (Load Phase 2) (GivesUp (Some 2) ∷ []) ∷ [])
    ∷ [])

-- the next call finds its own warning raised, and is none the worse
abbrev pub peek_after_full : List Line
peek_after_full =
    gives (Load (Warning 0) 3) (Begins (call_of 1 0) ∷ Accesses ∷ [])
    ∷ renews 0 3
    ∷ reads (Cell 0) 2
    ∷ passes 0 3
    ∷ reads (FieldOf 1 0) 40
    ∷ ends 0 3
    ∷ []

pub record GivenUpRows : Type 0 where
  pub over : lines_after swap_target over_setting [] (calls 0 (call_of 0 8) 5) ≡ over_lines
  pub over_left : left_after swap_target over_setting (calls 0 (call_of 0 8) 5) 0
      ≡ Some (record { replies = replies.Phases 1 ∷ []; cradles = no_slots; restarts = 0; claims = 0 })
  pub second_over : lines_after swap_target second_over_setting [] (calls 0 (call_of 0 8) 18) ≡ second_over_lines
  pub full : lines_after swap_target full_setting [] (calls 0 (call_of 0 8) 30) ≡ full_lines
  pub next : lines_after swap_target full_setting (calls 0 (call_of 0 8) 30) (peeked 6) ≡ peek_after_full
  pub full_left : left_after swap_target full_setting (calls 0 (call_of 0 8) 30 ++ peeked 6) 0
      ≡ Some (record { replies = replies.Full ∷ replies.Number 40 ∷ []; cradles = no_slots; restarts = 0; claims = 0 })
