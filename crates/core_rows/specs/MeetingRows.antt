-- Runs in which two callers meet in their sweeps, claims and loads of the own warning.
use Rattle.std.specs.Prelude.{◌≡◌, ℕ, List, [], ◌∷◌, ◌++◌, Some}
use Rattle.norm_lang.specs.declared.reply.SourceReply.TheVariants as replies
use Rattle.oa_words.specs.Words.{Phase, Warning, Status, FieldOf, Cell, Head}
use Rattle.caller_steps.specs.Signs.{Accesses}
use Rattle.core_runs.specs.Machine.{CoreEvent}
use Rattle.core_rows.specs.Short.{call_of, no_slots, cradles_of}
use Rattle.core_rows.specs.SmallTargets.{swap_target}
use Rattle.core_rows.specs.SwapRows.{swap_setting, again_setting, peek_setting, overtaken}
use Rattle.core_rows.specs.Stories.{Line, Exchange, Raise, gives, silent, story, lines_after, left_after, steps, calls, passes, renews, reads, puts, exchanges, guards, clears, draws, looks, takes, retires, raises, warns, no_hazards, finds, frees, pushes}

-- ---- a slot that is retired in the phase of a sweep under way

-- `swap 7` stands before its guards. The other caller's sweep has raised the phase to 2, warned both and found no guard: it
-- stands before its first status
abbrev pub sweeping : List CoreEvent
sweeping = calls 0 (call_of 0 7) 10 ++ calls 1 (call_of 0 8) 24

-- the check before the list fails, and in a generator's restart no guard stays, the kept register's neither. The second run
-- goes through, and retires slot 1 in phase 2
abbrev pub swap_restarts : List Line
swap_restarts = story (
    (guards 0 0 1 ∷ guards 0 1 2 ∷ renews 0 2 ∷ clears 0 0 ∷ clears 0 1 ∷ [])
    ∷ (reads (Cell 0) 2 ∷ passes 0 2 ∷ draws 2 0 ∷ passes 0 2 ∷ puts (FieldOf 2 0) 7 ∷ guards 0 0 1 ∷ guards 0 1 2 ∷ passes 0 2 ∷ [])
    ∷ (exchanges (Cell 0) 2 4 2 ∷ [])
    ∷ retires 1 2 10
    ∷ (clears 0 1 ∷ renews 0 2 ∷ [])
    ∷ (reads (Cell 0) 4 ∷ passes 0 2 ∷ reads (Cell 1) 0 ∷ passes 0 2 ∷ guards 0 3 0 ∷ guards 0 2 2 ∷ passes 0 2 ∷ [])
    ∷ (gives (Exchange (Cell 1) 0 4 0) (Accesses ∷ Accesses ∷ []) ∷ clears 0 0 ∷ clears 0 2 ∷ [])
    ∷ [])

-- the sweep leaves the slot that was retired in the phase it raised to; the next sweep makes it ready
abbrev pub sweeps_twice : List Line
sweeps_twice = story (
    (finds 2 5 ∷ finds 1 10 ∷ looks 8192 ∷ [])
    ∷ raises 2 3
    ∷ (warns 0 3 2 ∷ warns 1 3 2 ∷ [])
    ∷ no_hazards 0
    ∷ no_hazards 1
    ∷ (finds 2 5 ∷ finds 1 10 ∷ frees 1 10 12 ∷ [])
    ∷ pushes 1 8192 0 24577
    ∷ takes 1 24577 0 24576 13
    ∷ (draws 1 0 ∷ renews 1 3 ∷ [])
    ∷ [])

pub record OwnPhaseRows : Type 0 where
  pub restart : lines_after swap_target swap_setting sweeping (steps 0 28) ≡ swap_restarts
  pub sweeps : lines_after swap_target swap_setting (sweeping ++ steps 0 28) (steps 1 35) ≡ sweeps_twice
  pub left : left_after swap_target swap_setting (sweeping ++ steps 0 28) 0
      ≡ Some (record { replies = replies.Number 8 ∷ []; cradles = no_slots; restarts = 1; claims = 1 })

-- ---- the warning is raised before the load of it at a wrap-up's start, and before the one after `again`

-- `swap 7` has retired slot 1 and cleared the new node's guard. The other caller sweeps twice and gets nothing
abbrev pub before_wrap_up : List CoreEvent
before_wrap_up = calls 0 (call_of 0 7) 17 ++ calls 1 (call_of 0 8) 50

-- the word found is `seen`: no check fails
abbrev pub wrap_up_sees : List Line
wrap_up_sees = story (
    (renews 0 3 ∷ reads (Cell 0) 4 ∷ passes 0 3 ∷ reads (Cell 1) 0 ∷ passes 0 3 ∷ guards 0 3 0 ∷ guards 0 2 2 ∷ passes 0 3 ∷ [])
    ∷ (gives (Exchange (Cell 1) 0 4 0) (Accesses ∷ Accesses ∷ []) ∷ clears 0 0 ∷ clears 0 2 ∷ [])
    ∷ [])

-- `swap 7` has cleared its guards for `again`, and another call of the other caller has warned both
abbrev pub before_again : List CoreEvent
before_again = overtaken ++ (steps 0 14 ++ calls 1 (call_of 0 9) 8)

abbrev pub again_sees : List Line
again_sees = renews 0 2 ∷ reads (Cell 0) 6 ∷ passes 0 2 ∷ draws 2 0 ∷ passes 0 2 ∷ []

pub record SeenRows : Type 0 where
  pub wrap_up : lines_after swap_target swap_setting before_wrap_up (steps 0 11) ≡ wrap_up_sees
  pub wrap_up_left : left_after swap_target swap_setting (before_wrap_up ++ steps 0 11) 0
      ≡ Some (record { replies = replies.Number 8 ∷ []; cradles = no_slots; restarts = 0; claims = 1 })
  pub again : lines_after swap_target again_setting before_again (steps 0 5) ≡ again_sees

-- ---- two sweeps at once, and two looks

-- both callers have loaded phase 1. The second has gone on to its second sweep, and has warned both of phase 3
abbrev pub outrun : List CoreEvent
outrun = calls 0 (call_of 0 7) 5 ++ calls 1 (call_of 0 8) 30

-- the exchange of the phase fails, and the sweep goes on with 2 all the same. No warning is lowered: the next sweep finds 3
abbrev pub slow_sweep : List Line
slow_sweep = story (
    (silent (Exchange Phase 1 2 3) ∷ silent (Raise (Warning 0) 2 3) ∷ silent (Raise (Warning 1) 2 3) ∷ [])
    ∷ no_hazards 0
    ∷ no_hazards 1
    ∷ (finds 1 5 ∷ looks 8192 ∷ [])
    ∷ raises 3 4
    ∷ (warns 0 4 3 ∷ warns 1 4 3 ∷ [])
    ∷ [])

-- both callers have loaded the head with slot 2 on top, and its link. The second has taken the slot, and hasn't stored that it is used
abbrev pub outlooked : List CoreEvent
outlooked = calls 0 (call_of 0 7) 5 ++ calls 1 (call_of 0 8) 6

-- the exchange fails, claims nothing, and the look begins again, with slot 3 on top
abbrev pub slow_look : List Line
slow_look = story (
    (silent (Exchange (Head 0) 8194 8195 8195) ∷ [])
    ∷ takes 3 8195 0 8192 5
    ∷ (draws 3 0 ∷ [])
    ∷ [])

-- a whole `swap 7` has retired slot 1. Both callers' sweeps have loaded its status, and the second, which began in phase 2, has
-- made it ready with its 27th step, and pushed it with three more
abbrev pub outswept : ℕ → List CoreEvent
outswept n = calls 0 (call_of 0 7) 28 ++ (calls 0 (call_of 0 9) 26 ++ calls 1 (call_of 0 8) n)

-- the exchange fails, so the slot isn't pushed twice, and the sweep has ended; the look after it takes the slot
abbrev pub slow_free : List Line
slow_free = silent (Exchange (Status 1) 6 8 12) ∷ takes 1 24577 0 24576 13

-- and finds none as long as the slot isn't pushed
abbrev pub not_pushed : List Line
not_pushed = silent (Exchange (Status 1) 6 8 12) ∷ looks 8192 ∷ []

-- the other caller's first sweep has found slot 1 guarded, and then all guards were cleared
abbrev pub unguarded : List CoreEvent
unguarded = calls 0 (call_of 0 7) 24 ++ (calls 1 (call_of 0 8) 27 ++ steps 0 12)

-- its second sweep gathers nothing, and makes slot 1 ready
abbrev pub fresh_sweep : List Line
fresh_sweep = story (
    raises 2 3
    ∷ (warns 0 3 2 ∷ warns 1 3 2 ∷ [])
    ∷ no_hazards 0
    ∷ no_hazards 1
    ∷ (finds 2 5 ∷ finds 1 6 ∷ frees 1 6 12 ∷ [])
    ∷ pushes 1 8192 0 24577
    ∷ takes 1 24577 0 24576 13
    ∷ [])

pub record RaceRows : Type 0 where
  pub sweeps : lines_after swap_target peek_setting outrun (steps 0 25) ≡ slow_sweep
  pub looks : lines_after swap_target again_setting outlooked (steps 0 6) ≡ slow_look
  pub lost : left_after swap_target again_setting (outlooked ++ steps 0 1) 0
      ≡ Some (record { replies = []; cradles = no_slots; restarts = 0; claims = 0 })
  -- a claim is counted at the exchange that takes its slot, and the cradle is filled with the store after it
  pub counted : left_after swap_target again_setting (outlooked ++ steps 0 4) 0
      ≡ Some (record { replies = []; cradles = no_slots; restarts = 0; claims = 1 })
  pub other_counted : left_after swap_target again_setting outlooked 1
      ≡ Some (record { replies = []; cradles = no_slots; restarts = 0; claims = 1 })
  pub taken : left_after swap_target again_setting (outlooked ++ steps 0 6) 0
      ≡ Some (record { replies = []; cradles = cradles_of 3 0 0 0; restarts = 0; claims = 1 })
  pub late_free : lines_after swap_target swap_setting (outswept 30) (steps 0 5) ≡ slow_free
  pub unpushed : lines_after swap_target swap_setting (outswept 27) (steps 0 2) ≡ not_pushed
  pub forgotten : lines_after swap_target swap_setting unguarded (steps 1 30) ≡ fresh_sweep
