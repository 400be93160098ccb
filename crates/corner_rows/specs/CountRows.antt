-- Counts that have come to their type's end, and what a sweep makes of a status.
use Rattle.std.specs.Prelude.{◌≡◌, ℕ, ◌-◌, ◌^◌, [], ◌∷◌, None}
use Rattle.oa_words.specs.Words.{Sizes}
use Rattle.phase_pools.specs.declared.stages.Scheme.TheVariants.{Warned}
use Rattle.phase_pools.specs.declared.stages.SweepStage.{SweepStage}
use Rattle.phase_pools.specs.declared.stages.SweepStage.TheVariants as sweeps
use Rattle.phase_pools.specs.declared.stages.ClaimStage.TheVariants as stages
use Rattle.phase_pools.specs.Pools.{Sweep, SweepTurn, sweep_accepts, sweep_begun}
use Rattle.caller_parts.specs.declared.routine.Routine.{Routine}
use Rattle.caller_parts.specs.declared.routine.Routine.TheVariants.{At, Claims}
use Rattle.caller_parts.specs.Settings.{Setting}
use Rattle.caller_steps.specs.Entries.{Entry, idle_entry, one_more, empty_hand}
use Rattle.caller_steps.specs.After.{after}
use Rattle.core_rows.specs.Short.{call_of, setting_of}
use Rattle.core_rows.specs.SmallTargets.{swap_target}

-- ---- counts

-- the greatest word
abbrev pub most : ℕ
most = 2 ^ 64 - 1

abbrev pub counting_setting : Setting
counting_setting = setting_of 1 2 1 2 1 1000

-- a caller of `swap` with these counts, which saw the warning 1: where it stands, and before which access
abbrev pub counted_entry : ℕ → ℕ → ℕ → ℕ → Routine → Entry
counted_entry steps restarts claims at routine = record (idle_entry 0) {
  running = record { call = call_of 0 7; steps = steps };
  hand = record empty_hand { at = at; seen = 1 };
  routine = routine;
  counts = record { restarts = restarts; claims = claims };
}

-- before the check after the root's load, and before the exchange that takes slot 2 from under the head of phase 1
abbrev pub at_check : ℕ → ℕ → Entry
at_check steps restarts = counted_entry steps restarts 0 1 At

abbrev pub at_take : ℕ → Entry
at_take claims = counted_entry 0 0 claims 2 (Claims (record { kind = 0; stage = stages.Take 1 2 0; sweeps = 0; sweep = sweep_begun 8192 Warned }))

abbrev pub told : Entry → ℕ → Entry
told e word = after swap_target counting_setting e word

pub record CountRows : Type 0 where
  pub last : one_more (2 ^ 64 - 2) ≡ most
  pub stays : one_more most ≡ most
  -- the step itself, if the check passes
  pub steps : (told (at_check 8 0) 1).running.steps ≡ 9
  pub last_step : (told (at_check (2 ^ 64 - 2) 0) 1).running.steps ≡ most
  pub steps_stay : (told (at_check most 0) 1).running.steps ≡ most
  -- the restart, if it fails
  pub restarts : (told (at_check 8 3) 2).counts.restarts ≡ 4
  pub restarts_stay : (told (at_check 8 most) 2).counts.restarts ≡ most
  -- the claim, if the exchange finds the head; if it doesn't, none is counted
  pub claims : (told (at_take 3) 8194).counts.claims ≡ 4
  pub claims_stay : (told (at_take most) 8194).counts.claims ≡ most
  pub not_claimed : (told (at_take 3) 8193).counts.claims ≡ 3

-- ---- what a sweep makes of a status

-- one caller and three slots
abbrev pub three_slots : Sizes
three_slots = record { callers = 1; slots = 3; fields = 1; cells = 1; kinds = 3 ∷ []; tops = 8192 }

-- a sweep whose s is 2, which has gathered slot 3, and comes to a status
abbrev pub second_sweep : SweepStage → Sweep
second_sweep stage = record { scheme = Warned; tops = 8192; stage = stage; bound = 2; low = 2; gathered = 3 ∷ [] }

abbrev pub meets : ℕ → ℕ → SweepTurn
meets slot word = sweep_accepts three_slots 1000 (second_sweep (sweeps.ReadStatus slot)) word

abbrev pub goes_to : SweepStage → SweepTurn
goes_to stage = record { sweep = second_sweep stage; ended = None }

pub record StatusRows : Type 0 where
  -- retired in phase 1
  pub before : meets 2 6 ≡ goes_to (sweeps.MakeReady 2 1)
  -- the same, and gathered
  pub gathered : meets 3 6 ≡ goes_to (sweeps.ReadStatus 2)
  -- retired in phase 2, in phase 3, and in phase 900
  pub same : meets 2 10 ≡ goes_to (sweeps.ReadStatus 1)
  pub later : meets 2 14 ≡ goes_to (sweeps.ReadStatus 1)
  pub much_later : meets 2 3602 ≡ goes_to (sweeps.ReadStatus 1)
  -- ready and used, in phase 1
  pub ready : meets 2 4 ≡ goes_to (sweeps.ReadStatus 1)
  pub used : meets 2 5 ≡ goes_to (sweeps.ReadStatus 1)
  -- of no kind: 4 times the phase 1, and 3; and 3 alone
  pub no_kind : meets 2 7 ≡ goes_to (sweeps.ReadStatus 1)
  pub no_kind_no_phase : meets 2 3 ≡ goes_to (sweeps.ReadStatus 1)
