-- What holds of each caller beside what is shared.
use Rattle.std.specs.Prelude.{ℕ, ◌≡◌, ◌≢◌, ◌≤◌, ◌<◌, ◌⊎◌, true, false, List, Some}
use Rattle.oa_words.specs.Words.{Phase, Warning}
use Rattle.phase_pools.specs.declared.stages.SweepStage.{SweepStage}
use Rattle.phase_pools.specs.declared.stages.SweepStage.TheVariants as sweeps
use Rattle.phase_pools.specs.Pools.{Sweep}
use Rattle.phase_pools.specs.declared.stages.ClaimStage.{ClaimStage}
use Rattle.phase_pools.specs.declared.stages.ClaimStage.TheVariants as claims
use Rattle.source_machine.specs.Proper.{has}
use Rattle.source_machine.specs.declared.state.SourceCaller.{SourceCaller}
use Rattle.source_machine.specs.MethodRuns.{MethodRun}
use Rattle.caller_steps.specs.Entries.{Entry, cradle_of}
use Rattle.oa_simulation.specs.sim_relation.Views.{Plan, Held, Shared}
use Rattle.oa_simulation.specs.sim_relation.Callers.{Own}
use Rattle.oa_simulation.specs.sim_relation.MayChange.{MayChange}
use Rattle.epoch_relation.specs.Reckoned.{reckoned_at, reckoned}

-- a caller: its entry, what was retired when it stored its announcement, the source's caller, and the source's method run
pub record Caller : Type 0 where
  pub entry : Entry
  pub old : List ℕ
  pub source : SourceCaller
  pub watch : MethodRun

-- it has announced a phase
abbrev pub IsAnnounced : Shared → ℕ → Type 0
IsAnnounced s d = s.memory (Warning d) ≢ 0

-- what holds wherever the caller stands
pub record Base (t : Plan) (s : Shared) (since : ℕ → ℕ) (d : ℕ) (x : Caller) : Type 0 where
  pub number : x.entry.number ≡ d
  -- what has a tag below the phase word at the announcement's store was retired before it
  pub old : IsAnnounced s d → (n p : ℕ) → s.tag n ≡ Some p → p < since d → has n x.old ≡ true
  pub before : (n : ℕ) → has n x.old ≡ true → has n s.source.retired ≡ true
  pub cradle : (k : ℕ) → cradle_of x.entry k ≢ 0 → s.owner (cradle_of x.entry k) ≡ Held d k

-- a name that the caller may hold while it is announced: null, its own, or published and not retired before
abbrev pub IsSafe : Plan → Shared → ℕ → Caller → ℕ → Type 0
IsSafe t s d x n = (n ≡ 0) ⊎ Own t s d n ⊎ ((s.public n ≡ true) × (has n x.old ≡ false))

-- ---- sweeps

-- a sweep that recycles what was retired before low has loaded what the callers below x have announced
pub record Passed (t : Plan) (s : Shared) (since : ℕ → ℕ) (low x : ℕ) : Type 0 where
  pub raised : low ≤ s.memory Phase
  pub passed : (c : ℕ) → c < x → low ≤ reckoned_at (s.memory (Warning c)) (since c) (s.memory Phase)

abbrev pub SweepAt : Plan → Shared → (ℕ → ℕ) → ℕ → SweepStage → Type 0
SweepAt t s since low sweeps.ReadPhase = Unit {0}
SweepAt t s since low (sweeps.RaisePhase q) = q ≤ s.memory Phase
SweepAt t s since low (sweeps.Warn c) = Passed t s since low c × (c < t.setting.sizes.callers)
SweepAt t s since low (sweeps.ReadHazard c r) = ⊥
SweepAt t s since low (sweeps.ReadStatus j) = Passed t s since low t.setting.sizes.callers
SweepAt t s since low (sweeps.MakeReady j q) = Passed t s since low t.setting.sizes.callers × (q < low)
SweepAt t s since low (sweeps.PushHead kind j) = Passed t s since low t.setting.sizes.callers
SweepAt t s since low (sweeps.PushLink j q top) = Passed t s since low t.setting.sizes.callers
SweepAt t s since low (sweeps.PushTop kind j q top) = Passed t s since low t.setting.sizes.callers

-- a caller's own announcement is withdrawn while it sweeps, and stays so until it announces again
abbrev pub ClaimAt : Plan → Shared → (ℕ → ℕ) → ℕ → Sweep → ClaimStage → Type 0
ClaimAt t s since d sweep claims.ReadHead = Unit {0}
ClaimAt t s since d sweep (claims.ReadLink q j) = 1 ≤ j
ClaimAt t s since d sweep (claims.Take q j next) = 1 ≤ j
ClaimAt t s since d sweep (claims.StoreUsed q j) = 1 ≤ j
ClaimAt t s since d sweep (claims.Withdraw own) = own ≡ d
ClaimAt t s since d sweep claims.Sweeps = SweepAt t s since sweep.low sweep.stage

-- what one caller's step may do to what is shared, and so to what is known of the others
pub record Changes (t : Plan) (c : ℕ) (s : Shared) (since : ℕ → ℕ) (s' : Shared) (since' : ℕ → ℕ) : Type 0 where
  pub goes : MayChange t c (reckoned s since) (reckoned s' since')
  -- nobody changes another's announcement
  pub warning : (d : ℕ) → d ≢ c → s'.memory (Warning d) ≡ s.memory (Warning d)
  pub stays : (d : ℕ) → d ≢ c → since' d ≡ since d
  -- what is retired stays so
  pub retired : (n : ℕ) → has n s.source.retired ≡ true → has n s'.source.retired ≡ true
