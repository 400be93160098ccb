-- The words of the chains (stacks of Treiber, 1986, whose heads have a stamp) stay within their limits, whatever is retired.
use Rattle.std.specs.Prelude.{ℕ, ◌≡◌, ◌≤◌, ◌<◌, List, length, Some}
use Rattle.oa_words.specs.Words.{Word, Phase, Link, Sizes}
use Rattle.oa_words.specs.SlotKinds.{kind_of, IsNullOrOf}
use Rattle.oa_words.specs.Within.{AreKinds}
use Rattle.oa_words.specs.Starts.{Beginning}
use Rattle.phase_pools.specs.declared.stages.SweepStage.{SweepStage}
use Rattle.phase_pools.specs.declared.stages.SweepStage.TheVariants as sweeps
use Rattle.phase_pools.specs.declared.stages.ClaimStage.{ClaimStage}
use Rattle.phase_pools.specs.declared.stages.ClaimStage.TheVariants as claims
use Rattle.phase_pools.specs.Pools.{Sweep}
use Rattle.chain_laws.specs.Chains.{stamp, top}
use Rattle.chain_laws.specs.Laws.{NodesFit, StartsAs}
use Rattle.chain_laws.specs.Machine.{Standing, Elsewhere, Claims, Retires, PoolEvent}
use Rattle.chain_laws.specs.claim_order.Frontier.{OpenState, open_run, open_start}

-- a phase that a caller has loaded or raises to isn't past the phase word
abbrev pub SweepBelow : ℕ → ℕ → SweepStage → Type 0
SweepBelow phase s sweeps.ReadPhase = Unit {0}
SweepBelow phase s (sweeps.RaisePhase p) = p ≤ phase
SweepBelow phase s (sweeps.Warn d) = s ≤ phase
SweepBelow phase s (sweeps.ReadHazard d r) = s ≤ phase
SweepBelow phase s (sweeps.ReadStatus j) = s ≤ phase
SweepBelow phase s (sweeps.MakeReady j q) = s ≤ phase
SweepBelow phase s (sweeps.PushHead k j) = s ≤ phase
SweepBelow phase s (sweeps.PushLink j q t) = (s ≤ phase) × (q ≤ phase)
SweepBelow phase s (sweeps.PushTop k j q t) = (s ≤ phase) × (q ≤ phase)

abbrev pub ClaimBelow : ℕ → Sweep → ClaimStage → Type 0
ClaimBelow phase sweep claims.ReadHead = Unit {0}
ClaimBelow phase sweep (claims.ReadLink q t) = q ≤ phase
ClaimBelow phase sweep (claims.Take q t next) = q ≤ phase
ClaimBelow phase sweep (claims.StoreUsed q t) = q ≤ phase
ClaimBelow phase sweep (claims.Withdraw own) = Unit {0}
ClaimBelow phase sweep claims.Sweeps = SweepBelow phase sweep.bound sweep.stage

abbrev pub Below : ℕ → Standing → Type 0
Below phase Elsewhere = Unit {0}
Below phase (Claims claim) = ClaimBelow phase claim.sweep claim.stage
Below phase (Retires retirement) = Unit {0}

pub record WordsWithin (n : Sizes) (memory : Word → ℕ) : Type 0 where
  -- each head's phase is at most the phase word
  pub stamped : (k : ℕ) → k < length n.kinds → stamp n.tops memory k ≤ memory Phase
  -- each head's top names a slot of its kind, or none, and each link one of the kind of its slot
  pub topped : (k : ℕ) → k < length n.kinds → IsNullOrOf n k (top n.tops memory k)
  pub linked : (j : ℕ) → j ≤ n.slots → IsNullOrOf n (kind_of n j) (memory (Link j))

-- in each state of a run with any retirements
abbrev pub WordsStayWithin : Sizes → ℕ → Beginning → Type 0
WordsStayWithin n last start = AreKinds n → n.slots < n.tops → NodesFit n start → (memory : Word → ℕ) → StartsAs n start memory
    → (events : List PoolEvent) (state : OpenState) → open_run n last events (open_start n start memory) ≡ Some state → WordsWithin n state.memory
