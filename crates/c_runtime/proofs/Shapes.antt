-- Frames and claims by their parts, so that lines and stages compute.
use Rattle.std.specs.Prelude.{ℕ, List}
use Rattle.phase_pools.specs.declared.stages.Scheme.TheVariants.{Warned}
use Rattle.phase_pools.specs.declared.stages.SweepStage.{SweepStage}
use Rattle.phase_pools.specs.declared.stages.ClaimStage.{ClaimStage}
use Rattle.phase_pools.specs.declared.stages.ClaimStage.TheVariants as claims
use Rattle.phase_pools.specs.Pools.{Claim, ClaimTurn, Sweep, SweepTurn, claim_sweeps}
use Rattle.c_language.specs.Steps.{Pool, Kept, Frame}
use Rattle.c_runtime.specs.Laws.{Follows}

abbrev pub frame : ℕ → (ℕ → ℕ) → Kept → Frame
frame at l m = record { at = at; locals = l; kept = m }

-- a claim at a stage, with a sweep that warns
abbrev pub staged : Pool → ℕ → ℕ → Sweep → ClaimStage → Claim
staged pool kind count sweep stage =
    record { kind = kind; stage = stage; sweeps = count; sweep = record sweep { scheme = Warned; tops = pool.sizes.tops } }

-- a sweep that warns, and recycles what was retired before the phase to which it raises
abbrev pub sweep_at : Pool → SweepStage → ℕ → List ℕ → Sweep
sweep_at pool stage s gathered = record { scheme = Warned; tops = pool.sizes.tops; stage = stage; bound = s; low = s; gathered = gathered }

abbrev pub sweeping : Pool → ℕ → ℕ → SweepStage → ℕ → List ℕ → Claim
sweeping pool kind count stage s gathered = record { kind = kind; stage = claims.Sweeps; sweeps = count; sweep = sweep_at pool stage s gathered }

abbrev pub TurnsTo : Pool → ℕ → ClaimTurn → Frame → Type 0
TurnsTo pool kind turn f = Follows pool kind turn.claim turn.ended f

-- what a sweep that stood somewhere comes to
abbrev pub SweepsTo : Pool → ℕ → ℕ → SweepStage → ℕ → List ℕ → SweepTurn → Frame → Type 0
SweepsTo pool kind count was s gathered turn f = TurnsTo pool kind (claim_sweeps (sweeping pool kind count was s gathered) turn) f
