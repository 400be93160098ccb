-- The lines of a claim make the accesses of a claim.
use Rattle.std.proofs.Common.{◌≡◌, ◌⊎◌, ℕ, ◌<◌, List, [], refl, sym, subst, arith, inl, inr}
use Rattle.phase_pools.specs.declared.stages.Scheme.{Scheme}
use Rattle.phase_pools.specs.declared.stages.Scheme.TheVariants.{Warned}
use Rattle.phase_pools.specs.declared.stages.SweepStage.{SweepStage}
use Rattle.phase_pools.specs.declared.stages.SweepStage.TheVariants as sweeps
use Rattle.phase_pools.specs.declared.stages.ClaimStage.{ClaimStage}
use Rattle.phase_pools.specs.declared.stages.ClaimStage.TheVariants as claims
use Rattle.phase_pools.specs.Pools.{Claim, claim_begun}
use Rattle.phase_pools.specs.Ranges.{ClaimInRange, SweepInRange, SweepsFew}
use Rattle.c_language.specs.Steps.{Pool, Kept, Frame}
use Rattle.c_language.specs.Runs.{Comes}
use Rattle.c_language.proofs.Walking.{here, walks}
use Rattle.c_runtime.specs.ClaimFrames.{SweepKnows, ClaimKnows, Stands}
use Rattle.c_runtime.specs.Laws.{claim_code, Steps, FitsClaim, SweepFits, ClaimFits, Fits, ClaimsAreMade}
use Rattle.c_runtime.proofs.Shapes.{frame, sweep_at, sweeping}
use Rattle.c_runtime.proofs.Looks.{head_read, link_read, taken, used_stored}
use Rattle.c_runtime.proofs.Raising.{phase_read, phase_raised, warned_load, warned_exchange}
use Rattle.c_runtime.proofs.Noting.{hazard_read}
use Rattle.c_runtime.proofs.Recycling.{status_loaded}
use Rattle.c_runtime.proofs.Pushing.{ready_made, head_loaded, link_stored, top_pushed}

-- a frame at a known line
at_line : (P : Frame → Type 0) (n at : ℕ) (l : ℕ → ℕ) (m : Kept) → at ≡ n → P (frame n l m) → P (frame at l m)
at_line P n at l m is there = subst (λ (k : ℕ). P (frame k l m)) (sym is) there

sweep_steps : (pool : Pool) (kind count s : ℕ) (gathered : List ℕ) (stage : SweepStage) (at : ℕ) (l : ℕ → ℕ) (m : Kept) → FitsClaim pool → count < 2
    → SweepInRange pool.sizes stage → SweepFits pool s stage → l 0 ≡ count → SweepKnows pool.sizes (sweep_at pool stage s gathered) stage at l m
    → Steps pool kind (sweeping pool kind count stage s gathered) (frame at l m)
sweep_steps pool kind count s gathered sweeps.ReadPhase at l m within few range fit same k =
    at_line (Steps pool kind (sweeping pool kind count sweeps.ReadPhase s gathered)) 16 at l m k.0
    (subst (λ (g : List ℕ). Steps pool kind (sweeping pool kind count sweeps.ReadPhase s g) (frame 16 l m)) (sym k.2)
    (phase_read pool kind count s l m within few same k.1))
sweep_steps pool kind count s gathered (sweeps.RaisePhase p) at l m within few range fit same k =
    at_line (Steps pool kind (sweeping pool kind count (sweeps.RaisePhase p) s gathered)) 20 at l m k.0
    (subst (λ (g : List ℕ). Steps pool kind (sweeping pool kind count (sweeps.RaisePhase p) s g) (frame 20 l m)) (sym k.4)
    (phase_raised pool kind count s p l m few same k.1 k.2 k.3))
sweep_steps pool kind count s gathered (sweeps.Warn c) at l m within few range fit same k =
    subst (λ (g : List ℕ). Steps pool kind (sweeping pool kind count (sweeps.Warn c) s g) (frame at l m)) (sym k.4) (of k.0)
  where
    of : (at ≡ 22) ⊎ ((at ≡ 25) × (l 4 < s)) → Steps pool kind (sweeping pool kind count (sweeps.Warn c) s []) (frame at l m)
    of (inl is) =
        at_line (Steps pool kind (sweeping pool kind count (sweeps.Warn c) s [])) 22 at l m is
        (warned_load pool kind count s c l m within range few same k.1 k.2 k.3)
    of (inr is) =
        at_line (Steps pool kind (sweeping pool kind count (sweeps.Warn c) s [])) 25 at l m is.0
        (warned_exchange pool kind count s c l m within range few same is.1 k.1 k.2 k.3)
sweep_steps pool kind count s gathered (sweeps.ReadHazard c r) at l m within few range fit same k =
    at_line (Steps pool kind (sweeping pool kind count (sweeps.ReadHazard c r) s gathered)) 31 at l m k.0
    (hazard_read pool kind count s c r gathered l m within range.0 range.1 few same k.1 k.2 k.3 k.4.0 k.4.1)
sweep_steps pool kind count s gathered (sweeps.ReadStatus j) at l m within few range fit same k =
    at_line (Steps pool kind (sweeping pool kind count (sweeps.ReadStatus j) s gathered)) 38 at l m k.0
    (status_loaded pool kind count s j gathered l m within fit.0 fit.1 range few same k.1 k.2 k.3)
sweep_steps pool kind count s gathered (sweeps.MakeReady j q) at l m within few range fit same k =
    at_line (Steps pool kind (sweeping pool kind count (sweeps.MakeReady j q) s gathered)) 46 at l m k.0
    (ready_made pool kind count s j q gathered l m within fit.1 range few same k.1 k.2 k.3 k.4 k.5)
sweep_steps pool kind count s gathered (sweeps.PushHead own j) at l m within few range fit same k =
    at_line (Steps pool kind (sweeping pool kind count (sweeps.PushHead own j) s gathered)) 54 at l m k.0
    (head_loaded pool kind count s own j gathered l m within fit.2 few same k.1 k.2 k.3 k.4)
sweep_steps pool kind count s gathered (sweeps.PushLink j q t) at l m within few range fit same k =
    at_line (Steps pool kind (sweeping pool kind count (sweeps.PushLink j q t) s gathered)) 56 at l m k.0
    (link_stored pool kind count s j q t gathered l m within fit.0 fit.2 range.1 range.0 few same k.1 k.2 k.3 k.4 k.5 k.6)
sweep_steps pool kind count s gathered (sweeps.PushTop own j q t) at l m within few range fit same k =
    at_line (Steps pool kind (sweeping pool kind count (sweeps.PushTop own j q t) s gathered)) 62 at l m k.0
    (top_pushed pool kind count s own j q t gathered l m within fit.3 fit.1 range.1 few same k.1 k.2 k.3 k.4 k.5 k.6)

abbrev claim_at : Pool → ℕ → ℕ → ℕ → List ℕ → SweepStage → ClaimStage → Claim
claim_at pool kind count s gathered inner stage = record { kind = kind; stage = stage; sweeps = count; sweep = sweep_at pool inner s gathered }

steps_at : (pool : Pool) (kind count s : ℕ) (gathered : List ℕ) (inner : SweepStage) (stage : ClaimStage) (at : ℕ) (l : ℕ → ℕ) (m : Kept) → FitsClaim pool
    → SweepsFew stage count → ClaimInRange pool.sizes (sweep_at pool inner s gathered) stage → ClaimFits pool (claim_at pool kind count s gathered inner stage) stage
    → l 0 ≡ count → ClaimKnows pool.sizes (claim_at pool kind count s gathered inner stage) stage at l m
    → Steps pool kind (claim_at pool kind count s gathered inner stage) (frame at l m)
steps_at pool kind count s gathered inner claims.ReadHead at l m within few range fit same k =
    at_line (Steps pool kind (claim_at pool kind count s gathered inner claims.ReadHead)) 1 at l m k.0
    (head_read pool kind count (sweep_at pool inner s gathered) l m within same few k.1)
steps_at pool kind count s gathered inner (claims.ReadLink q t) at l m within few range fit same k =
    at_line (Steps pool kind (claim_at pool kind count s gathered inner (claims.ReadLink q t))) 4 at l m k.0
    (link_read pool kind count q t (sweep_at pool inner s gathered) l m within fit.0 range same few k.1 k.2 k.3)
steps_at pool kind count s gathered inner (claims.Take q t next) at l m within few range fit same k =
    at_line (Steps pool kind (claim_at pool kind count s gathered inner (claims.Take q t next))) 7 at l m k.0
    (taken pool kind count q t next (sweep_at pool inner s gathered) l m within fit.0 range.0 same few k.1 k.2 k.3 k.4)
steps_at pool kind count s gathered inner (claims.StoreUsed q t) at l m within few range fit same k =
    at_line (Steps pool kind (claim_at pool kind count s gathered inner (claims.StoreUsed q t))) 12 at l m k.0
    (used_stored pool kind count q t (sweep_at pool inner s gathered) l m same k.1 k.2 k.3)
steps_at pool kind count s gathered inner (claims.Withdraw own) at l m within few range fit same k = absurd k
steps_at pool kind count s gathered inner claims.Sweeps at l m within few range fit same k =
    sweep_steps pool kind count s gathered inner at l m within few range fit same k

-- by the parts of a claim
abbrev whole : ℕ → ℕ → ℕ → ℕ → ℕ → Scheme → List ℕ → SweepStage → ClaimStage → Claim
whole kind count s low tops scheme gathered inner stage =
    record { kind = kind; stage = stage; sweeps = count; sweep = record { scheme = scheme; tops = tops; stage = inner; bound = s; low = low; gathered = gathered } }

abbrev Made : Pool → Frame → Claim → Type 0
Made pool f claim = Fits pool claim → Stands pool.sizes claim f → Steps pool claim.kind claim f

plain : (pool : Pool) (kind count s : ℕ) (gathered : List ℕ) (inner : SweepStage) (stage : ClaimStage) (f : Frame)
    → Made pool f (whole kind count s s pool.sizes.tops Warned gathered inner stage)
plain pool kind count s gathered inner stage f fits stands =
    steps_at pool kind count s gathered inner stage f.at f.locals f.kept fits.within stands.few fits.range fits.stage stands.sweeps stands.knows

parts : (pool : Pool) (kind count s low tops : ℕ) (scheme : Scheme) (gathered : List ℕ) (inner : SweepStage) (stage : ClaimStage) (f : Frame)
    → scheme ≡ Warned → tops ≡ pool.sizes.tops → low ≡ s → Made pool f (whole kind count s low tops scheme gathered inner stage)
parts pool kind count s low tops scheme gathered inner stage f warned heads lowest =
    subst (λ (by : Scheme). Made pool f (whole kind count s low tops by gathered inner stage)) (sym warned)
    (subst (λ (n : ℕ). Made pool f (whole kind count s low n Warned gathered inner stage)) (sym heads)
    (subst (λ (x : ℕ). Made pool f (whole kind count s x pool.sizes.tops Warned gathered inner stage)) (sym lowest) (plain pool kind count s gathered inner stage f)))

pub claims_are_made : ClaimsAreMade
claims_are_made = record {
  begins = λ pool kind f start quiet.
      at_line (λ (g : Frame). Comes pool (claim_code pool kind) g (Stands pool.sizes (claim_begun pool.sizes kind Warned))) 0 f.at f.locals f.kept start
      (walks _ refl (here (record { sweeps = refl; few = omega arith; knows = (refl, quiet) })));
  steps = λ pool claim f fits stands.
      parts pool claim.kind claim.sweeps claim.sweep.bound claim.sweep.low claim.sweep.tops claim.sweep.scheme claim.sweep.gathered claim.sweep.stage claim.stage f
      fits.scheme fits.tops fits.low fits stands;
}
