-- What a routine may be told follows from the address that it wants.
use Rattle.std.proofs.Common.{◌≡◌, ℕ, ◌≤◌, ◌<◌, Option, length, subst, sym, ◌∙◌, ap, arith}
use Rattle.oa_words.specs.Words.{Sizes}
use Rattle.phase_pools.specs.declared.access.Access.{Access}
use Rattle.phase_pools.specs.declared.access.ClaimEnd.{ClaimEnd}
use Rattle.phase_pools.specs.declared.stages.Scheme.{Scheme}
use Rattle.phase_pools.specs.declared.stages.Scheme.TheVariants.{Warned, Announced}
use Rattle.phase_pools.specs.declared.stages.SweepStage.{SweepStage}
use Rattle.phase_pools.specs.declared.stages.SweepStage.TheVariants as sweeps
use Rattle.phase_pools.specs.declared.stages.ClaimStage.{ClaimStage}
use Rattle.phase_pools.specs.declared.stages.ClaimStage.TheVariants as claims
use Rattle.phase_pools.specs.Accesses.{located}
use Rattle.phase_pools.specs.Pools.{Sweep, warn_wanted, sweep_wants_at, sweep_wants, Claim, ClaimTurn, claim_wants_at, claim_wants, claim_accepts}
use Rattle.phase_pools.specs.Ranges.{SweepInRange, SweepTold, ClaimInRange, ClaimTold, HasOwn}
use Rattle.phase_pools.proofs.Keeping.{claim_stays}
use Rattle.pool_tests.specs.Told.{address_in, IsTold, StandsInRow}

-- a warning, whether it is raised or loaded
warning_told : (n : Sizes) (last word s : ℕ) (scheme : Scheme) (c : ℕ) → c < n.callers → IsTold n last (address_in (located n (warn_wanted scheme c s))) word → word ≤ last
warning_told n last word s Warned c range told = told.phase (omega (arith, range))
warning_told n last word s (Announced own) c range told = told.phase (omega (arith, range))

sweep_told_at : (n : Sizes) (last tops word s : ℕ) (scheme : Scheme) (stage : SweepStage) → SweepInRange n stage → IsTold n last (address_in (located n (sweep_wants_at tops scheme stage s))) word → SweepTold n last stage word
sweep_told_at n last tops word s scheme sweeps.ReadPhase range told = told.phase (omega arith)
sweep_told_at n last tops word s scheme (sweeps.RaisePhase p) range told = told.phase (omega arith)
sweep_told_at n last tops word s scheme (sweeps.Warn c) range told = warning_told n last word s scheme c range told
sweep_told_at n last tops word s scheme (sweeps.ReadHazard c r) range told = let a = range.0 in let b = range.1 in told.hazard (omega (arith, a, b)) (omega (arith, a, b))
sweep_told_at n last tops word s scheme (sweeps.ReadStatus j) range told = told.status (omega arith) (omega (arith, range))
sweep_told_at n last tops word s scheme (sweeps.MakeReady j q) range told = told.status (omega arith) (omega (arith, range))
sweep_told_at n last tops word s scheme (sweeps.PushHead k j) range told = let lt = range.0 in told.head (omega arith) (omega (arith, lt))
sweep_told_at n last tops word s scheme (sweeps.PushLink j q t) range told = tt
sweep_told_at n last tops word s scheme (sweeps.PushTop k j q t) range told = let lt = range.0 in told.head (omega arith) (omega (arith, lt))

claim_told_at : (n : Sizes) (last tops word kind : ℕ) (sweep : Sweep) (stage : ClaimStage) → kind < length n.kinds → ClaimInRange n sweep stage → IsTold n last (address_in (located n (claim_wants_at tops kind sweep stage))) word
    → ClaimTold n last sweep stage word
claim_told_at n last tops word kind sweep claims.ReadHead known range told = told.head (omega arith) (omega (arith, known))
claim_told_at n last tops word kind sweep (claims.ReadLink q t) known range told = told.link (omega arith)
claim_told_at n last tops word kind sweep (claims.Take q t next) known range told = told.head (omega arith) (omega (arith, known))
claim_told_at n last tops word kind sweep (claims.StoreUsed q t) known range told = tt
claim_told_at n last tops word kind sweep (claims.Withdraw own) known range told = tt
claim_told_at n last tops word kind sweep claims.Sweeps known range told = sweep_told_at n last tops word sweep.bound sweep.scheme sweep.stage range told

pub sweep_told : (n : Sizes) (last word : ℕ) (sweep : Sweep) (access : Access) → SweepInRange n sweep.stage → access ≡ located n (sweep_wants sweep) → IsTold n last (address_in access) word → SweepTold n last sweep.stage word
sweep_told n last word sweep access range is told = sweep_told_at n last sweep.tops word sweep.bound sweep.scheme sweep.stage range (subst (λ (a : Access). IsTold n last (address_in a) word) is told)

pub claim_told : (n : Sizes) (last word : ℕ) (claim : Claim) (access : Access) → StandsInRow n claim → access ≡ located n (claim_wants claim) → IsTold n last (address_in access) word → ClaimTold n last claim.sweep claim.stage word
claim_told n last word claim access stands is told =
    claim_told_at n last claim.sweep.tops word claim.kind claim.sweep claim.stage stands.0 stands.2 (subst (λ (a : Access). IsTold n last (address_in a) word) is told)

-- a claim that goes on is of the same kind and caller
pub claim_stands : (n : Sizes) (last word : ℕ) (claim later : Claim) (ended : Option ClaimEnd) → StandsInRow n claim → claim_accepts n last claim word ≡ record { claim = later; ended = ended } → ClaimInRange n later.sweep later.stage → StandsInRow n later
claim_stands n last word claim later ended stands is range =
    let same = claim_stays n last claim word in
    let kind : later.kind ≡ claim.kind = sym (ap (λ (turn : ClaimTurn). turn.claim.kind) is) ∙ same.kind in
    let scheme : later.sweep.scheme ≡ claim.sweep.scheme = sym (ap (λ (turn : ClaimTurn). turn.claim.sweep.scheme) is) ∙ same.scheme in
    (subst (λ (k : ℕ). k < length n.kinds) (sym kind) stands.0, subst (HasOwn n) (sym scheme) stands.1, range)
