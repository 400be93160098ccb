-- An entry that belongs, told a lawful word, has what its code needs.
use Rattle.std.proofs.Common.{◌≡◌, ℕ, ◌+◌, ◌≤◌, ◌<◌, Bool, List, length, Option, Some, None, arith}
use Rattle.std.specs.Prelude.{IfSome}
use Rattle.guard_words.specs.Guards.{Guards, next_to_clear, is_to_clear}
use Rattle.phase_pools.specs.declared.stages.SweepStage.{SweepStage}
use Rattle.phase_pools.specs.declared.stages.SweepStage.TheVariants as sweeps
use Rattle.phase_pools.specs.declared.stages.ClaimStage.{ClaimStage}
use Rattle.phase_pools.specs.declared.stages.ClaimStage.TheVariants as claims
use Rattle.target_code.specs.declared.target.Target.{Target}
use Rattle.phase_pools.specs.declared.stages.Scheme.{Scheme}
use Rattle.phase_pools.specs.declared.stages.Scheme.TheVariants.{Warned, Announced}
use Rattle.oa_words.specs.SlotKinds.{kind_of}
use Rattle.oa_words.specs.Packed.{head_parts}
use Rattle.phase_pools.specs.Pools.{Sweep, warn_wanted, sweep_wants_at, claim_wants_at}
use Rattle.phase_pools.specs.Ranges.{IsHead, SweepInRange, SweepTold, ClaimTold}
use Rattle.caller_parts.specs.Settings.{Setting}
use Rattle.caller_steps.specs.Lawful.{Accepts, LawfulHead}
use Rattle.caller_steps.specs.Belongs.{SweepStands}
use Rattle.caller_steps.specs.Asking.{IsRegister}
use Rattle.core_runs.proofs.caller_laws.Methods.{SettingSane}
use Rattle.core_runs.proofs.caller_laws.Schemes.{warning_within}
use Rattle.core_runs.proofs.caller_laws.OfKinds.{of_row, kind_known}
use Rattle.core_runs.proofs.caller_laws.Safety.{least_below}

-- the register to clear
pub clears_register : (guards : Guards) (spared : List Bool) → length guards.slots ≡ 8 → IsRegister (next_to_clear guards spared)
clears_register guards spared eight = of (next_to_clear guards spared) (least_below (is_to_clear guards.slots spared) 0 (length guards.slots)) where
  of : (o : Option ℕ) → IfSome o (λ (r : ℕ). r < 0 + length guards.slots) → IsRegister o
  of None below = tt
  of (Some r) below = omega (arith, below, eight)

pub sweep_ranges : (setting : Setting) (bound : ℕ) (stage : SweepStage) → SettingSane setting → SweepStands setting bound stage → SweepInRange setting.sizes stage
sweep_ranges setting bound sweeps.ReadPhase some s = tt
sweep_ranges setting bound (sweeps.RaisePhase p) some s = tt
sweep_ranges setting bound (sweeps.Warn c) some s = s
sweep_ranges setting bound (sweeps.ReadHazard c r) some s = s
sweep_ranges setting bound (sweeps.ReadStatus j) some s = s.1
sweep_ranges setting bound (sweeps.MakeReady j q) some s = s.1
sweep_ranges setting bound (sweeps.PushHead k j) some s = (kind_known setting.sizes k j some.kinds s.2, s.1)
sweep_ranges setting bound (sweeps.PushLink j q t) some s = (s.1, of_row setting.sizes (kind_of setting.sizes j) t s.3)
sweep_ranges setting bound (sweeps.PushTop k j q t) some s = (kind_known setting.sizes k j some.kinds s.4, s.1, of_row setting.sizes (kind_of setting.sizes j) t s.3)

-- a head of a kind has a slot of the row on top
head_told : (setting : Setting) (k word : ℕ) → LawfulHead setting k word → IsHead setting.sizes setting.last word
head_told setting k word lawful = (lawful.0, of_row setting.sizes k (head_parts setting.sizes.tops word).top lawful.1)

warned_told : (target : Target) (setting : Setting) (scheme : Scheme) (c s word : ℕ) → Accepts target setting (warn_wanted scheme c s) word → word ≤ setting.last
warned_told target setting Warned c s word l = warning_within setting.reclamation setting word l
warned_told target setting (Announced own) c s word l = warning_within setting.reclamation setting word l

sweep_told : (target : Target) (setting : Setting) (tops : ℕ) (scheme : Scheme) (bound word : ℕ) (stage : SweepStage) → Accepts target setting (sweep_wants_at tops scheme stage bound) word → SweepTold setting.sizes setting.last stage word
sweep_told target setting tops scheme bound word sweeps.ReadPhase l = l.1
sweep_told target setting tops scheme bound word (sweeps.RaisePhase p) l = l.1
sweep_told target setting tops scheme bound word (sweeps.Warn c) l = warned_told target setting scheme c bound word l
sweep_told target setting tops scheme bound word (sweeps.PushHead k j) l = head_told setting k word l
sweep_told target setting tops scheme bound word (sweeps.PushLink j q t) l = tt
sweep_told target setting tops scheme bound word (sweeps.PushTop k j q t) l = head_told setting k word l
sweep_told target setting tops scheme bound word _ l = l

pub claim_told : (target : Target) (setting : Setting) (tops k : ℕ) (sweep : Sweep) (word : ℕ) (stage : ClaimStage) → Accepts target setting (claim_wants_at tops k sweep stage) word
    → ClaimTold setting.sizes setting.last sweep stage word
claim_told target setting tops k sweep word claims.ReadHead l = head_told setting k word l
claim_told target setting tops k sweep word (claims.ReadLink q t) l = of_row setting.sizes (kind_of setting.sizes t) word l
claim_told target setting tops k sweep word (claims.Take q t next) l = head_told setting k word l
claim_told target setting tops k sweep word (claims.StoreUsed q t) l = tt
claim_told target setting tops k sweep word (claims.Withdraw own) l = tt
claim_told target setting tops k sweep word claims.Sweeps l = sweep_told target setting tops sweep.scheme sweep.bound word sweep.stage l
