-- What an access leaves of a sweep and of a claim: the scheme, the row's tops, the claim's kind, and that a push goes to its slot's kind.
use Rattle.std.proofs.Common.{◌≡◌, ℕ, zero, ◌+◌, ◌≤◌, Bool, true, false, Option, Some, if◌then◌else◌, refl, arith}
use Rattle.std.specs.Prelude.{nat_lt, ◌==◌}
use Rattle.oa_words.specs.declared.packed.Kind.TheVariants as kinds
use Rattle.oa_words.specs.Words.{Sizes, slot_range}
use Rattle.oa_words.specs.SlotKinds.{kind_of}
use Rattle.oa_words.specs.Packed.{status_parts, status_word, head_parts, head_word}
use Rattle.phase_pools.specs.declared.access.ClaimEnd.TheVariants as ends
use Rattle.phase_pools.specs.declared.access.SweepEnd.{SweepEnd}
use Rattle.phase_pools.specs.declared.access.SweepEnd.TheVariants as swept
use Rattle.phase_pools.specs.declared.stages.Scheme.{Scheme}
use Rattle.phase_pools.specs.declared.stages.Scheme.TheVariants.{Warned, Announced}
use Rattle.phase_pools.specs.declared.stages.SweepStage.{SweepStage}
use Rattle.phase_pools.specs.declared.stages.SweepStage.TheVariants as sweeps
use Rattle.phase_pools.specs.declared.stages.ClaimStage.{ClaimStage}
use Rattle.phase_pools.specs.declared.stages.ClaimStage.TheVariants as claims
use Rattle.phase_pools.specs.Pools.{Sweep, SweepTurn, sweep_goes, sweep_ends, sweep_on, warned_all, sweep_accepts_at, sweep_accepts, Claim, ClaimTurn, claim_goes, claim_ends, sweep_follows, look_ended, sweep_ended, claim_accepts_at, claim_accepts}
use Rattle.phase_pools.specs.Ranges.{PushesByKind}
use Rattle.phase_pools.proofs.Lowering.{low_less}
use Rattle.phase_pools.proofs.Statuses.{from_slot, from_status}

-- what holds both ways of a test
either : {A : Type 0} (P : A → Type 0) (test : Bool) (x y : A) → P x → P y → P (if test then x else y)
either P true x y here there = here
either P false x y here there = there

-- ---- sweeps

-- the scheme stays and the tops, the phase before which the sweep recycles is no greater than that to which it raises, and a push goes to its
-- slot's kind
pub record Keeps (n : Sizes) (sweep : Sweep) (turn : SweepTurn) : Type 0 where
  pub scheme : turn.sweep.scheme ≡ sweep.scheme
  pub tops : turn.sweep.tops ≡ sweep.tops
  pub low : sweep.low ≤ sweep.bound → turn.sweep.low ≤ turn.sweep.bound
  pub pushes : PushesByKind n sweep.stage → PushesByKind n turn.sweep.stage

goes_on : (n : Sizes) (sweep : Sweep) (j : ℕ) → Keeps n sweep (sweep_on n sweep j)
goes_on n sweep j = from_slot (Keeps n sweep) n sweep j (λ more. record { scheme = refl; tops = refl; low = λ le. le; pushes = λ _. tt }) (record { scheme = refl; tops = refl; low = λ le. le; pushes = λ is. is })

all_warned : (n : Sizes) (scheme : Scheme) → PushesByKind n (warned_all n scheme)
all_warned n Warned = tt
all_warned n (Announced own) = tt

keeps_at : (n : Sizes) (last : ℕ) (sweep : Sweep) (word : ℕ) (stage : SweepStage) → Keeps n sweep (sweep_accepts_at n last sweep word stage)
keeps_at n last sweep word sweeps.ReadPhase =
    either (Keeps n sweep) (word == last) (sweep_ends sweep (swept.PhasesOver word)) (sweep_goes sweep (sweeps.RaisePhase word))
    (record { scheme = refl; tops = refl; low = λ le. le; pushes = λ is. is }) (record { scheme = refl; tops = refl; low = λ le. le; pushes = λ _. tt })
keeps_at n last sweep word (sweeps.RaisePhase p) = record { scheme = refl; tops = refl; low = λ le. omega arith; pushes = λ _. tt }
keeps_at n last sweep word (sweeps.Warn c) =
    let less = low_less sweep.scheme sweep.low word in
    record { scheme = refl; tops = refl; low = λ low. omega (arith, less, low); pushes = λ _. either (PushesByKind n) (nat_lt (c + 1) n.callers) (sweeps.Warn (c + 1)) (warned_all n sweep.scheme) tt (all_warned n sweep.scheme) }
keeps_at n last sweep word (sweeps.ReadHazard c r) =
    record {
      scheme = refl;
      tops = refl;
      low = λ le. le;
      pushes = λ _. either (PushesByKind n) (nat_lt (r + 1) 8) (sweeps.ReadHazard c (r + 1)) (if nat_lt (c + 1) n.callers then sweeps.ReadHazard (c + 1) 0 else sweeps.ReadStatus (slot_range n).last) tt
          (either (PushesByKind n) (nat_lt (c + 1) n.callers) (sweeps.ReadHazard (c + 1) 0) (sweeps.ReadStatus (slot_range n).last) tt tt);
    }
keeps_at n last sweep word (sweeps.ReadStatus j) =
    from_status (Keeps n sweep) n sweep j (status_parts word) (goes_on n sweep j) (λ p is below away. record { scheme = refl; tops = refl; low = λ le. le; pushes = λ _. tt })
keeps_at n last sweep word (sweeps.MakeReady j q) =
    either (Keeps n sweep) (word == status_word q kinds.Retired) (sweep_goes sweep (sweeps.PushHead (kind_of n j) j)) (sweep_on n sweep j)
    (record { scheme = refl; tops = refl; low = λ le. le; pushes = λ _. refl }) (goes_on n sweep j)
keeps_at n last sweep word (sweeps.PushHead k j) = record { scheme = refl; tops = refl; low = λ le. le; pushes = λ _. tt }
keeps_at n last sweep word (sweeps.PushLink j q t) = record { scheme = refl; tops = refl; low = λ le. le; pushes = λ _. refl }
keeps_at n last sweep word (sweeps.PushTop k j q t) =
    either (Keeps n sweep) (word == head_word n.tops q t) (sweep_on n sweep j) (sweep_goes sweep (sweeps.PushHead (kind_of n j) j))
    (goes_on n sweep j) (record { scheme = refl; tops = refl; low = λ le. le; pushes = λ _. refl })

pub sweep_keeps : (n : Sizes) (last : ℕ) (sweep : Sweep) (word : ℕ) → Keeps n sweep (sweep_accepts n last sweep word)
sweep_keeps n last sweep word = keeps_at n last sweep word sweep.stage

-- ---- claims

-- the kind stays, and the scheme and the tops of the sweep
pub record StaysSame (claim : Claim) (turn : ClaimTurn) : Type 0 where
  pub kind : turn.claim.kind ≡ claim.kind
  pub scheme : turn.claim.sweep.scheme ≡ claim.sweep.scheme
  pub tops : turn.claim.sweep.tops ≡ claim.sweep.tops

follows : (claim : Claim) (scheme : Scheme) (made : ℕ) → StaysSame claim (sweep_follows scheme made claim)
follows claim (Announced own) zero = record { kind = refl; scheme = refl; tops = refl }
follows claim _ _ = record { kind = refl; scheme = refl; tops = refl }

ends_look : (claim : Claim) → StaysSame claim (look_ended claim)
ends_look claim =
    either (StaysSame claim) (claim.sweeps == 2) (claim_ends claim ends.Full) (sweep_follows claim.sweep.scheme claim.sweeps claim)
    (record { kind = refl; scheme = refl; tops = refl }) (follows claim claim.sweep.scheme claim.sweeps)

ends_sweep : (claim : Claim) (sweep : Sweep) (ended : Option SweepEnd) → sweep.scheme ≡ claim.sweep.scheme → sweep.tops ≡ claim.sweep.tops
    → StaysSame claim (sweep_ended claim sweep ended)
ends_sweep claim sweep (Some swept.Swept) is also = record { kind = refl; scheme = is; tops = also }
ends_sweep claim sweep _ is also = record { kind = refl; scheme = is; tops = also }

stays_at : (n : Sizes) (last : ℕ) (claim : Claim) (word : ℕ) (stage : ClaimStage) → StaysSame claim (claim_accepts_at n last claim word stage)
stays_at n last claim word claims.ReadHead =
    either (StaysSame claim) ((head_parts n.tops word).top == 0) (look_ended claim) (claim_goes claim (claims.ReadLink (head_parts n.tops word).phase (head_parts n.tops word).top))
    (ends_look claim) (record { kind = refl; scheme = refl; tops = refl })
stays_at n last claim word (claims.Take q t next) =
    either (StaysSame claim) (word == head_word n.tops q t) (claim_goes claim (claims.StoreUsed q t)) (claim_goes claim claims.ReadHead)
    (record { kind = refl; scheme = refl; tops = refl }) (record { kind = refl; scheme = refl; tops = refl })
stays_at n last claim word claims.Sweeps =
    let kept = sweep_keeps n last claim.sweep word in
    ends_sweep claim (sweep_accepts n last claim.sweep word).sweep (sweep_accepts n last claim.sweep word).ended kept.scheme kept.tops
stays_at n last claim word _ = record { kind = refl; scheme = refl; tops = refl }

pub claim_stays : (n : Sizes) (last : ℕ) (claim : Claim) (word : ℕ) → StaysSame claim (claim_accepts n last claim word)
claim_stays n last claim word = stays_at n last claim word claim.stage
