-- Which slot a caller has after each step.
use Rattle.std.proofs.Common.{ℕ, ◌≡◌, ◌==◌, ◌∙◌, Bool, true, false, Option, Some, None, arith, sym, subst, refl, if◌then◌else◌}
use Rattle.oa_words.specs.declared.packed.Kind.TheVariants as kinds
use Rattle.oa_words.specs.Words.{Word, Phase, Status, Head, Sizes, slot_range}
use Rattle.oa_words.specs.SlotKinds.{kind_of}
use Rattle.oa_words.specs.Packed.{status_word, head_word}
use Rattle.phase_pools.specs.declared.access.SweepEnd.{SweepEnd}
use Rattle.phase_pools.specs.declared.access.SweepEnd.TheVariants as swept
use Rattle.phase_pools.specs.declared.stages.SweepStage.{SweepStage}
use Rattle.phase_pools.specs.declared.stages.SweepStage.TheVariants as sweeps
use Rattle.phase_pools.specs.declared.stages.ClaimStage.{ClaimStage}
use Rattle.phase_pools.specs.declared.stages.ClaimStage.TheVariants as claims
use Rattle.phase_pools.specs.declared.stages.RetireStage.{RetireStage}
use Rattle.phase_pools.specs.declared.stages.RetireStage.TheVariants as retires
use Rattle.phase_pools.specs.Accesses.{word_of}
use Rattle.phase_pools.specs.Pools.{Sweep, sweep_wants_at, sweep_accepts_at, sweep_goes, sweep_on, Claim, claim_wants_at, claim_accepts_at, claim_goes, sweep_ended, retire_wants_at, retire_accepts_at}
use Rattle.chain_laws.specs.Memories.{put}
use Rattle.chain_laws.specs.Chains.{Owner, Chained, Taken, Pushing, Outside, Retiring, Retired, caller_of, Hands, handed, with_top, without_top, stamp, PoolHolds}
use Rattle.chain_laws.specs.Standing.{HasOnly, slot_of_sweep, slot_of_claim, slot_after_sweep, slot_after_claim, slot_after_retirement}
use Rattle.chain_laws.specs.Machine.{sweep_hands, claim_hands, retire_hands}
use Rattle.chain_laws.proofs.Lists.{each_put}
use Rattle.chain_laws.proofs.Changes.{is_callers}

-- a caller that has no slot in its routine has none
none_has : (n : Sizes) (m : Word → ℕ) (h : Hands) (c : ℕ) (P : Type 0) → PoolHolds n m h → HasOnly h c 0 → (j : ℕ) → caller_of (h.owner j) ≡ Some c → P
none_has n m h c P f mine j is =
    let slot = is_callers (slot_range n) (stamp n.tops m (kind_of n j)) (m Phase) j (m (Status j)) c (h.owner j) is (f.slot j) in
    let zero_is = mine j is in
    let some = slot.0 in
    let differ : ⊥ = omega (arith, zero_is, some) in absurd differ

-- it has taken one
now_has : (n : Sizes) (m : Word → ℕ) (h : Hands) (c j : ℕ) (o : Owner) (x : ℕ) → PoolHolds n m h → HasOnly h c 0 → x ≡ j → (i : ℕ) → caller_of (put h.owner j o i) ≡ Some c → x ≡ i
now_has n m h c j o x f mine same = each_put (λ i (a : Owner). caller_of a ≡ Some c → x ≡ i) h.owner j o (λ is. same) (λ i ne is. none_has n m h c (x ≡ i) f mine i is)

-- it has handed over the one that it had
has_none : (h : Hands) (c j x : ℕ) (o : Owner) → HasOnly h c j → caller_of o ≡ None → (i : ℕ) → caller_of (put h.owner j o i) ≡ Some c → x ≡ i
has_none h c j x o mine none = each_put (λ i (a : Owner). caller_of a ≡ Some c → x ≡ i) h.owner j o
    (λ is. absurd (let z : None ≡ Some c = sym none ∙ is in cc)) (λ i ne is. absurd (ne (sym (mine i is))))

pub sweep_has : (n : Sizes) (last tops c : ℕ) (m : Word → ℕ) (h : Hands) (sweep : Sweep) (stage : SweepStage) → PoolHolds n m h → HasOnly h c (slot_of_sweep stage)
    → HasOnly (sweep_hands n.tops c sweep.bound stage m h) c (slot_after_sweep (sweep_accepts_at n last sweep (m (word_of (sweep_wants_at tops sweep.scheme stage sweep.bound))) stage).sweep.stage
    (sweep_accepts_at n last sweep (m (word_of (sweep_wants_at tops sweep.scheme stage sweep.bound))) stage).ended)
sweep_has n last tops c m h sweep (sweeps.MakeReady i q) f mine = of (m (Status i) == status_word q kinds.Retired) where
  of : (b : Bool) → HasOnly (if b then handed h i (Pushing c sweep.bound) else h) c (slot_after_sweep (if b then sweep_goes sweep (sweeps.PushHead (kind_of n i) i) else sweep_on n sweep i).sweep.stage (if b then sweep_goes sweep (sweeps.PushHead (kind_of n i) i) else sweep_on n sweep i).ended)
  of true = now_has n m h c i (Pushing c sweep.bound) i f mine refl
  of false = λ j is. none_has n m h c _ f mine j is
sweep_has n last tops c m h sweep (sweeps.PushHead k i) f mine = mine
sweep_has n last tops c m h sweep (sweeps.PushLink i q t) f mine = mine
sweep_has n last tops c m h sweep (sweeps.PushTop k i q t) f mine = of (m (Head k) == head_word n.tops q t) where
  of : (b : Bool) → HasOnly (if b then with_top h k i else h) c
      (slot_after_sweep (if b then sweep_on n sweep i else sweep_goes sweep (sweeps.PushHead (kind_of n i) i)).sweep.stage (if b then sweep_on n sweep i else sweep_goes sweep (sweeps.PushHead (kind_of n i) i)).ended)
  of true = has_none h c i _ Chained mine refl
  of false = mine
sweep_has n last tops c m h sweep _ f mine = λ j own. none_has n m h c _ f mine j own

-- after a sweep that goes on, or has ended
sweep_ends_has : (h : Hands) (c : ℕ) (claim : Claim) (sweep : Sweep) (end : Option SweepEnd) → claim.stage ≡ claims.Sweeps → HasOnly h c (slot_after_sweep sweep.stage end)
    → HasOnly h c (slot_after_claim (sweep_ended claim sweep end).claim (sweep_ended claim sweep end).ended)
sweep_ends_has h c claim sweep None is mine = subst (λ (stage : ClaimStage). HasOnly h c (slot_of_claim sweep stage)) (sym is) mine
sweep_ends_has h c claim sweep (Some swept.Swept) is mine = mine
sweep_ends_has h c claim sweep (Some (swept.PhasesOver p)) is mine = mine

pub claim_has : (n : Sizes) (last tops c : ℕ) (m : Word → ℕ) (h : Hands) (claim : Claim) (stage : ClaimStage) → claim.stage ≡ stage → PoolHolds n m h → HasOnly h c (slot_of_claim claim.sweep stage)
    → HasOnly (claim_hands n.tops c claim.kind claim.sweep stage m h) c (slot_after_claim (claim_accepts_at n last claim (m (word_of (claim_wants_at tops claim.kind claim.sweep stage))) stage).claim
    (claim_accepts_at n last claim (m (word_of (claim_wants_at tops claim.kind claim.sweep stage))) stage).ended)
claim_has n last tops c m h claim claims.ReadHead is f mine = λ j own. none_has n m h c _ f mine j own
claim_has n last tops c m h claim (claims.ReadLink q t) is f mine = λ j own. none_has n m h c _ f mine j own
claim_has n last tops c m h claim (claims.Take q t next) is f mine = of (m (Head claim.kind) == head_word n.tops q t) where
  of : (b : Bool) → HasOnly (if b then without_top h claim.kind c t else h) c (slot_after_claim (if b then claim_goes claim (claims.StoreUsed q t) else claim_goes claim claims.ReadHead).claim (if b then claim_goes claim (claims.StoreUsed q t) else claim_goes claim claims.ReadHead).ended)
  of true = now_has n m h c t (Taken c) t f mine refl
  of false = λ j own. none_has n m h c _ f mine j own
claim_has n last tops c m h claim (claims.StoreUsed q t) is f mine = has_none h c t 0 Outside mine refl
claim_has n last tops c m h claim (claims.Withdraw own) is f mine = λ j owns. none_has n m h c _ f mine j owns
claim_has n last tops c m h claim claims.Sweeps is f mine =
    let turn = sweep_accepts_at n last claim.sweep (m (word_of (sweep_wants_at tops claim.sweep.scheme claim.sweep.stage claim.sweep.bound))) claim.sweep.stage in
    sweep_ends_has (sweep_hands n.tops c claim.sweep.bound claim.sweep.stage m h) c claim turn.sweep turn.ended is (sweep_has n last tops c m h claim.sweep claim.sweep.stage f mine)

pub retire_has : (n : Sizes) (c : ℕ) (m : Word → ℕ) (h : Hands) (j : ℕ) (stage : RetireStage) → HasOnly h c j
    → HasOnly (retire_hands c j stage m h) c (slot_after_retirement (retire_accepts_at j (m (word_of (retire_wants_at j stage))) stage))
retire_has n c m h j retires.ReadPhase mine = each_put (λ i (a : Owner). caller_of a ≡ Some c → j ≡ i) h.owner j (Retiring c (Some (m Phase))) (λ is. refl) (λ i ne is. mine i is)
retire_has n c m h j (retires.StoreStatus p) mine = has_none h c j 0 (Retired p) mine refl

pub begins_retiring : (n : Sizes) (c : ℕ) (m : Word → ℕ) (h : Hands) (j : ℕ) → PoolHolds n m h → HasOnly h c 0 → HasOnly (handed h j (Retiring c None)) c j
begins_retiring n c m h j f mine = now_has n m h c j (Retiring c None) j f mine refl
