-- The routine of a claim over words that nobody else changes.
use Rattle.std.proofs.Common.{ℕ, zero, ◌≡◌, ◌≢◌, ◌==◌, ◌+◌, ◌≤◌, ◌<◌, ◌∙◌, Bool, true, false, length, Option, Some, None, arith, ⊎_elim, sym, ap, subst, refl, if◌then◌else◌}
use Rattle.std.specs.Prelude.{nat_lt}
use Rattle.chain_laws.specs.Chains.{top}
use Rattle.std.proofs.lemmas.Bool.{cases_eq}
use Rattle.std.proofs.lemmas.Bool.Decides.{nat_tests}
use Rattle.oa_words.specs.declared.packed.Kind.{Kind}
use Rattle.oa_words.specs.declared.packed.Kind.TheVariants as kinds
use Rattle.oa_words.specs.Words.{Sizes, Word, Phase, Status, Head}
use Rattle.oa_words.specs.SlotKinds.{kind_of}
use Rattle.oa_words.specs.Within.{AreKinds}
use Rattle.oa_words.specs.Packed.{StatusParts, HeadParts, status_word, status_parts, head_word, head_parts}
use Rattle.oa_words.proofs.KindRanges.{in_range_is_of_kind, stands_in_range}
use Rattle.oa_words.proofs.Parts.{status_back, status_whole}
use Rattle.oa_words.specs.Memories.{store}
use Rattle.phase_pools.specs.declared.access.ClaimEnd.{ClaimEnd}
use Rattle.phase_pools.specs.declared.access.ClaimEnd.TheVariants as ends
use Rattle.phase_pools.specs.declared.access.SweepEnd.{SweepEnd}
use Rattle.phase_pools.specs.declared.access.SweepEnd.TheVariants as swept
use Rattle.phase_pools.specs.declared.stages.Scheme.{Scheme}
use Rattle.phase_pools.specs.declared.stages.Scheme.TheVariants.{Warned, Announced}
use Rattle.phase_pools.specs.declared.stages.SweepStage.{SweepStage}
use Rattle.phase_pools.specs.declared.stages.SweepStage.TheVariants as sweeps
use Rattle.phase_pools.specs.declared.stages.ClaimStage.{ClaimStage}
use Rattle.phase_pools.specs.declared.stages.ClaimStage.TheVariants as claims
use Rattle.phase_pools.specs.Accesses.{WordAccess, word_of, word_after}
use Rattle.phase_pools.specs.Pools.{Claim, Sweep, claim_wants_at, claim_accepts_at, claim_ends, look_ended, look_begun, sweep_follows, sweep_ended, sweep_goes, sweep_ends, sweep_on, warn_wanted, warned_all, sweep_wants_at, sweep_accepts_at, status_read}
use Rattle.phase_pools.proofs.Keeping.{claim_stays}
use Rattle.phase_pools.proofs.Statuses.{from_slot, from_status}
use Rattle.chain_laws.proofs.Changes.{head_other}
use Rattle.oa_simulation.proofs.sim_relation.Words.{store_again, store_idle}
use Rattle.run_laws.specs.lone_claims.Lone.{AreUsed}

abbrev pub made : (Word → ℕ) → WordAccess → Word → ℕ
made m a = store m (word_of a) (word_after a (m (word_of a)))

abbrev pub HasKind : Kind → (Word → ℕ) → ℕ → Type 0
HasKind kind m j = (q : ℕ) × (m (Status j) ≡ status_word q kind)

-- what is read of a slot of a kind
pub reads : (m : Word → ℕ) (j q : ℕ) (kind : Kind) → m (Status j) ≡ status_word q kind → status_parts (m (Status j)) ≡ Some (record { phase = q; kind = kind })
reads m j q kind is = ap status_parts is ∙ status_back q kind

pub tells : (m : Word → ℕ) (j q : ℕ) (kind : Kind) → status_parts (m (Status j)) ≡ Some (record { phase = q; kind = kind }) → m (Status j) ≡ status_word q kind
tells m j q kind is = sym (status_whole (m (Status j)) (record { phase = q; kind = kind }) is)

-- ---- if all of a kind are used

-- what a claim of a kind stands at while each status of the kind is used, and so no slot of it is on top: its sweeps push slots of other
-- kinds alone
abbrev OfOther : Sizes → ℕ → ℕ → Type 0
OfOther n k j = (1 ≤ j) × (j ≤ n.slots) × (kind_of n j ≢ k)

abbrev UsedSweep : Sizes → ℕ → SweepStage → Type 0
UsedSweep n k (sweeps.ReadStatus j) = (1 ≤ j) × (j ≤ n.slots)
UsedSweep n k (sweeps.MakeReady j q) = OfOther n k j
UsedSweep n k (sweeps.PushHead i j) = OfOther n k j × (i ≡ kind_of n j)
UsedSweep n k (sweeps.PushLink j q t) = OfOther n k j
UsedSweep n k (sweeps.PushTop i j q t) = OfOther n k j × (i ≡ kind_of n j)
UsedSweep n k _ = Unit {0}

abbrev UsedStage : Sizes → ℕ → Sweep → ClaimStage → Type 0
UsedStage n k sweep claims.ReadHead = Unit {0}
UsedStage n k sweep (claims.Withdraw own) = Unit {0}
UsedStage n k sweep claims.Sweeps = UsedSweep n k sweep.stage
UsedStage n k sweep _ = ⊥

abbrev UsedOn : Sizes → Claim → Option ClaimEnd → Type 0
UsedOn n claim None = UsedStage n claim.kind claim.sweep claim.stage
UsedOn n claim (Some (ends.Claimed j)) = ⊥
UsedOn n claim (Some ends.Full) = Unit {0}
UsedOn n claim (Some (ends.PhasesOver p)) = Unit {0}

used_follows : (n : Sizes) (claim : Claim) (scheme : Scheme) (count : ℕ) → UsedOn n (sweep_follows scheme count claim).claim (sweep_follows scheme count claim).ended
used_follows n claim (Announced own) zero = tt
used_follows n claim _ _ = tt

used_ends : (n : Sizes) (claim : Claim) → UsedOn n (look_ended claim).claim (look_ended claim).ended
used_ends n claim = of (claim.sweeps == 2) where
  of : (b : Bool) → UsedOn n (if b then claim_ends claim ends.Full else sweep_follows claim.sweep.scheme claim.sweeps claim).claim (if b then claim_ends claim ends.Full else sweep_follows claim.sweep.scheme claim.sweeps claim).ended
  of true = tt
  of false = used_follows n claim claim.sweep.scheme claim.sweeps

used_look : (n : Sizes) (claim : Claim) (head : HeadParts) → head.top ≡ 0 → UsedOn n (look_begun claim head).claim (look_begun claim head).ended
used_look n claim head none = let test : (head.top == 0) ≡ true = grind (arith, nat_tests, none) in rw test (used_ends n claim)

abbrev SweptOn : Sizes → ℕ → Sweep → Option SweepEnd → Type 0
SweptOn n k sweep None = UsedSweep n k sweep.stage
SweptOn n k sweep (Some end) = Unit {0}

used_sweep : (n : Sizes) (k : ℕ) (sweep : Sweep) (j : ℕ) → j ≤ n.slots → SweptOn n k (sweep_on n sweep j).sweep (sweep_on n sweep j).ended
used_sweep n k sweep j le = from_slot (λ turn. SweptOn n k turn.sweep turn.ended) n sweep j (λ more. (omega (arith, more), omega (arith, le))) tt

used_ended : (n : Sizes) (claim : Claim) (sweep : Sweep) (end : Option SweepEnd) → claim.stage ≡ claims.Sweeps → SweptOn n claim.kind sweep end → UsedOn n (sweep_ended claim sweep end).claim (sweep_ended claim sweep end).ended
used_ended n claim sweep None is on = subst (λ (stage : ClaimStage). UsedStage n claim.kind sweep stage) (sym is) on
used_ended n claim sweep (Some swept.Swept) is on = tt
used_ended n claim sweep (Some (swept.PhasesOver p)) is on = tt

-- a slot of another kind is read
other_read : (n : Sizes) (k : ℕ) (sweep : Sweep) (j : ℕ) (o : Option StatusParts) → OfOther n k j → SweptOn n k (status_read n sweep j o).sweep (status_read n sweep j o).ended
other_read n k sweep j parts at = from_status (λ turn. SweptOn n k turn.sweep turn.ended) n sweep j parts (used_sweep n k sweep j at.1) (λ p is below away. at)

used_read : (n : Sizes) (k : ℕ) (m : Word → ℕ) (sweep : Sweep) (j : ℕ) → AreKinds n → AreUsed n k m → 1 ≤ j → j ≤ n.slots
    → SweptOn n k (status_read n sweep j (status_parts (m (Status j)))).sweep (status_read n sweep j (status_parts (m (Status j)))).ended
used_read n k m sweep j are used least most = ⊎_elim
    (λ (same : kind_of n j ≡ k).
    let place = stands_in_range n k j are least most same in
    let u = used j place.0 place.1 in
    subst (λ (o : Option StatusParts). SweptOn n k (status_read n sweep j o).sweep (status_read n sweep j o).ended) (sym (reads m j u.0 kinds.Used u.1)) (used_sweep n k sweep j most))
    (λ (ne : kind_of n j ≢ k). other_read n k sweep j (status_parts (m (Status j))) (least, most, ne))
    (cases_eq (kind_of n j) k)

used_warned : (n : Sizes) (k : ℕ) (scheme : Scheme) → 1 ≤ n.slots → UsedSweep n k (warned_all n scheme)
used_warned n k Warned some = tt
used_warned n k (Announced own) some = (some, omega arith)

used_stage : (n : Sizes) (last k : ℕ) (m : Word → ℕ) (sweep : Sweep) (stage : SweepStage) → AreKinds n → 1 ≤ n.slots → AreUsed n k m → UsedSweep n k stage
    → SweptOn n k (sweep_accepts_at n last sweep (m (word_of (sweep_wants_at sweep.tops sweep.scheme stage sweep.bound))) stage).sweep (sweep_accepts_at n last sweep (m (word_of (sweep_wants_at sweep.tops sweep.scheme stage sweep.bound))) stage).ended
used_stage n last k m sweep sweeps.ReadPhase are some used at = of (m Phase == last) where
  of : (b : Bool) → SweptOn n k (if b then sweep_ends sweep (swept.PhasesOver (m Phase)) else sweep_goes sweep (sweeps.RaisePhase (m Phase))).sweep (if b then sweep_ends sweep (swept.PhasesOver (m Phase)) else sweep_goes sweep (sweeps.RaisePhase (m Phase))).ended
  of true = tt
  of false = tt
used_stage n last k m sweep (sweeps.RaisePhase p) are some used at = tt
used_stage n last k m sweep (sweeps.Warn c) are some used at = of (nat_lt (c + 1) n.callers) where
  of : (b : Bool) → UsedSweep n k (if b then sweeps.Warn (c + 1) else warned_all n sweep.scheme)
  of true = tt
  of false = used_warned n k sweep.scheme some
used_stage n last k m sweep (sweeps.ReadHazard c r) are some used at = of (nat_lt (r + 1) 8) (nat_lt (c + 1) n.callers) where
  of : (a b : Bool) → UsedSweep n k (if a then sweeps.ReadHazard c (r + 1) else (if b then sweeps.ReadHazard (c + 1) 0 else sweeps.ReadStatus n.slots))
  of false false = (some, omega arith)
  of _ _ = tt
used_stage n last k m sweep (sweeps.ReadStatus j) are some used at = used_read n k m sweep j are used at.0 at.1
used_stage n last k m sweep (sweeps.MakeReady j q) are some used at = of (m (Status j) == status_word q kinds.Retired) where
  of : (b : Bool) → SweptOn n k (if b then sweep_goes sweep (sweeps.PushHead (kind_of n j) j) else sweep_on n sweep j).sweep (if b then sweep_goes sweep (sweeps.PushHead (kind_of n j) j) else sweep_on n sweep j).ended
  of true = (at, refl)
  of false = used_sweep n k sweep j at.1
used_stage n last k m sweep (sweeps.PushHead i j) are some used at = at.0
used_stage n last k m sweep (sweeps.PushLink j q t) are some used at = (at, refl)
used_stage n last k m sweep (sweeps.PushTop i j q t) are some used at = of (m (Head i) == head_word n.tops q t) where
  of : (b : Bool) → SweptOn n k (if b then sweep_on n sweep j else sweep_goes sweep (sweeps.PushHead (kind_of n j) j)).sweep (if b then sweep_on n sweep j else sweep_goes sweep (sweeps.PushHead (kind_of n j) j)).ended
  of true = let other = at.0 in used_sweep n k sweep j other.1
  of false = (at.0, refl)

used_turn : (n : Sizes) (last : ℕ) (m : Word → ℕ) (claim : Claim) (stage : ClaimStage) → claim.stage ≡ stage → AreKinds n → 1 ≤ n.slots → AreUsed n claim.kind m → top n.tops m claim.kind ≡ 0 → UsedStage n claim.kind claim.sweep stage
    → UsedOn n (claim_accepts_at n last claim (m (word_of (claim_wants_at claim.sweep.tops claim.kind claim.sweep stage))) stage).claim (claim_accepts_at n last claim (m (word_of (claim_wants_at claim.sweep.tops claim.kind claim.sweep stage))) stage).ended
used_turn n last m claim claims.ReadHead is are some used none at = used_look n claim (head_parts n.tops (m (Head claim.kind))) none
used_turn n last m claim (claims.Withdraw own) is are some used none at = tt
used_turn n last m claim claims.Sweeps is are some used none at =
    let turn = sweep_accepts_at n last claim.sweep (m (word_of (sweep_wants_at claim.sweep.tops claim.sweep.scheme claim.sweep.stage claim.sweep.bound))) claim.sweep.stage in
    used_ended n claim turn.sweep turn.ended is (used_stage n last claim.kind m claim.sweep claim.sweep.stage are some used at)
used_turn n last m claim _ is are some used none at = absurd at

-- its accesses leave each status of the kind, and the kind's head, as they are
warn_words : (m : Word → ℕ) (scheme : Scheme) (c bound j : ℕ) → made m (warn_wanted scheme c bound) (Status j) ≡ m (Status j)
warn_words m Warned c bound j = refl
warn_words m (Announced own) c bound j = refl

used_words : (n : Sizes) (k : ℕ) (m : Word → ℕ) (sweep : Sweep) (stage : SweepStage) → UsedSweep n k stage → (j : ℕ) → kind_of n j ≡ k → made m (sweep_wants_at sweep.tops sweep.scheme stage sweep.bound) (Status j) ≡ m (Status j)
used_words n k m sweep (sweeps.Warn c) at j own = warn_words m sweep.scheme c sweep.bound j
used_words n k m sweep (sweeps.ReadStatus i) at j own = sym (ap (λ (k : Word → ℕ). k (Status j)) (store_idle m (Status i)))
used_words n k m sweep (sweeps.MakeReady i q) at j own =
    let away : (j == i) ≡ false = (let ne : j ≢ i = (λ e. at.2 (ap (kind_of n) (sym e) ∙ own)) in grind (arith, nat_tests, ne)) in
    rw away refl
used_words n k m sweep _ at j own = refl

used_still : (n : Sizes) (k : ℕ) (m : Word → ℕ) (sweep : Sweep) (stage : ClaimStage) → UsedStage n k sweep stage → (j : ℕ) → kind_of n j ≡ k → made m (claim_wants_at sweep.tops k sweep stage) (Status j) ≡ m (Status j)
used_still n k m sweep claims.ReadHead at j own = refl
used_still n k m sweep (claims.Withdraw caller) at j own = refl
used_still n k m sweep claims.Sweeps at j own = used_words n k m sweep sweep.stage at j own
used_still n k m sweep _ at j own = absurd at

warn_leaves : (m : Word → ℕ) (scheme : Scheme) (c bound k : ℕ) → made m (warn_wanted scheme c bound) (Head k) ≡ m (Head k)
warn_leaves m Warned c bound k = refl
warn_leaves m (Announced own) c bound k = refl

sweep_leaves : (n : Sizes) (k : ℕ) (m : Word → ℕ) (sweep : Sweep) (stage : SweepStage) → UsedSweep n k stage → made m (sweep_wants_at sweep.tops sweep.scheme stage sweep.bound) (Head k) ≡ m (Head k)
sweep_leaves n k m sweep (sweeps.Warn c) at = warn_leaves m sweep.scheme c sweep.bound k
sweep_leaves n k m sweep (sweeps.PushHead h i) at = store_again m (Head h) (Head k)
sweep_leaves n k m sweep (sweeps.PushTop h i q t) at = (let other = at.0 in head_other m h _ k (λ e. other.2 (sym at.1 ∙ sym e)))
sweep_leaves n k m sweep _ at = refl

head_still : (n : Sizes) (k : ℕ) (m : Word → ℕ) (sweep : Sweep) (stage : ClaimStage) → UsedStage n k sweep stage → made m (claim_wants_at sweep.tops k sweep stage) (Head k) ≡ m (Head k)
head_still n k m sweep claims.ReadHead at = store_again m (Head k) (Head k)
head_still n k m sweep (claims.Withdraw own) at = refl
head_still n k m sweep claims.Sweeps at = sweep_leaves n k m sweep sweep.stage at
head_still n k m sweep _ at = absurd at

-- each status of the claim's kind is used, no slot of it is on top, and the claim stands where it then may
pub record Used (n : Sizes) (m : Word → ℕ) (claim : Claim) : Type 0 where
  pub known : claim.kind < length n.kinds
  pub used : AreUsed n claim.kind m
  pub none : top n.tops m claim.kind ≡ 0
  pub at : UsedStage n claim.kind claim.sweep claim.stage

pub used_on : (n : Sizes) (last : ℕ) (m : Word → ℕ) (claim : Claim) → AreKinds n → 1 ≤ n.slots → Used n m claim
    → (claim_accepts_at n last claim (m (word_of (claim_wants_at claim.sweep.tops claim.kind claim.sweep claim.stage))) claim.stage).ended ≡ None
    → Used n (made m (claim_wants_at claim.sweep.tops claim.kind claim.sweep claim.stage)) (claim_accepts_at n last claim (m (word_of (claim_wants_at claim.sweep.tops claim.kind claim.sweep claim.stage))) claim.stage).claim
used_on n last m claim are some u is =
    let m' : Word → ℕ = made m (claim_wants_at claim.sweep.tops claim.kind claim.sweep claim.stage) in
    let same = sym (claim_stays n last claim (m (word_of (claim_wants_at claim.sweep.tops claim.kind claim.sweep claim.stage)))).kind in
    let used : AreUsed n claim.kind m' = λ j low high. (let old = u.used j low high in (old.0, used_still n claim.kind m claim.sweep claim.stage u.at j (in_range_is_of_kind n claim.kind j u.known (low, high)) ∙ old.1)) in
    let none : top n.tops m' claim.kind ≡ 0 = ap (λ (word : ℕ). (head_parts n.tops word).top) (head_still n claim.kind m claim.sweep claim.stage u.at) ∙ u.none in
    record {
      known = subst (λ (k : ℕ). k < length n.kinds) same u.known;
      used = subst (λ (k : ℕ). AreUsed n k m') same used;
      none = subst (λ (k : ℕ). top n.tops m' k ≡ 0) same none;
      at = subst (λ (o : Option ClaimEnd). UsedOn n (claim_accepts_at n last claim (m (word_of (claim_wants_at claim.sweep.tops claim.kind claim.sweep claim.stage))) claim.stage).claim o) is (used_turn n last m claim claim.stage refl are some u.used u.none u.at);
    }

pub used_full : (n : Sizes) (last : ℕ) (m : Word → ℕ) (claim : Claim) (end : ClaimEnd) → AreKinds n → 1 ≤ n.slots → Used n m claim
    → (claim_accepts_at n last claim (m (word_of (claim_wants_at claim.sweep.tops claim.kind claim.sweep claim.stage))) claim.stage).ended ≡ Some end → ((p : ℕ) → end ≢ ends.PhasesOver p) → end ≡ ends.Full
used_full n last m claim end are some u is never = of end (subst (λ (o : Option ClaimEnd). UsedOn n (claim_accepts_at n last claim (m (word_of (claim_wants_at claim.sweep.tops claim.kind claim.sweep claim.stage))) claim.stage).claim o) is (used_turn n last m claim claim.stage refl are some u.used u.none u.at)) never where
  of : (end : ClaimEnd) → UsedOn n (claim_accepts_at n last claim (m (word_of (claim_wants_at claim.sweep.tops claim.kind claim.sweep claim.stage))) claim.stage).claim (Some end) → ((p : ℕ) → end ≢ ends.PhasesOver p) → end ≡ ends.Full
  of (ends.Claimed j) at never = absurd at
  of ends.Full at never = refl
  of (ends.PhasesOver p) at never = absurd (never p refl)
