-- Each step of a claim, a sweep and a retirement.
use Rattle.std.proofs.Common.{ℕ, zero, ◌≡◌, ◌≢◌, ◌==◌, ◌+◌, ◌≤◌, ◌<◌, ◌⊎◌, ◌∙◌, Bool, true, false, Option, Some, None, arith, inl, inr, sym, ap, subst, refl, max, length, if◌then◌else◌}
use Rattle.std.specs.Prelude.{nat_lt}
use Rattle.std.proofs.lemmas.Bool.Decides.{nat_tests}
use Rattle.oa_words.specs.declared.packed.Kind.{Kind}
use Rattle.oa_words.specs.declared.packed.Kind.TheVariants as kinds
use Rattle.oa_words.specs.Words.{Word, Phase, Warning, Hazard, Status, Head, Link, Sizes, SlotRange, slot_range}
use Rattle.oa_words.specs.SlotKinds.{kind_of}
use Rattle.oa_words.specs.Packed.{StatusParts, status_word, status_parts, head_word, head_parts}
use Rattle.oa_words.specs.Within.{AreKinds}
use Rattle.oa_words.proofs.Parts.{status_back, top_small}
use Rattle.oa_words.proofs.KindRanges.{kind_small}
use Rattle.phase_pools.specs.declared.access.ClaimEnd.TheVariants as ends
use Rattle.phase_pools.specs.declared.access.SweepEnd.{SweepEnd}
use Rattle.phase_pools.specs.declared.access.SweepEnd.TheVariants as swept
use Rattle.phase_pools.specs.declared.stages.Scheme.{Scheme}
use Rattle.phase_pools.specs.declared.stages.Scheme.TheVariants.{Warned, Announced}
use Rattle.phase_pools.specs.declared.stages.SweepStage.{SweepStage}
use Rattle.phase_pools.specs.declared.stages.SweepStage.TheVariants as sweeps
use Rattle.phase_pools.specs.declared.stages.ClaimStage.{ClaimStage}
use Rattle.phase_pools.specs.declared.stages.ClaimStage.TheVariants as claims
use Rattle.phase_pools.specs.declared.stages.RetireStage.{RetireStage}
use Rattle.phase_pools.specs.declared.stages.RetireStage.TheVariants as retires
use Rattle.phase_pools.specs.Accesses.{word_of}
use Rattle.phase_pools.specs.Pools.{Sweep, warn_wanted, lower, low_after, sweep_wants_at, sweep_accepts_at, sweep_goes, sweep_ends, sweep_on, warned_all, warn_next, hazard_next, status_read, made_ready, pushed, Claim, claim_wants, claim_wants_at, claim_accepts, claim_accepts_at, claim_goes, claim_ends, sweep_follows, look_ended, look_begun, look_took, sweep_ended, retire_wants_at, retire_accepts_at}
use Rattle.oa_words.specs.Memories.{store}
use Rattle.chain_laws.specs.Memories.{put, after_access}
use Rattle.chain_laws.specs.Chains.{Owner, Chained, Taken, Pushing, Outside, Retiring, Retired, Hands, handed, with_top, without_top, stamp, top, SlotHolds, PoolHolds}
use Rattle.chain_laws.specs.Standing.{ComesAbove, Gone, SweepStands, ClaimStands, RetireStands, MayMove, PoolKept, SweepNext, ClaimNext, RetireNext}
use Rattle.chain_laws.specs.Machine.{sweep_hands, claim_hands, retire_hands}
use Rattle.phase_pools.proofs.Lowering.{lower_less}
use Rattle.phase_pools.proofs.Statuses.{from_slot, from_status}
use Rattle.chain_laws.proofs.Lists.{put_same}
use Rattle.chain_laws.proofs.Changes.{link_here, status_here, status_other, head_here, Near, Same, IsMine, top_chained, fine_same, goes_same, fine_handed, goes_handed, tells, Expected, fine_taken, goes_taken, fine_linked, goes_linked, Pushes, fine_pushed, goes_pushed}
use Rattle.chain_laws.proofs.Same.{same_loaded, same_raised, same_written}
use Rattle.chain_laws.proofs.Moving.{stable_loaded}

-- nothing of the pool changes, but that the phase may rise
kept_same : (n : Sizes) (c : ℕ) (m m' : Word → ℕ) (h : Hands) (Next : Type 0) → Same m m' → PoolHolds n m h → Next → PoolKept n c m h m' h Next
kept_same n c m m' h Next same f next = record { fine = fine_same n m m' h same f; goes = goes_same n c m m' h same; next = next }

-- ---- statuses

abbrev phase_in : Option StatusParts → ℕ
phase_in None = 0
phase_in (Some parts) = parts.phase

abbrev kind_in : Option StatusParts → Kind
kind_in None = kinds.Ready
kind_in (Some parts) = parts.kind

-- one status word tells one phase and kind
pub status_tells : (p q : ℕ) (k l : Kind) → status_word p k ≡ status_word q l → (p ≡ q) × (k ≡ l)
status_tells p q k l e = (
  sym (ap phase_in (status_back p k)) ∙ (ap (λ (w : ℕ). phase_in (status_parts w)) e ∙ ap phase_in (status_back q l)),
  sym (ap kind_in (status_back p k)) ∙ (ap (λ (w : ℕ). kind_in (status_parts w)) e ∙ ap kind_in (status_back q l)),
)

pub kinds_apart : (P : Type 0) (p q : ℕ) (k l : Kind) (word : ℕ) → (k ≡ l → ⊥) → word ≡ status_word p k → word ≡ status_word q l → P
kinds_apart P p q k l word ne a b = absurd (ne (status_tells p q k l (sym a ∙ b)).1)

-- a slot whose status is retired is nobody's
pub is_retired : (range : SlotRange) (stamped phase j word q : ℕ) (o : Owner) → j ≤ range.last → word ≡ status_word q kinds.Retired → SlotHolds range stamped phase j word o → o ≡ Retired q
is_retired range stamped phase j word q Chained le is slot = kinds_apart _ q slot.1.0 kinds.Retired kinds.Ready word (λ e. cc) is slot.1.1
is_retired range stamped phase j word q (Taken c) le is slot = kinds_apart _ q slot.1.0 kinds.Retired kinds.Ready word (λ e. cc) is slot.1.1
is_retired range stamped phase j word q (Pushing c s) le is slot = kinds_apart _ q s kinds.Retired kinds.Ready word (λ e. cc) is slot.1
is_retired range stamped phase j word q Outside le is slot = let used = slot le in kinds_apart _ q used.0 kinds.Retired kinds.Used word (λ e. cc) is used.1
is_retired range stamped phase j word q (Retiring c tag) le is slot = kinds_apart _ q slot.1.0 kinds.Retired kinds.Used word (λ e. cc) is slot.1.1
is_retired range stamped phase j word q (Retired tag) le is slot = ap Retired (status_tells tag q kinds.Retired kinds.Retired (sym slot.1 ∙ is)).0

-- ---- a sweep

on_next : (n : Sizes) (m : Word → ℕ) (h : Hands) (c : ℕ) (sweep : Sweep) (j : ℕ) → (sweep.bound ≤ m Phase) × (sweep.low ≤ sweep.bound) → j ≤ n.slots → SweepNext n m h c (sweep_on n sweep j).sweep (sweep_on n sweep j).ended
on_next n m h c sweep j up le = from_slot (λ turn. SweepNext n m h c turn.sweep turn.ended) n sweep j (λ more. (up.0, up.1, omega (arith, le))) tt

status_next : (n : Sizes) (m : Word → ℕ) (h : Hands) (c : ℕ) (sweep : Sweep) (j : ℕ) (parts : Option StatusParts) → (sweep.bound ≤ m Phase) × (sweep.low ≤ sweep.bound) → j ≤ n.slots
    → SweepNext n m h c (status_read n sweep j parts).sweep (status_read n sweep j parts).ended
status_next n m h c sweep j parts up le = from_status (λ turn. SweepNext n m h c turn.sweep turn.ended) n sweep j parts (on_next n m h c sweep j up le) (λ p is below away. (up.0, up.1, le, below))

hazard_on : (n : Sizes) (m : Word → ℕ) (h : Hands) (c s low d r : ℕ) → (s ≤ m Phase) × (low ≤ s) → SweepStands n m h c s low (hazard_next n d r)
hazard_on n m h c s low d r up = of (nat_lt (r + 1) 8) (nat_lt (d + 1) n.callers) where
  of : (a b : Bool) → SweepStands n m h c s low (if a then sweeps.ReadHazard d (r + 1) else (if b then sweeps.ReadHazard (d + 1) 0 else sweeps.ReadStatus n.slots))
  of false false = (up.0, up.1, omega arith)
  of _ _ = up

all_warned : (n : Sizes) (m : Word → ℕ) (h : Hands) (c s low : ℕ) (scheme : Scheme) → (s ≤ m Phase) × (low ≤ s) → SweepStands n m h c s low (warned_all n scheme)
all_warned n m h c s low Warned up = up
all_warned n m h c s low (Announced own) up = (up.0, up.1, omega arith)

warn_on : (n : Sizes) (m : Word → ℕ) (h : Hands) (c s low d : ℕ) (scheme : Scheme) → (s ≤ m Phase) × (low ≤ s) → SweepStands n m h c s low (warn_next n scheme d)
warn_on n m h c s low d scheme up = of (nat_lt (d + 1) n.callers) where
  of : (b : Bool) → SweepStands n m h c s low (if b then sweeps.Warn (d + 1) else warned_all n scheme)
  of true = up
  of false = all_warned n m h c s low scheme up

-- a slot is made ready, to be pushed
freed : (n : Sizes) (c : ℕ) (m : Word → ℕ) (h : Hands) (s j q : ℕ) → PoolHolds n m h → s ≤ m Phase → j ≤ n.slots → q < s → m (Status j) ≡ status_word q kinds.Retired
    → PoolHolds n (store m (Status j) (status_word s kinds.Ready)) (handed h j (Pushing c s)) × MayMove n c m h (store m (Status j) (status_word s kinds.Ready)) (handed h j (Pushing c s))
freed n c m h s j q f up le lt is =
    let m' : Word → ℕ = store m (Status j) (status_word s kinds.Ready) in
    let own : h.owner j ≡ Retired q = is_retired (slot_range n) (stamp n.tops m (kind_of n j)) (m Phase) j (m (Status j)) q (h.owner j) le is (f.slot j) in
    let slot : SlotHolds (slot_range n) (stamp n.tops m (kind_of n j)) (m Phase) j (m (Status j)) (Retired q) = subst (λ (o : Owner). SlotHolds (slot_range n) (stamp n.tops m (kind_of n j)) (m Phase) j (m (Status j)) o) own (f.slot j) in
    let near : Near m m' j = record { phase = omega arith; head = λ k. refl; link = λ i. refl; status = λ i ne. status_other m j (status_word s kinds.Ready) i ne } in
    let mine : IsMine c (h.owner j) = subst (λ (o : Owner). IsMine c o) (sym own) tt in (
      fine_handed n m m' h c j (Pushing c s) near mine refl (slot.0, status_here m j (status_word s kinds.Ready), up) f,
      goes_handed n c m m' h j (Pushing c s) near mine refl (λ p below is. let above : p ≤ q = subst (λ (o : Owner). ComesAbove p o) own is in omega (arith, above, lt)),
    )

frees : (n : Sizes) (c : ℕ) (m : Word → ℕ) (h : Hands) (sweep : Sweep) (j q : ℕ) → PoolHolds n m h → SweepStands n m h c sweep.bound sweep.low (sweeps.MakeReady j q)
    → PoolKept n c m h (after_access m (sweep_wants_at n.tops sweep.scheme (sweeps.MakeReady j q) sweep.bound)) (sweep_hands n.tops c sweep.bound (sweeps.MakeReady j q) m h)
    (SweepNext n (after_access m (sweep_wants_at n.tops sweep.scheme (sweeps.MakeReady j q) sweep.bound)) (sweep_hands n.tops c sweep.bound (sweeps.MakeReady j q) m h) c (made_ready n sweep j q (m (Status j))).sweep (made_ready n sweep j q (m (Status j))).ended)
frees n c m h sweep j q f w = of (m (Status j) == status_word q kinds.Retired) refl where
  of : (b : Bool) → (m (Status j) == status_word q kinds.Retired) ≡ b
      → PoolKept n c m h (store m (Status j) (if b then status_word sweep.bound kinds.Ready else m (Status j))) (if b then handed h j (Pushing c sweep.bound) else h)
      (SweepNext n (store m (Status j) (if b then status_word sweep.bound kinds.Ready else m (Status j))) (if b then handed h j (Pushing c sweep.bound) else h) c
      (if b then sweep_goes sweep (sweeps.PushHead (kind_of n j) j) else sweep_on n sweep j).sweep (if b then sweep_goes sweep (sweeps.PushHead (kind_of n j) j) else sweep_on n sweep j).ended)
  of false is = kept_same n c m (store m (Status j) (m (Status j))) h _ (same_loaded m (Status j)) f (on_next n (store m (Status j) (m (Status j))) h c sweep j (w.0, w.1) w.2)
  of true is =
      let k = freed n c m h sweep.bound j q f w.0 w.2 (let lt = w.3 in let low = w.1 in omega (arith, lt, low)) (grind (arith, nat_tests)) in
      record { fine = k.0; goes = k.1; next = (w.0, w.1, put_same h.owner j (Pushing c sweep.bound), refl) }

pushes : (n : Sizes) (c : ℕ) (m : Word → ℕ) (h : Hands) (sweep : Sweep) (k j q t : ℕ) → n.slots < n.tops → PoolHolds n m h → SweepStands n m h c sweep.bound sweep.low (sweeps.PushTop k j q t)
    → PoolKept n c m h (after_access m (sweep_wants_at n.tops sweep.scheme (sweeps.PushTop k j q t) sweep.bound)) (sweep_hands n.tops c sweep.bound (sweeps.PushTop k j q t) m h)
    (SweepNext n (after_access m (sweep_wants_at n.tops sweep.scheme (sweeps.PushTop k j q t) sweep.bound)) (sweep_hands n.tops c sweep.bound (sweeps.PushTop k j q t) m h) c
    (pushed n sweep j q t (m (Head k))).sweep (pushed n sweep j q t (m (Head k))).ended)
pushes n c m h sweep k j q t most f w = of (m (Head k) == head_word n.tops q t) refl where
  slot : SlotHolds (slot_range n) (stamp n.tops m (kind_of n j)) (m Phase) j (m (Status j)) (Pushing c sweep.bound)
  slot = subst (λ (o : Owner). SlotHolds (slot_range n) (stamp n.tops m (kind_of n j)) (m Phase) j (m (Status j)) o) w.2 (f.slot j)

  of : (b : Bool) → (m (Head k) == head_word n.tops q t) ≡ b
      → PoolKept n c m h (store m (Head k) (if b then head_word n.tops (max q sweep.bound) j else m (Head k))) (if b then with_top h k j else h)
      (SweepNext n (store m (Head k) (if b then head_word n.tops (max q sweep.bound) j else m (Head k))) (if b then with_top h k j else h) c
      (if b then sweep_on n sweep j else sweep_goes sweep (sweeps.PushHead (kind_of n j) j)).sweep (if b then sweep_on n sweep j else sweep_goes sweep (sweeps.PushHead (kind_of n j) j)).ended)
  of false is = kept_same n c m (store m (Head k) (m (Head k))) h _ (same_loaded m (Head k)) f (w.0, w.1, w.2, refl)
  of true is =
      let e : Pushes n m h c sweep.bound k j q t = record { slots = most; head = grind (arith, nat_tests); small = w.4; own = w.2; of_kind = sym w.3; link = w.5 } in
      record {
        fine = fine_pushed n m h c sweep.bound k j q t e f;
        goes = goes_pushed n m h c sweep.bound k j q t e f;
        next = on_next n (store m (Head k) (head_word n.tops (max q sweep.bound) j)) (with_top h k j) c sweep j (w.0, w.1) slot.0.1;
      }

-- the next stage of a sweep
pub sweep_step : (n : Sizes) (last c : ℕ) (m : Word → ℕ) (h : Hands) (sweep : Sweep) (stage : SweepStage) → n.slots < n.tops → PoolHolds n m h → SweepStands n m h c sweep.bound sweep.low stage
    → PoolKept n c m h (after_access m (sweep_wants_at n.tops sweep.scheme stage sweep.bound)) (sweep_hands n.tops c sweep.bound stage m h)
    (SweepNext n (after_access m (sweep_wants_at n.tops sweep.scheme stage sweep.bound)) (sweep_hands n.tops c sweep.bound stage m h) c
    (sweep_accepts_at n last sweep (m (word_of (sweep_wants_at n.tops sweep.scheme stage sweep.bound))) stage).sweep (sweep_accepts_at n last sweep (m (word_of (sweep_wants_at n.tops sweep.scheme stage sweep.bound))) stage).ended)
sweep_step n last c m h sweep sweeps.ReadPhase most f w = kept_same n c m (store m Phase (m Phase)) h _ (same_loaded m Phase) f (of (m Phase == last)) where
  of : (b : Bool) → SweepNext n (store m Phase (m Phase)) h c (if b then sweep_ends sweep (swept.PhasesOver (m Phase)) else sweep_goes sweep (sweeps.RaisePhase (m Phase))).sweep
      (if b then sweep_ends sweep (swept.PhasesOver (m Phase)) else sweep_goes sweep (sweeps.RaisePhase (m Phase))).ended
  of true = tt
  of false = omega arith
sweep_step n last c m h sweep (sweeps.RaisePhase p) most f w =
    kept_same n c m (store m Phase (if m Phase == p then p + 1 else m Phase)) h _ (same_raised m p) f (raised (m Phase) w, omega arith)
  where
    raised : (phase : ℕ) → p ≤ phase → p + 1 ≤ (if phase == p then p + 1 else phase)
    raised phase le = grind (arith, nat_tests)
sweep_step n last c m h sweep (sweeps.Warn d) most f w = of sweep.scheme where
  of : (scheme : Scheme) → PoolKept n c m h (after_access m (warn_wanted scheme d sweep.bound)) h
      (SweepStands n (after_access m (warn_wanted scheme d sweep.bound)) h c sweep.bound (low_after scheme sweep.low (m (word_of (warn_wanted scheme d sweep.bound)))) (warn_next n scheme d))
  of Warned =
      kept_same n c m (store m (Warning d) (max (m (Warning d)) sweep.bound)) h _ (same_written m (Warning d) (max (m (Warning d)) sweep.bound) refl) f
      (warn_on n (store m (Warning d) (max (m (Warning d)) sweep.bound)) h c sweep.bound sweep.low d Warned w)
  of (Announced own) =
      kept_same n c m (store m (Warning d) (m (Warning d))) h _ (same_loaded m (Warning d)) f
      (warn_on n (store m (Warning d) (m (Warning d))) h c sweep.bound (lower sweep.low (m (Warning d))) d (Announced own)
      (w.0, (let less = lower_less sweep.low (m (Warning d)) in let low = w.1 in omega (arith, less, low))))
sweep_step n last c m h sweep (sweeps.ReadHazard d r) most f w =
    kept_same n c m (store m (Hazard d r) (m (Hazard d r))) h _ (same_loaded m (Hazard d r)) f
    (hazard_on n (store m (Hazard d r) (m (Hazard d r))) h c sweep.bound sweep.low d r w)
sweep_step n last c m h sweep (sweeps.ReadStatus j) most f w =
    kept_same n c m (store m (Status j) (m (Status j))) h _ (same_loaded m (Status j)) f
    (status_next n (store m (Status j) (m (Status j))) h c sweep j (status_parts (m (Status j))) (w.0, w.1) w.2)
sweep_step n last c m h sweep (sweeps.MakeReady j q) most f w = frees n c m h sweep j q f w
sweep_step n last c m h sweep (sweeps.PushHead k j) most f w =
    kept_same n c m (store m (Head k) (m (Head k))) h _ (same_loaded m (Head k)) f (w.0, w.1, w.2, top_small n.tops (m (Head k)) (omega (arith, most)))
sweep_step n last c m h sweep (sweeps.PushLink j q t) most f w = record {
  fine = fine_linked n m h c sweep.bound j t w.2 f;
  goes = goes_linked n m h c sweep.bound j t w.2;
  next = (w.0, w.1, w.2, refl, w.3, link_here m j t);
}
sweep_step n last c m h sweep (sweeps.PushTop k j q t) most f w = pushes n c m h sweep k j q t most f w

-- ---- a claim

look_ends : (n : Sizes) (m : Word → ℕ) (h : Hands) (c : ℕ) (claim : Claim) → claim.kind < length n.kinds → ClaimNext n m h c (look_ended claim).claim (look_ended claim).ended
look_ends n m h c claim lt = of (claim.sweeps == 2) where
  follows : (scheme : Scheme) (made : ℕ) → ClaimNext n m h c (sweep_follows scheme made claim).claim (sweep_follows scheme made claim).ended
  follows (Announced own) zero = (lt, tt)
  follows _ _ = (lt, tt)

  of : (b : Bool) → ClaimNext n m h c (if b then claim_ends claim ends.Full else sweep_follows claim.sweep.scheme claim.sweeps claim).claim (if b then claim_ends claim ends.Full else sweep_follows claim.sweep.scheme claim.sweeps claim).ended
  of true = tt
  of false = follows claim.sweep.scheme claim.sweeps

-- a look that has loaded the head of the claim's kind: its top stands in the chain
look_next : (n : Sizes) (m : Word → ℕ) (h : Hands) (c : ℕ) (claim : Claim) → n.slots < n.tops → claim.kind < length n.kinds → PoolHolds n m h
    → ClaimNext n (store m (Head claim.kind) (m (Head claim.kind))) h c (look_begun claim (head_parts n.tops (m (Head claim.kind)))).claim (look_begun claim (head_parts n.tops (m (Head claim.kind)))).ended
look_next n m h c claim most lt f = of (top n.tops m claim.kind == 0) refl where
  of : (b : Bool) → (top n.tops m claim.kind == 0) ≡ b → ClaimNext n (store m (Head claim.kind) (m (Head claim.kind))) h c
      (if b then look_ended claim else claim_goes claim (claims.ReadLink (stamp n.tops m claim.kind) (top n.tops m claim.kind))).claim (if b then look_ended claim else claim_goes claim (claims.ReadLink (stamp n.tops m claim.kind) (top n.tops m claim.kind))).ended
  of true is = look_ends n (store m (Head claim.kind) (m (Head claim.kind))) h c claim lt
  of false is =
      let some : top n.tops m claim.kind ≢ 0 = grind (arith, nat_tests) in
      let chained = top_chained n m h claim.kind (top n.tops m claim.kind) lt f refl some in
      let stays = ap (λ (w : ℕ). (head_parts n.tops w).phase) (head_here m claim.kind (m (Head claim.kind))) in
      (lt, (some, top_small n.tops (m (Head claim.kind)) (omega (arith, most)), chained.1, omega (arith, stays), inl (chained.0, tt)))

takes : (n : Sizes) (c : ℕ) (m : Word → ℕ) (h : Hands) (claim : Claim) (q t next : ℕ) → n.slots < n.tops → claim.kind < length n.kinds → PoolHolds n m h → ClaimStands n m h c claim.kind claim.sweep (claims.Take q t next)
    → PoolKept n c m h (after_access m (claim_wants_at n.tops claim.kind claim.sweep (claims.Take q t next))) (claim_hands n.tops c claim.kind claim.sweep (claims.Take q t next) m h)
    (ClaimNext n (after_access m (claim_wants_at n.tops claim.kind claim.sweep (claims.Take q t next))) (claim_hands n.tops c claim.kind claim.sweep (claims.Take q t next) m h) c
    (look_took n claim q t (m (Head claim.kind))).claim (look_took n claim q t (m (Head claim.kind))).ended)
takes n c m h claim q t next most lt f w = of (m (Head claim.kind) == head_word n.tops q t) refl where
  -- if the head is as it was loaded, the top has stood there since
  stood : m (Head claim.kind) ≡ head_word n.tops q t → ((h.owner t ≡ Chained) × (m (Link t) ≡ next)) ⊎ Gone n m h q t → (h.owner t ≡ Chained) × (m (Link t) ≡ next)
  stood is (inl stands) = stands
  stood is (inr (inl less)) = absurd (let here = ap (stamp n.tops m) w.2 ∙ (tells n.tops m claim.kind q t is w.1).0 in let no : ⊥ = omega (arith, here, less) in no)
  stood is (inr (inr above)) = absurd (subst (λ (o : Owner). ComesAbove q o) (top_chained n m h claim.kind t lt f (tells n.tops m claim.kind q t is w.1).1 w.0).0 above)

  of : (b : Bool) → (m (Head claim.kind) == head_word n.tops q t) ≡ b
      → PoolKept n c m h (store m (Head claim.kind) (if b then head_word n.tops q next else m (Head claim.kind))) (if b then without_top h claim.kind c t else h)
      (ClaimNext n (store m (Head claim.kind) (if b then head_word n.tops q next else m (Head claim.kind))) (if b then without_top h claim.kind c t else h) c
      (if b then claim_goes claim (claims.StoreUsed q t) else claim_goes claim claims.ReadHead).claim (if b then claim_goes claim (claims.StoreUsed q t) else claim_goes claim claims.ReadHead).ended)
  of false is = kept_same n c m (store m (Head claim.kind) (m (Head claim.kind))) h _ (same_loaded m (Head claim.kind)) f (lt, tt)
  of true is =
      let head : m (Head claim.kind) ≡ head_word n.tops q t = grind (arith, nat_tests) in
      let stands = stood head w.4 in
      let e : Expected n m h claim.kind q t next = record { slots = most; kind = lt; head = head; small = w.1; some = w.0; own = stands.0; of_kind = w.2; link = stands.1 } in
      record { fine = fine_taken n m h c claim.kind q t next e f; goes = goes_taken n m h c claim.kind q t next e f; next = (lt, (put_same h.owner t (Taken c), w.2)) }

-- the status of a slot that was taken is stored
used : (n : Sizes) (c : ℕ) (m : Word → ℕ) (h : Hands) (q t : ℕ) → PoolHolds n m h → h.owner t ≡ Taken c
    → PoolHolds n (store m (Status t) (status_word q kinds.Used)) (handed h t Outside) × MayMove n c m h (store m (Status t) (status_word q kinds.Used)) (handed h t Outside)
used n c m h q t f own =
    let m' : Word → ℕ = store m (Status t) (status_word q kinds.Used) in
    let near : Near m m' t = record { phase = omega arith; head = λ k. refl; link = λ i. refl; status = λ i ne. status_other m t (status_word q kinds.Used) i ne } in
    let mine : IsMine c (h.owner t) = subst (λ (o : Owner). IsMine c o) (sym own) refl in (
      fine_handed n m m' h c t Outside near mine refl (λ within. (q, status_here m t (status_word q kinds.Used))) f,
      goes_handed n c m m' h t Outside near mine tt (λ p below is. tt),
    )

-- the next stage of a claim
pub claim_step : (n : Sizes) (last c : ℕ) (m : Word → ℕ) (h : Hands) (claim : Claim) (stage : ClaimStage) → claim.stage ≡ stage → n.slots < n.tops → claim.kind < length n.kinds → PoolHolds n m h → ClaimStands n m h c claim.kind claim.sweep stage
    → PoolKept n c m h (after_access m (claim_wants_at n.tops claim.kind claim.sweep stage)) (claim_hands n.tops c claim.kind claim.sweep stage m h)
    (ClaimNext n (after_access m (claim_wants_at n.tops claim.kind claim.sweep stage)) (claim_hands n.tops c claim.kind claim.sweep stage m h) c
    (claim_accepts_at n last claim (m (word_of (claim_wants_at n.tops claim.kind claim.sweep stage))) stage).claim (claim_accepts_at n last claim (m (word_of (claim_wants_at n.tops claim.kind claim.sweep stage))) stage).ended)
claim_step n last c m h claim claims.ReadHead is most lt f w = kept_same n c m (store m (Head claim.kind) (m (Head claim.kind))) h _ (same_loaded m (Head claim.kind)) f (look_next n m h c claim most lt f)
claim_step n last c m h claim (claims.ReadLink q t) is most lt f w =
    let same = same_loaded m (Link t) in
    kept_same n c m (store m (Link t) (m (Link t))) h _ same f
    (lt, stable_loaded n c m h (store m (Link t) (m (Link t))) h claim.kind q t (Unit {0}) (store m (Link t) (m (Link t)) (Link t) ≡ m (Link t)) (goes_same n c m (store m (Link t) (m (Link t))) h same) (λ linked any. linked) w)
claim_step n last c m h claim (claims.Take q t next) is most lt f w = takes n c m h claim q t next most lt f w
claim_step n last c m h claim (claims.StoreUsed q t) is most lt f w = let k = used n c m h q t f w.0 in record { fine = k.0; goes = k.1; next = tt }
claim_step n last c m h claim (claims.Withdraw own) is most lt f w = kept_same n c m (store m (Warning own) 0) h _ (same_written m (Warning own) 0 refl) f (lt, tt)
claim_step n last c m h claim claims.Sweeps is most lt f w =
    let kept = sweep_step n last c m h claim.sweep claim.sweep.stage most f w in
    let a = sweep_wants_at n.tops claim.sweep.scheme claim.sweep.stage claim.sweep.bound in
    let turn = sweep_accepts_at n last claim.sweep (m (word_of a)) claim.sweep.stage in
    record { fine = kept.fine; goes = kept.goes; next = sweep_goes_on n (after_access m a) (sweep_hands n.tops c claim.sweep.bound claim.sweep.stage m h) c claim turn.sweep turn.ended is lt kept.next }
  where
    sweep_goes_on : (n : Sizes) (m : Word → ℕ) (h : Hands) (c : ℕ) (claim : Claim) (sweep : Sweep) (end : Option SweepEnd) → claim.stage ≡ claims.Sweeps → claim.kind < length n.kinds → SweepNext n m h c sweep end
        → ClaimNext n m h c (sweep_ended claim sweep end).claim (sweep_ended claim sweep end).ended
    sweep_goes_on n m h c claim sweep None is lt next = (lt, subst (λ (stage : ClaimStage). ClaimStands n m h c claim.kind sweep stage) (sym is) next)
    sweep_goes_on n m h c claim sweep (Some swept.Swept) is lt next = (lt, tt)
    sweep_goes_on n m h c claim sweep (Some (swept.PhasesOver p)) is lt next = tt

-- and with the access that it wants, if its heads are those of the row
pub claim_moves : (n : Sizes) (last c : ℕ) (m : Word → ℕ) (h : Hands) (claim : Claim) → claim.sweep.tops ≡ n.tops → n.slots < n.tops → claim.kind < length n.kinds → PoolHolds n m h
    → ClaimStands n m h c claim.kind claim.sweep claim.stage
    → PoolKept n c m h (after_access m (claim_wants claim)) (claim_hands n.tops c claim.kind claim.sweep claim.stage m h)
    (ClaimNext n (after_access m (claim_wants claim)) (claim_hands n.tops c claim.kind claim.sweep claim.stage m h) c
    (claim_accepts n last claim (m (word_of (claim_wants claim)))).claim (claim_accepts n last claim (m (word_of (claim_wants claim)))).ended)
claim_moves n last c m h claim same most lt f w = subst (λ (tops : ℕ). At tops) (sym same) (claim_step n last c m h claim claim.stage refl most lt f w) where
  At : ℕ → Type 0
  At tops =
      let a = claim_wants_at tops claim.kind claim.sweep claim.stage in
      let turn = claim_accepts n last claim (m (word_of a)) in
      PoolKept n c m h (after_access m a) (claim_hands n.tops c claim.kind claim.sweep claim.stage m h)
      (ClaimNext n (after_access m a) (claim_hands n.tops c claim.kind claim.sweep claim.stage m h) c turn.claim turn.ended)

-- ---- a retirement

pub retire_step : (n : Sizes) (c : ℕ) (m : Word → ℕ) (h : Hands) (j : ℕ) (stage : RetireStage) → AreKinds n → PoolHolds n m h → RetireStands h c j stage
    → PoolKept n c m h (after_access m (retire_wants_at j stage)) (retire_hands c j stage m h)
    (RetireNext (retire_hands c j stage m h) c (retire_accepts_at j (m (word_of (retire_wants_at j stage))) stage))
retire_step n c m h j retires.ReadPhase are f own =
    let m' : Word → ℕ = store m Phase (m Phase) in
    let same = same_loaded m Phase in
    let near : Near m m' j = record { phase = same.phase; head = same.head; link = same.link; status = λ i ne. same.status i } in
    let mine : IsMine c (h.owner j) = subst (λ (o : Owner). IsMine c o) (sym own) refl in
    let slot : SlotHolds (slot_range n) (stamp n.tops m (kind_of n j)) (m Phase) j (m (Status j)) (Retiring c None) = subst (λ (o : Owner). SlotHolds (slot_range n) (stamp n.tops m (kind_of n j)) (m Phase) j (m (Status j)) o) own (f.slot j) in
    record {
      fine = fine_handed n m m' h c j (Retiring c (Some (m Phase))) near mine refl (slot.0, slot.1, omega arith) f;
      goes = goes_handed n c m m' h j (Retiring c (Some (m Phase))) near mine refl (λ p below is. let up = f.stamped (kind_of n j) (kind_small n j are) in omega (arith, below, up));
      next = put_same h.owner j (Retiring c (Some (m Phase)));
    }
retire_step n c m h j (retires.StoreStatus p) are f own =
    let m' : Word → ℕ = store m (Status j) (status_word p kinds.Retired) in
    let near : Near m m' j = record { phase = omega arith; head = λ k. refl; link = λ i. refl; status = λ i ne. status_other m j (status_word p kinds.Retired) i ne } in
    let mine : IsMine c (h.owner j) = subst (λ (o : Owner). IsMine c o) (sym own) refl in
    let slot : SlotHolds (slot_range n) (stamp n.tops m (kind_of n j)) (m Phase) j (m (Status j)) (Retiring c (Some p)) = subst (λ (o : Owner). SlotHolds (slot_range n) (stamp n.tops m (kind_of n j)) (m Phase) j (m (Status j)) o) own (f.slot j) in
    record {
      fine = fine_handed n m m' h c j (Retired p) near mine refl (slot.0, status_here m j (status_word p kinds.Retired), slot.2) f;
      goes = goes_handed n c m m' h j (Retired p) near mine tt (λ q below is. subst (λ (o : Owner). ComesAbove q o) own is);
      next = tt;
    }

-- and its begin
pub retire_begins : (n : Sizes) (c : ℕ) (m : Word → ℕ) (h : Hands) (j : ℕ) → PoolHolds n m h → 1 ≤ j → j ≤ n.slots → h.owner j ≡ Outside
    → PoolKept n c m h m (handed h j (Retiring c None)) (put h.owner j (Retiring c None) j ≡ Retiring c None)
retire_begins n c m h j f some most own =
    let near : Near m m j = record { phase = omega arith; head = λ k. refl; link = λ i. refl; status = λ i ne. refl } in
    let mine : IsMine c (h.owner j) = subst (λ (o : Owner). IsMine c o) (sym own) tt in
    let slot : SlotHolds (slot_range n) (stamp n.tops m (kind_of n j)) (m Phase) j (m (Status j)) Outside = subst (λ (o : Owner). SlotHolds (slot_range n) (stamp n.tops m (kind_of n j)) (m Phase) j (m (Status j)) o) own (f.slot j) in
    record {
      fine = fine_handed n m m h c j (Retiring c None) near mine refl ((some, most), slot most, tt) f;
      goes = goes_handed n c m m h j (Retiring c None) near mine refl (λ q below is. tt);
      next = put_same h.owner j (Retiring c None);
    }
