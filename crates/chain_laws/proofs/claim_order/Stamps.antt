-- The words of the chains stay within their limits.
use Rattle.std.proofs.Common.{ℕ, zero, ◌≡◌, ◌≢◌, ◌==◌, ◌+◌, ◌≤◌, ◌<◌, Bool, true, false, List, [], ◌∷◌, length, Option, Some, None, arith, inl, inr, ⊎_elim, sym, ap, subst, refl, max, if◌then◌else◌}
use Rattle.std.specs.Prelude.{nat_lt}
use Rattle.std.proofs.lemmas.Bool.{cases_eq, cases_lt}
use Rattle.std.proofs.lemmas.Bool.Decides.{nat_tests}
use Rattle.oa_words.specs.declared.packed.Kind.TheVariants as kinds
use Rattle.oa_words.specs.Words.{Word, Phase, Warning, Hazard, Status, Head, Link, Sizes, slot_range, IsSlot}
use Rattle.oa_words.specs.SlotKinds.{range_of, kind_of, range_at, IsNullOrOf}
use Rattle.oa_words.specs.Within.{AreKinds}
use Rattle.oa_words.specs.Packed.{StatusParts, status_word, status_parts, HeadParts, head_word, head_parts}
use Rattle.oa_words.proofs.Parts.{head_back}
use Rattle.oa_words.specs.Starts.{Beginning, nodes_of, first_ready, slot_or_none, slot_after, link_at_start, start_top}
use Rattle.oa_words.proofs.KindRanges.{kind_small, in_range_is_of_kind, range_is_within}
use Rattle.phase_pools.specs.declared.access.ClaimEnd.{ClaimEnd}
use Rattle.phase_pools.specs.declared.access.ClaimEnd.TheVariants as ends
use Rattle.phase_pools.specs.declared.access.SweepEnd.{SweepEnd}
use Rattle.phase_pools.specs.declared.access.SweepEnd.TheVariants as swept
use Rattle.phase_pools.specs.declared.stages.Scheme.{Scheme}
use Rattle.phase_pools.specs.declared.stages.Scheme.TheVariants.{Warned, Announced}
use Rattle.phase_pools.specs.declared.stages.SweepStage.{SweepStage}
use Rattle.phase_pools.specs.declared.stages.SweepStage.TheVariants as sweeps
use Rattle.phase_pools.specs.declared.stages.ClaimStage.{ClaimStage}
use Rattle.phase_pools.specs.declared.stages.ClaimStage.TheVariants as claims
use Rattle.phase_pools.specs.declared.stages.RetireStage.{RetireStage}
use Rattle.phase_pools.specs.declared.stages.RetireStage.TheVariants as retires
use Rattle.phase_pools.specs.Accesses.{WordAccess, word_of}
use Rattle.phase_pools.specs.Pools.{Sweep, warn_wanted, sweep_wants_at, sweep_accepts_at, sweep_goes, sweep_ends, sweep_on, hazard_next, warned_all, warn_next, status_read, Claim, claim_begun, claim_wants, claim_accepts, claim_wants_at, claim_accepts_at, claim_goes, claim_ends, sweep_follows, look_ended, sweep_ended, Retirement, retire_begun, retire_wants, retire_accepts, retire_wants_at}
use Rattle.phase_pools.proofs.Statuses.{from_slot, from_status}
use Rattle.oa_words.specs.Memories.{store}
use Rattle.chain_laws.specs.Memories.{put, after_access}
use Rattle.chain_laws.specs.Chains.{stamp, top}
use Rattle.chain_laws.specs.Machine.{Standing, Elsewhere, Claims, Retires, PoolEvent, BeginsClaim, BeginsRetirement, Steps, Writes, is_other, claim_left, retirement_left}
use Rattle.chain_laws.specs.Laws.{StartsAs, OfAll}
use Rattle.chain_laws.specs.claim_order.Frontier.{OpenState, frontier_at, claims_at, open_begins, open_stepped, open_event, open_run, open_start, IsNear, SweepFits, LookFits, ClaimFits, Fits, OpenHolds}
use Rattle.chain_laws.specs.claim_order.Stamps.{SweepBelow, ClaimBelow, Below, WordsWithin, WordsStayWithin}
use Rattle.chain_laws.proofs.Lists.{each_put}
use Rattle.chain_laws.proofs.Changes.{link_other, link_here, each_head, Same, tells}
use Rattle.chain_laws.proofs.Same.{same_loaded, same_written, same_raised}
use Rattle.chain_laws.proofs.Start.{row_has, row_heads, none_past_last, slot_inside, last_within, slot_small}
use Rattle.chain_laws.proofs.claim_order.Ranges.{near_below}
use Rattle.chain_laws.proofs.claim_order.Frontier.{some_state, begun, tested, split, event_open, start_open}

-- ---- null, or a slot of a kind

null_or_small : (n : Sizes) (k x : ℕ) → n.slots < n.tops → IsNullOrOf n k x → x < n.tops
null_or_small n k x most (inl none) = omega (arith, none, most)
null_or_small n k x most (inr some) = let within = some.1 in omega (arith, within, most)

in_range : (n : Sizes) (k x : ℕ) → AreKinds n → k < length n.kinds → IsSlot (range_of n k) x → IsNullOrOf n k x
in_range n k x are lt slot = let within = range_is_within n k x are slot in inr (within.0, within.1, in_range_is_of_kind n k x lt slot)

near_is : (n : Sizes) (k v x : ℕ) → AreKinds n → k < length n.kinds → IsNear (range_of n k) v x → IsNullOrOf n k x
near_is n k v x are lt (inl none) = inl none.0
near_is n k v x are lt (inr some) = in_range n k x are lt (some.0, some.2)

-- a slot of the range, or 0 past its last
or_none_is : (n : Sizes) (k x : ℕ) → AreKinds n → k < length n.kinds → (range_of n k).first ≤ x → IsNullOrOf n k (slot_or_none (range_of n k) x)
or_none_is n k x are lt low = ⊎_elim
    (λ (out : (range_of n k).last < x). inl (none_past_last (range_of n k) x out))
    (λ (within : x ≤ (range_of n k).last). subst (IsNullOrOf n k) (sym (slot_inside (range_of n k) x within)) (in_range n k x are lt (low, within)))
    (cases_lt (range_of n k).last x)

-- ---- steps

-- what a step keeps: the phase doesn't fall, the words are within, and its routine is below
pub record Within (n : Sizes) (m m' : Word → ℕ) (On : ℕ → Type 0) : Type 0 where
  pub up : m Phase ≤ m' Phase
  pub words : WordsWithin n m'
  pub on : On (m' Phase)

pub words_same : (n : Sizes) (m m' : Word → ℕ) → Same m m' → WordsWithin n m → WordsWithin n m'
words_same n m m' same w = record {
  stamped = λ k lt. (let is = ap (λ (x : ℕ). (head_parts n.tops x).phase) (same.head k) in let old = w.stamped k lt in let up = same.phase in omega (arith, is, old, up));
  topped = λ k lt. subst (λ (x : ℕ). IsNullOrOf n k (head_parts n.tops x).top) (sym (same.head k)) (w.topped k lt);
  linked = λ j within. subst (IsNullOrOf n (kind_of n j)) (sym (same.link j)) (w.linked j within);
}

within_same : (n : Sizes) (m m' : Word → ℕ) (On : ℕ → Type 0) → Same m m' → WordsWithin n m → On (m' Phase) → Within n m m' On
within_same n m m' On same w on = record { up = same.phase; words = words_same n m m' same w; on = on }

-- what a routine stores in a link, or puts on top, is a slot of the kind, or none; and a push goes to the head of its slot's kind
abbrev pub SweepStores : Sizes → SweepStage → Type 0
SweepStores n (sweeps.PushHead k j) = k ≡ kind_of n j
SweepStores n (sweeps.PushLink j q t) = IsNullOrOf n (kind_of n j) t
SweepStores n (sweeps.PushTop k j q t) = (k ≡ kind_of n j) × IsSlot (slot_range n) j
SweepStores n _ = Unit {0}

abbrev pub ClaimStores : Sizes → ℕ → SweepStage → ClaimStage → Type 0
ClaimStores n k stage (claims.Take q t next) = IsNullOrOf n k next
ClaimStores n k stage claims.Sweeps = SweepStores n stage
ClaimStores n k stage _ = Unit {0}

-- a head is exchanged
within_head : (n : Sizes) (m : Word → ℕ) (k q t : ℕ) (On : ℕ → Type 0) → n.slots < n.tops → WordsWithin n m → q ≤ m Phase → IsNullOrOf n k t → On (m Phase) → Within n m (store m (Head k) (head_word n.tops q t)) On
within_head n m k q t On most w below is on =
    let small = null_or_small n k t most is in
    let phase : (head_parts n.tops (head_word n.tops q t)).phase ≡ q = ap (λ (p : HeadParts). p.phase) (head_back n.tops q t small) in
    let top_is : (head_parts n.tops (head_word n.tops q t)).top ≡ t = ap (λ (p : HeadParts). p.top) (head_back n.tops q t small) in
    record {
      up = omega arith;
      words = record {
        stamped = each_head (λ i x. i < length n.kinds → (head_parts n.tops x).phase ≤ m Phase) m k (head_word n.tops q t) (λ lt. omega (arith, phase, below)) (λ i ne lt. w.stamped i lt);
        topped = each_head (λ i x. i < length n.kinds → IsNullOrOf n i (head_parts n.tops x).top) m k (head_word n.tops q t) (λ lt. subst (IsNullOrOf n k) (sym top_is) is) (λ i ne lt. w.topped i lt);
        linked = w.linked;
      };
      on = on;
    }

-- ---- sweeps

abbrev pub SweepOn : Sweep → Option SweepEnd → ℕ → Type 0
SweepOn sweep None phase = SweepBelow phase sweep.bound sweep.stage
SweepOn sweep (Some end) phase = Unit {0}

on_next : (n : Sizes) (phase : ℕ) (sweep : Sweep) (j : ℕ) → sweep.bound ≤ phase → SweepOn (sweep_on n sweep j).sweep (sweep_on n sweep j).ended phase
on_next n phase sweep j up = from_slot (λ turn. SweepOn turn.sweep turn.ended phase) n sweep j (λ more. up) tt

status_next : (n : Sizes) (phase : ℕ) (sweep : Sweep) (j : ℕ) (parts : Option StatusParts) → sweep.bound ≤ phase → SweepOn (status_read n sweep j parts).sweep (status_read n sweep j parts).ended phase
status_next n phase sweep j parts up = from_status (λ turn. SweepOn turn.sweep turn.ended phase) n sweep j parts (on_next n phase sweep j up) (λ p is below away. up)

hazard_on : (n : Sizes) (phase s d r : ℕ) → s ≤ phase → SweepBelow phase s (hazard_next n d r)
hazard_on n phase s d r up = of (nat_lt (r + 1) 8) (nat_lt (d + 1) n.callers) where
  of : (a b : Bool) → SweepBelow phase s (if a then sweeps.ReadHazard d (r + 1) else (if b then sweeps.ReadHazard (d + 1) 0 else sweeps.ReadStatus n.slots))
  of false true = up
  of _ _ = up

warn_on : (n : Sizes) (phase s d : ℕ) (scheme : Scheme) → s ≤ phase → SweepBelow phase s (warn_next n scheme d)
warn_on n phase s d scheme up = of (nat_lt (d + 1) n.callers) where
  all : (scheme : Scheme) → SweepBelow phase s (warned_all n scheme)
  all Warned = up
  all (Announced own) = up

  of : (b : Bool) → SweepBelow phase s (if b then sweeps.Warn (d + 1) else warned_all n scheme)
  of true = up
  of false = all scheme

pub sweep_within : (n : Sizes) (last : ℕ) (m : Word → ℕ) (sweep : Sweep) (stage : SweepStage) → AreKinds n → n.slots < n.tops → WordsWithin n m → SweepStores n stage → SweepBelow (m Phase) sweep.bound stage
    → Within n m (after_access m (sweep_wants_at n.tops sweep.scheme stage sweep.bound))
    (SweepOn (sweep_accepts_at n last sweep (m (word_of (sweep_wants_at n.tops sweep.scheme stage sweep.bound))) stage).sweep (sweep_accepts_at n last sweep (m (word_of (sweep_wants_at n.tops sweep.scheme stage sweep.bound))) stage).ended)
sweep_within n last m sweep sweeps.ReadPhase are most w fits below = within_same n m (store m Phase (m Phase)) _ (same_loaded m Phase) w (of (m Phase == last)) where
  of : (b : Bool) → SweepOn (if b then sweep_ends sweep (swept.PhasesOver (m Phase)) else sweep_goes sweep (sweeps.RaisePhase (m Phase))).sweep (if b then sweep_ends sweep (swept.PhasesOver (m Phase)) else sweep_goes sweep (sweeps.RaisePhase (m Phase))).ended (m Phase)
  of true = tt
  of false = omega arith
sweep_within n last m sweep (sweeps.RaisePhase p) are most w fits below = within_same n m (store m Phase (if m Phase == p then p + 1 else m Phase)) _ (same_raised m p) w (raised (m Phase) below) where
  raised : (phase : ℕ) → p ≤ phase → p + 1 ≤ (if phase == p then p + 1 else phase)
  raised phase le = grind (arith, nat_tests)
sweep_within n last m sweep (sweeps.Warn d) are most w fits below = of sweep.scheme where
  of : (scheme : Scheme) → Within n m (after_access m (warn_wanted scheme d sweep.bound)) (λ phase. SweepBelow phase sweep.bound (warn_next n scheme d))
  of Warned =
      within_same n m (store m (Warning d) (max (m (Warning d)) sweep.bound)) (λ phase. SweepBelow phase sweep.bound (warn_next n Warned d)) (same_written m (Warning d) (max (m (Warning d)) sweep.bound) refl) w
      (warn_on n (m Phase) sweep.bound d Warned below)
  of (Announced own) =
      within_same n m (store m (Warning d) (m (Warning d))) (λ phase. SweepBelow phase sweep.bound (warn_next n (Announced own) d)) (same_loaded m (Warning d)) w
      (warn_on n (m Phase) sweep.bound d (Announced own) below)
sweep_within n last m sweep (sweeps.ReadHazard d r) are most w fits below = within_same n m (store m (Hazard d r) (m (Hazard d r))) _ (same_loaded m (Hazard d r)) w (hazard_on n (m Phase) sweep.bound d r below)
sweep_within n last m sweep (sweeps.ReadStatus j) are most w fits below = within_same n m (store m (Status j) (m (Status j))) _ (same_loaded m (Status j)) w (status_next n (m Phase) sweep j (status_parts (m (Status j))) below)
sweep_within n last m sweep (sweeps.MakeReady j q) are most w fits below = of (m (Status j) == status_word q kinds.Retired) where
  of : (b : Bool) → Within n m (store m (Status j) (if b then status_word sweep.bound kinds.Ready else m (Status j)))
      (SweepOn (if b then sweep_goes sweep (sweeps.PushHead (kind_of n j) j) else sweep_on n sweep j).sweep (if b then sweep_goes sweep (sweeps.PushHead (kind_of n j) j) else sweep_on n sweep j).ended)
  of true = record { up = omega arith; words = record { stamped = w.stamped; topped = w.topped; linked = w.linked }; on = below }
  of false = within_same n m (store m (Status j) (m (Status j))) _ (same_loaded m (Status j)) w (on_next n (m Phase) sweep j below)
sweep_within n last m sweep (sweeps.PushHead k j) are most w fits below =
    within_same n m (store m (Head k) (m (Head k))) _ (same_loaded m (Head k)) w (below, w.stamped k (subst (λ (i : ℕ). i < length n.kinds) (sym fits) (kind_small n j are)))
sweep_within n last m sweep (sweeps.PushLink j q t) are most w fits below = record {
  up = omega arith;
  words = record {
    stamped = w.stamped;
    topped = w.topped;
    linked = λ i within. ⊎_elim
        (λ (z : i ≡ j). subst (λ (a : ℕ). IsNullOrOf n (kind_of n a) (store m (Link j) t (Link a))) (sym z) (subst (IsNullOrOf n (kind_of n j)) (sym (link_here m j t)) fits))
        (λ (ne : i ≢ j). subst (IsNullOrOf n (kind_of n i)) (sym (link_other m j t i ne)) (w.linked i within))
        (cases_eq i j);
  };
  on = below;
}
sweep_within n last m sweep (sweeps.PushTop k j q t) are most w fits below = of (m (Head k) == head_word n.tops q t) where
  of : (b : Bool) → Within n m (store m (Head k) (if b then head_word n.tops (max q sweep.bound) j else m (Head k)))
      (SweepOn (if b then sweep_on n sweep j else sweep_goes sweep (sweeps.PushHead (kind_of n j) j)).sweep (if b then sweep_on n sweep j else sweep_goes sweep (sweeps.PushHead (kind_of n j) j)).ended)
  of true = within_head n m k (max q sweep.bound) j _ most w (let s = below.0 in let p = below.1 in omega (arith, s, p)) (inr (fits.1.0, fits.1.1, sym fits.0)) (on_next n (m Phase) sweep j below.0)
  of false = within_same n m (store m (Head k) (m (Head k))) _ (same_loaded m (Head k)) w below.0

-- ---- claims

abbrev pub ClaimOn : Claim → Option ClaimEnd → ℕ → Type 0
ClaimOn claim None phase = ClaimBelow phase claim.sweep claim.stage
ClaimOn claim (Some end) phase = Unit {0}

look_ends : (phase : ℕ) (claim : Claim) → ClaimOn (look_ended claim).claim (look_ended claim).ended phase
look_ends phase claim = of (claim.sweeps == 2) where
  follows : (scheme : Scheme) (made : ℕ) → ClaimOn (sweep_follows scheme made claim).claim (sweep_follows scheme made claim).ended phase
  follows (Announced own) zero = tt
  follows _ _ = tt

  of : (b : Bool) → ClaimOn (if b then claim_ends claim ends.Full else sweep_follows claim.sweep.scheme claim.sweeps claim).claim (if b then claim_ends claim ends.Full else sweep_follows claim.sweep.scheme claim.sweeps claim).ended phase
  of true = tt
  of false = follows claim.sweep.scheme claim.sweeps

look_next : (phase : ℕ) (claim : Claim) (q t : ℕ) → q ≤ phase → ClaimOn (if t == 0 then look_ended claim else claim_goes claim (claims.ReadLink q t)).claim (if t == 0 then look_ended claim else claim_goes claim (claims.ReadLink q t)).ended phase
look_next phase claim q t below = of (t == 0) where
  of : (b : Bool) → ClaimOn (if b then look_ended claim else claim_goes claim (claims.ReadLink q t)).claim (if b then look_ended claim else claim_goes claim (claims.ReadLink q t)).ended phase
  of true = look_ends phase claim
  of false = below

pub claim_within : (n : Sizes) (last : ℕ) (m : Word → ℕ) (claim : Claim) (stage : ClaimStage) → claim.stage ≡ stage → AreKinds n → n.slots < n.tops → claim.kind < length n.kinds → WordsWithin n m → ClaimStores n claim.kind claim.sweep.stage stage
    → ClaimBelow (m Phase) claim.sweep stage → Within n m (after_access m (claim_wants_at n.tops claim.kind claim.sweep stage))
    (ClaimOn (claim_accepts_at n last claim (m (word_of (claim_wants_at n.tops claim.kind claim.sweep stage))) stage).claim (claim_accepts_at n last claim (m (word_of (claim_wants_at n.tops claim.kind claim.sweep stage))) stage).ended)
claim_within n last m claim claims.ReadHead is are most lt w fits below =
    within_same n m (store m (Head claim.kind) (m (Head claim.kind))) _ (same_loaded m (Head claim.kind)) w (look_next (m Phase) claim (stamp n.tops m claim.kind) (top n.tops m claim.kind) (w.stamped claim.kind lt))
claim_within n last m claim (claims.ReadLink q t) is are most lt w fits below = within_same n m (store m (Link t) (m (Link t))) _ (same_loaded m (Link t)) w below
claim_within n last m claim (claims.Take q t next) is are most lt w fits below = of (m (Head claim.kind) == head_word n.tops q t) where
  of : (b : Bool) → Within n m (store m (Head claim.kind) (if b then head_word n.tops q next else m (Head claim.kind)))
      (ClaimOn (if b then claim_goes claim (claims.StoreUsed q t) else claim_goes claim claims.ReadHead).claim (if b then claim_goes claim (claims.StoreUsed q t) else claim_goes claim claims.ReadHead).ended)
  of true = within_head n m claim.kind q next _ most w below fits below
  of false = within_same n m (store m (Head claim.kind) (m (Head claim.kind))) _ (same_loaded m (Head claim.kind)) w tt
claim_within n last m claim (claims.StoreUsed q t) is are most lt w fits below = record { up = omega arith; words = record { stamped = w.stamped; topped = w.topped; linked = w.linked }; on = tt }
claim_within n last m claim (claims.Withdraw own) is are most lt w fits below = within_same n m (store m (Warning own) 0) _ (same_written m (Warning own) 0 refl) w tt
claim_within n last m claim claims.Sweeps is are most lt w fits below =
    let a : WordAccess = sweep_wants_at n.tops claim.sweep.scheme claim.sweep.stage claim.sweep.bound in
    let turn = sweep_accepts_at n last claim.sweep (m (word_of a)) claim.sweep.stage in
    let k = sweep_within n last m claim.sweep claim.sweep.stage are most w fits below in
    record { up = k.up; words = k.words; on = goes_on (after_access m a Phase) turn.sweep turn.ended k.on }
  where
    goes_on : (phase : ℕ) (sweep : Sweep) (end : Option SweepEnd) → SweepOn sweep end phase → ClaimOn (sweep_ended claim sweep end).claim (sweep_ended claim sweep end).ended phase
    goes_on phase sweep None on = subst (λ (stage : ClaimStage). ClaimBelow phase sweep stage) (sym is) on
    goes_on phase sweep (Some swept.Swept) on = tt
    goes_on phase sweep (Some (swept.PhasesOver p)) on = tt

-- with the access that the claim wants, if its heads are those of the row
pub claim_keeps : (n : Sizes) (last : ℕ) (m : Word → ℕ) (claim : Claim) → claim.sweep.tops ≡ n.tops → AreKinds n → n.slots < n.tops → claim.kind < length n.kinds → WordsWithin n m
    → ClaimStores n claim.kind claim.sweep.stage claim.stage → ClaimBelow (m Phase) claim.sweep claim.stage
    → Within n m (after_access m (claim_wants claim))
    (ClaimOn (claim_accepts n last claim (m (word_of (claim_wants claim)))).claim (claim_accepts n last claim (m (word_of (claim_wants claim)))).ended)
claim_keeps n last m claim same are most lt w fits below = subst (λ (tops : ℕ). At tops) (sym same) (claim_within n last m claim claim.stage refl are most lt w fits below) where
  At : ℕ → Type 0
  At tops =
      let a = claim_wants_at tops claim.kind claim.sweep claim.stage in
      let turn = claim_accepts n last claim (m (word_of a)) in
      Within n m (after_access m a) (ClaimOn turn.claim turn.ended)

-- ---- the others, if the phase rises

pub sweep_up : (phase phase' s : ℕ) (stage : SweepStage) → phase ≤ phase' → SweepBelow phase s stage → SweepBelow phase' s stage
sweep_up phase phase' s sweeps.ReadPhase up w = tt
sweep_up phase phase' s (sweeps.PushLink j q t) up w = ((let a = w.0 in omega (arith, up, a)), (let b = w.1 in omega (arith, up, b)))
sweep_up phase phase' s (sweeps.PushTop k j q t) up w = ((let a = w.0 in omega (arith, up, a)), (let b = w.1 in omega (arith, up, b)))
sweep_up phase phase' s _ up w = omega (arith, up, w)

pub below_up : (phase phase' : ℕ) (standing : Standing) → phase ≤ phase' → Below phase standing → Below phase' standing
below_up phase phase' (Claims claim) up w = of claim.stage w where
  of : (stage : ClaimStage) → ClaimBelow phase claim.sweep stage → ClaimBelow phase' claim.sweep stage
  of claims.ReadHead w = tt
  of (claims.Withdraw own) w = tt
  of claims.Sweeps w = sweep_up phase phase' claim.sweep.bound claim.sweep.stage up w
  of _ w = omega (arith, up, w)
below_up phase phase' _ up w = tt

-- ---- runs

-- the link that a claim has loaded names a slot of its kind, or none
next_is : (n : Sizes) (m : Word → ℕ) (k v t next : ℕ) → AreKinds n → k < length n.kinds → LookFits (range_of n k) m v t next → IsNullOrOf n k next
next_is n m k v t next are lt w = ⊎_elim
    (λ (less : t < v). near_is n k v next are lt (w.2 less).0)
    (λ (ge : v ≤ t).
    let high = near_below (range_of n k) v t w.1.0 in
    let low = w.0 in
    subst (IsNullOrOf n k) (sym (w.3 (omega (arith, ge, high)))) (or_none_is n k (t + 1) are lt (omega (arith, low))))
    (cases_lt t v)

fits_stores : (n : Sizes) (m : Word → ℕ) (v : ℕ → ℕ) (claim : Claim) (stage : ClaimStage) → AreKinds n → claim.kind < length n.kinds → ClaimFits n claim.kind m v claim.sweep.stage stage → ClaimStores n claim.kind claim.sweep.stage stage
fits_stores n m v claim (claims.Take q t next) are lt fits = next_is n m claim.kind (v claim.kind) t next are lt fits
fits_stores n m v claim claims.Sweeps are lt fits = of claim.sweep.stage fits where
  of : (stage : SweepStage) → SweepFits n m v stage → SweepStores n stage
  of (sweeps.PushHead k j) fits = fits.1
  of (sweeps.PushLink j q t) fits = near_is n (kind_of n j) (v (kind_of n j)) t are (kind_small n j are) fits.1.0
  of (sweeps.PushTop k j q t) fits = (fits.1, range_is_within n (kind_of n j) j are (fits.0.0.0, fits.0.1))
  of _ fits = tt
fits_stores n m v claim _ are lt fits = tt

pub record StampsHold (n : Sizes) (start : Beginning) (state : OpenState) : Type 0 where
  pub open_holds : OpenHolds n start state
  pub words : WordsWithin n state.memory
  pub below : (c : ℕ) → Below (state.memory Phase) (state.who c)

claim_stands : (phase : ℕ) (claim : Claim) (end : Option ClaimEnd) → ClaimOn claim end phase → Below phase (claim_left claim end)
claim_stands phase claim None on = on
claim_stands phase claim (Some end) on = tt

retire_stands : (phase : ℕ) (left : Option Retirement) → Below phase (retirement_left left)
retire_stands phase None = tt
retire_stands phase (Some retirement) = tt

pub retire_within : (n : Sizes) (m : Word → ℕ) (j : ℕ) (stage : RetireStage) → WordsWithin n m → WordsWithin n (after_access m (retire_wants_at j stage)) × (m Phase ≤ after_access m (retire_wants_at j stage) Phase)
retire_within n m j retires.ReadPhase w = (words_same n m (store m Phase (m Phase)) (same_loaded m Phase) w, omega arith)
retire_within n m j (retires.StoreStatus p) w = (record { stamped = w.stamped; topped = w.topped; linked = w.linked }, omega arith)

-- what holds of words and of where callers stand
abbrev Both : Sizes → OpenState → Type 0
Both n state = WordsWithin n state.memory × ((c : ℕ) → Below (state.memory Phase) (state.who c))

module _ (n : Sizes) (last : ℕ) (start : Beginning) (are : AreKinds n) (most : n.slots < n.tops) where
  step_both : (state later : OpenState) (c : ℕ) (standing : Standing) → state.who c ≡ standing → StampsHold n start state → open_stepped n last state c standing ≡ Some later → Both n later
  step_both state later c Elsewhere at w is = absurd (let z : None ≡ Some later = is in cc)
  step_both state later c (Claims claim) at w is =
      let fits : Fits n state.memory state.frontier (Claims claim) = subst (λ (x : Standing). Fits n state.memory state.frontier x) at (w.open_holds.fits c) in
      let below : Below (state.memory Phase) (Claims claim) = subst (λ (x : Standing). Below (state.memory Phase) x) at (w.below c) in
      let k = claim_keeps n last state.memory claim fits.2 are most fits.0 w.words (fits_stores n state.memory state.frontier claim claim.stage are fits.0 fits.1) below in
      let turn = claim_accepts n last claim (state.memory (word_of (claim_wants claim))) in
      let m' : Word → ℕ = after_access state.memory (claim_wants claim) in
      subst (λ (x : OpenState). Both n x)
      (some_state (record { memory = m'; frontier = frontier_at n.tops claim.kind claim.stage state.memory state.frontier; claims = claims_at n.tops claim.kind claim.stage state.memory state.claims; who = put state.who c (claim_left turn.claim turn.ended) }) later is)
      (k.words, each_put (λ d (x : Standing). Below (m' Phase) x) state.who c (claim_left turn.claim turn.ended) (claim_stands (m' Phase) turn.claim turn.ended k.on) (λ d ne. below_up (state.memory Phase) (m' Phase) (state.who d) k.up (w.below d)))
  step_both state later c (Retires retirement) at w is =
      let m' : Word → ℕ = after_access state.memory (retire_wants retirement) in
      let left = retire_accepts retirement (state.memory (word_of (retire_wants retirement))) in
      let k = retire_within n state.memory retirement.slot retirement.stage w.words in
      subst (λ (x : OpenState). Both n x) (some_state (record { memory = m'; frontier = state.frontier; claims = state.claims; who = put state.who c (retirement_left left) }) later is)
      (k.0, each_put (λ d (x : Standing). Below (m' Phase) x) state.who c (retirement_left left) (retire_stands (m' Phase) left) (λ d ne. below_up (state.memory Phase) (m' Phase) (state.who d) k.1 (w.below d)))

  event_both : (state later : OpenState) (event : PoolEvent) → StampsHold n start state → open_event n last state event ≡ Some later → Both n later
  event_both state later (BeginsClaim c k scheme) w is =
      let begin : OpenState = record state { who = put state.who c (Claims (claim_begun n k scheme)) } in
      let test = tested (nat_lt k (length n.kinds)) (open_begins (state.who c) begin) later is in
      subst (λ (x : OpenState). Both n x) (begun (state.who c) begin later test.1)
      (w.words, each_put (λ d (x : Standing). Below (state.memory Phase) x) state.who c (Claims (claim_begun n k scheme)) tt (λ d ne. w.below d))
  event_both state later (BeginsRetirement c j) w is =
      let begin : OpenState = record state { who = put state.who c (Retires (retire_begun j)) } in
      let test = tested (nat_lt j (state.frontier (kind_of n j))) (open_begins (state.who c) begin) later is in
      subst (λ (x : OpenState). Both n x) (begun (state.who c) begin later test.1) (w.words, each_put (λ d (x : Standing). Below (state.memory Phase) x) state.who c (Retires (retire_begun j)) tt (λ d ne. w.below d))
  event_both state later (Steps c) w is = step_both state later c (state.who c) refl w is
  event_both state later (Writes word x) w is =
      let test = tested (is_other word) (Some (record state { memory = store state.memory word x })) later is in
      let same = same_written state.memory word x test.0 in
      subst (λ (y : OpenState). Both n y) (some_state (record state { memory = store state.memory word x }) later test.1)
      (words_same n state.memory (store state.memory word x) same w.words, (λ d. below_up (state.memory Phase) (store state.memory word x Phase) (state.who d) same.phase (w.below d)))

run_both : (n : Sizes) (last : ℕ) (start : Beginning) (events : List PoolEvent) (state later : OpenState) → AreKinds n → n.slots < n.tops → StampsHold n start state → open_run n last events state ≡ Some later → StampsHold n start later
run_both n last start [] state later are most w is = subst (λ (x : OpenState). StampsHold n start x) (some_state state later is) w
run_both n last start (event ∷ events) state later are most w is =
    let parts = split (open_event n last state event) (open_run n last events) later is in
    let next = event_both n last start are most state parts.0 event w parts.1 in
    run_both n last start events parts.0 later are most (record { open_holds = event_open n last start are most state parts.0 event w.open_holds parts.1; words = next.0; below = next.1 }) parts.2

-- a link at the start names a slot of the kind, or none
pub link_within : (n : Sizes) (start : Beginning) (j : ℕ) → AreKinds n → IsNullOrOf n (kind_of n j) (link_at_start n start j)
link_within n start j are = of (nat_lt j (first_ready (range_at n j) (nodes_of start (kind_of n j)))) refl where
  of : (b : Bool) → nat_lt j (first_ready (range_at n j) (nodes_of start (kind_of n j))) ≡ b → IsNullOrOf n (kind_of n j) (if b then 0 else slot_after (range_at n j) j)
  of true is = inl refl
  of false is = or_none_is n (kind_of n j) (j + 1) are (kind_small n j are) (let ge : first_ready (range_at n j) (nodes_of start (kind_of n j)) ≤ j = grind (arith, nat_tests) in omega (arith, ge))

-- and so does a top
pub top_within : (n : Sizes) (start : Beginning) (k : ℕ) → AreKinds n → k < length n.kinds → IsNullOrOf n k (start_top (range_of n k) (nodes_of start k))
top_within n start k are lt = or_none_is n k (first_ready (range_of n k) (nodes_of start k)) are lt (omega arith)

pub start_within : (n : Sizes) (start : Beginning) (memory : Word → ℕ) → AreKinds n → n.slots < n.tops → StartsAs n start memory → WordsWithin n memory
start_within n start memory are most starts = record {
  stamped = λ k lt. (let phase : memory Phase ≡ start.first = starts Phase refl in let is = (parts k lt).0 in omega (arith, is, phase));
  topped = λ k lt. subst (IsNullOrOf n k) (sym (parts k lt).1) (top_within n start k are lt);
  linked = λ j within. subst (IsNullOrOf n (kind_of n j)) (sym (starts (Link j) (row_has n.slots j within))) (link_within n start j are);
} where
  parts : (k : ℕ) → k < length n.kinds → (stamp n.tops memory k ≡ start.first) × (top n.tops memory k ≡ start_top (range_of n k) (nodes_of start k))
  parts k lt = tells n.tops memory k start.first (start_top (range_of n k) (nodes_of start k)) (starts (Head k) (row_heads (length n.kinds) k lt))
      (slot_small n.tops (range_of n k) (first_ready (range_of n k) (nodes_of start k)) (let last = last_within n k are in omega (arith, last, most)))

pub words_stay_within : OfAll WordsStayWithin
words_stay_within n last start are most fit memory starts events state is =
    (run_both n last start events (open_start n start memory) state are most (record { open_holds = start_open n start memory are most fit starts; words = start_within n start memory are most starts; below = λ c. tt }) is).words
