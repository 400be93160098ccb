-- Claims of each kind take slots that were never claimed in ascending order.
use Rattle.std.proofs.Common.{ℕ, zero, ◌≡◌, ◌≢◌, ◌==◌, ◌+◌, ◌≤◌, ◌<◌, ◌∙◌, Bool, true, false, List, [], ◌∷◌, length, Option, Some, None, arith, inl, inr, ⊎_elim, sym, ap, subst, refl, max, if◌then◌else◌}
use Rattle.std.specs.Prelude.{nat_lt}
use Rattle.std.proofs.lemmas.Bool.{cases_eq, cases_lt}
use Rattle.std.proofs.lemmas.Bool.Decides.{nat_tests}
use Rattle.oa_words.specs.declared.packed.Kind.TheVariants as kinds
use Rattle.oa_words.specs.Words.{Word, Phase, Warning, Hazard, Status, Head, Link, Sizes, SlotRange, IsSlot}
use Rattle.oa_words.specs.SlotKinds.{range_of, kind_of, range_at}
use Rattle.oa_words.specs.Within.{AreKinds}
use Rattle.oa_words.specs.Packed.{StatusParts, status_word, status_parts, HeadParts, head_word, head_parts}
use Rattle.oa_words.proofs.Parts.{head_back}
use Rattle.oa_words.specs.Starts.{Beginning, nodes_of, first_ready, slot_after, start_kind, start_link, start_top, start_word}
use Rattle.oa_words.proofs.KindRanges.{part_within, kind_small, in_range_is_of_kind, of_kind_is_in_range}
use Rattle.phase_pools.specs.declared.access.ClaimEnd.{ClaimEnd}
use Rattle.phase_pools.specs.declared.access.ClaimEnd.TheVariants as ends
use Rattle.phase_pools.specs.declared.access.SweepEnd.{SweepEnd}
use Rattle.phase_pools.specs.declared.access.SweepEnd.TheVariants as swept
use Rattle.phase_pools.specs.declared.stages.Scheme.{Scheme}
use Rattle.phase_pools.specs.declared.stages.Scheme.TheVariants.{Warned, Announced}
use Rattle.phase_pools.specs.declared.stages.SweepStage.{SweepStage}
use Rattle.phase_pools.specs.declared.stages.SweepStage.TheVariants as sweeps
use Rattle.phase_pools.specs.declared.stages.ClaimStage.{ClaimStage}
use Rattle.phase_pools.specs.declared.stages.ClaimStage.TheVariants as claims
use Rattle.phase_pools.specs.declared.stages.RetireStage.{RetireStage}
use Rattle.phase_pools.specs.declared.stages.RetireStage.TheVariants as retires
use Rattle.phase_pools.specs.Accesses.{WordAccess, word_of}
use Rattle.phase_pools.specs.Pools.{Sweep, warn_wanted, low_after, sweep_wants_at, sweep_accepts_at, sweep_goes, sweep_ends, sweep_on, phase_read, phase_raised, warned_all, warn_next, hazard_next, hazard_read, status_read, Claim, claim_begun, claim_wants, claim_accepts, claim_wants_at, claim_accepts_at, claim_goes, claim_ends, sweep_follows, look_ended, look_begun, sweep_started, sweep_ended, retire_begun, retire_wants, retire_accepts, retire_wants_at, retire_accepts_at}
use Rattle.phase_pools.proofs.Keeping.{claim_stays}
use Rattle.phase_pools.proofs.Statuses.{from_slot, from_status}
use Rattle.oa_words.specs.Memories.{store}
use Rattle.chain_laws.specs.Memories.{put, after_access}
use Rattle.chain_laws.specs.Chains.{top}
use Rattle.chain_laws.specs.Machine.{Standing, Elsewhere, Claims, Retires, slot_of, PoolEvent, BeginsClaim, BeginsRetirement, Steps, Writes, is_other, claim_left, retirement_left}
use Rattle.chain_laws.specs.Standing.{slot_of_sweep, slot_of_claim}
use Rattle.chain_laws.specs.Laws.{NodesFit, StartsAs, OfAll}
use Rattle.chain_laws.specs.claim_order.Frontier.{OpenState, frontier_at, claims_at, open_begins, open_stepped, open_event, open_on, open_run, open_start, IsNear, IsPast, IsGood, IsOrdered, AreOrdered, WasClaimed, SweepFits, LookFits, ClaimFits, Fits, OpenHolds, ClaimsStayOrdered}
use Rattle.chain_laws.proofs.Lists.{each_put, put_same}
use Rattle.chain_laws.proofs.Changes.{link_other, link_here, status_other, each_head, Same, tells}
use Rattle.chain_laws.proofs.Same.{same_loaded, same_written, same_raised}
use Rattle.chain_laws.proofs.Routines.{kinds_apart}
use Rattle.chain_laws.proofs.Start.{row_has, row_heads, last_within, slot_small, link_after, ready_start}
use Rattle.chain_laws.proofs.claim_order.Ranges.{near_below, near_inside, near_none, near_some, near_past, Stays, good_stays, past_slot, ordered_with, top_kept, good_from, good_after, ordered_on, Moves, past_later, near_later, good_later, look_later}

-- ---- the words of all kinds

-- in each kind, links that name none past its frontier go on so
abbrev pub AllStay : Sizes → (ℕ → ℕ) → (Word → ℕ) → (Word → ℕ) → Type 0
AllStay n v m m' = (k : ℕ) → k < length n.kinds → Stays (range_of n k) (v k) m m'

-- what a step keeps that moves no frontier
abbrev pub Kept : Sizes → (ℕ → ℕ) → ℕ → (Word → ℕ) → (Word → ℕ) → (ℕ → ℕ) → Type 0
Kept n nodes first m m' v = AreOrdered n nodes first m' v × AllStay n v m m'

-- kind by kind
kept_each : (n : Sizes) (nodes : ℕ → ℕ) (first : ℕ) (m m' : Word → ℕ) (v : ℕ → ℕ) → ((k : ℕ) → k < length n.kinds → IsOrdered n.tops (range_of n k) k (nodes k) first m' (v k) × Stays (range_of n k) (v k) m m') → Kept n nodes first m m' v
kept_each n nodes first m m' v each = ((λ k lt. (each k lt).0), (λ k lt. (each k lt).1))

pub ordered_same : (n : Sizes) (nodes : ℕ → ℕ) (first : ℕ) (m m' : Word → ℕ) (v : ℕ → ℕ) → Same m m' → AreOrdered n nodes first m v → Kept n nodes first m m' v
ordered_same n nodes first m m' v same o = kept_each n nodes first m m' v
    (λ k lt. ordered_with n.tops (range_of n k) k (nodes k) first m m' (v k) (o k lt) (top_kept n.tops (range_of n k) k (nodes k) first m m' (v k) (same.head k) (o k lt)) (λ j slot. inl (same.link j)) (λ j slot. inl (same.status j)))

-- a status below the frontier of the slot's kind changes
ordered_status : (n : Sizes) (nodes : ℕ → ℕ) (first : ℕ) (m : Word → ℕ) (v : ℕ → ℕ) (i x : ℕ) → i < v (kind_of n i) → AreOrdered n nodes first m v → Kept n nodes first m (store m (Status i) x) v
ordered_status n nodes first m v i x low o = kept_each n nodes first m (store m (Status i) x) v
    (λ k lt. ordered_with n.tops (range_of n k) k (nodes k) first m (store m (Status i) x) (v k) (o k lt) (o k lt).top_good (λ j slot. inl refl)
    (λ j slot. ⊎_elim
    (λ (z : j ≡ i). inr (let is : kind_of n i ≡ k = ap (kind_of n) (sym z) ∙ in_range_is_of_kind n k j lt slot in let less : i < v k = subst (λ (a : ℕ). i < v a) is low in omega (arith, z, less)))
    (λ (ne : j ≢ i). inl (status_other m i x j ne))
    (cases_eq j i)))

-- a good link is stored, of a slot that was claimed
ordered_link : (n : Sizes) (nodes : ℕ → ℕ) (first : ℕ) (m : Word → ℕ) (v : ℕ → ℕ) (i x : ℕ) → IsPast (range_at n i) (v (kind_of n i)) i → IsGood (range_at n i) m (v (kind_of n i)) x → AreOrdered n nodes first m v
    → Kept n nodes first m (store m (Link i) x) v
ordered_link n nodes first m v i x past good o = kept_each n nodes first m (store m (Link i) x) v
    (λ k lt. ordered_with n.tops (range_of n k) k (nodes k) first m (store m (Link i) x) (v k) (o k lt) (o k lt).top_good
    (λ j slot. ⊎_elim (λ (z : j ≡ i). inr (stored k j z (ap (kind_of n) (sym z) ∙ in_range_is_of_kind n k j lt slot))) (λ (ne : j ≢ i). inl (link_other m i x j ne)) (cases_eq j i))
    (λ j slot. inl refl))
  where
    stored : (k j : ℕ) → j ≡ i → kind_of n i ≡ k → IsPast (range_of n k) (v k) j × IsGood (range_of n k) m (v k) (store m (Link i) x (Link j))
    stored k j z is =
        subst (λ (a : ℕ). IsPast (range_of n k) (v k) a × IsGood (range_of n k) m (v k) (store m (Link i) x (Link a))) (sym z)
        (subst (λ (a : ℕ). IsPast (range_of n a) (v a) i × IsGood (range_of n a) m (v a) (store m (Link i) x (Link i))) is
        (past, subst (λ (y : ℕ). IsGood (range_at n i) m (v (kind_of n i)) y) (sym (link_here m i x)) good))

-- a good slot is put on top of a kind's chain
ordered_top : (n : Sizes) (nodes : ℕ → ℕ) (first : ℕ) (m : Word → ℕ) (v : ℕ → ℕ) (k q t : ℕ) → AreKinds n → n.slots < n.tops → IsGood (range_of n k) m (v k) t → AreOrdered n nodes first m v
    → Kept n nodes first m (store m (Head k) (head_word n.tops q t)) v
ordered_top n nodes first m v k q t are most good o = kept_each n nodes first m (store m (Head k) (head_word n.tops q t)) v
    (λ i lt. ordered_with n.tops (range_of n i) i (nodes i) first m (store m (Head k) (head_word n.tops q t)) (v i) (o i lt)
    (each_head (λ a w. a < length n.kinds → IsGood (range_of n a) m (v a) (head_parts n.tops w).top) m k (head_word n.tops q t)
    (λ less. subst (λ (x : ℕ). IsGood (range_of n k) m (v k) x) (sym top_is) good) (λ a ne less. (o a less).top_good) i lt)
    (λ j slot. inl refl) (λ j slot. inl refl))
  where
    top_is : (head_parts n.tops (head_word n.tops q t)).top ≡ t
    top_is = let inside = near_inside (range_of n k) (v k) t good.0 in let last = last_within n k are in ap (λ (p : HeadParts). p.top) (head_back n.tops q t (omega (arith, inside, last, most)))

-- the frontier of a kind moves on
ordered_next : (n : Sizes) (nodes : ℕ → ℕ) (first : ℕ) (m : Word → ℕ) (v : ℕ → ℕ) (k : ℕ) → v k ≤ (range_of n k).last → AreOrdered n nodes first m v → AreOrdered n nodes first m (put v k (v k + 1))
ordered_next n nodes first m v k le o = each_put (λ i x. i < length n.kinds → IsOrdered n.tops (range_of n i) i (nodes i) first m x) v k (v k + 1)
    (λ lt. ordered_on n.tops (range_of n k) k (nodes k) first m (v k) le (o k lt)) (λ i ne lt. o i lt)

-- a slot that was claimed from a kind's chain is of the kind
pub past_kind : (n : Sizes) (nodes : ℕ → ℕ) (first : ℕ) (m : Word → ℕ) (v : ℕ → ℕ) (k t : ℕ) → k < length n.kinds → AreOrdered n nodes first m v → IsPast (range_of n k) (v k) t → kind_of n t ≡ k
past_kind n nodes first m v k t lt o past = in_range_is_of_kind n k t lt (past_slot n.tops (range_of n k) k (nodes k) first m (v k) t (o k lt) past)

-- and so it is below the frontier of its own
past_below : (n : Sizes) (nodes : ℕ → ℕ) (first : ℕ) (m : Word → ℕ) (v : ℕ → ℕ) (k t : ℕ) → k < length n.kinds → AreOrdered n nodes first m v → IsPast (range_of n k) (v k) t → t < v (kind_of n t)
past_below n nodes first m v k t lt o past = subst (λ (a : ℕ). t < v a) (sym (past_kind n nodes first m v k t lt o past)) past.1

-- ---- callers, if frontiers stay or move on

abbrev pub AllMove : Sizes → (Word → ℕ) → (Word → ℕ) → (ℕ → ℕ) → (ℕ → ℕ) → Type 0
AllMove n m m' v v' = (k : ℕ) → k < length n.kinds → Moves (range_of n k) m m' (v k) (v' k)

pub all_stay : (n : Sizes) (m m' : Word → ℕ) (v : ℕ → ℕ) → AllStay n v m m' → AllMove n m m' v v
all_stay n m m' v stay k lt = inl (refl, stay k lt)

module _ (n : Sizes) (nodes : ℕ → ℕ) (first : ℕ) (m m' : Word → ℕ) (v v' : ℕ → ℕ) (are : AreKinds n) (o : AreOrdered n nodes first m v) (moves : AllMove n m m' v v') where
  claimed_later : (j : ℕ) → WasClaimed n v j → WasClaimed n v' j
  claimed_later j w =
      let k : ℕ = kind_of n j in
      let lt = kind_small n j are in
      (past_later n.tops (range_at n j) k (nodes k) first m m' (v k) (v' k) (o k lt) j (moves k lt) w.0, w.1)

  sweep_later : (stage : SweepStage) → SweepFits n m v stage → SweepFits n m' v' stage
  sweep_later (sweeps.ReadStatus j) w = w
  sweep_later (sweeps.MakeReady j q) w = w
  sweep_later (sweeps.PushHead k j) w = (claimed_later j w.0, w.1)
  sweep_later (sweeps.PushLink j q t) w =
      let k : ℕ = kind_of n j in
      let lt = kind_small n j are in
      (claimed_later j w.0, good_later n.tops (range_at n j) k (nodes k) first m m' (v k) (v' k) (o k lt) t (moves k lt) w.1)
  sweep_later (sweeps.PushTop i j q t) w =
      let k : ℕ = kind_of n j in
      let lt = kind_small n j are in
      (claimed_later j w.0, w.1, near_later n.tops (range_at n j) k (nodes k) first m m' (v k) (v' k) (o k lt) j (moves k lt) (w.0.0.0, w.0.1) w.2)
  sweep_later _ w = tt

  claim_later : (k : ℕ) (sweep : SweepStage) (stage : ClaimStage) → k < length n.kinds → ClaimFits n k m v sweep stage → ClaimFits n k m' v' sweep stage
  claim_later k sweep claims.ReadHead lt w = tt
  claim_later k sweep (claims.ReadLink q t) lt w = (w.0, good_later n.tops (range_of n k) k (nodes k) first m m' (v k) (v' k) (o k lt) t (moves k lt) w.1)
  claim_later k sweep (claims.Take q t next) lt w = look_later n.tops (range_of n k) k (nodes k) first m m' (v k) (v' k) (o k lt) t next (moves k lt) w
  claim_later k sweep (claims.StoreUsed q t) lt w = past_later n.tops (range_of n k) k (nodes k) first m m' (v k) (v' k) (o k lt) t (moves k lt) w
  claim_later k sweep (claims.Withdraw own) lt w = tt
  claim_later k sweep claims.Sweeps lt w = sweep_later sweep w

  -- a frontier doesn't fall
  frontier_up : (k : ℕ) → k < length n.kinds → v k ≤ v' k
  frontier_up k lt = ⊎_elim
      (λ (same : (v' k ≡ v k) × Stays (range_of n k) (v k) m m'). let is = same.0 in omega (arith, is))
      (λ (one : (v' k ≡ v k + 1) × (v k ≤ (range_of n k).last) × ((w : ℕ) → m' (Link w) ≡ m (Link w))). let is = one.0 in omega (arith, is))
      (moves k lt)

  pub fits_later : (standing : Standing) → Fits n m v standing → Fits n m' v' standing
  fits_later Elsewhere w = tt
  fits_later (Claims claim) w = (w.0, claim_later claim.kind claim.sweep.stage claim.stage w.0 w.1, w.2)
  fits_later (Retires retirement) w = let up = frontier_up (kind_of n retirement.slot) (kind_small n retirement.slot are) in omega (arith, up, w)

-- ---- sweeps

abbrev SweepOn : Sizes → (Word → ℕ) → (ℕ → ℕ) → Sweep → Option SweepEnd → Type 0
SweepOn n m v sweep None = SweepFits n m v sweep.stage
SweepOn n m v sweep (Some end) = Unit {0}

on_next : (n : Sizes) (m : Word → ℕ) (v : ℕ → ℕ) (sweep : Sweep) (j : ℕ) → j ≤ n.slots → SweepOn n m v (sweep_on n sweep j).sweep (sweep_on n sweep j).ended
on_next n m v sweep j le = from_slot (λ turn. SweepOn n m v turn.sweep turn.ended) n sweep j (λ more. (omega (arith, more), omega (arith, le))) tt

status_next : (n : Sizes) (m : Word → ℕ) (v : ℕ → ℕ) (sweep : Sweep) (j : ℕ) (parts : Option StatusParts) → 1 ≤ j → j ≤ n.slots → SweepOn n m v (status_read n sweep j parts).sweep (status_read n sweep j parts).ended
status_next n m v sweep j parts some le = from_status (λ turn. SweepOn n m v turn.sweep turn.ended) n sweep j parts (on_next n m v sweep j le) (λ p is below away. (some, le))

-- there is a slot
some_slots : (n : Sizes) → AreKinds n → 1 ≤ n.slots
some_slots n are = let one = are.each 0 are.some in let part = part_within n.kinds 0 in let whole = are.whole in omega (arith, one, part, whole)

hazard_on : (n : Sizes) (m : Word → ℕ) (v : ℕ → ℕ) (d r : ℕ) → AreKinds n → SweepFits n m v (hazard_next n d r)
hazard_on n m v d r are = of (nat_lt (r + 1) 8) (nat_lt (d + 1) n.callers) where
  of : (a b : Bool) → SweepFits n m v (if a then sweeps.ReadHazard d (r + 1) else (if b then sweeps.ReadHazard (d + 1) 0 else sweeps.ReadStatus n.slots))
  of false false = (some_slots n are, omega arith)
  of _ _ = tt

warn_on : (n : Sizes) (m : Word → ℕ) (v : ℕ → ℕ) (d : ℕ) (scheme : Scheme) → AreKinds n → SweepFits n m v (warn_next n scheme d)
warn_on n m v d scheme are = of (nat_lt (d + 1) n.callers) where
  all : (scheme : Scheme) → SweepFits n m v (warned_all n scheme)
  all Warned = tt
  all (Announced own) = (some_slots n are, omega arith)

  of : (b : Bool) → SweepFits n m v (if b then sweeps.Warn (d + 1) else warned_all n scheme)
  of true = tt
  of false = all scheme

-- what is retired was claimed
past_retired : (n : Sizes) (nodes : ℕ → ℕ) (first : ℕ) (m : Word → ℕ) (v : ℕ → ℕ) (j q : ℕ) → AreKinds n → AreOrdered n nodes first m v → 1 ≤ j → j ≤ n.slots → m (Status j) ≡ status_word q kinds.Retired → WasClaimed n v j
past_retired n nodes first m v j q are o some le is =
    let slot = of_kind_is_in_range n j are some le in (
      (
        slot.0,
        ⊎_elim
            (λ (lt : j < v (kind_of n j)). lt)
            (λ (ge : v (kind_of n j) ≤ j). kinds_apart _ q first kinds.Retired kinds.Ready (m (Status j)) (λ e. cc) is ((o (kind_of n j) (kind_small n j are)).status_first j ge slot.1))
            (cases_lt j (v (kind_of n j))),
      ),
      slot.1,
    )

pub record SweepOpened (n : Sizes) (nodes : ℕ → ℕ) (first : ℕ) (m m' : Word → ℕ) (v : ℕ → ℕ) (sweep : Sweep) (end : Option SweepEnd) : Type 0 where
  pub words : AreOrdered n nodes first m' v
  pub stay : AllStay n v m m'
  pub on : SweepOn n m' v sweep end

opened : (n : Sizes) (nodes : ℕ → ℕ) (first : ℕ) (m m' : Word → ℕ) (v : ℕ → ℕ) (sweep : Sweep) (end : Option SweepEnd) → Kept n nodes first m m' v → SweepOn n m' v sweep end → SweepOpened n nodes first m m' v sweep end
opened n nodes first m m' v sweep end k on = record { words = k.0; stay = k.1; on = on }

pub sweep_open : (n : Sizes) (last : ℕ) (nodes : ℕ → ℕ) (first : ℕ) (m : Word → ℕ) (v : ℕ → ℕ) (sweep : Sweep) (stage : SweepStage) → AreKinds n → n.slots < n.tops → AreOrdered n nodes first m v → SweepFits n m v stage
    → SweepOpened n nodes first m (after_access m (sweep_wants_at n.tops sweep.scheme stage sweep.bound)) v
    (sweep_accepts_at n last sweep (m (word_of (sweep_wants_at n.tops sweep.scheme stage sweep.bound))) stage).sweep (sweep_accepts_at n last sweep (m (word_of (sweep_wants_at n.tops sweep.scheme stage sweep.bound))) stage).ended
sweep_open n last nodes first m v sweep sweeps.ReadPhase are most o w = opened n nodes first m (store m Phase (m Phase)) v (phase_read last sweep (m Phase)).sweep (phase_read last sweep (m Phase)).ended
    (ordered_same n nodes first m (store m Phase (m Phase)) v (same_loaded m Phase) o) (of (m Phase == last))
  where
    of : (b : Bool) → SweepOn n (store m Phase (m Phase)) v (if b then sweep_ends sweep (swept.PhasesOver (m Phase)) else sweep_goes sweep (sweeps.RaisePhase (m Phase))).sweep
        (if b then sweep_ends sweep (swept.PhasesOver (m Phase)) else sweep_goes sweep (sweeps.RaisePhase (m Phase))).ended
    of true = tt
    of false = tt
sweep_open n last nodes first m v sweep (sweeps.RaisePhase p) are most o w =
    let m' : Word → ℕ = store m Phase (if m Phase == p then p + 1 else m Phase) in
    opened n nodes first m m' v (phase_raised sweep p).sweep None (ordered_same n nodes first m m' v (same_raised m p) o) tt
sweep_open n last nodes first m v sweep (sweeps.Warn d) are most o w = of sweep.scheme where
  of : (scheme : Scheme) → SweepOpened n nodes first m (after_access m (warn_wanted scheme d sweep.bound)) v
      (record sweep { low = low_after scheme sweep.low (m (word_of (warn_wanted scheme d sweep.bound))); stage = warn_next n scheme d }) None
  of Warned =
      let m' : Word → ℕ = store m (Warning d) (max (m (Warning d)) sweep.bound) in
      opened n nodes first m m' v (record sweep { stage = warn_next n Warned d }) None (ordered_same n nodes first m m' v (same_written m (Warning d) (max (m (Warning d)) sweep.bound) refl) o) (warn_on n m' v d Warned are)
  of (Announced own) =
      let m' : Word → ℕ = store m (Warning d) (m (Warning d)) in
      opened n nodes first m m' v (record sweep { low = low_after (Announced own) sweep.low (m (Warning d)); stage = warn_next n (Announced own) d }) None
      (ordered_same n nodes first m m' v (same_loaded m (Warning d)) o) (warn_on n m' v d (Announced own) are)
sweep_open n last nodes first m v sweep (sweeps.ReadHazard d r) are most o w =
    let m' : Word → ℕ = store m (Hazard d r) (m (Hazard d r)) in
    opened n nodes first m m' v (hazard_read n sweep d r (m (Hazard d r))).sweep None (ordered_same n nodes first m m' v (same_loaded m (Hazard d r)) o) (hazard_on n m' v d r are)
sweep_open n last nodes first m v sweep (sweeps.ReadStatus j) are most o w =
    let m' : Word → ℕ = store m (Status j) (m (Status j)) in
    opened n nodes first m m' v (status_read n sweep j (status_parts (m (Status j)))).sweep (status_read n sweep j (status_parts (m (Status j)))).ended
    (ordered_same n nodes first m m' v (same_loaded m (Status j)) o) (status_next n m' v sweep j (status_parts (m (Status j))) w.0 w.1)
sweep_open n last nodes first m v sweep (sweeps.MakeReady j q) are most o w = of (m (Status j) == status_word q kinds.Retired) refl where
  of : (b : Bool) → (m (Status j) == status_word q kinds.Retired) ≡ b → SweepOpened n nodes first m (store m (Status j) (if b then status_word sweep.bound kinds.Ready else m (Status j))) v
      (if b then sweep_goes sweep (sweeps.PushHead (kind_of n j) j) else sweep_on n sweep j).sweep (if b then sweep_goes sweep (sweeps.PushHead (kind_of n j) j) else sweep_on n sweep j).ended
  of true is =
      let past = past_retired n nodes first m v j q are o w.0 w.1 (grind (arith, nat_tests)) in
      opened n nodes first m (store m (Status j) (status_word sweep.bound kinds.Ready)) v (record sweep { stage = sweeps.PushHead (kind_of n j) j }) None
      (ordered_status n nodes first m v j (status_word sweep.bound kinds.Ready) past.0.1 o) (past, refl)
  of false is = opened n nodes first m (store m (Status j) (m (Status j))) v (sweep_on n sweep j).sweep (sweep_on n sweep j).ended (ordered_same n nodes first m (store m (Status j) (m (Status j))) v (same_loaded m (Status j)) o)
      (on_next n (store m (Status j) (m (Status j))) v sweep j w.1)
sweep_open n last nodes first m v sweep (sweeps.PushHead i j) are most o w =
    let m' : Word → ℕ = store m (Head i) (m (Head i)) in
    let k = ordered_same n nodes first m m' v (same_loaded m (Head i)) o in
    opened n nodes first m m' v (record sweep { stage = sweeps.PushLink j (head_parts n.tops (m (Head i))).phase (top n.tops m i) }) None k (w.0, loaded i w.1 k.1)
  where
    -- the top that was loaded is good, of the slot's kind
    loaded : (i : ℕ) → i ≡ kind_of n j → AllStay n v m (store m (Head i) (m (Head i))) → IsGood (range_at n j) (store m (Head i) (m (Head i))) (v (kind_of n j)) (top n.tops m i)
    loaded i is stay =
        let lt = kind_small n j are in
        good_stays (range_at n j) (v (kind_of n j)) m (store m (Head i) (m (Head i))) (top n.tops m i) (stay (kind_of n j) lt)
        (subst (λ (a : ℕ). IsGood (range_at n j) m (v (kind_of n j)) (top n.tops m a)) (sym is) (o (kind_of n j) lt).top_good)
sweep_open n last nodes first m v sweep (sweeps.PushLink j q t) are most o w =
    opened n nodes first m (store m (Link j) t) v (record sweep { stage = sweeps.PushTop (kind_of n j) j q t }) None (ordered_link n nodes first m v j t w.0.0 w.1 o)
    (w.0, refl, subst (λ (x : ℕ). IsNear (range_at n j) (v (kind_of n j)) x) (sym (link_here m j t)) w.1.0)
sweep_open n last nodes first m v sweep (sweeps.PushTop i j q t) are most o w = of (m (Head i) == head_word n.tops q t) where
  of : (b : Bool) → SweepOpened n nodes first m (store m (Head i) (if b then head_word n.tops (max q sweep.bound) j else m (Head i))) v
      (if b then sweep_on n sweep j else sweep_goes sweep (sweeps.PushHead (kind_of n j) j)).sweep (if b then sweep_on n sweep j else sweep_goes sweep (sweeps.PushHead (kind_of n j) j)).ended
  of true = opened n nodes first m (store m (Head i) (head_word n.tops (max q sweep.bound) j)) v (sweep_on n sweep j).sweep (sweep_on n sweep j).ended
      (ordered_top n nodes first m v i (max q sweep.bound) j are most
      (subst (λ (a : ℕ). IsGood (range_of n a) m (v a) j) (sym w.1) (near_past (range_at n j) (v (kind_of n j)) j w.0.0 w.0.1, (λ past. w.2))) o)
      (on_next n (store m (Head i) (head_word n.tops (max q sweep.bound) j)) v sweep j (let within = w.0.1 in let last = last_within n (kind_of n j) are in omega (arith, within, last)))
  of false = opened n nodes first m (store m (Head i) (m (Head i))) v (record sweep { stage = sweeps.PushHead (kind_of n j) j }) None (ordered_same n nodes first m (store m (Head i) (m (Head i))) v (same_loaded m (Head i)) o) (w.0, refl)

-- ---- claims

abbrev pub ClaimOn : Sizes → (Word → ℕ) → (ℕ → ℕ) → Claim → Option ClaimEnd → Type 0
ClaimOn n m v claim None = (claim.kind < length n.kinds) × ClaimFits n claim.kind m v claim.sweep.stage claim.stage
ClaimOn n m v claim (Some end) = Unit {0}

-- what a step of a claim keeps
pub record Opened (n : Sizes) (nodes : ℕ → ℕ) (first : ℕ) (m m' : Word → ℕ) (v v' : ℕ → ℕ) (count count' : ℕ) (claim : Claim) (end : Option ClaimEnd) : Type 0 where
  pub words : AreOrdered n nodes first m' v'
  pub moves : AllMove n m m' v v'
  pub counts : (k : ℕ) → v' k + count ≤ v k + count'
  pub on : ClaimOn n m' v' claim end

stays : (n : Sizes) (nodes : ℕ → ℕ) (first : ℕ) (m m' : Word → ℕ) (v : ℕ → ℕ) (count : ℕ) (claim : Claim) (end : Option ClaimEnd) → Kept n nodes first m m' v → ClaimOn n m' v claim end
    → Opened n nodes first m m' v v count count claim end
stays n nodes first m m' v count claim end k on = record { words = k.0; moves = all_stay n m m' v k.1; counts = λ k. omega arith; on = on }

look_ends : (n : Sizes) (m : Word → ℕ) (v : ℕ → ℕ) (claim : Claim) → claim.kind < length n.kinds → ClaimOn n m v (look_ended claim).claim (look_ended claim).ended
look_ends n m v claim lt = of (claim.sweeps == 2) where
  follows : (scheme : Scheme) (made : ℕ) → ClaimOn n m v (sweep_follows scheme made claim).claim (sweep_follows scheme made claim).ended
  follows (Announced own) zero = (lt, tt)
  follows _ _ = (lt, tt)

  of : (b : Bool) → ClaimOn n m v (if b then claim_ends claim ends.Full else sweep_follows claim.sweep.scheme claim.sweeps claim).claim (if b then claim_ends claim ends.Full else sweep_follows claim.sweep.scheme claim.sweeps claim).ended
  of true = tt
  of false = follows claim.sweep.scheme claim.sweeps

look_next : (n : Sizes) (m : Word → ℕ) (v : ℕ → ℕ) (claim : Claim) (q t : ℕ) → claim.kind < length n.kinds → IsGood (range_of n claim.kind) m (v claim.kind) t
    → ClaimOn n m v (if t == 0 then look_ended claim else claim_goes claim (claims.ReadLink q t)).claim (if t == 0 then look_ended claim else claim_goes claim (claims.ReadLink q t)).ended
look_next n m v claim q t lt good = of (t == 0) refl where
  of : (b : Bool) → (t == 0) ≡ b → ClaimOn n m v (if b then look_ended claim else claim_goes claim (claims.ReadLink q t)).claim (if b then look_ended claim else claim_goes claim (claims.ReadLink q t)).ended
  of true is = look_ends n m v claim lt
  of false is = (lt, (near_some (range_of n claim.kind) (v claim.kind) t (grind (arith, nat_tests)) good.0, good))

takes : (n : Sizes) (nodes : ℕ → ℕ) (first : ℕ) (m : Word → ℕ) (v : ℕ → ℕ) (count : ℕ) (claim : Claim) (q t next : ℕ) → AreKinds n → n.slots < n.tops → claim.kind < length n.kinds → AreOrdered n nodes first m v
    → LookFits (range_of n claim.kind) m (v claim.kind) t next
    → Opened n nodes first m (store m (Head claim.kind) (head_word n.tops q next)) v (if t == v claim.kind then put v claim.kind (v claim.kind + 1) else v) count (count + 1) (record claim { stage = claims.StoreUsed q t }) None
takes n nodes first m v count claim q t next are most lt o w = of (t == v claim.kind) refl where
  range : SlotRange
  range = range_of n claim.kind

  m' : Word → ℕ
  m' = store m (Head claim.kind) (head_word n.tops q next)

  v' : ℕ → ℕ
  v' = put v claim.kind (v claim.kind + 1)

  here : v' claim.kind ≡ v claim.kind + 1
  here = put_same v claim.kind (v claim.kind + 1)

  of : (b : Bool) → (t == v claim.kind) ≡ b → Opened n nodes first m m' v (if b then v' else v) count (count + 1) (record claim { stage = claims.StoreUsed q t }) None
  of true is =
      let same : t ≡ v claim.kind = grind (arith, nat_tests) in
      let le : v claim.kind ≤ range.last = (let within = near_inside range (v claim.kind) t w.1.0 in omega (arith, same, within)) in
      let good : IsGood range m (v claim.kind + 1) next = subst (λ (x : ℕ). IsGood range m (v claim.kind + 1) x) (sym (w.3 same ∙ ap (slot_after range) same)) (good_after n.tops range claim.kind (nodes claim.kind) first m (v claim.kind) (o claim.kind lt)) in
      record {
        words = (ordered_top n nodes first m v' claim.kind q next are most (subst (λ (x : ℕ). IsGood range m x next) (sym here) good) (ordered_next n nodes first m v claim.kind le o)).0;
        moves = each_put (λ i x. i < length n.kinds → Moves (range_of n i) m m' (v i) x) v claim.kind (v claim.kind + 1) (λ less. inr (refl, le, (λ x. refl))) (λ i ne less. inl (refl, (λ j slot near. near)));
        counts = each_put (λ i x. x + count ≤ v i + (count + 1)) v claim.kind (v claim.kind + 1) (omega arith) (λ i ne. omega arith);
        on = (lt, (w.0, omega (arith, same, here)));
      }
  of false is =
      let differ : t ≢ v claim.kind = grind (arith, nat_tests) in
      let less : t < v claim.kind = (let le = near_below range (v claim.kind) t w.1.0 in omega (arith, le, differ)) in
      let k = ordered_top n nodes first m v claim.kind q next are most (w.2 less) o in
      record { words = k.0; moves = all_stay n m m' v k.1; counts = λ i. omega arith; on = (lt, (w.0, less)) }

pub claim_open : (n : Sizes) (last : ℕ) (nodes : ℕ → ℕ) (first : ℕ) (m : Word → ℕ) (v : ℕ → ℕ) (count : ℕ) (claim : Claim) (stage : ClaimStage) → claim.stage ≡ stage → AreKinds n → n.slots < n.tops → claim.kind < length n.kinds
    → AreOrdered n nodes first m v → ClaimFits n claim.kind m v claim.sweep.stage stage
    → Opened n nodes first m (after_access m (claim_wants_at n.tops claim.kind claim.sweep stage)) v (frontier_at n.tops claim.kind stage m v) count (claims_at n.tops claim.kind stage m count)
    (claim_accepts_at n last claim (m (word_of (claim_wants_at n.tops claim.kind claim.sweep stage))) stage).claim (claim_accepts_at n last claim (m (word_of (claim_wants_at n.tops claim.kind claim.sweep stage))) stage).ended
claim_open n last nodes first m v count claim claims.ReadHead is are most lt o w =
    let m' : Word → ℕ = store m (Head claim.kind) (m (Head claim.kind)) in
    let k = ordered_same n nodes first m m' v (same_loaded m (Head claim.kind)) o in
    stays n nodes first m m' v count (look_begun claim (head_parts n.tops (m (Head claim.kind)))).claim (look_begun claim (head_parts n.tops (m (Head claim.kind)))).ended k
    (look_next n m' v claim (head_parts n.tops (m (Head claim.kind))).phase (top n.tops m claim.kind) lt (good_stays (range_of n claim.kind) (v claim.kind) m m' (top n.tops m claim.kind) (k.1 claim.kind lt) (o claim.kind lt).top_good))
claim_open n last nodes first m v count claim (claims.ReadLink q t) is are most lt o w =
    let m' : Word → ℕ = store m (Link t) (m (Link t)) in
    let range : SlotRange = range_of n claim.kind in
    let front : ℕ = v claim.kind in
    let k = ordered_same n nodes first m m' v (same_loaded m (Link t)) o in
    let stay = k.1 claim.kind lt in
    stays n nodes first m m' v count (record claim { stage = claims.Take q t (m (Link t)) }) None k (
      lt,
      (
        w.0,
        good_stays range front m m' t stay w.1,
        (λ less. good_stays range front m m' (m (Link t)) stay ((o claim.kind lt).link_good t (w.0, less) (w.1.1 (w.0, less)))),
        (λ same. (o claim.kind lt).link_first t (omega (arith, same)) (near_inside range front t w.1.0)),
      ),
    )
claim_open n last nodes first m v count claim (claims.Take q t next) is are most lt o w = of (m (Head claim.kind) == head_word n.tops q t) where
  of : (b : Bool) → Opened n nodes first m (store m (Head claim.kind) (if b then head_word n.tops q next else m (Head claim.kind))) v (if b then (if t == v claim.kind then put v claim.kind (v claim.kind + 1) else v) else v) count (if b then count + 1 else count)
      (if b then claim_goes claim (claims.StoreUsed q t) else claim_goes claim claims.ReadHead).claim (if b then claim_goes claim (claims.StoreUsed q t) else claim_goes claim claims.ReadHead).ended
  of true = takes n nodes first m v count claim q t next are most lt o w
  of false = stays n nodes first m (store m (Head claim.kind) (m (Head claim.kind))) v count (record claim { stage = claims.ReadHead }) None (ordered_same n nodes first m (store m (Head claim.kind) (m (Head claim.kind))) v (same_loaded m (Head claim.kind)) o) (lt, tt)
claim_open n last nodes first m v count claim (claims.StoreUsed q t) is are most lt o w =
    stays n nodes first m (store m (Status t) (status_word q kinds.Used)) v count claim (Some (ends.Claimed t)) (ordered_status n nodes first m v t (status_word q kinds.Used) (past_below n nodes first m v claim.kind t lt o w) o) tt
claim_open n last nodes first m v count claim (claims.Withdraw own) is are most lt o w =
    stays n nodes first m (store m (Warning own) 0) v count (sweep_started claim).claim None (ordered_same n nodes first m (store m (Warning own) 0) v (same_written m (Warning own) 0 refl) o) (lt, tt)
claim_open n last nodes first m v count claim claims.Sweeps is are most lt o w =
    let a : WordAccess = sweep_wants_at n.tops claim.sweep.scheme claim.sweep.stage claim.sweep.bound in
    let turn = sweep_accepts_at n last claim.sweep (m (word_of a)) claim.sweep.stage in
    let m' : Word → ℕ = after_access m a in
    let kept = sweep_open n last nodes first m v claim.sweep claim.sweep.stage are most o w in
    stays n nodes first m m' v count (sweep_ended claim turn.sweep turn.ended).claim (sweep_ended claim turn.sweep turn.ended).ended (kept.words, kept.stay) (goes_on m' turn.sweep turn.ended kept.on)
  where
    goes_on : (m' : Word → ℕ) (sweep : Sweep) (end : Option SweepEnd) → SweepOn n m' v sweep end → ClaimOn n m' v (sweep_ended claim sweep end).claim (sweep_ended claim sweep end).ended
    goes_on m' sweep None on = (lt, subst (λ (stage : ClaimStage). ClaimFits n claim.kind m' v sweep.stage stage) (sym is) on)
    goes_on m' sweep (Some swept.Swept) on = (lt, tt)
    goes_on m' sweep (Some (swept.PhasesOver p)) on = tt

-- ---- events

pub some_state : (a b : OpenState) → Some a ≡ Some b → a ≡ b
some_state a b is = cc

pub begun : (standing : Standing) (state later : OpenState) → open_begins standing state ≡ Some later → state ≡ later
begun Elsewhere state later is = some_state state later is
begun _ state later is = absurd (let z : None ≡ Some later = is in cc)

pub tested : (b : Bool) (o : Option OpenState) (later : OpenState) → (if b then o else None) ≡ Some later → (b ≡ true) × (o ≡ Some later)
tested true o later is = (refl, is)
tested false o later is = absurd (let z : None ≡ Some later = is in cc)

claim_stands : (n : Sizes) (m : Word → ℕ) (v : ℕ → ℕ) (claim : Claim) (end : Option ClaimEnd) → claim.sweep.tops ≡ n.tops → ClaimOn n m v claim end → Fits n m v (claim_left claim end)
claim_stands n m v claim None tops on = (on.0, on.1, tops)
claim_stands n m v claim (Some end) tops on = tt

-- a retirement below the frontier of the slot's kind
pub retire_open : (n : Sizes) (nodes : ℕ → ℕ) (first : ℕ) (m : Word → ℕ) (v : ℕ → ℕ) (j : ℕ) (stage : RetireStage) → j < v (kind_of n j) → AreOrdered n nodes first m v
    → Kept n nodes first m (after_access m (retire_wants_at j stage)) v
    × Fits n (after_access m (retire_wants_at j stage)) v (retirement_left (retire_accepts_at j (m (word_of (retire_wants_at j stage))) stage))
retire_open n nodes first m v j retires.ReadPhase lt o = (ordered_same n nodes first m (store m Phase (m Phase)) v (same_loaded m Phase) o, lt)
retire_open n nodes first m v j (retires.StoreStatus p) lt o = (ordered_status n nodes first m v j (status_word p kinds.Retired) lt o, tt)

-- with the access that the claim wants, if its heads are those of the row
pub claim_opens : (n : Sizes) (last : ℕ) (nodes : ℕ → ℕ) (first : ℕ) (m : Word → ℕ) (v : ℕ → ℕ) (count : ℕ) (claim : Claim) → claim.sweep.tops ≡ n.tops → AreKinds n → n.slots < n.tops
    → claim.kind < length n.kinds → AreOrdered n nodes first m v → ClaimFits n claim.kind m v claim.sweep.stage claim.stage
    → Opened n nodes first m (after_access m (claim_wants claim)) v (frontier_at n.tops claim.kind claim.stage m v) count (claims_at n.tops claim.kind claim.stage m count)
    (claim_accepts n last claim (m (word_of (claim_wants claim)))).claim (claim_accepts n last claim (m (word_of (claim_wants claim)))).ended
claim_opens n last nodes first m v count claim same are most lt o w =
    subst (λ (tops : ℕ). At tops) (sym same) (claim_open n last nodes first m v count claim claim.stage refl are most lt o w)
  where
    At : ℕ → Type 0
    At tops =
        let a = claim_wants_at tops claim.kind claim.sweep claim.stage in
        let turn = claim_accepts n last claim (m (word_of a)) in
        Opened n nodes first m (after_access m a) v (frontier_at n.tops claim.kind claim.stage m v) count (claims_at n.tops claim.kind claim.stage m count) turn.claim turn.ended

module _ (n : Sizes) (last : ℕ) (start : Beginning) (are : AreKinds n) (most : n.slots < n.tops) where
  step_open : (state later : OpenState) (c : ℕ) (standing : Standing) → state.who c ≡ standing → OpenHolds n start state → open_stepped n last state c standing ≡ Some later → OpenHolds n start later
  step_open state later c Elsewhere at w is = absurd (let z : None ≡ Some later = is in cc)
  step_open state later c (Claims claim) at w is =
      let told : Fits n state.memory state.frontier (Claims claim) = subst (λ (x : Standing). Fits n state.memory state.frontier x) at (w.fits c) in
      let k = claim_opens n last (nodes_of start) start.first state.memory state.frontier state.claims claim told.2 are most told.0 w.words told.1 in
      let word = state.memory (word_of (claim_wants claim)) in
      let turn = claim_accepts n last claim word in
      let m' : Word → ℕ = after_access state.memory (claim_wants claim) in
      let v' : ℕ → ℕ = frontier_at n.tops claim.kind claim.stage state.memory state.frontier in
      let same = (claim_stays n last claim word).tops ∙ told.2 in
      subst (λ (x : OpenState). OpenHolds n start x)
      (some_state (record { memory = m'; frontier = v'; claims = claims_at n.tops claim.kind claim.stage state.memory state.claims; who = put state.who c (claim_left turn.claim turn.ended) }) later is)
      (record {
        words = k.words;
        fits = each_put (λ d (x : Standing). Fits n m' v' x) state.who c (claim_left turn.claim turn.ended) (claim_stands n m' v' turn.claim turn.ended same k.on)
            (λ d ne. fits_later n (nodes_of start) start.first state.memory m' state.frontier v' are w.words k.moves (state.who d) (w.fits d));
        counted = λ i. (let old = w.counted i in let more = k.counts i in omega (arith, old, more));
      })
  step_open state later c (Retires retirement) at w is =
      let told : Fits n state.memory state.frontier (Retires retirement) = subst (λ (x : Standing). Fits n state.memory state.frontier x) at (w.fits c) in
      let k = retire_open n (nodes_of start) start.first state.memory state.frontier retirement.slot retirement.stage told w.words in
      let left = retire_accepts retirement (state.memory (word_of (retire_wants retirement))) in
      let m' : Word → ℕ = after_access state.memory (retire_wants retirement) in
      subst (λ (x : OpenState). OpenHolds n start x)
      (some_state (record { memory = m'; frontier = state.frontier; claims = state.claims; who = put state.who c (retirement_left left) }) later is)
      (record {
        words = k.0.0;
        fits = each_put (λ d (x : Standing). Fits n m' state.frontier x) state.who c (retirement_left left) k.1
            (λ d ne. fits_later n (nodes_of start) start.first state.memory m' state.frontier state.frontier are w.words (all_stay n state.memory m' state.frontier k.0.1) (state.who d) (w.fits d));
        counted = w.counted;
      })

  -- a caller begins
  begin_open : (state : OpenState) (c : ℕ) (standing : Standing) → OpenHolds n start state → Fits n state.memory state.frontier standing → OpenHolds n start (record state { who = put state.who c standing })
  begin_open state c standing w fits = record {
    words = w.words;
    fits = each_put (λ d (x : Standing). Fits n state.memory state.frontier x) state.who c standing fits (λ d ne. w.fits d);
    counted = w.counted;
  }

  pub event_open : (state later : OpenState) (event : PoolEvent) → OpenHolds n start state → open_event n last state event ≡ Some later → OpenHolds n start later
  event_open state later (BeginsClaim c k scheme) w is =
      let begin : OpenState = record state { who = put state.who c (Claims (claim_begun n k scheme)) } in
      let test = tested (nat_lt k (length n.kinds)) (open_begins (state.who c) begin) later is in
      subst (λ (x : OpenState). OpenHolds n start x) (begun (state.who c) begin later test.1) (begin_open state c (Claims (claim_begun n k scheme)) w ((let less = test.0 in grind (arith, nat_tests)), tt, refl))
  event_open state later (BeginsRetirement c j) w is =
      let begin : OpenState = record state { who = put state.who c (Retires (retire_begun j)) } in
      let test = tested (nat_lt j (state.frontier (kind_of n j))) (open_begins (state.who c) begin) later is in
      subst (λ (x : OpenState). OpenHolds n start x) (begun (state.who c) begin later test.1) (begin_open state c (Retires (retire_begun j)) w (let low = test.0 in grind (arith, nat_tests)))
  event_open state later (Steps c) w is = step_open state later c (state.who c) refl w is
  event_open state later (Writes word x) w is =
      let test = tested (is_other word) (Some (record state { memory = store state.memory word x })) later is in
      let m' : Word → ℕ = store state.memory word x in
      subst (λ (y : OpenState). OpenHolds n start y) (some_state (record state { memory = m' }) later test.1)
      (let k = ordered_same n (nodes_of start) start.first state.memory m' state.frontier (same_written state.memory word x test.0) w.words in
      record {
        words = k.0;
        fits = λ d. fits_later n (nodes_of start) start.first state.memory m' state.frontier state.frontier are w.words (all_stay n state.memory m' state.frontier k.1) (state.who d) (w.fits d);
        counted = w.counted;
      })

pub split : (o : Option OpenState) (next : OpenState → Option OpenState) (later : OpenState) → open_on o next ≡ Some later → (state : OpenState) × (o ≡ Some state) × (next state ≡ Some later)
split None next later is = absurd (let z : None ≡ Some later = is in cc)
split (Some state) next later is = (state, refl, is)

run_open : (n : Sizes) (last : ℕ) (start : Beginning) (events : List PoolEvent) (state later : OpenState) → AreKinds n → n.slots < n.tops → OpenHolds n start state → open_run n last events state ≡ Some later → OpenHolds n start later
run_open n last start [] state later are most w is = subst (λ (x : OpenState). OpenHolds n start x) (some_state state later is) w
run_open n last start (event ∷ events) state later are most w is =
    let parts = split (open_event n last state event) (open_run n last events) later is in
    run_open n last start events parts.0 later are most (event_open n last start are most state parts.0 event w parts.1) parts.2

-- ---- the start, and the law

-- the words in the row are the same
ordered_row : (tops : ℕ) (range : SlotRange) (k nodes first : ℕ) (m m' : Word → ℕ) (v : ℕ) → m' (Head k) ≡ m (Head k) → ((j : ℕ) → j ≤ range.last → m' (Link j) ≡ m (Link j)) → ((j : ℕ) → j ≤ range.last → m' (Status j) ≡ m (Status j))
    → IsOrdered tops range k nodes first m v → IsOrdered tops range k nodes first m' v
ordered_row tops range k nodes first m m' v head link status o =
    (ordered_with tops range k nodes first m m' v o (top_kept tops range k nodes first m m' v head o) (λ j slot. inl (link j slot.1)) (λ j slot. inl (status j slot.1))).0

module _ (n : Sizes) (start : Beginning) (are : AreKinds n) (most : n.slots < n.tops) (fit : NodesFit n start) where
  -- one kind's words at the start
  module _ (k : ℕ) (lt : k < length n.kinds) where
    -- a slot of the range is of the kind
    of_it : (j : ℕ) → IsSlot (range_of n k) j → kind_of n j ≡ k
    of_it j slot = in_range_is_of_kind n k j lt slot

    -- the links of the slots before the frontier name none
    start_low : (j : ℕ) → IsPast (range_of n k) (first_ready (range_of n k) (nodes_of start k)) j → start_link (range_of n k) (nodes_of start k) j ≡ 0
    start_low j past = let test : nat_lt j (first_ready (range_of n k) (nodes_of start k)) ≡ true = (let less = past.1 in grind (arith, nat_tests)) in rw test refl

    good_low : (j x : ℕ) → x ≡ 0 → IsNear (range_of n k) (first_ready (range_of n k) (nodes_of start k)) x → IsGood (range_of n k) (start_word n start) (first_ready (range_of n k) (nodes_of start k)) x
    good_low j x none near = (near, λ before. let some = before.0 in let differ : ⊥ = omega (arith, none, some) in absurd differ)

    -- past the first slots there is room up to the last
    room : first_ready (range_of n k) (nodes_of start k) ≤ (range_of n k).last + 1
    room = let few = fit k lt in omega (arith, few)

    link_at : (j : ℕ) → IsSlot (range_of n k) j → start_word n start (Link j) ≡ start_link (range_of n k) (nodes_of start k) j
    link_at j slot = ap (λ (a : ℕ). start_link (range_of n a) (nodes_of start a) j) (of_it j slot)

    start_ordered : IsOrdered n.tops (range_of n k) k (nodes_of start k) start.first (start_word n start) (first_ready (range_of n k) (nodes_of start k))
    start_ordered =
        let range : SlotRange = range_of n k in
        let nodes : ℕ = nodes_of start k in
        let parts = tells n.tops (start_word n start) k start.first (start_top range nodes) refl (slot_small n.tops range (first_ready range nodes) (let last = last_within n k are in omega (arith, last, most))) in
        record {
          above_null = omega arith;
          least = omega arith;
          greatest = room;
          top_good = subst (λ (x : ℕ). IsGood range (start_word n start) (first_ready range nodes) x) (sym parts.1) (good_from range (start_word n start) (first_ready range nodes) (omega arith) (omega arith));
          link_good = λ j past near. good_low j (start_word n start (Link j)) (link_at j (past.0, (let less = past.1 in let few = room in omega (arith, less, few))) ∙ start_low j past) near;
          link_first = λ j ge within. link_at j ((let low = ge in omega (arith, low)), within) ∙ link_after range nodes j ge;
          status_first = λ j ge within.
              ap (λ (a : ℕ). status_word start.first (start_kind (range_of n a) (nodes_of start a) j)) (of_it j ((let low = ge in omega (arith, low)), within)) ∙ ready_start range start.first nodes j ge;
        }

pub start_open : (n : Sizes) (start : Beginning) (memory : Word → ℕ) → AreKinds n → n.slots < n.tops → NodesFit n start → StartsAs n start memory → OpenHolds n start (open_start n start memory)
start_open n start memory are most fit starts = record {
  words = λ k lt. ordered_row n.tops (range_of n k) k (nodes_of start k) start.first (start_word n start) memory (first_ready (range_of n k) (nodes_of start k)) (starts (Head k) (row_heads (length n.kinds) k lt))
      (λ j within. starts (Link j) (row_has n.slots j (inside k j within))) (λ j within. starts (Status j) (row_has n.slots j (inside k j within))) (start_ordered n start are most fit k lt);
  fits = λ c. tt;
  counted = λ k. omega arith;
} where
  inside : (k j : ℕ) → j ≤ (range_of n k).last → j ≤ n.slots
  inside k j within = let last = last_within n k are in omega (arith, within, last)

module _ (n : Sizes) (nodes : ℕ → ℕ) (first : ℕ) (m : Word → ℕ) (v : ℕ → ℕ) (are : AreKinds n) (o : AreOrdered n nodes first m v) where
  -- null is below each frontier
  null_below : 0 < v (kind_of n 0)
  null_below = let words = o (kind_of n 0) (kind_small n 0 are) in let low = words.least in omega (arith, low)

  slot_below : (standing : Standing) → Fits n m v standing → slot_of standing < v (kind_of n (slot_of standing))
  slot_below Elsewhere w = null_below
  slot_below (Claims claim) w = in_claim claim.stage w.1 where
    in_sweep : (stage : SweepStage) → SweepFits n m v stage → slot_of_sweep stage < v (kind_of n (slot_of_sweep stage))
    in_sweep (sweeps.PushHead k j) w = w.0.0.1
    in_sweep (sweeps.PushLink j q t) w = w.0.0.1
    in_sweep (sweeps.PushTop k j q t) w = w.0.0.1
    in_sweep _ w = null_below

    in_claim : (stage : ClaimStage) → ClaimFits n claim.kind m v claim.sweep.stage stage → slot_of_claim claim.sweep stage < v (kind_of n (slot_of_claim claim.sweep stage))
    in_claim (claims.StoreUsed q t) fits = past_below n nodes first m v claim.kind t w.0 o fits
    in_claim claims.Sweeps fits = in_sweep claim.sweep.stage fits
    in_claim _ fits = null_below
  slot_below (Retires retirement) w = w

pub claims_stay_ordered : OfAll ClaimsStayOrdered
claims_stay_ordered n last start are most fit memory starts events state is =
    let w = run_open n last start events (open_start n start memory) state are most (start_open n start memory are most fit starts) is in
    record {
      full = λ k lt none. (let words = w.words k lt in
          let past = near_none (range_of n k) (state.frontier k) (top n.tops state.memory k) words.above_null none words.top_good.0 in let count = w.counted k in omega (arith, past, count));
      ready = λ j ge within. (let words = w.words (kind_of n j) (kind_small n j are) in let low = words.least in
          words.status_first j ge (of_kind_is_in_range n j are (omega (arith, low, ge)) within).1);
      unclaimed = λ c. slot_below n (nodes_of start) start.first state.memory state.frontier are w.words (state.who c) (w.fits c);
    }
