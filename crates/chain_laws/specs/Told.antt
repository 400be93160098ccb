-- What follows in each state of a run, said of the words and of where the callers stand.
use Rattle.std.specs.Prelude.{ℕ, ◌≡◌, ◌≢◌, ◌≤◌, ◌<◌, ◌⊎◌, List, [], length, Some}
use Rattle.oa_words.specs.declared.packed.Kind.TheVariants as kinds
use Rattle.oa_words.specs.Words.{Word, Phase, Status, Head, Link, Sizes, slot_range, IsSlot}
use Rattle.oa_words.specs.SlotKinds.{kind_of}
use Rattle.oa_words.specs.Within.{AreKinds}
use Rattle.oa_words.specs.Packed.{status_word, head_word}
use Rattle.oa_words.specs.Starts.{Beginning}
use Rattle.phase_pools.specs.declared.stages.SweepStage.TheVariants as sweeps
use Rattle.phase_pools.specs.declared.stages.ClaimStage.TheVariants as claims
use Rattle.phase_pools.specs.Pools.{Claim, Retirement}
use Rattle.chain_laws.specs.Chains.{Outside, Retired, times, stamp, top, IsOf}
use Rattle.chain_laws.specs.Laws.{NodesFit, StartsAs}
use Rattle.chain_laws.specs.Machine.{Standing, Elsewhere, Claims, Retires, slot_of, PoolState, PoolEvent, pool_run, pool_start}

-- the caller has taken or pushes a slot
abbrev pub IsClaiming : Standing → Type 0
IsClaiming Elsewhere = ⊥
IsClaiming (Claims claim) = Unit {0}
IsClaiming (Retires retirement) = ⊥

pub record PoolTells (n : Sizes) (state : PoolState) : Type 0 where
  pub stamped : (k : ℕ) → k < length n.kinds → stamp n.tops state.memory k ≤ state.memory Phase
  -- if no slot is on top, the kind's chain is empty
  pub empty : (k : ℕ) → k < length n.kinds → top n.tops state.memory k ≡ 0 → state.hands.chain k ≡ []
  -- a slot stands in a chain at most once, and not while a caller has taken it, pushes it or retires it, which no two callers do
  pub once : (k j : ℕ) → times j (state.hands.chain k) ≤ 1
  pub apart : (k j c : ℕ) → j ≢ 0 → slot_of (state.who c) ≡ j → times j (state.hands.chain k) ≡ 0
  pub alone : (j c d : ℕ) → j ≢ 0 → slot_of (state.who c) ≡ j → slot_of (state.who d) ≡ j → c ≡ d
  -- a slot of a kind's chain has that kind and is ready, with a phase up to the head's
  pub chained : (k j : ℕ) → times j (state.hands.chain k) ≡ 1
      → IsSlot (slot_range n) j × (kind_of n j ≡ k) × ((q : ℕ) × (state.memory (Status j) ≡ status_word q kinds.Ready) × (q ≤ stamp n.tops state.memory k))
  -- a ready slot stands in the chain of its kind, or a caller has taken it or pushes it
  pub ready : (j : ℕ) → IsSlot (slot_range n) j → IsOf kinds.Ready (state.memory (Status j))
      → (times j (state.hands.chain (kind_of n j)) ≡ 1) ⊎ ((c : ℕ) × (slot_of (state.who c) ≡ j) × IsClaiming (state.who c))
  -- what a claim has taken is of its kind, and ready until it stores that it is used
  pub taken : (c : ℕ) (claim : Claim) (q t : ℕ) → state.who c ≡ Claims claim → claim.stage ≡ claims.StoreUsed q t
      → IsSlot (slot_range n) t × (kind_of n t ≡ claim.kind) × IsOf kinds.Ready (state.memory (Status t))
  -- if a claim's exchange finds the head that it expects, the top stands in the chain of its kind, and its link is the one that was loaded
  pub takes : (c : ℕ) (claim : Claim) (q t next : ℕ) → state.who c ≡ Claims claim → claim.stage ≡ claims.Take q t next → state.memory (Head claim.kind) ≡ head_word n.tops q t
      → (times t (state.hands.chain claim.kind) ≡ 1) × (state.memory (Link t) ≡ next)
  -- a sweep's exchange makes a slot ready only if it was retired before the sweep's low, which isn't past the phase that it raises to,
  -- and is nobody's
  pub frees : (c : ℕ) (claim : Claim) (j q : ℕ) → state.who c ≡ Claims claim → claim.stage ≡ claims.Sweeps → claim.sweep.stage ≡ sweeps.MakeReady j q
      → (q < claim.sweep.low) × (claim.sweep.low ≤ claim.sweep.bound) × (state.memory (Status j) ≡ status_word q kinds.Retired → state.hands.owner j ≡ Retired q)
  -- a push goes to the head of the slot's kind. Before its exchange the slot is linked to the top that was loaded, and is in no chain
  pub pushes : (c : ℕ) (claim : Claim) (k j q t : ℕ) → state.who c ≡ Claims claim → claim.stage ≡ claims.Sweeps → claim.sweep.stage ≡ sweeps.PushTop k j q t
      → (k ≡ kind_of n j) × (state.memory (Link j) ≡ t) × ((i : ℕ) → times j (state.hands.chain i) ≡ 0)
  -- a used slot that nobody retires is outside, so that a caller may begin to retire it
  pub outside : (j : ℕ) → j ≤ n.slots → IsOf kinds.Used (state.memory (Status j)) → ((c : ℕ) (retirement : Retirement) → state.who c ≡ Retires retirement → retirement.slot ≢ j) → state.hands.owner j ≡ Outside

abbrev pub PoolIsTold : Sizes → ℕ → Beginning → Type 0
PoolIsTold n last start = AreKinds n → n.slots < n.tops → NodesFit n start → (memory : Word → ℕ) → StartsAs n start memory
    → (events : List PoolEvent) (state : PoolState) → pool_run n last events (pool_start n start memory) ≡ Some state → PoolTells n state
