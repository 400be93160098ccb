-- What holds of the pool in every run.
use Rattle.std.specs.Prelude.{ℕ, ◌≡◌, ◌≢◌, ◌≤◌, ◌<◌, true, List, length, Some}
use Rattle.oa_words.specs.Words.{Word, Head, Link, Sizes, in_row}
use Rattle.oa_words.specs.SlotKinds.{slots_of}
use Rattle.oa_words.specs.Within.{AreKinds}
use Rattle.oa_words.specs.Packed.{head_word}
use Rattle.oa_words.specs.Starts.{Beginning, nodes_of, start_word}
use Rattle.chain_laws.specs.Chains.{Hands, times, stamp, PoolHolds}
use Rattle.chain_laws.specs.Standing.{ClaimStands, RetireStands, HasOnly}
use Rattle.chain_laws.specs.Machine.{Standing, Elsewhere, Claims, Retires, slot_of, PoolState, PoolEvent, pool_run, pool_start}

-- what a caller knows where it stands
abbrev pub StandsAt : Sizes → (Word → ℕ) → Hands → ℕ → Standing → Type 0
StandsAt n memory hands c Elsewhere = Unit {0}
StandsAt n memory hands c (Claims claim) =
    (claim.kind < length n.kinds) × ClaimStands n memory hands c claim.kind claim.sweep claim.stage × (claim.sweep.tops ≡ n.tops)
StandsAt n memory hands c (Retires retirement) = RetireStands hands c retirement.slot retirement.stage

pub record Holds (n : Sizes) (state : PoolState) : Type 0 where
  pub fine : PoolHolds n state.memory state.hands
  pub told : (c : ℕ) → StandsAt n state.memory state.hands c (state.who c)
  -- a slot that is a caller's is the one that this caller has where it stands
  pub has : (c : ℕ) → HasOnly state.hands c (slot_of (state.who c))

-- each kind has a slot for each of its initial nodes
abbrev pub NodesFit : Sizes → Beginning → Type 0
NodesFit n start = (k : ℕ) → k < length n.kinds → nodes_of start k ≤ slots_of n k

-- words that say at the start what their names do; past the row they may say anything
abbrev pub StartsAs : Sizes → Beginning → (Word → ℕ) → Type 0
StartsAs n start memory = (w : Word) → in_row n w ≡ true → memory w ≡ start_word n start w

-- in each state to which events lead from the start the ready slots of each kind form a chain, and each caller knows what it has to
abbrev pub ChainsStand : Sizes → ℕ → Beginning → Type 0
ChainsStand n last start = AreKinds n → n.slots < n.tops → NodesFit n start → (memory : Word → ℕ) → StartsAs n start memory
    → (events : List PoolEvent) (state : PoolState) → pool_run n last events (pool_start n start memory) ≡ Some state → Holds n state

-- the head word of a kind that a caller has loaded, with a slot on top, and what happens afterwards
pub record Seen (n : Sizes) (last : ℕ) (start : Beginning) (k q t : ℕ) : Type 0 where
  pub kinds : AreKinds n
  pub slots : n.slots < n.tops
  pub nodes : NodesFit n start
  pub memory : Word → ℕ
  pub starts : StartsAs n start memory
  pub before : List PoolEvent
  pub loaded : PoolState
  pub leads : pool_run n last before (pool_start n start memory) ≡ Some loaded
  pub kind : k < length n.kinds
  pub head : loaded.memory (Head k) ≡ head_word n.tops q t
  pub small : t < n.tops
  pub some : t ≢ 0
  pub events : List PoolEvent
  pub between : PoolState
  pub goes : pool_run n last events loaded ≡ Some between
  pub more : List PoolEvent
  pub later : PoolState
  pub ends : pool_run n last more between ≡ Some later

pub record TopsStand (n : Sizes) (last : ℕ) (start : Beginning) : Type 0 where
  -- if an exchange finds the head word that was loaded, its top has stood in the kind's chain at each moment since, with its link
  pub stood : (k q t : ℕ) (seen : Seen n last start k q t) → seen.later.memory (Head k) ≡ head_word n.tops q t
      → (times t (seen.between.hands.chain k) ≡ 1) × (seen.between.memory (Link t) ≡ seen.loaded.memory (Link t))
  -- a slot that has left the chain since comes back only under a greater phase
  pub above : (k q t : ℕ) (seen : Seen n last start k q t) → times t (seen.between.hands.chain k) ≡ 0 → times t (seen.later.hands.chain k) ≡ 1
      → q < stamp n.tops seen.later.memory k

-- of all sizes, last phases and beginnings
abbrev pub OfAll : (Sizes → ℕ → Beginning → Type 0) → Type 0
OfAll Law = (n : Sizes) (last : ℕ) (start : Beginning) → Law n last start
