-- The pool by itself: its words, and callers that claim and retire by its routines. What the rest of the core does is left open: which
-- used slot a caller retires, and when, and what it stores in words that aren't the pool's.
use Rattle.std.specs.Prelude.{ℕ, zero, suc, ◌+◌, ◌-◌, ◌&&◌, Bool, true, false, List, [], ◌∷◌, Option, Some, None, length, nat_le, nat_lt, ◌==◌, if◌then◌else◌}
use Rattle.oa_words.specs.declared.packed.Kind.TheVariants as kinds
use Rattle.oa_words.specs.Words.{Word, Phase, Place, Warning, Hazard, Status, FieldOf, Cell, Head, Link, Sizes, SlotRange, slot_range}
use Rattle.oa_words.specs.SlotKinds.{range_of, kind_of, range_at}
use Rattle.oa_words.specs.Packed.{status_word, head_word}
use Rattle.oa_words.specs.Starts.{Beginning, nodes_of, first_ready}
use Rattle.phase_pools.specs.declared.access.ClaimEnd.{ClaimEnd}
use Rattle.phase_pools.specs.declared.stages.Scheme.{Scheme}
use Rattle.phase_pools.specs.declared.stages.SweepStage.{SweepStage}
use Rattle.phase_pools.specs.declared.stages.SweepStage.TheVariants as sweeps
use Rattle.phase_pools.specs.declared.stages.ClaimStage.{ClaimStage}
use Rattle.phase_pools.specs.declared.stages.ClaimStage.TheVariants as claims
use Rattle.phase_pools.specs.declared.stages.RetireStage.{RetireStage}
use Rattle.phase_pools.specs.declared.stages.RetireStage.TheVariants as retires
use Rattle.phase_pools.specs.Accesses.{word_of}
use Rattle.phase_pools.specs.Pools.{Sweep, Claim, claim_begun, claim_wants, claim_accepts, Retirement, retire_begun, retire_wants, retire_accepts}
use Rattle.oa_words.specs.Memories.{store}
use Rattle.chain_laws.specs.Memories.{after_access, put}
use Rattle.chain_laws.specs.Chains.{Owner, Chained, Taken, Pushing, Outside, Retiring, Retired, Hands, handed, with_top, without_top}
use Rattle.chain_laws.specs.Standing.{slot_of_claim}

-- ---- whose slots are whose after an access, in a row with so many tops

abbrev pub sweep_hands : ℕ → ℕ → ℕ → SweepStage → (Word → ℕ) → Hands → Hands
sweep_hands tops c s sweeps.ReadPhase memory hands = hands
sweep_hands tops c s (sweeps.RaisePhase p) memory hands = hands
sweep_hands tops c s (sweeps.Warn d) memory hands = hands
sweep_hands tops c s (sweeps.ReadHazard d r) memory hands = hands
sweep_hands tops c s (sweeps.ReadStatus j) memory hands = hands
sweep_hands tops c s (sweeps.MakeReady j q) memory hands = if memory (Status j) == status_word q kinds.Retired then handed hands j (Pushing c s) else hands
sweep_hands tops c s (sweeps.PushHead k j) memory hands = hands
sweep_hands tops c s (sweeps.PushLink j q t) memory hands = hands
sweep_hands tops c s (sweeps.PushTop k j q t) memory hands = if memory (Head k) == head_word tops q t then with_top hands k j else hands

abbrev pub claim_hands : ℕ → ℕ → ℕ → Sweep → ClaimStage → (Word → ℕ) → Hands → Hands
claim_hands tops c k sweep claims.ReadHead memory hands = hands
claim_hands tops c k sweep (claims.ReadLink q t) memory hands = hands
claim_hands tops c k sweep (claims.Take q t next) memory hands = if memory (Head k) == head_word tops q t then without_top hands k c t else hands
claim_hands tops c k sweep (claims.StoreUsed q t) memory hands = handed hands t Outside
claim_hands tops c k sweep (claims.Withdraw own) memory hands = hands
claim_hands tops c k sweep claims.Sweeps memory hands = sweep_hands tops c sweep.bound sweep.stage memory hands

abbrev pub retire_hands : ℕ → ℕ → RetireStage → (Word → ℕ) → Hands → Hands
retire_hands c j retires.ReadPhase memory hands = handed hands j (Retiring c (Some (memory Phase)))
retire_hands c j (retires.StoreStatus p) memory hands = handed hands j (Retired p)

-- ---- the machine

-- where a caller stands
pub data Standing : Type 0 where
  Elsewhere : Standing  -- in no routine of the pool
  Claims : (claim : Claim) → Standing
  Retires : (retirement : Retirement) → Standing

-- the slot that a caller has in a routine of the pool, 0 for none
abbrev pub slot_of : Standing → ℕ
slot_of Elsewhere = 0
slot_of (Claims claim) = slot_of_claim claim.sweep claim.stage
slot_of (Retires retirement) = retirement.slot

pub record PoolState : Type 0 where
  pub memory : Word → ℕ
  pub hands : Hands
  pub who : ℕ → Standing

pub data PoolEvent : Type 0 where
  BeginsClaim : (c k : ℕ) (scheme : Scheme) → PoolEvent  -- of a slot of kind k
  BeginsRetirement : (c j : ℕ) → PoolEvent
  Steps : (c : ℕ) → PoolEvent  -- the access that c wants in its routine
  Writes : (w : Word) (x : ℕ) → PoolEvent  -- an access of the rest

-- what the rest may write: the pool's words, and the phase, only its routines change
abbrev pub is_other : Word → Bool
is_other Phase = false
is_other (Place c) = true
is_other (Warning c) = true
is_other (Hazard c r) = true
is_other (Status j) = false
is_other (FieldOf j g) = true
is_other (Cell x) = true
is_other (Head k) = false
is_other (Link j) = false

abbrev pub is_outside : Owner → Bool
is_outside Chained = false
is_outside (Taken c) = false
is_outside (Pushing c s) = false
is_outside Outside = true
is_outside (Retiring c tag) = false
is_outside (Retired tag) = false

abbrev pub is_slot : SlotRange → ℕ → Bool
is_slot range j = nat_le range.first j && nat_le j range.last

abbrev pub claim_left : Claim → Option ClaimEnd → Standing
claim_left claim None = Claims claim
claim_left claim (Some end) = Elsewhere

abbrev pub retirement_left : Option Retirement → Standing
retirement_left None = Elsewhere
retirement_left (Some retirement) = Retires retirement

-- a caller that stands elsewhere may begin
abbrev pub begins : Standing → PoolState → Option PoolState
begins Elsewhere later = Some later
begins (Claims claim) later = None
begins (Retires retirement) later = None

-- and one in a routine may make its access
abbrev pub stepped : Sizes → ℕ → PoolState → ℕ → Standing → Option PoolState
stepped n last state c Elsewhere = None
stepped n last state c (Claims claim) =
    let turn = claim_accepts n last claim (state.memory (word_of (claim_wants claim))) in
    Some (record {
      memory = after_access state.memory (claim_wants claim);
      hands = claim_hands n.tops c claim.kind claim.sweep claim.stage state.memory state.hands;
      who = put state.who c (claim_left turn.claim turn.ended);
    })
stepped n last state c (Retires retirement) =
    Some (record {
      memory = after_access state.memory (retire_wants retirement);
      hands = retire_hands c retirement.slot retirement.stage state.memory state.hands;
      who = put state.who c (retirement_left (retire_accepts retirement (state.memory (word_of (retire_wants retirement)))));
    })

-- one event, if it is enabled. A caller retires only what is used, and what nobody else retires
abbrev pub pool_event : Sizes → ℕ → PoolState → PoolEvent → Option PoolState
pool_event n last state (BeginsClaim c k scheme) =
    if nat_lt k (length n.kinds) then begins (state.who c) (record state { who = put state.who c (Claims (claim_begun n k scheme)) }) else None
pool_event n last state (BeginsRetirement c j) =
    if is_slot (slot_range n) j && is_outside (state.hands.owner j)
    then begins (state.who c) (record state { hands = handed state.hands j (Retiring c None); who = put state.who c (Retires (retire_begun j)) })
    else None
pool_event n last state (Steps c) = stepped n last state c (state.who c)
pool_event n last state (Writes w x) = if is_other w then Some (record state { memory = store state.memory w x }) else None

abbrev pub run_on : Option PoolState → (PoolState → Option PoolState) → Option PoolState
run_on None next = None
run_on (Some state) next = next state

-- events one after another, if each is enabled
abbrev pub pool_run : Sizes → ℕ → List PoolEvent → PoolState → Option PoolState
pool_run n last [] state = Some state
pool_run n last (event ∷ events) state = run_on (pool_event n last state event) (pool_run n last events)

-- ---- the start

-- so many slots in ascending order, from one on
abbrev pub slots_from : ℕ → ℕ → List ℕ
slots_from j zero = []
slots_from j (suc count) = j ∷ slots_from (j + 1) count

-- the slots of a range after those of the initial nodes are in a chain
abbrev pub start_chain : SlotRange → ℕ → List ℕ
start_chain range nodes = slots_from (first_ready range nodes) (range.last + 1 - first_ready range nodes)

abbrev pub start_owner : SlotRange → ℕ → ℕ → Owner
start_owner range nodes j = if nat_le (first_ready range nodes) j && nat_le j range.last then Chained else Outside

-- from words that say in the row what they do at the start
abbrev pub pool_start : Sizes → Beginning → (Word → ℕ) → PoolState
pool_start n start memory = record {
  memory = memory;
  hands = record {
    owner = λ j. start_owner (range_at n j) (nodes_of start (kind_of n j)) j;
    chain = λ k. start_chain (range_of n k) (nodes_of start k);
  };
  who = λ c. Elsewhere;
}
