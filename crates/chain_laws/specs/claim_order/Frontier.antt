-- Claims of a kind take slots that were never claimed in ascending order, whatever is retired: the least of them is the kind's frontier. This
-- needs no chain: a slot may be retired twice, and the links may make a circle.
use Rattle.std.specs.Prelude.{ℕ, ◌+◌, ◌≡◌, ◌≤◌, ◌<◌, ◌⊎◌, List, [], ◌∷◌, length, Option, Some, None, nat_lt, ◌==◌, if◌then◌else◌}
use Rattle.oa_words.specs.declared.packed.Kind.TheVariants as kinds
use Rattle.oa_words.specs.Words.{Word, Status, Head, Link, Sizes, SlotRange, slot_range, IsSlot}
use Rattle.oa_words.specs.SlotKinds.{slots_of, range_of, kind_of, range_at}
use Rattle.oa_words.specs.Within.{AreKinds}
use Rattle.oa_words.specs.Packed.{status_word, head_word}
use Rattle.oa_words.specs.Starts.{Beginning, nodes_of, first_ready, slot_after}
use Rattle.phase_pools.specs.declared.stages.SweepStage.{SweepStage}
use Rattle.phase_pools.specs.declared.stages.SweepStage.TheVariants as sweeps
use Rattle.phase_pools.specs.declared.stages.ClaimStage.{ClaimStage}
use Rattle.phase_pools.specs.declared.stages.ClaimStage.TheVariants as claims
use Rattle.phase_pools.specs.Accesses.{word_of}
use Rattle.phase_pools.specs.Pools.{claim_begun, claim_wants, claim_accepts, retire_begun, retire_wants, retire_accepts}
use Rattle.oa_words.specs.Memories.{store}
use Rattle.chain_laws.specs.Memories.{after_access, put}
use Rattle.chain_laws.specs.Chains.{top}
use Rattle.chain_laws.specs.Laws.{NodesFit, StartsAs}
use Rattle.chain_laws.specs.Machine.{Standing, Elsewhere, Claims, Retires, slot_of, PoolEvent, BeginsClaim, BeginsRetirement, Steps, Writes, is_other, claim_left, retirement_left}

-- ---- the machine, in which callers retire what they like

-- the frontier of a kind is one past its greatest slot if each of its slots was claimed; and how many exchanges took a slot, of all kinds
-- together
pub record OpenState : Type 0 where
  pub memory : Word → ℕ
  pub frontier : ℕ → ℕ
  pub claims : ℕ
  pub who : ℕ → Standing

-- the exchange of a claim of kind k that takes the slot at the frontier of k moves it on
abbrev pub frontier_at : ℕ → ℕ → ClaimStage → (Word → ℕ) → (ℕ → ℕ) → ℕ → ℕ
frontier_at tops k claims.ReadHead memory v = v
frontier_at tops k (claims.ReadLink q t) memory v = v
frontier_at tops k (claims.Take q t next) memory v = if memory (Head k) == head_word tops q t then (if t == v k then put v k (v k + 1) else v) else v
frontier_at tops k (claims.StoreUsed q t) memory v = v
frontier_at tops k (claims.Withdraw own) memory v = v
frontier_at tops k claims.Sweeps memory v = v

abbrev pub claims_at : ℕ → ℕ → ClaimStage → (Word → ℕ) → ℕ → ℕ
claims_at tops k claims.ReadHead memory count = count
claims_at tops k (claims.ReadLink q t) memory count = count
claims_at tops k (claims.Take q t next) memory count = if memory (Head k) == head_word tops q t then count + 1 else count
claims_at tops k (claims.StoreUsed q t) memory count = count
claims_at tops k (claims.Withdraw own) memory count = count
claims_at tops k claims.Sweeps memory count = count

abbrev pub open_begins : Standing → OpenState → Option OpenState
open_begins Elsewhere later = Some later
open_begins (Claims claim) later = None
open_begins (Retires retirement) later = None

abbrev pub open_stepped : Sizes → ℕ → OpenState → ℕ → Standing → Option OpenState
open_stepped n last state c Elsewhere = None
open_stepped n last state c (Claims claim) =
    let turn = claim_accepts n last claim (state.memory (word_of (claim_wants claim))) in
    Some (record {
      memory = after_access state.memory (claim_wants claim);
      frontier = frontier_at n.tops claim.kind claim.stage state.memory state.frontier;
      claims = claims_at n.tops claim.kind claim.stage state.memory state.claims;
      who = put state.who c (claim_left turn.claim turn.ended);
    })
open_stepped n last state c (Retires retirement) =
    Some (record {
      memory = after_access state.memory (retire_wants retirement);
      frontier = state.frontier;
      claims = state.claims;
      who = put state.who c (retirement_left (retire_accepts retirement (state.memory (word_of (retire_wants retirement)))));
    })

-- one event, if it is enabled: what is retired is null, held an initial node or was claimed
abbrev pub open_event : Sizes → ℕ → OpenState → PoolEvent → Option OpenState
open_event n last state (BeginsClaim c k scheme) =
    if nat_lt k (length n.kinds) then open_begins (state.who c) (record state { who = put state.who c (Claims (claim_begun n k scheme)) }) else None
open_event n last state (BeginsRetirement c j) =
    if nat_lt j (state.frontier (kind_of n j)) then open_begins (state.who c) (record state { who = put state.who c (Retires (retire_begun j)) }) else None
open_event n last state (Steps c) = open_stepped n last state c (state.who c)
open_event n last state (Writes w x) = if is_other w then Some (record state { memory = store state.memory w x }) else None

abbrev pub open_on : Option OpenState → (OpenState → Option OpenState) → Option OpenState
open_on None next = None
open_on (Some state) next = next state

abbrev pub open_run : Sizes → ℕ → List PoolEvent → OpenState → Option OpenState
open_run n last [] state = Some state
open_run n last (event ∷ events) state = open_on (open_event n last state event) (open_run n last events)

abbrev pub open_start : Sizes → Beginning → (Word → ℕ) → OpenState
open_start n start memory = record { memory = memory; frontier = λ k. first_ready (range_of n k) (nodes_of start k); claims = 0; who = λ c. Elsewhere }

-- ---- what holds

-- a slot up to the frontier; none, 0, comes only after the last
abbrev pub IsNear : SlotRange → ℕ → ℕ → Type 0
IsNear range v x = ((x ≡ 0) × (range.last < v)) ⊎ ((range.first ≤ x) × (x ≤ v) × (x ≤ range.last))

-- a slot before the frontier
abbrev pub IsPast : SlotRange → ℕ → ℕ → Type 0
IsPast range v j = (range.first ≤ j) × (j < v)

-- one that may stand on top: if it was claimed, its link names none past the frontier either
abbrev pub IsGood : SlotRange → (Word → ℕ) → ℕ → ℕ → Type 0
IsGood range memory v x = IsNear range v x × (IsPast range v x → IsNear range v (memory (Link x)))

-- the words of kind k, whose slots are those of the range, if claims have come to v: from there on they are as at the start. The link of
-- a slot that was never pushed may name none
pub record IsOrdered (tops : ℕ) (range : SlotRange) (k nodes first : ℕ) (memory : Word → ℕ) (v : ℕ) : Type 0 where
  -- null is no slot of the range
  pub above_null : 1 ≤ range.first
  pub least : first_ready range nodes ≤ v
  pub greatest : v ≤ range.last + 1
  pub top_good : IsGood range memory v (top tops memory k)
  pub link_good : (j : ℕ) → IsPast range v j → IsNear range v (memory (Link j)) → IsGood range memory v (memory (Link j))
  pub link_first : (j : ℕ) → v ≤ j → j ≤ range.last → memory (Link j) ≡ slot_after range j
  pub status_first : (j : ℕ) → v ≤ j → j ≤ range.last → memory (Status j) ≡ status_word first kinds.Ready

-- those of all kinds, if each has so many initial nodes, and its claims have come to its frontier
abbrev pub AreOrdered : Sizes → (ℕ → ℕ) → ℕ → (Word → ℕ) → (ℕ → ℕ) → Type 0
AreOrdered n nodes first memory v = (k : ℕ) → k < length n.kinds → IsOrdered n.tops (range_of n k) k (nodes k) first memory (v k)

-- a slot that was claimed, by the frontier of its kind
abbrev pub WasClaimed : Sizes → (ℕ → ℕ) → ℕ → Type 0
WasClaimed n v j = IsPast (range_at n j) (v (kind_of n j)) j × (j ≤ (range_at n j).last)

-- and callers: what a sweep pushes was claimed, and goes to the head of its kind
abbrev pub SweepFits : Sizes → (Word → ℕ) → (ℕ → ℕ) → SweepStage → Type 0
SweepFits n memory v sweeps.ReadPhase = Unit {0}
SweepFits n memory v (sweeps.RaisePhase p) = Unit {0}
SweepFits n memory v (sweeps.Warn d) = Unit {0}
SweepFits n memory v (sweeps.ReadHazard d r) = Unit {0}
SweepFits n memory v (sweeps.ReadStatus j) = IsSlot (slot_range n) j
SweepFits n memory v (sweeps.MakeReady j q) = IsSlot (slot_range n) j
SweepFits n memory v (sweeps.PushHead k j) = WasClaimed n v j × (k ≡ kind_of n j)
SweepFits n memory v (sweeps.PushLink j q t) = WasClaimed n v j × IsGood (range_at n j) memory (v (kind_of n j)) t
SweepFits n memory v (sweeps.PushTop k j q t) = WasClaimed n v j × (k ≡ kind_of n j) × IsNear (range_at n j) (v (kind_of n j)) (memory (Link j))

-- a look at the chain of a kind
abbrev pub LookFits : SlotRange → (Word → ℕ) → ℕ → ℕ → ℕ → Type 0
LookFits range memory v t next = (range.first ≤ t) × IsGood range memory v t × (t < v → IsGood range memory v next) × (t ≡ v → next ≡ slot_after range t)

abbrev pub ClaimFits : Sizes → ℕ → (Word → ℕ) → (ℕ → ℕ) → SweepStage → ClaimStage → Type 0
ClaimFits n k memory v stage claims.ReadHead = Unit {0}
ClaimFits n k memory v stage (claims.ReadLink q t) = ((range_of n k).first ≤ t) × IsGood (range_of n k) memory (v k) t
ClaimFits n k memory v stage (claims.Take q t next) = LookFits (range_of n k) memory (v k) t next
ClaimFits n k memory v stage (claims.StoreUsed q t) = IsPast (range_of n k) (v k) t
ClaimFits n k memory v stage (claims.Withdraw own) = Unit {0}
ClaimFits n k memory v stage claims.Sweeps = SweepFits n memory v stage

abbrev pub Fits : Sizes → (Word → ℕ) → (ℕ → ℕ) → Standing → Type 0
Fits n memory v Elsewhere = Unit {0}
Fits n memory v (Claims claim) = (claim.kind < length n.kinds) × ClaimFits n claim.kind memory v claim.sweep.stage claim.stage × (claim.sweep.tops ≡ n.tops)
Fits n memory v (Retires retirement) = retirement.slot < v (kind_of n retirement.slot)

pub record OpenHolds (n : Sizes) (start : Beginning) (state : OpenState) : Type 0 where
  pub words : AreOrdered n (nodes_of start) start.first state.memory state.frontier
  pub fits : (c : ℕ) → Fits n state.memory state.frontier (state.who c)
  pub counted : (k : ℕ) → state.frontier k ≤ first_ready (range_of n k) (nodes_of start k) + state.claims

-- ---- laws

-- in each state of a run with any retirements
pub record ClaimsAreOrdered (n : Sizes) (start : Beginning) (state : OpenState) : Type 0 where
  -- if no slot is on top of a kind's chain, the kind's initial nodes and all claims together are at least as many as its slots
  pub full : (k : ℕ) → k < length n.kinds → top n.tops state.memory k ≡ 0 → slots_of n k ≤ nodes_of start k + state.claims
  -- a slot from the frontier of its kind on is as at the start
  pub ready : (j : ℕ) → state.frontier (kind_of n j) ≤ j → j ≤ n.slots → state.memory (Status j) ≡ status_word start.first kinds.Ready
  -- and no caller has it
  pub unclaimed : (c : ℕ) → slot_of (state.who c) < state.frontier (kind_of n (slot_of (state.who c)))

abbrev pub ClaimsStayOrdered : Sizes → ℕ → Beginning → Type 0
ClaimsStayOrdered n last start = AreKinds n → n.slots < n.tops → NodesFit n start → (memory : Word → ℕ) → StartsAs n start memory
    → (events : List PoolEvent) (state : OpenState) → open_run n last events (open_start n start memory) ≡ Some state → ClaimsAreOrdered n start state
