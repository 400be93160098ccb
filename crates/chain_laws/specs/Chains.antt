-- The ready slots of each kind as a chain, the stack of Treiber (1986) with a phase as its stamp, and who has each slot.
use Rattle.std.specs.Prelude.{ℕ, suc, ◌≡◌, ◌≢◌, ◌≤◌, ◌<◌, List, [], ◌∷◌, length, Option, Some, None, ◌==◌, if◌then◌else◌}
use Rattle.oa_words.specs.declared.packed.Kind.{Kind}
use Rattle.oa_words.specs.declared.packed.Kind.TheVariants as kinds
use Rattle.oa_words.specs.Words.{Word, Phase, Status, Head, Link, Sizes, SlotRange, slot_range, IsSlot}
use Rattle.oa_words.specs.SlotKinds.{kind_of}
use Rattle.oa_words.specs.Packed.{status_word, head_parts}
use Rattle.chain_laws.specs.Memories.{put}

-- from a top on each slot's link names the one below it, and 0 stands below the lowest
abbrev pub IsChain : (ℕ → ℕ) → ℕ → List ℕ → Type 0
IsChain link top [] = top ≡ 0
IsChain link top (j ∷ below) = (top ≡ j) × (j ≢ 0) × IsChain link (link j) below

-- how often a slot stands in it
abbrev pub times : ℕ → List ℕ → ℕ
times j [] = 0
times j (i ∷ below) = if i == j then suc (times j below) else times j below

-- what a slot stands on
abbrev pub below_top : List ℕ → List ℕ
below_top [] = []
below_top (j ∷ below) = below

-- who has a slot
pub data Owner : Type 0 where
  Chained : Owner  -- it is in the chain of its kind
  Taken : (c : ℕ) → Owner  -- a claim of c has taken it from its kind's chain, and hasn't stored that it is used
  Pushing : (c s : ℕ) → Owner  -- a sweep of c that raises to phase s has made it ready, and pushes it
  Outside : Owner  -- it is used, and nobody retires it; or it is null
  Retiring : (c : ℕ) (tag : Option ℕ) → Owner  -- c retires it, and has loaded this phase or none yet
  Retired : (tag : ℕ) → Owner  -- its status is retired, with this phase

-- the caller that has it, if it is one's
abbrev pub caller_of : Owner → Option ℕ
caller_of Chained = None
caller_of (Taken c) = Some c
caller_of (Pushing c s) = Some c
caller_of Outside = None
caller_of (Retiring c tag) = Some c
caller_of (Retired tag) = None

-- the owner of each slot, and the slots of each kind's chain from the top on
pub record Hands : Type 0 where
  pub owner : ℕ → Owner
  pub chain : ℕ → List ℕ

abbrev pub handed : Hands → ℕ → Owner → Hands
handed hands j o = record hands { owner = put hands.owner j o }

-- a slot is put on top of a kind's chain
abbrev pub with_top : Hands → ℕ → ℕ → Hands
with_top hands k j = record { owner = put hands.owner j Chained; chain = put hands.chain k (j ∷ hands.chain k) }

-- c takes the top of a kind's chain
abbrev pub without_top : Hands → ℕ → ℕ → ℕ → Hands
without_top hands k c j = record { owner = put hands.owner j (Taken c); chain = put hands.chain k (below_top (hands.chain k)) }

-- the phase that a kind's head is stamped with, and the slot on top of its chain, if the row has so many tops
abbrev pub stamp : ℕ → (Word → ℕ) → ℕ → ℕ
stamp tops memory k = (head_parts tops (memory (Head k))).phase

abbrev pub top : ℕ → (Word → ℕ) → ℕ → ℕ
top tops memory k = (head_parts tops (memory (Head k))).top

abbrev pub links : (Word → ℕ) → ℕ → ℕ
links memory j = memory (Link j)

-- a status word of a kind
abbrev pub IsOf : Kind → ℕ → Type 0
IsOf kind word = (q : ℕ) × (word ≡ status_word q kind)

-- once for a slot of a chain, never for any other
abbrev pub once : Owner → ℕ
once Chained = 1
once (Taken c) = 0
once (Pushing c s) = 0
once Outside = 0
once (Retiring c tag) = 0
once (Retired tag) = 0

-- and so in the chain of one kind: once for a slot of this chain
abbrev pub once_in : Sizes → ℕ → ℕ → Owner → ℕ
once_in n k j o = if kind_of n j == k then once o else 0

-- a phase that was loaded doesn't pass another
abbrev pub UpTo : ℕ → Option ℕ → Type 0
UpTo phase None = Unit {0}
UpTo phase (Some tag) = tag ≤ phase

-- the status word of a slot by its owner, if the stamp of its kind's head and the phase are these
abbrev pub SlotHolds : SlotRange → ℕ → ℕ → ℕ → ℕ → Owner → Type 0
SlotHolds range stamped phase j word Chained = IsSlot range j × ((q : ℕ) × (word ≡ status_word q kinds.Ready) × (q ≤ stamped))
SlotHolds range stamped phase j word (Taken c) = IsSlot range j × IsOf kinds.Ready word
SlotHolds range stamped phase j word (Pushing c s) = IsSlot range j × (word ≡ status_word s kinds.Ready) × (s ≤ phase)
SlotHolds range stamped phase j word Outside = j ≤ range.last → IsOf kinds.Used word
SlotHolds range stamped phase j word (Retiring c tag) = IsSlot range j × IsOf kinds.Used word × UpTo phase tag
SlotHolds range stamped phase j word (Retired tag) = IsSlot range j × (word ≡ status_word tag kinds.Retired) × (tag ≤ phase)

-- what holds of the pool's words at each moment
pub record PoolHolds (n : Sizes) (memory : Word → ℕ) (hands : Hands) : Type 0 where
  -- no head's stamp passes the phase
  pub stamped : (k : ℕ) → k < length n.kinds → stamp n.tops memory k ≤ memory Phase
  -- each kind's chain hangs on its head
  pub linked : (k : ℕ) → k < length n.kinds → IsChain (links memory) (top n.tops memory k) (hands.chain k)
  -- each of its slots is of the kind and stands in it once, and no other slot does
  pub stands : (k j : ℕ) → times j (hands.chain k) ≡ once_in n k j (hands.owner j)
  -- each slot has the status that its owner gave it
  pub slot : (j : ℕ) → SlotHolds (slot_range n) (stamp n.tops memory (kind_of n j)) (memory Phase) j (memory (Status j)) (hands.owner j)
