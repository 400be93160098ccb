-- Where routines may stand, and which words they may be told.
use Rattle.std.specs.Prelude.{◌≡◌, ℕ, ◌+◌, ◌*◌, ◌≤◌, ◌<◌, ◌^◌, length, IsSomeAnd}
use Rattle.oa_words.specs.Words.{Sizes}
use Rattle.oa_words.specs.SlotKinds.{kind_of}
use Rattle.oa_words.specs.Packed.{StatusParts, status_parts, head_parts}
use Rattle.phase_pools.specs.declared.stages.Scheme.{Scheme}
use Rattle.phase_pools.specs.declared.stages.Scheme.TheVariants.{Warned, Announced}
use Rattle.phase_pools.specs.declared.stages.SweepStage.{SweepStage}
use Rattle.phase_pools.specs.declared.stages.SweepStage.TheVariants as sweeps
use Rattle.phase_pools.specs.declared.stages.ClaimStage.{ClaimStage}
use Rattle.phase_pools.specs.declared.stages.ClaimStage.TheVariants as claims
use Rattle.phase_pools.specs.declared.stages.RetireStage.{RetireStage}
use Rattle.phase_pools.specs.declared.stages.RetireStage.TheVariants as retires
use Rattle.phase_pools.specs.Accesses.{IsPhase}
use Rattle.phase_pools.specs.Pools.{Sweep}

-- ---- what each state keeps, whatever the row

-- each hazard word that was loaded added at most one slot: with 8 callers and 8 registers, at most 64
abbrev pub GathersFew : SweepStage → ℕ → Type 0
GathersFew sweeps.ReadPhase count = count ≡ 0
GathersFew (sweeps.RaisePhase p) count = count ≡ 0
GathersFew (sweeps.Warn c) count = count ≡ 0
GathersFew (sweeps.ReadHazard c r) count = count ≤ 8 * c + r
GathersFew (sweeps.ReadStatus j) count = count ≤ 64
GathersFew (sweeps.MakeReady j q) count = count ≤ 64
GathersFew (sweeps.PushHead k j) count = count ≤ 64
GathersFew (sweeps.PushLink j q t) count = count ≤ 64
GathersFew (sweeps.PushTop k j q t) count = count ≤ 64

-- the phase that the sweep raises to has one after it, and once it is raised it is a phase; that of a head that was
-- loaded fits a head
abbrev pub HasPhase : SweepStage → ℕ → Type 0
HasPhase sweeps.ReadPhase s = Unit {0}
HasPhase (sweeps.RaisePhase p) s = p < 2 ^ 50
HasPhase (sweeps.Warn c) s = IsPhase s
HasPhase (sweeps.ReadHazard c r) s = IsPhase s
HasPhase (sweeps.ReadStatus j) s = IsPhase s
HasPhase (sweeps.MakeReady j q) s = IsPhase s × (q < s)
HasPhase (sweeps.PushHead k j) s = IsPhase s
HasPhase (sweeps.PushLink j q t) s = IsPhase s × (q ≤ 2 ^ 50)
HasPhase (sweeps.PushTop k j q t) s = IsPhase s × (q ≤ 2 ^ 50)

-- a sweep stands at slots other than null
abbrev pub StandsAtSlot : SweepStage → Type 0
StandsAtSlot sweeps.ReadPhase = Unit {0}
StandsAtSlot (sweeps.RaisePhase p) = Unit {0}
StandsAtSlot (sweeps.Warn c) = Unit {0}
StandsAtSlot (sweeps.ReadHazard c r) = Unit {0}
StandsAtSlot (sweeps.ReadStatus j) = 1 ≤ j
StandsAtSlot (sweeps.MakeReady j q) = 1 ≤ j
StandsAtSlot (sweeps.PushHead k j) = 1 ≤ j
StandsAtSlot (sweeps.PushLink j q t) = 1 ≤ j
StandsAtSlot (sweeps.PushTop k j q t) = 1 ≤ j

-- a push goes to the head of its slot's kind
abbrev pub PushesByKind : Sizes → SweepStage → Type 0
PushesByKind n sweeps.ReadPhase = Unit {0}
PushesByKind n (sweeps.RaisePhase p) = Unit {0}
PushesByKind n (sweeps.Warn c) = Unit {0}
PushesByKind n (sweeps.ReadHazard c r) = Unit {0}
PushesByKind n (sweeps.ReadStatus j) = Unit {0}
PushesByKind n (sweeps.MakeReady j q) = Unit {0}
PushesByKind n (sweeps.PushHead k j) = k ≡ kind_of n j
PushesByKind n (sweeps.PushLink j q t) = Unit {0}
PushesByKind n (sweeps.PushTop k j q t) = k ≡ kind_of n j

-- a claim makes at most two sweeps
abbrev pub SweepsFew : ClaimStage → ℕ → Type 0
SweepsFew claims.ReadHead count = count ≤ 2
SweepsFew (claims.ReadLink q t) count = count ≤ 2
SweepsFew (claims.Take q t next) count = count ≤ 2
SweepsFew (claims.StoreUsed q t) count = count ≤ 2
SweepsFew (claims.Withdraw own) count = count < 2
SweepsFew claims.Sweeps count = count < 2

-- a slot is taken from under a phase that fits a head and a status
abbrev pub TakesFitting : ClaimStage → Type 0
TakesFitting claims.ReadHead = Unit {0}
TakesFitting (claims.ReadLink q t) = q ≤ 2 ^ 50
TakesFitting (claims.Take q t next) = q ≤ 2 ^ 50
TakesFitting (claims.StoreUsed q t) = q ≤ 2 ^ 50
TakesFitting (claims.Withdraw own) = Unit {0}
TakesFitting claims.Sweeps = Unit {0}

-- a retirement stores a phase that fits a status
abbrev pub FitsStatus : ℕ → Type 0
FitsStatus p = 4 * p + 4 ≤ 2 ^ 64

abbrev pub StoresFitting : RetireStage → Type 0
StoresFitting retires.ReadPhase = Unit {0}
StoresFitting (retires.StoreStatus p) = FitsStatus p

-- ---- the caller, register, slots and kind at which a routine stands are in the row

-- the caller that announces is one of them
abbrev pub HasOwn : Sizes → Scheme → Type 0
HasOwn n Warned = Unit {0}
HasOwn n (Announced own) = own < n.callers

abbrev pub SweepInRange : Sizes → SweepStage → Type 0
SweepInRange n sweeps.ReadPhase = Unit {0}
SweepInRange n (sweeps.RaisePhase p) = Unit {0}
SweepInRange n (sweeps.Warn c) = c < n.callers
SweepInRange n (sweeps.ReadHazard c r) = (c < n.callers) × (r < 8)
SweepInRange n (sweeps.ReadStatus j) = j ≤ n.slots
SweepInRange n (sweeps.MakeReady j q) = j ≤ n.slots
SweepInRange n (sweeps.PushHead k j) = (k < length n.kinds) × (j ≤ n.slots)
SweepInRange n (sweeps.PushLink j q t) = (j ≤ n.slots) × (t ≤ n.slots)
SweepInRange n (sweeps.PushTop k j q t) = (k < length n.kinds) × (j ≤ n.slots) × (t ≤ n.slots)

abbrev pub ClaimInRange : Sizes → Sweep → ClaimStage → Type 0
ClaimInRange n sweep claims.ReadHead = Unit {0}
ClaimInRange n sweep (claims.ReadLink q t) = t ≤ n.slots
ClaimInRange n sweep (claims.Take q t next) = (t ≤ n.slots) × (next ≤ n.slots)
ClaimInRange n sweep (claims.StoreUsed q t) = t ≤ n.slots
ClaimInRange n sweep (claims.Withdraw own) = own < n.callers
ClaimInRange n sweep claims.Sweeps = SweepInRange n sweep.stage

-- ---- the words that a routine may be told

-- a status with a kind, and a phase up to one
abbrev pub IsStatus : ℕ → ℕ → Type 0
IsStatus last word = IsSomeAnd (status_parts word) (λ (parts : StatusParts). parts.phase ≤ last)

-- a head with a phase up to one, and a slot on top or none
abbrev pub IsHead : Sizes → ℕ → ℕ → Type 0
IsHead n last word = ((head_parts n.tops word).phase ≤ last) × ((head_parts n.tops word).top ≤ n.slots)

-- a store may be told any word
abbrev pub SweepTold : Sizes → ℕ → SweepStage → ℕ → Type 0
SweepTold n last sweeps.ReadPhase word = word ≤ last
SweepTold n last (sweeps.RaisePhase p) word = word ≤ last
SweepTold n last (sweeps.Warn c) word = word ≤ last
SweepTold n last (sweeps.ReadHazard c r) word = word ≤ n.slots
SweepTold n last (sweeps.ReadStatus j) word = IsStatus last word
SweepTold n last (sweeps.MakeReady j q) word = IsStatus last word
SweepTold n last (sweeps.PushHead k j) word = IsHead n last word
SweepTold n last (sweeps.PushLink j q t) word = Unit {0}
SweepTold n last (sweeps.PushTop k j q t) word = IsHead n last word

abbrev pub ClaimTold : Sizes → ℕ → Sweep → ClaimStage → ℕ → Type 0
ClaimTold n last sweep claims.ReadHead word = IsHead n last word
ClaimTold n last sweep (claims.ReadLink q t) word = word ≤ n.slots
ClaimTold n last sweep (claims.Take q t next) word = IsHead n last word
ClaimTold n last sweep (claims.StoreUsed q t) word = Unit {0}
ClaimTold n last sweep (claims.Withdraw own) word = Unit {0}
ClaimTold n last sweep claims.Sweeps word = SweepTold n last sweep.stage word

-- the load is told a phase that fits a status, and the store any word
abbrev pub RetireTold : RetireStage → ℕ → Type 0
RetireTold retires.ReadPhase word = FitsStatus word
RetireTold (retires.StoreStatus p) word = Unit {0}
