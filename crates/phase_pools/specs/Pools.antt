-- The pool of slots: claiming, with looks and sweeps, and retiring. Each routine is a state, the one access that it wants
-- there, and what the word found makes of it. The ready slots of a kind form a chain: the kind's head word names the one on top,
-- each slot's link the one below it, and 0 stands below the lowest. A head is stamped with a phase.
use Rattle.std.specs.Prelude.{ℕ, zero, suc, ◌+◌, ◌-◌, max, min, Bool, false, ◌&&◌, not, List, [], Option, Some, None, nat_lt, ◌==◌, if◌then◌else◌}
use Rattle.oa_words.specs.declared.packed.Kind.{Kind}
use Rattle.oa_words.specs.declared.packed.Kind.TheVariants as kinds
use Rattle.oa_words.specs.Words.{Phase, Warning, Hazard, Status, Head, Link, Sizes, slot_range}
use Rattle.oa_words.specs.SlotKinds.{kind_of}
use Rattle.oa_words.specs.Packed.{StatusParts, status_word, status_parts, HeadParts, head_word, head_parts}
use Rattle.guard_words.specs.Guards.{with_slot, has_slot}
use Rattle.phase_pools.specs.declared.access.ClaimEnd.{ClaimEnd}
use Rattle.phase_pools.specs.declared.access.ClaimEnd.TheVariants as ends
use Rattle.phase_pools.specs.declared.access.SweepEnd.{SweepEnd}
use Rattle.phase_pools.specs.declared.access.SweepEnd.TheVariants as swept
use Rattle.phase_pools.specs.declared.stages.Scheme.{Scheme}
use Rattle.phase_pools.specs.declared.stages.Scheme.TheVariants.{Warned, Announced}
use Rattle.phase_pools.specs.declared.stages.SweepStage.{SweepStage}
use Rattle.phase_pools.specs.declared.stages.SweepStage.TheVariants as sweeps
use Rattle.phase_pools.specs.declared.stages.ClaimStage.{ClaimStage}
use Rattle.phase_pools.specs.declared.stages.ClaimStage.TheVariants as claims
use Rattle.phase_pools.specs.declared.stages.RetireStage.{RetireStage}
use Rattle.phase_pools.specs.declared.stages.RetireStage.TheVariants as retires
use Rattle.phase_pools.specs.Accesses.{WordAccess, Loads, Stores, Exchanges, Raises}

-- a slot that isn't the first has one before it
abbrev pub has_lower : Sizes → ℕ → Bool
has_lower n j = nat_lt (slot_range n).first j

-- ---- sweeps

-- a sweep: its scheme, the number below which the tops of the row's heads stand, where it stands, the phase to which it raises (0
-- before it has one), the phase before which it recycles, which is never greater, and the slots gathered
pub record Sweep : Type 0 where
  pub scheme : Scheme
  pub tops : ℕ
  pub stage : SweepStage
  pub bound : ℕ
  pub low : ℕ
  pub gathered : List ℕ

abbrev pub sweep_begun : ℕ → Scheme → Sweep
sweep_begun tops scheme = record { scheme = scheme; tops = tops; stage = sweeps.ReadPhase; bound = 0; low = 0; gathered = [] }

-- a caller's warning is raised, or the phase that it has announced there is loaded
abbrev pub warn_wanted : Scheme → ℕ → ℕ → WordAccess
warn_wanted Warned c s = Raises (Warning c) s
warn_wanted (Announced own) c s = Loads (Warning c)

-- a push goes to the head of its slot's kind
abbrev pub sweep_wants_at : ℕ → Scheme → SweepStage → ℕ → WordAccess
sweep_wants_at tops scheme sweeps.ReadPhase s = Loads Phase
sweep_wants_at tops scheme (sweeps.RaisePhase p) s = Exchanges Phase p (p + 1)
sweep_wants_at tops scheme (sweeps.Warn c) s = warn_wanted scheme c s
sweep_wants_at tops scheme (sweeps.ReadHazard c r) s = Loads (Hazard c r)
sweep_wants_at tops scheme (sweeps.ReadStatus j) s = Loads (Status j)
sweep_wants_at tops scheme (sweeps.MakeReady j q) s = Exchanges (Status j) (status_word q kinds.Retired) (status_word s kinds.Ready)
sweep_wants_at tops scheme (sweeps.PushHead k j) s = Loads (Head k)
sweep_wants_at tops scheme (sweeps.PushLink j q t) s = Stores (Link j) t
sweep_wants_at tops scheme (sweeps.PushTop k j q t) s = Exchanges (Head k) (head_word tops q t) (head_word tops (max q s) j)

abbrev pub sweep_wants : Sweep → WordAccess
sweep_wants sweep = sweep_wants_at sweep.tops sweep.scheme sweep.stage sweep.bound

-- a sweep that goes on, and one that has ended; the state of one that has ended doesn't matter
pub record SweepTurn : Type 0 where
  pub sweep : Sweep
  pub ended : Option SweepEnd

abbrev pub sweep_goes : Sweep → SweepStage → SweepTurn
sweep_goes sweep stage = record { sweep = record sweep { stage = stage }; ended = None }

abbrev pub sweep_ends : Sweep → SweepEnd → SweepTurn
sweep_ends sweep end = record { sweep = sweep; ended = Some end }

-- on to the next lower slot, or to the end
abbrev pub sweep_on : Sizes → Sweep → ℕ → SweepTurn
sweep_on n sweep j = if has_lower n j then sweep_goes sweep (sweeps.ReadStatus (j - 1)) else sweep_ends sweep swept.Swept

-- in the last phase there is no further one to raise to
abbrev pub phase_read : ℕ → Sweep → ℕ → SweepTurn
phase_read last sweep p = if p == last then sweep_ends sweep (swept.PhasesOver p) else sweep_goes sweep (sweeps.RaisePhase p)

-- what follows the last warning: the hazards. If callers announce, there are none, and the statuses follow, from the greatest
-- slot down
abbrev pub warned_all : Sizes → Scheme → SweepStage
warned_all n Warned = sweeps.ReadHazard 0 0
warned_all n (Announced own) = sweeps.ReadStatus (slot_range n).last

-- the stage after a warning: only when every caller is warned is a hazard read
abbrev pub warn_next : Sizes → Scheme → ℕ → SweepStage
warn_next n scheme c = if nat_lt (c + 1) n.callers then sweeps.Warn (c + 1) else warned_all n scheme

-- a caller that has announced nothing holds nothing back
abbrev pub lower : ℕ → ℕ → ℕ
lower low zero = low
lower low (suc p) = min low (suc p)

abbrev pub low_after : Scheme → ℕ → ℕ → ℕ
low_after Warned low word = low
low_after (Announced own) low word = lower low word

abbrev pub warned : Sizes → Sweep → ℕ → ℕ → SweepTurn
warned n sweep c word = sweep_goes (record sweep { low = low_after sweep.scheme sweep.low word }) (warn_next n sweep.scheme c)

-- the stage after a hazard word: registers go first, and the slots are gone through from the greatest down
abbrev pub hazard_next : Sizes → ℕ → ℕ → SweepStage
hazard_next n c r =
    if nat_lt (r + 1) 8 then sweeps.ReadHazard c (r + 1)
    else (if nat_lt (c + 1) n.callers then sweeps.ReadHazard (c + 1) 0 else sweeps.ReadStatus (slot_range n).last)

abbrev pub hazard_read : Sizes → Sweep → ℕ → ℕ → ℕ → SweepTurn
hazard_read n sweep c r word = sweep_goes (record sweep { gathered = with_slot sweep.gathered word }) (hazard_next n c r)

-- a slot is made ready if it was retired before the sweep's low and no guard that was gathered names it
abbrev pub freeing : Sizes → Sweep → ℕ → ℕ → Kind → SweepTurn
freeing n sweep j q kinds.Ready = sweep_on n sweep j
freeing n sweep j q kinds.Used = sweep_on n sweep j
freeing n sweep j q kinds.Retired =
    if nat_lt q sweep.low && not (has_slot sweep.gathered j) then sweep_goes sweep (sweeps.MakeReady j q) else sweep_on n sweep j

abbrev pub status_read : Sizes → Sweep → ℕ → Option StatusParts → SweepTurn
status_read n sweep j None = sweep_on n sweep j
status_read n sweep j (Some parts) = freeing n sweep j parts.phase parts.kind

-- the sweep that made the slot ready, and no other, pushes it onto the chain of the slot's kind
abbrev pub made_ready : Sizes → Sweep → ℕ → ℕ → ℕ → SweepTurn
made_ready n sweep j q word = if word == status_word q kinds.Retired then sweep_goes sweep (sweeps.PushHead (kind_of n j) j) else sweep_on n sweep j

abbrev pub push_read : Sweep → ℕ → HeadParts → SweepTurn
push_read sweep j head = sweep_goes sweep (sweeps.PushLink j head.phase head.top)

-- the exchange succeeds exactly if it found what was expected; otherwise the push begins again, with the head loaded once more
abbrev pub pushed : Sizes → Sweep → ℕ → ℕ → ℕ → ℕ → SweepTurn
pushed n sweep j q t word = if word == head_word n.tops q t then sweep_on n sweep j else sweep_goes sweep (sweeps.PushHead (kind_of n j) j)

-- whether the exchange of the phase succeeds or not, the phase that was loaded is over
abbrev pub phase_raised : Sweep → ℕ → SweepTurn
phase_raised sweep p = sweep_goes (record sweep { bound = p + 1; low = p + 1 }) (sweeps.Warn 0)

abbrev pub sweep_accepts_at : Sizes → ℕ → Sweep → ℕ → SweepStage → SweepTurn
sweep_accepts_at n last sweep word sweeps.ReadPhase = phase_read last sweep word
sweep_accepts_at n last sweep word (sweeps.RaisePhase p) = phase_raised sweep p
sweep_accepts_at n last sweep word (sweeps.Warn c) = warned n sweep c word
sweep_accepts_at n last sweep word (sweeps.ReadHazard c r) = hazard_read n sweep c r word
sweep_accepts_at n last sweep word (sweeps.ReadStatus j) = status_read n sweep j (status_parts word)
sweep_accepts_at n last sweep word (sweeps.MakeReady j q) = made_ready n sweep j q word
sweep_accepts_at n last sweep word (sweeps.PushHead k j) = push_read sweep j (head_parts n.tops word)
sweep_accepts_at n last sweep word (sweeps.PushLink j q t) = sweep_goes sweep (sweeps.PushTop (kind_of n j) j q t)
sweep_accepts_at n last sweep word (sweeps.PushTop k j q t) = pushed n sweep j q t word

-- the sweep after its wanted access found a word
abbrev pub sweep_accepts : Sizes → ℕ → Sweep → ℕ → SweepTurn
sweep_accepts n last sweep word = sweep_accepts_at n last sweep word sweep.stage

-- ---- claims: look, sweep, look, sweep, look

-- a claim: the kind of which it takes a slot, where it stands, how many of its sweeps have ended, and the sweep under way, or the
-- last one, which has the claim's scheme and the row's tops
pub record Claim : Type 0 where
  pub kind : ℕ
  pub stage : ClaimStage
  pub sweeps : ℕ
  pub sweep : Sweep

abbrev pub claim_begun : Sizes → ℕ → Scheme → Claim
claim_begun n kind scheme = record { kind = kind; stage = claims.ReadHead; sweeps = 0; sweep = sweep_begun n.tops scheme }

-- looks go to the head of the claim's kind
abbrev pub claim_wants_at : ℕ → ℕ → Sweep → ClaimStage → WordAccess
claim_wants_at tops kind sweep claims.ReadHead = Loads (Head kind)
claim_wants_at tops kind sweep (claims.ReadLink q t) = Loads (Link t)
claim_wants_at tops kind sweep (claims.Take q t next) = Exchanges (Head kind) (head_word tops q t) (head_word tops q next)
claim_wants_at tops kind sweep (claims.StoreUsed q t) = Stores (Status t) (status_word q kinds.Used)
claim_wants_at tops kind sweep (claims.Withdraw own) = Stores (Warning own) 0
claim_wants_at tops kind sweep claims.Sweeps = sweep_wants_at tops sweep.scheme sweep.stage sweep.bound

abbrev pub claim_wants : Claim → WordAccess
claim_wants claim = claim_wants_at claim.sweep.tops claim.kind claim.sweep claim.stage

pub record ClaimTurn : Type 0 where
  pub claim : Claim
  pub ended : Option ClaimEnd

abbrev pub claim_goes : Claim → ClaimStage → ClaimTurn
claim_goes claim stage = record { claim = record claim { stage = stage }; ended = None }

abbrev pub claim_ends : Claim → ClaimEnd → ClaimTurn
claim_ends claim end = record { claim = claim; ended = Some end }

abbrev pub sweep_started : Claim → ClaimTurn
sweep_started claim = claim_goes (record claim { sweep = sweep_begun claim.sweep.tops claim.sweep.scheme }) claims.Sweeps

-- a caller that announces withdraws its own announcement before the first of its sweeps
abbrev pub sweep_follows : Scheme → ℕ → Claim → ClaimTurn
sweep_follows Warned made claim = sweep_started claim
sweep_follows (Announced own) zero claim = claim_goes claim (claims.Withdraw own)
sweep_follows (Announced own) (suc made) claim = sweep_started claim

-- a look that claimed nothing: after the second sweep it was the last
abbrev pub look_ended : Claim → ClaimTurn
look_ended claim = if claim.sweeps == 2 then claim_ends claim ends.Full else sweep_follows claim.sweep.scheme claim.sweeps claim

-- if no slot is on top, there is none to claim
abbrev pub look_begun : Claim → HeadParts → ClaimTurn
look_begun claim head = if head.top == 0 then look_ended claim else claim_goes claim (claims.ReadLink head.phase head.top)

-- a slot is taken from the chain exactly if the exchange found what was expected
abbrev pub takes_at : ℕ → ClaimStage → ℕ → Bool
takes_at tops claims.ReadHead word = false
takes_at tops (claims.ReadLink q t) word = false
takes_at tops (claims.Take q t next) word = word == head_word tops q t
takes_at tops (claims.StoreUsed q t) word = false
takes_at tops (claims.Withdraw own) word = false
takes_at tops claims.Sweeps word = false

-- whether the claim takes a slot if its wanted access found a word: a claim is counted then, although it ends only with
-- the store after it
abbrev pub claim_takes : Sizes → Claim → ℕ → Bool
claim_takes n claim word = takes_at n.tops claim.stage word

-- a look whose exchange failed begins again, with the head loaded once more
abbrev pub look_took : Sizes → Claim → ℕ → ℕ → ℕ → ClaimTurn
look_took n claim q t word = if word == head_word n.tops q t then claim_goes claim (claims.StoreUsed q t) else claim_goes claim claims.ReadHead

-- after a sweep comes a look; a sweep that finds the last phase ends the claim
abbrev pub sweep_ended : Claim → Sweep → Option SweepEnd → ClaimTurn
sweep_ended claim sweep None = record { claim = record claim { sweep = sweep }; ended = None }
sweep_ended claim sweep (Some swept.Swept) = record { claim = record claim { stage = claims.ReadHead; sweeps = claim.sweeps + 1; sweep = sweep }; ended = None }
sweep_ended claim sweep (Some (swept.PhasesOver p)) = claim_ends (record claim { sweep = sweep }) (ends.PhasesOver p)

abbrev pub claim_sweeps : Claim → SweepTurn → ClaimTurn
claim_sweeps claim turn = sweep_ended claim turn.sweep turn.ended

abbrev pub claim_accepts_at : Sizes → ℕ → Claim → ℕ → ClaimStage → ClaimTurn
claim_accepts_at n last claim word claims.ReadHead = look_begun claim (head_parts n.tops word)
claim_accepts_at n last claim word (claims.ReadLink q t) = claim_goes claim (claims.Take q t word)
claim_accepts_at n last claim word (claims.Take q t next) = look_took n claim q t word
claim_accepts_at n last claim word (claims.StoreUsed q t) = claim_ends claim (ends.Claimed t)
claim_accepts_at n last claim word (claims.Withdraw own) = sweep_started claim
claim_accepts_at n last claim word claims.Sweeps = claim_sweeps claim (sweep_accepts n last claim.sweep word)

-- whether a sweep loads the phase and finds the last one
abbrev pub finds_last : ℕ → SweepStage → ℕ → Bool
finds_last last sweeps.ReadPhase word = word == last
finds_last last _ word = false

abbrev pub phases_end : Bool → ℕ → Option ClaimEnd
phases_end over p = if over then Some (ends.PhasesOver p) else None

-- the claim after its wanted access found a word
abbrev pub claim_accepts : Sizes → ℕ → Claim → ℕ → ClaimTurn
claim_accepts n last claim word = claim_accepts_at n last claim word claim.stage

-- ---- retirements

-- the retirement of a slot
pub record Retirement : Type 0 where
  pub slot : ℕ
  pub stage : RetireStage

abbrev pub retire_begun : ℕ → Retirement
retire_begun slot = record { slot = slot; stage = retires.ReadPhase }

abbrev pub retire_wants_at : ℕ → RetireStage → WordAccess
retire_wants_at slot retires.ReadPhase = Loads Phase
retire_wants_at slot (retires.StoreStatus p) = Stores (Status slot) (status_word p kinds.Retired)

abbrev pub retire_wants : Retirement → WordAccess
retire_wants retirement = retire_wants_at retirement.slot retirement.stage

-- what is left of it; none if it has ended
abbrev pub retire_accepts_at : ℕ → ℕ → RetireStage → Option Retirement
retire_accepts_at slot word retires.ReadPhase = Some (record { slot = slot; stage = retires.StoreStatus word })
retire_accepts_at slot word (retires.StoreStatus p) = None

abbrev pub retire_accepts : Retirement → ℕ → Option Retirement
retire_accepts retirement word = retire_accepts_at retirement.slot word retirement.stage
