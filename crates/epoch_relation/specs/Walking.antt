-- Where an announced caller is in a method run: the source's caller is at the same place, and each register holds the same on both
-- sides.
use Rattle.std.specs.Prelude.{ℕ, zero, suc, ◌≡◌, ◌≢◌, ◌≤◌, ◌+◌, Bool, true, false, List, [], ◌∷◌, ◌++◌, length, nat_lt, Some, None, slice_get}
use Rattle.norm_lang.specs.declared.text.Instr.TheVariants as instr
use Rattle.oa_words.specs.Words.{Phase}
use Rattle.caller_parts.specs.declared.routine.AfterRetire.{AfterRetire}
use Rattle.caller_parts.specs.declared.routine.AfterRetire.TheVariants as onward
use Rattle.caller_parts.specs.Operands.{list_of}
use Rattle.phase_pools.specs.declared.stages.Scheme.TheVariants.{Announced}
use Rattle.phase_pools.specs.declared.stages.ClaimStage.{ClaimStage}
use Rattle.phase_pools.specs.declared.stages.ClaimStage.TheVariants as claims
use Rattle.target_laws.specs.target_runs.Sane.{Sane}
use Rattle.target_laws.specs.Methods.{Method}
use Rattle.norm_lang.specs.declared.text.Reg.{Reg}
use Rattle.norm_lang.specs.declared.text.Reg.TheVariants.{Ref}
use Rattle.norm_lang.specs.declared.registers.Registers.{Registers}
use Rattle.norm_lang.specs.Limits.{IsWithinLimits}
use Rattle.norm_lang.specs.Local.{Spot}
use Rattle.norm_lang.specs.NormalForm.{IsNormal}
use Rattle.norm_lang.specs.Registers.{first_registers, node_in}
use Rattle.target_code.specs.Erasing.{ErasesTo}
use Rattle.target_code.specs.Paths.{TargetPath}
use Rattle.target_code.specs.PathStates.{is_fresh_along}
use Rattle.target_laws.specs.Methods.{code_in}
use Rattle.norm_lang.specs.declared.reply.SourceReply.{SourceReply}
use Rattle.source_machine.specs.Proper.{has}
use Rattle.caller_parts.specs.declared.setting.Reclamation.TheVariants.{Epochs}
use Rattle.caller_parts.specs.Settings.{Fits, IsSetting}
use Rattle.run_ahead.specs.Agreeing.{Agree, HaveSameSize}
use Rattle.run_ahead.specs.Known.{AreGot}
use Rattle.run_ahead.specs.Standing.{caller_of, stands_at, stands_in_list, wrap_up_after, begins_at, run_from}
use Rattle.run_ahead.specs.Following.{Walk}
use Rattle.target_code.specs.Bare.{bare}
use Rattle.caller_parts.specs.declared.routine.AnnounceReason.{AnnounceReason}
use Rattle.caller_parts.specs.declared.routine.AnnounceReason.TheVariants.{Begin, Again, Swept}
use Rattle.caller_parts.specs.declared.routine.Announcing.{Announcing}
use Rattle.caller_parts.specs.declared.routine.Announcing.TheVariants as announces
use Rattle.caller_parts.specs.declared.routine.Routine.{Routine}
use Rattle.caller_parts.specs.declared.routine.Routine.TheVariants.{Idle, LoadSeen, At, InList, Retires, Restarts, Clears, Claims, Zeroes, Announces}
use Rattle.caller_steps.specs.Entries.{instr_in, cradle_of}
use Rattle.oa_simulation.specs.sim_relation.Views.{Plan, Held, Shared, Resident, Apart, link}
use Rattle.oa_simulation.specs.sim_relation.Callers.{Own, Shown, replies_of, call_of, spot_of, HasMade, RetiresAt, Zeroed}
use Rattle.epoch_relation.specs.Callers.{Caller, Base, IsSafe, IsAnnounced, ClaimAt}

-- a text in normal form, run as it is
pub record IsPlan (t : Plan) : Type 0 where
  pub target_is : t.target ≡ bare t.text
  pub normal : IsNormal t.text
  pub within : IsWithinLimits t.text
  pub erases : ErasesTo t.target t.text
  pub sane : Sane t.target
  pub some : IsSetting t.setting
  pub fits : Fits t.target t.setting
  pub callers : 1 ≤ t.setting.sizes.callers
  pub null : t.home 0 ≡ 0
  pub epochs : t.setting.reclamation ≡ Epochs

-- a way through a method run: the run, the path to where local code has come, and the registers that the source has there
pub record Trail (t : Plan) : Type 0 where
  pub walk : Walk t.target t.text
  pub path : List ℕ
  pub mirror : Registers

pub record Walks (t : Plan) (s : Shared) (d : ℕ) (x : Caller) (core : Spot) (m : Trail t) : Type 0 where
  pub call : m.walk.call ≡ call_of x.entry
  pub wrapup : x.entry.hand.wrapup ≡ m.walk.method.wrapup
  pub number : m.walk.call.number ≡ m.walk.method.number
  pub generator : m.walk.method.wrapup ≡ false → m.walk.started ≡ first_registers m.walk.call.args
  pub path_is : TargetPath (code_in m.walk.method) m.path core.at
  pub sized : HaveSameSize core.registers m.mirror
  pub agree : (r : Reg) → Agree t.home core.registers m.mirror r
  -- each name in a register is one that an announced caller may hold
  pub safe : (r : ℕ) → IsSafe t s d x (node_in m.mirror r)
  -- what is fresh is the caller's own, and what isn't is null or published
  pub fresh : m.walk.method.wrapup ≡ false → (r : ℕ) → is_fresh_along (code_in m.walk.method) m.path (Ref r) ≡ true → Own t s d (node_in m.mirror r)
  pub shown : m.walk.method.wrapup ≡ false → (r : ℕ) → is_fresh_along (code_in m.walk.method) m.path (Ref r) ≡ false → Shown s (node_in m.mirror r)

-- the same in the list, where what was fresh may be published
pub record Listed (t : Plan) (s : Shared) (d : ℕ) (x : Caller) (core : Spot) (m : Trail t) : Type 0 where
  pub call : m.walk.call ≡ call_of x.entry
  pub wrapup : x.entry.hand.wrapup ≡ m.walk.method.wrapup
  pub number : m.walk.call.number ≡ m.walk.method.number
  pub path_is : TargetPath (code_in m.walk.method) m.path core.at
  pub sized : HaveSameSize core.registers m.mirror
  pub agree : (r : Reg) → Agree t.home core.registers m.mirror r
  pub safe : (r : ℕ) → IsSafe t s d x (node_in m.mirror r)
  pub shown : m.walk.method.wrapup ≡ false → (r : ℕ) → is_fresh_along (code_in m.walk.method) m.path (Ref r) ≡ false → Shown s (node_in m.mirror r)

-- the names that the run has got
pub record Gets (t : Plan) (s : Shared) (d : ℕ) (x : Caller) (m : Trail t) : Type 0 where
  -- what it has set is null or was got
  pub got : AreGot m.walk.method m.path m.walk.started m.mirror x.watch.got
  -- the caller's own came by its `new`
  pub made : (n k : ℕ) → has n x.watch.got ≡ true → s.owner (t.home n) ≡ Held d k → Resident t s n → HasMade (code_in m.walk.method) m.path k
  pub safe : (n : ℕ) → has n x.watch.got ≡ true → IsSafe t s d x n
  -- a wrap-up gets what is published alone
  pub known : m.walk.method.wrapup ≡ true → (n : ℕ) → has n x.watch.got ≡ true → s.public n ≡ true
  -- the method run began at the announcement or after it
  pub older : (n : ℕ) → has n x.old ≡ true → has n x.watch.old ≡ true

-- what a field of a name in a register names has another home than what is in a register, or is the same: once true, true for good. A
-- caller knows it once its source has come to the list, where nothing is owed by a proper text any more
abbrev pub Pairs : (t : Plan) → Shared → Trail t → Type 0
Pairs t s m = (r e g : ℕ) → Apart t (link s (node_in m.mirror r) g) (node_in m.mirror e)

-- the source's caller stands where its local code leads from there
abbrev pub StandsFrom : (t : Plan) → Caller → Spot → Trail t → Bool → Type 0
StandsFrom t x core m accessed =
    x.source ≡ stands_at m.walk.method.op m.walk.method.wrapup m.walk.started accessed m.walk.call (run_from m.walk.method.op m.walk.method.wrapup (record { at = core.at; registers = m.mirror }))

-- or at the spot itself, where local code has stopped
abbrev pub StandsAt : (t : Plan) → Caller → Spot → Trail t → Bool → Type 0
StandsAt t x core m accessed = x.source ≡ stands_at m.walk.method.op m.walk.method.wrapup m.walk.started accessed m.walk.call (record { at = core.at; registers = m.mirror })

-- an announced caller before an access of a method run
abbrev pub Running : (t : Plan) → Shared → ℕ → Caller → Type 0
Running t s d x = (m : Trail t) × Walks t s d x (spot_of x.entry.hand) m × Gets t s d x m × StandsAt t x (spot_of x.entry.hand) m x.entry.hand.accessed × IsAnnounced s d

-- and where its local code has yet to run from a spot
abbrev pub RunsFrom : (t : Plan) → Shared → ℕ → Caller → Spot → Type 0
RunsFrom t s d x core = (m : Trail t) × Walks t s d x core m × Gets t s d x m × StandsFrom t x core m x.entry.hand.accessed × IsAnnounced s d × (m.walk.method.wrapup ≡ false → Pairs t s m)

-- ---- while no method runs

-- in the list, so many exchanges having succeeded
abbrev pub InExecutor : (t : Plan) → Shared → ℕ → Caller → ℕ → Type 0
InExecutor t s d x k = (m : Trail t) × Listed t s d x (spot_of x.entry.hand) m × (m.walk.method.wrapup ≡ false)
    × (x.source ≡ stands_in_list x.entry.hand.at (list_of (instr_in t.target x.entry)) k m.mirror m.walk.call) × IsAnnounced s d × Pairs t s m

-- the list has ended, so many exchanges having succeeded: the source has begun the wrap-up
abbrev pub Committed : (t : Plan) → Shared → ℕ → Caller → ℕ → Type 0
Committed t s d x made = (m : Trail t) × Listed t s d x (spot_of x.entry.hand) m × (m.walk.method.wrapup ≡ false)
    × (x.source ≡ wrap_up_after m.walk.method.op made m.mirror m.walk.call) × IsAnnounced s d × (x.watch.got ≡ []) × ((n : ℕ) → has n x.old ≡ true → has n x.watch.old ≡ true)

abbrev pub AfterExchange : (t : Plan) → Shared → ℕ → Caller → ℕ → Bool → Type 0
AfterExchange t s d x made true = InExecutor t s d x made
AfterExchange t s d x made false = Committed t s d x made

abbrev pub IsIdle : Caller → Type 0
IsIdle x = x.source ≡ caller_of (call_of x.entry)

-- the source's caller has ended the call, with one more reply
abbrev pub HasReplied : Caller → SourceReply → Type 0
HasReplied x reply = x.source ≡ record { replies = replies_of x.entry ++ reply ∷ []; running = None }

-- it has begun the operation again
abbrev pub HasBegunAgain : Plan → Caller → Type 0
HasBegunAgain t x = (method : Method t.target t.text) × ((call_of x.entry).number ≡ method.number) × (x.source ≡ begins_at method.op false (first_registers (call_of x.entry).args) (call_of x.entry))

-- it stands at a `new` of its generator, whatever it holds
abbrev pub Waits : Plan → Caller → Type 0
Waits t x = (method : Method t.target t.text) × (there : Spot) × (started : Registers) × (at : Reg) × (kind : ℕ) × ((call_of x.entry).number ≡ method.number) × (slice_get method.op.generator there.at ≡ Some (instr.New at kind))
    × (x.source ≡ stands_at method.op false started x.entry.hand.accessed (call_of x.entry) there)

-- ---- the rest

-- where a retirement goes on
abbrev pub GoesOn : (t : Plan) → Shared → ℕ → Caller → AfterRetire → Type 0
GoesOn t s d x onward.Next = RunsFrom t s d x (record { at = x.entry.hand.at + 1; registers = x.entry.hand.registers })
GoesOn t s d x (onward.List k) = AfterExchange t s d x (k + 1) (nat_lt (k + 1) (length (list_of (instr_in t.target x.entry))))

abbrev pub BeginsAt : Plan → Caller → AnnounceReason → Type 0
BeginsAt t x Begin = IsIdle x
BeginsAt t x Again = HasBegunAgain t x
BeginsAt t x Swept = Waits t x

-- the phase that is announced was the phase word at some time
abbrev pub IsLoaded : Shared → ℕ → Type 0
IsLoaded s p = (1 ≤ p) × (p ≤ s.memory Phase)

abbrev pub has_swept : ℕ → Bool
has_swept zero = false
has_swept (suc n) = true

-- a claim has withdrawn its caller's announcement
abbrev pub has_withdrawn : ClaimStage → ℕ → Bool
has_withdrawn claims.ReadHead made = has_swept made
has_withdrawn (claims.ReadLink q j) made = has_swept made
has_withdrawn (claims.Take q j next) made = has_swept made
has_withdrawn (claims.StoreUsed q j) made = has_swept made
has_withdrawn (claims.Withdraw own) made = false
has_withdrawn claims.Sweeps made = true

abbrev pub ClaimsIn : (t : Plan) → Shared → ℕ → Caller → Bool → Type 0
ClaimsIn t s d x true = Waits t x
ClaimsIn t s d x false = Running t s d x

-- before an access of an announcement
abbrev pub AnnouncesAt : Plan → Shared → Caller → Announcing → Type 0
AnnouncesAt t s x (announces.Loads why) = BeginsAt t x why
AnnouncesAt t s x (announces.Stores why p) = BeginsAt t x why × IsLoaded s p
AnnouncesAt t s x (announces.Leaves reply) = HasReplied x reply

-- there are no guards, so nothing is seen, checked or cleared
abbrev pub HoldsAt : (t : Plan) → Shared → (ℕ → ℕ) → ℕ → Caller → Routine → Type 0
HoldsAt t s since d x Idle = IsIdle x
HoldsAt t s since d x (LoadSeen why) = ⊥
HoldsAt t s since d x At = Running t s d x
HoldsAt t s since d x (InList k) = InExecutor t s d x k
HoldsAt t s since d x (Retires retirement go) = RetiresAt s d retirement × GoesOn t s d x go
HoldsAt t s since d x Restarts = ⊥
HoldsAt t s since d x (Clears next) = ⊥
HoldsAt t s since d x (Claims claim) = (claim.sweep.scheme ≡ Announced d) × ClaimAt t s since d claim.sweep claim.stage × ClaimsIn t s d x (has_withdrawn claim.stage claim.sweeps)
HoldsAt t s since d x (Zeroes k field) = (cradle_of x.entry k ≢ 0) × Zeroed s (cradle_of x.entry k) field × Running t s d x
HoldsAt t s since d x (Announces announcing) = AnnouncesAt t s x announcing

pub record CallerHolds (t : Plan) (s : Shared) (since : ℕ → ℕ) (d : ℕ) (x : Caller) : Type 0 where
  pub base : Base t s since d x
  pub spot : HoldsAt t s since d x x.entry.routine
