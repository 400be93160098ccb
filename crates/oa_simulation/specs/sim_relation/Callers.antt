-- What holds of each caller beside what is shared.
use Rattle.std.specs.Prelude.{ℕ, ◌≡◌, ◌≢◌, ◌+◌, ◌*◌, ◌≤◌, ◌<◌, ◌⊎◌, ◌&&◌, ◌||◌, not, Bool, true, false, List, [], ◌∷◌, ◌++◌, map, length, Option, Some, None, slice_get, nat_lt}
use Rattle.norm_lang.specs.declared.text.Reg.TheVariants.{Ref}
use Rattle.norm_lang.specs.declared.registers.Registers.{Registers}
use Rattle.norm_lang.specs.Registers.{first_registers, with_count, node_in}
use Rattle.norm_lang.specs.Local.{Spot}
use Rattle.norm_lang.specs.Flow.{state_along}
use Rattle.target_code.specs.declared.target.TargetInstr.{TargetInstr}
use Rattle.target_code.specs.Flaws.{GuardState, Free, guard_after}
use Rattle.target_code.specs.Keeping.{keeps}
use Rattle.target_code.specs.Erasing.{source_place}
use Rattle.oa_words.specs.Words.{Phase, Warning, Hazard, FieldOf}
use Rattle.guard_words.specs.Guards.{guard_at, has_slot}
use Rattle.phase_pools.specs.declared.stages.SweepStage.{SweepStage}
use Rattle.phase_pools.specs.declared.stages.SweepStage.TheVariants as sweeps
use Rattle.phase_pools.specs.declared.stages.ClaimStage.{ClaimStage}
use Rattle.phase_pools.specs.declared.stages.ClaimStage.TheVariants as claims
use Rattle.phase_pools.specs.declared.stages.RetireStage.{RetireStage}
use Rattle.phase_pools.specs.declared.stages.RetireStage.TheVariants as retires
use Rattle.phase_pools.specs.Pools.{Sweep, Retirement}
use Rattle.norm_lang.specs.declared.reply.SourceReply.{SourceReply}
use Rattle.source_machine.specs.Proper.{has, runs_method}
use Rattle.caller_parts.specs.declared.routine.MethodStart.{MethodStart}
use Rattle.caller_parts.specs.declared.routine.MethodStart.TheVariants as starts
use Rattle.caller_parts.specs.declared.routine.AfterClear.{AfterClear}
use Rattle.caller_parts.specs.declared.routine.AfterClear.TheVariants as clears
use Rattle.caller_parts.specs.declared.routine.AfterRetire.{AfterRetire}
use Rattle.caller_parts.specs.declared.routine.AfterRetire.TheVariants as onward
use Rattle.caller_steps.specs.declared.entry.Hand.{Hand}
use Rattle.caller_parts.specs.declared.routine.Routine.{Routine}
use Rattle.caller_parts.specs.declared.routine.Routine.TheVariants.{Idle, LoadSeen, At, InList, Retires, Restarts, Clears, Claims, Zeroes, Announces}
use Rattle.caller_steps.specs.Entries.{Entry, cradle_of, instr_in}
use Rattle.caller_parts.specs.Operands.{list_of, is_new_at, cradle_number}
use Rattle.caller_parts.specs.Pairing.{reply_of}
use Rattle.target_laws.specs.Methods.{code_in}
use Rattle.target_laws.specs.Trusted.{trust_along, Trusted}
use Rattle.run_ahead.specs.Ahead.{Ahead, IsStart}
use Rattle.run_ahead.specs.Guards.{GuardStands}
use Rattle.run_ahead.specs.Known.{AreGot, is_set_in}
use Rattle.target_code.specs.PathStates.{is_fresh_along}
use Rattle.run_ahead.specs.Standing.{Call, stands_at, run_from, stands_in_list, caller_of}
use Rattle.run_ahead.specs.Following.{Walk}
use Rattle.oa_simulation.specs.sim_relation.Views.{Plan, Held, Retiring, Shared, Caller, link, Resident, Apart, protected}

-- a name in a cradle of the caller
abbrev pub Own : Plan → Shared → ℕ → ℕ → Type 0
Own t s d n = (k : ℕ) × (s.owner (t.home n) ≡ Held d k) × Resident t s n

-- null, published, or the caller's own
abbrev pub Known : Plan → Shared → ℕ → ℕ → Type 0
Known t s d n = (n ≡ 0) ⊎ (s.public n ≡ true) ⊎ Own t s d n

-- null or published
abbrev pub Shown : Shared → ℕ → Type 0
Shown s n = (n ≡ 0) ⊎ (s.public n ≡ true)

-- the caller wasn't warned since its method run began
abbrev pub Calm : Shared → ℕ → Caller → Type 0
Calm s d x = x.entry.hand.seen ≡ s.memory (Warning d)

-- what holds wherever the caller stands
pub record Base (t : Plan) (s : Shared) (d : ℕ) (x : Caller) : Type 0 where
  pub number : x.entry.number ≡ d
  -- what was seen doesn't pass the warning
  pub seen : x.entry.hand.seen ≤ s.memory (Warning d)
  -- what has a tag below `seen` was retired before the method run began
  pub old : (n p : ℕ) → s.tag n ≡ Some p → p < x.entry.hand.seen → has n x.held.old ≡ true
  pub hazard : (r : ℕ) → s.memory (Hazard d r) ≡ guard_at x.entry.hand.guards r
  pub protects : (r : ℕ) → s.protects d r ≡ protected x.names r
  pub known : (n : ℕ) → has n x.held.got ≡ true → Known t s d n
  pub cradle : (k : ℕ) → cradle_of x.entry k ≢ 0 → s.owner (cradle_of x.entry k) ≡ Held d k

-- the replies that the source's caller has, too
abbrev pub replies_of : Entry → List SourceReply
replies_of e = map reply_of e.replies

abbrev pub call_of : Entry → Call
call_of e = record { number = e.running.call.op; args = e.running.call.args; replies = replies_of e }

-- the spot at which the entry stands
abbrev pub spot_of : Hand → Spot
spot_of hand = record { at = hand.at; registers = hand.registers }

-- a guard that counts: in a wrap-up one of a register that the run has set
abbrev pub counts : (t : Plan) → Walk t.target t.text → List ℕ → ℕ → Bool
counts t walk path r = not walk.method.wrapup || is_set_in walk.method path r

-- a guard that a wrap-up keeps from before
abbrev pub spared : (t : Plan) → Walk t.target t.text → ℕ → Bool
spared t walk r = walk.method.wrapup && keeps walk.method.op (Ref r)

abbrev pub guard_state : (t : Plan) → Walk t.target t.text → List ℕ → ℕ → GuardState
guard_state t walk path r = state_along (guard_after (Ref r)) Free (code_in walk.method) path

-- the `new` with this cradle was passed
abbrev pub HasMade : List TargetInstr → List ℕ → ℕ → Type 0
HasMade code path k = (at : ℕ) × (has at path ≡ true) × (is_new_at (slice_get code at) ≡ true) × (cradle_number code at ≡ k)

-- a wrap-up's kept registers are under their validated guards, or null
abbrev pub KeepsGuards : (t : Plan) → Caller → Walk t.target t.text → Type 0
KeepsGuards t x walk = (r : ℕ) → spared t walk r ≡ true → (x.names.name r ≡ node_in walk.started r) × ((x.names.valid r ≡ true) ⊎ (x.names.name r ≡ 0))

-- what a wrap-up keeps is null or was published
abbrev pub KeepsShown : (t : Plan) → Shared → Walk t.target t.text → Type 0
KeepsShown t s walk = (r : ℕ) → spared t walk r ≡ true → Shown s (node_in walk.started r)

-- guards of a method run
abbrev pub Sound : (t : Plan) → Shared → ℕ → Caller → Walk t.target t.text → List ℕ → Registers → Type 0
Sound t s d x walk path mirror = record {
  -- a guard that a check may validate is its name's slot, while the caller isn't warned
  word : Calm s d x → (r : ℕ) → x.names.name r ≢ 0 → x.names.valid r ≡ false → guard_at x.entry.hand.guards r ≡ t.home (x.names.name r);
  -- the content of what is guarded, against what is guarded
  pairs : (o e g : ℕ) → spared t walk o ≡ false → s.protects d o ≢ 0 → s.protects d e ≢ 0 → Apart t (link s (s.protects d o) g) (s.protects d e);
  -- in a generator a register that is trusted, against what is guarded
  apart : walk.method.wrapup ≡ false → (r e : ℕ) → trust_along walk.method path (Ref r) ≡ Trusted → s.protects d e ≢ 0 → Apart t (node_in mirror r) (s.protects d e);
}

-- the registers with which a method begins
abbrev pub first_of : Bool → List ℕ → Registers → Registers
first_of false args started = first_registers args
first_of true args started = started

-- a caller's way through a method run: the run, the path to where its local code has come, the registers that the source
-- has at that place, and where the source's local code has come to
pub record Trail (t : Plan) : Type 0 where
  pub walk : Walk t.target t.text
  pub path : List ℕ
  pub mirror : Registers
  pub there : Spot

-- the caller is in a method run, and its local code has come to a spot
pub record Walks (t : Plan) (s : Shared) (d : ℕ) (x : Caller) (core : Spot) (m : Trail t) : Type 0 where
  pub call : m.walk.call ≡ call_of x.entry
  pub wrapup : x.entry.hand.wrapup ≡ m.walk.method.wrapup
  pub first : m.walk.first ≡ first_of m.walk.method.wrapup x.entry.running.call.args x.entry.hand.started
  -- what `Follows` says, but where the source stands
  pub number : m.walk.call.number ≡ m.walk.method.number
  pub start : IsStart m.walk.method t.home m.walk.first m.walk.started
  pub ahead : Ahead m.walk.method t.home (Calm s d x) m.path core m.mirror m.there
  pub generator : m.walk.method.wrapup ≡ false → m.walk.started ≡ first_registers m.walk.call.args
  pub kept : KeepsGuards t x m.walk
  pub shown : KeepsShown t s m.walk
  pub was_set : (r : ℕ) → x.was_set r ≡ is_set_in m.walk.method m.path r
  pub sound : Sound t s d x m.walk m.path m.mirror

-- the names that the run has got
abbrev pub Gets : (t : Plan) → Shared → ℕ → Caller → Trail t → Type 0
Gets t s d x m = record {
  -- a reference register that was set has one of them
  got : AreGot m.walk.method m.path m.walk.started m.mirror x.held.got;
  -- so has a guard, or it is kept
  named : (r : ℕ) → x.names.name r ≢ 0 → spared t m.walk r ≡ false → has (x.names.name r) x.held.got ≡ true;
  -- what is fresh is the caller's own
  fresh : m.walk.method.wrapup ≡ false → (r : ℕ) → is_fresh_along (code_in m.walk.method) m.path (Ref r) ≡ true → Own t s d (node_in m.mirror r);
  -- what isn't fresh is null or published
  shown : m.walk.method.wrapup ≡ false → (r : ℕ) → is_fresh_along (code_in m.walk.method) m.path (Ref r) ≡ false → Shown s (node_in m.mirror r);
  -- the caller's own came by its `new`
  made : (n k : ℕ) → has n x.held.got ≡ true → s.owner (t.home n) ≡ Held d k → Resident t s n → HasMade (code_in m.walk.method) m.path k;
}

-- the caller's method run is the source's; or the source has ended it, which a wrap-up without an access does at once
abbrev pub Tied : Caller → Type 0
Tied x = ((runs_method (Some x.source) ≡ true) × (x.held ≡ x.watch)) ⊎ ((runs_method (Some x.source) ≡ false) × (x.held.got ≡ []))

-- the source's caller stands where its local code has come to; in a wrap-up without an access that is where the run's start led it
abbrev pub Stands : (t : Plan) → Caller → Trail t → Type 0
Stands t x m = record {
  stands : x.source ≡ stands_at m.walk.method.op m.walk.method.wrapup m.walk.started x.entry.hand.accessed m.walk.call m.there;
  unmoved : m.walk.method.wrapup ≡ true → x.entry.hand.accessed ≡ false → m.there ≡ run_from m.walk.method.op m.walk.method.wrapup (record { at = 0; registers = m.walk.started });
  tied : Tied x;
  -- a wrap-up without an access has got nothing
  unread : m.walk.method.wrapup ≡ true → x.entry.hand.accessed ≡ false → x.held.got ≡ [];
}

-- a guard by its state on the path: the register's name, and validated
abbrev pub Guards : (t : Plan) → Caller → Trail t → Type 0
Guards t x m = (r : ℕ) → counts t m.walk m.path r ≡ true → GuardStands (guard_state t m.walk m.path r) m.mirror x.names r

abbrev pub Running : (t : Plan) → Shared → ℕ → Caller → Spot → Type 0
Running t s d x core = (m : Trail t) × Walks t s d x core m × Stands t x m × Gets t s d x m × Guards t x m

-- at a `new`, which drops all guards
abbrev pub AtNew : (t : Plan) → Shared → ℕ → Caller → Spot → Type 0
AtNew t s d x core = (m : Trail t) × Walks t s d x core m × Stands t x m × Gets t s d x m

-- guards that no check validated have no name any more
abbrev pub Settled : Caller → Type 0
Settled x = (r : ℕ) → x.names.valid r ≡ false → x.names.name r ≡ 0

abbrev pub Empty : Caller → Type 0
Empty x = (r : ℕ) → guard_at x.entry.hand.guards r ≡ 0

-- a method run is about to begin, or to begin again
pub record Begins (t : Plan) (s : Shared) (d : ℕ) (x : Caller) (walk : Walk t.target t.text) : Type 0 where
  pub call : walk.call ≡ call_of x.entry
  pub first : walk.first ≡ first_of walk.method.wrapup x.entry.running.call.args x.entry.hand.started
  pub number : walk.call.number ≡ walk.method.number
  pub start : IsStart walk.method t.home walk.first walk.started
  pub generator : walk.method.wrapup ≡ false → walk.started ≡ first_registers walk.call.args
  pub kept : KeepsGuards t x walk
  pub shown : KeepsShown t s walk
  pub stands : x.source ≡ stands_at walk.method.op walk.method.wrapup walk.started false walk.call (run_from walk.method.op walk.method.wrapup (record { at = 0; registers = walk.started }))
  pub got : x.held.got ≡ []
  pub tied : Tied x
  pub settled : Settled x

-- no guards but those that are kept
abbrev pub EmptyBut : (t : Plan) → Walk t.target t.text → Caller → Type 0
EmptyBut t walk x = (r : ℕ) → spared t walk r ≡ false → guard_at x.entry.hand.guards r ≡ 0

-- the source's caller has ended the call, with one more reply
abbrev pub HasReplied : Caller → SourceReply → Type 0
HasReplied x reply = x.source ≡ record { replies = replies_of x.entry ++ reply ∷ []; running = None }

abbrev pub IsIdle : Caller → Type 0
IsIdle x = x.source ≡ caller_of (call_of x.entry)

-- what isn't fresh at a commit is null or was published
abbrev pub CommitsShown : (t : Plan) → Shared → Trail t → Type 0
CommitsShown t s m = (r : ℕ) → is_fresh_along (code_in m.walk.method) m.path (Ref r) ≡ false → Shown s (node_in m.mirror r)

-- in the list, so many exchanges having succeeded: the source is before the next
abbrev pub InExecutor : (t : Plan) (s : Shared) (d : ℕ) (x : Caller) → ℕ → Type 0
InExecutor t s d x k = (m : Trail t) × Walks t s d x (spot_of x.entry.hand) m × Guards t x m × (m.walk.method.wrapup ≡ false)
    × (x.source ≡ stands_in_list (source_place (code_in m.walk.method) x.entry.hand.at) (list_of (instr_in t.target x.entry)) k m.mirror m.walk.call) × CommitsShown t s m

-- the list has ended, so many exchanges having succeeded: the source has begun the wrap-up
abbrev pub Committed : (t : Plan) (s : Shared) (d : ℕ) (x : Caller) → ℕ → Type 0
Committed t s d x made = (m : Trail t) × Walks t s d x (spot_of x.entry.hand) m × Guards t x m × (m.walk.method.wrapup ≡ false)
    × (x.source ≡ stands_at m.walk.method.op true (with_count m.mirror made) false m.walk.call (run_from m.walk.method.op true (record { at = 0; registers = with_count m.mirror made })))
    × (x.held ≡ x.watch) × (x.held.got ≡ []) × CommitsShown t s m

-- so many exchanges of the list have succeeded
abbrev pub AfterExchange : (t : Plan) (s : Shared) (d : ℕ) (x : Caller) → ℕ → Bool → Type 0
AfterExchange t s d x made true = InExecutor t s d x made
AfterExchange t s d x made false = Committed t s d x made

-- a slot in the retire routine: its name, and the tag so far
abbrev pub IsRetiring : Shared → ℕ → ℕ → ℕ → Option ℕ → Type 0
IsRetiring s d j n tag = record { owner : s.owner j ≡ Retiring d; present : s.present j ≡ n; tag_is : s.tag n ≡ tag }

abbrev pub tag_at : RetireStage → Option ℕ
tag_at retires.ReadPhase = None
tag_at (retires.StoreStatus p) = Some p

abbrev pub RetiresAt : Shared → ℕ → Retirement → Type 0
RetiresAt s d retirement = (n : ℕ) × IsRetiring s d retirement.slot n (tag_at retirement.stage)

-- a sweep with s that has warned the callers below x, loaded the hazard words before m, and gathered g
abbrev pub Sweeps : Plan → Shared → ℕ → ℕ → ℕ → List ℕ → Type 0
Sweeps t s p x m g = record {
  raised : p ≤ s.memory Phase;
  warned : (c : ℕ) → c < x → p ≤ s.memory (Warning c);
  gathered : (c r q : ℕ) → 8 * c + r < m → s.protects c r ≢ 0 → s.tag (s.protects c r) ≡ Some q → q < p → has_slot g (t.home (s.protects c r)) ≡ true;
}

abbrev pub SweepAt : Plan → Shared → ℕ → List ℕ → SweepStage → Type 0
SweepAt t s p g sweeps.ReadPhase = Unit {0}
SweepAt t s p g (sweeps.RaisePhase q) = q ≤ s.memory Phase
SweepAt t s p g (sweeps.Warn c) = Sweeps t s p c 0 g × (c < t.setting.sizes.callers)
SweepAt t s p g (sweeps.ReadHazard c r) = Sweeps t s p t.setting.sizes.callers (8 * c + r) g × (c < t.setting.sizes.callers) × (r < 8)
SweepAt t s p g (sweeps.ReadStatus j) = Sweeps t s p t.setting.sizes.callers (8 * t.setting.sizes.callers) g
SweepAt t s p g (sweeps.MakeReady j q) = Sweeps t s p t.setting.sizes.callers (8 * t.setting.sizes.callers) g × (q < p) × (has_slot g j ≡ false)
SweepAt t s p g (sweeps.PushHead kind j) = Sweeps t s p t.setting.sizes.callers (8 * t.setting.sizes.callers) g
SweepAt t s p g (sweeps.PushLink j q top) = Sweeps t s p t.setting.sizes.callers (8 * t.setting.sizes.callers) g
SweepAt t s p g (sweeps.PushTop kind j q top) = Sweeps t s p t.setting.sizes.callers (8 * t.setting.sizes.callers) g

abbrev pub ClaimAt : Plan → Shared → Sweep → ClaimStage → Type 0
ClaimAt t s sweep claims.ReadHead = Unit {0}
ClaimAt t s sweep (claims.ReadLink q j) = 1 ≤ j
ClaimAt t s sweep (claims.Take q j next) = 1 ≤ j
ClaimAt t s sweep (claims.StoreUsed q j) = 1 ≤ j
ClaimAt t s sweep (claims.Withdraw own) = Unit {0}
ClaimAt t s sweep claims.Sweeps = SweepAt t s sweep.bound sweep.gathered sweep.stage

-- the fields before one are 0
abbrev pub Zeroed : Shared → ℕ → ℕ → Type 0
Zeroed s j field = (0 < field → s.present j ≡ 0) × ((g : ℕ) → g < field → s.memory (FieldOf j g) ≡ 0)

-- where a retirement goes on
abbrev pub GoesOn : (t : Plan) (s : Shared) (d : ℕ) (x : Caller) → AfterRetire → Type 0
GoesOn t s d x onward.Next = Running t s d x (record { at = x.entry.hand.at + 1; registers = x.entry.hand.registers })
GoesOn t s d x (onward.List k) = AfterExchange t s d x (k + 1) (nat_lt (k + 1) (length (list_of (instr_in t.target x.entry))))

abbrev pub BeginsAt : (t : Plan) (s : Shared) (d : ℕ) (x : Caller) → MethodStart → Type 0
BeginsAt t s d x starts.Begin = Empty x × Settled x × IsIdle x
BeginsAt t s d x starts.WrapUp = (walk : Walk t.target t.text) × Begins t s d x walk × (walk.method.wrapup ≡ true) × EmptyBut t walk x
BeginsAt t s d x starts.Again = (walk : Walk t.target t.text) × Begins t s d x walk × (walk.method.wrapup ≡ false) × EmptyBut t walk x

abbrev pub ClearsAt : (t : Plan) (s : Shared) (d : ℕ) (x : Caller) → AfterClear → Type 0
ClearsAt t s d x clears.New = AtNew t s d x (spot_of x.entry.hand)
ClearsAt t s d x clears.WrapUp = (walk : Walk t.target t.text) × Begins t s d x walk × (walk.method.wrapup ≡ true)
ClearsAt t s d x (clears.Reply reply) = HasReplied x reply × Settled x
ClearsAt t s d x clears.Again = (walk : Walk t.target t.text) × Begins t s d x walk × (walk.method.wrapup ≡ false)

-- where the caller stands. Under optimistic access none stands at an announcement
abbrev pub HoldsAt : (t : Plan) (s : Shared) (d : ℕ) (x : Caller) → Routine → Type 0
HoldsAt t s d x Idle = Empty x × Settled x × IsIdle x
HoldsAt t s d x (LoadSeen why) = BeginsAt t s d x why
HoldsAt t s d x At = Running t s d x (spot_of x.entry.hand)
HoldsAt t s d x (InList k) = InExecutor t s d x k
HoldsAt t s d x (Retires retirement go) = RetiresAt s d retirement × GoesOn t s d x go
HoldsAt t s d x Restarts = (walk : Walk t.target t.text) × Begins t s d x walk × (walk.method.wrapup ≡ x.entry.hand.wrapup)
HoldsAt t s d x (Clears next) = ClearsAt t s d x next
HoldsAt t s d x (Claims claim) = ClaimAt t s claim.sweep claim.stage × AtNew t s d x (spot_of x.entry.hand) × Empty x
HoldsAt t s d x (Zeroes k field) = (cradle_of x.entry k ≢ 0) × Zeroed s (cradle_of x.entry k) field × AtNew t s d x (spot_of x.entry.hand) × Empty x
HoldsAt t s d x (Announces announcing) = ⊥

pub record CallerHolds (t : Plan) (s : Shared) (d : ℕ) (x : Caller) : Type 0 where
  pub base : Base t s d x
  pub spot : HoldsAt t s d x x.entry.routine
