-- What a step keeps.
use Rattle.std.specs.Prelude.{ℕ, ◌≡◌, ◌≢◌, ◌<◌, ◌==◌, ◌||◌, not, Bool, true, false, List, Option, Some, None, ◌⊎◌}
use Rattle.phase_pools.specs.declared.stages.ClaimStage.{ClaimStage}
use Rattle.phase_pools.specs.declared.stages.ClaimStage.TheVariants as claims
use Rattle.phase_pools.specs.Pools.{retire_begun}
use Rattle.caller_parts.specs.declared.routine.AfterRetire.{AfterRetire}
use Rattle.source_machine.specs.Proper.{has}
use Rattle.norm_lang.specs.declared.text.Reg.TheVariants.{Ref}
use Rattle.norm_lang.specs.Local.{Spot}
use Rattle.norm_lang.specs.Registers.{node_in}
use Rattle.target_code.specs.declared.target.TargetInstr.{TargetInstr}
use Rattle.target_code.specs.declared.target.TargetInstr.TheVariants.{Plain, Check, Guard}
use Rattle.oa_words.specs.declared.packed.Kind.TheVariants as kinds
use Rattle.oa_words.specs.Words.{Word, Warning, Hazard, Status}
use Rattle.oa_words.specs.Memories.{store}
use Rattle.guard_words.specs.Guards.{with_guard}
use Rattle.run_ahead.specs.Guards.{GuardRow, validated}
use Rattle.phase_pools.specs.Accesses.{WordAccess, word_of}
use Rattle.source_machine.specs.MethodRuns.{MethodRun, put}
use Rattle.caller_steps.specs.declared.entry.Counts.{Counts}
use Rattle.caller_parts.specs.declared.routine.AfterClear.{AfterClear}
use Rattle.caller_parts.specs.declared.routine.AfterClear.TheVariants as clears
use Rattle.caller_parts.specs.declared.routine.Routine.{Routine}
use Rattle.caller_parts.specs.declared.routine.Routine.TheVariants.{Idle, LoadSeen, At, InList, Retires, Restarts, Clears, Claims, Zeroes, Announces}
use Rattle.caller_steps.specs.Clearing.{restart_next, clear_next}
use Rattle.caller_steps.specs.Entries.{instr_in, Entry}
use Rattle.caller_steps.specs.Signs.{Moved}
use Rattle.oa_words.specs.Words.{in_row}
use Rattle.caller_parts.specs.declared.call.Call.{Call}
use Rattle.caller_parts.specs.Calls.{is_call}
use Rattle.caller_steps.specs.Wants.{wants}
use Rattle.caller_steps.specs.After.{taken}
use Rattle.caller_steps.specs.After.{moved as after_moves}
use Rattle.caller_steps.specs.Belongs.{Belongs}
use Rattle.oa_simulation.specs.sim_relation.Points.{StaysProper, DrawsHome}
use Rattle.oa_simulation.specs.sim_relation.Views.{Plan, Shared, Caller, protected, settled_names}
use Rattle.chain_laws.specs.Chains.{IsOf}
use Rattle.chain_laws.specs.Memories.{after_access}
use Rattle.oa_simulation.specs.sim_relation.Shared.{SharedHolds}
use Rattle.oa_simulation.specs.sim_relation.Callers.{Calm, CallerHolds}
use Rattle.oa_simulation.specs.sim_relation.MayChange.{MayChange}
use Rattle.oa_simulation.specs.sim_relation.Naming.{present_at}
use Rattle.oa_simulation.specs.sim_relation.WasSet.{set_after_access}
use Rattle.oa_simulation.specs.sim_relation.Points.{Plays, point}
use Rattle.caller_parts.specs.declared.setting.Reclamation.TheVariants.{Optimistic}

-- between two method runs, at a clear
abbrev pub is_over : AfterClear → Bool
is_over clears.New = false
is_over clears.WrapUp = true
is_over (clears.Reply reply) = true
is_over clears.Again = true

-- between two method runs, where no guard has a name but one that a check validated
abbrev pub is_between : Routine → Bool
is_between Idle = true
is_between (LoadSeen why) = true
is_between At = false
is_between (InList k) = false
is_between (Retires retirement go) = false
is_between Restarts = false
is_between (Clears next) = is_over next
is_between (Claims claim) = false
is_between (Zeroes k field) = false
is_between (Announces announcing) = true

-- what is under a validated guard stays so, and while a method run goes on each guard that has a name keeps one
pub record NamesStay (row row' : GuardRow) (between : Bool) : Type 0 where
  pub guarded : (r : ℕ) → protected row r ≢ 0 → protected row' r ≢ 0
  pub named : between ≡ false → (r : ℕ) → row.name r ≢ 0 → row'.name r ≢ 0

-- the caller goes on to retire a name's slot
abbrev pub GoesToRetire : Plan → Routine → ℕ → Type 0
GoesToRetire t routine n = (go : AfterRetire) × (routine ≡ Retires (retire_begun (t.home n)) go)

-- names can be put beside the words and what a step has made of the entry, so that all facts hold again, and the source plays the
-- step's signs. `row` is what the step's access has made of the names of the caller's guards, the run has then set the registers that
-- are given, and each slot has the name that is given
pub record KeptWith (t : Plan) (c : ℕ) (s : Shared) (x : Caller) (row : GuardRow) (were : ℕ → Bool) (memory' : Word → ℕ) (m : Moved) (present' : ℕ → ℕ) : Type 0 where
  pub s' : Shared
  pub x' : Caller
  pub memory : s'.memory ≡ memory'
  pub present : s'.present ≡ present'
  pub entry : x'.entry ≡ m.entry
  pub names : NamesStay row x'.names (is_between m.entry.routine)
  pub was_set : x'.was_set ≡ were
  pub plays : Plays t.text c m.signs (point s x) (point s' x')
  pub shared_holds : SharedHolds t s'
  pub goes : MayChange t c s s'
  -- the slot of what is newly retired is the one that the caller goes on to retire
  pub retires : (n : ℕ) → has n s'.source.retired ≡ true → (has n s.source.retired ≡ true) ⊎ GoesToRetire t m.entry.routine n
  pub caller_holds : CallerHolds t s' c x'

-- each slot keeps its name
abbrev pub KeptBy : (t : Plan) (c : ℕ) (s : Shared) (x : Caller) → GuardRow → (ℕ → Bool) → (Word → ℕ) → Moved → Type 0
KeptBy t c s x row were memory' m = KeptWith t c s x row were memory' m s.present

-- of a step that stores no hazard word and is no check
abbrev pub KeptSetting : (t : Plan) (c : ℕ) (s : Shared) (x : Caller) → (ℕ → Bool) → (Word → ℕ) → Moved → Type 0
KeptSetting t c s x were memory' m = KeptBy t c s x x.names were memory' m

-- and whose run sets no register
abbrev pub KeptNaming : (t : Plan) (c : ℕ) (s : Shared) (x : Caller) → (Word → ℕ) → Moved → (ℕ → ℕ) → Type 0
KeptNaming t c s x memory' m present' = KeptWith t c s x x.names x.was_set memory' m present'

abbrev pub Kept : (t : Plan) (c : ℕ) (s : Shared) (x : Caller) → (Word → ℕ) → Moved → Type 0
Kept t c s x memory' m = KeptNaming t c s x memory' m s.present

-- a change that any caller might make
abbrev pub GoesForAll : Plan → Shared → Shared → Type 0
GoesForAll t s s' = (y : ℕ) → MayChange t y s s'

-- the entry moves on, and its hand stays
abbrev pub moved : Caller → ℕ → Counts → Routine → Caller
moved x steps counts routine = record x { entry = record x.entry { running = record x.entry.running { steps = steps }; counts = counts; routine = routine } }

-- its cradles change
abbrev pub cradled : Caller → List ℕ → Caller
cradled x cradles = record x { entry = record x.entry { cradles = cradles } }

-- its local code comes to a spot, and its run gets names and has set registers
abbrev pub walked : Caller → Spot → Bool → MethodRun → (ℕ → Bool) → Caller
walked x spot accessed held were = record x { held = held; was_set = were; entry = record x.entry { hand = record x.entry.hand { at = spot.at; registers = spot.registers; accessed = accessed } } }

-- a guard of the caller is published for a register, with the name that it then has; or cleared
abbrev pub with_names : GuardRow → ℕ → ℕ → GuardRow
with_names names r n = record { name = put names.name r n; valid = put names.valid r false }

abbrev pub regarded : Caller → ℕ → ℕ → ℕ → Caller
regarded x r slot n = record x { names = with_names x.names r n; entry = record x.entry { hand = record x.entry.hand { guards = with_guard x.entry.hand.guards r slot } } }

-- the words and what is protected, after a hazard word is stored
abbrev pub hazarded : Shared → ℕ → ℕ → ℕ → Shared
hazarded s c r slot = record s { memory = store s.memory (Hazard c r) slot; protects = put s.protects c (put (s.protects c) r 0) }

-- what is shared stays: the entry comes to stand elsewhere, maybe with signs that leave the source's memory
pub record Ends (t : Plan) (s : Shared) (c : ℕ) (x : Caller) (m : Moved) : Type 0 where
  pub x' : Caller
  pub entry : x'.entry ≡ m.entry
  pub names : NamesStay x.names x'.names (is_between m.entry.routine)
  pub was_set : x'.was_set ≡ x.was_set
  pub plays : Plays t.text c m.signs (point s x) (point s x')
  pub caller_holds : CallerHolds t s c x'

-- a `grd` counts: each of a generator, and of a wrap-up that of a register which this run of it has set. Any other register of a
-- wrap-up may hold what was recycled since the commit
abbrev pub is_counted : Entry → (ℕ → Bool) → ℕ → Bool
is_counted e were r = not e.hand.wrapup || were r

-- what a step's access makes of the names of the caller's guards. A check that passes validates those that have a name, and one that
-- fails leaves those that were validated; a guard that counts gets a name, if the caller wasn't warned and the register isn't null
abbrev pub checked_names : Bool → GuardRow → GuardRow
checked_names true names = validated names
checked_names false names = settled_names names

abbrev pub NamesAt : (t : Plan) → Shared → ℕ → Caller → Option TargetInstr → GuardRow → Type 0
NamesAt t s c x None row = row ≡ x.names
NamesAt t s c x (Some (Plain i)) row = row ≡ x.names
NamesAt t s c x (Some Check) row = row ≡ checked_names (s.memory (Warning c) == x.entry.hand.seen) x.names
NamesAt t s c x (Some (Guard r)) row = (k n : ℕ) × (r ≡ Ref k) × (row ≡ with_names x.names k n) × (is_counted x.entry x.was_set k ≡ true → Calm s c x → node_in x.entry.hand.registers k ≢ 0 → n ≢ 0)

abbrev pub NamesCleared : Caller → Option ℕ → GuardRow → Type 0
NamesCleared x None row = row ≡ x.names
NamesCleared x (Some r) row = row ≡ with_names x.names r 0

abbrev pub NamesAfter : (t : Plan) → Shared → ℕ → Caller → Routine → GuardRow → Type 0
NamesAfter t s c x Idle row = row ≡ x.names
NamesAfter t s c x (LoadSeen why) row = row ≡ x.names
NamesAfter t s c x At row = NamesAt t s c x (instr_in t.target x.entry) row
NamesAfter t s c x (InList k) row = row ≡ x.names
NamesAfter t s c x (Retires retirement go) row = row ≡ x.names
NamesAfter t s c x Restarts row = NamesCleared x (restart_next t.target x.entry) row
NamesAfter t s c x (Clears next) row = NamesCleared x (clear_next t.target next x.entry) row
NamesAfter t s c x (Claims claim) row = row ≡ x.names
NamesAfter t s c x (Zeroes k field) row = row ≡ x.names
NamesAfter t s c x (Announces announcing) row = row ≡ x.names

-- a step that is kept, and what its access has made of the names of the guards
pub record Stepped (t : Plan) (c : ℕ) (s : Shared) (x : Caller) (Names : GuardRow → Type 0) (were : ℕ → Bool) (memory' : Word → ℕ) (m : Moved) (present' : ℕ → ℕ) : Type 0 where
  pub row : GuardRow
  pub names : Names row
  pub kept : KeptWith t c s x row were memory' m present'

-- a caller that takes a call stands at its generator's start, and the source doesn't move
pub record TakeKept (t : Plan) (c : ℕ) (s : Shared) (x : Caller) (call : Call) : Type 0 where
  pub x' : Caller
  pub entry : x'.entry ≡ taken Optimistic call x.entry
  pub names : x'.names ≡ x.names
  pub was_set : x'.was_set ≡ x.was_set
  pub source : x'.source ≡ x.source
  pub watch : x'.watch ≡ x.watch
  pub caller_holds : CallerHolds t s c x'

-- what a claim has taken is ready until the claim stores that it is used
abbrev pub TakenIsReady : (Word → ℕ) → ClaimStage → Type 0
TakenIsReady memory claims.ReadHead = Unit {0}
TakenIsReady memory (claims.ReadLink q j) = Unit {0}
TakenIsReady memory (claims.Take q j next) = Unit {0}
TakenIsReady memory (claims.StoreUsed q j) = IsOf kinds.Ready (memory (Status j))
TakenIsReady memory (claims.Withdraw own) = Unit {0}
TakenIsReady memory claims.Sweeps = Unit {0}

abbrev pub TakesReady : (Word → ℕ) → Routine → Type 0
TakesReady memory Idle = Unit {0}
TakesReady memory (LoadSeen why) = Unit {0}
TakesReady memory At = Unit {0}
TakesReady memory (InList k) = Unit {0}
TakesReady memory (Retires retirement go) = Unit {0}
TakesReady memory Restarts = Unit {0}
TakesReady memory (Clears next) = Unit {0}
TakesReady memory (Claims claim) = TakenIsReady memory claim.stage
TakesReady memory (Zeroes k field) = Unit {0}
TakesReady memory (Announces announcing) = Unit {0}

-- each step of each caller whose entry passes a test is kept, if its source's text owes what a proper one does at each point to
-- which the step leads
pub record StepsKeep (t : Plan) (test : Entry → Bool) : Type 0 where
  pub step : (c : ℕ) (s : Shared) (x : Caller) (a : WordAccess) → test x.entry ≡ true → c < t.setting.sizes.callers → SharedHolds t s → CallerHolds t s c x → TakesReady s.memory x.entry.routine → Belongs t.target t.setting x.entry
      → is_call t.target x.entry.running.call ≡ true → StaysProper t.text c (point s x) → wants t.target x.entry ≡ Some a → in_row t.setting.sizes (word_of a) ≡ true
      → DrawsHome t.home (after_moves Optimistic t.target t.setting x.entry (s.memory (word_of a))).signs s.unused
      → Stepped t c s x (NamesAfter t s c x x.entry.routine) (set_after_access t.target x.entry x.entry.routine (s.memory (word_of a)) x.was_set) (after_access s.memory a) (after_moves Optimistic t.target t.setting x.entry (s.memory (word_of a))) (present_at t.target s.memory s.unused x.entry x.entry.routine s.present)

-- every step of each caller is kept
abbrev pub StepKeeps : Plan → Type 0
StepKeeps t = StepsKeep t (λ e. true)
