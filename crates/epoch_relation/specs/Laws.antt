-- What a step of a caller under epochs keeps.
use Rattle.std.specs.Prelude.{ℕ, ◌≡◌, ◌+◌, ◌<◌, true, Some}
use Rattle.oa_words.specs.Words.{Word}
use Rattle.oa_words.specs.SlotKinds.{together}
use Rattle.phase_pools.specs.Accesses.{WordAccess, word_of}
use Rattle.caller_parts.specs.declared.call.Call.{Call}
use Rattle.caller_parts.specs.Calls.{is_call}
use Rattle.caller_steps.specs.Signs.{Moved}
use Rattle.caller_steps.specs.Wants.{wants}
use Rattle.caller_steps.specs.After.{taken}
use Rattle.caller_steps.specs.After.{moved as after_moves}
use Rattle.caller_steps.specs.Belongs.{Belongs}
use Rattle.norm_lang.specs.Registers.{node_in}
use Rattle.oa_simulation.specs.sim_relation.Views.{Plan, Shared, Resident}
use Rattle.oa_simulation.specs.sim_relation.Points.{StaysProper, DrawsHome}
use Rattle.oa_simulation.specs.sim_relation.Naming.{present_at}
use Rattle.chain_laws.specs.Memories.{after_access}
use Rattle.oa_simulation.specs.sim_relation.Steps.{TakesReady}
use Rattle.epoch_relation.specs.Reckoned.{EpochHolds}
use Rattle.epoch_relation.specs.Callers.{Caller, Base, IsAnnounced, IsSafe}
use Rattle.epoch_relation.specs.Walking.{IsPlan, IsIdle, Running, CallerHolds}
use Rattle.epoch_relation.specs.Keeping.{point_at, KeptWith}
use Rattle.epoch_relation.specs.Worlds.{World, Holds, after_step, with_caller}
use Rattle.epoch_relation.specs.Beside.{Beside}
use Rattle.core_runs.specs.Machine.{core_start}
use Rattle.oa_simulation.specs.FirstNames.{first_home}
use Rattle.oa_simulation.specs.Shadow.{shadow_start}

-- what an announced caller may hold is resident: nobody recycles it
abbrev pub SafeIsResident : Type 0
SafeIsResident = (t : Plan) (s : Shared) (since : ℕ → ℕ) (d : ℕ) (x : Caller) (n : ℕ) → t.home 0 ≡ 0 → EpochHolds t s since → Base t s since d x → d < t.setting.sizes.callers → IsAnnounced s d → IsSafe t s d x n → Resident t s n

-- so each register of a caller that runs a method names null or what is resident, whatever its next access goes to
abbrev pub RegistersAreResident : Type 0
RegistersAreResident = (t : Plan) (s : Shared) (since : ℕ → ℕ) (d : ℕ) (x : Caller) → t.home 0 ≡ 0 → EpochHolds t s since → Base t s since d x → d < t.setting.sizes.callers → (run : Running t s d x) → (r : ℕ) → Resident t s (node_in run.0.mirror r)

-- each access that a caller makes is kept, if its source's text owes what a proper one does at each point to which the step leads:
-- all facts hold again, and the source plays the step's signs
abbrev pub StepsKeep : Type 0
StepsKeep =
    (t : Plan) → IsPlan t → (c : ℕ) (s : Shared) (since : ℕ → ℕ) (x : Caller) (a : WordAccess) → c < t.setting.sizes.callers → EpochHolds t s since → CallerHolds t s since c x
    → TakesReady s.memory x.entry.routine → Belongs t.target t.setting x.entry → is_call t.target x.entry.running.call ≡ true → StaysProper t.text c (point_at s x) → wants t.target x.entry ≡ Some a
    → DrawsHome t.home (after_moves t.setting.reclamation t.target t.setting x.entry (s.memory (word_of a))).signs s.unused
    → KeptWith t c s since x (after_access s.memory a) (after_moves t.setting.reclamation t.target t.setting x.entry (s.memory (word_of a))) (present_at t.target s.memory s.unused x.entry x.entry.routine s.present)

-- a step that its caller keeps is kept by all
abbrev pub WorldsStep : Type 0
WorldsStep =
    (t : Plan) (c : ℕ) (w : World) (memory' : Word → ℕ) (m : Moved) (present' : ℕ → ℕ) → IsPlan t → Holds t w → (k : KeptWith t c w.shared w.since (w.who c) memory' m present') → Holds t (after_step t c w memory' m present' k)

-- an idle caller takes a call, and the source doesn't move
abbrev pub CallsAreTaken : Type 0
CallsAreTaken =
    (t : Plan) → IsPlan t → (c : ℕ) (w : World) (call : Call) → Holds t w → IsIdle (w.who c) → Holds t (with_caller w c (record (w.who c) { entry = taken t.setting.reclamation call (w.who c).entry }))

-- ---- runs

-- initial nodes have the slots that they have at the start
abbrev pub HomesAreFirst : Plan → Type 0
HomesAreFirst t = (n : ℕ) → n < together t.setting.nodes + 1 → t.home n ≡ first_home t.setting n

-- the start of the core is beside the source's: nobody has announced a phase, and every caller is idle
abbrev pub WorldsBegin : Type 0
WorldsBegin = (t : Plan) → IsPlan t → HomesAreFirst t → Beside t (core_start t.target t.setting) (shadow_start t.text t.setting)
