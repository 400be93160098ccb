-- What is promised of callers that run C.
use Rattle.std.specs.Prelude.{◌≡◌, ℕ, ◌<◌, Bool, true, List, ◌++◌, Option, Some, map}
use Rattle.norm_lang.specs.declared.text.Text.{Text}
use Rattle.target_code.specs.declared.target.Target.{Target}
use Rattle.source_machine.specs.Proper.{IsProperFor}
use Rattle.source_machine.specs.Run.{source_replies}
use Rattle.source_histories.specs.declared.deed.Deed.{Deed}
use Rattle.source_histories.specs.Books.{Rules}
use Rattle.oa_words.specs.Words.{in_row}
use Rattle.phase_pools.specs.Accesses.{WordAccess, word_of}
use Rattle.caller_parts.specs.declared.call.Call.{Call}
use Rattle.caller_parts.specs.declared.call.Running.{Running}
use Rattle.caller_parts.specs.Settings.{Setting}
use Rattle.caller_steps.specs.Entries.{Entry}
use Rattle.core_runs.specs.Histories.{calls_in}
use Rattle.core_runs.specs.Machine.{CoreState, CoreEvent, core_run, core_start}
use Rattle.core_runs.specs.Views.{view}
use Rattle.oa_simulation.specs.Shadow.{shadow}
use Rattle.oa_simulation.specs.Statements.{Refined, AgreesWith}
use Rattle.run_laws.specs.Each.{AtEachState}
use Rattle.run_laws.specs.guarded_claims.Guarded.{Spared}
use Rattle.run_laws.specs.stale_laws.Stale.{StaleLoadsAreWarned}
use Rattle.core_histories.specs.Cores.{IsOneHistory}
use Rattle.c_runs.specs.Machine.{Functions, CState, CEvent, c_run, calls_made, rests, Wants, Strays}
use Rattle.c_runs.specs.Matching.{Matches, RepliesAgree}

-- the words as the core has them at the start, and callers that start
abbrev pub c_start : {C : Type 0} → Target → Setting → Functions C → CState C
c_start target setting code = record { memory = (view setting (core_start target setting)).memory; who = code.start }

-- the calls that a caller took in events of the core, in order
abbrev pub calls_taken : ℕ → List CoreEvent → List Call
calls_taken c events = map (λ (running : Running). running.call) (calls_in c events)

-- the replies of each caller are those of the source's, which may have given the call that runs its reply already
abbrev pub RepliesFollow : {C : Type 0} → Target → Text → Setting → Functions C → List CoreEvent → CState C → Type 0
RepliesFollow target text setting code events s = (c : ℕ) → c < setting.sizes.callers
    → AgreesWith (rests (code.move (s.who c))) (code.replies (s.who c)) (source_replies (shadow target text setting events).machine c)

-- A run of the core beside a run of C by these events: it leads to the same words, each caller took the calls that were made, in order, and its
-- calls have returned the replies of its entry. No caller does what C leaves undefined, and none accesses a word that the pool hasn't. If the text
-- is proper for the callers, the core's run is one of the text on memory that is never recycled, at each moment, with the callers' replies; no slot
-- is given out while a validated guard names it; and no value read from a recycled slot passes its check
pub record FollowsText {C : Type 0} (target : Target) (text : Text) (setting : Setting) (code : Functions C) (made : List CEvent) (s : CState C) : Type 0 where
  pub events : List CoreEvent
  pub state : CoreState
  pub runs : core_run target setting events (core_start target setting) ≡ Some state
  pub memory : s.memory ≡ (view setting state).memory
  pub calls : (c : ℕ) → calls_taken c events ≡ calls_made c made
  pub replies : (c : ℕ) → c < setting.sizes.callers → RepliesAgree code ((view setting state).who c) (s.who c)
  pub defined : (c : ℕ) → c < setting.sizes.callers → code.move (s.who c) ≡ Strays → ⊥
  pub within : (c : ℕ) (a : WordAccess) (next : ℕ → C) → c < setting.sizes.callers → code.move (s.who c) ≡ Wants a next
      → in_row setting.sizes (word_of a) ≡ true
  pub refined : IsProperFor setting.sizes.callers text → AtEachState target setting events (Refined target text setting)
  pub followed : IsProperFor setting.sizes.callers text → RepliesFollow target text setting code events s
  pub guarded : IsProperFor setting.sizes.callers text → AtEachState target setting events (Spared target setting)
  pub warned : IsProperFor setting.sizes.callers text → AtEachState target setting events (StaleLoadsAreWarned target text setting)

-- a run of C up to a moment, and on from there: the core's run beside the first part is a first part of that beside the whole
pub record FollowsOn {C : Type 0} (target : Target) (text : Text) (setting : Setting) (code : Functions C) (first rest : List CEvent) (mid last : CState C) : Type 0 where
  pub before : FollowsText target text setting code first mid
  pub whole : FollowsText target text setting code (first ++ rest) last
  pub more : List CoreEvent
  pub goes_on : whole.events ≡ before.events ++ more

-- of each run of matching callers, and each moment of it. The relation is told by a test: clauses can't go over relations
abbrev pub ForRuns : (C : Type 0) → Target → Setting → (Functions C → List CEvent → List CEvent → CState C → CState C → Type 0) → Type 0
ForRuns C target setting Holds = (code : Functions C) (related : Entry → C → Bool) → Matches target setting code (λ e x. related e x ≡ true)
    → (first rest : List CEvent) (mid last : CState C) → c_run target setting code first (c_start target setting code) ≡ Some mid
    → c_run target setting code rest mid ≡ Some last → Holds code first rest mid last

abbrev pub PromiseOf : Type 0 → Target → Text → Setting → Type 0
PromiseOf C target text setting = ForRuns C target setting (FollowsOn target text setting)

-- the same, and the text is proper; and both parts have one history of an object: its deeds are legal, each between its call's begin and its end
pub record IsLinearizable {C : Type 0} (A : Type 0) (step : Deed → A → Option A) (begun : A) (rules : Rules) (target : Target) (text : Text) (setting : Setting) (code : Functions C) (first rest : List CEvent) (mid last : CState C) : Type 0 where
  pub follows : FollowsOn target text setting code first rest mid last
  pub proper : IsProperFor setting.sizes.callers text
  pub before : IsOneHistory A step begun rules target text setting follows.before.events follows.before.state
  pub whole : IsOneHistory A step begun rules target text setting follows.whole.events follows.whole.state

abbrev pub LinearizableOf : Type 0 → (A : Type 0) → (Deed → A → Option A) → A → Rules → Target → Text → Setting → Type 0
LinearizableOf C A step begun rules target text setting = ForRuns C target setting (IsLinearizable A step begun rules target text setting)
