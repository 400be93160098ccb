-- What stands on top of a kind's chain between a load of the kind's head word and an exchange, and under which phase a slot comes back there.
use Rattle.std.specs.Prelude.{ℕ, ◌≡◌, ◌≢◌, ◌<◌, List, ◌∷◌, ◌++◌, Some}
use Rattle.norm_lang.specs.declared.text.Text.{Text}
use Rattle.target_code.specs.declared.target.Target.{Target}
use Rattle.oa_words.specs.Words.{Word, Head, Link}
use Rattle.oa_words.specs.Packed.{head_parts}
use Rattle.phase_pools.specs.Accesses.{Loads, Exchanges}
use Rattle.chain_laws.specs.Chains.{stamp}
use Rattle.source_machine.specs.Proper.{IsProperFor}
use Rattle.caller_parts.specs.Settings.{Setting}
use Rattle.caller_steps.specs.Wants.{wants}
use Rattle.core_runs.specs.Machine.{CoreState, CoreEvent, Steps, core_event, core_run, core_start}
use Rattle.core_runs.specs.Views.{view}
use Rattle.chain_runs.specs.Slots.{InChain, TakesTop, PutsOnTop, words}

-- a moment of a run: the events before it, those after it, and the state
pub record Moment (target : Target) (setting : Setting) (events : List CoreEvent) : Type 0 where
  pub before : List CoreEvent
  pub rest : List CoreEvent
  pub split : before ++ rest ≡ events
  pub state : CoreState
  pub leads : core_run target setting before (core_start target setting) ≡ Some state

-- one moment isn't after another
abbrev pub NotAfter : (target : Target) (setting : Setting) (events : List CoreEvent) → Moment target setting events → Moment target setting events → Type 0
NotAfter target setting events m later = (between : List CoreEvent) × (m.before ++ between ≡ later.before)

-- the next event is c's step
abbrev pub StepsNext : (target : Target) (setting : Setting) (events : List CoreEvent) → Moment target setting events → ℕ → Type 0
StepsNext target setting events m c = (after : List CoreEvent) × (m.rest ≡ Steps c ∷ after)

-- and it loads the head word of a kind
abbrev pub LoadsHead : (target : Target) (setting : Setting) (events : List CoreEvent) → Moment target setting events → ℕ → ℕ → Type 0
LoadsHead target setting events m c k = StepsNext target setting events m c × (wants target ((view setting m.state).who c) ≡ Some (Loads (Head k)))

-- the last load of a kind's head word by c in a run, and the word that it found
pub record LastLoad (target : Target) (setting : Setting) (events : List CoreEvent) (c k found : ℕ) : Type 0 where
  pub at : Moment target setting events
  pub loads : LoadsHead target setting events at c k
  pub finds : words setting at.state (Head k) ≡ found
  pub last : (m : Moment target setting events) → LoadsHead target setting events m c k → NotAfter target setting events m at

-- a slot as it stood in a kind's chain at a moment, with its link
pub record StandsAsBefore (tops : ℕ) (before now : Word → ℕ) (k j : ℕ) : Type 0 where
  pub stands : InChain tops now k j
  pub link : now (Link j) ≡ before (Link j)

-- after a run's events, in the state that they lead to
pub record Stood (target : Target) (setting : Setting) (events : List CoreEvent) (state : CoreState) : Type 0 where
  -- an exchange on a kind's head word expects what its caller's last load of it found
  pub expects : (c k expected replacement : ℕ) → c < setting.sizes.callers → wants target ((view setting state).who c) ≡ Some (Exchanges (Head k) expected replacement)
      → LastLoad target setting events c k expected
  -- if the head word is what that load found, and a slot is on top, that slot has stood in the kind's chain at each moment since the
  -- load, and its link is unchanged
  pub stood : (c k found : ℕ) (load : LastLoad target setting events c k found) → words setting state (Head k) ≡ found → (head_parts setting.sizes.tops found).top ≢ 0
      → (m : Moment target setting events) → NotAfter target setting events load.at m → StandsAsBefore setting.sizes.tops (words setting load.at.state) (words setting m.state) k (head_parts setting.sizes.tops found).top
  -- a slot that was taken from under a head with phase q is pushed again only under a greater phase
  pub above : (c d q k i j below : ℕ) (m : Moment target setting events) → StepsNext target setting events m c → TakesTop setting m.state c k q j → PutsOnTop setting state d i j below
      → (later : CoreState) → core_event target setting state (Steps d) ≡ Some later → q < stamp setting.sizes.tops (words setting later) i

-- of a text that is proper for the setting's callers
abbrev pub TopsHaveStood : Target → Text → Setting → Type 0
TopsHaveStood target text setting = IsProperFor setting.sizes.callers text → (events : List CoreEvent) (state : CoreState) → core_run target setting events (core_start target setting) ≡ Some state → Stood target setting events state
