-- A core run as a run of the pool's machine.
use Rattle.std.specs.Prelude.{ℕ, ◌≡◌, ◌<◌, List, Some}
use Rattle.target_code.specs.declared.target.Target.{Target}
use Rattle.oa_words.specs.declared.packed.Kind.TheVariants as kinds
use Rattle.oa_words.specs.Words.{Word, Status}
use Rattle.phase_pools.specs.Pools.{Retirement}
use Rattle.chain_laws.specs.Chains.{Hands, IsOf}
use Rattle.chain_laws.specs.Machine.{Standing, Retires, PoolState, PoolEvent, pool_run, pool_start}
use Rattle.caller_parts.specs.Settings.{Setting}
use Rattle.caller_steps.specs.Entries.{Entry}
use Rattle.core_runs.specs.Machine.{CoreState, beginning_of, core_start}
use Rattle.core_runs.specs.Views.{CoreView, view}
use Rattle.core_runs.specs.core_sound.Standing.{standing_of}

abbrev pub standings : (ℕ → Entry) → ℕ → Standing
standings who c = standing_of (who c).routine

-- the pool's state if the core's words and callers are these
abbrev pub pool_of : CoreView → Hands → PoolState
pool_of v hands = record { memory = v.memory; hands = hands; who = standings v.who }

abbrev pub first_pool : Target → Setting → PoolState
first_pool target setting = pool_start setting.sizes (beginning_of target setting) (view setting (core_start target setting)).memory

-- events of the pool lead there from its start
pub record Leads (target : Target) (setting : Setting) (pool : PoolState) : Type 0 where
  pub events : List PoolEvent
  pub run : pool_run setting.sizes setting.last events (first_pool target setting) ≡ Some pool

-- to words, and to where the callers stand
abbrev pub LeadsTo : Target → Setting → (Word → ℕ) → (ℕ → Standing) → Type 0
LeadsTo target setting memory who = (hands : Hands) × Leads target setting (record { memory = memory; hands = hands; who = who })

-- to those of a core state
abbrev pub Pooled : Target → Setting → CoreState → Type 0
Pooled target setting state = LeadsTo target setting (view setting state).memory (standings (view setting state).who)

-- what a caller retires is used, and nobody else retires it
pub record RetiresUsed (setting : Setting) (memory : Word → ℕ) (who : ℕ → Standing) : Type 0 where
  pub used : (c : ℕ) (retirement : Retirement) → c < setting.sizes.callers → who c ≡ Retires retirement → IsOf kinds.Used (memory (Status retirement.slot))
  pub alone : (c d : ℕ) (one other : Retirement) → c < setting.sizes.callers → d < setting.sizes.callers → who c ≡ Retires one → who d ≡ Retires other → one.slot ≡ other.slot → c ≡ d
