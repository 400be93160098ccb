-- The pool's state beside a core run from the start.
use Rattle.std.proofs.Common.{◌<◌, ℕ, ◌≤◌, [], Some, refl, sym, ap}
use Rattle.target_code.specs.declared.target.Target.{Target}
use Rattle.oa_words.specs.Within.{AreKinds}
use Rattle.oa_words.specs.Starts.{Suits}
use Rattle.chain_laws.specs.Machine.{Standing, PoolState}
use Rattle.chain_laws.specs.Told.{PoolTells}
use Rattle.chain_laws.specs.Laws.{Holds}
use Rattle.chain_laws.proofs.Tops.{chains_stand}
use Rattle.chain_laws.proofs.Told.{pool_tells}
use Rattle.caller_parts.specs.Settings.{Setting}
use Rattle.caller_steps.specs.Entries.{Entry}
use Rattle.caller_steps.specs.Asking.{NewsFit}
use Rattle.core_runs.specs.Machine.{CoreState, CoreEvent, beginning_of, core_start}
use Rattle.core_runs.specs.Views.{IsShaped, Moves, view}
use Rattle.core_runs.proofs.Starting.{start_is_seen}
use Rattle.core_runs.specs.core_sound.Standing.{standing_of}
use Rattle.core_runs.specs.core_pools.Pooled.{standings, first_pool, Leads, Pooled, RetiresUsed}
use Rattle.core_runs.proofs.core_pools.Going.{event_goes}

module _ (target : Target) (setting : Setting) (are : AreKinds setting.sizes) (few : setting.sizes.slots < setting.sizes.tops) (suits : Suits setting.sizes (beginning_of target setting)) where
  -- what holds of the pool where events lead, and what it tells
  pub leads_hold : (pool : PoolState) → Leads target setting pool → Holds setting.sizes pool
  leads_hold pool l = chains_stand setting.sizes setting.last (beginning_of target setting) are few suits.nodes _ (λ w row. (start_is_seen target setting).memory suits w row) l.events pool l.run

  pub leads_tell : (pool : PoolState) → Leads target setting pool → PoolTells setting.sizes pool
  leads_tell pool l = pool_tells setting.sizes pool (leads_hold pool l)

  -- at the start
  start_holds : Holds setting.sizes (first_pool target setting)
  start_holds = leads_hold (first_pool target setting) (record { events = []; run = refl })

  -- the state after an event, if what is retired then is used and nobody else's
  pub event_pooled : NewsFit target setting.sizes → (state later : CoreState) (event : CoreEvent) → IsShaped target setting state → Moves target setting (view setting state) event (view setting later) → Pooled target setting state
      → RetiresUsed setting (view setting later).memory (standings (view setting later).who) → Pooled target setting later
  event_pooled news state later event shaped m pooled used =
      let goes = event_goes target setting are few news (first_pool target setting) start_holds state later event shaped m (pooled.0, (pooled.1.events, pooled.1.run)) used in
      (goes.0, record { events = goes.1.0; run = goes.1.1 })

  -- at the start every caller stands elsewhere
  pub start_pooled : Pooled target setting (core_start target setting)
  start_pooled = (
    (first_pool target setting).hands,
    record {
      events = [];
      run = ap (λ (who : ℕ → Standing). Some (record (first_pool target setting) { who = who })) (λ i c. sym (ap (λ (e : Entry). standing_of e.routine) ((start_is_seen target setting).who c)) i);
    },
  )
