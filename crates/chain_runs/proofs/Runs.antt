-- The pool's run goes on with each run of the core from one reachable state to another, and what the pool says of three moments.
use Rattle.std.proofs.Common.{ℕ, ◌≡◌, ◌≢◌, ◌≤◌, ◌<◌, ◌∙◌, ◌++◌, List, [], ◌∷◌, length, Option, Some, None, subst, refl}
use Rattle.target_code.specs.declared.target.Target.{Target}
use Rattle.oa_words.specs.Words.{Head, Link}
use Rattle.oa_words.specs.Within.{AreKinds}
use Rattle.oa_words.specs.Packed.{head_word}
use Rattle.oa_words.specs.Starts.{Suits}
use Rattle.chain_laws.specs.Chains.{Hands, stamp, times}
use Rattle.chain_laws.specs.Laws.{Holds, Seen}
use Rattle.chain_laws.proofs.Runs.{run_holds}
use Rattle.chain_laws.proofs.Tops.{tops_stand}
use Rattle.caller_parts.specs.Settings.{Setting}
use Rattle.caller_steps.specs.Asking.{NewsFit}
use Rattle.core_runs.specs.Machine.{CoreState, CoreEvent, Reachable, beginning_of, core_event, core_run, core_start, run_on}
use Rattle.core_runs.specs.Views.{IsShaped, view}
use Rattle.core_runs.proofs.Reaching.{some_is, reaches, run_both, starts}
use Rattle.core_runs.proofs.Seeing.{events_are_seen}
use Rattle.core_runs.proofs.Starting.{start_is_seen}
use Rattle.core_runs.specs.core_pools.Pooled.{RetiresUsed, standings, first_pool}
use Rattle.core_runs.proofs.core_pools.Leading.{RunsTo, run_more}
use Rattle.core_runs.proofs.core_pools.Pooling.{leads_hold, start_pooled}
use Rattle.core_runs.proofs.core_pools.Going.{PoolRuns, event_runs, pool_with}

-- what is known of each reachable state: its shape, and that what is retired is used and nobody else's
pub record Retiring (target : Target) (setting : Setting) (state : CoreState) : Type 0 where
  pub shaped : IsShaped target setting state
  pub used : RetiresUsed setting (view setting state).memory (standings (view setting state).who)

abbrev pub AllRetiring : Target → Setting → Type 0
AllRetiring target setting = (state : CoreState) → Reachable target setting state → Retiring target setting state

module _ (target : Target) (setting : Setting) (are : AreKinds setting.sizes) (few : setting.sizes.slots < setting.sizes.tops) (news : NewsFit target setting.sizes) (suits : Suits setting.sizes (beginning_of target setting)) (all : AllRetiring target setting) where
  pub runs_on : (events : List CoreEvent) (state later : CoreState) (hands : Hands) → Reachable target setting state → Holds setting.sizes (pool_with setting state hands) → core_run target setting events state ≡ Some later → PoolRuns setting state hands later
  runs_on [] state later hands reached holds is = subst (PoolRuns setting state hands) (some_is state later is) (hands, ([], refl))
  runs_on (event ∷ events) state later hands reached holds is =
      of (λ next. runs_on events next later) (core_event target setting state event) refl is where
        of : ((next : CoreState) (hands : Hands) → Reachable target setting next → Holds setting.sizes (pool_with setting next hands) → core_run target setting events next ≡ Some later → PoolRuns setting next hands later)
            → (o : Option CoreState) → core_event target setting state event ≡ o → run_on o (core_run target setting events) ≡ Some later → PoolRuns setting state hands later
        of further None at rest = absurd (let z : None ≡ Some later = rest in cc)
        of further (Some next) at rest =
            let there = reaches target setting state next event reached at in
            let shaped = (all state reached).shaped in
            let one = event_runs target setting are few news state next hands event holds shaped ((events_are_seen target setting).moves state next event shaped at) (all next there).used in
            let more = further next one.0 there (run_holds setting.sizes setting.last one.1.0 (pool_with setting state hands) (pool_with setting next one.0) are few holds one.1.1) rest in (
              more.0,
              (
                one.1.0 ++ more.1.0,
                run_more setting.sizes setting.last one.1.0 more.1.0 (pool_with setting state hands) (pool_with setting next one.0) one.1.1 ∙ more.1.1,
              ),
            )

  -- the pool of a state that a run comes to
  pub record PoolAt (state : CoreState) : Type 0 where
    pub hands : Hands
    pub runs : RunsTo setting.sizes setting.last (first_pool target setting) (pool_with setting state hands)
    pub holds : Holds setting.sizes (pool_with setting state hands)

  pub pool_at : (events : List CoreEvent) (state : CoreState) → core_run target setting events (core_start target setting) ≡ Some state → PoolAt state
  pool_at events state is =
      let first = start_pooled target setting are few suits in
      let holds = leads_hold target setting are few suits (pool_with setting (core_start target setting) first.0) first.1 in
      let on = runs_on events (core_start target setting) state first.0 (starts target setting) holds is in
      record {
        hands = on.0;
        runs = (
          first.1.events ++ on.1.0,
          run_more setting.sizes setting.last first.1.events on.1.0 (first_pool target setting) (pool_with setting (core_start target setting) first.0) first.1.run ∙ on.1.1,
        );
        holds = run_holds setting.sizes setting.last on.1.0 (pool_with setting (core_start target setting) first.0) (pool_with setting state on.0) are few holds on.1.1;
      }

  -- a state in which a kind's head has a slot on top, and two states after it
  pub record Three (k q t : ℕ) : Type 0 where
    pub before : List CoreEvent
    pub loaded : CoreState
    pub leads : core_run target setting before (core_start target setting) ≡ Some loaded
    pub kind : k < length setting.sizes.kinds
    pub head : (view setting loaded).memory (Head k) ≡ head_word setting.sizes.tops q t
    pub small : t < setting.sizes.tops
    pub some : t ≢ 0
    pub events : List CoreEvent
    pub between : CoreState
    pub goes : core_run target setting events loaded ≡ Some between
    pub more : List CoreEvent
    pub later : CoreState
    pub ends : core_run target setting more between ≡ Some later

  -- with pools of the two, in which the slot stands as the pool's laws say
  pub record Known (k q t : ℕ) (x : Three k q t) : Type 0 where
    pub between : Hands
    pub between_holds : Holds setting.sizes (pool_with setting x.between between)
    pub later : Hands
    pub later_holds : Holds setting.sizes (pool_with setting x.later later)
    pub stood : (view setting x.later).memory (Head k) ≡ head_word setting.sizes.tops q t → (times t (between.chain k) ≡ 1) × ((view setting x.between).memory (Link t) ≡ (view setting x.loaded).memory (Link t))
    pub above : times t (between.chain k) ≡ 0 → times t (later.chain k) ≡ 1 → q < stamp setting.sizes.tops (view setting x.later).memory k

  pub known : (k q t : ℕ) (x : Three k q t) → Known k q t x
  known k q t x =
      let first = pool_at x.before x.loaded x.leads in
      let reached : Reachable target setting x.loaded = record { events = x.before; runs = x.leads } in
      let mid = runs_on x.events x.loaded x.between first.hands reached first.holds x.goes in
      let mid_holds = run_holds setting.sizes setting.last mid.1.0 (pool_with setting x.loaded first.hands) (pool_with setting x.between mid.0) are few first.holds mid.1.1 in
      let there : Reachable target setting x.between = record { events = x.before ++ x.events; runs = run_both target setting x.before x.events (core_start target setting) x.loaded x.leads ∙ x.goes } in
      let end = runs_on x.more x.between x.later mid.0 there mid_holds x.ends in
      let seen : Seen setting.sizes setting.last (beginning_of target setting) k q t = record {
        kinds = are;
        slots = few;
        nodes = suits.nodes;
        memory = (view setting (core_start target setting)).memory;
        starts = λ w row. (start_is_seen target setting).memory suits w row;
        before = first.runs.0;
        loaded = pool_with setting x.loaded first.hands;
        leads = first.runs.1;
        kind = x.kind;
        head = x.head;
        small = x.small;
        some = x.some;
        events = mid.1.0;
        between = pool_with setting x.between mid.0;
        goes = mid.1.1;
        more = end.1.0;
        later = pool_with setting x.later end.0;
        ends = end.1.1;
      } in
      let told = tops_stand setting.sizes setting.last (beginning_of target setting) in
      record {
        between = mid.0;
        between_holds = mid_holds;
        later = end.0;
        later_holds = run_holds setting.sizes setting.last end.1.0 (pool_with setting x.between mid.0) (pool_with setting x.later end.0) are few mid_holds end.1.1;
        stood = told.stood k q t seen;
        above = told.above k q t seen;
      }
