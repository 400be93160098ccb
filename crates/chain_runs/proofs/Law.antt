-- The laws of the chains of ready slots in the runs of all callers.
use Rattle.std.proofs.Common.{ℕ, ◌≡◌, ◌≢◌, ◌≤◌, ◌<◌, ◌∙◌, ◌++◌, true, List, [], ◌∷◌, length, Option, Some, None, arith, sym, ap, subst, refl}
use Rattle.std.proofs.lemmas.Bool.Decides.{nat_tests}
use Rattle.norm_lang.specs.declared.text.Text.{Text}
use Rattle.target_code.specs.declared.target.Target.{Target}
use Rattle.target_code.specs.Barred.{IsBarred}
use Rattle.barrier_check.specs.Paired.{Paired, IsSound}
use Rattle.oa_words.specs.Words.{Head, in_row}
use Rattle.oa_words.specs.Within.{AreKinds}
use Rattle.oa_words.specs.Packed.{head_parts}
use Rattle.oa_words.proofs.Parts.{heads_split}
use Rattle.oa_words.specs.Starts.{Suits}
use Rattle.phase_pools.specs.Accesses.{WordAccess, Loads, word_of}
use Rattle.chain_laws.specs.Chains.{stamp}
use Rattle.chain_laws.proofs.Told.{pool_tells}
use Rattle.source_machine.specs.Proper.{IsProperFor}
use Rattle.target_laws.specs.target_runs.Runnable.{MayBeWalked}
use Rattle.caller_parts.specs.declared.setting.Reclamation.TheVariants.{Optimistic}
use Rattle.caller_parts.specs.Settings.{Setting, Fits, IsSetting}
use Rattle.caller_steps.specs.Asking.{NewsFit}
use Rattle.core_runs.proofs.caller_laws.Methods.{news_fit, setting_sane}
use Rattle.core_runs.proofs.caller_laws.Together.{methods}
use Rattle.core_runs.specs.Machine.{CoreState, CoreEvent, Steps, beginning_of, core_event, core_run, core_start, run_on}
use Rattle.core_runs.specs.Views.{IsShaped, Moves, view}
use Rattle.core_runs.proofs.Seeing.{events_are_seen}
use Rattle.core_runs.proofs.Reaching.{run_both, run_more}
use Rattle.core_runs.proofs.core_sound.Reached.{sound_is_shaped, start_suits}
use Rattle.oa_simulation.specs.Shadow.{shadow}
use Rattle.oa_simulation.proofs.Pools.{retires_used}
use Rattle.oa_simulation.proofs.Refining.{plan_of, stands}
use Rattle.chain_runs.specs.Slots.{Chained, InChain, PutsOnTop, SlotsAreChained, TakesTop, words}
use Rattle.chain_runs.specs.Tops.{Moment, NotAfter, StepsNext, LastLoad, StandsAsBefore, Stood, TopsHaveStood}
use Rattle.chain_runs.proofs.Chains.{is_in, none_in, stands_in}
use Rattle.core_runs.proofs.core_pools.Going.{pool_with}
use Rattle.chain_runs.proofs.Runs.{AllRetiring, PoolAt, Three, known, pool_at}
use Rattle.chain_runs.proofs.Carrying.{chained, claimed_kind, same_access, taken_slot}
use Rattle.chain_runs.proofs.Loads.{expects, whole}

-- a run's first event, and the others
first_event : (target : Target) (setting : Setting) (event : CoreEvent) (more : List CoreEvent) (state later : CoreState) → core_run target setting (event ∷ more) state ≡ Some later
    → (next : CoreState) × (core_event target setting state event ≡ Some next) × (core_run target setting more next ≡ Some later)
first_event target setting event more state later is = of (core_event target setting state event) refl is where
  of : (o : Option CoreState) → core_event target setting state event ≡ o → run_on o (core_run target setting more) ≡ Some later → (next : CoreState) × (core_event target setting state event ≡ Some next) × (core_run target setting more next ≡ Some later)
  of None at rest = absurd (let z : None ≡ Some later = rest in cc)
  of (Some next) at rest = (next, at, rest)

-- from one moment to another
from_to : (target : Target) (setting : Setting) (before between all : List CoreEvent) (state later : CoreState) → core_run target setting before (core_start target setting) ≡ Some state → core_run target setting all (core_start target setting) ≡ Some later
    → before ++ between ≡ all → core_run target setting between state ≡ Some later
from_to target setting before between all state later came goes split =
    sym (run_both target setting before between (core_start target setting) state came) ∙ (ap (λ (events : List CoreEvent). core_run target setting events (core_start target setting)) split ∙ goes)

module _ (target : Target) (text : Text) (setting : Setting) (runs : MayBeWalked target text) (barred : IsBarred target text) (own : IsSetting setting) (fits : Fits target setting) (optimistic : setting.reclamation ≡ Optimistic) (proper : IsProperFor setting.sizes.callers text) where
  are : AreKinds setting.sizes
  are = own.sizes.kinds

  few : setting.sizes.slots < setting.sizes.tops
  few = own.sizes.tops

  news : NewsFit target setting.sizes
  news = news_fit target setting (methods target text runs) (setting_sane setting own) fits

  suits : Suits setting.sizes (beginning_of target setting)
  suits = (start_suits target text setting runs own fits).suits

  all : AllRetiring target setting
  all state reached =
      let k = stands target text setting reached.events state runs barred own fits optimistic proper reached.runs in
      record {
        shaped = sound_is_shaped target setting state (methods target text runs) (setting_sane setting own) fits k.sound;
        used = retires_used (plan_of target text setting reached.events) state (shadow target text setting reached.events) k.beside;
      }

  shaped : (events : List CoreEvent) (state : CoreState) → core_run target setting events (core_start target setting) ≡ Some state → IsShaped target setting state
  shaped events state is = (all state (record { events = events; runs = is })).shaped

  pool : (events : List CoreEvent) (state : CoreState) → core_run target setting events (core_start target setting) ≡ Some state → PoolAt target setting are few news suits all state
  pool events state is = pool_at target setting are few news suits all events state is

  pub slots : (events : List CoreEvent) (state : CoreState) → core_run target setting events (core_start target setting) ≡ Some state → Chained target setting state
  slots events state is =
      let here = pool events state is in
      chained target setting are few state here.hands here.holds (shaped events state is)
      (λ later c goes. (let there = pool (events ++ Steps c ∷ []) later (run_more target setting events (Steps c) (core_start target setting) state later is goes) in (there.hands, there.holds)))

  pub tops : (events : List CoreEvent) (state : CoreState) → core_run target setting events (core_start target setting) ≡ Some state → Stood target setting events state
  tops events state is = record {
    expects = expects target setting shaped events state is;
    stood = λ c k found load again some m later. stood c k found load again some m later;
    above = λ c d q k i j below m next takes puts later goes. above c d q k i j below m next takes puts later goes;
  } where
    -- the head that is loaded is one of the row's
    loaded_kind : (c k found : ℕ) → LastLoad target setting events c k found → k < length setting.sizes.kinds
    loaded_kind c k found load =
        let first = first_event target setting (Steps c) load.loads.0.0 load.at.state state
        (from_to target setting load.at.before (Steps c ∷ load.loads.0.0) events load.at.state state load.at.leads is (sym (ap (λ (rest : List CoreEvent). load.at.before ++ rest) load.loads.0.1) ∙ load.at.split)) in
        let m : Moves target setting (view setting load.at.state) (Steps c) (view setting first.0) = (events_are_seen target setting).moves load.at.state first.0 (Steps c) (shaped load.at.before load.at.state load.at.leads) first.1 in
        let same : m.0 ≡ Loads (Head k) = same_access m.0 (Loads (Head k)) (sym m.2 ∙ load.loads.1) in
        let row : in_row setting.sizes (Head k) ≡ true = ap (λ (a : WordAccess). in_row setting.sizes (word_of a)) (sym same) ∙ m.3 in
        grind (arith, nat_tests, row)

    stood : (c k found : ℕ) (load : LastLoad target setting events c k found) → words setting state (Head k) ≡ found → (head_parts setting.sizes.tops found).top ≢ 0
        → (m : Moment target setting events) → NotAfter target setting events load.at m → StandsAsBefore setting.sizes.tops (words setting load.at.state) (words setting m.state) k (head_parts setting.sizes.tops found).top
    stood c k found load again some m later =
        let q = (head_parts setting.sizes.tops found).phase in
        let t = (head_parts setting.sizes.tops found).top in
        let lt = loaded_kind c k found load in
        let three : Three target setting are few news suits all k q t = record {
          before = load.at.before;
          loaded = load.at.state;
          leads = load.at.leads;
          kind = lt;
          head = load.finds ∙ whole setting.sizes.tops found;
          small = (heads_split setting.sizes.tops (let room = own.sizes.room in omega (arith, room))).small found;
          some = some;
          events = later.0;
          between = m.state;
          goes = from_to target setting load.at.before later.0 m.before load.at.state m.state load.at.leads m.leads later.1;
          more = m.rest;
          later = state;
          ends = from_to target setting m.before m.rest events m.state state m.leads is m.split;
        } in
        let x = known target setting are few news suits all k q t three in
        let is = x.stood (again ∙ whole setting.sizes.tops found) in
        record { stands = stands_in setting.sizes (words setting m.state) x.between k t lt x.between_holds.fine is.0; link = is.1 }

    above : (c d q k i j below : ℕ) (m : Moment target setting events) → StepsNext target setting events m c → TakesTop setting m.state c k q j → PutsOnTop setting state d i j below
        → (later : CoreState) → core_event target setting state (Steps d) ≡ Some later → q < stamp setting.sizes.tops (words setting later) i
    above c d q k i j below m next takes puts later goes =
        let run = from_to target setting m.before (Steps c ∷ next.0) events m.state state m.leads is (sym (ap (λ (rest : List CoreEvent). m.before ++ rest) next.1) ∙ m.split) in
        let first = first_event target setting (Steps c) next.0 m.state state run in
        let at_m = pool m.before m.state m.leads in
        let slot = taken_slot target setting are few m.state at_m.hands at_m.holds c k q j takes in
        let lt = claimed_kind target setting are few m.state at_m.hands at_m.holds c k q j takes in
        let same : i ≡ k = (slots events state is).pushed d i j below puts ∙ slot.1 in
        let low = slot.0.0 in
        let high = slot.0.1 in
        let gone = ((slots m.before m.state m.leads).taken c k q j first.0 takes first.1).0 in
        let back = ((slots events state is).put d i j below later puts goes).0 in
        let three : Three target setting are few news suits all k q j = record {
          before = m.before;
          loaded = m.state;
          leads = m.leads;
          kind = lt;
          head = takes.found;
          small = omega (arith, high, few);
          some = λ z. omega (arith, low, z);
          events = Steps c ∷ [];
          between = first.0;
          goes = ap (λ (o : Option CoreState). run_on o (core_run target setting [])) first.1;
          more = next.0 ++ Steps d ∷ [];
          later = later;
          ends = run_more target setting next.0 (Steps d) first.0 state later first.2 goes;
        } in
        let x = known target setting are few news suits all k q j three in
        subst (λ (kind : ℕ). q < stamp setting.sizes.tops (words setting later) kind) (sym same)
        (x.above
        (none_in setting.sizes (words setting first.0) x.between k j lt x.between_holds.fine ((pool_tells setting.sizes (pool_with setting first.0 x.between) x.between_holds).once k j) gone)
        (is_in setting.sizes (words setting later) x.later k j lt x.later_holds.fine (subst (λ (kind : ℕ). InChain setting.sizes.tops (words setting later) kind j) same back)))

pub slots_are_chained : (pair : Paired) (setting : Setting) → IsSound pair → IsSetting setting → Fits pair.target setting → setting.reclamation ≡ Optimistic → SlotsAreChained pair.target pair.source setting
slots_are_chained pair setting sound own fits optimistic proper events state is = slots pair.target pair.source setting (record { small = sound.small; normal = sound.normal; within = sound.within; erases = sound.barred.erases }) sound.barred own fits optimistic proper events state is

pub tops_have_stood : (pair : Paired) (setting : Setting) → IsSound pair → IsSetting setting → Fits pair.target setting → setting.reclamation ≡ Optimistic → TopsHaveStood pair.target pair.source setting
tops_have_stood pair setting sound own fits optimistic proper events state is = tops pair.target pair.source setting (record { small = sound.small; normal = sound.normal; within = sound.within; erases = sound.barred.erases }) sound.barred own fits optimistic proper events state is
