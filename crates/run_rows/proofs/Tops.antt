-- The rows of tops, by computing.
use Rattle.std.proofs.Common.{◌≡◌, ◌≢◌, ℕ, zero, suc, ◌∙◌, ◌++◌, List, [], ◌∷◌, Option, Some, None, sym, subst, refl, append-nil}
use Rattle.std.proofs.Math.Seq.{append_snoc}
use Rattle.std.specs.Prelude.{true, false, is_some, unwrap_or}
use Rattle.target_code.specs.declared.target.Target.{Target}
use Rattle.oa_words.specs.Words.{Word, Head, Link}
use Rattle.phase_pools.specs.declared.stages.Scheme.TheVariants.{Warned}
use Rattle.phase_pools.specs.declared.stages.SweepStage.TheVariants as sweeps
use Rattle.phase_pools.specs.declared.stages.ClaimStage.TheVariants as claims
use Rattle.phase_pools.specs.Accesses.{Loads}
use Rattle.phase_pools.specs.Pools.{sweep_begun}
use Rattle.chain_laws.specs.Chains.{IsChain, links, times, top}
use Rattle.caller_parts.specs.Settings.{Setting}
use Rattle.caller_steps.specs.Wants.{wants}
use Rattle.caller_steps.specs.After.{after, signs}
use Rattle.core_runs.specs.Machine.{CoreState, CoreEvent, Steps, core_event, core_run, core_start, run_on}
use Rattle.core_runs.specs.Views.{view}
use Rattle.core_runs.proofs.Reaching.{run_both, run_more}
use Rattle.core_rows.specs.Short.{call_of}
use Rattle.core_rows.specs.ShippedTargets.{list_target}
use Rattle.core_rows.specs.SharedRows.{shared_setting}
use Rattle.core_rows.specs.Stories.{calls, steps}
use Rattle.chain_runs.specs.Slots.{InChain}
use Rattle.chain_runs.proofs.Loads.{IsLast, now_last, still_last}
use Rattle.run_rows.specs.ListTops.{TakenAndPushed, HeadAgain, state_after, memory_after, five, looked, three_pushed, meanwhile}

steps_same : (c d : ℕ) → Steps c ≡ Steps d → c ≡ d
steps_same c d is = cc

-- the steps of another caller leave the last load
others_step : (target : Target) (setting : Setting) (c d n : ℕ) (past before : List CoreEvent) (state later : CoreState) → d ≢ c → core_run target setting past (core_start target setting) ≡ Some state → core_run target setting (steps d n) state ≡ Some later
    → IsLast target setting past c 0 before → IsLast target setting (past ++ steps d n) c 0 before
others_step target setting c d zero past before state later ne came goes l = subst (λ (events : List CoreEvent). IsLast target setting events c 0 before) (sym (append-nil past)) l
others_step target setting c d (suc n) past before state later ne came goes l =
    of (λ next at rest. others_step target setting c d n (past ++ Steps d ∷ []) before next later ne (run_more target setting past (Steps d) (core_start target setting) state next came at) rest
    (still_last target setting past state (Steps d) c 0 before came (λ same. absurd (ne (steps_same d c same))) l)) (core_event target setting state (Steps d)) refl goes where
      of : ((next : CoreState) → core_event target setting state (Steps d) ≡ Some next → core_run target setting (steps d n) next ≡ Some later → IsLast target setting ((past ++ Steps d ∷ []) ++ steps d n) c 0 before)
          → (o : Option CoreState) → core_event target setting state (Steps d) ≡ o → run_on o (core_run target setting (steps d n)) ≡ Some later → IsLast target setting (past ++ steps d (suc n)) c 0 before
      of further None at rest = absurd (let z : None ≡ Some later = rest in cc)
      of further (Some next) at rest = subst (λ (events : List CoreEvent). IsLast target setting events c 0 before) (append_snoc past (Steps d) (steps d n)) (further next at rest)

-- a run that comes to a state comes to the one that is seen after it
ran : (o : Option CoreState) (other : CoreState) → is_some o ≡ true → o ≡ Some (unwrap_or o other)
ran None other is = absurd (let z : false ≡ true = is in cc)
ran (Some state) other is = refl

abbrev runs_to : ℕ → List CoreEvent → Type 0
runs_to slots events = core_run list_target (shared_setting slots) events (core_start list_target (shared_setting slots)) ≡ Some (state_after slots events)

comes : (slots : ℕ) (events : List CoreEvent) → is_some (core_run list_target (shared_setting slots) events (core_start list_target (shared_setting slots))) ≡ true → runs_to slots events
comes slots events is = ran (core_run list_target (shared_setting slots) events (core_start list_target (shared_setting slots))) (core_start list_target (shared_setting slots)) is

goes_on : (slots : ℕ) (past more : List CoreEvent) → runs_to slots past → runs_to slots (past ++ more) → core_run list_target (shared_setting slots) more (state_after slots past) ≡ Some (state_after slots (past ++ more))
goes_on slots past more came all = sym (run_both list_target (shared_setting slots) past more (core_start list_target (shared_setting slots)) (state_after slots past) came) ∙ all

-- a load of a link is none of the head
no_head : (j : ℕ) → Some (Loads (Link j)) ≡ Some (Loads (Head 0)) → ⊥
no_head j is = cc

two_is_none : ◌≡◌ {A = ℕ} 2 0 → ⊥
two_is_none e = cc

three_is_none : ◌≡◌ {A = ℕ} 3 0 → ⊥
three_is_none e = cc

none_is_one : ◌≡◌ {A = ℕ} 0 1 → ⊥
none_is_one e = cc

-- if none is on top, none stands
none_stands : (tops : ℕ) (memory : Word → ℕ) (k j : ℕ) → top tops memory k ≡ 0 → ¬ InChain tops memory k j
none_stands tops memory k j none there = of there.chain there.linked there.once where
  of : (chain : List ℕ) → IsChain (links memory) (top tops memory k) chain → times j chain ≡ 1 → ⊥
  of [] linked once = none_is_one once
  of (i ∷ below) linked once = linked.1 (sym linked.0 ∙ none)

five_last : IsLast list_target (shared_setting 2) (five 7) 0 0 (five 5)
unfolding wants after signs
five_last = still_last list_target (shared_setting 2) (five 6) (state_after 2 (five 6)) (Steps 0) 0 0 (five 5) (comes 2 (five 6) refl) (λ same load. no_head 2 load) (now_last list_target (shared_setting 2) (five 5) 0 0)

pub taken_and_pushed : TakenAndPushed
unfolding wants after signs
taken_and_pushed = record {
  exchange = refl;
  load = record {
    at = record { before = five 5; rest = steps 0 2; split = refl; state = state_after 2 (five 5); leads = comes 2 (five 5) refl };
    loads = ((steps 0 1, refl), refl);
    finds = refl;
    last = five_last;
  };
  found = refl;
  top = refl;
  stands = record { chain = 2 ∷ []; linked = (refl, two_is_none, refl); once = refl };
  moment = record {
    before = five 7;
    rest = steps 0 15 ++ (calls 1 (call_of 2 5) 5 ++ (calls 0 (call_of 1 5) 21 ++ calls 0 (call_of 0 6) 30));
    split = refl;
    state = state_after 2 (five 7);
    leads = comes 2 (five 7) refl;
  };
  there = refl;
  next = (steps 0 14 ++ (calls 1 (call_of 2 5) 5 ++ (calls 0 (call_of 1 5) 21 ++ calls 0 (call_of 0 6) 30)), refl);
  takes = record { claim = record { kind = 0; stage = claims.Take 1 2 0; sweeps = 0; sweep = sweep_begun 8192 Warned }; next = 0; at = refl; of_kind = refl; stage = refl; found = refl };
  taken = refl;
  gone = none_stands 8192 (memory_after 2 (five 8)) 0 2 refl;
  puts = record {
    claim = record { kind = 0; stage = claims.Sweeps; sweeps = 0; sweep = record { scheme = Warned; tops = 8192; stage = sweeps.PushTop 0 2 1 0; bound = 2; low = 2; gathered = [] } };
    phase = 1;
    at = refl;
    in_sweep = refl;
    stage = refl;
    found = refl;
  };
  before = refl;
  after = refl;
  back = record { chain = 2 ∷ []; linked = (refl, two_is_none, refl); once = refl };
}

-- before the load of caller 1, after it, and before its exchange
abbrev looking : ℕ → List CoreEvent
looking n = three_pushed ++ calls 1 (call_of 0 9) n

came_six : runs_to 3 (looking 6)
unfolding wants after signs
came_six = comes 3 (looking 6) refl

came_looked : runs_to 3 looked
unfolding wants after signs
came_looked = comes 3 looked refl

came_nine : runs_to 3 (meanwhile 9)
unfolding wants after signs
came_nine = comes 3 (meanwhile 9) refl

-- the step between loads the link
no_load : wants list_target ((view (shared_setting 3) (state_after 3 (looking 6))).who 1) ≡ Some (Loads (Link 3))
unfolding wants after signs
no_load = refl

looked_last : IsLast list_target (shared_setting 3) looked 1 0 (looking 5)
looked_last = still_last list_target (shared_setting 3) (looking 6) (state_after 3 (looking 6)) (Steps 1) 1 0 (looking 5) came_six (λ same load. no_head 3 (sym no_load ∙ load)) (now_last list_target (shared_setting 3) (looking 5) 1 0)

again_last : IsLast list_target (shared_setting 3) (meanwhile 9) 1 0 (looking 5)
again_last = others_step list_target (shared_setting 3) 1 0 9 looked (looking 5) (state_after 3 looked) (state_after 3 (meanwhile 9)) (λ e. cc) came_looked (goes_on 3 looked (steps 0 9) came_looked came_nine) looked_last

pub head_again : HeadAgain
unfolding wants after signs
head_again = record {
  load = record {
    at = record { before = looking 5; rest = steps 1 2 ++ steps 0 9; split = refl; state = state_after 3 (looking 5); leads = comes 3 (looking 5) refl };
    loads = ((steps 1 1 ++ steps 0 9, refl), refl);
    finds = refl;
    last = again_last;
  };
  exchange = refl;
  loaded = refl;
  between = refl;
  again = refl;
  moment = record { before = meanwhile 5; rest = steps 0 4; split = refl; state = state_after 3 (meanwhile 5); leads = comes 3 (meanwhile 5) refl };
  there = refl;
  since = (steps 1 2 ++ steps 0 5, refl);
  stands = record { chain = 2 ∷ 3 ∷ []; linked = (refl, two_is_none, (refl, three_is_none, refl)); once = refl };
  link = refl;
}
