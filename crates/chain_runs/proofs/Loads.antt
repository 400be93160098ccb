-- An exchange on a kind's head word expects what its caller's last load of it found: if a caller stands in a look or a push, its last
-- load found the phase and the top that it has.
use Rattle.std.proofs.Common.{ℕ, zero, ◌≡◌, ◌≢◌, ◌+◌, ◌<◌, ◌∙◌, ◌++◌, ◌==◌, Bool, true, false, List, [], ◌∷◌, Option, Some, None, arith, ⊎_elim, sym, ap, subst, refl, append_assoc, append-nil, if◌then◌else◌}
use Rattle.std.specs.Prelude.{nat_lt}
use Rattle.std.proofs.Math.Seq.{append_snoc}
use Rattle.target_code.specs.declared.target.Target.{Target}
use Rattle.oa_words.specs.declared.packed.Kind.TheVariants as kinds
use Rattle.oa_words.specs.Words.{Word, Phase, Status, Head, Sizes, slot_range}
use Rattle.oa_words.specs.SlotKinds.{kind_of}
use Rattle.oa_words.specs.Packed.{head_parts, head_word, status_parts, status_word}
use Rattle.oa_words.proofs.Parts.{head_whole}
use Rattle.phase_pools.specs.declared.access.ClaimEnd.{ClaimEnd}
use Rattle.phase_pools.specs.declared.access.ClaimEnd.TheVariants as ends
use Rattle.phase_pools.specs.declared.access.SweepEnd.{SweepEnd}
use Rattle.phase_pools.specs.declared.access.SweepEnd.TheVariants as swept
use Rattle.phase_pools.specs.declared.stages.Scheme.{Scheme}
use Rattle.phase_pools.specs.declared.stages.Scheme.TheVariants.{Warned, Announced}
use Rattle.phase_pools.specs.declared.stages.SweepStage.{SweepStage}
use Rattle.phase_pools.specs.declared.stages.SweepStage.TheVariants as sweeps
use Rattle.phase_pools.specs.declared.stages.ClaimStage.{ClaimStage}
use Rattle.phase_pools.specs.declared.stages.ClaimStage.TheVariants as claims
use Rattle.phase_pools.specs.declared.stages.RetireStage.{RetireStage}
use Rattle.phase_pools.specs.declared.stages.RetireStage.TheVariants as retires
use Rattle.phase_pools.specs.Accesses.{WordAccess, Loads, Exchanges, word_of}
use Rattle.phase_pools.specs.Pools.{Sweep, SweepTurn, sweep_goes, sweep_ends, sweep_on, warn_wanted, sweep_wants_at, sweep_accepts_at, hazard_next, warned_all, warn_next, Claim, ClaimTurn, claim_goes, claim_ends, claim_wants, claim_wants_at, claim_accepts, claim_accepts_at, look_ended, sweep_follows, sweep_ended, retire_wants_at}
use Rattle.phase_pools.proofs.Keeping.{claim_stays}
use Rattle.phase_pools.proofs.Statuses.{from_slot, from_status}
use Rattle.chain_laws.specs.Machine.{Elsewhere}
use Rattle.chain_laws.proofs.Lists.{each_put}
use Rattle.caller_parts.specs.declared.routine.Routine.{Routine}
use Rattle.caller_parts.specs.declared.routine.Routine.TheVariants.{Retires, Claims}
use Rattle.caller_parts.specs.declared.setting.Reclamation.{Reclamation}
use Rattle.caller_parts.specs.declared.setting.Reclamation.TheVariants.{Optimistic, Epochs}
use Rattle.caller_parts.specs.Settings.{Setting}
use Rattle.caller_steps.specs.Entries.{Entry}
use Rattle.caller_steps.specs.Wants.{wants}
use Rattle.caller_steps.specs.After.{after, taken, first_routine}
use Rattle.core_runs.specs.Machine.{CoreState, CoreEvent, Takes, Steps, core_event, core_run, core_start, run_on}
use Rattle.core_runs.specs.Views.{IsShaped, Moves, view}
use Rattle.core_runs.proofs.Reaching.{run_more, some_is}
use Rattle.core_runs.proofs.Seeing.{events_are_seen}
use Rattle.core_runs.proofs.Starting.{start_is_seen}
use Rattle.core_runs.proofs.caller_laws.Equations.{wants_claims, wants_retires}
use Rattle.core_runs.proofs.caller_laws.Routed.{HoldsAtBegins, after_routed}
use Rattle.core_runs.specs.core_sound.Standing.{standing_of}
use Rattle.core_runs.proofs.core_sound.Stamping.{elsewhere_wants}
use Rattle.chain_runs.specs.Slots.{words}
use Rattle.chain_runs.specs.Tops.{Moment, LoadsHead, LastLoad}
use Rattle.chain_runs.proofs.Chains.{snoc_split}
use Rattle.chain_runs.proofs.Carrying.{same_access}

steps_same : (c d : ℕ) → Steps c ≡ Steps d → c ≡ d
steps_same c d is = cc

-- the parts of a head word make it
pub whole : (tops word : ℕ) → word ≡ head_word tops (head_parts tops word).phase (head_parts tops word).top
whole tops word = sym (head_whole tops word)

-- what holds of both holds of the one that a test chooses
either_way : {A : Type 0} (P : A → Type 0) (b : Bool) (x y : A) → P x → P y → P (if b then x else y)
either_way P true x y one other = one
either_way P false x y one other = other

module _ (target : Target) (setting : Setting) where
  -- ---- one more event

  -- no load of the kind's head by c comes after these events
  abbrev pub IsLast : List CoreEvent → ℕ → ℕ → List CoreEvent → Type 0
  IsLast events c i before = (m : Moment target setting events) → LoadsHead target setting events m c i → (between : List CoreEvent) × (m.before ++ between ≡ before)

  -- what is made now is the last
  pub now_last : (past : List CoreEvent) (c i : ℕ) → IsLast (past ++ Steps c ∷ []) c i past
  now_last past c i m loads = ⊎_elim
      (λ (last : (m.before ≡ past) × (Steps c ≡ Steps c)). ([], append-nil m.before ∙ last.0))
      (λ (among : (less : List CoreEvent) × (m.before ++ (Steps c ∷ less) ≡ past)). (Steps c ∷ among.0, among.1))
      (snoc_split m.before (Steps c) loads.0.0 past (Steps c) (sym (ap (λ (l : List CoreEvent). m.before ++ l) loads.0.1) ∙ m.split))

  -- an event that is no load of the head by c leaves the last one the last
  pub still_last : (past : List CoreEvent) (state : CoreState) (event : CoreEvent) (c i : ℕ) (before : List CoreEvent) → core_run target setting past (core_start target setting) ≡ Some state
      → (event ≡ Steps c → wants target ((view setting state).who c) ≢ Some (Loads (Head i))) → IsLast past c i before → IsLast (past ++ event ∷ []) c i before
  still_last past state event c i before runs none l m loads = ⊎_elim
      (λ (last : (m.before ≡ past) × (Steps c ≡ event)).
      let same : m.state ≡ state = some_is m.state state (sym m.leads ∙ (ap (λ (e : List CoreEvent). core_run target setting e (core_start target setting)) last.0 ∙ runs)) in
      absurd (none (sym last.1) (ap (λ (s : CoreState). wants target ((view setting s).who c)) (sym same) ∙ loads.1)))
      (λ (among : (less : List CoreEvent) × (m.before ++ (Steps c ∷ less) ≡ past)).
      l (record { before = m.before; rest = Steps c ∷ among.0; split = among.1; state = m.state; leads = m.leads }) ((among.0, refl), loads.1))
      (snoc_split m.before (Steps c) loads.0.0 past event (sym (ap (λ (e : List CoreEvent). m.before ++ e) loads.0.1) ∙ m.split))

  loaded_now : (past : List CoreEvent) (state : CoreState) (c i found : ℕ) → core_run target setting past (core_start target setting) ≡ Some state → wants target ((view setting state).who c) ≡ Some (Loads (Head i))
      → words setting state (Head i) ≡ found → LastLoad target setting (past ++ Steps c ∷ []) c i found
  loaded_now past state c i found runs want finds = record {
    at = record { before = past; rest = Steps c ∷ []; split = refl; state = state; leads = runs };
    loads = (([], refl), want);
    finds = finds;
    last = now_last past c i;
  }

  still_loaded : (past : List CoreEvent) (state : CoreState) (event : CoreEvent) (c i found : ℕ) → core_run target setting past (core_start target setting) ≡ Some state → (event ≡ Steps c → wants target ((view setting state).who c) ≢ Some (Loads (Head i)))
      → LastLoad target setting past c i found → LastLoad target setting (past ++ event ∷ []) c i found
  still_loaded past state event c i found runs none l = record {
    at = record { before = l.at.before; rest = l.at.rest ++ event ∷ []; split = sym (append_assoc l.at.before l.at.rest (event ∷ [])) ∙ ap (λ (e : List CoreEvent). e ++ event ∷ []) l.at.split; state = l.at.state; leads = l.at.leads };
    loads = ((l.loads.0.0 ++ event ∷ [], ap (λ (e : List CoreEvent). e ++ event ∷ []) l.loads.0.1), l.loads.1);
    finds = l.finds;
    last = still_last past state event c i l.at.before runs none l.last;
  }

  -- ---- a caller in a look or a push

  abbrev Found : List CoreEvent → ℕ → ℕ → ℕ → ℕ → Type 0
  Found events c i q t = LastLoad target setting events c i (head_word setting.sizes.tops q t)

  -- a push goes to the head of its slot's kind
  abbrev AtSweep : List CoreEvent → ℕ → SweepStage → Type 0
  AtSweep events c (sweeps.PushHead i j) = i ≡ kind_of setting.sizes j
  AtSweep events c (sweeps.PushLink j q t) = Found events c (kind_of setting.sizes j) q t
  AtSweep events c (sweeps.PushTop i j q t) = Found events c i q t
  AtSweep events c _ = Unit {0}

  abbrev AtStage : List CoreEvent → ℕ → ℕ → Sweep → ClaimStage → Type 0
  AtStage events c i sweep (claims.ReadLink q t) = Found events c i q t
  AtStage events c i sweep (claims.Take q t next) = Found events c i q t
  AtStage events c i sweep claims.Sweeps = AtSweep events c sweep.stage
  AtStage events c i sweep _ = Unit {0}

  abbrev AtRoutine : List CoreEvent → ℕ → Routine → Type 0
  AtRoutine events c (Claims claim) = (claim.sweep.tops ≡ setting.sizes.tops) × AtStage events c claim.kind claim.sweep claim.stage
  AtRoutine events c _ = Unit {0}

  -- what a caller that doesn't move keeps
  module _ (past more : List CoreEvent) (c : ℕ) (keep : (i q t : ℕ) → Found past c i q t → Found more c i q t) where
    stays_sweep : (stage : SweepStage) → AtSweep past c stage → AtSweep more c stage
    stays_sweep (sweeps.PushHead i j) k = k
    stays_sweep (sweeps.PushLink j q t) k = keep (kind_of setting.sizes j) q t k
    stays_sweep (sweeps.PushTop i j q t) k = keep i q t k
    stays_sweep _ k = tt

    stays_stage : (i : ℕ) (sweep : Sweep) (stage : ClaimStage) → AtStage past c i sweep stage → AtStage more c i sweep stage
    stays_stage i sweep (claims.ReadLink q t) k = keep i q t k
    stays_stage i sweep (claims.Take q t next) k = keep i q t k
    stays_stage i sweep claims.Sweeps k = stays_sweep sweep.stage k
    stays_stage i sweep _ k = tt

    stays_routine : (r : Routine) → AtRoutine past c r → AtRoutine more c r
    stays_routine (Claims claim) k = (k.0, stays_stage claim.kind claim.sweep claim.stage k.1)
    stays_routine _ k = tt

  -- ---- a step of a claim

  -- what the access that c wants makes of its last load of each head: another access than a load of the head keeps it, a load of it is it
  record Turns (past : List CoreEvent) (c : ℕ) (memory : Word → ℕ) (a : WordAccess) : Type 0 where
    keeps : (i q t : ℕ) → a ≢ Loads (Head i) → Found past c i q t → Found (past ++ Steps c ∷ []) c i q t
    loads : (i : ℕ) → a ≡ Loads (Head i) → Found (past ++ Steps c ∷ []) c i (head_parts setting.sizes.tops (memory (Head i))).phase (head_parts setting.sizes.tops (memory (Head i))).top

  turns_by : (past : List CoreEvent) (state : CoreState) (c : ℕ) (a : WordAccess) → core_run target setting past (core_start target setting) ≡ Some state → wants target ((view setting state).who c) ≡ Some a → Turns past c (words setting state) a
  turns_by past state c a runs want = record {
    keeps = λ i q t other l. still_loaded past state (Steps c) c i (head_word setting.sizes.tops q t) runs (λ same load. other (same_access a (Loads (Head i)) (sym want ∙ load))) l;
    loads = λ i is. loaded_now past state c i _ runs (want ∙ ap Some is) (whole setting.sizes.tops (words setting state (Head i)));
  }

  abbrev SweepNow : List CoreEvent → ℕ → SweepTurn → Option SweepEnd → Type 0
  SweepNow events c turn None = AtSweep events c turn.sweep.stage
  SweepNow events c turn (Some end) = Unit {0}

  abbrev ClaimNow : List CoreEvent → ℕ → ClaimTurn → Option ClaimEnd → Type 0
  ClaimNow events c turn None = AtStage events c turn.claim.kind turn.claim.sweep turn.claim.stage
  ClaimNow events c turn (Some end) = Unit {0}

  module _ (past : List CoreEvent) (c : ℕ) (memory : Word → ℕ) where
    abbrev now : List CoreEvent
    now = past ++ Steps c ∷ []

    abbrev IsSwept : SweepTurn → Type 0
    IsSwept turn = SweepNow now c turn turn.ended

    abbrev IsClaimed : ClaimTurn → Type 0
    IsClaimed turn = ClaimNow now c turn turn.ended

    abbrev n : Sizes
    n = setting.sizes

    sweep_onward : (sweep : Sweep) (j : ℕ) → IsSwept (sweep_on n sweep j)
    sweep_onward sweep j = from_slot IsSwept n sweep j (λ more. tt) tt

    hazard_onward : (d r : ℕ) → AtSweep now c (hazard_next n d r)
    hazard_onward d r = either_way (AtSweep now c) (nat_lt (r + 1) 8) (sweeps.ReadHazard d (r + 1)) (if nat_lt (d + 1) n.callers then sweeps.ReadHazard (d + 1) 0 else sweeps.ReadStatus (slot_range n).last) tt
        (either_way (AtSweep now c) (nat_lt (d + 1) n.callers) (sweeps.ReadHazard (d + 1) 0) (sweeps.ReadStatus (slot_range n).last) tt tt)

    all_warned : (scheme : Scheme) → AtSweep now c (warned_all n scheme)
    all_warned Warned = tt
    all_warned (Announced own) = tt

    warn_onward : (scheme : Scheme) (d : ℕ) → AtSweep now c (warn_next n scheme d)
    warn_onward scheme d = either_way (AtSweep now c) (nat_lt (d + 1) n.callers) (sweeps.Warn (d + 1)) (warned_all n scheme) tt (all_warned scheme)

    sweep_onwards : (last : ℕ) (sweep : Sweep) (stage : SweepStage) → Turns past c memory (sweep_wants_at sweep.tops sweep.scheme stage sweep.bound) → AtSweep past c stage
        → IsSwept (sweep_accepts_at n last sweep (memory (word_of (sweep_wants_at sweep.tops sweep.scheme stage sweep.bound))) stage)
    sweep_onwards last sweep sweeps.ReadPhase t k = either_way IsSwept (memory Phase == last) (sweep_ends sweep (swept.PhasesOver (memory Phase))) (sweep_goes sweep (sweeps.RaisePhase (memory Phase))) tt tt
    sweep_onwards last sweep (sweeps.RaisePhase p) t k = tt
    sweep_onwards last sweep (sweeps.Warn d) t k = warn_onward sweep.scheme d
    sweep_onwards last sweep (sweeps.ReadHazard d r) t k = hazard_onward d r
    sweep_onwards last sweep (sweeps.ReadStatus j) t k = from_status IsSwept n sweep j (status_parts (memory (Status j))) (sweep_onward sweep j) (λ p is below away. tt)
    sweep_onwards last sweep (sweeps.MakeReady j q) t k = either_way IsSwept (memory (Status j) == status_word q kinds.Retired) (sweep_goes sweep (sweeps.PushHead (kind_of n j) j)) (sweep_on n sweep j) refl (sweep_onward sweep j)
    sweep_onwards last sweep (sweeps.PushHead i j) t k =
        subst (λ (kind : ℕ). Found now c kind (head_parts setting.sizes.tops (memory (Head i))).phase (head_parts setting.sizes.tops (memory (Head i))).top) k (t.loads i refl)
    sweep_onwards last sweep (sweeps.PushLink j q x) t k = t.keeps (kind_of n j) q x (λ is. cc) k
    sweep_onwards last sweep (sweeps.PushTop i j q x) t k = either_way IsSwept (memory (Head i) == head_word n.tops q x) (sweep_on n sweep j) (sweep_goes sweep (sweeps.PushHead (kind_of n j) j)) (sweep_onward sweep j) refl

    follows_onward : (claim : Claim) (scheme : Scheme) (made : ℕ) → IsClaimed (sweep_follows scheme made claim)
    follows_onward claim (Announced own) zero = tt
    follows_onward claim _ _ = tt

    look_onward : (claim : Claim) → IsClaimed (look_ended claim)
    look_onward claim = either_way IsClaimed (claim.sweeps == 2) (claim_ends claim ends.Full) (sweep_follows claim.sweep.scheme claim.sweeps claim) tt (follows_onward claim claim.sweep.scheme claim.sweeps)

    swept_onward : (claim : Claim) (turn : SweepTurn) (end : Option SweepEnd) → claim.stage ≡ claims.Sweeps → SweepNow now c turn end → ClaimNow now c (sweep_ended claim turn.sweep end) (sweep_ended claim turn.sweep end).ended
    swept_onward claim turn None is k = subst (λ (stage : ClaimStage). AtStage now c claim.kind turn.sweep stage) (sym is) k
    swept_onward claim turn (Some swept.Swept) is k = tt
    swept_onward claim turn (Some (swept.PhasesOver p)) is k = tt

    claim_onwards : (last : ℕ) (claim : Claim) (stage : ClaimStage) → claim.stage ≡ stage → Turns past c memory (claim_wants_at claim.sweep.tops claim.kind claim.sweep stage) → AtStage past c claim.kind claim.sweep stage
        → IsClaimed (claim_accepts_at n last claim (memory (word_of (claim_wants_at claim.sweep.tops claim.kind claim.sweep stage))) stage)
    claim_onwards last claim claims.ReadHead is t k =
        let parts = head_parts n.tops (memory (Head claim.kind)) in either_way IsClaimed (parts.top == 0) (look_ended claim) (claim_goes claim (claims.ReadLink parts.phase parts.top)) (look_onward claim) (t.loads claim.kind refl)
    claim_onwards last claim (claims.ReadLink q x) is t k = t.keeps claim.kind q x (λ same. cc) k
    claim_onwards last claim (claims.Take q x next) is t k = either_way IsClaimed (memory (Head claim.kind) == head_word n.tops q x) (claim_goes claim (claims.StoreUsed q x)) (claim_goes claim claims.ReadHead) tt tt
    claim_onwards last claim (claims.StoreUsed q x) is t k = tt
    claim_onwards last claim (claims.Withdraw own) is t k = tt
    claim_onwards last claim claims.Sweeps is t k =
        let turn = sweep_accepts_at n last claim.sweep (memory (word_of (sweep_wants_at claim.sweep.tops claim.sweep.scheme claim.sweep.stage claim.sweep.bound))) claim.sweep.stage in
        swept_onward claim turn turn.ended is (sweep_onwards last claim.sweep claim.sweep.stage t k)

    -- a claim that goes on hasn't ended
    not_ended : (turn : ClaimTurn) → turn.ended ≡ None → ClaimNow now c turn turn.ended → AtStage now c turn.claim.kind turn.claim.sweep turn.claim.stage
    not_ended turn is k = subst (λ (o : Option ClaimEnd). ClaimNow now c turn o) is k

  -- ---- events

  begins_loadless : (events : List CoreEvent) (c : ℕ) → HoldsAtBegins target setting.sizes (AtRoutine events c)
  begins_loadless events c = record { idle = tt; seen = λ why. tt; here = tt; lists = λ k. tt; retires = λ j go. tt; restarts = tt; clears = λ next. tt; claims = λ e scheme. (refl, tt); zeroes = λ k field. tt; announces = λ announcing. tt }

  own_step : (past : List CoreEvent) (state : CoreState) (c : ℕ) (a : WordAccess) → core_run target setting past (core_start target setting) ≡ Some state → wants target ((view setting state).who c) ≡ Some a → AtRoutine past c ((view setting state).who c).routine
      → AtRoutine (past ++ Steps c ∷ []) c (after target setting ((view setting state).who c) (words setting state (word_of a))).routine
  own_step past state c a runs want k = after_routed target setting (AtRoutine (past ++ Steps c ∷ []) c) (begins_loadless (past ++ Steps c ∷ []) c) ((view setting state).who c) (words setting state (word_of a)) (record {
    claims = λ claim same goes. goes_on claim same goes;
    retires = λ retirement left go same goes. tt;
  }) where
    goes_on : (claim : Claim) → ((view setting state).who c).routine ≡ Claims claim → (claim_accepts setting.sizes setting.last claim (words setting state (word_of a))).ended ≡ None
        → AtRoutine (past ++ Steps c ∷ []) c (Claims (claim_accepts setting.sizes setting.last claim (words setting state (word_of a))).claim)
    goes_on claim same goes =
        let is : a ≡ claim_wants claim = same_access a (claim_wants claim) (sym want ∙ wants_claims target ((view setting state).who c) claim same) in
        let here : AtRoutine past c (Claims claim) = subst (AtRoutine past c) same k in
        let turns : Turns past c (words setting state) (claim_wants claim) = subst (Turns past c (words setting state)) is (turns_by past state c a runs want) in
        let on = claim_onwards past c (words setting state) setting.last claim claim.stage refl turns here.1 in
        let ended : (claim_accepts setting.sizes setting.last claim (words setting state (word_of (claim_wants claim)))).ended ≡ None =
        ap (λ (b : WordAccess). (claim_accepts setting.sizes setting.last claim (words setting state (word_of b))).ended) (sym is) ∙ goes in
        let found : ℕ = words setting state (word_of (claim_wants claim)) in
        subst (λ (b : WordAccess). AtRoutine (past ++ Steps c ∷ []) c (Claims (claim_accepts setting.sizes setting.last claim (words setting state (word_of b))).claim)) (sym is)
        ((claim_stays setting.sizes setting.last claim found).tops ∙ here.0, not_ended past c (words setting state) (claim_accepts setting.sizes setting.last claim found) ended on)

  abbrev AllAt : List CoreEvent → CoreState → Type 0
  AllAt events state = (c : ℕ) → c < setting.sizes.callers → AtRoutine events c ((view setting state).who c).routine

  taken_at : (events : List CoreEvent) (c : ℕ) (by : Reclamation) → AtRoutine events c (first_routine by)
  taken_at events c Optimistic = tt
  taken_at events c Epochs = tt

  event_at : (past : List CoreEvent) (state later : CoreState) (event : CoreEvent) → core_run target setting past (core_start target setting) ≡ Some state → Moves target setting (view setting state) event (view setting later) → AllAt past state
      → AllAt (past ++ event ∷ []) later
  event_at past state later (Takes d call) runs m all =
      subst (λ (who : ℕ → Entry). (c : ℕ) → c < setting.sizes.callers → AtRoutine (past ++ Takes d call ∷ []) c (who c).routine) (sym m.4)
      (each_put (λ c (e : Entry). c < setting.sizes.callers → AtRoutine (past ++ Takes d call ∷ []) c e.routine) (view setting state).who d (taken setting.reclamation call ((view setting state).who d)) (λ lt. taken_at (past ++ Takes d call ∷ []) d setting.reclamation)
      (λ c ne lt. stays_routine past (past ++ Takes d call ∷ []) c
      (λ i q t l. still_loaded past state (Takes d call) c i (head_word setting.sizes.tops q t) runs (λ same. absurd (let no : Takes d call ≡ Steps c = same in cc)) l)
      ((view setting state).who c).routine (all c lt)))
  event_at past state later (Steps d) runs m all =
      subst (λ (who : ℕ → Entry). (c : ℕ) → c < setting.sizes.callers → AtRoutine (past ++ Steps d ∷ []) c (who c).routine) (sym m.5)
      (each_put (λ c (e : Entry). c < setting.sizes.callers → AtRoutine (past ++ Steps d ∷ []) c e.routine) (view setting state).who d (after target setting ((view setting state).who d) ((view setting state).memory (word_of m.0)))
      (λ lt. own_step past state d m.0 runs m.2 (all d lt))
      (λ c ne lt. stays_routine past (past ++ Steps d ∷ []) c
      (λ i q t l. still_loaded past state (Steps d) c i (head_word setting.sizes.tops q t) runs (λ same. absurd (ne (sym (steps_same d c same)))) l)
      ((view setting state).who c).routine (all c lt)))

  -- ---- runs

  start_at : AllAt [] (core_start target setting)
  start_at c lt = subst (λ (e : Entry). AtRoutine [] c e.routine) (sym ((start_is_seen target setting).who c)) tt

  from : ((past : List CoreEvent) (state : CoreState) → core_run target setting past (core_start target setting) ≡ Some state → IsShaped target setting state)
      → (more past : List CoreEvent) (now later : CoreState) → core_run target setting past (core_start target setting) ≡ Some now → AllAt past now → core_run target setting more now ≡ Some later → AllAt (past ++ more) later
  from shaped [] past now later came all is = subst (λ (events : List CoreEvent). AllAt events later) (sym (append-nil past)) (subst (AllAt past) (some_is now later is) all)
  from shaped (event ∷ more) past now later came all is =
      of (λ mid at. from shaped more (past ++ event ∷ []) mid later (run_more target setting past event (core_start target setting) now mid came at)
      (event_at past now mid event came ((events_are_seen target setting).moves now mid event (shaped past now came) at) all)) (core_event target setting now event) refl is where
        of : ((mid : CoreState) → core_event target setting now event ≡ Some mid → core_run target setting more mid ≡ Some later → AllAt ((past ++ event ∷ []) ++ more) later)
            → (o : Option CoreState) → core_event target setting now event ≡ o → run_on o (core_run target setting more) ≡ Some later → AllAt (past ++ event ∷ more) later
        of further None at rest = absurd (let z : None ≡ Some later = rest in cc)
        of further (Some mid) at rest = subst (λ (events : List CoreEvent). AllAt events later) (append_snoc past event more) (further mid at rest)

  -- ---- what an exchange on the head expects

  elsewhere : (e : Entry) (i expected replacement : ℕ) → standing_of e.routine ≡ Elsewhere → wants target e ≡ Some (Exchanges (Head i) expected replacement) → ⊥
  elsewhere e i expected replacement at want = ⊎_elim
      (λ (other : false ≡ true). let no : false ≡ true = other in cc)
      (λ (loads : Exchanges (Head i) expected replacement ≡ Loads Phase). let no : Exchanges (Head i) expected replacement ≡ Loads Phase = loads in cc)
      (elsewhere_wants target e (Exchanges (Head i) expected replacement) at want)

  retiring : (slot : ℕ) (stage : RetireStage) (i expected replacement : ℕ) → retire_wants_at slot stage ≡ Exchanges (Head i) expected replacement → ⊥
  retiring slot retires.ReadPhase i expected replacement is = cc
  retiring slot (retires.StoreStatus p) i expected replacement is = cc

  -- the head of an exchange, and the word that it expects
  head_is : (j i x y expected replacement : ℕ) → Exchanges (Head j) x y ≡ Exchanges (Head i) expected replacement → j ≡ i
  head_is j i x y expected replacement is = cc

  expected_is : (j i x y expected replacement : ℕ) → Exchanges (Head j) x y ≡ Exchanges (Head i) expected replacement → x ≡ expected
  expected_is j i x y expected replacement is = cc

  found_is : (events : List CoreEvent) (c j i q t y expected replacement : ℕ) → Found events c j q t → Exchanges (Head j) (head_word setting.sizes.tops q t) y ≡ Exchanges (Head i) expected replacement → LastLoad target setting events c i expected
  found_is events c j i q t y expected replacement k is =
      subst (LastLoad target setting events c i) (expected_is j i (head_word setting.sizes.tops q t) y expected replacement is)
      (subst (λ (kind : ℕ). LastLoad target setting events c kind (head_word setting.sizes.tops q t)) (head_is j i (head_word setting.sizes.tops q t) y expected replacement is) k)

  warning : (scheme : Scheme) (d bound i expected replacement : ℕ) → warn_wanted scheme d bound ≡ Exchanges (Head i) expected replacement → ⊥
  warning Warned d bound i expected replacement is = cc
  warning (Announced own) d bound i expected replacement is = cc

  sweeping : (events : List CoreEvent) (c i expected replacement : ℕ) (scheme : Scheme) (bound : ℕ) (stage : SweepStage) → AtSweep events c stage → sweep_wants_at setting.sizes.tops scheme stage bound ≡ Exchanges (Head i) expected replacement → LastLoad target setting events c i expected
  sweeping events c i expected replacement scheme bound (sweeps.Warn d) k is = absurd (warning scheme d bound i expected replacement is)
  sweeping events c i expected replacement scheme bound (sweeps.PushTop m j q t) k is = found_is events c m i q t _ expected replacement k is
  sweeping events c i expected replacement scheme bound _ k is = absurd cc

  claiming : (events : List CoreEvent) (c i expected replacement kind : ℕ) (sweep : Sweep) (stage : ClaimStage) → sweep.tops ≡ setting.sizes.tops → AtStage events c kind sweep stage → claim_wants_at sweep.tops kind sweep stage ≡ Exchanges (Head i) expected replacement → LastLoad target setting events c i expected
  claiming events c i expected replacement kind sweep (claims.Take q t next) own k is = found_is events c kind i q t _ expected replacement k (ap (λ (tops : ℕ). Exchanges (Head kind) (head_word tops q t) (head_word sweep.tops q next)) (sym own) ∙ is)
  claiming events c i expected replacement kind sweep claims.Sweeps own k is =
      sweeping events c i expected replacement sweep.scheme sweep.bound sweep.stage k (ap (λ (tops : ℕ). sweep_wants_at tops sweep.scheme sweep.stage sweep.bound) (sym own) ∙ is)
  claiming events c i expected replacement kind sweep _ own k is = absurd cc

  expects_at : (events : List CoreEvent) (c i expected replacement : ℕ) (e : Entry) (r : Routine) → e.routine ≡ r → AtRoutine events c r → wants target e ≡ Some (Exchanges (Head i) expected replacement) → LastLoad target setting events c i expected
  expects_at events c i expected replacement e (Retires retirement go) at k want =
      absurd (retiring retirement.slot retirement.stage i expected replacement (same_access _ _ (sym (wants_retires target e retirement go at) ∙ want)))
  expects_at events c i expected replacement e (Claims claim) at k want = claiming events c i expected replacement claim.kind claim.sweep claim.stage k.0 k.1 (same_access _ _ (sym (wants_claims target e claim at) ∙ want))
  expects_at events c i expected replacement e _ at k want = absurd (elsewhere e i expected replacement (ap standing_of at) want)

  -- at every state of a run
  pub expects : ((past : List CoreEvent) (state : CoreState) → core_run target setting past (core_start target setting) ≡ Some state → IsShaped target setting state) → (events : List CoreEvent) (state : CoreState) → core_run target setting events (core_start target setting) ≡ Some state
      → (c i expected replacement : ℕ) → c < setting.sizes.callers → wants target ((view setting state).who c) ≡ Some (Exchanges (Head i) expected replacement) → LastLoad target setting events c i expected
  expects shaped events state is c i expected replacement lt want =
      expects_at events c i expected replacement ((view setting state).who c) ((view setting state).who c).routine refl (from shaped events [] (core_start target setting) state refl start_at is c lt) want
