-- The pool's run goes on with each event of a core run, from whichever state of the pool it has come to: each event of the core is at most
-- two of the pool, the access and the routine that begins after it.
use Rattle.std.proofs.Common.{ℕ, zero, ◌≡◌, ◌≢◌, ◌+◌, ◌≤◌, ◌<◌, ◌∙◌, ◌++◌, ◌==◌, true, false, [], Option, Some, None, arith, ⊎_elim, sym, ap, subst, refl}
use Rattle.std.specs.Prelude.{slice_get, unwrap_or}
use Rattle.std.proofs.lemmas.Bool.{cases_lt}
use Rattle.std.proofs.lemmas.Bool.Decides.{nat_tests, eqb_tells}
use Rattle.std.proofs.lemmas.Option.{slice_get_within}
use Rattle.target_code.specs.declared.target.Target.{Target}
use Rattle.oa_words.specs.declared.packed.Kind.TheVariants as kinds
use Rattle.oa_words.specs.Words.{Word, Status, in_row}
use Rattle.oa_words.specs.Within.{AreKinds}
use Rattle.phase_pools.specs.declared.access.ClaimEnd.{ClaimEnd}
use Rattle.phase_pools.specs.declared.access.ClaimEnd.TheVariants as ends
use Rattle.phase_pools.specs.Accesses.{WordAccess, word_of}
use Rattle.phase_pools.specs.Pools.{Claim, claim_wants, claim_accepts, claim_takes, Retirement, retire_wants, retire_accepts}
use Rattle.chain_laws.specs.Memories.{after_access, put}
use Rattle.chain_laws.specs.Chains.{Hands, IsOf}
use Rattle.chain_laws.specs.Machine.{Standing, Elsewhere, Claims, Retires, PoolState, claim_left, retirement_left, stepped, claim_hands, retire_hands}
use Rattle.chain_laws.specs.Told.{PoolTells}
use Rattle.chain_laws.specs.Laws.{Holds}
use Rattle.chain_laws.proofs.Lists.{put_same, put_other}
use Rattle.chain_laws.proofs.Runs.{run_holds}
use Rattle.chain_laws.proofs.Told.{pool_tells}
use Rattle.chain_laws.proofs.Routines.{kinds_apart}
use Rattle.caller_parts.specs.declared.call.Call.{Call}
use Rattle.caller_parts.specs.declared.routine.AfterRetire.{AfterRetire}
use Rattle.caller_parts.specs.declared.routine.Routine.{Routine}
use Rattle.caller_parts.specs.declared.routine.Routine.TheVariants as routines
use Rattle.caller_parts.specs.declared.routine.Routine.TheVariants.{At}
use Rattle.caller_parts.specs.declared.setting.Reclamation.{Reclamation}
use Rattle.caller_parts.specs.declared.setting.Reclamation.TheVariants.{Optimistic, Epochs}
use Rattle.caller_parts.specs.Settings.{Setting}
use Rattle.caller_steps.specs.Entries.{Entry, idle_entry, is_idle, new_kind}
use Rattle.caller_steps.specs.Wants.{wants}
use Rattle.caller_steps.specs.Asking.{NewsFit}
use Rattle.caller_steps.specs.After.{after, taken, accepted, counted, claim_counted, claim_on, first_routine, retired_on, slot_gained, with_routine}
use Rattle.core_runs.specs.Machine.{CoreState, CoreEvent, Takes, Steps}
use Rattle.core_runs.specs.Views.{CoreView, IsShaped, Moves, view}
use Rattle.core_runs.proofs.caller_laws.Equations.{wants_claims, wants_retires}
use Rattle.core_runs.proofs.caller_laws.Routed.{HoldsAtBegins, after_routed}
use Rattle.core_runs.specs.core_sound.Standing.{standing_of}
use Rattle.core_runs.proofs.core_sound.Stamping.{elsewhere_wants}
use Rattle.core_runs.specs.core_pools.Pooled.{standings, pool_of, RetiresUsed}
use Rattle.core_runs.proofs.core_pools.Leading.{RunsTo, run_more, Begun, in_none, in_claim, in_retirement, MayRetire, put_again, comes, caller_steps, pool_left}

some_same : (a b : WordAccess) → Some a ≡ Some b → a ≡ b
some_same a b is = cc

elsewhere_idle : (r : Routine) → is_idle r ≡ true → standing_of r ≡ Elsewhere
elsewhere_idle (routines.Retires retirement go) is = absurd (let z : false ≡ true = is in cc)
elsewhere_idle (routines.Claims claim) is = absurd (let z : false ≡ true = is in cc)
elsewhere_idle _ is = refl

-- so does one before the first access of a call
elsewhere_first : (by : Reclamation) → standing_of (first_routine by) ≡ Elsewhere
elsewhere_first Optimistic = refl
elsewhere_first Epochs = refl

-- an entry that changes, and where the callers stand
put_entry : (W : ℕ → Standing) (who : ℕ → Entry) (c : ℕ) (e : Entry) → ((d : ℕ) → d ≢ c → W d ≡ standings who d) → put W c (standing_of e.routine) ≡ standings (put who c e)
put_entry W who c e others = λ i d. at d i where
  at : (d : ℕ) → put W c (standing_of e.routine) d ≡ standings (put who c e) d
  at d = ⊎_elim
      (λ (t : ((d == c) ≡ true) × (d ≡ c)). rw t.0 refl)
      (λ (t : ((d == c) ≡ false) × (d ≢ c)). rw t.0 (others d t.1))
      (eqb_tells d c)

-- past the callers there are idle ones, and past the row there is 0
pub past_callers : (target : Target) (setting : Setting) (state : CoreState) (d : ℕ) → IsShaped target setting state → setting.sizes.callers ≤ d → standings (view setting state).who d ≡ Elsewhere
past_callers target setting state d shaped le = of (slice_get state.entries d) refl where
  of : (o : Option Entry) → slice_get state.entries d ≡ o → standing_of (unwrap_or o (idle_entry d)).routine ≡ Elsewhere
  of None none = refl
  of (Some e) some = let within = slice_get_within state.entries d e some in let callers = shaped.callers in absurd (let z : ⊥ = omega (arith, within, callers, le) in z)

past_row : (setting : Setting) (state : CoreState) (w : Word) → in_row setting.sizes w ≡ false → (view setting state).memory w ≡ 0
past_row setting state w out = rw out refl

module _ (target : Target) (setting : Setting) (are : AreKinds setting.sizes) (few : setting.sizes.slots < setting.sizes.tops) (news : NewsFit target setting.sizes) (base : PoolState) (sane : Holds setting.sizes base) where
  -- events of the pool lead there from its state before
  abbrev From : PoolState → Type 0
  From pool = RunsTo setting.sizes setting.last base pool

  abbrev FromTo : (Word → ℕ) → (ℕ → Standing) → Type 0
  FromTo memory who = (hands : Hands) × From (record { memory = memory; hands = hands; who = who })

  from_more : (pool later : PoolState) → From pool → RunsTo setting.sizes setting.last pool later → From later
  from_more pool later l r = (l.0 ++ r.0, run_more setting.sizes setting.last l.0 r.0 base pool l.1 ∙ r.1)

  from_tells : (pool : PoolState) → From pool → PoolTells setting.sizes pool
  from_tells pool l = pool_tells setting.sizes pool (run_holds setting.sizes setting.last l.0 base pool are few sane l.1)

  -- ---- where the caller stands after its step

  anywhere : HoldsAtBegins target setting.sizes (λ (routine : Routine). Begun setting.sizes (standing_of routine))
  anywhere = record {
    idle = in_none;
    seen = λ why. in_none;
    here = in_none;
    lists = λ k. in_none;
    retires = λ j go. in_retirement j;
    restarts = in_none;
    clears = λ next. in_none;
    claims = λ e scheme. in_claim (new_kind target e) scheme (news e.running.call.op e.hand.wrapup e.hand.at);
    zeroes = λ k field. in_none;
    announces = λ announcing. in_none;
  }

  elsewhere_begins : (e : Entry) (word : ℕ) → standing_of e.routine ≡ Elsewhere → Begun setting.sizes (standing_of (after target setting e word).routine)
  elsewhere_begins e word at = after_routed target setting (λ (routine : Routine). Begun setting.sizes (standing_of routine)) anywhere e word (record {
    claims = λ claim same goes. absurd (let no : Claims claim ≡ Elsewhere = sym (ap standing_of same) ∙ at in cc);
    retires = λ retirement left go same goes. absurd (let no : Retires retirement ≡ Elsewhere = sym (ap standing_of same) ∙ at in cc);
  })

  ended_begins : (e : Entry) (word : ℕ) (own : Retirement) (go : AfterRetire) → e.routine ≡ routines.Retires own go → retire_accepts own word ≡ None → Begun setting.sizes (standing_of (after target setting e word).routine)
  ended_begins e word own go is ended = after_routed target setting (λ (routine : Routine). Begun setting.sizes (standing_of routine)) anywhere e word (record {
    claims = λ claim same goes. absurd (let no : routines.Retires own go ≡ routines.Claims claim = sym is ∙ same in cc);
    retires = λ other left next same goes.
        (let both : routines.Retires own go ≡ routines.Retires other next = sym is ∙ same in
        let one : own ≡ other = cc in
        absurd (let no : None ≡ Some left = sym ended ∙ (ap (λ (x : Retirement). retire_accepts x word) one ∙ goes) in cc));
  })

  claims_stand : (e : Entry) (word : ℕ) (own : Claim) → e.routine ≡ routines.Claims own
      → standing_of (after target setting e word).routine ≡ claim_left (claim_accepts setting.sizes setting.last own word).claim (claim_accepts setting.sizes setting.last own word).ended
  unfolding after
  claims_stand e word own is =
      let turn = claim_accepts setting.sizes setting.last own word in
      ap (λ (r : Routine). standing_of (accepted setting.reclamation target setting word (counted e) r).entry.routine) is ∙ of setting.reclamation turn.claim turn.ended (claim_counted (claim_takes setting.sizes own word) (counted e)) where
        gained : (by : Reclamation) (made j : ℕ) (e : Entry) → standing_of (slot_gained by target made j e).routine ≡ Elsewhere
        gained Epochs zero j e = refl
        gained _ _ j e = refl

        of : (by : Reclamation) (next : Claim) (end : Option ClaimEnd) (e : Entry) → standing_of (claim_on by target next end e).entry.routine ≡ claim_left next end
        of by next (Some (ends.Claimed j)) e = gained by next.sweeps j (with_routine e At)
        of by next _ e = refl

  retires_stand : (e : Entry) (word : ℕ) (own left : Retirement) (go : AfterRetire) → e.routine ≡ routines.Retires own go → retire_accepts own word ≡ Some left → standing_of (after target setting e word).routine ≡ Retires left
  unfolding after
  retires_stand e word own left go is goes =
      ap (λ (r : Routine). standing_of (accepted setting.reclamation target setting word (counted e) r).entry.routine) is
      ∙ ap (λ (o : Option Retirement). standing_of (retired_on setting.reclamation target setting.sizes go o (counted e)).entry.routine) goes

  -- ---- a routine begins

  begins_on : (c : ℕ) (pool : PoolState) (who : ℕ → Entry) (e : Entry) → c < setting.sizes.callers → From pool → pool.who c ≡ Elsewhere → ((d : ℕ) → d ≢ c → pool.who d ≡ standings who d) → Begun setting.sizes (standing_of e.routine)
      → RetiresUsed setting pool.memory (standings (put who c e)) → ((d : ℕ) → setting.sizes.callers ≤ d → standings who d ≡ Elsewhere) → ((w : Word) → in_row setting.sizes w ≡ false → pool.memory w ≡ 0)
      → FromTo pool.memory (standings (put who c e))
  begins_on c pool who e lt leads at others begun used past blank =
      let k = comes setting.sizes setting.last c pool (standing_of e.routine) at begun (may (standing_of e.routine) refl) in
      (k.hands, subst (λ (w : ℕ → Standing). From (record { memory = pool.memory; hands = k.hands; who = w })) (put_entry pool.who who c e others) (from_more pool _ leads k.runs)) where
        in_range : (j : ℕ) → IsOf kinds.Used (pool.memory (Status j)) → j ≤ setting.sizes.slots
        in_range j word = ⊎_elim
            (λ (below : j < setting.sizes.slots + 1). omega (arith, below))
            (λ (above : setting.sizes.slots + 1 ≤ j).
            let out : in_row setting.sizes (Status j) ≡ false = grind (arith, nat_tests) in
            kinds_apart _ word.0 0 kinds.Used kinds.Ready (pool.memory (Status j)) (λ e. cc) word.1 (blank (Status j) out))
            (cases_lt j (setting.sizes.slots + 1))

        nobody : (own : Retirement) → standing_of e.routine ≡ Retires own → (d : ℕ) (other : Retirement) → pool.who d ≡ Retires other → other.slot ≢ own.slot
        nobody own is d other there same = ⊎_elim
            (λ (t : ((d == c) ≡ true) × (d ≡ c)). let no : Elsewhere ≡ Retires other = sym at ∙ (ap pool.who (sym t.1) ∙ there) in cc)
            (λ (t : ((d == c) ≡ false) × (d ≢ c)).
            let stands : standings who d ≡ Retires other = sym (others d t.1) ∙ there in
            ⊎_elim
            (λ (below : d < setting.sizes.callers).
            t.1 (used.alone d c other own below lt (ap (λ (x : Entry). standing_of x.routine) (put_other who c d e t.1) ∙ stands) (ap (λ (x : Entry). standing_of x.routine) (put_same who c e) ∙ is) same))
            (λ (above : setting.sizes.callers ≤ d). let no : Elsewhere ≡ Retires other = sym (past d above) ∙ stands in cc)
            (cases_lt d setting.sizes.callers))
            (eqb_tells d c)

        may : (standing : Standing) → standing_of e.routine ≡ standing → MayRetire pool setting.sizes standing
        may (Retires own) is =
            let word = used.used c own lt (ap (λ (x : Entry). standing_of x.routine) (put_same who c e) ∙ is) in
            let le = in_range own.slot word in
            (le, (from_tells pool leads).outside own.slot le word (λ d other there. nobody own is d other there))
        may _ is = tt

  -- ---- steps

  -- the words after an access, and where the callers then stand
  abbrev Goes : (v : CoreView) (c : ℕ) → WordAccess → Type 0
  Goes v c a = RetiresUsed setting (after_access v.memory a) (standings (put v.who c (after target setting (v.who c) (v.memory (word_of a)))))
      → ((w : Word) → in_row setting.sizes w ≡ false → after_access v.memory a w ≡ 0)
      → FromTo (after_access v.memory a) (standings (put v.who c (after target setting (v.who c) (v.memory (word_of a)))))

  claims_go : (v : CoreView) (hands : Hands) (c : ℕ) (own : Claim) → (v.who c).routine ≡ routines.Claims own → From (record { memory = v.memory; hands = hands; who = standings v.who }) → Goes v c (claim_wants own)
  claims_go v hands c own is leads used blank =
      let pool : PoolState = record { memory = v.memory; hands = hands; who = standings v.who } in
      let word = v.memory (word_of (claim_wants own)) in
      let turn = claim_accepts setting.sizes setting.last own word in
      let e : Entry = after target setting (v.who c) word in
      let later : PoolState = record { memory = after_access v.memory (claim_wants own); hands = claim_hands setting.sizes.tops c own.kind own.sweep own.stage v.memory hands; who = put (standings v.who) c (claim_left turn.claim turn.ended) } in (
        later.hands,
        subst (λ (w : ℕ → Standing). From (record later { who = w })) (ap (put (standings v.who) c) (sym (claims_stand (v.who c) word own is)) ∙ put_entry (standings v.who) v.who c e (λ d ne. refl))
            (from_more pool later leads (caller_steps setting.sizes setting.last c pool later (ap (stepped setting.sizes setting.last pool c) (ap standing_of is)))),
      )

  abbrev retired_pool : (v : CoreView) → Hands → ℕ → Retirement → Option Retirement → PoolState
  retired_pool v hands c own left = record { memory = after_access v.memory (retire_wants own); hands = retire_hands c own.slot own.stage v.memory hands; who = put (standings v.who) c (retirement_left left) }

  retires_go : (v : CoreView) (hands : Hands) (c : ℕ) (own : Retirement) (go : AfterRetire) → (v.who c).routine ≡ routines.Retires own go → c < setting.sizes.callers → ((d : ℕ) → setting.sizes.callers ≤ d → standings v.who d ≡ Elsewhere)
      → From (record { memory = v.memory; hands = hands; who = standings v.who }) → Goes v c (retire_wants own)
  retires_go v hands c own go is lt past leads used blank =
      let pool : PoolState = record { memory = v.memory; hands = hands; who = standings v.who } in
      let left = retire_accepts own (v.memory (word_of (retire_wants own))) in
      of left refl
      (from_more pool (retired_pool v hands c own left) leads (caller_steps setting.sizes setting.last c pool (retired_pool v hands c own left) (ap (stepped setting.sizes setting.last pool c) (ap standing_of is)))) where
        of : (o : Option Retirement) → retire_accepts own (v.memory (word_of (retire_wants own))) ≡ o → From (retired_pool v hands c own (retire_accepts own (v.memory (word_of (retire_wants own)))))
            → FromTo (after_access v.memory (retire_wants own)) (standings (put v.who c (after target setting (v.who c) (v.memory (word_of (retire_wants own))))))
        of (Some left) some goes =
            let word = v.memory (word_of (retire_wants own)) in
            let e : Entry = after target setting (v.who c) word in (
              (retired_pool v hands c own (Some left)).hands,
              subst (λ (w : ℕ → Standing). From (record (retired_pool v hands c own (Some left)) { who = w })) (ap (put (standings v.who) c) (sym (retires_stand (v.who c) word own left go is some)) ∙ put_entry (standings v.who) v.who c e (λ d ne. refl))
                  (subst (λ (o : Option Retirement). From (retired_pool v hands c own o)) some goes),
            )
        of None none goes =
            let word = v.memory (word_of (retire_wants own)) in
            begins_on c (retired_pool v hands c own None) v.who (after target setting (v.who c) word) lt (subst (λ (o : Option Retirement). From (retired_pool v hands c own o)) none goes)
            (put_same (standings v.who) c Elsewhere) (λ d ne. put_other (standings v.who) c d Elsewhere ne) (ended_begins (v.who c) word own go is none) used past blank

  elsewhere_go : (v : CoreView) (hands : Hands) (c : ℕ) (a : WordAccess) → standing_of (v.who c).routine ≡ Elsewhere → wants target (v.who c) ≡ Some a → c < setting.sizes.callers → ((d : ℕ) → setting.sizes.callers ≤ d → standings v.who d ≡ Elsewhere)
      → From (record { memory = v.memory; hands = hands; who = standings v.who }) → Goes v c a
  elsewhere_go v hands c a at want lt past leads used blank =
      let pool : PoolState = record { memory = v.memory; hands = hands; who = standings v.who } in
      let word = v.memory (word_of a) in
      let later : PoolState = record pool { memory = after_access v.memory a } in
      begins_on c later v.who (after target setting (v.who c) word) lt
      (from_more pool later leads (pool_left setting.sizes setting.last a pool (elsewhere_wants target (v.who c) a at want))) at (λ d ne. refl) (elsewhere_begins (v.who c) word at) used past blank

  step_goes : (v : CoreView) (hands : Hands) (c : ℕ) (a : WordAccess) → wants target (v.who c) ≡ Some a → c < setting.sizes.callers → ((d : ℕ) → setting.sizes.callers ≤ d → standings v.who d ≡ Elsewhere)
      → From (record { memory = v.memory; hands = hands; who = standings v.who }) → Goes v c a
  step_goes v hands c a want lt past leads = of (v.who c).routine refl where
    of : (routine : Routine) → (v.who c).routine ≡ routine → Goes v c a
    of (routines.Claims own) is = subst (Goes v c) (some_same (claim_wants own) a (sym (wants_claims target (v.who c) own is) ∙ want)) (claims_go v hands c own is leads)
    of (routines.Retires own go) is = subst (Goes v c) (some_same (retire_wants own) a (sym (wants_retires target (v.who c) own go is) ∙ want)) (retires_go v hands c own go is lt past leads)
    of _ is = elsewhere_go v hands c a (ap standing_of is) want lt past leads

  -- ---- events

  taken_goes : (v : CoreView) (c : ℕ) (call : Call) → is_idle (v.who c).routine ≡ true → FromTo v.memory (standings v.who) → FromTo v.memory (standings (put v.who c (taken setting.reclamation call (v.who c))))
  taken_goes v c call idle l = subst (FromTo v.memory)
      (put_again (standings v.who) c Elsewhere (elsewhere_idle (v.who c).routine idle)
      ∙ (ap (put (standings v.who) c) (sym (elsewhere_first setting.reclamation)) ∙ put_entry (standings v.who) v.who c (taken setting.reclamation call (v.who c)) (λ d ne. refl))) l

  -- the state after an event, if what is retired then is used and nobody else's
  pub event_goes : (state later : CoreState) (event : CoreEvent) → IsShaped target setting state → Moves target setting (view setting state) event (view setting later) → FromTo (view setting state).memory (standings (view setting state).who)
      → RetiresUsed setting (view setting later).memory (standings (view setting later).who) → FromTo (view setting later).memory (standings (view setting later).who)
  event_goes state later (Takes c call) shaped m pooled used =
      let v = view setting state in
      subst (λ (who : ℕ → Entry). FromTo (view setting later).memory (standings who)) (sym m.4)
      (subst (λ (memory : Word → ℕ). FromTo memory (standings (put v.who c (taken setting.reclamation call (v.who c))))) (sym m.3) (taken_goes v c call m.1 pooled))
  event_goes state later (Steps c) shaped m pooled used =
      let v = view setting state in
      let a : WordAccess = m.0 in
      let who : ℕ → Entry = put v.who c (after target setting (v.who c) (v.memory (word_of a))) in
      subst (λ (w : ℕ → Entry). FromTo (view setting later).memory (standings w)) (sym m.5)
      (subst (λ (memory : Word → ℕ). FromTo memory (standings who)) (sym m.4)
      (step_goes v pooled.0 c a m.2 m.1 (λ d le. past_callers target setting state d shaped le) pooled.1
      (subst (λ (memory : Word → ℕ). RetiresUsed setting memory (standings who)) m.4 (subst (λ (w : ℕ → Entry). RetiresUsed setting (view setting later).memory (standings w)) m.5 used))
      (λ w out. ap (λ (memory : Word → ℕ). memory w) (sym m.4) ∙ past_row setting later w out)))

-- a core state's pool, with whose the slots are
abbrev pub pool_with : Setting → CoreState → Hands → PoolState
pool_with setting state hands = pool_of (view setting state) hands

-- events of the pool lead from a core state's pool to that of another
abbrev pub PoolRuns : Setting → CoreState → Hands → CoreState → Type 0
PoolRuns setting state hands later = (hands' : Hands) × RunsTo setting.sizes setting.last (pool_with setting state hands) (pool_with setting later hands')

-- an event of the core, if what is retired in the state after it is used and nobody else's
pub event_runs : (target : Target) (setting : Setting) (are : AreKinds setting.sizes) (few : setting.sizes.slots < setting.sizes.tops) (news : NewsFit target setting.sizes) (state later : CoreState) (hands : Hands) (event : CoreEvent) → Holds setting.sizes (pool_with setting state hands) → IsShaped target setting state
    → Moves target setting (view setting state) event (view setting later) → RetiresUsed setting (view setting later).memory (standings (view setting later).who) → PoolRuns setting state hands later
event_runs target setting are few news state later hands event sane shaped m used = event_goes target setting are few news (pool_with setting state hands) sane state later event shaped m (hands, ([], refl)) used
