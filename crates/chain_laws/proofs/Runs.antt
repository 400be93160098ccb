-- Each event keeps what holds of the pool, and so does each run.
use Rattle.std.proofs.Common.{ℕ, suc, ◌≡◌, ◌≢◌, ◌≤◌, ◌<◌, ◌⊎◌, ◌∙◌, ◌&&◌, Bool, true, false, List, [], ◌∷◌, Option, Some, None, arith, inl, inr, ⊎_elim, sym, subst, refl, if◌then◌else◌}
use Rattle.std.specs.Prelude.{nat_le, nat_lt, length}
use Rattle.std.proofs.lemmas.Bool.Decides.{nat_tests}
use Rattle.std.proofs.lemmas.Bool.{and_parts}
use Rattle.oa_words.specs.Words.{Word, Link, Sizes, slot_range}
use Rattle.oa_words.specs.SlotKinds.{kind_of}
use Rattle.oa_words.specs.Within.{AreKinds}
use Rattle.phase_pools.specs.declared.access.ClaimEnd.{ClaimEnd}
use Rattle.phase_pools.specs.Accesses.{word_of}
use Rattle.phase_pools.specs.Pools.{Claim, claim_begun, claim_wants, claim_accepts, Retirement, retire_begun, retire_wants, retire_accepts}
use Rattle.phase_pools.proofs.Keeping.{claim_stays}
use Rattle.oa_words.specs.Memories.{store}
use Rattle.chain_laws.specs.Memories.{put, after_access}
use Rattle.chain_laws.specs.Chains.{Owner, Chained, Taken, Outside, Retiring, Hands, handed, stamp}
use Rattle.chain_laws.specs.Standing.{ComesAbove, Gone, MayMove, PoolKept, ClaimNext, RetireNext, HasOnly, slot_after_claim, slot_after_retirement}
use Rattle.chain_laws.specs.Machine.{Standing, Elsewhere, Claims, Retires, slot_of, PoolState, PoolEvent, BeginsClaim, BeginsRetirement, Steps, Writes, is_other, is_outside, is_slot, claim_left, retirement_left, begins, stepped, pool_event, run_on, pool_run, claim_hands, retire_hands}
use Rattle.chain_laws.specs.Laws.{StandsAt, Holds}
use Rattle.chain_laws.proofs.Lists.{each_put}
use Rattle.chain_laws.proofs.Changes.{Same, fine_same, goes_same}
use Rattle.chain_laws.proofs.Same.{same_written}
use Rattle.chain_laws.proofs.Moving.{stable_gone, stable_claim, stable_retire}
use Rattle.chain_laws.proofs.Holding.{claim_has, retire_has, begins_retiring}
use Rattle.chain_laws.proofs.Routines.{claim_moves, retire_step, retire_begins}

-- an event that has kept what holds: whose it was, and what it may have done
pub record EventKept (n : Sizes) (state later : PoolState) : Type 0 where
  pub mover : ℕ
  pub goes : MayMove n mover state.memory state.hands later.memory later.hands
  pub holds : Holds n later

stable_standing : (n : Sizes) (c d : ℕ) (m : Word → ℕ) (h : Hands) (m' : Word → ℕ) (h' : Hands) (standing : Standing) → MayMove n c m h m' h' → d ≢ c → StandsAt n m h d standing → StandsAt n m' h' d standing
stable_standing n c d m h m' h' Elsewhere g ne w = tt
stable_standing n c d m h m' h' (Claims claim) g ne w = (w.0, stable_claim n c d m h m' h' claim.kind claim.sweep claim.stage g ne w.1, w.2)
stable_standing n c d m h m' h' (Retires retirement) g ne w = stable_retire n c d m h m' h' retirement.slot retirement.stage g ne w

-- a step of one caller
steps_on : (n : Sizes) (c : ℕ) (state : PoolState) (m' : Word → ℕ) (h' : Hands) (standing : Standing) (Next : Type 0) → Holds n state → PoolKept n c state.memory state.hands m' h' Next → (Next → StandsAt n m' h' c standing) → HasOnly h' c (slot_of standing)
    → EventKept n state (record { memory = m'; hands = h'; who = put state.who c standing })
steps_on n c state m' h' standing Next w kept next has = record {
  mover = c;
  goes = kept.goes;
  holds = record {
    fine = kept.fine;
    told = each_put (λ d (x : Standing). StandsAt n m' h' d x) state.who c standing (next kept.next) (λ d ne. stable_standing n c d state.memory state.hands m' h' (state.who d) kept.goes ne (w.told d));
    has = each_put (λ d (x : Standing). HasOnly h' d (slot_of x)) state.who c standing has (λ d ne j is. w.has d j (kept.goes.others j d ne is));
  };
}

claim_left_has : (h : Hands) (c : ℕ) (claim : Claim) (end : Option ClaimEnd) → HasOnly h c (slot_after_claim claim end) → HasOnly h c (slot_of (claim_left claim end))
claim_left_has h c claim None has = has
claim_left_has h c claim (Some end) has = has

retirement_left_has : (h : Hands) (c : ℕ) (left : Option Retirement) → HasOnly h c (slot_after_retirement left) → HasOnly h c (slot_of (retirement_left left))
retirement_left_has h c None has = has
retirement_left_has h c (Some retirement) has = has

claim_goes_on : (n : Sizes) (m : Word → ℕ) (h : Hands) (c : ℕ) (claim : Claim) (end : Option ClaimEnd) → claim.sweep.tops ≡ n.tops → ClaimNext n m h c claim end
    → StandsAt n m h c (claim_left claim end)
claim_goes_on n m h c claim None tops next = (next.0, next.1, tops)
claim_goes_on n m h c claim (Some end) tops next = tt

retire_goes_on : (n : Sizes) (m : Word → ℕ) (h : Hands) (c : ℕ) (left : Option Retirement) → RetireNext h c left → StandsAt n m h c (retirement_left left)
retire_goes_on n m h c None next = tt
retire_goes_on n m h c (Some retirement) next = next

-- ---- events that are enabled

some_state : (a b : PoolState) → Some a ≡ Some b → a ≡ b
some_state a b is = cc

begun : (standing : Standing) (state later : PoolState) → begins standing state ≡ Some later → (standing ≡ Elsewhere) × (state ≡ later)
begun Elsewhere state later is = (refl, some_state state later is)
begun _ state later is = absurd (let z : None ≡ Some later = is in cc)

tested : (b : Bool) (o : Option PoolState) (later : PoolState) → (if b then o else None) ≡ Some later → (b ≡ true) × (o ≡ Some later)
tested true o later is = (refl, is)
tested false o later is = absurd (let z : None ≡ Some later = is in cc)

outside : (o : Owner) → is_outside o ≡ true → o ≡ Outside
outside Outside is = refl
outside _ is = absurd (let z : false ≡ true = is in cc)

same_again : (m : Word → ℕ) → Same m m
same_again m = record { phase = omega arith; head = λ k. refl; link = λ i. refl; status = λ i. refl }

-- a caller's step in its routine
step_kept : (n : Sizes) (last : ℕ) (state later : PoolState) (c : ℕ) (standing : Standing) → state.who c ≡ standing → AreKinds n → n.slots < n.tops → Holds n state → stepped n last state c standing ≡ Some later → EventKept n state later
step_kept n last state later c Elsewhere at are most w is = absurd (let z : None ≡ Some later = is in cc)
step_kept n last state later c (Claims claim) at are most w is =
    let told : StandsAt n state.memory state.hands c (Claims claim) = subst (λ (x : Standing). StandsAt n state.memory state.hands c x) at (w.told c) in
    let has : HasOnly state.hands c (slot_of (Claims claim)) = subst (λ (x : Standing). HasOnly state.hands c (slot_of x)) at (w.has c) in
    let word = state.memory (word_of (claim_wants claim)) in
    let turn = claim_accepts n last claim word in
    let m' : Word → ℕ = after_access state.memory (claim_wants claim) in
    let h' : Hands = claim_hands n.tops c claim.kind claim.sweep claim.stage state.memory state.hands in
    subst (λ (x : PoolState). EventKept n state x) (some_state (record { memory = m'; hands = h'; who = put state.who c (claim_left turn.claim turn.ended) }) later is)
    (steps_on n c state m' h' (claim_left turn.claim turn.ended) _ w (claim_moves n last c state.memory state.hands claim told.2 most told.0 w.fine told.1)
    (λ next. claim_goes_on n m' h' c turn.claim turn.ended ((claim_stays n last claim word).tops ∙ told.2) next)
    (claim_left_has h' c turn.claim turn.ended (claim_has n last claim.sweep.tops c state.memory state.hands claim claim.stage refl w.fine has)))
step_kept n last state later c (Retires retirement) at are most w is =
    let told : StandsAt n state.memory state.hands c (Retires retirement) = subst (λ (x : Standing). StandsAt n state.memory state.hands c x) at (w.told c) in
    let has : HasOnly state.hands c (slot_of (Retires retirement)) = subst (λ (x : Standing). HasOnly state.hands c (slot_of x)) at (w.has c) in
    let left = retire_accepts retirement (state.memory (word_of (retire_wants retirement))) in
    let m' : Word → ℕ = after_access state.memory (retire_wants retirement) in
    let h' : Hands = retire_hands c retirement.slot retirement.stage state.memory state.hands in
    subst (λ (x : PoolState). EventKept n state x) (some_state (record { memory = m'; hands = h'; who = put state.who c (retirement_left left) }) later is)
    (steps_on n c state m' h' (retirement_left left) _ w (retire_step n c state.memory state.hands retirement.slot retirement.stage are w.fine told) (λ next. retire_goes_on n m' h' c left next)
    (retirement_left_has h' c left (retire_has n c state.memory state.hands retirement.slot retirement.stage has)))

pub event_kept : (n : Sizes) (last : ℕ) (state later : PoolState) (event : PoolEvent) → AreKinds n → n.slots < n.tops → Holds n state → pool_event n last state event ≡ Some later → EventKept n state later
event_kept n last state later (BeginsClaim c k scheme) are most w is =
    let claim : Claim = claim_begun n k scheme in
    let test = tested (nat_lt k (length n.kinds)) (begins (state.who c) (record state { who = put state.who c (Claims claim) })) later is in
    let begin = begun (state.who c) (record state { who = put state.who c (Claims claim) }) later test.1 in
    let lt : k < length n.kinds = (let less = test.0 in grind (arith, nat_tests)) in
    subst (λ (x : PoolState). EventKept n state x) begin.1
    (steps_on n c state state.memory state.hands (Claims claim) (Unit {0}) w (record { fine = w.fine; goes = goes_same n c state.memory state.memory state.hands (same_again state.memory); next = tt }) (λ next. (lt, tt, refl))
    (subst (λ (x : Standing). HasOnly state.hands c (slot_of x)) begin.0 (w.has c)))
event_kept n last state later (BeginsRetirement c j) are most w is =
    let begin : PoolState = record state { hands = handed state.hands j (Retiring c None); who = put state.who c (Retires (retire_begun j)) } in
    let test = tested (is_slot (slot_range n) j && is_outside (state.hands.owner j)) (begins (state.who c) begin) later is in
    let parts = and_parts (is_slot (slot_range n) j) (is_outside (state.hands.owner j)) test.0 in
    let range = and_parts (nat_le 1 j) (nat_le j n.slots) parts.0 in
    let start = begun (state.who c) begin later test.1 in
    subst (λ (x : PoolState). EventKept n state x) start.1
    (steps_on n c state state.memory (handed state.hands j (Retiring c None)) (Retires (retire_begun j)) _ w
    (retire_begins n c state.memory state.hands j w.fine (let low = range.0 in grind (arith, nat_tests)) (let high = range.1 in grind (arith, nat_tests)) (outside (state.hands.owner j) parts.1)) (λ next. next)
    (begins_retiring n c state.memory state.hands j w.fine (subst (λ (x : Standing). HasOnly state.hands c (slot_of x)) start.0 (w.has c))))
event_kept n last state later (Steps c) are most w is = step_kept n last state later c (state.who c) refl are most w is
event_kept n last state later (Writes word x) are most w is =
    let test = tested (is_other word) (Some (record state { memory = store state.memory word x })) later is in
    let same = same_written state.memory word x test.0 in
    subst (λ (x : PoolState). EventKept n state x) (some_state (record state { memory = store state.memory word x }) later test.1)
    (record {
      mover = 0;
      goes = goes_same n 0 state.memory (store state.memory word x) state.hands same;
      holds = record {
        fine = fine_same n state.memory (store state.memory word x) state.hands same w.fine;
        told = λ d. stable_standing n (suc d) d state.memory state.hands (store state.memory word x) state.hands (state.who d) (goes_same n (suc d) state.memory (store state.memory word x) state.hands same) (λ z. let no : ⊥ = omega (arith, z) in no) (w.told d);
        has = w.has;
      };
    })

-- ---- runs

run_split : (o : Option PoolState) (next : PoolState → Option PoolState) (later : PoolState) → run_on o next ≡ Some later → (state : PoolState) × (o ≡ Some state) × (next state ≡ Some later)
run_split None next later is = absurd (let z : None ≡ Some later = is in cc)
run_split (Some state) next later is = (state, refl, is)

pub run_holds : (n : Sizes) (last : ℕ) (events : List PoolEvent) (state later : PoolState) → AreKinds n → n.slots < n.tops → Holds n state → pool_run n last events state ≡ Some later → Holds n later
run_holds n last [] state later are most w is = subst (λ (x : PoolState). Holds n x) (some_state state later is) w
run_holds n last (event ∷ events) state later are most w is =
    let split = run_split (pool_event n last state event) (pool_run n last events) later is in
    run_holds n last events split.0 later are most (event_kept n last state split.0 event are most w split.1).holds split.2

pub run_stamp : (n : Sizes) (last : ℕ) (events : List PoolEvent) (state later : PoolState) → AreKinds n → n.slots < n.tops → Holds n state → pool_run n last events state ≡ Some later
    → (k : ℕ) → stamp n.tops state.memory k ≤ stamp n.tops later.memory k
run_stamp n last [] state later are most w is k = subst (λ (x : PoolState). stamp n.tops state.memory k ≤ stamp n.tops x.memory k) (some_state state later is) (omega arith)
run_stamp n last (event ∷ events) state later are most w is k =
    let split = run_split (pool_event n last state event) (pool_run n last events) later is in
    let kept = event_kept n last state split.0 event are most w split.1 in
    let up = run_stamp n last events split.0 later are most kept.holds split.2 k in
    let now = kept.goes.stamped k in omega (arith, up, now)

-- what is known of a slot that stood in the chain under a phase
abbrev pub StillOrGone : Sizes → PoolState → PoolState → ℕ → ℕ → Type 0
StillOrGone n state later q t = ((later.hands.owner t ≡ Chained) × (later.memory (Link t) ≡ state.memory (Link t))) ⊎ Gone n later.memory later.hands q t

pub run_gone : (n : Sizes) (last : ℕ) (events : List PoolEvent) (state later : PoolState) (q t : ℕ) → AreKinds n → n.slots < n.tops → Holds n state → pool_run n last events state ≡ Some later
    → q ≤ stamp n.tops state.memory (kind_of n t) → Gone n state.memory state.hands q t → Gone n later.memory later.hands q t
run_gone n last [] state later q t are most w is le gone = subst (λ (x : PoolState). Gone n x.memory x.hands q t) (some_state state later is) gone
run_gone n last (event ∷ events) state later q t are most w is le gone =
    let split = run_split (pool_event n last state event) (pool_run n last events) later is in
    let kept = event_kept n last state split.0 event are most w split.1 in
    run_gone n last events split.0 later q t are most kept.holds split.2 (let now = kept.goes.stamped (kind_of n t) in omega (arith, le, now))
    (stable_gone n kept.mover state.memory state.hands split.0.memory split.0.hands q t kept.goes le gone)

pub run_stands : (n : Sizes) (last : ℕ) (events : List PoolEvent) (state later : PoolState) (q t : ℕ) → AreKinds n → n.slots < n.tops → Holds n state → pool_run n last events state ≡ Some later
    → q ≤ stamp n.tops state.memory (kind_of n t) → state.hands.owner t ≡ Chained → StillOrGone n state later q t
run_stands n last [] state later q t are most w is le own = subst (λ (x : PoolState). StillOrGone n state x q t) (some_state state later is) (inl (own, refl))
run_stands n last (event ∷ events) state later q t are most w is le own =
    let split = run_split (pool_event n last state event) (pool_run n last events) later is in
    let kept = event_kept n last state split.0 event are most w split.1 in
    let up : q ≤ stamp n.tops split.0.memory (kind_of n t) = (let now = kept.goes.stamped (kind_of n t) in omega (arith, le, now)) in
    ⊎_elim
    (λ (here : (split.0.hands.owner t ≡ Chained) × (split.0.memory (Link t) ≡ state.memory (Link t))). ⊎_elim
    (λ (there : (later.hands.owner t ≡ Chained) × (later.memory (Link t) ≡ split.0.memory (Link t))). inl (there.0, there.1 ∙ here.1))
    (λ (gone : Gone n later.memory later.hands q t). inr gone)
    (run_stands n last events split.0 later q t are most kept.holds split.2 up here.0))
    (λ (took : split.0.hands.owner t ≡ Taken kept.mover).
    inr (run_gone n last events split.0 later q t are most kept.holds split.2 up (inr (subst (λ (o : Owner). ComesAbove q o) (sym took) tt))))
    (kept.goes.chained t own)
