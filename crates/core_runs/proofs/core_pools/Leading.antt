-- Runs of the pool one after another, and how a caller that stands elsewhere begins.
use Rattle.std.proofs.Common.{sym, subst, ℕ, suc, ◌≡◌, ◌≢◌, ◌≤◌, ◌<◌, ◌∙◌, ◌++◌, ◌&&◌, ◌==◌, Bool, true, false, List, [], ◌∷◌, length, Option, Some, None, arith, ⊎_elim, ap, refl, if◌then◌else◌}
use Rattle.std.specs.Prelude.{nat_le, nat_lt}
use Rattle.std.proofs.lemmas.Bool.Decides.{nat_tests, eqb_tells}
use Rattle.oa_words.specs.Words.{Word, Phase, Sizes, slot_range}
use Rattle.phase_pools.specs.declared.stages.Scheme.{Scheme}
use Rattle.phase_pools.specs.Accesses.{WordAccess, Loads, word_of, word_after}
use Rattle.phase_pools.specs.Pools.{claim_begun, retire_begun}
use Rattle.oa_words.specs.Memories.{store}
use Rattle.chain_laws.specs.Memories.{after_access, put}
use Rattle.chain_laws.specs.Chains.{Hands, Outside, Retiring, handed}
use Rattle.chain_laws.specs.Machine.{Standing, Elsewhere, Claims, Retires, PoolState, PoolEvent, BeginsClaim, BeginsRetirement, Steps, Writes, is_other, is_outside, is_slot, begins, stepped, pool_event, pool_run, run_on}
use Rattle.core_runs.proofs.core_sound.Stamping.{IsOther, LeavesPool}

pub run_more : (n : Sizes) (last : ℕ) (events more : List PoolEvent) (pool later : PoolState) → pool_run n last events pool ≡ Some later → pool_run n last (events ++ more) pool ≡ pool_run n last more later
run_more n last [] more pool later is = let same : pool ≡ later = (let z : Some pool ≡ Some later = is in cc) in ap (pool_run n last more) same
run_more n last (event ∷ events) more pool later is = of (λ next. run_more n last events more next later) (pool_event n last pool event) is where
  of : ((next : PoolState) → pool_run n last events next ≡ Some later → pool_run n last (events ++ more) next ≡ pool_run n last more later) → (o : Option PoolState) → run_on o (pool_run n last events) ≡ Some later → run_on o (pool_run n last (events ++ more)) ≡ pool_run n last more later
  of rest None is = absurd (let z : None ≡ Some later = is in cc)
  of rest (Some next) is = rest next is

pub run_one : (n : Sizes) (last : ℕ) (event : PoolEvent) (pool later : PoolState) → pool_event n last pool event ≡ Some later → pool_run n last (event ∷ []) pool ≡ Some later
run_one n last event pool later is = ap (λ (o : Option PoolState). run_on o (pool_run n last [])) is

-- events of the pool that lead from one state to another
abbrev pub RunsTo : Sizes → ℕ → PoolState → PoolState → Type 0
RunsTo n last pool later = (events : List PoolEvent) × (pool_run n last events pool ≡ Some later)

pub caller_steps : (n : Sizes) (last c : ℕ) (pool later : PoolState) → stepped n last pool c (pool.who c) ≡ Some later → RunsTo n last pool later
caller_steps n last c pool later is = (Steps c ∷ [], run_one n last (Steps c) pool later is)

pub other_written : (n : Sizes) (last : ℕ) (w : Word) (x : ℕ) (pool : PoolState) → is_other w ≡ true → RunsTo n last pool (record pool { memory = store pool.memory w x })
other_written n last w x pool is =
    let later : PoolState = record pool { memory = store pool.memory w x } in
    (Writes w x ∷ [], run_one n last (Writes w x) pool later (ap (λ (b : Bool). if b then Some later else None) is))

-- a load changes nothing
load_again : (m : Word → ℕ) → m ≡ store m Phase (m Phase)
load_again m = λ i w. at w i where
  at : (w : Word) → m w ≡ store m Phase (m Phase) w
  at Phase = refl
  at _ = refl

-- so an access of the rest is one event of the pool, or none
pub pool_left : (n : Sizes) (last : ℕ) (a : WordAccess) (pool : PoolState) → LeavesPool a → RunsTo n last pool (record pool { memory = after_access pool.memory a })
pool_left n last a pool leaves = ⊎_elim
    (λ (other : IsOther a). other_written n last (word_of a) (word_after a (pool.memory (word_of a))) pool other)
    (λ (loads : a ≡ Loads Phase).
    subst (λ (x : WordAccess). RunsTo n last pool (record pool { memory = after_access pool.memory x })) (sym loads)
    ([], ap (λ (m : Word → ℕ). Some (record pool { memory = m })) (load_again pool.memory)))
    leaves

-- where a routine of the pool may begin, or none does
pub data Begun (n : Sizes) : Standing → Type 0 where
  in_none : Begun n Elsewhere
  in_claim : (k : ℕ) (scheme : Scheme) → k < length n.kinds → Begun n (Claims (claim_begun n k scheme))
  in_retirement : (j : ℕ) → Begun n (Retires (retire_begun (suc j)))

-- the slot of a retirement that begins is outside
abbrev pub MayRetire : PoolState → Sizes → Standing → Type 0
MayRetire pool n Elsewhere = Unit {0}
MayRetire pool n (Claims claim) = Unit {0}
MayRetire pool n (Retires retirement) = (retirement.slot ≤ n.slots) × (pool.hands.owner retirement.slot ≡ Outside)

-- events after which the caller stands there, with the same words
pub record Comes (n : Sizes) (last c : ℕ) (pool : PoolState) (standing : Standing) : Type 0 where
  pub hands : Hands
  pub runs : RunsTo n last pool (record { memory = pool.memory; hands = hands; who = put pool.who c standing })

pub put_again : (who : ℕ → Standing) (c : ℕ) (standing : Standing) → who c ≡ standing → who ≡ put who c standing
put_again who c standing is = λ i d. at d i where
  at : (d : ℕ) → who d ≡ put who c standing d
  at d = ⊎_elim
      (λ (t : ((d == c) ≡ true) × (d ≡ c)). rw t.0 (ap who t.1 ∙ is))
      (λ (t : ((d == c) ≡ false) × (d ≢ c)). rw t.0 refl)
      (eqb_tells d c)

pub comes : (n : Sizes) (last c : ℕ) (pool : PoolState) (standing : Standing) → pool.who c ≡ Elsewhere → Begun n standing → MayRetire pool n standing → Comes n last c pool standing
comes n last c pool Elsewhere at in_none may = record {
  hands = pool.hands;
  runs = ([], ap (λ (who : ℕ → Standing). Some (record pool { who = who })) (put_again pool.who c Elsewhere at));
}
comes n last c pool (Claims _) at (in_claim k scheme lt) may =
    let later : PoolState = record pool { who = put pool.who c (Claims (claim_begun n k scheme)) } in
    let test : nat_lt k (length n.kinds) ≡ true = grind (arith, nat_tests) in
    record {
      hands = pool.hands;
      runs = (BeginsClaim c k scheme ∷ [], run_one n last (BeginsClaim c k scheme) pool later (ap (λ (b : Bool). if b then begins (pool.who c) later else None) test ∙ ap (λ (s : Standing). begins s later) at));
    }
comes n last c pool (Retires _) at (in_retirement j) may =
    let later : PoolState = record pool { hands = handed pool.hands (suc j) (Retiring c None); who = put pool.who c (Retires (retire_begun (suc j))) } in
    let slot : is_slot (slot_range n) (suc j) ≡ true = both (nat_le 1 (suc j)) (nat_le (suc j) n.slots) (grind (arith, nat_tests)) (let le : suc j ≤ n.slots = may.0 in grind (arith, nat_tests)) in
    let test : (is_slot (slot_range n) (suc j) && is_outside (pool.hands.owner (suc j))) ≡ true = both (is_slot (slot_range n) (suc j)) (is_outside (pool.hands.owner (suc j))) slot (ap is_outside may.1) in
    record {
      hands = handed pool.hands (suc j) (Retiring c None);
      runs = (BeginsRetirement c (suc j) ∷ [], run_one n last (BeginsRetirement c (suc j)) pool later (ap (λ (b : Bool). if b then begins (pool.who c) later else None) test ∙ ap (λ (s : Standing). begins s later) at));
    }
  where
    both : (a b : Bool) → a ≡ true → b ≡ true → (a && b) ≡ true
    both a b p q = rw (p, q) refl
