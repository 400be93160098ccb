-- Each access, as the code makes it, keeps the rule.
use Rattle.std.proofs.Common.{◌≡◌, ℕ, ◌<◌, ◌==◌, max, Bool, true, false, Some, None, refl, sym, subst, if◌then◌else◌}
use Rattle.std.specs.Prelude.{Option}
use prog.Atomic.{either}
use Rattle.atomic_table.specs.Table.{Me}
use Rattle.oa_words.specs.Words.{address_of, word_count}
use Rattle.phase_pools.specs.declared.access.Access.{Access}
use Rattle.phase_pools.specs.declared.access.Access.TheVariants as codes
use Rattle.phase_pools.specs.Accesses.{WordAccess, Loads, Stores, Exchanges, Raises, word_of, word_after, located}
use Rattle.caller_steps.specs.Asking.{located_option}
use Rattle.caller_steps.specs.Entries.{Entry}
use Rattle.oa_words.proofs.Places.{within}
use Rattle.word_runner.specs.table_rule.Seen.{Fixed, IsGround, SeatView}
use Rattle.word_runner.specs.table_rule.Plays.{wish, Made, CanStep}
use Rattle.word_runner.specs.table_rule.Laws.{Free, MayMake}
use Rattle.word_runner.proofs.table_rule.Moves.{place_of, CanMake, safe, step_allowed, store_allowed}

-- the access by the name of its word
record Named (key : Fixed) (me : Me ℕ SeatView) (e : Entry) (access : Access) : Type 0 where
  pub named : WordAccess
  pub can : CanMake key me e named
  pub is : located key.setting.sizes named ≡ access

name : (key : Fixed) (me : Me ℕ SeatView) (e : Entry) (access : Access) → CanStep key me e access → Named key me e access
name key me e access can = of (wish key e) refl can.wanted where
  of : (o : Option WordAccess) → wish key e ≡ o → Some access ≡ located_option key.setting.sizes o → Named key me e access
  of None want is = absurd (let z : Some access ≡ None = is in cc)
  of (Some a) want is = record { named = a; can = record { can = can.can; wanted = want }; is = (let same : access ≡ located key.setting.sizes a = cc in sym same) }

row : (key : Fixed) (me : Me ℕ SeatView) (e : Entry) (a : WordAccess) → IsGround key → CanMake key me e a → place_of key a < word_count key.setting.sizes
row key me e a good can = within key.setting.sizes (word_of a) (safe key e a good can.can.belongs can.can.busy can.wanted).row

-- at the place of its word
made_at : (key : Fixed) (slots id : ℕ) (me : Me ℕ SeatView) (e : Entry) (a : WordAccess) (at : ℕ) → IsGround key → CanMake key me e a → place_of key a ≡ at → Free key slots id me at (word_after a) (Made e me)
made_at key slots id me e a at good can is = subst (λ (k : ℕ). Free key slots id me k (word_after a) (Made e me)) is (row key me e a good can, step_allowed key slots id me e a can)

pub load_allowed : (key : Fixed) (slots id : ℕ) (me : Me ℕ SeatView) (e : Entry) (at : ℕ) → IsGround key → CanStep key me e (codes.Load at) → Free key slots id me at (λ n. n) (Made e me)
load_allowed key slots id me e at good can = let n = name key me e (codes.Load at) can in of n.named n.can n.is where
  of : (a : WordAccess) → CanMake key me e a → located key.setting.sizes a ≡ codes.Load at → Free key slots id me at (λ n. n) (Made e me)
  of (Loads w) make is = made_at key slots id me e (Loads w) at good make (let same : address_of key.setting.sizes w ≡ at = cc in same)
  of _ make is = absurd cc

pub store_put : (key : Fixed) (slots id : ℕ) (me : Me ℕ SeatView) (e : Entry) (at x : ℕ) → IsGround key → CanStep key me e (codes.Store at x) → Free key slots id me at (λ _. x) (λ _. Made e me 0)
store_put key slots id me e at x good can = let n = name key me e (codes.Store at x) can in of n.named n.can n.is where
  of : (a : WordAccess) → CanMake key me e a → located key.setting.sizes a ≡ codes.Store at x → Free key slots id me at (λ _. x) (λ _. Made e me 0)
  of (Stores w y) make is =
      let there : address_of key.setting.sizes w ≡ at = cc in
      let same : y ≡ x = cc in
      subst (λ (k : ℕ). Free key slots id me k (λ _. x) (λ _. Made e me 0)) there
      (subst (λ (v : ℕ). Free key slots id me (address_of key.setting.sizes w) (λ _. v) (λ _. Made e me 0)) same (row key me e (Stores w y) good make, store_allowed key slots id me e w y make))
  of _ make is = absurd cc

either_if : (b : Bool) (x y : ℕ) → (if b then x else y) ≡ either b x y
either_if true x y = refl
either_if false x y = refl

pub exchange_allowed : (key : Fixed) (slots id : ℕ) (me : Me ℕ SeatView) (e : Entry) (at x y : ℕ) → IsGround key → CanStep key me e (codes.CompareExchange at x y) → Free key slots id me at (λ n. either (n == x) y n) (Made e me)
exchange_allowed key slots id me e at x y good can = let n = name key me e (codes.CompareExchange at x y) can in of n.named n.can n.is where
  of : (a : WordAccess) → CanMake key me e a → located key.setting.sizes a ≡ codes.CompareExchange at x y → Free key slots id me at (λ n. either (n == x) y n) (Made e me)
  of (Exchanges w expected replacement) make is =
      let there : address_of key.setting.sizes w ≡ at = cc in
      let first : expected ≡ x = cc in
      let second : replacement ≡ y = cc in
      let f : (λ (n : ℕ). if n == expected then replacement else n) ≡ (λ (n : ℕ). either (n == x) y n) = (λ i n. either_if (n == first i) (second i) n i) in
      subst (λ (g : ℕ → ℕ). Free key slots id me at g (Made e me)) f (made_at key slots id me e (Exchanges w expected replacement) at good make there)
  of _ make is = absurd cc

pub raise_allowed : (key : Fixed) (slots id : ℕ) (me : Me ℕ SeatView) (e : Entry) (at x : ℕ) → IsGround key → CanStep key me e (codes.FetchMax at x) → Free key slots id me at (λ n. max n x) (Made e me)
raise_allowed key slots id me e at x good can = let n = name key me e (codes.FetchMax at x) can in of n.named n.can n.is where
  of : (a : WordAccess) → CanMake key me e a → located key.setting.sizes a ≡ codes.FetchMax at x → Free key slots id me at (λ n. max n x) (Made e me)
  of (Raises w z) make is =
      let there : address_of key.setting.sizes w ≡ at = cc in
      let same : z ≡ x = cc in
      subst (λ (v : ℕ). Free key slots id me at (λ n. max n v) (Made e me)) same (made_at key slots id me e (Raises w z) at good make there)
  of _ make is = absurd cc

-- each of them
pub may_make : (key : Fixed) (slots id : ℕ) (me : Me ℕ SeatView) (e : Entry) (access : Access) → IsGround key → CanStep key me e access → MayMake key slots id me e access
may_make key slots id me e (codes.Load at) good can = load_allowed key slots id me e at good can
may_make key slots id me e (codes.Store at x) good can = store_put key slots id me e at x good can
may_make key slots id me e (codes.CompareExchange at x y) good can = exchange_allowed key slots id me e at x y good can
may_make key slots id me e (codes.FetchMax at x) good can = raise_allowed key slots id me e at x good can
