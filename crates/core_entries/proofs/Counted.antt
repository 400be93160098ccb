-- The kinds of access that turns count, by the addresses of accesses.
use Rattle.std.proofs.Common.{◌≡◌, ◌≢◌, ◌≤◌, ◌<◌, ◌+◌, ◌*◌, ◌&&◌, ℕ, suc, Bool, true, false, Option, Some, None, refl, sym, ap, ◌∙◌, subst, arith, if◌then◌else◌}
use Rattle.std.specs.Prelude.{nat_le, nat_lt}
use Rattle.std.proofs.lemmas.Bool.{and_parts}
use Rattle.std.proofs.lemmas.Bool.Decides.{nat_tests}
use Rattle.schedule_turns.specs.declared.turn.StepKind.{StepKind}
use Rattle.schedule_turns.specs.declared.turn.StepKind.TheVariants as kinds
use Rattle.oa_words.specs.Words.{Word, Phase, Place, Warning, Hazard, Status, FieldOf, Cell, Head, Link, Sizes, address_of, in_row, field_base, head_base, slot_rows}
use Rattle.oa_words.proofs.Products.{product}
use Rattle.phase_pools.specs.declared.access.Access.{Access}
use Rattle.phase_pools.specs.Accesses.{WordAccess, Loads, Stores, Exchanges, Raises, word_of, located}
use Rattle.caller_parts.specs.Settings.{Setting, IsSetting}
use Rattle.caller_steps.specs.Entries.{Entry, is_idle}
use Rattle.caller_steps.specs.Wants.{wants}
use Rattle.caller_steps.specs.Asking.{located_option}
use Rattle.caller_steps.specs.Lawful.{AsksSafely}
use Rattle.core_runs.specs.Replays.{kind_of_access, kind_by, kind_wanted, stands_at_check}
use Rattle.core_runs.proofs.caller_laws.Together.{safe}
use Rattle.barrier_check.specs.Paired.{Paired, IsSound}
use Rattle.core_entries.specs.Callers.{BelongsTo}
use Rattle.core_entries.specs.Kinds.{kind_between, kind_at}
use Rattle.core_ground.proofs.Runnable.{runnable}
use Rattle.core_entries.proofs.Calling.{runs}
use Rattle.core_entries.proofs.Stepping.{Pends, pends}

-- ---- by address

-- a word of the text has the kind, and no other has one
abbrev kind_of_text : Word → StepKind → Option StepKind
kind_of_text Phase kind = None
kind_of_text (Place c) kind = None
kind_of_text (Warning c) kind = None
kind_of_text (Hazard c r) kind = None
kind_of_text (Status j) kind = None
kind_of_text (FieldOf j g) kind = Some kind
kind_of_text (Cell x) kind = Some kind
kind_of_text (Head t) kind = None
kind_of_text (Link j) kind = None

lt_is : (a b : ℕ) → nat_lt a b ≡ true → a < b
lt_is a b is = grind (arith, nat_tests)

below : (first at : ℕ) → at < first → nat_le first at ≡ false
below first at lt = grind (arith, nat_tests)

from_on : (first at : ℕ) → first ≤ at → nat_le first at ≡ true
from_on first at le = grind (arith, nat_tests)

at_least : (a b : ℕ) → b ≤ a → nat_lt a b ≡ false
at_least a b le = grind (arith, nat_tests)

less : (a b : ℕ) → a < b → nat_lt a b ≡ true
less a b lt = grind (arith, nat_tests)

kind_below : (first head at : ℕ) (kind : StepKind) → at < first → kind_between first head at kind ≡ None
kind_below first head at kind lt = ap (λ (b : Bool). if b && nat_lt at head then Some kind else None) (below first at lt)

kind_past : (first head at : ℕ) (kind : StepKind) → first ≤ at → head ≤ at → kind_between first head at kind ≡ None
kind_past first head at kind le past = rw (from_on first at le, at_least at head past) refl

kind_inside : (first head at : ℕ) (kind : StepKind) → first ≤ at → at < head → kind_between first head at kind ≡ Some kind
kind_inside first head at kind le lt = rw (from_on first at le, less at head lt) refl

module _ (n : Sizes) where
  -- words of callers and statuses stand before the fields
  before_fields : (w : Word) (kind : StepKind) → address_of n w < field_base n → kind_between (field_base n) (head_base n) (address_of n w) kind ≡ None
  before_fields w kind lt = kind_below (field_base n) (head_base n) (address_of n w) kind lt

  -- the pool's heads and the links after the cells
  after_cells : (w : Word) (kind : StepKind) → field_base n ≤ address_of n w → head_base n ≤ address_of n w → kind_between (field_base n) (head_base n) (address_of n w) kind ≡ None
  after_cells w kind le past = kind_past (field_base n) (head_base n) (address_of n w) kind le past

  of_text : (w : Word) (kind : StepKind) → field_base n ≤ address_of n w → address_of n w < head_base n → kind_between (field_base n) (head_base n) (address_of n w) kind ≡ Some kind
  of_text w kind le lt = kind_inside (field_base n) (head_base n) (address_of n w) kind le lt

  place_before : (c : ℕ) → c < n.callers → address_of n (Place c) < field_base n
  place_before c lt = omega (arith, lt)

  warning_before : (c : ℕ) → c < n.callers → address_of n (Warning c) < field_base n
  warning_before c lt = omega (arith, lt)

  hazard_before : (c r : ℕ) → c < n.callers → r < 8 → address_of n (Hazard c r) < field_base n
  hazard_before c r lt few = omega (arith, lt, few)

  status_before : (j : ℕ) → j < slot_rows n → address_of n (Status j) < field_base n
  status_before j lt = omega (arith, lt)

  phase_before : address_of n Phase < field_base n
  phase_before = omega arith

  hazard_parts : (c r : ℕ) → in_row n (Hazard c r) ≡ true → (c < n.callers) × (r < 8)
  hazard_parts c r row = let p = and_parts (nat_lt c n.callers) (nat_lt r 8) row in (lt_is c n.callers p.0, lt_is r 8 p.1)

  field_on : (j g : ℕ) → field_base n ≤ address_of n (FieldOf j g)
  field_on j g = omega arith

  field_until : (j g : ℕ) → in_row n (FieldOf j g) ≡ true → address_of n (FieldOf j g) < head_base n
  field_until j g row =
      let p = and_parts (nat_lt j (slot_rows n)) (nat_lt g n.fields) row in
      let lt = lt_is j (slot_rows n) p.0 in
      let few = lt_is g n.fields p.1 in
      let more : suc j * n.fields ≤ slot_rows n * n.fields = product (suc j) n.fields (slot_rows n) n.fields (omega (arith, lt)) (omega arith) in
      let one : suc j * n.fields ≡ n.fields + j * n.fields = omega arith in
      omega (arith, more, one, few)

  cell_on : (x : ℕ) → field_base n ≤ address_of n (Cell x)
  cell_on x = omega arith

  cell_until : (x : ℕ) → x < n.cells → address_of n (Cell x) < head_base n
  cell_until x lt = omega (arith, lt)

  head_on : (t : ℕ) → field_base n ≤ address_of n (Head t)
  head_on t = omega arith

  link_on : (j : ℕ) → head_base n ≤ address_of n (Link j)
  link_on j = omega arith

  link_fields : (j : ℕ) → field_base n ≤ address_of n (Link j)
  link_fields j = omega arith

  word_kind : (w : Word) (kind : StepKind) → in_row n w ≡ true → kind_between (field_base n) (head_base n) (address_of n w) kind ≡ kind_of_text w kind
  word_kind Phase kind row = before_fields Phase kind phase_before
  word_kind (Place c) kind row = before_fields (Place c) kind (place_before c (lt_is c n.callers row))
  word_kind (Warning c) kind row = before_fields (Warning c) kind (warning_before c (lt_is c n.callers row))
  word_kind (Hazard c r) kind row = let p = hazard_parts c r row in before_fields (Hazard c r) kind (hazard_before c r p.0 p.1)
  word_kind (Status j) kind row = before_fields (Status j) kind (status_before j (lt_is j (slot_rows n) row))
  word_kind (FieldOf j g) kind row = of_text (FieldOf j g) kind (field_on j g) (field_until j g row)
  word_kind (Cell x) kind row = of_text (Cell x) kind (cell_on x) (cell_until x (lt_is x n.cells row))
  word_kind (Head t) kind row = after_cells (Head t) kind (head_on t) (omega arith)
  word_kind (Link j) kind row = after_cells (Link j) kind (link_fields j) (link_on j)

  loads_kind : (w : Word) → kind_of_text w kinds.Load ≡ kind_of_access (Loads w)
  loads_kind Phase = refl
  loads_kind _ = refl

  exchanges_kind : (w : Word) (expected x : ℕ) → kind_of_text w kinds.Exchange ≡ kind_of_access (Exchanges w expected x)
  exchanges_kind Phase expected x = refl
  exchanges_kind _ expected x = refl

  kind_is : (a : WordAccess) → in_row n (word_of a) ≡ true → kind_at (field_base n) (head_base n) (located n a) ≡ kind_of_access a
  kind_is (Loads w) row = word_kind w kinds.Load row ∙ loads_kind w
  kind_is (Exchanges w expected x) row = word_kind w kinds.Exchange row ∙ exchanges_kind w expected x
  kind_is (Stores w x) row = refl
  kind_is (Raises w x) row = refl

-- ---- of an entry

-- what is pending has the kind that is wanted
pub kind_pending : (pair : Paired) (setting : Setting) (e : Entry) (access : Access) (first head : ℕ) → IsSound pair → IsSetting setting → BelongsTo pair setting e → stands_at_check pair.target e e.routine ≡ false
    → Some access ≡ located_option setting.sizes (wants pair.target e) → first ≡ field_base setting.sizes → head ≡ head_base setting.sizes → kind_at first head access ≡ kind_wanted pair.target e
kind_pending pair setting e access first head sound own b check pending base top =
    let it : Pends pair setting e access = pends pair setting e access pending in
    let some : wants pair.target e ≢ None = λ none. (let no : None ≡ Some it.0 = sym none ∙ it.1 in cc) in
    let busy : is_idle e.routine ≡ false = runs pair setting e (runnable pair sound) own b some in
    let asks : AsksSafely pair.target setting (Some it.0) =
    subst (λ (o : Option WordAccess). AsksSafely pair.target setting o) it.1 ((safe pair.target pair.source setting (runnable pair sound) own b.fits).busy e b.belongs busy) in
    ap (λ (n : ℕ). kind_at n head access) base ∙ ap (λ (n : ℕ). kind_at (field_base setting.sizes) n access) top
    ∙ (ap (kind_at (field_base setting.sizes) (head_base setting.sizes)) it.2
    ∙ (kind_is setting.sizes it.0 asks.row
    ∙ sym (ap (λ (b : Bool). kind_by b (wants pair.target e)) check ∙ ap (kind_by false) it.1)))
