-- What holds of guards and of gathered slots.
use Rattle.std.specs.Prelude.{◌≡◌, ◌≢◌, ℕ, ◌<◌, Bool, true, false, ◌&&◌, ◌||◌, not, ◌==◌, List, [], Some, None}
use Rattle.guard_words.specs.Guards.{Guards, no_guards, guard_at, is_validated, with_guard, pass_check, is_to_clear, next_to_clear, with_slot, has_slot, IsRow}

pub record GuardsFollow : Type 0 where
  -- a row stays one
  pub row_first : IsRow no_guards
  pub row_put : (guards : Guards) (r slot : ℕ) → IsRow guards → IsRow (with_guard guards r slot)
  pub row_passed : (guards : Guards) → IsRow guards → IsRow (pass_check guards)
  -- at the start no register has a guard
  pub first_slot : (r : ℕ) → guard_at no_guards r ≡ 0
  pub first_flag : (r : ℕ) → is_validated no_guards r ≡ false
  -- putting a guard changes its register alone
  pub put_slot : (guards : Guards) (r slot : ℕ) → IsRow guards → r < 8 → guard_at (with_guard guards r slot) r ≡ slot
  pub put_flag : (guards : Guards) (r slot : ℕ) → is_validated (with_guard guards r slot) r ≡ false
  pub other_slot : (guards : Guards) (r slot k : ℕ) → k ≢ r → guard_at (with_guard guards r slot) k ≡ guard_at guards k
  pub other_flag : (guards : Guards) (r slot k : ℕ) → k ≢ r → is_validated (with_guard guards r slot) k ≡ is_validated guards k
  -- a passed check leaves the slots, and validates each guard that isn't 0
  pub passed_slot : (guards : Guards) (r : ℕ) → guard_at (pass_check guards) r ≡ guard_at guards r
  pub passed_flag : (guards : Guards) (r : ℕ) → IsRow guards → is_validated (pass_check guards) r ≡ (is_validated guards r || not (guard_at guards r == 0))
  -- a cleared register isn't to be cleared again, and no other changes
  pub cleared : (guards : Guards) (spared : List Bool) (r k : ℕ) → IsRow guards → is_to_clear (with_guard guards r 0).slots spared k ≡ (is_to_clear guards.slots spared k && not (k == r))
  -- the next register to clear is the least, and there is none exactly if no register is to be cleared
  pub next_some : (guards : Guards) (spared : List Bool) (r : ℕ) → IsRow guards → next_to_clear guards spared ≡ Some r
      → (r < 8) × (is_to_clear guards.slots spared r ≡ true) × ((k : ℕ) → k < r → is_to_clear guards.slots spared k ≡ false)
  pub next_none : (guards : Guards) (spared : List Bool) → next_to_clear guards spared ≡ None → (k : ℕ) → is_to_clear guards.slots spared k ≡ false

pub record GatheredFollow : Type 0 where
  pub none : (j : ℕ) → has_slot [] j ≡ false
  pub added : (slots : List ℕ) (slot j : ℕ) → has_slot (with_slot slots slot) j ≡ (has_slot slots j || (not (slot == 0) && (slot == j)))
