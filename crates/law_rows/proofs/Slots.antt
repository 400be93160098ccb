-- States in which something names a slot: each breaks what speaks of it.
use Rattle.std.proofs.Common.{◌≡◌, ℕ, refl, arith}
use Rattle.oa_words.specs.Words.{Hazard, Cell}
use Rattle.law_rows.specs.NamedSlots.{TouchedRows}

pub touched_rows : TouchedRows
touched_rows = record {
  start = refl;
  used = λ h. let is : ◌≡◌ {A = ℕ} 5 4 = h.status in omega arith;
  ready_later = λ h. let is : ◌≡◌ {A = ℕ} 8 4 = h.status in omega arith;
  hazard = λ h. h.words (Hazard 0 7) refl refl;
  root = λ h. h.words (Cell 1) refl refl;
  marked_root = λ h. h.words (Cell 1) refl refl;
  register = λ h. (h.entries 0 _ refl).registers 1 refl;
  started = λ h. (h.entries 0 _ refl).started 1 refl;
  guard = λ h. (h.entries 0 _ refl).guards 2 refl;
  cradle = λ h. (h.entries 0 _ refl).cradles 3 refl;
  retired = λ h. (h.entries 0 _ refl).routine refl;
  taken = λ h. (h.entries 0 _ refl).routine.1 refl;
  gathered = λ h. (h.entries 0 _ refl).routine.0 1 0 (omega arith) refl;
}
