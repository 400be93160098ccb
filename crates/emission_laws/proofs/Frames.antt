-- Frames that stand for what a caller knows, after a local is set.
use Rattle.std.proofs.Common.{◌≡◌, ◌≢◌, ◌⊎◌, ℕ, zero, suc, ◌+◌, ◌≤◌, ◌<◌, List, [], ◌∷◌, refl, sym, ◌∙◌, ap, arith, ⊎_elim, inl, inr}
use Rattle.std.specs.Prelude.{slice_get, slice_set, unwrap_or}
use Rattle.std.proofs.lemmas.Bool.{cases_eq}
use Rattle.std.proofs.lemmas.List.{length-set}
use Rattle.norm_lang.specs.declared.text.Reg.{Reg}
use Rattle.norm_lang.specs.declared.text.Reg.TheVariants.{Num, Ref}
use Rattle.norm_lang.specs.declared.registers.Reference.{Reference}
use Rattle.norm_lang.specs.declared.registers.Registers.{Registers}
use Rattle.norm_lang.specs.Registers.{no_reference}
use Rattle.caller_parts.specs.Operands.{unpacked, with_word, word_in}
use Rattle.c_language.specs.Steps.{Kept, Frame, with_local, onward, goes_to}
use Rattle.c_emission.specs.Blocks.{local_of}
use Rattle.emission_laws.specs.Hands.{Holds, AreWords, Known, Carries, Stands}
use Rattle.emission_laws.specs.Making.{HasNumber, FitsIn}
use Rattle.emission_laws.proofs.Tables.{set_here, set_apart, holds_word, holds_other, low_local}

-- a frame whose arguments, hazards and kept registers are those of another
pub carries_like : (known : Known) (f g : Frame) → ((x : ℕ) → 16 ≤ x → x ≢ 20 → (29 ≤ x → 33 ≤ x) → g.locals x ≡ f.locals x) → g.kept ≡ f.kept → Carries known f → Carries known g
carries_like known f g same kept carried = record {
  args = λ k lt. same (16 + k) (omega arith) (λ e. omega (arith, e, lt)) (λ high. omega (arith, high, lt)) ∙ carried.args k lt;
  slots = λ r lt. same (21 + r) (omega arith) (λ e. omega (arith, e)) (λ high. omega (arith, high, lt)) ∙ carried.slots r lt;
  started = λ runs. record {
    numbers = λ r lt. same (33 + r) (omega arith) (λ e. omega (arith, e)) (λ high. omega arith) ∙ (carried.started runs).numbers r lt;
    references = λ r lt. same (41 + r) (omega arith) (λ e. omega (arith, e)) (λ high. omega arith) ∙ (carried.started runs).references r lt;
  };
  cradles = λ k lt. ap (λ (x : Kept). x.cradles k) kept ∙ carried.cradles k lt;
  quiet = λ j some. ap (λ (x : Kept). x.noted j) kept ∙ carried.quiet j some;
}

-- a scratch local is set
pub scratched : (known : Known) (registers : Registers) (line next : ℕ) (f : Frame) (x word : ℕ) → 29 ≤ x → x ≤ 32 → line + 1 ≡ next → Stands known registers line f
    → Stands known registers next (with_local x word f)
scratched known registers line next f x word low high is stands = record {
  at = (let at = stands.at in omega (arith, at, is));
  held = holds_other registers f.locals x word (omega (arith, low)) stands.held;
  seen = set_apart f.locals x word 20 (λ e. omega (arith, e, low)) ∙ stands.seen;
  carried = carries_like known f (with_local x word f) (λ y above apart lives. set_apart f.locals x word y (λ e. (let more = lives (omega (arith, e, low)) in omega (arith, e, more, high)))) refl stands.carried;
}

-- the frame goes on at another line
pub moved_to : (known : Known) (registers : Registers) (line next : ℕ) (f : Frame) → Stands known registers line f → Stands known registers next (goes_to next f)
moved_to known registers line next f stands = record {
  at = refl;
  held = record { numbers = stands.held.numbers; references = stands.held.references };
  seen = stands.seen;
  carried = carries_like known f (goes_to next f) (λ y above apart lives. refl) refl stands.carried;
}

pub goes_onward : (known : Known) (registers : Registers) (line next : ℕ) (f : Frame) → line + 1 ≡ next → Stands known registers line f → Stands known registers next (onward f)
goes_onward known registers line next f is stands = record {
  at = (let at = stands.at in omega (arith, at, is));
  held = record { numbers = stands.held.numbers; references = stands.held.references };
  seen = stands.seen;
  carried = carries_like known f (onward f) (λ y above apart lives. refl) refl stands.carried;
}

-- a word is put into a register
pub loaded : (known : Known) (registers : Registers) (line next : ℕ) (f : Frame) (d : Reg) (word : ℕ) → AreWords registers → HasNumber d → line + 1 ≡ next → Stands known registers line f
    → Stands known (with_word registers d word) next (with_local (local_of d) word f)
loaded known registers line next f d word words numbered is stands =
    let low = low_local d numbered in
    record {
      at = (let at = stands.at in omega (arith, at, is));
      held = holds_word registers f.locals d word words numbered stands.held;
      seen = set_apart f.locals (local_of d) word 20 (λ e. omega (arith, e, low)) ∙ stands.seen;
      carried = carries_like known f (with_local (local_of d) word f) (λ y above apart lives. set_apart f.locals (local_of d) word y (λ e. omega (arith, e, above, low))) refl stands.carried;
    }

-- a slot stands in the hazard of a register
pub guarded : (known : Known) (registers : Registers) (line next : ℕ) (f : Frame) (r slot : ℕ) (slots : List ℕ) → r < 8 → line + 1 ≡ next
    → ((k : ℕ) → k ≡ r → unwrap_or (slice_get slots k) 0 ≡ slot) → ((k : ℕ) → k ≢ r → unwrap_or (slice_get slots k) 0 ≡ unwrap_or (slice_get known.slots k) 0)
    → Stands known registers line f → Stands (record known { slots = slots }) registers next (with_local (21 + r) slot f)
guarded known registers line next f r slot slots low is put others stands = record {
  at = (let at = stands.at in omega (arith, at, is));
  held = holds_other registers f.locals (21 + r) slot (omega arith) stands.held;
  seen = set_apart f.locals (21 + r) slot 20 (λ e. omega (arith, e)) ∙ stands.seen;
  carried = record {
    args = λ k lt. set_apart f.locals (21 + r) slot (16 + k) (λ e. omega (arith, e, lt)) ∙ stands.carried.args k lt;
    slots = λ k lt. ⊎_elim
        (λ (same : k ≡ r). set_here f.locals (21 + r) slot (21 + k) (ap (λ (x : ℕ). 21 + x) same) ∙ sym (put k same))
        (λ (ne : k ≢ r). set_apart f.locals (21 + r) slot (21 + k) (λ e. ne (omega (arith, e))) ∙ (stands.carried.slots k lt ∙ sym (others k ne))) (cases_eq k r);
    started = λ runs. record {
      numbers = λ k lt. set_apart f.locals (21 + r) slot (33 + k) (λ e. omega (arith, e, low)) ∙ (stands.carried.started runs).numbers k lt;
      references = λ k lt. set_apart f.locals (21 + r) slot (41 + k) (λ e. omega (arith, e, low)) ∙ (stands.carried.started runs).references k lt;
    };
    cradles = stands.carried.cradles;
    quiet = stands.carried.quiet;
  };
}

-- ---- registers

-- what a register's local holds
pub word_held : (registers : Registers) (l : ℕ → ℕ) (r : Reg) → HasNumber r → Holds registers l → l (local_of r) ≡ word_in registers r
word_held registers l (Num r) lt held = held.numbers r lt
word_held registers l (Ref r) lt held = held.references r lt

put_reference : (xs : List Reference) (d k : ℕ) (x : Reference)
    → (unwrap_or (slice_get (slice_set xs d x) k) no_reference ≡ x) ⊎ (unwrap_or (slice_get (slice_set xs d x) k) no_reference ≡ unwrap_or (slice_get xs k) no_reference)
put_reference [] d k x = inr refl
put_reference (y ∷ ys) zero zero x = inl refl
put_reference (y ∷ ys) zero (suc k) x = inr refl
put_reference (y ∷ ys) (suc d) zero x = inr refl
put_reference (y ∷ ys) (suc d) (suc k) x = put_reference ys d k x

-- registers after a word that fits is put into one
pub words_after : (registers : Registers) (d : Reg) (word : ℕ) → FitsIn d word → AreWords registers → AreWords (with_word registers d word)
words_after registers (Num d) word small words = record { numbers = length-set registers.numbers d word ∙ words.numbers; references = words.references; small = words.small }
words_after registers (Ref d) word small words = record {
  numbers = words.numbers;
  references = length-set registers.references d (unpacked word) ∙ words.references;
  small = λ r. ⊎_elim
      (λ (is : unwrap_or (slice_get (slice_set registers.references d (unpacked word)) r) no_reference ≡ unpacked word). (let node = ap (λ (x : Reference). x.node) is in omega (arith, node, small)))
      (λ (is : unwrap_or (slice_get (slice_set registers.references d (unpacked word)) r) no_reference ≡ unwrap_or (slice_get registers.references r) no_reference).
      (let node = ap (λ (x : Reference). x.node) is in let old = words.small r in omega (arith, node, old))) (put_reference registers.references d r (unpacked word));
}
