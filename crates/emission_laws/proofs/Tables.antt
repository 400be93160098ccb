-- Tables with one value set, and registers as locals.
use Rattle.std.proofs.Common.{◌≡◌, ◌≢◌, ℕ, zero, suc, ◌+◌, ◌≤◌, ◌<◌, Bool, true, false, List, [], ◌∷◌, length, ◌==◌, if◌then◌else◌, refl, sym, ◌∙◌, ap, arith, ⊎_elim}
use Rattle.std.specs.Prelude.{slice_get, slice_set, slice_index, unwrap_or}
use Rattle.std.proofs.lemmas.Bool.{cases_eq}
use Rattle.std.proofs.lemmas.Bool.Decides.{nat_tests}
use Rattle.norm_lang.specs.declared.text.Reg.{Reg}
use Rattle.norm_lang.specs.declared.text.Reg.TheVariants.{Num, Ref}
use Rattle.norm_lang.specs.declared.registers.Registers.{Registers}
use Rattle.norm_lang.specs.Registers.{no_reference}
use Rattle.oa_words.proofs.Parts.{references_split}
use Rattle.caller_parts.specs.Operands.{packed, unpacked, with_word}
use Rattle.c_language.specs.Steps.{set}
use Rattle.c_emission.specs.Blocks.{local_of}
use Rattle.emission_laws.specs.Hands.{Holds, AreWords}
use Rattle.emission_laws.specs.Making.{HasNumber}

pub set_here : {X : Type 0} (t : ℕ → X) (d : ℕ) (x : X) (e : ℕ) → e ≡ d → set t d x e ≡ x
set_here t d x e is = ap (λ (b : Bool). if b then x else t e) (let same : (e == d) ≡ true = grind (arith, nat_tests) in same)

pub set_apart : {X : Type 0} (t : ℕ → X) (d : ℕ) (x : X) (e : ℕ) → e ≢ d → set t d x e ≡ t e
set_apart t d x e ne = ap (λ (b : Bool). if b then x else t e) (let other : (e == d) ≡ false = grind (arith, nat_tests) in other)

pub index_here : (xs : List ℕ) (r x : ℕ) → r < length xs → slice_index (slice_set xs r x) r ≡ x
index_here [] r x lt = absurd (omega (arith, lt))
index_here (y ∷ ys) zero x lt = refl
index_here (y ∷ ys) (suc r) x lt = index_here ys r x (omega (arith, lt))

pub index_apart : (xs : List ℕ) (r x k : ℕ) → k ≢ r → slice_index (slice_set xs r x) k ≡ slice_index xs k
index_apart [] r x k ne = refl
index_apart (y ∷ ys) zero x zero ne = absurd (ne refl)
index_apart (y ∷ ys) zero x (suc k) ne = refl
index_apart (y ∷ ys) (suc r) x zero ne = refl
index_apart (y ∷ ys) (suc r) x (suc k) ne = index_apart ys r x k (λ e. ne (ap suc e))

pub or_here : {X : Type 0} (xs : List X) (r : ℕ) (x d : X) → r < length xs → unwrap_or (slice_get (slice_set xs r x) r) d ≡ x
or_here [] r x d lt = absurd (omega (arith, lt))
or_here (y ∷ ys) zero x d lt = refl
or_here (y ∷ ys) (suc r) x d lt = or_here ys r x d (omega (arith, lt))

pub or_apart : {X : Type 0} (xs : List X) (r : ℕ) (x d : X) (k : ℕ) → k ≢ r → unwrap_or (slice_get (slice_set xs r x) k) d ≡ unwrap_or (slice_get xs k) d
or_apart [] r x d k ne = refl
or_apart (y ∷ ys) zero x d zero ne = absurd (ne refl)
or_apart (y ∷ ys) zero x d (suc k) ne = refl
or_apart (y ∷ ys) (suc r) x d zero ne = refl
or_apart (y ∷ ys) (suc r) x d (suc k) ne = or_apart ys r x d k (λ e. ne (ap suc e))

pub low_local : (d : Reg) → HasNumber d → local_of d < 16
low_local (Num r) lt = omega (arith, lt)
low_local (Ref r) lt = omega (arith, lt)

-- a word that is put into a register
pub holds_word : (registers : Registers) (l : ℕ → ℕ) (d : Reg) (word : ℕ) → AreWords registers → HasNumber d → Holds registers l
    → Holds (with_word registers d word) (set l (local_of d) word)
holds_word registers l (Num d) word eight low held = record { numbers = numbers; references = λ r lt. set_apart l d word (8 + r) (λ e. omega (arith, e, low)) ∙ held.references r lt } where
  numbers : (r : ℕ) → r < 8 → set l d word r ≡ slice_index (slice_set registers.numbers d word) r
  numbers r lt = ⊎_elim
      (λ (is : r ≡ d). set_here l d word r is ∙ sym (ap (λ (k : ℕ). slice_index (slice_set registers.numbers d word) k) is ∙ index_here registers.numbers d word (let n = eight.numbers in omega (arith, n, low))))
      (λ (ne : r ≢ d). set_apart l d word r ne ∙ (held.numbers r lt ∙ sym (index_apart registers.numbers d word r ne))) (cases_eq r d)
holds_word registers l (Ref d) word eight low held = record { numbers = λ r lt. set_apart l (8 + d) word r (λ e. omega (arith, e, lt)) ∙ held.numbers r lt; references = references } where
  references : (r : ℕ) → r < 8 → set l (8 + d) word (8 + r) ≡ packed (unwrap_or (slice_get (slice_set registers.references d (unpacked word)) r) no_reference)
  references r lt = ⊎_elim
      (λ (is : r ≡ d). set_here l (8 + d) word (8 + r) (ap (λ (k : ℕ). 8 + k) is)
      ∙ (sym (references_split.whole word)
      ∙ ap packed (sym (ap (λ (k : ℕ). unwrap_or (slice_get (slice_set registers.references d (unpacked word)) k) no_reference) is
      ∙ or_here registers.references d (unpacked word) no_reference (let n = eight.references in omega (arith, n, low))))))
      (λ (ne : r ≢ d). set_apart l (8 + d) word (8 + r) (λ e. ne (omega (arith, e)))
      ∙ (held.references r lt ∙ ap packed (sym (or_apart registers.references d (unpacked word) no_reference r ne)))) (cases_eq r d)

-- other locals
pub holds_other : (registers : Registers) (l : ℕ → ℕ) (x word : ℕ) → 16 ≤ x → Holds registers l → Holds registers (set l x word)
holds_other registers l x word high held = record {
  numbers = λ r lt. set_apart l x word r (λ e. omega (arith, e, lt, high)) ∙ held.numbers r lt;
  references = λ r lt. set_apart l x word (8 + r) (λ e. omega (arith, e, lt, high)) ∙ held.references r lt;
}
