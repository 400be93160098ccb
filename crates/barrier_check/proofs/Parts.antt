-- From the parts of a target to the whole, for flaws of any sort.
use Rattle.std.proofs.Common.{ℕ, ◌+◌, ◌<◌, ◌⊎◌, inl, inr, Bool, true, false, sym, subst, ◌∙◌, arith}
use Rattle.std.specs.Prelude.{◌≤◌, IsTrue, Result, Ok, Err}
use Rattle.norm_lang.specs.NormalForm.{method_number}
use Rattle.target_code.specs.Barred.{Flaw, flaw_before}
use Rattle.barrier_check.specs.declared.flaw.VerifyError.{VerifyError}
use Rattle.barrier_check.specs.declared.flaw.VerifyError.TheVariants.{Memory, Flawed}
use Rattle.barrier_check.specs.FlawsTold.{flaw_of}
use Rattle.barrier_check.specs.Scopes.{AtPlace, InMethod, InOp, Anywhere, IsClear, IsFirstThere, IsFlawedThere, Judges}
use Rattle.barrier_check.proofs.Placing.{which, before_op, before_method, before_at}
use Rattle.norm_check.proofs.Placing.{generator_first, less_or_same}

-- above an instruction of a method
abbrev pub Above : ℕ → Bool → ℕ → Flaw → Type 0
Above op wrapup at flaw = InMethod op wrapup flaw × (flaw.at < at)

-- in an earlier operation
abbrev pub Earlier : ℕ → Flaw → Type 0
Earlier op flaw = flaw.op < op

-- what is first in a part is first in a wider one, if the wider one's other flaws aren't there or come later
widened : (Has There Wider : Flaw → Type 0) (flaw : Flaw) → Wider flaw
    → ((other : Flaw) → Wider other → IsTrue (flaw_before other flaw) → There other ⊎ (¬ Has other))
    → IsFirstThere Has There flaw → IsFirstThere Has Wider flaw
widened Has There Wider flaw there apart first = record {
  there = there;
  has = first.has;
  first = λ other wide before. elim (apart other wide before) [ inl inside ↦ first.first other inside before | inr has_not ↦ has_not ];
}

-- nothing stands above the first instruction
pub none_above : (Has : Flaw → Type 0) (number : ℕ) (wrapup : Bool) → IsClear Has (Above number wrapup 0)
none_above Has number wrapup flaw there = absurd (omega (arith, there.1))

pub one_further : (Has : Flaw → Type 0) (number : ℕ) (wrapup : Bool) (at : ℕ) → IsClear Has (Above number wrapup at) → IsClear Has (AtPlace number wrapup at) → IsClear Has (Above number wrapup (at + 1))
one_further Has number wrapup at above here flaw there =
    elim (less_or_same flaw.at at (omega (arith, there.1))) [ inl less ↦ above flaw (there.0, less) | inr same ↦ here flaw (there.0.0, there.0.1, same) ]

first_in_method : (Has : Flaw → Type 0) (number : ℕ) (wrapup : Bool) (at : ℕ) (flaw : Flaw)
    → IsClear Has (Above number wrapup at) → IsFirstThere Has (AtPlace number wrapup at) flaw → IsFirstThere Has (InMethod number wrapup) flaw
first_in_method Has number wrapup at flaw above first = widened Has (AtPlace number wrapup at) (InMethod number wrapup) flaw (first.there.0, first.there.1) apart first
  where
    apart : (other : Flaw) → InMethod number wrapup other → IsTrue (flaw_before other flaw) → AtPlace number wrapup at other ⊎ (¬ Has other)
    apart other there before =
        elim (less_or_same other.at flaw.at (before_at other flaw (there.0 ∙ sym first.there.0) (there.1 ∙ sym first.there.1) before)) [
          | inl less ↦ inr (above other (there, omega (arith, less, first.there.2)))
          | inr same ↦ inl (there.0, there.1, same ∙ first.there.2)
        ]

-- the generator, and then the wrap-up
first_in_generator : (Has : Flaw → Type 0) (number : ℕ) (flaw : Flaw) → IsFirstThere Has (InMethod number false) flaw → IsFirstThere Has (InOp number) flaw
first_in_generator Has number flaw first = widened Has (InMethod number false) (InOp number) flaw first.there.0 apart first
  where
    apart : (other : Flaw) → InOp number other → IsTrue (flaw_before other flaw) → InMethod number false other ⊎ (¬ Has other)
    apart other there before =
        let least : method_number other.wrapup ≤ method_number flaw.wrapup = before_method other flaw (there ∙ sym first.there.0) before in
        inl (there, generator_first other.wrapup (subst (λ w. method_number other.wrapup ≤ method_number w) first.there.1 least))

first_in_wrapup : (Has : Flaw → Type 0) (number : ℕ) (flaw : Flaw)
    → IsClear Has (InMethod number false) → IsFirstThere Has (InMethod number true) flaw → IsFirstThere Has (InOp number) flaw
first_in_wrapup Has number flaw clear first =
    widened Has (InMethod number true) (InOp number) flaw first.there.0
    (λ other there before. elim (which other.wrapup) [ inl generator ↦ inr (clear other (there, generator)) | inr wrapup ↦ inl (there, wrapup) ])
    first

both_methods : (Has : Flaw → Type 0) (number : ℕ) → IsClear Has (InMethod number false) → IsClear Has (InMethod number true) → IsClear Has (InOp number)
both_methods Has number generator wrapup flaw there = elim (which flaw.wrapup) [ inl is ↦ generator flaw (there, is) | inr is ↦ wrapup flaw (there, is) ]

-- the operations, one by one
pub none_earlier : (Has : Flaw → Type 0) → IsClear Has (Earlier 0)
none_earlier Has flaw there = absurd (omega (arith, there))

pub one_operation_further : (Has : Flaw → Type 0) (number : ℕ) → IsClear Has (Earlier number) → IsClear Has (InOp number) → IsClear Has (Earlier (number + 1))
one_operation_further Has number earlier here flaw there =
    elim (less_or_same flaw.op number (omega (arith, there))) [ inl less ↦ earlier flaw less | inr same ↦ here flaw same ]

first_anywhere : (Has : Flaw → Type 0) (number : ℕ) (flaw : Flaw) → IsClear Has (Earlier number) → IsFirstThere Has (InOp number) flaw → IsFirstThere Has Anywhere flaw
first_anywhere Has number flaw earlier first = widened Has (InOp number) Anywhere flaw tt apart first
  where
    apart : (other : Flaw) → Anywhere other → IsTrue (flaw_before other flaw) → InOp number other ⊎ (¬ Has other)
    apart other there before =
        elim (less_or_same other.op flaw.op (before_op other flaw before)) [
          | inl less ↦ inr (earlier other (omega (arith, less, first.there)))
          | inr same ↦ inl (same ∙ first.there)
        ]

-- the same of the errors that carry flaws
pub flawed_in_method : (Has : Flaw → Type 0) (number : ℕ) (wrapup : Bool) (at : ℕ) (e : VerifyError)
    → IsClear Has (Above number wrapup at) → IsFlawedThere Has (AtPlace number wrapup at) e → IsFlawedThere Has (InMethod number wrapup) e
flawed_in_method Has number wrapup at Memory above first = tt
flawed_in_method Has number wrapup at (Flawed flaw) above first = first_in_method Has number wrapup at (flaw_of flaw) above first

pub flawed_in_generator : (Has : Flaw → Type 0) (number : ℕ) (e : VerifyError) → IsFlawedThere Has (InMethod number false) e → IsFlawedThere Has (InOp number) e
flawed_in_generator Has number Memory first = tt
flawed_in_generator Has number (Flawed flaw) first = first_in_generator Has number (flaw_of flaw) first

pub flawed_in_wrapup : (Has : Flaw → Type 0) (number : ℕ) (e : VerifyError)
    → IsClear Has (InMethod number false) → IsFlawedThere Has (InMethod number true) e → IsFlawedThere Has (InOp number) e
flawed_in_wrapup Has number Memory clear first = tt
flawed_in_wrapup Has number (Flawed flaw) clear first = first_in_wrapup Has number (flaw_of flaw) clear first

pub judged_in_wrapup : {X : Type 0} (Has : Flaw → Type 0) (number : ℕ) (r : Result X VerifyError)
    → IsClear Has (InMethod number false) → Judges Has (InMethod number true) r → Judges Has (InOp number) r
judged_in_wrapup Has number (Ok x) clear wrapup = both_methods Has number clear wrapup
judged_in_wrapup Has number (Err e) clear wrapup = flawed_in_wrapup Has number e clear wrapup

pub flawed_anywhere : (Has : Flaw → Type 0) (number : ℕ) (e : VerifyError) → IsClear Has (Earlier number) → IsFlawedThere Has (InOp number) e → IsFlawedThere Has Anywhere e
flawed_anywhere Has number Memory earlier first = tt
flawed_anywhere Has number (Flawed flaw) earlier first = first_anywhere Has number (flaw_of flaw) earlier first
