-- Judging a part of a target.
use Rattle.std.specs.Prelude.{◌≡◌, ℕ, Bool, Result, Ok, Err, IsTrue}
use Rattle.target_code.specs.Barred.{Flaw, flaw_before}
use Rattle.barrier_check.specs.declared.flaw.VerifyError.{VerifyError}
use Rattle.barrier_check.specs.declared.flaw.VerifyError.TheVariants.{Memory, Flawed}
use Rattle.barrier_check.specs.FlawsTold.{flaw_of}

-- at an instruction of an operation
abbrev pub AtPlace : ℕ → Bool → ℕ → Flaw → Type 0
AtPlace op wrapup at flaw = (flaw.op ≡ op) × (flaw.wrapup ≡ wrapup) × (flaw.at ≡ at)

-- in the generator or in the wrap-up of an operation
abbrev pub InMethod : ℕ → Bool → Flaw → Type 0
InMethod op wrapup flaw = (flaw.op ≡ op) × (flaw.wrapup ≡ wrapup)

-- in an operation
abbrev pub InOp : ℕ → Flaw → Type 0
InOp op flaw = flaw.op ≡ op

-- anywhere in the target
abbrev pub Anywhere : Flaw → Type 0
Anywhere flaw = Unit {0}

-- the target has none of the flaws there
abbrev pub IsClear : (Flaw → Type 0) → (Flaw → Type 0) → Type 0
IsClear Has There = (flaw : Flaw) → There flaw → ¬ Has flaw

-- of the flaws that a target has there this is the first
pub record IsFirstThere (Has There : Flaw → Type 0) (flaw : Flaw) : Type 0 where
  pub there : There flaw
  pub has : Has flaw
  pub first : (other : Flaw) → There other → IsTrue (flaw_before other flaw) → ¬ Has other

-- what a refusal of a part says; that memory ran out says nothing
abbrev pub IsFlawedThere : (Flaw → Type 0) → (Flaw → Type 0) → VerifyError → Type 0
IsFlawedThere Has There Memory = Unit {0}
IsFlawedThere Has There (Flawed flaw) = IsFirstThere Has There (flaw_of flaw)

-- the answer to a part of a target: it is good, or the refusal tells the first of the flaws that it has there
abbrev pub Tells : {X : Type 0} → Type 0 → (Flaw → Type 0) → (Flaw → Type 0) → Result X VerifyError → Type 0
Tells Good Has There (Ok x) = Good
Tells Good Has There (Err e) = IsFlawedThere Has There e

-- the same for parts that are good exactly if they have no flaw
abbrev pub Judges : {X : Type 0} → (Flaw → Type 0) → (Flaw → Type 0) → Result X VerifyError → Type 0
Judges Has There = Tells (IsClear Has There) Has There
