-- Which of two flaws comes first.
use Rattle.std.proofs.Common.{◌≡◌, ℕ, zero, suc, ◌<◌, ◌≤◌, ◌⊎◌, inl, inr, Bool, true, false, refl, ap, arith}
use Rattle.std.specs.Prelude.{nat_lt, IsTrue}
use Rattle.std.proofs.lemmas.Bool.Decides.{nat_tests}
use Rattle.norm_lang.specs.NormalForm.{method_number}
use Rattle.target_code.specs.Barred.{kind_number, Flaw, flaw_before}
use Rattle.norm_check.proofs.Placing.{lesser, tie}

pub less_or_more : (a n : ℕ) → (a < n) ⊎ (n ≤ a)
less_or_more a zero = inr (omega arith)
less_or_more zero (suc n) = inl (omega arith)
less_or_more (suc a) (suc n) = elim (less_or_more a n) [ inl less ↦ inl (omega (arith, less)) | inr more ↦ inr (omega (arith, more)) ]

pub which : (wrapup : Bool) → (wrapup ≡ false) ⊎ (wrapup ≡ true)
which false = inl refl
which true = inr refl

-- what comes before a flaw stands in no later operation; in the same one, in no later method; and in the same one, at no
-- later instruction; at the same one its kind has a lesser number
pub before_op : (one other : Flaw) → IsTrue (flaw_before one other) → one.op ≤ other.op
before_op one other before = lesser one.op other.op _ before

pub before_method : (one other : Flaw) → one.op ≡ other.op → IsTrue (flaw_before one other) → method_number one.wrapup ≤ method_number other.wrapup
before_method one other ops before = lesser (method_number one.wrapup) (method_number other.wrapup) _ (tie one.op other.op _ ops before)

pub before_at : (one other : Flaw) → one.op ≡ other.op → one.wrapup ≡ other.wrapup → IsTrue (flaw_before one other) → one.at ≤ other.at
before_at one other ops methods before =
    lesser one.at other.at _ (tie (method_number one.wrapup) (method_number other.wrapup) _ (ap method_number methods) (tie one.op other.op _ ops before))

pub before_kind : (one other : Flaw) → one.op ≡ other.op → one.wrapup ≡ other.wrapup → one.at ≡ other.at → IsTrue (flaw_before one other) → kind_number one.kind < kind_number other.kind
before_kind one other ops methods places before =
    let decided : IsTrue (nat_lt (kind_number one.kind) (kind_number other.kind)) =
    tie one.at other.at _ places (tie (method_number one.wrapup) (method_number other.wrapup) _ (ap method_number methods) (tie one.op other.op _ ops before)) in
    grind (arith, nat_tests)
