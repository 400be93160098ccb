-- From the parts of the verifier to its answer.
use Rattle.std.proofs.Common.{refl, inl, inr}
use Rattle.std.specs.Prelude.{Err}
use Rattle.norm_lang.specs.declared.text.Text.{Text}
use Rattle.target_code.specs.declared.target.Target.{Target}
use Rattle.target_code.specs.Erasing.{ErasesTo}
use Rattle.target_code.specs.Barred.{Flaw, erasing_flaw, IsErasingFlaw, HasFlaw, IsBarred}
use Rattle.barrier_check.specs.declared.flaw.VerifyError.{VerifyError}
use Rattle.barrier_check.specs.declared.flaw.VerifyError.TheVariants.{Memory, Flawed}
use Rattle.barrier_check.specs.FlawsTold.{flaw_of}
use Rattle.barrier_check.specs.Comparing.{Differs}
use Rattle.barrier_check.specs.Scopes.{Anywhere, IsClear, IsFirstThere, IsFlawedThere}
use Rattle.barrier_check.specs.Verified.{IsVerified}

pub is_barred : (target : Target) (text : Text) → ErasesTo target text → IsClear (HasFlaw target text) Anywhere → IsBarred target text
is_barred target text erases clear = record { erases = erases; flawless = λ flaw. clear flaw tt }

-- the first of the differences
first_difference : (target : Target) (text : Text) (flaw : Flaw) → IsFirstThere (Differs target text) Anywhere flaw → IsErasingFlaw target text flaw
first_difference target text flaw first = (first.has.0, first.has.1, λ op wrapup before differs. first.first (erasing_flaw op wrapup) tt before (refl, differs))

pub erasing_error : (target : Target) (text : Text) (e : VerifyError) → IsFlawedThere (Differs target text) Anywhere e → IsVerified target text (Err e)
erasing_error target text Memory first = tt
erasing_error target text (Flawed flaw) first = inl (first_difference target text (flaw_of flaw) first)

-- and of the flaws
pub flaw_error : (target : Target) (text : Text) (e : VerifyError) → ErasesTo target text → IsFlawedThere (HasFlaw target text) Anywhere e → IsVerified target text (Err e)
flaw_error target text Memory erases first = tt
flaw_error target text (Flawed flaw) erases first = inr (erases, first.has, λ other before. first.first other tt before)
