-- What the verifier answers to a target.
use Rattle.std.specs.Prelude.{◌≡◌, Result, Ok, Err}
use Rattle.norm_lang.specs.declared.text.Text.{Text}
use Rattle.target_code.specs.declared.target.Target.{Target}
use Rattle.target_code.specs.Barred.{IsBarred, IsFirstFlaw}
use Rattle.barrier_check.specs.declared.flaw.VerifyError.{VerifyError}
use Rattle.barrier_check.specs.declared.flaw.VerifyError.TheVariants.{Memory, Flawed}
use Rattle.barrier_check.specs.declared.barred.Barred.{Barred}
use Rattle.barrier_check.specs.FlawsTold.{flaw_of}

-- the target itself with the text if it is barred for it, and otherwise its first flaw; memory may run out before
abbrev pub IsVerified : Target → Text → Result Barred VerifyError → Type 0
IsVerified target text (Ok barred) = (barred ≡ record { target = target; source = text }) × IsBarred target text
IsVerified target text (Err Memory) = Unit {0}
IsVerified target text (Err (Flawed flaw)) = IsFirstFlaw target text (flaw_of flaw)
