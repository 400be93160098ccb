-- The source stays ahead over a check that passes, a guard, and a warning; where local code of the core stops, it is there.
use Rattle.std.proofs.Common.{◌≡◌, ◌≢◌, ℕ, Bool, ◌+◌, inl, inr, false, ◌||◌, List, ◌∷◌, Some, None, sym, ap, subst, arith}
use Rattle.std.specs.Prelude.{slice_get, IsTrue, ◌==◌}
use Rattle.std.proofs.lemmas.Bool.Decides.{nat_tests}
use Rattle.norm_lang.specs.declared.text.Reg.{Reg}
use Rattle.norm_lang.specs.declared.text.Reg.TheVariants.{Ref}
use Rattle.norm_lang.specs.declared.text.Instr.{Instr}
use Rattle.norm_lang.specs.declared.text.Text.{Text}
use Rattle.norm_lang.specs.declared.registers.Registers.{Registers}
use Rattle.norm_lang.specs.Flow.{passed}
use Rattle.norm_lang.specs.Local.{Spot, local_step, local_at}
use Rattle.target_laws.specs.local_laws.Settling.{next_spot, Settles}
use Rattle.target_laws.proofs.local_laws.Bounded.{settles_here}
use Rattle.source_machine.specs.declared.state.SourceCaller.{SourceCaller}
use Rattle.target_code.specs.declared.target.TargetInstr.TheVariants.{Plain, Check, Guard}
use Rattle.target_code.specs.declared.target.Target.{Target}
use Rattle.target_code.specs.Erasing.{source_place, redirected}
use Rattle.target_code.specs.Paths.{target_goes_from}
use Rattle.target_laws.specs.Methods.{Method, code_in, source_in}
use Rattle.target_laws.specs.Trusted.{Trusted, Spoilt, trust_after, trust_along}
use Rattle.run_ahead.specs.Agreeing.{Agree, AreApart}
use Rattle.run_ahead.specs.Ahead.{AsTrusted, IsHeld, IsHoped, IsErased, Ahead}
use Rattle.run_ahead.specs.Following.{Walk, Follows, StandsAhead}
use Rattle.run_ahead.proofs.Plain.{path_on, at_place}
use Rattle.run_ahead.proofs.Telling.{told_confirmed, told_less, confirmed_is, hoped_is_confirmed}

pub goes_next : (at : ℕ) → IsTrue (((at + 1) == (at + 1)) || false)
goes_next at = grind (arith, nat_tests)

-- ---- a check that passes

pub check_keeps : {target : Target} {text : Text} (method : Method target text) (home : ℕ → ℕ) (calm : Type 0) (path : List ℕ) (core : Spot) (mirror : Registers) (there : Spot)
    → IsErased target text → slice_get (code_in method) core.at ≡ Some Check → calm → AreApart home (IsHoped (trust_along method path) mirror)
    → Ahead method home calm path core mirror there → Ahead method home calm (core.at ∷ path) (record { at = core.at + 1; registers = core.registers }) mirror there
check_keeps method home calm path core mirror there erased is now apart a = record {
  path_is = path_on method erased path core.at (core.at + 1) a.path_is (subst (λ o. IsTrue (target_goes_from o core.at (core.at + 1))) (sym is) (goes_next core.at));
  sized = a.sized;
  agree = λ r. subst (λ o. AsTrusted calm (passed (trust_after r) o (trust_along method path r)) (Agree home core.registers mirror r)) (sym is)
      (told_confirmed calm (trust_along method path r) (Agree home core.registers mirror r) now (a.agree r));
  apart = λ x y x_held y_held. apart x y (hoped x x_held) (hoped y y_held);
  settles = subst (λ (k : ℕ). Settles (source_in method) (record { at = k; registers = mirror }) there) (sym (at_place method erased core.at Check is)) a.settles;
}
  where
    hoped : (n : ℕ) → IsHeld (trust_along method (core.at ∷ path)) mirror n → IsHoped (trust_along method path) mirror n
    hoped n (inl zero_is) = inl zero_is
    hoped n (inr holds) = inr (
      holds.0,
      confirmed_is (trust_along method path (Ref holds.0))
          (subst (λ o. passed (trust_after (Ref holds.0)) o (trust_along method path (Ref holds.0)) ≡ Trusted) is holds.1),
      holds.2,
    )

-- each register of which anything is known is trusted
pub check_trusts : {target : Target} {text : Text} (method : Method target text) (path : List ℕ) (at : ℕ) (r : Reg) → slice_get (code_in method) at ≡ Some Check → trust_along method path r ≢ Spoilt
    → trust_along method (at ∷ path) r ≡ Trusted
check_trusts method path at r is hopes = subst (λ o. passed (trust_after r) o (trust_along method path r) ≡ Trusted) (sym is) (hoped_is_confirmed (trust_along method path r) hopes)

-- ---- a guard

pub guard_keeps : {target : Target} {text : Text} (method : Method target text) (home : ℕ → ℕ) (calm : Type 0) (path : List ℕ) (core : Spot) (mirror : Registers) (there : Spot) (guarded : Reg)
    → IsErased target text → slice_get (code_in method) core.at ≡ Some (Guard guarded)
    → Ahead method home calm path core mirror there → Ahead method home calm (core.at ∷ path) (record { at = core.at + 1; registers = core.registers }) mirror there
guard_keeps method home calm path core mirror there guarded erased is a =
    let same : (r : Reg) → trust_along method (core.at ∷ path) r ≡ trust_along method path r = λ r. ap (λ o. passed (trust_after r) o (trust_along method path r)) is in record {
      path_is = path_on method erased path core.at (core.at + 1) a.path_is (subst (λ o. IsTrue (target_goes_from o core.at (core.at + 1))) (sym is) (goes_next core.at));
      sized = a.sized;
      agree = λ r. subst (λ t. AsTrusted calm t (Agree home core.registers mirror r)) (sym (same r)) (a.agree r);
      apart = λ x y x_held y_held. a.apart x y (held x x_held) (held y y_held);
      settles = subst (λ (k : ℕ). Settles (source_in method) (record { at = k; registers = mirror }) there) (sym (at_place method erased core.at (Guard guarded) is)) a.settles;
    }
  where
    held : (n : ℕ) → IsHeld (trust_along method (core.at ∷ path)) mirror n → IsHeld (trust_along method path) mirror n
    held n (inl zero_is) = inl zero_is
    held n (inr holds) = inr (holds.0, subst (λ o. passed (trust_after (Ref holds.0)) o (trust_along method path (Ref holds.0)) ≡ Trusted) is holds.1, holds.2)

-- ---- a warning

pub less_calm : {target : Target} {text : Text} (method : Method target text) (home : ℕ → ℕ) (calm calm' : Type 0) (path : List ℕ) (core : Spot) (mirror : Registers) (there : Spot)
    → (calm' → calm) → Ahead method home calm path core mirror there → Ahead method home calm' path core mirror there
less_calm method home calm calm' path core mirror there less a = record {
  path_is = a.path_is;
  sized = a.sized;
  apart = a.apart;
  settles = a.settles;
  agree = λ r. told_less calm calm' (trust_along method path r) (Agree home core.registers mirror r) less (a.agree r);
}

-- ---- where no local instruction stands

-- what a core caller that is followed says of the source alone
pub source_ahead : {target : Target} {text : Text} {walk : Walk target text} {home : ℕ → ℕ} {calm : Type 0} {path : List ℕ} {core : Spot} {mirror : Registers} {accessed : Bool} {caller : SourceCaller}
    → (f : Follows walk home calm path core mirror accessed caller) → StandsAhead walk.method walk.started accessed walk.call core.at mirror f.there caller
source_ahead f = record { number = f.begun.number; settles = f.ahead.settles; stands = f.stands }

-- the source is at the same place, with the mirror's registers
pub stands_there : {target : Target} {text : Text} (method : Method target text) (at : ℕ) (mirror : Registers) (there : Spot) (i : Instr)
    → IsErased target text → slice_get (code_in method) at ≡ Some (Plain i) → local_step (redirected (source_place (code_in method)) i) (source_place (code_in method) at) mirror ≡ None
    → Settles (source_in method) (record { at = source_place (code_in method) at; registers = mirror }) there → record { at = source_place (code_in method) at; registers = mirror } ≡ there
stands_there method at mirror there i erased is none settles =
    let here = at_place method erased at (Plain i) is in
    settles_here (next_spot (source_in method)) (record { at = source_place (code_in method) at; registers = mirror }) there
    (subst (λ o. local_at o (source_place (code_in method) at) mirror ≡ None) (sym here.0) none) settles
