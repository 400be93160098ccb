-- What a caller may trust of its registers, along its own path.
--
-- That a register is clean isn't enough in a wrap-up. The fold of the flaws begins clean there, also for a register that held
-- at the commit what no check had confirmed: that is right for the verifier, since such a register isn't read. But a passed
-- check of the wrap-up confirms what the wrap-up loaded, and never what the generator left unchecked. So there are three
-- states, and a wrap-up begins with trust in what it carries over alone.
use Rattle.std.specs.Prelude.{◌≡◌, ℕ, Bool, true, false, ◌||◌, List, IsTrue, if◌then◌else◌}
use Rattle.norm_lang.specs.declared.text.Reg.{Reg}
use Rattle.norm_lang.specs.declared.text.Reg.TheVariants.{Num}
use Rattle.norm_lang.specs.declared.text.Instr.{Instr}
use Rattle.norm_lang.specs.declared.text.Op.{Op}
use Rattle.norm_lang.specs.declared.text.Text.{Text}
use Rattle.norm_lang.specs.Flow.{state_along}
use Rattle.norm_lang.specs.NormalForm.{IsNormal}
use Rattle.norm_lang.specs.RegisterUse.{same_register, sets}
use Rattle.target_code.specs.declared.target.TargetInstr.{TargetInstr}
use Rattle.target_code.specs.declared.target.TargetInstr.TheVariants.{Plain, Check, Guard}
use Rattle.target_code.specs.declared.target.Target.{Target}
use Rattle.target_code.specs.Barred.{IsBarred}
use Rattle.target_code.specs.Flaws.{fetches, target_commits}
use Rattle.target_code.specs.Paths.{target_reads}
use Rattle.target_code.specs.Keeping.{carries}
use Rattle.target_laws.specs.Methods.{Method, code_in, generator_of, wrapup_of, Arrives}
use Rattle.target_code.specs.PathStates.{is_set_along}
use Rattle.target_laws.specs.Uses.{is_clean_along}

-- what is known of a register: it was checked, or computed from what was; or it was loaded or made in this run of the method
-- and no check stands after it, so it is right unless the caller was warned; or nothing, since the wrap-up neither carried it
-- over nor set it
pub data Trust : Type 0 where
  Trusted : Trust
  Unchecked : Trust
  Spoilt : Trust

-- a check passed
abbrev pub confirmed : Trust → Trust
confirmed Trusted = Trusted
confirmed Unchecked = Trusted
confirmed Spoilt = Spoilt

-- the register that an instruction sets
abbrev pub trust_in_set : Instr → Trust
trust_in_set i = if fetches i then Unchecked else Trusted

-- a register after an instruction
abbrev pub trust_after : Reg → TargetInstr → Trust → Trust
trust_after r (Plain i) was = if sets r i then trust_in_set i else was
trust_after r Check was = confirmed was
trust_after r (Guard a) was = was

-- the registers that a method carries over from before it: a generator all, which are its arguments, 0 and null; a wrap-up those
-- that it may read before it sets them, and the count in n7
abbrev pub carried_by : Bool → Op → Reg → Bool
carried_by false op r = true
carried_by true op r = carries op r || same_register r (Num 7)

abbrev pub carried_in : {target : Target} {text : Text} → Method target text → Reg → Bool
carried_in method r = carried_by method.wrapup method.op r

-- where a method begins
abbrev pub trust_at_start : Bool → Trust
trust_at_start true = Trusted
trust_at_start false = Spoilt

-- and after a path of it
abbrev pub trust_along : {target : Target} {text : Text} → Method target text → List ℕ → Reg → Trust
trust_along method path r = state_along (trust_after r) (trust_at_start (carried_in method r)) (code_in method) path

-- whether a register was carried over or set
abbrev pub is_live_along : {target : Target} {text : Text} → Method target text → List ℕ → Reg → Bool
is_live_along method path r = is_set_along (code_in method) path r (carried_in method r)

-- trust, by whether a register is live and clean
abbrev pub trust_of : Bool → Bool → Trust
trust_of false clean = Spoilt
trust_of true false = Unchecked
trust_of true true = Trusted

-- a register can be trusted exactly if it is clean along the path, and was set along it or carried over
abbrev pub TrustIsKnown : Type 0
TrustIsKnown =
    (target : Target) (text : Text) (method : Method target text) (path : List ℕ) (r : Reg)
    → trust_along method path r ≡ trust_of (is_live_along method path r) (is_clean_along (code_in method) path r)

-- each register that an instruction reads can be trusted
abbrev pub TrustedWhereRead : Type 0
TrustedWhereRead =
    (target : Target) (text : Text) → IsNormal text → IsBarred target text → (method : Method target text) (path : List ℕ) (at : ℕ) (i : TargetInstr) (r : Reg)
    → Arrives method path at i → IsTrue (target_reads r i) → trust_along method path r ≡ Trusted

-- at a commit each register that the wrap-up carries over can be trusted, but for n7, which will be the count
abbrev pub CarriedAreTrusted : Type 0
CarriedAreTrusted =
    (target : Target) (text : Text) → IsBarred target text → (method : Method target text) (path : List ℕ) (at : ℕ) (i : TargetInstr) (r : Reg)
    → Arrives (generator_of method) path at i → IsTrue (target_commits i) → IsTrue (carried_in (wrapup_of method) r) → same_register r (Num 7) ≡ false
    → trust_along (generator_of method) path r ≡ Trusted
