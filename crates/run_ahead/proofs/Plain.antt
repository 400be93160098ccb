-- Core and source make an instruction of the source: what is known of registers afterwards, and the relation.
use Rattle.std.proofs.Common.{◌≡◌, ℕ, inl, inr, Bool, true, false, List, ◌∷◌, Some, refl, sym, subst, ◌∙◌}
use Rattle.std.specs.Prelude.{slice_get, IsTrue, if◌then◌else◌}
use Rattle.norm_lang.specs.declared.text.Reg.{Reg}
use Rattle.norm_lang.specs.declared.text.Reg.TheVariants.{Ref}
use Rattle.norm_lang.specs.declared.text.Instr.{Instr}
use Rattle.norm_lang.specs.declared.text.Text.{Text}
use Rattle.norm_lang.specs.declared.registers.Registers.{Registers}
use Rattle.norm_lang.specs.Flow.{passed, goes_to}
use Rattle.norm_lang.specs.InstructionRules.{has_wrong_kind}
use Rattle.norm_lang.specs.Local.{Spot}
use Rattle.norm_lang.specs.RegisterUse.{destination, sets, reads}
use Rattle.target_laws.specs.local_laws.Settling.{Settles}
use Rattle.target_code.specs.declared.target.TargetInstr.{TargetInstr}
use Rattle.target_code.specs.declared.target.TargetInstr.TheVariants.{Plain}
use Rattle.target_code.specs.declared.target.Target.{Target}
use Rattle.target_code.specs.Erasing.{source_place}
use Rattle.target_code.specs.Paths.{target_goes_from, TargetPath}
use Rattle.target_laws.specs.Methods.{Method, code_in, source_in}
use Rattle.target_laws.specs.Places.{ErasesAt}
use Rattle.target_laws.specs.Trusted.{Trust, Trusted, trust_in_set, trust_after, trust_along}
use Rattle.target_laws.proofs.ErasedPlaces.{erased_here}
use Rattle.target_laws.proofs.Forms.{instructions_are_in_form}
use Rattle.target_laws.proofs.InText.{targets_stay_inside}
use Rattle.target_laws.proofs.Trusts.{trusted_where_read}
use Rattle.run_ahead.specs.Agreeing.{Agree, Changes}
use Rattle.run_ahead.specs.Ahead.{AsTrusted, IsHeld, IsErased, IsCompiled, Ahead}
use Rattle.run_ahead.proofs.Telling.{told_map, told_trusted}

-- ---- a place of a method

-- a path goes on where the instruction leads
pub path_on : {target : Target} {text : Text} (method : Method target text) → IsErased target text → (path : List ℕ) (at to : ℕ) → TargetPath (code_in method) path at
    → IsTrue (target_goes_from (slice_get (code_in method) at) at to) → TargetPath (code_in method) (at ∷ path) to
path_on {target = target} {text = text} method erased path at to leads goes =
    ((goes, targets_stay_inside target text erased.within erased.normal erased.erases method path at to leads goes), leads)

-- what stands at a place of the target, in the source
pub at_place : {target : Target} {text : Text} (method : Method target text) → IsErased target text → (at : ℕ) (t : TargetInstr) → slice_get (code_in method) at ≡ Some t → ErasesAt (code_in method) (source_in method) at (Some t)
at_place method erased at t is = erased_here erased.erases method at t is

-- its registers are of the right kinds
pub kind_right : {target : Target} {text : Text} (method : Method target text) → IsErased target text → (at : ℕ) (i : Instr) → slice_get (code_in method) at ≡ Some (Plain i) → has_wrong_kind text.fields text.roots i ≡ false
kind_right {target = target} {text = text} method erased at i is = (instructions_are_in_form target text erased.normal erased.erases method at i is).kinds

-- what it reads can be trusted
pub trusted_at : {target : Target} {text : Text} (method : Method target text) → IsCompiled target text → (path : List ℕ) (at : ℕ) (i : Instr) (r : Reg) → TargetPath (code_in method) path at
    → slice_get (code_in method) at ≡ Some (Plain i) → IsTrue (reads r i) → trust_along method path r ≡ Trusted
trusted_at {target = target} {text = text} method compiled path at i r leads is read =
    trusted_where_read target text compiled.normal compiled.barred method path at (Plain i) r (record { leads = leads; stands = is }) read

-- and so it holds the same on both sides
pub agrees_at : {target : Target} {text : Text} (method : Method target text) (home : ℕ → ℕ) (calm : Type 0) (path : List ℕ) (core : Spot) (mirror : Registers) (there : Spot) (i : Instr) (r : Reg) → IsCompiled target text
    → slice_get (code_in method) core.at ≡ Some (Plain i) → IsTrue (reads r i) → Ahead method home calm path core mirror there → Agree home core.registers mirror r
agrees_at method home calm path core mirror there i r compiled is read a =
    told_trusted calm (trust_along method path r) (Agree home core.registers mirror r) (trusted_at method compiled path core.at i r a.path_is is read) (a.agree r)

-- ---- registers after an instruction

-- what is told of a register
told_after : (home : ℕ → ℕ) (calm : Type 0) (i : Instr) (given : ℕ) (here mirror here' mirror' : Registers) (r : Reg) (was : Trust)
    → Changes home (AsTrusted calm (trust_in_set i)) (destination i) given here mirror here' mirror' → AsTrusted calm was (Agree home here mirror r)
    → AsTrusted calm (trust_after r (Plain i) was) (Agree home here' mirror' r)
told_after home calm i given here mirror here' mirror' r was changes told = by_set (sets r i) refl
  where
    by_set : (set : Bool) → sets r i ≡ set → AsTrusted calm (if set then trust_in_set i else was) (Agree home here' mirror' r)
    by_set true is = changes.set r is
    by_set false is = told_map calm was (Agree home here mirror r) (Agree home here' mirror' r) (changes.kept r is) told

-- which names trusted registers hold: none that no trusted register held before
held_after : (home : ℕ → ℕ) (calm : Type 0) (i : Instr) (given : ℕ) (here mirror here' mirror' : Registers) (trust : Reg → Trust)
    → Changes home (AsTrusted calm (trust_in_set i)) (destination i) given here mirror here' mirror' → (trust_in_set i ≡ Trusted → IsHeld trust mirror given)
    → (n : ℕ) → IsHeld (λ r. trust_after r (Plain i) (trust r)) mirror' n → IsHeld trust mirror n
held_after home calm i given here mirror here' mirror' trust changes known n (inl null) = inl null
held_after home calm i given here mirror here' mirror' trust changes known n (inr holds) = by_set (sets (Ref holds.0) i) refl holds.1
  where
    by_set : (set : Bool) → sets (Ref holds.0) i ≡ set → (if set then trust_in_set i else trust (Ref holds.0)) ≡ Trusted → IsHeld trust mirror n
    by_set true is trusted = elim (changes.gives holds.0 is) [
      | inl null ↦ inl (sym holds.2 ∙ null)
      | inr given_is ↦ subst (IsHeld trust mirror) (sym given_is ∙ holds.2) (known trusted)
    ]
    by_set false is trusted = inr (holds.0, trusted, sym (changes.leaves holds.0 is) ∙ holds.2)

-- ---- the relation

pub plain_keeps : {target : Target} {text : Text} (method : Method target text) (home : ℕ → ℕ) (calm : Type 0) (path : List ℕ) (core next : Spot) (mirror mirror' : Registers) (there there' : Spot)
    (i : Instr) (given : ℕ) → IsErased target text → slice_get (code_in method) core.at ≡ Some (Plain i) → IsTrue (goes_to i core.at next.at)
    → Changes home (AsTrusted calm (trust_in_set i)) (destination i) given core.registers mirror next.registers mirror'
    → (trust_in_set i ≡ Trusted → IsHeld (trust_along method path) mirror given)
    → Settles (source_in method) (record { at = source_place (code_in method) next.at; registers = mirror' }) there'
    → Ahead method home calm path core mirror there → Ahead method home calm (core.at ∷ path) next mirror' there'
plain_keeps method home calm path core next mirror mirror' there there' i given erased is goes changes known settles a = record {
  path_is = path_on method erased path core.at next.at a.path_is (subst (λ o. IsTrue (target_goes_from o core.at next.at)) (sym is) goes);
  sized = changes.sized;
  agree = λ r. subst (λ o. AsTrusted calm (passed (trust_after r) o (trust_along method path r)) (Agree home next.registers mirror' r)) (sym is)
      (told_after home calm i given core.registers mirror next.registers mirror' r (trust_along method path r) changes (a.agree r));
  apart = λ x y x_held y_held. a.apart x y (held x x_held) (held y y_held);
  settles = settles;
}
  where
    held : (n : ℕ) → IsHeld (trust_along method (core.at ∷ path)) mirror' n → IsHeld (trust_along method path) mirror n
    held n holds = held_after home calm i given core.registers mirror next.registers mirror' (trust_along method path) changes known n
        (subst (λ o. IsHeld (λ r. passed (trust_after r) o (trust_along method path r)) mirror' n) is holds)
