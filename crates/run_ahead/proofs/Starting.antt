-- The registers with which methods begin: a generator's arguments, and a wrap-up's, carried over from the commit.
use Rattle.std.proofs.Common.{◌≡◌, ℕ, zero, suc, inl, inr, Bool, true, false, List, [], replicate, get_or, Some, refl, sym, ap, ◌∙◌}
use Rattle.std.specs.Prelude.{slice_get, IsTrue}
use Rattle.std.proofs.lemmas.Option.{unwrap_or-slice_get}
use Rattle.norm_lang.specs.declared.text.Reg.{Reg}
use Rattle.norm_lang.specs.declared.text.Reg.TheVariants.{Num, Ref}
use Rattle.norm_lang.specs.declared.text.CasEntry.{CasEntry}
use Rattle.norm_lang.specs.declared.text.Instr.TheVariants as instr
use Rattle.norm_lang.specs.declared.text.Text.{Text}
use Rattle.norm_lang.specs.declared.registers.Registers.{Registers}
use Rattle.norm_lang.specs.Local.{Spot}
use Rattle.norm_lang.specs.NormalForm.{IsNormal}
use Rattle.norm_lang.specs.Registers.{no_reference, first_registers, with_count, reference_in, node_in}
use Rattle.norm_lang.specs.RegisterUse.{same_register}
use Rattle.target_laws.proofs.local_laws.Settled.{local_code_settles}
use Rattle.target_code.specs.declared.target.TargetInstr.TheVariants.{Plain}
use Rattle.target_code.specs.declared.target.Target.{Target}
use Rattle.target_laws.specs.Methods.{Method, code_in, generator_of, wrapup_of}
use Rattle.target_laws.specs.Trusted.{Trusted, Spoilt, trust_at_start, trust_along, carried_in}
use Rattle.target_laws.proofs.Trusts.{carried_are_trusted}
use Rattle.run_ahead.specs.Agreeing.{Agree, Changes}
use Rattle.run_ahead.specs.Ahead.{AsTrusted, IsHeld, IsCompiled, IsStart, Ahead}
use Rattle.run_ahead.specs.Standing.{first_spot, run_from}
use Rattle.run_ahead.proofs.Changing.{number_changes, put_same}
use Rattle.run_ahead.proofs.Telling.{told_trusted}

-- ---- any method

told_at_start : (calm : Type 0) (carried : Bool) (A : Type 0) → (IsTrue carried → A) → AsTrusted calm (trust_at_start carried) A
told_at_start calm true A known = known refl
told_at_start calm false A known = tt

pub start_keeps : {target : Target} {text : Text} (method : Method target text) (home : ℕ → ℕ) (calm : Type 0) (first started : Registers) → IsNormal text → IsStart method home first started
    → Ahead method home calm [] (first_spot first) started (run_from method.op method.wrapup (first_spot started))
start_keeps {text = text} method home calm first started normal starts = record {
  path_is = refl;
  sized = starts.sized;
  apart = starts.apart;
  agree = λ r. told_at_start calm (carried_in method r) (Agree home first started r) (starts.agree r);
  settles = local_code_settles text method.number method.op method.wrapup normal method.in_text (first_spot started);
}

-- ---- a generator

pub null_at : (args : List ℕ) (r : ℕ) → reference_in (first_registers args) (Ref r) ≡ no_reference
null_at args r = unwrap_or-slice_get (replicate 8 no_reference) r no_reference ∙ nulls 8 r
  where
    nulls : (n k : ℕ) → get_or (replicate n no_reference) k no_reference ≡ no_reference
    nulls zero k = refl
    nulls (suc n) zero = refl
    nulls (suc n) (suc k) = nulls n k

-- it begins with no name
pub first_is_blank : (args : List ℕ) (r : ℕ) → node_in (first_registers args) r ≡ 0
first_is_blank args r = ap (λ z. z.node) (null_at args r)

pub generator_start : {target : Target} {text : Text} (method : Method target text) (home : ℕ → ℕ) (args : List ℕ) → home 0 ≡ 0 → IsStart (generator_of method) home (first_registers args) (first_registers args)
generator_start method home args null = record { sized = (refl, refl); agree = λ r carried. agree r; apart = λ x y one other same. nothing x one ∙ sym (nothing y other) }
  where
    agree : (r : Reg) → Agree home (first_registers args) (first_registers args) r
    agree (Num r) = refl
    agree (Ref r) = (ap (λ z. z.node) (null_at args r) ∙ (sym null ∙ ap (λ z. home z.node) (sym (null_at args r))), refl)

    nothing : (n : ℕ) → IsHeld (λ r. Trusted) (first_registers args) n → n ≡ 0
    nothing n (inl zero_is) = zero_is
    nothing n (inr holds) = sym holds.2 ∙ first_is_blank args holds.0

-- ---- a wrap-up

started_is : (b : Bool) → trust_at_start b ≡ Trusted → b ≡ true
started_is true is = refl
started_is false is = absurd (let no : Spoilt ≡ Trusted = is in cc)

-- a wrap-up begins with the registers of the commit and the count, on both sides
pub wrapup_start : {target : Target} {text : Text} (method : Method target text) (home : ℕ → ℕ) (calm : Type 0) (path : List ℕ) (core : Spot) (mirror : Registers) (there : Spot) (entries : List CasEntry) (made : ℕ)
    → IsCompiled target text → slice_get (code_in (generator_of method)) core.at ≡ Some (Plain (instr.Commit entries)) → Ahead (generator_of method) home calm path core mirror there
    → IsStart (wrapup_of method) home (with_count core.registers made) (with_count mirror made)
wrapup_start {target = target} {text = text} method home calm path core mirror there entries made compiled is a =
    record { sized = changes.sized; agree = λ r carried. by_count r carried (same_register r (Num 7)) refl; apart = λ x y one other. a.apart x y (held x one) (held y other) }
  where
    changes : Changes home (λ A. A) (Some (Num 7)) 0 core.registers mirror (with_count core.registers made) (with_count mirror made)
    changes = number_changes home (λ A. A) core.registers mirror 7 made made a.sized (put_same core.registers mirror 7 made made a.sized refl)

    trusted : (r : Reg) → same_register r (Num 7) ≡ false → IsTrue (carried_in (wrapup_of method) r) → trust_along (generator_of method) path r ≡ Trusted
    trusted r other carried = carried_are_trusted target text compiled.barred method path core.at (Plain (instr.Commit entries)) r (record { leads = a.path_is; stands = is }) refl carried other

    by_count : (r : Reg) → IsTrue (carried_in (wrapup_of method) r) → (b : Bool) → same_register r (Num 7) ≡ b → Agree home (with_count core.registers made) (with_count mirror made) r
    by_count r carried true count = changes.set r count
    by_count r carried false other = changes.kept r other (told_trusted calm (trust_along (generator_of method) path r) (Agree home core.registers mirror r) (trusted r other carried) (a.agree r))

    held : (n : ℕ) → IsHeld (λ r. trust_at_start (carried_in (wrapup_of method) r)) (with_count mirror made) n → IsHeld (trust_along (generator_of method) path) mirror n
    held n (inl zero_is) = inl zero_is
    held n (inr holds) = inr (holds.0, trusted (Ref holds.0) refl (started_is _ holds.1), holds.2)
