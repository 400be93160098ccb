-- What a caller may trust of its registers.
use Rattle.std.proofs.Common.{◌≡◌, ℕ, inl, inr, Bool, true, false, ◌||◌, List, [], ◌∷◌, Option, Some, None, refl, sym, ap, subst, ◌∙◌}
use Rattle.std.specs.Prelude.{slice_get, IsTrue, not, if◌then◌else◌}
use Rattle.std.proofs.lemmas.Bool.{or_cases, or_left}
use Rattle.norm_lang.specs.declared.text.Reg.{Reg}
use Rattle.norm_lang.specs.declared.text.Reg.TheVariants.{Num, Ref}
use Rattle.norm_lang.specs.declared.text.Instr.{Instr}
use Rattle.norm_lang.specs.declared.text.Op.{Op}
use Rattle.norm_lang.specs.declared.text.Text.{Text}
use Rattle.norm_lang.specs.Flow.{passed}
use Rattle.norm_lang.specs.Kept.{code_of, IsCarried}
use Rattle.norm_lang.specs.NormalForm.{IsNormal}
use Rattle.norm_lang.specs.RegisterUse.{same_register, set_after, sets, reads, reads_at, ComesUnset}
use Rattle.target_code.specs.declared.target.TargetInstr.{TargetInstr}
use Rattle.target_code.specs.declared.target.TargetInstr.TheVariants.{Plain, Check, Guard}
use Rattle.target_code.specs.declared.target.Target.{Target}
use Rattle.target_code.specs.Barred.{IsBarred}
use Rattle.target_code.specs.Erasing.{source_place, ErasesTo}
use Rattle.target_code.specs.Flaws.{fetches, clean_after, target_commits}
use Rattle.target_code.specs.Keeping.{carries}
use Rattle.target_laws.specs.Methods.{Method, code_in, source_in, generator_of, Arrives}
use Rattle.target_laws.specs.Places.{source_path}
use Rattle.target_code.specs.PathStates.{over_plain, is_set_along}
use Rattle.target_laws.specs.Trusted.{Trusted, Unchecked, confirmed, trust_after, carried_by, carried_in, trust_at_start, trust_along, is_live_along, trust_of, TrustIsKnown, TrustedWhereRead, CarriedAreTrusted}
use Rattle.target_laws.specs.Uses.{is_clean_along}
use Rattle.target_laws.proofs.ErasedPlaces.{erased_here}
use Rattle.target_laws.proofs.InText.{paths_are_in_text, set_in_source}
use Rattle.target_code.proofs.Keeping.{carries_is_carried}
use Rattle.target_laws.proofs.Redirected.{reads_redirected}
use Rattle.target_laws.proofs.SetRules.{stays_set, set_by_start}
use Rattle.target_laws.proofs.Used.{clean_where_used, kept_are_clean}

-- ---- trust, by what is live and clean

confirmed_is : (live clean : Bool) → confirmed (trust_of live clean) ≡ trust_of live true
confirmed_is false clean = refl
confirmed_is true false = refl
confirmed_is true true = refl

trust_step : (r : Reg) (t : TargetInstr) (live clean : Bool) → trust_after r t (trust_of live clean) ≡ trust_of (over_plain (set_after r) t live) (clean_after r t clean)
trust_step r (Plain i) live clean = by_set (sets r i) (fetches i)
  where
    by_set : (set new : Bool) → (if set then (if new then Unchecked else Trusted) else trust_of live clean) ≡ trust_of (set || live) (if set then not new else clean)
    by_set true true = refl
    by_set true false = refl
    by_set false new = refl
trust_step r Check live clean = confirmed_is live clean
trust_step r (Guard a) live clean = refl

start_is : (carried : Bool) → trust_at_start carried ≡ trust_of carried true
start_is true = refl
start_is false = refl

pub trust_is_known : TrustIsKnown
trust_is_known target text method [] r = start_is (carried_in method r)
trust_is_known target text method (last ∷ path) r = by_option (slice_get (code_in method) last) (trust_is_known target text method path r)
  where
    by_option : (o : Option TargetInstr) → trust_along method path r ≡ trust_of (is_live_along method path r) (is_clean_along (code_in method) path r)
        → passed (trust_after r) o (trust_along method path r) ≡ trust_of (passed (over_plain (set_after r)) o (is_live_along method path r)) (passed (clean_after r) o (is_clean_along (code_in method) path r))
    by_option None was = was
    by_option (Some t) was = ap (trust_after r t) was ∙ trust_step r t (is_live_along method path r) (is_clean_along (code_in method) path r)

trusted_from : {target : Target} {text : Text} (method : Method target text) (path : List ℕ) (r : Reg) → is_live_along method path r ≡ true → is_clean_along (code_in method) path r ≡ true → trust_along method path r ≡ Trusted
trusted_from {target = target} {text = text} method path r live clean =
    trust_is_known target text method path r ∙ (ap (λ b. trust_of b (is_clean_along (code_in method) path r)) live ∙ ap (trust_of true) clean)

-- ---- what is read is live

-- a register is read after a path that doesn't set it
abbrev IsReadUnset : Bool → Op → Reg → Type 0
IsReadUnset wrapup op r = (at : ℕ) × IsTrue (reads_at r (slice_get (code_of op wrapup) at)) × ComesUnset (code_of op wrapup) r at

-- so it is carried over
carried_if_read : (wrapup : Bool) (op : Op) (r : Reg) → IsReadUnset wrapup op r → carried_by wrapup op r ≡ true
carried_if_read false op r unset = refl
carried_if_read true op r unset = or_left (carries op r) (same_register r (Num 7)) ((carries_is_carried op r).1 unset)

-- what is read at a place of the target and wasn't set on the path is so in the text
read_unset : {target : Target} {text : Text} → IsNormal text → ErasesTo target text → (method : Method target text) (path : List ℕ) (at : ℕ) (i : Instr) (r : Reg) → Arrives method path at (Plain i)
    → IsTrue (reads r i) → is_set_along (code_in method) path r false ≡ false → IsReadUnset method.wrapup method.op r
read_unset {target = target} {text = text} normal erases method path at i r came read unset =
    let place = source_place (code_in method) in
    let here : IsTrue (reads_at r (slice_get (source_in method) (place at))) = subst (λ o. IsTrue (reads_at r o)) (sym (erased_here erases method at (Plain i) came.stands).0) (reads_redirected r place i ∙ read) in
    (place at, here, (source_path (code_in method) path, paths_are_in_text target text normal erases method path at came.leads, set_in_source erases method path r false ∙ unset))

pub trusted_where_read : TrustedWhereRead
trusted_where_read target text normal barred method path at Check r came read = absurd (let no : false ≡ true = read in cc)
trusted_where_read target text normal barred method path at (Guard a) r came read = absurd (let no : false ≡ true = read in cc)
trusted_where_read target text normal barred method path at (Plain i) r came read =
    trusted_from method path r
    (set_by_start r (code_in method) path (carried_in method r) (λ unset. carried_if_read method.wrapup method.op r (read_unset normal barred.erases method path at i r came read unset)))
    (clean_where_used target text barred method path at (Plain i) r came (inl read))

-- ---- what is carried over

carried_is_clean : {target : Target} {text : Text} → IsBarred target text → (method : Method target text) (path : List ℕ) (at : ℕ) (t : TargetInstr) (r : Reg) → Arrives method path at t → IsTrue (target_commits t)
    → IsCarried method.op r → same_register r (Num 7) ≡ false → is_clean_along (code_in method) path r ≡ true
carried_is_clean {target = target} {text = text} barred method path at t (Num k) came commits carried other = clean_where_used target text barred method path at t (Num k) came (inr (commits, (ap not other, carried)))
carried_is_clean {target = target} {text = text} barred method path at t (Ref k) came commits carried other = kept_are_clean target text barred method path at t (Ref k) came commits (refl, carried)

-- what a wrap-up carries over, but for n7, is what it may read before it sets it
is_carried : (op : Op) (r : Reg) → IsTrue (carried_by true op r) → same_register r (Num 7) ≡ false → IsCarried op r
is_carried op r carried other = elim (or_cases (carries op r) (same_register r (Num 7)) carried) [
  | inl read ↦ (carries_is_carried op r).0 read
  | inr count ↦ absurd (let no : false ≡ true = sym other ∙ count in cc)
]

pub carried_are_trusted : CarriedAreTrusted
carried_are_trusted target text barred method path at t r came commits carried other =
    let generator = generator_of method in
    trusted_from generator path r (stays_set r (code_in generator) path) (carried_is_clean barred generator path at t r came commits (is_carried method.op r carried other) other)
