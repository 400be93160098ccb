-- What the absence of flaws says at the end of a path.
use Rattle.std.proofs.Common.{◌≡◌, ℕ, inl, inr, Bool, true, false, ◌||◌, List, [], ◌∷◌, Option, Some, None, refl, sym, subst}
use Rattle.std.specs.Prelude.{slice_get, IsSomeAnd, not, if◌then◌else◌}
use Rattle.norm_lang.specs.declared.text.Reg.{Reg}
use Rattle.norm_lang.specs.declared.text.Text.{Text}
use Rattle.norm_lang.specs.Grammar.{is_new}
use Rattle.norm_lang.specs.Flow.{passed}
use Rattle.norm_lang.specs.RegisterUse.{same_register, sets}
use Rattle.target_code.specs.declared.target.TargetInstr.{TargetInstr}
use Rattle.target_code.specs.declared.target.TargetInstr.TheVariants.{Plain, Check, Guard}
use Rattle.target_code.specs.declared.target.Target.{Target}
use Rattle.target_code.specs.Paths.{target_code_of}
use Rattle.target_code.specs.Flaws.{fetches, clean_after, GuardState, Free, Published, Validated, Dropped, dropped, guard_after}
use Rattle.target_code.specs.Barred.{FlawKind, UncheckedUse, Unguarded, GuardAfterCheck, GuardDropped, IsFlawed, IsFlawless}
use Rattle.target_laws.specs.Methods.{Method, code_in}
use Rattle.target_laws.specs.Uses.{is_clean_along, guard_along, CleanWhereUsed, ValidatedWhereNeeded, ValidatedAreClean, KeptAreClean, KeptAreNotGuarded}

-- ---- no flaw, at one instruction

-- an instruction of the target has no flaw of a kind
pub has_none : {target : Target} {text : Text} (method : Method target text) → IsFlawless target text → (kind : FlawKind) (at : ℕ) (t : TargetInstr) → slice_get (code_in method) at ≡ Some t
    → IsFlawed kind method.op method.wrapup (code_in method) at t → ⊥
has_none {target = target} {text = text} method flawless kind at t is flawed = flawless (record { kind = kind; op = method.number; wrapup = method.wrapup; at = at })
    (subst (λ o. IsSomeAnd o (λ source. IsSomeAnd (slice_get target.ops method.number) (λ op. IsSomeAnd (slice_get (target_code_of op method.wrapup) at) (λ i. IsFlawed kind source method.wrapup (target_code_of op method.wrapup) at i)))) (sym method.in_text)
    (subst (λ o. IsSomeAnd o (λ op. IsSomeAnd (slice_get (target_code_of op method.wrapup) at) (λ i. IsFlawed kind method.op method.wrapup (target_code_of op method.wrapup) at i))) (sym method.in_target)
    (subst (λ o. IsSomeAnd o (λ i. IsFlawed kind method.op method.wrapup (code_in method) at i)) (sym is) flawed)))

-- what is used is clean, on the path that was taken
pub clean_where_used : CleanWhereUsed
clean_where_used target text barred method path at t r came uses = by_state (is_clean_along (code_in method) path r) refl
  where
    by_state : (state : Bool) → is_clean_along (code_in method) path r ≡ state → state ≡ true
    by_state true comes = refl
    by_state false comes = absurd (has_none method barred.flawless UncheckedUse at t came.stands (r, uses, (path, came.leads, comes)))

-- and what needs a guard has one that is validated
pub validated_where_needed : ValidatedWhereNeeded
validated_where_needed target text barred method path at t r came needs = by_state (guard_along (code_in method) path r) refl
  where
    by_state : (state : GuardState) → guard_along (code_in method) path r ≡ state → state ≡ Validated
    by_state Free comes = absurd (has_none method barred.flawless Unguarded at t came.stands (r, needs, (path, came.leads, comes)))
    by_state Published comes = absurd (has_none method barred.flawless GuardAfterCheck at t came.stands (r, needs, (path, came.leads, comes)))
    by_state Validated comes = refl
    by_state Dropped comes = absurd (has_none method barred.flawless GuardDropped at t came.stands (inl (r, needs, (path, came.leads, comes))))

-- ---- a validated register is clean

abbrev CleanIfValidated : GuardState → Bool → Type 0
CleanIfValidated Validated clean = clean ≡ true
CleanIfValidated _ clean = Unit {0}

clean_step : (r : Reg) (t : TargetInstr) (guard : GuardState) (clean : Bool) → CleanIfValidated guard clean → CleanIfValidated (guard_after r t guard) (clean_after r t clean)
clean_step r (Plain i) guard clean was = by_set (sets r i) (is_new i) guard was
  where
    by_set : (set made : Bool) (guard : GuardState) → CleanIfValidated guard clean → CleanIfValidated (if set || made then dropped guard else guard) (if set then not (fetches i) else clean)
    by_set true made Free was = tt
    by_set true made Published was = tt
    by_set true made Validated was = tt
    by_set true made Dropped was = tt
    by_set false true Free was = tt
    by_set false true Published was = tt
    by_set false true Validated was = tt
    by_set false true Dropped was = tt
    by_set false false guard was = was
clean_step r Check Free clean was = tt
clean_step r Check Published clean was = refl
clean_step r Check Validated clean was = refl
clean_step r Check Dropped clean was = tt
clean_step r (Guard a) guard clean was = by_same (same_register r a) guard was
  where
    by_same : (same : Bool) (guard : GuardState) → CleanIfValidated guard clean → CleanIfValidated (if same then Published else guard) clean
    by_same true guard was = tt
    by_same false guard was = was

clean_if_validated : (r : Reg) (code : List TargetInstr) (path : List ℕ) → CleanIfValidated (guard_along code path r) (is_clean_along code path r)
clean_if_validated r code [] = tt
clean_if_validated r code (last ∷ path) = by_option (slice_get code last) (clean_if_validated r code path)
  where
    by_option : (o : Option TargetInstr) → CleanIfValidated (guard_along code path r) (is_clean_along code path r)
        → CleanIfValidated (passed (guard_after r) o (guard_along code path r)) (passed (clean_after r) o (is_clean_along code path r))
    by_option None was = was
    by_option (Some t) was = clean_step r t _ _ was

pub validated_are_clean : ValidatedAreClean
validated_are_clean code path r is = subst (λ g. CleanIfValidated g (is_clean_along code path r)) is (clean_if_validated r code path)

-- ---- kept registers

pub kept_are_clean : KeptAreClean
kept_are_clean target text barred method path at t r came commits kept = validated_are_clean (code_in method) path r (validated_where_needed target text barred method path at t r came (inr (commits, kept)))

pub kept_are_not_guarded : KeptAreNotGuarded
kept_are_not_guarded target text barred method at guarded r wrapup is same kept = has_none method barred.flawless GuardDropped at (Guard guarded) is (inr (wrapup, (r, same, kept)))
