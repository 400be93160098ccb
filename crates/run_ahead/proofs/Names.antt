-- Which names a passed check speaks of, and the guards that a wrap-up keeps.
use Rattle.std.proofs.Common.{◌≡◌, ℕ, zero, suc, ◌⊎◌, inl, inr, Bool, true, false, List, Some, refl, sym, ap, subst, ◌∙◌, arith}
use Rattle.std.specs.Prelude.{slice_get, IsTrue, not, ◌==◌, if◌then◌else◌}
use Rattle.std.proofs.lemmas.Bool.{or_cases}
use Rattle.std.proofs.lemmas.Bool.Decides.{nat_tests}
use Rattle.norm_lang.specs.declared.text.Reg.{Reg}
use Rattle.norm_lang.specs.declared.text.Reg.TheVariants.{Num, Ref}
use Rattle.norm_lang.specs.declared.text.Instr.{Instr}
use Rattle.norm_lang.specs.declared.text.Instr.TheVariants as instr
use Rattle.norm_lang.specs.declared.text.Op.{Op}
use Rattle.norm_lang.specs.declared.text.Text.{Text}
use Rattle.norm_lang.specs.Grammar.{is_new}
use Rattle.norm_lang.specs.Kept.{IsKept}
use Rattle.norm_lang.specs.NormalForm.{N3}
use Rattle.norm_lang.specs.Registers.{node_in}
use Rattle.target_code.specs.declared.target.TargetInstr.TheVariants.{Plain, Check, Guard}
use Rattle.target_code.specs.declared.target.Target.{Target}
use Rattle.target_code.specs.Keeping.{carries}
use Rattle.target_code.proofs.Keeping.{carries_is_carried}
use Rattle.target_laws.specs.Methods.{Method, code_in}
use Rattle.target_code.specs.PathStates.{is_set_along}
use Rattle.target_laws.specs.Trusted.{Spoilt, carried_by, carried_in, trust_of, trust_along}
use Rattle.target_laws.specs.Uses.{is_clean_along}
use Rattle.target_laws.proofs.TextRules.{keeps_at}
use Rattle.target_laws.proofs.Trusts.{trust_is_known}
use Rattle.target_laws.proofs.Used.{kept_are_not_guarded}
use Rattle.run_ahead.specs.Ahead.{IsErased, erasing}
use Rattle.run_ahead.specs.Guards.{no_guards}
use Rattle.run_ahead.specs.Known.{IsGot, is_set_in, IsNameKept}
use Rattle.run_ahead.specs.NameLaws.{StartsGetNothing, HopedAreKnown, KeptGuardsStay}
use Rattle.run_ahead.proofs.Getting.{start_got}

pub starts_get_nothing : StartsGetNothing
starts_get_nothing target text method started = start_got method started

-- ---- what a passed check speaks of

-- a register that isn't carried over and wasn't set stays spoilt
spoilt_stays : {target : Target} {text : Text} (method : Method target text) (path : List ℕ) (r : Reg) → carried_in method r ≡ false → is_set_along (code_in method) path r false ≡ false → trust_along method path r ≡ Spoilt
spoilt_stays {target = target} {text = text} method path r carried unset =
    trust_is_known target text method path r
    ∙ ap (λ live. trust_of live (is_clean_along (code_in method) path r)) (ap (λ was. is_set_along (code_in method) path r was) carried ∙ unset)

carried_kept : (wrapup : Bool) (op : Op) (r : ℕ) → wrapup ≡ true → carried_by wrapup op (Ref r) ≡ true → IsKept op (Ref r)
carried_kept true op r is carried = (refl, elim (or_cases (carries op (Ref r)) false carried) [ inl read ↦ (carries_is_carried op (Ref r)).0 read | inr other ↦ absurd (let never : false ≡ true = other in cc) ])
carried_kept false op r is carried = absurd (let no : false ≡ true = is in cc)

pub hoped_are_known : HopedAreKnown
hoped_are_known target text method path started mirror got null a n (inl zero_is) = inl (inl zero_is)
hoped_are_known target text method path started mirror got null a n (inr hopes) = by_set (is_set_in method path hopes.0) refl
  where
    by_carried : (b : Bool) → carried_in method (Ref hopes.0) ≡ b → (wrapup : Bool) → method.wrapup ≡ wrapup → is_set_in method path hopes.0 ≡ false → IsGot got n ⊎ IsNameKept method started mirror n
    by_carried false carried wrapup is unset = absurd (hopes.1 (spoilt_stays method path (Ref hopes.0) carried unset))
    by_carried true carried false is unset = inl (inl (sym hopes.2 ∙ (a.unset hopes.0 unset ∙ null is hopes.0)))
    by_carried true carried true is unset = inr (is, (hopes.0, carried_kept method.wrapup method.op hopes.0 is carried, hopes.2, sym (a.unset hopes.0 unset) ∙ hopes.2))

    by_set : (b : Bool) → is_set_in method path hopes.0 ≡ b → IsGot got n ⊎ IsNameKept method started mirror n
    by_set true was = inl (subst (IsGot got) hopes.2 (a.set hopes.0 was))
    by_set false was = by_carried (carried_in method (Ref hopes.0)) refl method.wrapup refl was

-- ---- a wrap-up's kept guards

no_new : {target : Target} {text : Text} (method : Method target text) → IsErased target text → IsTrue method.wrapup → (at : ℕ) (i : Instr) → slice_get (code_in method) at ≡ Some (Plain i) → is_new i ≡ false
no_new method erased wrapup at (instr.New d kind) is = absurd (keeps_at erased.normal erased.erases method N3 at (instr.New d kind) is (inl wrapup))
no_new method erased wrapup at _ is = refl

valid_still : (name : ℕ) (valid : Bool) → (valid ≡ true) ⊎ (name ≡ 0) → (not (name == 0) ≡ true) ⊎ (name ≡ 0)
valid_still zero valid was = inr refl
valid_still (suc n) valid was = let isnt : (suc n == 0) ≡ false = grind (arith, nat_tests) in inl (ap not isnt)

pub kept_guards_stay : KeptGuardsStay
kept_guards_stay target text compiled method wrapup r kept at (Plain i) registers row is valid =
    let old : is_new i ≡ false = no_new method (erasing compiled) wrapup at i is in
    subst (λ b. ((if b then no_guards else row).name r ≡ row.name r) × (((if b then no_guards else row).valid r ≡ true) ⊎ (row.name r ≡ 0))) (sym old) (refl, valid)
kept_guards_stay target text compiled method wrapup r kept at Check registers row is valid = (refl, valid_still (row.name r) (row.valid r) valid)
kept_guards_stay target text compiled method wrapup r kept at (Guard (Num k)) registers row is valid = (refl, valid)
kept_guards_stay target text compiled method wrapup r kept at (Guard (Ref k)) registers row is valid = by_same (r == k) refl
  where
    by_same : (b : Bool) → (r == k) ≡ b → ((if b then node_in registers k else row.name r) ≡ row.name r) × (((if b then false else row.valid r) ≡ true) ⊎ (row.name r ≡ 0))
    by_same true same = absurd (kept_are_not_guarded target text compiled.barred method at (Ref k) (Ref r) wrapup is same kept)
    by_same false same = (refl, valid)
