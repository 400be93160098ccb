-- At a `new` the run has made nothing in its cradle: the `new` would have been passed twice.
use Rattle.std.proofs.Common.{ℕ, suc, ◌≡◌, ◌≢◌, ◌==◌, ◌∙◌, ◌||◌, Bool, true, false, List, [], ◌∷◌, Some, arith, ⊎_elim, ap, subst, refl}
use Rattle.std.specs.Prelude.{slice_get}
use Rattle.std.proofs.lemmas.Bool.{cases_eq}
use Rattle.std.proofs.lemmas.Bool.Decides.{nat_tests}
use Rattle.norm_lang.specs.declared.text.Reg.{Reg}
use Rattle.norm_lang.specs.declared.text.Instr.TheVariants as instr
use Rattle.norm_lang.specs.declared.text.Text.{Text}
use Rattle.target_code.specs.declared.target.TargetInstr.TheVariants.{Plain}
use Rattle.target_code.specs.declared.target.Target.{Target}
use Rattle.target_code.specs.Paths.{TargetPath}
use Rattle.source_machine.specs.Proper.{has}
use Rattle.caller_parts.specs.Operands.{is_new_at, cradle_number}
use Rattle.core_runs.proofs.caller_laws.Cradles.{cradle_numbers_apart}
use Rattle.target_laws.specs.Methods.{Method, code_in}
use Rattle.std.specs.List.{Contains}
use Rattle.target_laws.proofs.FreshRules.{new_is_passed_once}
use Rattle.target_laws.specs.target_runs.Sane.{Sane}
use Rattle.run_ahead.specs.Ahead.{IsErased}
use Rattle.oa_simulation.specs.sim_relation.Callers.{HasMade}

-- a name that a list has is one of its items
pub has_contained : (n : ℕ) (ns : List ℕ) → has n ns ≡ true → Contains ns n
has_contained n [] is = absurd (let z : false ≡ true = is in cc)
has_contained n (m ∷ ns) is = of (m == n) refl is (λ h. has_contained n ns h)
  where
    of : (b : Bool) → (m == n) ≡ b → (b || has n ns) ≡ true → (has n ns ≡ true → Contains ns n) → Contains (m ∷ ns) n
    of true same h more = (0, omega arith, grind (arith, nat_tests))
    of false same h more = let rest = more h in (suc rest.0, (let lt = rest.1 in omega (arith, lt)), rest.2)

-- no `new` with its cradle was passed on the way to it
pub new_is_first : {target : Target} {text : Text} (method : Method target text) (path : List ℕ) (at : ℕ) (d : Reg) (kind k : ℕ) → IsErased target text → Sane target → TargetPath (code_in method) path at
    → slice_get (code_in method) at ≡ Some (Plain (instr.New d kind)) → k ≡ cradle_number (code_in method) at → HasMade (code_in method) path k → ⊥
new_is_first {target = target} {text = text} method path at d kind k erased sane leads is number made =
    let new : is_new_at (slice_get (code_in method) at) ≡ true = ap is_new_at is in
    let same : made.0 ≡ at = ⊎_elim
    (λ (e : made.0 ≡ at). e)
    (λ (ne : made.0 ≢ at). absurd (cradle_numbers_apart target method.wrapup (code_in method) made.0 at (sane.method method.number method.wrapup method.compiled method.in_target) made.2 new ne (made.3 ∙ number)))
    (cases_eq made.0 at) in
    (new_is_passed_once target text erased.normal erased.erases method path at d kind (record { leads = leads; stands = is })).1 (subst (λ (i : ℕ). Contains path i) same (has_contained made.0 path made.1))
