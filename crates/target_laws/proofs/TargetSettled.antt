-- Local code of a target settles: a cycle of it would be one of the text's.
use Rattle.std.proofs.Common.{◌≡◌, ℕ, zero, suc, ◌<◌, ◌≤◌, ◌⊎◌, inl, inr, false, List, [], ◌∷◌, ◌++◌, map, length, Option, Some, None, refl, sym, ap, subst, ◌∙◌}
use Rattle.std.specs.Prelude.{slice_get, IsTrue, IsSomeAnd}
use Rattle.std.proofs.lemmas.Bool.{cases_lt}
use Rattle.std.proofs.lemmas.Option.{slice_get_past}
use Rattle.norm_lang.specs.declared.text.Instr.{Instr}
use Rattle.norm_lang.specs.declared.text.Text.{Text}
use Rattle.norm_lang.specs.declared.registers.Registers.{Registers}
use Rattle.norm_lang.specs.Local.{Spot, go_on}
use Rattle.norm_lang.specs.Flow.{Leads, goes_to, goes_from}
use Rattle.norm_lang.specs.NormalForm.{IsNormal}
use Rattle.norm_lang.specs.PathRules.{looks, looks_at}
use Rattle.target_laws.specs.local_laws.Settling.{run_by, HasNoBlindCycle, StaysInside, rests, goes_on}
use Rattle.target_laws.proofs.local_laws.Bounded.{StepsAcyclic, settles_by, settles_once, settled}
use Rattle.target_laws.proofs.local_laws.Inside.{there_is, stops_there, own_end}
use Rattle.target_laws.proofs.local_laws.Settled.{step_goes, no_blind_cycle, GoesBlindly, blind_way}
use Rattle.target_code.specs.declared.target.TargetInstr.{TargetInstr}
use Rattle.target_code.specs.declared.target.TargetInstr.TheVariants.{Plain, Check, Guard}
use Rattle.target_code.specs.declared.target.Target.{Target}
use Rattle.target_code.specs.Paths.{target_goes_from, TargetPath}
use Rattle.target_code.specs.Erasing.{source_place, redirected, ErasesTo}
use Rattle.target_laws.specs.Methods.{Method, code_in, source_in}
use Rattle.target_laws.specs.Places.{ErasesAt, ErasesByPlaces}
use Rattle.target_laws.specs.LocalCode.{TargetSettles, target_may_stop, TargetCodeSettles, TargetSettlesOnce, TargetSettlesInside, TargetPathsLeadOn}
use Rattle.target_code.specs.LocalCode.{target_local_at, target_next_spot, target_run}
use Rattle.target_laws.proofs.ErasedPlaces.{targets_erase_by_places, sources_are_inside, erased_here}
use Rattle.target_laws.proofs.InText.{source_stays}
use Rattle.target_laws.proofs.Redirected.{looks_redirected, end_redirected}
use Rattle.target_laws.proofs.SourcePaths.{source_goes}

-- ---- within a bound

-- control goes on by a plain instruction that doesn't look
abbrev pub GoesLocally : List TargetInstr → ℕ → ℕ → Type 0
GoesLocally code at to = (i : Instr) × (slice_get code at ≡ Some (Plain i)) × IsTrue (goes_to i at to) × (looks i ≡ false)

-- a local way of the target is a blind way of the source
source_way : (code : List TargetInstr) (source : List Instr) → ErasesByPlaces code source → StaysInside source → (start to : ℕ) (path : List ℕ) → Leads (GoesLocally code) start path to
    → Leads (GoesBlindly source) (source_place code start) (map (source_place code) path) (source_place code to)
source_way code source erases inside start to [] leads = ap (source_place code) leads
source_way code source erases inside start to (last ∷ path) leads =
    let place = source_place code in
    let i = leads.0.0 in
    let here : ErasesAt code source last (Some (Plain i)) = subst (ErasesAt code source last) leads.0.1 (erases last) in
    let goes : IsTrue (goes_to (redirected place i) (place last) (place to)) = source_goes place i last to here.1 leads.0.2 in (
      (
        (subst (λ o. IsTrue (goes_from o (place last) (place to))) (sym here.0) goes, inside (place last) (place to) (redirected place i) here.0 goes),
        ap looks_at here.0 ∙ (looks_redirected place i ∙ leads.0.3),
      ),
      source_way code source erases inside start last path leads.1,
    )

step_locally : (o : Option TargetInstr) (here next : Spot) → target_local_at o here.at here.registers ≡ Some next → (i : Instr) × (o ≡ Some (Plain i)) × IsTrue (goes_to i here.at next.at) × (looks i ≡ false)
step_locally None here next is = absurd (let no : None ≡ Some next = is in cc)
step_locally (Some Check) here next is = absurd (let no : None ≡ Some next = is in cc)
step_locally (Some (Guard r)) here next is = absurd (let no : None ≡ Some next = is in cc)
step_locally (Some (Plain i)) here next is = let goes = step_goes i here.at here.registers next is in (i, refl, goes.0, goes.1)

within : (code : List TargetInstr) (here next : Spot) → target_next_spot code here ≡ Some next → (here.at < length code) ⊎ (length code ≤ here.at) → here.at < length code
within code here next is (inl lt) = lt
within code here next is (inr past) =
    absurd (let none : target_next_spot code here ≡ None = ap (λ i. target_local_at i here.at here.registers) (slice_get_past code here.at past) in let no : None ≡ Some next = sym none ∙ is in cc)

steps_acyclic : (code : List TargetInstr) (source : List Instr) → ErasesByPlaces code source → StaysInside source → HasNoBlindCycle source → StepsAcyclic (target_next_spot code) (length code) (GoesLocally code)
steps_acyclic code source erases inside free = record {
  inside = λ here next is. within code here next is (cases_lt here.at (length code));
  follows = λ here next is lt. step_locally (slice_get code here.at) here next is;
  acyclic = λ at last path leads. (let way = blind_way source (source_place code at) (source_place code at) (map (source_place code) (last ∷ path)) (source_way code source erases inside at at (last ∷ path) leads) in
      free (source_place code at) (map (source_place code) (last ∷ path)) way.0 way.1);
}

-- local code is run by its steps
pub target_run_is : (code : List TargetInstr) (n : ℕ) (here : Spot) → target_run code n here ≡ run_by (target_next_spot code) n here
target_run_is code zero here = refl
target_run_is code (suc n) here = by_next (target_next_spot code here) (target_run_is code n)
  where
    by_next : (o : Option Spot) → ((next : Spot) → target_run code n next ≡ run_by (target_next_spot code) n next) → go_on o here (target_run code n) ≡ go_on o here (run_by (target_next_spot code) n)
    by_next None rest = refl
    by_next (Some next) rest = rest next

pub target_code_settles : TargetCodeSettles
target_code_settles target text normal erases method here =
    subst (λ (there : Spot). TargetSettles (code_in method) here there) (sym (target_run_is (code_in method) (length (code_in method)) here))
    (settles_by (target_next_spot (code_in method)) (length (code_in method)) (GoesLocally (code_in method))
    (steps_acyclic (code_in method) (source_in method) (targets_erase_by_places target text erases method) (source_stays normal method) (no_blind_cycle text method.number method.op method.wrapup normal method.in_text)) here)

pub target_settles_at_one : TargetSettlesOnce
target_settles_at_one code here one other = settles_once (target_next_spot code) here one other

-- ---- at an instruction

-- a plain instruction goes on inside the method, even if no path leads to it
plain_inside : {target : Target} {text : Text} → IsNormal text → ErasesTo target text → (method : Method target text) (at to : ℕ) (i : Instr) → slice_get (code_in method) at ≡ Some (Plain i)
    → IsTrue (goes_to i at to) → to < length (code_in method)
plain_inside {target = target} {text = text} normal erases method at to i is goes =
    let place = source_place (code_in method) in
    let here : ErasesAt (code_in method) (source_in method) at (Some (Plain i)) = erased_here erases method at (Plain i) is in
    sources_are_inside target text erases method to
    (source_stays normal method (place at) (place to) (redirected place i) here.0 (source_goes place i at to here.1 goes))

stays_below : {target : Target} {text : Text} → IsNormal text → ErasesTo target text → (method : Method target text) (here there : Spot) → here.at < length (code_in method)
    → TargetSettles (code_in method) here there → there.at < length (code_in method)
stays_below normal erases method here there lt (rests _ none) = lt
stays_below normal erases method here there lt (goes_on _ next _ is rest) =
    let local = step_locally (slice_get (code_in method) here.at) here next is in
    stays_below normal erases method next there (plain_inside normal erases method here.at next.at local.0 local.1 local.2) rest

stops_at : {target : Target} {text : Text} → IsNormal text → ErasesTo target text → (method : Method target text) (at : ℕ) (registers : Registers) (t : TargetInstr) → slice_get (code_in method) at ≡ Some t
    → target_local_at (Some t) at registers ≡ None → IsTrue (target_may_stop method.wrapup t)
stops_at normal erases method at registers Check is none = refl
stops_at normal erases method at registers (Guard r) is none = refl
stops_at {text = text} normal erases method at registers (Plain i) is none =
    stops_there method.wrapup i at registers none
    (sym (end_redirected method.wrapup (source_place (code_in method)) i)
    ∙ own_end text method.number method.op method.wrapup (source_place (code_in method) at) (redirected (source_place (code_in method)) i) normal method.in_text
    (erased_here erases method at (Plain i) is).0)

pub target_settles_inside : TargetSettlesInside
target_settles_inside target text normal erases method here there lt settles =
    let found = there_is (code_in method) there.at (stays_below normal erases method here there lt settles) in
    let none : target_local_at (Some found.0) there.at there.registers ≡ None =
    subst (λ o. target_local_at o there.at there.registers ≡ None) found.1 (settled (target_next_spot (code_in method)) here there settles) in
    subst (λ o. IsSomeAnd o (λ i. IsTrue (target_may_stop method.wrapup i))) (sym found.1) (stops_at normal erases method there.at there.registers found.0 found.1 none)

-- ---- on a path

joined : (xs : List ℕ) (x : ℕ) (ys : List ℕ) → (xs ++ (x ∷ [])) ++ ys ≡ xs ++ (x ∷ ys)
joined [] x ys = refl
joined (first ∷ xs) x ys = ap (λ rest. first ∷ rest) (joined xs x ys)

pub target_paths_lead_on : TargetPathsLeadOn
target_paths_lead_on target text normal erases method here there path leads (rests _ none) = ([], leads)
target_paths_lead_on target text normal erases method here there path leads (goes_on _ next _ is rest) =
    let code = code_in method in
    let local = step_locally (slice_get code here.at) here next is in
    let goes : IsTrue (target_goes_from (slice_get code here.at) here.at next.at) = subst (λ o. IsTrue (target_goes_from o here.at next.at)) (sym local.1) local.2 in
    let inside = plain_inside normal erases method here.at next.at local.0 local.1 local.2 in
    let more = target_paths_lead_on target text normal erases method next there (here.at ∷ path) ((goes, inside), leads) rest in
    (more.0 ++ (here.at ∷ []), subst (λ (whole : List ℕ). TargetPath code whole there.at) (sym (joined more.0 here.at path)) more.1)
