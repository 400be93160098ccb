-- Local code without blind cycles settles: a place passed twice would lie on one.
use Rattle.std.proofs.Common.{◌≡◌, ℕ, zero, suc, ◌+◌, ◌<◌, ◌≤◌, ◌⊎◌, inl, inr, Bool, true, false, List, [], ◌∷◌, length, Option, Some, None, refl, sym, ap, subst, ◌∙◌, arith}
use Rattle.std.specs.Prelude.{slice_get, IsTrue, IsSomeAnd, not, if◌then◌else◌, ◌==◌, ◌||◌, nat_lt}
use Rattle.std.proofs.lemmas.Bool.{cases_lt, and_from}
use Rattle.std.proofs.lemmas.Bool.Decides.{nat_tests}
use Rattle.std.proofs.lemmas.Option.{slice_get_past}
use Rattle.norm_lang.specs.declared.text.Instr.{Instr}
use Rattle.norm_lang.specs.declared.text.Instr.TheVariants as instr
use Rattle.norm_lang.specs.declared.text.Op.{Op}
use Rattle.norm_lang.specs.declared.text.Text.{Text}
use Rattle.norm_lang.specs.declared.registers.Registers.{Registers}
use Rattle.norm_lang.specs.Registers.{are_equal, number_in, reference_in}
use Rattle.norm_lang.specs.Local.{Spot, goes, local_step, local_at, local_run, go_on}
use Rattle.norm_lang.specs.Flow.{Leads, goes_to, goes_from, IsSuccessor}
use Rattle.norm_lang.specs.PathRules.{looks, looks_at, is_blind}
use Rattle.norm_lang.specs.Kept.{code_of}
use Rattle.norm_lang.specs.NormalForm.{Rule, N7, BreaksRule, IsNormal}
use Rattle.target_laws.specs.local_laws.Settling.{next_spot, run_by, Settles, HasNoBlindCycle, MethodsHaveNoBlindCycle, CodeSettles, LocalCodeSettles, SettlesOnce}
use Rattle.target_laws.proofs.local_laws.Bounded.{StepsAcyclic, settles_by, settles_once}

-- ---- one instruction

-- a choice of two places is one of them
chosen : (b : Bool) (l at to : ℕ) → (if b then l else at + 1) ≡ to → ((((at + 1) == to) || ((l == to) || false)) ≡ true)
chosen true l at to is = grind (arith, nat_tests, is)
chosen false l at to is = grind (arith, nat_tests, is)

ahead : (at to : ℕ) → at + 1 ≡ to → (((at + 1) == to) || false) ≡ true
ahead at to is = grind (arith, nat_tests, is)

spot_at : (at : ℕ) (registers : Registers) (next : Spot) → goes at registers ≡ Some next → at ≡ next.at
spot_at at registers next is = ap place is
  where
    place : Option Spot → ℕ
    place None = at
    place (Some spot) = spot.at

-- a local instruction goes on to a successor by its form, and isn't one that looks
pub step_goes : (i : Instr) (at : ℕ) (registers : Registers) (next : Spot) → local_step i at registers ≡ Some next → IsTrue (goes_to i at next.at) × (looks i ≡ false)
step_goes (instr.Set d n) at registers next is = (ahead at next.at (spot_at _ _ next is), refl)
step_goes (instr.Mov d a) at registers next is = (ahead at next.at (spot_at _ _ next is), refl)
step_goes (instr.Add d a b) at registers next is = (ahead at next.at (spot_at _ _ next is), refl)
step_goes (instr.Sub d a b) at registers next is = (ahead at next.at (spot_at _ _ next is), refl)
step_goes (instr.Rem d a n) at registers next is = (ahead at next.at (spot_at _ _ next is), refl)
step_goes (instr.Null d) at registers next is = (ahead at next.at (spot_at _ _ next is), refl)
step_goes (instr.Mark d a) at registers next is = (ahead at next.at (spot_at _ _ next is), refl)
step_goes (instr.Unmark d a) at registers next is = (ahead at next.at (spot_at _ _ next is), refl)
step_goes (instr.Jump l) at registers next is = let e : l ≡ next.at = spot_at _ _ next is in (grind (arith, nat_tests, e), refl)
step_goes (instr.IfEq a b l) at registers next is = (chosen (are_equal registers a b) l at next.at (spot_at _ _ next is), refl)
step_goes (instr.IfLess a b l) at registers next is = (chosen (nat_lt (number_in registers a) (number_in registers b)) l at next.at (spot_at _ _ next is), refl)
step_goes (instr.IfMarked a l) at registers next is = (chosen (reference_in registers a).marked l at next.at (spot_at _ _ next is), refl)
step_goes _ at registers next is = absurd cc

pub next_goes : (i : Option Instr) (at : ℕ) (registers : Registers) (next : Spot) → local_at i at registers ≡ Some next → IsTrue (goes_from i at next.at) × (looks_at i ≡ false)
next_goes None at registers next is = absurd cc
next_goes (Some i) at registers next is = step_goes i at registers next is

-- ---- the bound is enough

-- control goes on blindly: by an instruction that doesn't look
abbrev pub GoesBlindly : List Instr → ℕ → ℕ → Type 0
GoesBlindly code at to = IsSuccessor code at to × (looks_at (slice_get code at) ≡ false)

-- a blind way is a path that is blind
pub blind_way : (code : List Instr) (start to : ℕ) (path : List ℕ) → Leads (GoesBlindly code) start path to → Leads (IsSuccessor code) start path to × IsTrue (is_blind code path)
blind_way code start to [] leads = (leads, refl)
blind_way code start to (last ∷ path) leads = let before = blind_way code start last path leads.1 in ((leads.0.0, before.0), and_from _ _ (ap not leads.0.1) before.1)

within : (code : List Instr) (here next : Spot) → next_spot code here ≡ Some next → (here.at < length code) ⊎ (length code ≤ here.at) → here.at < length code
within code here next is (inl lt) = lt
within code here next is (inr past) = absurd (let none : next_spot code here ≡ None = ap (λ i. local_at i here.at here.registers) (slice_get_past code here.at past) in let no : None ≡ Some next = sym none ∙ is in cc)

steps_acyclic : (code : List Instr) → HasNoBlindCycle code → StepsAcyclic (next_spot code) (length code) (GoesBlindly code)
steps_acyclic code free = record {
  inside = λ here next is. within code here next is (cases_lt here.at (length code));
  follows = λ here next is lt. (let goes = next_goes (slice_get code here.at) here.at here.registers next is in ((goes.0, lt), goes.1));
  acyclic = λ at last path leads. (let way = blind_way code at at (last ∷ path) leads in free at (last ∷ path) way.0 way.1);
}

-- local code is run by its steps
pub local_run_is : (code : List Instr) (n : ℕ) (here : Spot) → local_run code n here ≡ run_by (next_spot code) n here
local_run_is code zero here = refl
local_run_is code (suc n) here = by_next (next_spot code here) (local_run_is code n)
  where
    by_next : (o : Option Spot) → ((next : Spot) → local_run code n next ≡ run_by (next_spot code) n next) → go_on o here (local_run code n) ≡ go_on o here (run_by (next_spot code) n)
    by_next None rest = refl
    by_next (Some next) rest = rest next

-- the bound is the method's length
pub settles : CodeSettles
settles code free here = subst (λ (there : Spot). Settles code here there) (sym (local_run_is code (length code) here)) (settles_by (next_spot code) (length code) (GoesBlindly code) (steps_acyclic code free) here)

-- ---- texts in normal form

-- a rule that a text keeps, at one of its instructions
pub keeps_rule : (text : Text) (rule : Rule) (number : ℕ) (op : Op) (wrapup : Bool) (at : ℕ) (i : Instr) → IsNormal text → slice_get text.ops number ≡ Some op → slice_get (code_of op wrapup) at ≡ Some i
    → BreaksRule rule text op wrapup at i → ⊥
keeps_rule text rule number op wrapup at i normal is there breaks =
    normal (record { rule = rule; op = number; wrapup = wrapup; at = at })
    (subst (λ o. IsSomeAnd o (λ op. IsSomeAnd (slice_get (code_of op wrapup) at) (λ i. BreaksRule rule text op wrapup at i))) (sym is)
    (subst (λ o. IsSomeAnd o (λ i. BreaksRule rule text op wrapup at i)) (sym there) breaks))

-- a path of a step or more begins at an instruction
first_there : (code : List Instr) (at last : ℕ) (path : List ℕ) (to : ℕ) → Leads (IsSuccessor code) at (last ∷ path) to → (i : Instr) × (slice_get code at ≡ Some i)
first_there code at last [] to leads = by_option (slice_get code last) refl leads.0.0
  where
    by_option : (o : Option Instr) → slice_get code last ≡ o → IsTrue (goes_from o last to) → (i : Instr) × (slice_get code at ≡ Some i)
    by_option None is goes = absurd cc
    by_option (Some i) is goes = (i, ap (slice_get code) (sym leads.1) ∙ is)
first_there code at last (before ∷ path) to leads = first_there code at before path last leads.1

-- N7, for a whole method
pub no_blind_cycle : MethodsHaveNoBlindCycle
no_blind_cycle text number op wrapup normal is at [] cycle blind = cycle
no_blind_cycle text number op wrapup normal is at (last ∷ path) cycle blind =
    let first = first_there (code_of op wrapup) at last path at cycle in
    keeps_rule text N7 number op wrapup at first.0 normal is first.1 (last ∷ path, cycle, blind)

pub local_code_settles : LocalCodeSettles
local_code_settles text number op wrapup normal is here = settles (code_of op wrapup) (no_blind_cycle text number op wrapup normal is) here

pub settles_at_one : SettlesOnce
settles_at_one code here one other = settles_once (next_spot code) here one other
