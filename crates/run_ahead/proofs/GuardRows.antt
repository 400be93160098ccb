-- Each instruction keeps the guards as their states say.
use Rattle.std.proofs.Common.{◌≡◌, ℕ, zero, suc, ◌⊎◌, inl, inr, Bool, true, false, ◌||◌, List, ◌∷◌, Some, refl, sym, ap, subst, ◌∙◌, arith}
use Rattle.std.specs.Prelude.{slice_get, not, ◌==◌, if◌then◌else◌}
use Rattle.std.proofs.lemmas.Bool.{eqb-true}
use Rattle.std.proofs.lemmas.Bool.Decides.{nat_tests}
use Rattle.norm_lang.specs.declared.text.Reg.{Reg}
use Rattle.norm_lang.specs.declared.text.Reg.TheVariants.{Num, Ref}
use Rattle.norm_lang.specs.declared.text.Instr.{Instr}
use Rattle.norm_lang.specs.declared.text.Text.{Text}
use Rattle.norm_lang.specs.declared.registers.Registers.{Registers}
use Rattle.norm_lang.specs.Flow.{passed}
use Rattle.norm_lang.specs.Grammar.{is_new}
use Rattle.norm_lang.specs.RegisterUse.{sets, destination}
use Rattle.norm_lang.specs.Registers.{node_in}
use Rattle.target_code.specs.declared.target.TargetInstr.{TargetInstr}
use Rattle.target_code.specs.declared.target.TargetInstr.TheVariants.{Plain, Check, Guard}
use Rattle.target_code.specs.declared.target.Target.{Target}
use Rattle.target_code.specs.Flaws.{GuardState, Free, Published, Validated, Dropped, dropped, checked, guard_after}
use Rattle.target_code.specs.Paths.{target_sets}
use Rattle.target_laws.specs.Methods.{Method, code_in}
use Rattle.target_laws.specs.Uses.{guard_along}
use Rattle.run_ahead.specs.Agreeing.{Changes}
use Rattle.run_ahead.specs.Guards.{GuardRow, no_guards, validated, published, guards_after, GuardStands, GuardsStand}

plain_stands : (set made : Bool) (was : GuardState) (registers registers' : Registers) (row : GuardRow) (r : ℕ) → (set ≡ false → node_in registers' r ≡ node_in registers r)
    → GuardStands was registers row r → GuardStands (if set || made then dropped was else was) registers' (if made then no_guards else row) r
plain_stands true made Free registers registers' row r same stands = tt
plain_stands false true Free registers registers' row r same stands = tt
plain_stands false false Published registers registers' row r same stands = stands ∙ sym (same refl)
plain_stands false false Validated registers registers' row r same stands = (stands.0 ∙ sym (same refl), stands.1)
plain_stands _ made _ registers registers' row r same stands = tt

valid_unless_null : (name : ℕ) → (not (name == 0) ≡ true) ⊎ (name ≡ 0)
valid_unless_null zero = inr refl
valid_unless_null (suc n) = let isnt : (suc n == 0) ≡ false = grind (arith, nat_tests) in inl (ap not isnt)

check_stands : (was : GuardState) (registers : Registers) (row : GuardRow) (r : ℕ) → GuardStands was registers row r → GuardStands (checked was) registers (validated row) r
check_stands Free registers row r stands = tt
check_stands Published registers row r stands = (stands, valid_unless_null (row.name r))
check_stands Validated registers row r stands = (stands.0, valid_unless_null (row.name r))
check_stands Dropped registers row r stands = tt

-- another register's guard
other_stands : (was : GuardState) (registers : Registers) (row row' : GuardRow) (r : ℕ) → row'.name r ≡ row.name r → row'.valid r ≡ row.valid r → GuardStands was registers row r → GuardStands was registers row' r
other_stands Free registers row row' r same valid stands = tt
other_stands Published registers row row' r same valid stands = same ∙ stands
other_stands Validated registers row row' r same valid stands = (same ∙ stands.0, elim stands.1 [ inl is ↦ inl (valid ∙ is) | inr null ↦ inr (same ∙ null) ])
other_stands Dropped registers row row' r same valid stands = tt

guard_stands : (was : GuardState) (registers : Registers) (row : GuardRow) (r k : ℕ) → GuardStands was registers row r → GuardStands (if r == k then Published else was) registers (published (Ref k) registers row) r
guard_stands was registers row r k stands = by_same (r == k) refl
  where
    by_same : (b : Bool) → (r == k) ≡ b → GuardStands (if b then Published else was) registers (published (Ref k) registers row) r
    by_same true is = ap (λ b. if b then node_in registers k else row.name r) is ∙ ap (node_in registers) (sym (eqb-true r k is))
    by_same false is = other_stands was registers row (published (Ref k) registers row) r (ap (λ b. if b then node_in registers k else row.name r) is) (ap (λ b. if b then false else row.valid r) is) stands

-- one instruction
pub guards_keep : (t : TargetInstr) (registers registers' : Registers) (row : GuardRow) (r : ℕ) (was : GuardState) → (target_sets (Ref r) t ≡ false → node_in registers' r ≡ node_in registers r)
    → ((a : Reg) → t ≡ Guard a → registers' ≡ registers) → (t ≡ Check → registers' ≡ registers)
    → GuardStands was registers row r → GuardStands (guard_after (Ref r) t was) registers' (guards_after t registers row) r
guards_keep (Plain i) registers registers' row r was same guard check stands = plain_stands (sets (Ref r) i) (is_new i) was registers registers' row r same stands
guards_keep Check registers registers' row r was same guard check stands = subst (λ z. GuardStands (checked was) z (validated row) r) (sym (check refl)) (check_stands was registers row r stands)
guards_keep (Guard (Num k)) registers registers' row r was same guard check stands = subst (λ z. GuardStands was z row r) (sym (guard (Num k) refl)) stands
guards_keep (Guard (Ref k)) registers registers' row r was same guard check stands =
    subst (λ z. GuardStands (if r == k then Published else was) z (published (Ref k) registers row) r) (sym (guard (Ref k) refl)) (guard_stands was registers row r k stands)

-- ---- along a path

guards_on : {target : Target} {text : Text} (method : Method target text) (path : List ℕ) (at : ℕ) (t : TargetInstr) (mirror mirror' : Registers) (row : GuardRow) → slice_get (code_in method) at ≡ Some t
    → ((r : ℕ) → target_sets (Ref r) t ≡ false → node_in mirror' r ≡ node_in mirror r) → ((a : Reg) → t ≡ Guard a → mirror' ≡ mirror) → (t ≡ Check → mirror' ≡ mirror)
    → GuardsStand method path mirror row → GuardsStand method (at ∷ path) mirror' (guards_after t mirror row)
guards_on method path at t mirror mirror' row is same guard check stands r =
    subst (λ o. GuardStands (passed (guard_after (Ref r)) o (guard_along (code_in method) path (Ref r))) mirror' (guards_after t mirror row) r) (sym is)
    (guards_keep t mirror mirror' row r (guard_along (code_in method) path (Ref r)) (same r) guard check (stands r))

-- an instruction of the source
pub plain_guards : {target : Target} {text : Text} (method : Method target text) (home : ℕ → ℕ) (Set : Type 0 → Type 0) (path : List ℕ) (at : ℕ) (i : Instr) (given : ℕ) (here mirror here' mirror' : Registers) (row : GuardRow)
    → slice_get (code_in method) at ≡ Some (Plain i) → Changes home Set (destination i) given here mirror here' mirror'
    → GuardsStand method path mirror row → GuardsStand method (at ∷ path) mirror' (guards_after (Plain i) mirror row)
plain_guards method home Set path at i given here mirror here' mirror' row is changes stands =
    guards_on method path at (Plain i) mirror mirror' row is changes.leaves (λ a same. absurd (let never : Plain i ≡ Guard a = same in cc)) (λ same. absurd (let never : Plain i ≡ Check = same in cc)) stands

-- a check that passed, and a guard
pub check_guards : {target : Target} {text : Text} (method : Method target text) (path : List ℕ) (at : ℕ) (mirror : Registers) (row : GuardRow) → slice_get (code_in method) at ≡ Some Check
    → GuardsStand method path mirror row → GuardsStand method (at ∷ path) mirror (validated row)
check_guards method path at mirror row is stands = guards_on method path at Check mirror mirror row is (λ r unset. refl) (λ a same. refl) (λ same. refl) stands

pub guard_guards : {target : Target} {text : Text} (method : Method target text) (path : List ℕ) (at : ℕ) (guarded : Reg) (mirror : Registers) (row : GuardRow) → slice_get (code_in method) at ≡ Some (Guard guarded)
    → GuardsStand method path mirror row → GuardsStand method (at ∷ path) mirror (published guarded mirror row)
guard_guards method path at guarded mirror row is stands = guards_on method path at (Guard guarded) mirror mirror row is (λ r unset. refl) (λ a same. refl) (λ same. refl) stands
