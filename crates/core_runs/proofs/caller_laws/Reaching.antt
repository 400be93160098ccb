-- The run of a method comes from an instruction to its successor, and what is surely fresh there isn't null.
use Rattle.std.proofs.Common.{◌≡◌, ◌≢◌, ℕ, ◌<◌, ◌==◌, Bool, true, false, List, [], ◌∷◌, length, Option, Some, refl, sym, ◌∙◌, subst, ap, arith, if◌then◌else◌}
use Rattle.std.specs.Prelude.{slice_get, IfSome}
use Rattle.std.specs.List.{list_any}
use Rattle.std.proofs.lemmas.Bool.Decides.{nat_tests}
use Rattle.norm_lang.specs.declared.text.Reg.{Reg}
use Rattle.norm_lang.specs.declared.text.Reg.TheVariants.{Num, Ref}
use Rattle.norm_lang.specs.declared.text.Instr.{Instr}
use Rattle.norm_lang.specs.declared.text.Instr.TheVariants as instr
use Rattle.norm_lang.specs.declared.registers.Reference.{Reference}
use Rattle.norm_lang.specs.declared.registers.Registers.{Registers}
use Rattle.norm_lang.specs.Registers.{no_reference, number_in, reference_in, with_number, with_reference, moved}
use Rattle.norm_lang.specs.Grammar.{is_new}
use Rattle.norm_lang.specs.Flow.{passed, state_along}
use Rattle.norm_lang.specs.RegisterUse.{same_register, sets}
use Rattle.norm_lang.specs.Local.{Spot, local_step}
use Rattle.target_code.specs.declared.target.TargetInstr.{TargetInstr}
use Rattle.target_code.specs.declared.target.TargetInstr.TheVariants.{Plain}
use Rattle.target_code.specs.Paths.{IsTargetSuccessor, TargetPath, target_goes_from, target_sets}
use Rattle.target_code.specs.TargetLimits.{is_target_new}
use Rattle.norm_lang.specs.Freshness.{fresh_after}
use Rattle.target_code.specs.PathStates.{over_plain, IsSurelyFreshInTarget}
use Rattle.caller_steps.specs.Belongs.{HasComeTo}
use Rattle.core_runs.proofs.caller_laws.Named.{set_misses}

different : (a b : ℕ) → (a == b) ≡ false → a ≢ b
different a b isnt is = let e : (a == b) ≡ true = grind (arith, nat_tests) in let z : false ≡ true = sym isnt ∙ e in cc

-- a register that isn't set keeps what it holds
pub other_number : (registers : Registers) (d : Reg) (n r : ℕ) → reference_in (with_number registers d n) (Ref r) ≡ reference_in registers (Ref r)
other_number registers (Num d) n r = refl
other_number registers (Ref d) n r = refl

pub other_reference : (registers : Registers) (d : Reg) (v : Reference) (r : ℕ) → same_register (Ref r) d ≡ false
    → reference_in (with_reference registers d v) (Ref r) ≡ reference_in registers (Ref r)
other_reference registers (Num d) v r isnt = refl
other_reference registers (Ref d) v r isnt = set_misses registers.references d v no_reference r (different r d isnt)

pub other_moved : (registers : Registers) (d a : Reg) (r : ℕ) → same_register (Ref r) d ≡ false
    → reference_in (moved registers d a) (Ref r) ≡ reference_in registers (Ref r)
other_moved registers d (Num a) r isnt = other_number registers d (number_in registers (Num a)) r
other_moved registers d (Ref a) r isnt = other_reference registers d (reference_in registers (Ref a)) r isnt

abbrev Untouched : Registers → Instr → Registers → Type 0
Untouched registers i after = (r : ℕ) → sets (Ref r) i ≡ false → reference_in after (Ref r) ≡ reference_in registers (Ref r)

-- a local instruction touches the register that it sets alone
pub local_touches : (i : Instr) (at : ℕ) (registers : Registers) → IfSome (local_step i at registers) (λ (spot : Spot). Untouched registers i spot.registers)
local_touches (instr.Set d n) at registers = λ r isnt. other_number registers d n r
local_touches (instr.Mov d a) at registers = λ r isnt. other_moved registers d a r isnt
local_touches (instr.Add d a b) at registers = λ r isnt. other_number registers d _ r
local_touches (instr.Sub d a b) at registers = λ r isnt. other_number registers d _ r
local_touches (instr.Rem d a n) at registers = λ r isnt. other_number registers d _ r
local_touches (instr.Mark d a) at registers = λ r isnt. other_reference registers d _ r isnt
local_touches (instr.Unmark d a) at registers = λ r isnt. other_reference registers d _ r isnt
local_touches (instr.Null d) at registers = λ r isnt. other_reference registers d no_reference r isnt
local_touches (instr.Jump l) at registers = λ r isnt. refl
local_touches (instr.IfEq a b l) at registers = λ r isnt. refl
local_touches (instr.IfLess a b l) at registers = λ r isnt. refl
local_touches (instr.IfMarked a l) at registers = λ r isnt. refl
local_touches _ at registers = tt

-- a number is its own equal
itself : (n : ℕ) → (n == n) ≡ true
itself n = grind (arith, nat_tests)

pub one_way : (to : ℕ) → list_any (λ (next : ℕ). next == to) (to ∷ []) ≡ true
one_way to = rw (itself to) refl

-- a local instruction is no `new`
pub local_isnt_new : (i : Instr) (at : ℕ) (registers : Registers) (next : Spot) → local_step i at registers ≡ Some next → is_new i ≡ false
local_isnt_new (instr.New d kind) at registers next steps = absurd cc
local_isnt_new _ at registers next steps = refl

-- whether the last instruction that set a register is a `new`, by what an instruction does
pub fresh_by : (r : Reg) (i : TargetInstr) (was : Bool) → over_plain (fresh_after r) i was ≡ (if target_sets r i then is_target_new i else was)
fresh_by r (Plain i) was = refl
fresh_by r _ was = refl

-- the method's start
pub start_reached : (code : List TargetInstr) (registers : Registers) → 0 < length code → HasComeTo code 0 registers
start_reached code registers lt = record {
  inside = lt;
  path = ([], refl);
  fresh = λ r surely. absurd (let e : false ≡ true = surely [] refl in cc);
}

-- what an instruction leaves: the register that a `new` set isn't null, and one that isn't set is as it was
pub record Leaves (i : TargetInstr) (registers after : Registers) : Type 0 where
  pub made : (r : ℕ) → target_sets (Ref r) i ≡ true → is_target_new i ≡ true → (reference_in after (Ref r)).node ≢ 0
  pub kept : (r : ℕ) → target_sets (Ref r) i ≡ false → reference_in after (Ref r) ≡ reference_in registers (Ref r)

else_of : (s n was : Bool) → s ≡ false → (if s then n else was) ≡ true → was ≡ true
else_of true n was is holds = absurd (let e : true ≡ false = is in cc)
else_of false n was is holds = holds

then_of : (s n was : Bool) → s ≡ true → (if s then n else was) ≡ true → n ≡ true
then_of true n was is holds = holds
then_of false n was is holds = absurd (let e : false ≡ true = is in cc)

-- on to a successor
pub next_reached : (code : List TargetInstr) (at to : ℕ) (i : TargetInstr) (registers after : Registers) → slice_get code at ≡ Some i
    → target_goes_from (Some i) at to ≡ true → to < length code → HasComeTo code at registers → Leaves i registers after → HasComeTo code to after
next_reached code at to i registers after stands goes lt reached leaves = record {
  inside = lt;
  path = (at ∷ path, (way, reached.path.1));
  fresh = λ r surely. of r surely (target_sets (Ref r) i) refl (is_target_new i) refl;
} where
  path : List ℕ
  path = reached.path.0

  way : IsTargetSuccessor code at to
  way = (rw stands goes, lt)

  along : (r : ℕ) → IsSurelyFreshInTarget code (Ref r) to → (p : List ℕ) → TargetPath code p at → (if target_sets (Ref r) i then is_target_new i else state_along (over_plain (fresh_after (Ref r))) false code p) ≡ true
  along r surely p leads =
      let was = state_along (over_plain (fresh_after (Ref r))) false code p in
      sym (fresh_by (Ref r) i was) ∙ subst (λ (o : Option TargetInstr). passed (over_plain (fresh_after (Ref r))) o was ≡ true) stands (surely (at ∷ p) (way, leads))

  of : (r : ℕ) → IsSurelyFreshInTarget code (Ref r) to → (s : Bool) → target_sets (Ref r) i ≡ s → (n : Bool) → is_target_new i ≡ n → (reference_in after (Ref r)).node ≢ 0
  of r surely true wrote true new = leaves.made r wrote new
  of r surely true wrote false new = absurd (let e : false ≡ true = sym new ∙ then_of (target_sets (Ref r) i) (is_target_new i) (state_along (over_plain (fresh_after (Ref r))) false code path) wrote (along r surely path reached.path.1) in cc)
  of r surely false wrote n new = λ null. reached.fresh r (λ p leads. else_of (target_sets (Ref r) i) (is_target_new i) (state_along (over_plain (fresh_after (Ref r))) false code p) wrote (along r surely p leads)) (ap (λ (v : Reference). v.node) (sym (leaves.kept r wrote)) ∙ null)
