-- Wrap-ups that begin again only if no exchange has succeeded: those that change the structure, and those that only answer.
use Rattle.std.proofs.Common.{◌≡◌, ◌≢◌, ℕ, zero, suc, ◌≤◌, Bool, true, false, List, [], ◌∷◌, set, get_or, get_or-set_other, Some, refl, sym, subst, arith, if◌then◌else◌}
use Rattle.std.proofs.lemmas.Bool.{eqb-true}
use Rattle.norm_lang.specs.declared.text.Reg.TheVariants.{Num}
use Rattle.norm_lang.specs.declared.text.Instr.{Instr}
use Rattle.norm_lang.specs.declared.text.Instr.TheVariants as instr
use Rattle.norm_lang.specs.declared.registers.Registers.{Registers}
use Rattle.norm_lang.specs.Registers.{number_in, with_number, are_equal}
use Rattle.norm_lang.specs.Local.{Spot}
use Rattle.target_code.specs.declared.target.TargetInstr.{TargetInstr}
use Rattle.target_code.specs.declared.target.TargetInstr.TheVariants.{Plain}
use Rattle.shipped_claims.proofs.Settled.{PlainCarries, CodeCarries}

-- one local step leads to one place, with these registers
pub carried_to : (Holds : ℕ → Registers → Type 0) (at : ℕ) (registers : Registers) (next : Spot) → Holds at registers → Some (record { at = at; registers = registers }) ≡ Some next → Holds next.at next.registers
carried_to Holds at registers next holds is = let same : record { at = at; registers = registers } ≡ next = cc in subst (λ (s : Spot). Holds s.at s.registers) same holds

zeroed_there : (numbers : List ℕ) (r : ℕ) → get_or (set numbers r 0) r 0 ≡ 0
zeroed_there (n ∷ numbers) (suc r) = zeroed_there numbers r
zeroed_there _ _ = refl

-- some exchange has succeeded
abbrev pub SomeMade : Registers → Type 0
SomeMade registers = 1 ≤ number_in registers (Num 7)

-- and a register holds 0
abbrev pub WithZero : ℕ → Registers → Type 0
WithZero r registers = SomeMade registers × (number_in registers (Num r) ≡ 0)

pub set_zero : (r : ℕ) (registers : Registers) → 7 ≢ r → SomeMade registers → WithZero r (with_number registers (Num r) 0)
set_zero r registers other some = (subst (λ (n : ℕ). 1 ≤ n) (sym (get_or-set_other registers.numbers r 7 0 0 other)) some, zeroed_there registers.numbers r)

-- then the test of the count by that register doesn't lead away
pub none_made : (r : ℕ) (registers : Registers) (b : Bool) → WithZero r registers → are_equal registers (Num 7) (Num r) ≡ b → b ≡ false
none_made r registers false holds is = refl
none_made r registers true holds is =
    let same : number_in registers (Num 7) ≡ number_in registers (Num r) = eqb-true (number_in registers (Num 7)) (number_in registers (Num r)) is in
    let some = holds.0 in
    let null = holds.1 in
    absurd (omega (arith, some, null, same))

-- ---- a wrap-up that changes the structure

-- the answer is in n2; 0 is put in n3, a reply of 0 or nothing follows at 4, and `again` stands at 5
abbrev pub change_code : Instr → Instr → List TargetInstr
change_code given none =
    Plain (instr.Set (Num 3) 0)
    ∷ Plain (instr.IfEq (Num 2) (Num 3) 4)
    ∷ Plain (instr.IfEq (Num 7) (Num 3) 5)
    ∷ Plain given
    ∷ Plain none
    ∷ Plain instr.Again
    ∷ []

abbrev pub ChangeHolds : ℕ → Registers → Type 0
ChangeHolds zero registers = SomeMade registers
ChangeHolds (suc zero) registers = WithZero 3 registers
ChangeHolds (suc (suc zero)) registers = WithZero 3 registers
ChangeHolds (suc (suc (suc zero))) registers = Unit {0}
ChangeHolds (suc (suc (suc (suc zero)))) registers = Unit {0}
ChangeHolds (suc (suc (suc (suc (suc n))))) registers = ⊥

pub change_carries : (given none : Instr) → ((registers : Registers) → PlainCarries ChangeHolds 3 registers given) → ((registers : Registers) → PlainCarries ChangeHolds 4 registers none)
    → CodeCarries ChangeHolds (change_code given none)
change_carries given none gives nothing zero registers holds = λ next is. carried_to ChangeHolds 1 (with_number registers (Num 3) 0) next (set_zero 3 registers (λ z. omega (arith, z)) holds) is
change_carries given none gives nothing (suc zero) registers holds = λ next is. of (are_equal registers (Num 2) (Num 3)) next is where
  of : (b : Bool) (next : Spot) → Some (record { at = if b then 4 else 2; registers = registers }) ≡ Some next → ChangeHolds next.at next.registers
  of true next is = carried_to ChangeHolds 4 registers next tt is
  of false next is = carried_to ChangeHolds 2 registers next holds is
change_carries given none gives nothing (suc (suc zero)) registers holds = λ next is. of (are_equal registers (Num 7) (Num 3)) refl next is where
  of : (b : Bool) → are_equal registers (Num 7) (Num 3) ≡ b → (next : Spot) → Some (record { at = if b then 5 else 3; registers = registers }) ≡ Some next → ChangeHolds next.at next.registers
  of true same next is = absurd (let z : true ≡ false = none_made 3 registers true holds same in cc)
  of false same next is = carried_to ChangeHolds 3 registers next tt is
change_carries given none gives nothing (suc (suc (suc zero))) registers holds = gives registers
change_carries given none gives nothing (suc (suc (suc (suc zero)))) registers holds = nothing registers
change_carries given none gives nothing (suc (suc (suc (suc (suc n))))) registers holds = absurd holds

-- ---- a wrap-up that only answers

abbrev pub AnswerHolds : ℕ → Registers → Type 0
AnswerHolds at registers = Unit {0}

pub answer_carries : CodeCarries AnswerHolds (Plain (instr.Return (Num 2)) ∷ [])
answer_carries zero registers holds = λ next is. tt
answer_carries (suc at) registers holds = tt

pub nothing_carries : CodeCarries AnswerHolds []
nothing_carries at registers holds = tt
