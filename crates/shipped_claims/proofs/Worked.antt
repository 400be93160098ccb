-- Two wrong wrap-ups: no sentence that holds at their start if an exchange has succeeded holds all the way.
use Rattle.std.proofs.Common.{ℕ, List, [], ◌∷◌, refl, arith}
use Rattle.norm_lang.specs.declared.text.Reg.TheVariants.{Num, Ref}
use Rattle.norm_lang.specs.declared.text.Instr.TheVariants as instr
use Rattle.norm_lang.specs.declared.registers.Registers.{Registers}
use Rattle.norm_lang.specs.Registers.{first_registers, with_number}
use Rattle.norm_lang.specs.Shipped.{root_entry, next_field, tail_root}
use Rattle.target_code.specs.declared.target.TargetInstr.{TargetInstr}
use Rattle.target_code.specs.declared.target.TargetInstr.TheVariants.{Plain, Check, Guard}
use Rattle.caller_parts.specs.Operands.{with_word}
use Rattle.shipped_claims.proofs.Settled.{Begins, CodeCarries}
use Rattle.shipped_claims.proofs.WrapUps.{change_code}

-- an insert of which one exchange has succeeded, with the answer 1
abbrev linked : Registers
linked = with_number (with_number (first_registers []) (Num 2) 1) (Num 7) 1

abbrev tested : Registers
tested = with_number linked (Num 3) 0

-- a set whose wrap-up begins again after the node went in
set_again_fails : (Holds : ℕ → Registers → Type 0) → Begins Holds → CodeCarries Holds (change_code instr.Again (instr.Return (Num 3))) → ⊥
set_again_fails Holds begins carries =
    let at_start : Holds 0 linked = begins linked (omega arith) in
    let past_set : Holds 1 tested = carries 0 linked at_start (record { at = 1; registers = tested }) refl in
    let past_answer : Holds 2 tested = carries 1 tested past_set (record { at = 2; registers = tested }) refl in
    let past_count : Holds 3 tested = carries 2 tested past_answer (record { at = 3; registers = tested }) refl in
    carries 3 tested past_count

-- a queue whose `enqueue` begins again if another caller has helped tail on
abbrev hasty_code : List TargetInstr
hasty_code =
    Plain (instr.Set (Num 1) 0)
    ∷ Plain (instr.IfEq (Num 7) (Num 1) 9)
    ∷ Plain (instr.LoadRoot (Ref 0) tail_root)
    ∷ Check
    ∷ Plain (instr.LoadField (Ref 1) (Ref 0) next_field)
    ∷ Guard (Ref 0)
    ∷ Check
    ∷ Plain (instr.Cas (root_entry tail_root (Ref 0) (Ref 1)) 9)
    ∷ Plain (instr.Return (Num 0))
    ∷ Plain instr.Again
    ∷ []

queue_again_fails : (Holds : ℕ → Registers → Type 0) → Begins Holds → CodeCarries Holds hasty_code → ⊥
queue_again_fails Holds begins carries =
    let zeroed : Registers = with_number linked (Num 1) 0 in
    let at_tail : Registers = with_word zeroed (Ref 0) 2 in
    let at_next : Registers = with_word at_tail (Ref 1) 4 in
    let at_start : Holds 0 linked = begins linked (omega arith) in
    let past_set : Holds 1 zeroed = carries 0 linked at_start (record { at = 1; registers = zeroed }) refl in
    let past_count : Holds 2 zeroed = carries 1 zeroed past_set (record { at = 2; registers = zeroed }) refl in
    let past_root : Holds 3 at_tail = carries 2 zeroed past_count 2 in
    let past_check : Holds 4 at_tail = carries 3 at_tail past_root in
    let past_field : Holds 5 at_next = carries 4 at_tail past_check 4 in
    let past_guard : Holds 6 at_next = carries 5 at_next past_field in
    let past_other : Holds 7 at_next = carries 6 at_next past_guard in
    let past_failure : Holds 9 at_next = (carries 7 at_next past_other).1 in
    carries 9 at_next past_failure
