-- The queue: only `enqueue` has a `new`, and no wrap-up begins again after an exchange has succeeded.
use Rattle.std.proofs.Common.{◌≡◌, ℕ, zero, suc, ◌<◌, Bool, true, false, List, [], ◌∷◌, Some, refl, sym, subst, arith, if◌then◌else◌}
use Rattle.std.specs.Prelude.{slice_get, codes}
use Rattle.norm_lang.specs.declared.text.Reg.TheVariants.{Num, Ref}
use Rattle.norm_lang.specs.declared.text.Instr.TheVariants as instr
use Rattle.norm_lang.specs.declared.registers.Registers.{Registers}
use Rattle.norm_lang.specs.Registers.{no_reference, with_number, with_reference, are_equal}
use Rattle.norm_lang.specs.Local.{Spot}
use Rattle.norm_lang.specs.Shipped.{queue_text, root_entry, next_field, tail_root}
use Rattle.target_code.specs.declared.target.TargetInstr.{TargetInstr}
use Rattle.target_code.specs.declared.target.TargetInstr.TheVariants.{Plain, Check, Guard}
use Rattle.target_code.specs.declared.target.Target.{Target}
use Rattle.target_code.specs.Bare.{bare}
use Rattle.target_code.specs.SecondScheme.{second_scheme}
use Rattle.caller_parts.specs.Operands.{code_at}
use Rattle.claim_laws.specs.Publishing.{news_of}
use Rattle.shipped_claims.specs.NeverFull.{has_name}
use Rattle.shipped_claims.proofs.Settled.{CodeCarries, Begins}
use Rattle.shipped_claims.proofs.WrapUps.{carried_to, SomeMade, WithZero, set_zero, none_made, change_code, ChangeHolds, change_carries, AnswerHolds, nothing_carries}

abbrev queue_target : Target
queue_target = second_scheme queue_text

-- ---- what each operation has

pub queue_news : (op : ℕ) → news_of (slice_get queue_target.ops op) ≡ (if has_name (codes "enqueue") (slice_get queue_target.ops op) then 1 else 0)
queue_news (suc zero) = refl
queue_news _ = refl

-- ---- their wrap-ups

-- that of `enqueue`, which begins again at 13
abbrev enqueue_code : List TargetInstr
enqueue_code =
    Plain (instr.Set (Num 1) 0)
    ∷ Plain (instr.IfEq (Num 7) (Num 1) 13)
    ∷ Plain (instr.LoadRoot (Ref 0) tail_root)
    ∷ Check
    ∷ Plain (instr.LoadField (Ref 1) (Ref 0) next_field)
    ∷ Plain (instr.Null (Ref 2))
    ∷ Check
    ∷ Plain (instr.IfEq (Ref 1) (Ref 2) 12)
    ∷ Guard (Ref 0)
    ∷ Guard (Ref 1)
    ∷ Check
    ∷ Plain (instr.Cas (root_entry tail_root (Ref 0) (Ref 1)) 12)
    ∷ Plain (instr.Return (Num 0))
    ∷ Plain instr.Again
    ∷ []

enqueue_is : code_at queue_target 0 true ≡ enqueue_code
enqueue_is = refl

dequeue_is : code_at queue_target 1 true ≡ change_code (instr.Return (Num 1)) instr.ReturnNone
dequeue_is = refl

-- past the test of the count, before 13
abbrev pub EnqueueHolds : ℕ → Registers → Type 0
EnqueueHolds zero registers = SomeMade registers
EnqueueHolds (suc zero) registers = WithZero 1 registers
EnqueueHolds (suc (suc n)) registers = n < 11

enqueue_carries : CodeCarries EnqueueHolds enqueue_code
enqueue_carries zero registers holds = λ next is. carried_to EnqueueHolds 1 (with_number registers (Num 1) 0) next (set_zero 1 registers (λ z. omega (arith, z)) holds) is
enqueue_carries (suc zero) registers holds = λ next is. of (are_equal registers (Num 7) (Num 1)) refl next is where
  of : (b : Bool) → are_equal registers (Num 7) (Num 1) ≡ b → (next : Spot) → Some (record { at = if b then 13 else 2; registers = registers }) ≡ Some next → EnqueueHolds next.at next.registers
  of true same next is = absurd (let z : true ≡ false = none_made 1 registers true holds same in cc)
  of false same next is = carried_to EnqueueHolds 2 registers next (omega arith) is
enqueue_carries (suc (suc zero)) registers holds = λ word. omega arith
enqueue_carries (suc (suc (suc (suc zero)))) registers holds = λ word. omega arith
enqueue_carries (suc (suc (suc (suc (suc zero))))) registers holds = λ next is. carried_to EnqueueHolds 6 (with_reference registers (Ref 2) no_reference) next (omega arith) is
enqueue_carries (suc (suc (suc (suc (suc (suc (suc zero))))))) registers holds = λ next is. of (are_equal registers (Ref 1) (Ref 2)) next is where
  of : (b : Bool) (next : Spot) → Some (record { at = if b then 12 else 8; registers = registers }) ≡ Some next → EnqueueHolds next.at next.registers
  of true next is = carried_to EnqueueHolds 12 registers next (omega arith) is
  of false next is = carried_to EnqueueHolds 8 registers next (omega arith) is
enqueue_carries (suc (suc (suc (suc (suc (suc (suc (suc (suc (suc (suc zero))))))))))) registers holds = (omega arith, omega arith)
enqueue_carries (suc (suc (suc (suc (suc (suc (suc (suc (suc (suc (suc (suc zero)))))))))))) registers holds = λ next is. absurd cc
enqueue_carries (suc (suc (suc (suc (suc (suc (suc (suc (suc (suc (suc (suc (suc n))))))))))))) registers holds = absurd (omega (arith, holds))
enqueue_carries _ registers holds = omega arith

abbrev pub QueueHolds : ℕ → ℕ → Registers → Type 0
QueueHolds zero = EnqueueHolds
QueueHolds (suc zero) = ChangeHolds
QueueHolds (suc (suc op)) = AnswerHolds

pub queue_begins : (op : ℕ) → Begins (QueueHolds op)
queue_begins (suc (suc op)) registers some = tt
queue_begins _ registers some = some

pub queue_carries : (op : ℕ) → CodeCarries (QueueHolds op) (code_at queue_target op true)
queue_carries zero = subst (CodeCarries EnqueueHolds) (sym enqueue_is) enqueue_carries
queue_carries (suc zero) = subst (CodeCarries ChangeHolds) (sym dequeue_is) (change_carries (instr.Return (Num 1)) instr.ReturnNone (λ registers next is. absurd cc) (λ registers next is. absurd cc))
queue_carries (suc (suc op)) = nothing_carries

-- ---- the text as it is

abbrev bare_queue : Target
bare_queue = bare queue_text

pub bare_queue_news : (op : ℕ) → news_of (slice_get bare_queue.ops op) ≡ (if has_name (codes "enqueue") (slice_get bare_queue.ops op) then 1 else 0)
bare_queue_news (suc zero) = refl
bare_queue_news _ = refl

-- the wrap-up of `enqueue`, which begins again at 8
abbrev bare_enqueue_code : List TargetInstr
bare_enqueue_code =
    Plain (instr.Set (Num 1) 0)
    ∷ Plain (instr.IfEq (Num 7) (Num 1) 8)
    ∷ Plain (instr.LoadRoot (Ref 0) tail_root)
    ∷ Plain (instr.LoadField (Ref 1) (Ref 0) next_field)
    ∷ Plain (instr.Null (Ref 2))
    ∷ Plain (instr.IfEq (Ref 1) (Ref 2) 7)
    ∷ Plain (instr.Cas (root_entry tail_root (Ref 0) (Ref 1)) 7)
    ∷ Plain (instr.Return (Num 0))
    ∷ Plain instr.Again
    ∷ []

bare_enqueue_is : code_at bare_queue 0 true ≡ bare_enqueue_code
bare_enqueue_is = refl

bare_dequeue_is : code_at bare_queue 1 true ≡ change_code (instr.Return (Num 1)) instr.ReturnNone
bare_dequeue_is = refl

-- past the test of the count, before 8
abbrev pub BareEnqueueHolds : ℕ → Registers → Type 0
BareEnqueueHolds zero registers = SomeMade registers
BareEnqueueHolds (suc zero) registers = WithZero 1 registers
BareEnqueueHolds (suc (suc n)) registers = n < 6

bare_enqueue_carries : CodeCarries BareEnqueueHolds bare_enqueue_code
bare_enqueue_carries zero registers holds = λ next is. carried_to BareEnqueueHolds 1 (with_number registers (Num 1) 0) next (set_zero 1 registers (λ z. omega (arith, z)) holds) is
bare_enqueue_carries (suc zero) registers holds = λ next is. of (are_equal registers (Num 7) (Num 1)) refl next is where
  of : (b : Bool) → are_equal registers (Num 7) (Num 1) ≡ b → (next : Spot) → Some (record { at = if b then 8 else 2; registers = registers }) ≡ Some next → BareEnqueueHolds next.at next.registers
  of true same next is = absurd (let z : true ≡ false = none_made 1 registers true holds same in cc)
  of false same next is = carried_to BareEnqueueHolds 2 registers next (omega arith) is
bare_enqueue_carries (suc (suc zero)) registers holds = λ word. omega arith
bare_enqueue_carries (suc (suc (suc zero))) registers holds = λ word. omega arith
bare_enqueue_carries (suc (suc (suc (suc zero)))) registers holds = λ next is. carried_to BareEnqueueHolds 5 (with_reference registers (Ref 2) no_reference) next (omega arith) is
bare_enqueue_carries (suc (suc (suc (suc (suc zero))))) registers holds = λ next is. of (are_equal registers (Ref 1) (Ref 2)) next is where
  of : (b : Bool) (next : Spot) → Some (record { at = if b then 7 else 6; registers = registers }) ≡ Some next → BareEnqueueHolds next.at next.registers
  of true next is = carried_to BareEnqueueHolds 7 registers next (omega arith) is
  of false next is = carried_to BareEnqueueHolds 6 registers next (omega arith) is
bare_enqueue_carries (suc (suc (suc (suc (suc (suc zero)))))) registers holds = (omega arith, omega arith)
bare_enqueue_carries (suc (suc (suc (suc (suc (suc (suc zero))))))) registers holds = λ next is. absurd cc
bare_enqueue_carries (suc (suc (suc (suc (suc (suc (suc (suc n)))))))) registers holds = absurd (omega (arith, holds))

abbrev pub BareQueueHolds : ℕ → ℕ → Registers → Type 0
BareQueueHolds zero = BareEnqueueHolds
BareQueueHolds (suc zero) = ChangeHolds
BareQueueHolds (suc (suc op)) = AnswerHolds

pub bare_queue_begins : (op : ℕ) → Begins (BareQueueHolds op)
bare_queue_begins (suc (suc op)) registers some = tt
bare_queue_begins _ registers some = some

pub bare_queue_carries : (op : ℕ) → CodeCarries (BareQueueHolds op) (code_at bare_queue op true)
bare_queue_carries zero = subst (CodeCarries BareEnqueueHolds) (sym bare_enqueue_is) bare_enqueue_carries
bare_queue_carries (suc zero) = subst (CodeCarries ChangeHolds) (sym bare_dequeue_is) (change_carries (instr.Return (Num 1)) instr.ReturnNone (λ registers next is. absurd cc) (λ registers next is. absurd cc))
bare_queue_carries (suc (suc op)) = nothing_carries
