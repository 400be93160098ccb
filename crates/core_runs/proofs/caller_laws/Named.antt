-- Registers that name slots of the row go on to do so.
use Rattle.std.proofs.Common.{◌≡◌, ◌≢◌, ℕ, zero, suc, ◌+◌, ◌%◌, ◌^◌, ◌≤◌, ◌<◌, true, false, List, [], ◌∷◌, length, set, length-set, Option, Some, None, refl, ◌∙◌, ap, arith}
use Rattle.std.specs.Prelude.{unwrap_or, slice_get, IfSome}
use Rattle.norm_lang.specs.declared.text.Reg.{Reg}
use Rattle.norm_lang.specs.declared.text.Reg.TheVariants.{Num, Ref}
use Rattle.norm_lang.specs.declared.text.FieldKind.{FieldKind}
use Rattle.norm_lang.specs.declared.text.FieldKind.TheVariants as holdings
use Rattle.norm_lang.specs.declared.text.Instr.{Instr}
use Rattle.norm_lang.specs.declared.text.Instr.TheVariants as instr
use Rattle.norm_lang.specs.declared.registers.Reference.{Reference}
use Rattle.norm_lang.specs.declared.registers.Registers.{Registers}
use Rattle.norm_lang.specs.Registers.{no_reference, number_in, reference_in, with_number, with_reference, moved}
use Rattle.norm_lang.specs.InstructionRules.{is_unlike}
use Rattle.norm_lang.specs.Local.{Spot, local_step}
use Rattle.oa_words.specs.Words.{Sizes}
use Rattle.caller_parts.specs.Operands.{unpacked, with_word}
use Rattle.caller_steps.specs.Lawful.{LawfulValue}
use Rattle.caller_steps.specs.Belongs.{NamesSlots}
use Rattle.core_runs.proofs.caller_laws.OfKinds.{of_row}

-- what stands at a place of a list, past its end too, still meets a condition after an item that meets it is put in
pub set_keeps : {X : Type 0} (P : X → Type 0) (xs : List X) (i : ℕ) (x e : X) (r : ℕ) → P x → P (unwrap_or (slice_get xs r) e) → P (unwrap_or (slice_get (set xs i x) r) e)
set_keeps P (y ∷ ys) zero x e zero p q = p
set_keeps P (y ∷ ys) (suc i) x e (suc r) p q = set_keeps P ys i x e r p q
set_keeps P _ _ x e _ p q = q

pub set_hits : {X : Type 0} (xs : List X) (i : ℕ) (x e : X) → i < length xs → unwrap_or (slice_get (set xs i x) i) e ≡ x
set_hits [] i x e lt = absurd (omega (arith, lt))
set_hits (y ∷ ys) zero x e lt = refl
set_hits (y ∷ ys) (suc i) x e lt = set_hits ys i x e (omega (arith, lt))

pub set_misses : {X : Type 0} (xs : List X) (i : ℕ) (x e : X) (r : ℕ) → r ≢ i → unwrap_or (slice_get (set xs i x) r) e ≡ unwrap_or (slice_get xs r) e
set_misses (y ∷ ys) zero x e zero ne = absurd (ne refl)
set_misses (y ∷ ys) (suc i) x e (suc r) ne = set_misses ys i x e r (λ is. ne (ap suc is))
set_misses _ _ x e _ ne = refl

-- a number is put into a register
pub numbered : (slots : ℕ) (registers : Registers) (d : Reg) (n : ℕ) → NamesSlots slots registers → NamesSlots slots (with_number registers d n)
numbered slots registers (Num d) n s = record { numbers = length-set registers.numbers d n ∙ s.numbers; references = s.references; within = s.within }
numbered slots registers (Ref d) n s = s

-- a reference is
pub referred : (slots : ℕ) (registers : Registers) (d : Reg) (v : Reference) → NamesSlots slots registers → v.node ≤ slots → NamesSlots slots (with_reference registers d v)
referred slots registers (Num d) v s le = s
referred slots registers (Ref d) v s le = record {
  numbers = s.numbers;
  references = length-set registers.references d v ∙ s.references;
  within = λ r. set_keeps (λ (x : Reference). x.node ≤ slots) registers.references d v no_reference r le (s.within r);
}

-- one register becomes another
pub moves : (slots : ℕ) (registers : Registers) (d a : Reg) → NamesSlots slots registers → NamesSlots slots (moved registers d a)
moves slots registers d (Num a) s = numbered slots registers d (number_in registers (Num a)) s
moves slots registers d (Ref a) s = referred slots registers d (reference_in registers (Ref a)) s (s.within a)

-- what any register holds as a reference
pub named : (slots : ℕ) (registers : Registers) (a : Reg) → NamesSlots slots registers → (reference_in registers a).node ≤ slots
named slots registers (Num a) s = omega arith
named slots registers (Ref a) s = s.within a

-- a lawful word of a field or root is loaded into a register of its kind
pub worded : (n : Sizes) (registers : Registers) (kind : Option FieldKind) (d : Reg) (word : ℕ) → NamesSlots n.slots registers
    → LawfulValue n kind word → is_unlike kind d ≡ false → NamesSlots n.slots (with_word registers d word)
worded n registers kind (Num d) word s lawful like = numbered n.slots registers (Num d) word s
worded n registers None (Ref d) word s lawful like = absurd (let e : true ≡ false = like in cc)
worded n registers (Some holdings.Number) (Ref d) word s lawful like = absurd (let e : true ≡ false = like in cc)
worded n registers (Some (holdings.Reference k)) (Ref d) word s lawful like = referred n.slots registers (Ref d) (unpacked word) s (of_row n k (unpacked word).node lawful)

-- a local instruction
pub local_names : (slots : ℕ) (i : Instr) (at : ℕ) (registers : Registers) → NamesSlots slots registers
    → IfSome (local_step i at registers) (λ (spot : Spot). NamesSlots slots spot.registers)
local_names slots (instr.Set d n) at registers s = numbered slots registers d n s
local_names slots (instr.Mov d a) at registers s = moves slots registers d a s
local_names slots (instr.Add d a b) at registers s = numbered slots registers d ((number_in registers a + number_in registers b) % 2 ^ 64) s
local_names slots (instr.Sub d a b) at registers s = numbered slots registers d _ s
local_names slots (instr.Rem d a n) at registers s = numbered slots registers d _ s
local_names slots (instr.Mark d a) at registers s = referred slots registers d (record { node = (reference_in registers a).node; marked = true }) s (named slots registers a s)
local_names slots (instr.Unmark d a) at registers s = referred slots registers d (record { node = (reference_in registers a).node; marked = false }) s (named slots registers a s)
local_names slots (instr.Null d) at registers s = referred slots registers d no_reference s (omega arith)
local_names slots (instr.Jump l) at registers s = s
local_names slots (instr.IfEq a b l) at registers s = s
local_names slots (instr.IfLess a b l) at registers s = s
local_names slots (instr.IfMarked a l) at registers s = s
local_names slots _ at registers s = tt
