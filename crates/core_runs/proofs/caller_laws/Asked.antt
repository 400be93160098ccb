-- N15 where a caller stands: a register that its instruction asks to be of a kind names null or a slot of it.
use Rattle.std.proofs.Common.{◌≡◌, ℕ, ◌*◌, ◌+◌, ◌/◌, inl, Bool, true, false, Option, Some, refl, sym, subst, arith}
use Rattle.norm_lang.specs.declared.text.Reg.{Reg}
use Rattle.norm_lang.specs.declared.text.Reg.TheVariants.{Num, Ref}
use Rattle.norm_lang.specs.declared.text.FieldKind.{FieldKind}
use Rattle.norm_lang.specs.declared.text.FieldKind.TheVariants as holdings
use Rattle.norm_lang.specs.declared.text.Place.TheVariants as places
use Rattle.norm_lang.specs.declared.text.Instr.{Instr}
use Rattle.norm_lang.specs.Registers.{reference_in}
use Rattle.norm_lang.specs.InstructionRules.{is_unlike}
use Rattle.norm_lang.specs.Kinds.{asks, asks_object, refers}
use Rattle.target_code.specs.declared.target.TargetInstr.TheVariants.{Plain}
use Rattle.target_code.specs.declared.target.Target.{Target}
use Rattle.oa_words.specs.Packed.{ref_word, slot_part}
use Rattle.oa_words.specs.SlotKinds.{IsNullOrOf}
use Rattle.caller_parts.specs.Settings.{Setting}
use Rattle.caller_parts.specs.Operands.{slot_in, word_in}
use Rattle.caller_steps.specs.Entries.{Entry, instr_in}
use Rattle.caller_steps.specs.Lawful.{LawfulValue}
use Rattle.core_runs.proofs.caller_laws.Fields.{HasField}
use Rattle.core_runs.proofs.caller_laws.Methods.{Methods}
use Rattle.core_runs.proofs.caller_laws.Stopping.{Here}
use Rattle.core_runs.proofs.caller_laws.Values.{itself, null_or_of, object_asked}

packed_slot : (node : ℕ) (marked : Bool) → slot_part (ref_word node marked) ≡ node
packed_slot node true = let e : (2 * node + 1) / 2 ≡ node = omega arith in e
packed_slot node false = let e : (2 * node + 0) / 2 ≡ node = omega arith in e

-- an object of the instruction is null, or has the field
pub object_has : (target : Target) (setting : Setting) (e : Entry) (i : Instr) (a : Reg) (f : ℕ) → Methods target → Here target setting e → instr_in target e ≡ Some (Plain i)
    → ((r k : ℕ) → asks_object target.fields (places.Field a f) r k ≡ true → asks target.fields target.roots i r k ≡ true) → HasField target setting (slot_in e.hand.registers a) f
object_has target setting e i (Num r) f sane c is asked = λ k owner. inl refl
object_has target setting e i (Ref r) f sane c is asked = λ k owner. sane.asked setting e.running.call.op e.hand.wrapup e.hand.at i e.hand.registers r k is (asked r k (object_asked target.fields r f k owner)) c.kinds

-- and what is put where a kind is held may stand there
pub operand_lawful : (target : Target) (setting : Setting) (e : Entry) (i : Instr) (kind : Option FieldKind) (b : Reg) → Methods target → Here target setting e → instr_in target e ≡ Some (Plain i) → is_unlike kind b ≡ false
    → ((r k : ℕ) → b ≡ Ref r → refers kind k ≡ true → asks target.fields target.roots i r k ≡ true) → LawfulValue setting.sizes kind (word_in e.hand.registers b)
operand_lawful target setting e i (Some (holdings.Reference k)) (Num b) sane c is like asked = absurd (let z : true ≡ false = like in cc)
operand_lawful target setting e i (Some (holdings.Reference k)) (Ref b) sane c is like asked =
    let held = reference_in e.hand.registers (Ref b) in
    subst (IsNullOrOf setting.sizes k) (sym (packed_slot held.node held.marked))
    (null_or_of setting.sizes k held.node (c.names.within b) (sane.asked setting e.running.call.op e.hand.wrapup e.hand.at i e.hand.registers b k is (asked b k refl (itself k)) c.kinds))
operand_lawful target setting e i _ b sane c is like asked = tt
