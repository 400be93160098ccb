-- What a load finds in typed memory is of its register's kind.
use Rattle.std.proofs.Common.{◌≡◌, ℕ, ◌+◌, List, Option, Some, None, subst}
use Rattle.std.specs.Prelude.{slice_get}
use Rattle.std.proofs.lemmas.Option.{same_Some}
use Rattle.std.proofs.lemmas.Bool.{not-false}
use Rattle.norm_lang.specs.declared.text.Reg.{Reg}
use Rattle.norm_lang.specs.declared.text.Reg.TheVariants.{Num, Ref}
use Rattle.norm_lang.specs.declared.text.FieldKind.{FieldKind}
use Rattle.norm_lang.specs.declared.text.FieldKind.TheVariants as holdings
use Rattle.norm_lang.specs.declared.text.Instr.{Instr}
use Rattle.norm_lang.specs.declared.text.Instr.TheVariants as instr
use Rattle.norm_lang.specs.declared.text.Text.{Text}
use Rattle.norm_lang.specs.declared.registers.Registers.{Registers}
use Rattle.norm_lang.specs.Registers.{number_in}
use Rattle.norm_lang.specs.Local.{remainder}
use Rattle.norm_lang.specs.InstructionRules.{field_kind, root_kind, are_roots_of_one_kind}
use Rattle.source_machine.specs.Memory.{loaded}
use Rattle.source_machine.specs.declared.state.Value.{Value}
use Rattle.source_machine.specs.declared.state.Value.TheVariants.{Number, Node}
use Rattle.source_machine.specs.declared.state.NamedNode.{NamedNode}
use Rattle.source_machine.specs.declared.state.Memory.{Memory}
use Rattle.target_code.specs.declared.target.TargetInstr.TheVariants.{Plain}
use Rattle.target_code.specs.declared.target.Target.{Target}
use Rattle.target_laws.specs.Methods.{Method, code_in}
use Rattle.target_laws.proofs.Forms.{instructions_are_in_form}
use Rattle.run_ahead.specs.Ahead.{IsErased}
use Rattle.run_ahead.specs.Standing.{loads_into, IsValueFor}
use Rattle.run_ahead.specs.Typed.{IsOfKind, IsRegisterFor, IsTyped, AreAsked}
use Rattle.run_ahead.proofs.TypedMemory.{FindsFor, root_finds, field_finds, pick_finds}

of_kind : (nodes : List NamedNode) (kind : FieldKind) (d : Reg) (v : Value) → IsRegisterFor kind d → IsOfKind nodes kind v → IsValueFor d v
of_kind nodes holdings.Number (Num d) (Number n) register value = tt
of_kind nodes holdings.Number (Num d) (Node x) register value = absurd value
of_kind nodes holdings.Number (Ref d) v register value = absurd register
of_kind nodes (holdings.Reference k) (Ref d) (Node x) register value = tt
of_kind nodes (holdings.Reference k) (Ref d) (Number n) register value = absurd value
of_kind nodes (holdings.Reference k) (Num d) v register value = absurd register

found_for : (nodes : List NamedNode) (o : Option FieldKind) (d : Reg) (v : Value) → FindsFor nodes o d v → IsValueFor d v
found_for nodes o d v finds = of_kind nodes finds.0 d v finds.2 finds.3

pub load_finds : {target : Target} {text : Text} (method : Method target text) → IsErased target text → (at : ℕ) (i : Instr) (d : Reg) (registers : Registers) (memory : Memory) → slice_get (code_in method) at ≡ Some (Plain i)
    → loads_into i ≡ Some d → IsTyped text memory → AreAsked text i memory.nodes registers → IsValueFor d (loaded text i registers memory)
load_finds {target = target} {text = text} method erased at (instr.LoadRoot e x) d registers memory is loads typed asked =
    let form = instructions_are_in_form target text erased.normal erased.erases method at (instr.LoadRoot e x) is in
    subst (λ r. IsValueFor r (loaded text (instr.LoadRoot e x) registers memory)) (same_Some e d loads)
    (found_for memory.nodes (root_kind text.roots x) e _ (root_finds text e x registers memory form.kinds typed))
load_finds {target = target} {text = text} method erased at (instr.LoadPick e x n a) d registers memory is loads typed asked =
    let form = instructions_are_in_form target text erased.normal erased.erases method at (instr.LoadPick e x n a) is in
    subst (λ r. IsValueFor r (loaded text (instr.LoadPick e x n a) registers memory)) (same_Some e d loads)
    (found_for memory.nodes (root_kind text.roots (x + remainder (number_in registers a) n)) e _ (pick_finds text e x n a registers memory form.kinds (not-false (are_roots_of_one_kind text.roots x n) form.range) typed))
load_finds {target = target} {text = text} method erased at (instr.LoadField e a f) d registers memory is loads typed asked =
    let form = instructions_are_in_form target text erased.normal erased.erases method at (instr.LoadField e a f) is in
    subst (λ r. IsValueFor r (loaded text (instr.LoadField e a f) registers memory)) (same_Some e d loads)
    (found_for memory.nodes (field_kind text.fields f) e _ (field_finds text e a f registers memory form.kinds asked typed))
load_finds method erased at _ d registers memory is loads typed asked = absurd (let never : None ≡ Some d = loads in cc)
