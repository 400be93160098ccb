-- Which events are enabled of a source's caller that stands at a spot.
use Rattle.std.proofs.Common.{◌≡◌, ℕ, Bool, true, false, List, Option, Some, None, refl, sym, ap, subst, ◌∙◌}
use Rattle.std.specs.Prelude.{slice_get, IsTrue}
use Rattle.std.proofs.lemmas.Bool.{and_from, or_left, or_right}
use Rattle.norm_lang.specs.declared.text.CasEntry.{CasEntry}
use Rattle.norm_lang.specs.declared.text.Instr.{Instr}
use Rattle.norm_lang.specs.declared.text.Instr.TheVariants as instr
use Rattle.norm_lang.specs.declared.text.Op.{Op}
use Rattle.norm_lang.specs.declared.text.Text.{Text}
use Rattle.norm_lang.specs.declared.registers.Registers.{Registers}
use Rattle.norm_lang.specs.Kept.{code_of}
use Rattle.norm_lang.specs.Local.{Spot}
use Rattle.source_machine.specs.declared.event.SourceEvent.TheVariants as events
use Rattle.source_machine.specs.Run.{is_end_at, is_new_at, is_pending, is_new_pending, is_name, is_in_method, is_enabled_by, is_enabled_for}
use Rattle.source_machine.specs.declared.state.Stand.TheVariants.{InList, InWrapUp}
use Rattle.source_machine.specs.declared.state.Running.{Running}
use Rattle.source_machine.specs.declared.state.SourceCaller.{SourceCaller}
use Rattle.source_machine.specs.declared.state.Memory.{Memory}
use Rattle.source_machine.specs.Step.{goes_on, replied, give_up_reply, generator_stand, generator_at, is_access_at, turn_of, caller_turn}
use Rattle.run_ahead.specs.Standing.{Call, running_of, caller_of, stands_at, running_at, stands_in_list}
use Rattle.run_ahead.proofs.Standing.{performs, generator_access, wrap_up_access}

-- an access of a caller that runs an operation
running_enabled : (text : Text) (c name : ℕ) (op : Op) (running : Running) (caller : SourceCaller) (memory : Memory) → slice_get text.ops running.op ≡ Some op
    → IsTrue (is_pending op running.stand) → IsTrue (is_name (is_new_pending op running.stand) name memory.nodes) → IsTrue (is_enabled_for text (events.Access c name) (Some (goes_on running caller)) memory)
running_enabled text c name op running caller memory is pending named =
    ap (λ here. is_enabled_by text (events.Access c name) here memory (goes_on running caller)) (performs text op running caller is) ∙ and_from _ _ pending named

-- the pending one, with an unused name at a `new` and 0 elsewhere
pub access_is_enabled : (text : Text) (c name : ℕ) (op : Op) (wrapup : Bool) (started : Registers) (accessed : Bool) (call : Call) (there : Spot) (memory : Memory) → slice_get text.ops call.number ≡ Some op
    → IsTrue (is_access_at (slice_get (code_of op wrapup) there.at)) → IsTrue (is_name (is_new_at (slice_get (code_of op wrapup) there.at)) name memory.nodes)
    → IsTrue (is_enabled_for text (events.Access c name) (Some (stands_at op wrapup started accessed call there)) memory)
access_is_enabled text c name op false started accessed call there memory is access named =
    let stand = generator_access (slice_get op.generator there.at) there.at access in
    running_enabled text c name op (generator_at op there (running_of call)) (caller_of call) memory is
    (subst (λ s. IsTrue (is_pending op s)) (sym stand) access) (subst (λ s. IsTrue (is_name (is_new_pending op s) name memory.nodes)) (sym stand) named)
access_is_enabled text c name op true started accessed call there memory is access named =
    let running : Running = running_at call there.registers (InWrapUp there.at started accessed) in
    subst (λ caller. IsTrue (is_enabled_for text (events.Access c name) (Some caller) memory)) (sym (wrap_up_access accessed op (slice_get op.wrapup there.at) running (caller_of call) access))
    (running_enabled text c name op running (caller_of call) memory is (or_left (is_access_at (slice_get op.wrapup there.at)) _ access) named)

-- an exchange of the list, and the end of an empty one
pub list_is_enabled : (text : Text) (c : ℕ) (op : Op) (at : ℕ) (entries : List CasEntry) (made : ℕ) (registers : Registers) (call : Call) (memory : Memory) → slice_get text.ops call.number ≡ Some op
    → IsTrue (is_enabled_for text (events.Access c 0) (Some (stands_in_list at entries made registers call)) memory)
list_is_enabled text c op at entries made registers call memory is = running_enabled text c 0 op (running_at call registers (InList at entries made)) (caller_of call) memory is refl refl

no_new_at_end : (i : Option Instr) → IsTrue (is_end_at i) → is_new_at i ≡ false
no_new_at_end (Some (instr.Return a)) ends = refl
no_new_at_end (Some instr.ReturnNone) ends = refl
no_new_at_end (Some instr.Again) ends = refl
no_new_at_end _ ends = absurd (let no : false ≡ true = ends in cc)

-- the end of a wrap-up run that made an access
pub end_is_enabled : (text : Text) (c : ℕ) (op : Op) (started : Registers) (call : Call) (there : Spot) (memory : Memory) → slice_get text.ops call.number ≡ Some op → IsTrue (is_end_at (slice_get op.wrapup there.at))
    → IsTrue (is_enabled_for text (events.Access c 0) (Some (stands_at op true started true call there)) memory)
end_is_enabled text c op started call there memory is ends =
    running_enabled text c 0 op (running_at call there.registers (InWrapUp there.at started true)) (caller_of call) memory is
    (or_right (is_access_at (slice_get op.wrapup there.at)) _ ends) (subst (λ b. IsTrue (is_name b 0 memory.nodes)) (sym (no_new_at_end (slice_get op.wrapup there.at) ends)) refl)

-- ---- a restart

pub restart_is_enabled : (text : Text) (c : ℕ) (op : Op) (running : Running) (caller : SourceCaller) (memory : Memory) → slice_get text.ops running.op ≡ Some op → IsTrue (is_in_method running.stand)
    → IsTrue (is_enabled_for text (events.Restart c) (Some (goes_on running caller)) memory)
restart_is_enabled text c op running caller memory is inside =
    ap (λ here. is_enabled_by text (events.Restart c) here memory (goes_on running caller)) (performs text op running caller is) ∙ inside

pub generator_inside : (i : Option Instr) (at : ℕ) → IsTrue (is_in_method (generator_stand i at))
generator_inside None at = refl
generator_inside (Some (instr.Commit entries)) at = refl
generator_inside (Some _) at = refl

-- ---- a caller that gives up at a `new`

is_access_new : (i : Option Instr) → IsTrue (is_new_at i) → IsTrue (is_access_at i)
is_access_new (Some (instr.New d kind)) new = refl
is_access_new _ new = absurd (let no : false ≡ true = new in cc)

pub gives_up : (text : Text) (c : ℕ) (phase : Option ℕ) (op : Op) (started : Registers) (accessed : Bool) (call : Call) (there : Spot) (memory : Memory) → slice_get text.ops call.number ≡ Some op
    → IsTrue (is_new_at (slice_get op.generator there.at))
    → IsTrue (is_enabled_for text (events.GiveUp c phase) (Some (stands_at op false started accessed call there)) memory)
    × (caller_turn text (events.GiveUp c phase) memory (stands_at op false started accessed call there) ≡ record { memory = memory; caller = replied (give_up_reply phase) (caller_of call) })
gives_up text c phase op started accessed call there memory is new =
    let running = generator_at op there (running_of call) in
    let here = performs text op running (caller_of call) is in
    let stand = generator_access (slice_get op.generator there.at) there.at (is_access_new (slice_get op.generator there.at) new) in (
      ap (λ o. is_enabled_by text (events.GiveUp c phase) o memory (goes_on running (caller_of call))) here ∙ subst (λ s. IsTrue (is_new_pending op s)) (sym stand) new,
      ap (λ o. turn_of text (events.GiveUp c phase) o memory (goes_on running (caller_of call))) here,
    )
