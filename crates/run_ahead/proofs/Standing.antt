-- What an event makes of a caller of the source that stands at a spot of a method.
use Rattle.std.proofs.Common.{◌≡◌, ℕ, ◌⊎◌, inl, inr, Bool, true, false, List, Option, Some, None, refl, ap, ◌∙◌}
use Rattle.std.specs.Prelude.{slice_get, IsTrue, option_map}
use Rattle.norm_lang.specs.declared.text.Instr.{Instr}
use Rattle.norm_lang.specs.declared.text.Instr.TheVariants as instr
use Rattle.norm_lang.specs.declared.text.Op.{Op}
use Rattle.norm_lang.specs.declared.text.Text.{Text}
use Rattle.norm_lang.specs.declared.registers.Registers.{Registers}
use Rattle.norm_lang.specs.Kept.{code_of}
use Rattle.norm_lang.specs.Local.{Spot}
use Rattle.norm_lang.specs.Registers.{first_registers}
use Rattle.target_laws.specs.local_laws.Settling.{is_access}
use Rattle.source_machine.specs.declared.event.SourceEvent.TheVariants as events
use Rattle.norm_lang.specs.declared.reply.SourceReply.{SourceReply}
use Rattle.norm_lang.specs.Flow.{is_end}
use Rattle.source_machine.specs.Memory.{access_at}
use Rattle.source_machine.specs.Run.{is_end_at}
use Rattle.source_machine.specs.declared.state.Stand.{Stand}
use Rattle.source_machine.specs.declared.state.Stand.TheVariants.{InGenerator, InWrapUp}
use Rattle.source_machine.specs.declared.state.Running.{Running}
use Rattle.source_machine.specs.declared.state.SourceCaller.{SourceCaller}
use Rattle.source_machine.specs.declared.state.Memory.{Memory}
use Rattle.source_machine.specs.Step.{goes_on, generator_stand, generator_at, generator_begun, wrap_up_end, wrap_up_stop, wrap_up_begun, is_access_at, access_turn, wrap_up_turn, restarted, performed, turn_of, caller_turn}
use Rattle.run_ahead.specs.Standing.{Call, running_of, caller_of, stands_at, run_from, begins_at, running_at, wrap_up_after}

-- ---- instructions at which local code may stop

pub access_at_is : (i : Instr) → is_access i ≡ is_access_at (Some i)
access_at_is (instr.LoadRoot d x) = refl
access_at_is _ = refl

pub end_at_is : (i : Instr) → is_end i ≡ is_end_at (Some i)
end_at_is (instr.Return a) = refl
end_at_is _ = refl

-- ---- where methods begin

-- where a wrap-up ends doesn't depend on what its caller ran before
pub end_same : (op : Op) (i : Option Instr) (running : Running) (replies : List SourceReply) (was other : Option Running)
    → wrap_up_end op i running (record { replies = replies; running = was }) ≡ wrap_up_end op i running (record { replies = replies; running = other })
end_same op None running replies was other = refl
end_same op (Some (instr.Return a)) running replies was other = refl
end_same op (Some _) running replies was other = refl

pub wrap_up_begins : (op : Op) (call : Call) (made : ℕ) (registers : Registers) (stand : Stand)
    → wrap_up_begun op made (running_at call registers stand) (goes_on (running_at call registers stand) (caller_of call)) ≡ wrap_up_after op made registers call
wrap_up_begins op call made registers stand = end_same op _ _ call.replies (Some (running_at call registers stand)) None

-- ---- the pending access

pub generator_access : (i : Option Instr) (at : ℕ) → IsTrue (is_access_at i) → generator_stand i at ≡ InGenerator at
generator_access None at access = refl
generator_access (Some (instr.Commit entries)) at access = absurd (let never : false ≡ true = access in cc)
generator_access (Some _) at access = refl

pub wrap_up_access : (accessed : Bool) (op : Op) (i : Option Instr) (running : Running) (caller : SourceCaller) → IsTrue (is_access_at i) → wrap_up_stop accessed op i running caller ≡ goes_on running caller
wrap_up_access true op i running caller access = refl
wrap_up_access false op None running caller access = refl
wrap_up_access false op (Some (instr.Return a)) running caller access = absurd (let never : false ≡ true = access in cc)
wrap_up_access false op (Some instr.ReturnNone) running caller access = absurd (let never : false ≡ true = access in cc)
wrap_up_access false op (Some instr.Again) running caller access = absurd (let never : false ≡ true = access in cc)
wrap_up_access false op (Some _) running caller access = refl

-- a caller that runs an operation of the text
pub performs : (text : Text) (op : Op) (running : Running) (caller : SourceCaller) → slice_get text.ops running.op ≡ Some op → performed text (goes_on running caller) ≡ Some (record { op = op; running = running })
performs text op running caller is = ap (option_map (λ o. record { op = o; running = running })) is

-- the access is made, and local code runs on from where it leads
pub accesses : (text : Text) (c name : ℕ) (op : Op) (wrapup : Bool) (started : Registers) (accessed : Bool) (call : Call) (there : Spot) (memory : Memory)
    → slice_get text.ops call.number ≡ Some op → IsTrue (is_access_at (slice_get (code_of op wrapup) there.at))
    → let reached = access_at text name (slice_get (code_of op wrapup) there.at) there.at there.registers memory in
    caller_turn text (events.Access c name) memory (stands_at op wrapup started accessed call there)
    ≡ record { memory = reached.memory; caller = stands_at op wrapup started true call (run_from op wrapup reached.spot) }
accesses text c name op false started accessed call there memory is access =
    ap (λ here. turn_of text (events.Access c name) here memory (stands_at op false started accessed call there)) (performs text op (generator_at op there (running_of call)) (caller_of call) is)
    ∙ ap (λ stand. access_turn text name op stand (generator_at op there (running_of call)) memory (stands_at op false started accessed call there)) (generator_access (slice_get op.generator there.at) there.at access)
accesses text c name op true started accessed call there memory is access =
    let running : Running = running_at call there.registers (InWrapUp there.at started accessed) in
    ap (λ caller. caller_turn text (events.Access c name) memory caller) (wrap_up_access accessed op (slice_get op.wrapup there.at) running (caller_of call) access)
    ∙ (ap (λ here. turn_of text (events.Access c name) here memory (goes_on running (caller_of call))) (performs text op running (caller_of call) is)
    ∙ ap (λ b. wrap_up_turn b op started (slice_get op.wrapup there.at) (access_at text name (slice_get op.wrapup there.at) there.at there.registers memory) running memory (goes_on running (caller_of call))) access)

-- whether a wrap-up has made an access doesn't matter to a generator
pub accessed_same : (op : Op) (wrapup : Bool) (started : Registers) (call : Call) (there : Spot) → stands_at op wrapup started true call there ≡ stands_at op wrapup started wrapup call there
accessed_same op false started call there = refl
accessed_same op true started call there = refl

-- ---- a restart

-- a generator that runs, or has come to its list, begins again
restarted_generator : (op : Op) (i : Option Instr) (at : ℕ) (running : Running) (caller : SourceCaller) → restarted op (generator_stand i at) running caller ≡ goes_on (generator_begun op running) caller
restarted_generator op None at running caller = refl
restarted_generator op (Some (instr.Commit entries)) at running caller = refl
restarted_generator op (Some _) at running caller = refl

pub generator_restarts : (text : Text) (c : ℕ) (op : Op) (started : Registers) (accessed : Bool) (call : Call) (there : Spot) (memory : Memory) → slice_get text.ops call.number ≡ Some op
    → caller_turn text (events.Restart c) memory (stands_at op false started accessed call there) ≡ record { memory = memory; caller = begins_at op false (first_registers call.args) call }
generator_restarts text c op started accessed call there memory is =
    ap (λ here. turn_of text (events.Restart c) here memory (stands_at op false started accessed call there)) (performs text op (generator_at op there (running_of call)) (caller_of call) is)
    ∙ ap (λ caller. record { memory = memory; caller = caller })
    (restarted_generator op (slice_get op.generator there.at) there.at (generator_at op there (running_of call)) (stands_at op false started accessed call there))

-- a wrap-up that stands at an access, or has made one, is in its method
pub stays_in : (accessed : Bool) (op : Op) (i : Option Instr) (running : Running) (caller : SourceCaller) → IsTrue (is_access_at i) ⊎ IsTrue accessed → wrap_up_stop accessed op i running caller ≡ goes_on running caller
stays_in true op i running caller why = refl
stays_in false op i running caller (inl access) = wrap_up_access false op i running caller access
stays_in false op i running caller (inr never) = absurd (let no : false ≡ true = never in cc)

-- and begins again
pub wrap_up_restarts : (text : Text) (c : ℕ) (op : Op) (started : Registers) (accessed : Bool) (call : Call) (there : Spot) (memory : Memory) → slice_get text.ops call.number ≡ Some op
    → IsTrue (is_access_at (slice_get op.wrapup there.at)) ⊎ IsTrue accessed
    → caller_turn text (events.Restart c) memory (stands_at op true started accessed call there) ≡ record { memory = memory; caller = begins_at op true started call }
wrap_up_restarts text c op started accessed call there memory is why =
    let running : Running = running_at call there.registers (InWrapUp there.at started accessed) in
    ap (λ caller. caller_turn text (events.Restart c) memory caller) (stays_in accessed op (slice_get op.wrapup there.at) running (caller_of call) why)
    ∙ (ap (λ here. turn_of text (events.Restart c) here memory (goes_on running (caller_of call))) (performs text op running (caller_of call) is)
    ∙ ap (λ caller. record { memory = memory; caller = caller }) (end_same op _ _ call.replies (Some running) None))

-- ---- the end of a wrap-up run that made an access

ends_alike : (op : Op) (i : Option Instr) (call : Call) (registers : Registers) (one other : Stand) (was : Option Running) → IsTrue (is_end_at i)
    → wrap_up_end op i (running_at call registers one) (record { replies = call.replies; running = was }) ≡ wrap_up_end op i (running_at call registers other) (caller_of call)
ends_alike op (Some (instr.Return a)) call registers one other was ends = refl
ends_alike op (Some instr.ReturnNone) call registers one other was ends = refl
ends_alike op (Some instr.Again) call registers one other was ends = refl
ends_alike op _ call registers one other was ends = absurd (let never : false ≡ true = ends in cc)

no_access : (i : Option Instr) → IsTrue (is_end_at i) → is_access_at i ≡ false
no_access (Some (instr.Return a)) ends = refl
no_access (Some instr.ReturnNone) ends = refl
no_access (Some instr.Again) ends = refl
no_access _ ends = absurd (let never : false ≡ true = ends in cc)

-- the caller stands where it would had the run made no access
pub wrap_up_ends : (text : Text) (c : ℕ) (op : Op) (started : Registers) (call : Call) (there : Spot) (memory : Memory) → slice_get text.ops call.number ≡ Some op
    → IsTrue (is_end_at (slice_get op.wrapup there.at))
    → caller_turn text (events.Access c 0) memory (stands_at op true started true call there)
    ≡ record { memory = memory; caller = stands_at op true started false call there }
wrap_up_ends text c op started call there memory is ends =
    let running : Running = running_at call there.registers (InWrapUp there.at started true) in
    ap (λ here. turn_of text (events.Access c 0) here memory (goes_on running (caller_of call))) (performs text op running (caller_of call) is)
    ∙ (ap (λ b. wrap_up_turn b op started (slice_get op.wrapup there.at) (access_at text 0 (slice_get op.wrapup there.at) there.at there.registers memory) running memory (goes_on running (caller_of call))) (no_access (slice_get op.wrapup there.at) ends)
    ∙ ap (λ caller. record { memory = memory; caller = caller }) (ends_alike op (slice_get op.wrapup there.at) call there.registers (InWrapUp there.at started true) (InWrapUp there.at started false) (Some running) ends))
