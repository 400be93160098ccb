-- Which method run an event leaves: one that has got a name more, or one that begins.
use Rattle.std.proofs.Common.{◌≡◌, ℕ, Bool, true, false, List, Option, Some, None, refl, sym, ap, ◌∙◌}
use Rattle.std.specs.Prelude.{slice_get, IsTrue}
use Rattle.norm_lang.specs.declared.text.CasEntry.{CasEntry}
use Rattle.norm_lang.specs.declared.text.Instr.{Instr}
use Rattle.norm_lang.specs.declared.text.Instr.TheVariants as instr
use Rattle.norm_lang.specs.declared.text.Op.{Op}
use Rattle.norm_lang.specs.declared.text.Text.{Text}
use Rattle.norm_lang.specs.declared.registers.Registers.{Registers}
use Rattle.norm_lang.specs.Kept.{code_of}
use Rattle.norm_lang.specs.Local.{Spot}
use Rattle.source_machine.specs.declared.event.SourceEvent.TheVariants as events
use Rattle.source_machine.specs.MethodRuns.{MethodRun, run_begun, run_with, name_got, stand_in, wrap_up_run, access_run, run_of, run_after}
use Rattle.source_machine.specs.Run.{is_end_at}
use Rattle.source_machine.specs.declared.state.Stand.{Stand}
use Rattle.source_machine.specs.declared.state.Stand.TheVariants.{InList, InWrapUp}
use Rattle.source_machine.specs.declared.state.Running.{Running}
use Rattle.source_machine.specs.declared.state.SourceCaller.{SourceCaller}
use Rattle.source_machine.specs.declared.state.Memory.{Memory}
use Rattle.source_machine.specs.Step.{goes_on, generator_stand, generator_at, wrap_up_end, is_access_at, Turn, Performed, performed, caller_turn}
use Rattle.run_ahead.specs.Standing.{Call, running_of, caller_of, stands_at, running_at, stands_in_list}
use Rattle.run_ahead.proofs.Standing.{generator_access, wrap_up_access, performs, accesses, wrap_up_ends}

-- a restart begins a method run
pub restart_run : (text : Text) (c : ℕ) (memory : Memory) (caller : SourceCaller) (was : MethodRun) → run_after text (events.Restart c) memory caller was ≡ run_begun (caller_turn text (events.Restart c) memory caller).memory
restart_run text c memory caller was = by (performed text caller)
  where
    by : (o : Option Performed) → run_of text (events.Restart c) o memory (caller_turn text (events.Restart c) memory caller) was ≡ run_begun (caller_turn text (events.Restart c) memory caller).memory
    by None = refl
    by (Some here) = refl

-- so does a begin, and after a caller gave up there is none
pub begin_run : (text : Text) (c number : ℕ) (args : List ℕ) (memory : Memory) (caller : SourceCaller) (was : MethodRun) → run_after text (events.Begin c number args) memory caller was ≡ run_begun memory
begin_run text c number args memory caller was = by (performed text caller)
  where
    by : (o : Option Performed) → run_of text (events.Begin c number args) o memory (caller_turn text (events.Begin c number args) memory caller) was ≡ run_begun memory
    by None = refl
    by (Some here) = refl

pub give_up_run : (text : Text) (c : ℕ) (phase : Option ℕ) (memory : Memory) (caller : SourceCaller) (was : MethodRun)
    → run_after text (events.GiveUp c phase) memory caller was ≡ run_begun (caller_turn text (events.GiveUp c phase) memory caller).memory
give_up_run text c phase memory caller was = by (performed text caller)
  where
    by : (o : Option Performed) → run_of text (events.GiveUp c phase) o memory (caller_turn text (events.GiveUp c phase) memory caller) was ≡ run_begun (caller_turn text (events.GiveUp c phase) memory caller).memory
    by None = refl
    by (Some here) = refl

-- an access of a method gets a name
pub access_watched : (text : Text) (c name : ℕ) (op : Op) (wrapup : Bool) (started : Registers) (accessed : Bool) (call : Call) (there : Spot) (memory : Memory) (was : MethodRun)
    → slice_get text.ops call.number ≡ Some op → IsTrue (is_access_at (slice_get (code_of op wrapup) there.at))
    → run_after text (events.Access c name) memory (stands_at op wrapup started accessed call there) was ≡ run_with (name_got text name (slice_get (code_of op wrapup) there.at) there.registers memory) was
access_watched text c name op false started accessed call there memory was is access =
    let running : Running = generator_at op there (running_of call) in
    let turn : Turn = caller_turn text (events.Access c name) memory (goes_on running (caller_of call)) in
    ap (λ here. run_of text (events.Access c name) here memory turn was) (performs text op running (caller_of call) is)
    ∙ ap (λ stand. access_run text name stand (record { op = op; running = running }) memory turn was) (generator_access (slice_get op.generator there.at) there.at access)
access_watched text c name op true started accessed call there memory was is access =
    let running : Running = running_at call there.registers (InWrapUp there.at started accessed) in
    let stays : stands_at op true started accessed call there ≡ goes_on running (caller_of call) = wrap_up_access accessed op (slice_get op.wrapup there.at) running (caller_of call) access in
    let turn : Turn = caller_turn text (events.Access c name) memory (goes_on running (caller_of call)) in
    ap (λ caller. run_after text (events.Access c name) memory caller was) stays
    ∙ (ap (λ here. run_of text (events.Access c name) here memory turn was) (performs text op running (caller_of call) is)
    ∙ ap (λ (turn : Turn). wrap_up_run (stand_in turn.caller.running) (name_got text name (slice_get op.wrapup there.at) there.registers memory) turn.memory was)
    (sym (ap (λ caller. caller_turn text (events.Access c name) memory caller) stays) ∙ accesses text c name op true started accessed call there memory is access))

-- an access of a list begins one
pub list_watched : (text : Text) (c : ℕ) (op : Op) (at : ℕ) (entries : List CasEntry) (made : ℕ) (registers : Registers) (call : Call) (memory : Memory) (was : MethodRun) → slice_get text.ops call.number ≡ Some op
    → run_after text (events.Access c 0) memory (stands_in_list at entries made registers call) was ≡ run_begun (caller_turn text (events.Access c 0) memory (stands_in_list at entries made registers call)).memory
list_watched text c op at entries made registers call memory was is =
    ap (λ here. run_of text (events.Access c 0) here memory (caller_turn text (events.Access c 0) memory (stands_in_list at entries made registers call)) was)
    (performs text op (running_at call registers (InList at entries made)) (caller_of call) is)

-- and so does the end of a wrap-up
ended_run : (op : Op) (i : Option Instr) (call : Call) (registers : Registers) (stand : Stand) (name : ℕ) (memory : Memory) (was : MethodRun) → IsTrue (is_end_at i)
    → wrap_up_run (stand_in (wrap_up_end op i (running_at call registers stand) (caller_of call)).running) name memory was ≡ run_begun memory
ended_run op (Some (instr.Return a)) call registers stand name memory was ends = refl
ended_run op (Some instr.ReturnNone) call registers stand name memory was ends = refl
ended_run op (Some instr.Again) call registers stand name memory was ends = by (slice_get op.generator _) _
  where
    by : (i : Option Instr) (at : ℕ) → wrap_up_run (Some (generator_stand i at)) name memory was ≡ run_begun memory
    by None at = refl
    by (Some (instr.Commit entries)) at = refl
    by (Some _) at = refl
ended_run op _ call registers stand name memory was ends = absurd (let never : false ≡ true = ends in cc)

pub end_watched : (text : Text) (c : ℕ) (op : Op) (started : Registers) (call : Call) (there : Spot) (memory : Memory) (was : MethodRun) → slice_get text.ops call.number ≡ Some op
    → IsTrue (is_end_at (slice_get op.wrapup there.at)) → run_after text (events.Access c 0) memory (stands_at op true started true call there) was ≡ run_begun memory
end_watched text c op started call there memory was is ends =
    let running : Running = running_at call there.registers (InWrapUp there.at started true) in
    let turn : Turn = caller_turn text (events.Access c 0) memory (goes_on running (caller_of call)) in
    let name = name_got text 0 (slice_get op.wrapup there.at) there.registers memory in
    ap (λ here. run_of text (events.Access c 0) here memory turn was) (performs text op running (caller_of call) is)
    ∙ (ap (λ (turn : Turn). wrap_up_run (stand_in turn.caller.running) name turn.memory was) (wrap_up_ends text c op started call there memory is ends)
    ∙ ended_run op (slice_get op.wrapup there.at) call there.registers (InWrapUp there.at started false) name memory was ends)
