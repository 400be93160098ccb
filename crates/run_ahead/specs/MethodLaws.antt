-- Where methods begin and end: a generator's begin, its commit, the exchanges of the commit's list, the wrap-up's start and its
-- end; a method that begins again; and a caller that gives up.
use Rattle.std.specs.Prelude.{◌≡◌, ℕ, ◌+◌, Bool, true, false, List, [], length, Option, Some, None, nat_lt, if◌then◌else◌, slice_get, IsTrue}
use Rattle.norm_lang.specs.declared.text.Reg.{Reg}
use Rattle.norm_lang.specs.declared.text.CasEntry.{CasEntry}
use Rattle.norm_lang.specs.declared.text.Instr.{Instr}
use Rattle.norm_lang.specs.declared.text.Instr.TheVariants as instr
use Rattle.norm_lang.specs.declared.text.Op.{Op}
use Rattle.norm_lang.specs.declared.text.Text.{Text}
use Rattle.norm_lang.specs.declared.registers.Registers.{Registers}
use Rattle.norm_lang.specs.Local.{Spot}
use Rattle.norm_lang.specs.NormalForm.{IsNormal}
use Rattle.norm_lang.specs.Registers.{first_registers, number_in, with_count}
use Rattle.source_machine.specs.declared.event.SourceEvent.{SourceEvent}
use Rattle.source_machine.specs.declared.event.SourceEvent.TheVariants as events
use Rattle.norm_lang.specs.declared.reply.SourceReply.TheVariants as replies
use Rattle.norm_lang.specs.Flow.{is_end}
use Rattle.source_machine.specs.Memory.{exchange}
use Rattle.source_machine.specs.MethodRuns.{MethodRun, run_begun, run_after}
use Rattle.source_machine.specs.Run.{is_call, is_enabled_for}
use Rattle.source_machine.specs.declared.state.Memory.{Memory}
use Rattle.source_machine.specs.declared.state.SourceCaller.{SourceCaller}
use Rattle.source_machine.specs.Step.{replied, give_up_reply, Turn, caller_turn}
use Rattle.target_code.specs.declared.target.Target.{Target}
use Rattle.target_code.specs.declared.target.TargetInstr.TheVariants.{Plain}
use Rattle.target_code.specs.Erasing.{source_place}
use Rattle.target_laws.specs.Methods.{Method, code_in, generator_of, wrapup_of}
use Rattle.run_ahead.specs.Ahead.{IsErased, IsCompiled}
use Rattle.run_ahead.specs.Following.{Walk, generator_walk, wrapup_walk, Follows}
use Rattle.run_ahead.specs.Standing.{Call, caller_of, first_spot, begins_at, stands_in_list, wrap_up_after, turn_if_enabled}

-- an event is enabled, leads to a turn, and a method run begins there
pub record Turns (text : Text) (event : SourceEvent) (memory : Memory) (caller : SourceCaller) (turn : Turn) : Type 0 where
  pub enabled : is_enabled_for text event (Some caller) memory ≡ true
  pub turns : caller_turn text event memory caller ≡ turn
  pub run : (was : MethodRun) → run_after text event memory caller was ≡ run_begun turn.memory

-- ---- the generator

-- an idle caller begins a call of an operation: the source's caller follows the core's, which begins with the same arguments
abbrev pub BeginsAreFollowed : Type 0 → Type 0
BeginsAreFollowed calm =
    (target : Target) (text : Text) → IsNormal text → (home : ℕ → ℕ) → home 0 ≡ 0 → (method : Method target text) (call : Call) → call.number ≡ method.number
    → is_call text call.number call.args ≡ true → (c : ℕ) (memory : Memory)
    → Turns text (events.Begin c call.number call.args) memory (caller_of call) (record { memory = memory; caller = begins_at method.op false (first_registers call.args) call })
    × Follows (generator_walk method call) home calm [] (first_spot (first_registers call.args)) (first_registers call.args) false (begins_at method.op false (first_registers call.args) call)

-- at a commit of the generator the source's caller stands before the list's first exchange, with the mirror's registers
abbrev pub CommitsAreFollowed : Type 0 → Type 0
CommitsAreFollowed calm =
    (target : Target) (text : Text) → IsErased target text → (home : ℕ → ℕ) (method : Method target text) (call : Call)
    → (path : List ℕ) (core : Spot) (mirror : Registers) (accessed : Bool) (caller : SourceCaller) → Follows (generator_walk method call) home calm path core mirror accessed caller
    → (entries : List CasEntry) → slice_get (code_in (generator_of method)) core.at ≡ Some (Plain (instr.Commit entries))
    → caller ≡ stands_in_list (source_place (code_in (generator_of method)) core.at) entries 0 mirror call

-- ---- the list

-- an exchange of the list that fails, or the end of an empty list, begins the wrap-up; one that succeeds does so if it is the last
pub record ListTurns (text : Text) (c : ℕ) (op : Op) (at : ℕ) (entries : List CasEntry) (made : ℕ) (registers : Registers) (call : Call) (memory : Memory) : Type 0 where
  pub ends : slice_get entries made ≡ None
      → Turns text (events.Access c 0) memory (stands_in_list at entries made registers call) (record { memory = memory; caller = wrap_up_after op made registers call })
  pub fails : (entry : CasEntry) → slice_get entries made ≡ Some entry → exchange text.fields entry registers memory ≡ None
      → Turns text (events.Access c 0) memory (stands_in_list at entries made registers call) (record { memory = memory; caller = wrap_up_after op made registers call })
  pub succeeds : (entry : CasEntry) (after : Memory) → slice_get entries made ≡ Some entry → exchange text.fields entry registers memory ≡ Some after
      → Turns text (events.Access c 0) memory (stands_in_list at entries made registers call)
      (record { memory = after; caller = if nat_lt (made + 1) (length entries) then stands_in_list at entries (made + 1) registers call else wrap_up_after op (made + 1) registers call })

abbrev pub ListsAreMade : Type 0
ListsAreMade =
    (text : Text) (c : ℕ) (op : Op) (at : ℕ) (entries : List CasEntry) (made : ℕ) (registers : Registers) (call : Call) (memory : Memory)
    → slice_get text.ops call.number ≡ Some op → ListTurns text c op at entries made registers call memory

-- ---- the wrap-up

-- after a commit with so many exchanges that succeeded the wrap-up begins, on both sides with the registers of the commit and the
-- count, and the source's caller follows the core's. Nothing that it carries over was left unchecked, so it doesn't matter
-- whether the caller has been warned
abbrev pub WrapUpsBegin : Type 0 → Type 0 → Type 0
WrapUpsBegin calm calm' =
    (target : Target) (text : Text) → IsCompiled target text → (home : ℕ → ℕ) (method : Method target text) (call : Call)
    → (path : List ℕ) (core : Spot) (mirror : Registers) (accessed : Bool) (caller : SourceCaller) → Follows (generator_walk method call) home calm path core mirror accessed caller
    → (entries : List CasEntry) (made : ℕ) → slice_get (code_in (generator_of method)) core.at ≡ Some (Plain (instr.Commit entries))
    → Follows (wrapup_walk method call (with_count core.registers made) (with_count mirror made)) home calm' [] (first_spot (with_count core.registers made)) (with_count mirror made) false
    (wrap_up_after method.op made mirror call)

-- where the end of a wrap-up leaves the source's caller: with a reply, whose number is the one in the core's register, or at the
-- start of the operation
abbrev pub ended_at : Op → Instr → Registers → Call → SourceCaller
ended_at op (instr.Return a) registers call = replied (replies.Number (number_in registers a)) (caller_of call)
ended_at op instr.ReturnNone registers call = replied replies.Nothing (caller_of call)
ended_at op _ registers call = begins_at op false (first_registers call.args) call

-- the core's caller has come to an end of the wrap-up: the source's has ended already, if its run has made no access; else it
-- ends by an access that touches no memory
pub record Ends {target : Target} {text : Text} (method : Method target text) (call : Call) (core : Spot) (accessed : Bool) (caller : SourceCaller) (i : Instr) : Type 0 where
  pub ended : accessed ≡ false → caller ≡ ended_at method.op i core.registers call
  pub ends : accessed ≡ true → (c : ℕ) (memory : Memory)
      → Turns text (events.Access c 0) memory caller (record { memory = memory; caller = ended_at method.op i core.registers call })

abbrev pub EndsAreFollowed : Type 0 → Type 0
EndsAreFollowed calm =
    (target : Target) (text : Text) → IsCompiled target text → (home : ℕ → ℕ) (method : Method target text) (call : Call) (first started : Registers)
    → (path : List ℕ) (core : Spot) (mirror : Registers) (accessed : Bool) (caller : SourceCaller) → Follows (wrapup_walk method call first started) home calm path core mirror accessed caller
    → (i : Instr) → slice_get (code_in (wrapup_of method)) core.at ≡ Some (Plain i) → IsTrue (is_end i) → Ends method call core accessed caller i

-- after `again` the source's caller follows the core's from the generator's start
abbrev pub AgainIsFollowed : Type 0 → Type 0
AgainIsFollowed calm =
    (target : Target) (text : Text) → IsNormal text → (home : ℕ → ℕ) → home 0 ≡ 0 → (method : Method target text) (call : Call) → call.number ≡ method.number
    → (registers : Registers) → Follows (generator_walk method call) home calm [] (first_spot (first_registers call.args)) (first_registers call.args) false (ended_at method.op instr.Again registers call)

-- ---- a method begins again

-- the event, if it is enabled, leaves memory as it is, and a method run begins that has got nothing; if it isn't, the wrap-up has
-- ended already without an access. In either case the source's caller follows the core's from the method's start
pub record RestartFollows {target : Target} {text : Text} (walk : Walk target text) (home : ℕ → ℕ) (calm : Type 0) (event : SourceEvent) (before : Memory) (caller : SourceCaller) : Type 0 where
  pub memory : (turn_if_enabled text event before caller).memory ≡ before
  pub follows : Follows walk home calm [] (first_spot walk.first) walk.started false (turn_if_enabled text event before caller).caller
  pub run : is_enabled_for text event (Some caller) before ≡ true → (was : MethodRun) → run_after text event before caller was ≡ run_begun before

abbrev pub RestartsAreFollowed : Type 0 → Type 0 → Type 0
RestartsAreFollowed calm calm' =
    (target : Target) (text : Text) → IsErased target text → (home : ℕ → ℕ)
    → (walk : Walk target text) (path : List ℕ) (core : Spot) (mirror : Registers) (accessed : Bool) (caller : SourceCaller) → Follows walk home calm path core mirror accessed caller
    → (c : ℕ) (memory : Memory) → RestartFollows walk home calm' (events.Restart c) memory caller

-- ---- a caller gives up

-- at a `new` the source's caller may give up, with the reply that it gives
abbrev pub GivingUpIsFollowed : Type 0 → Type 0
GivingUpIsFollowed calm =
    (target : Target) (text : Text) → IsErased target text → (home : ℕ → ℕ)
    → (walk : Walk target text) (path : List ℕ) (core : Spot) (mirror : Registers) (accessed : Bool) (caller : SourceCaller) → Follows walk home calm path core mirror accessed caller
    → (d : Reg) (kind : ℕ) → slice_get (code_in walk.method) core.at ≡ Some (Plain (instr.New d kind)) → (c : ℕ) (phase : Option ℕ) (memory : Memory)
    → Turns text (events.GiveUp c phase) memory caller (record { memory = memory; caller = replied (give_up_reply phase) (caller_of walk.call) })
