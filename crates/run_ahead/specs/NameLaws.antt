-- What memory and registers hold: values of their kinds, and names that a method run got or keeps.
use Rattle.std.specs.Prelude.{◌≡◌, ℕ, ◌⊎◌, Bool, true, false, List, [], Some, slice_get, IsTrue}
use Rattle.norm_lang.specs.declared.text.Reg.TheVariants.{Ref}
use Rattle.norm_lang.specs.declared.text.CasEntry.{CasEntry}
use Rattle.norm_lang.specs.declared.text.Instr.{Instr}
use Rattle.norm_lang.specs.declared.text.Op.{Op}
use Rattle.norm_lang.specs.declared.text.Text.{Text}
use Rattle.norm_lang.specs.declared.registers.Registers.{Registers}
use Rattle.norm_lang.specs.Kept.{IsKept}
use Rattle.norm_lang.specs.Limits.{IsWithinLimits}
use Rattle.norm_lang.specs.Local.{Spot}
use Rattle.norm_lang.specs.NormalForm.{IsNormal}
use Rattle.norm_lang.specs.Registers.{node_in}
use Rattle.target_laws.specs.local_laws.Settling.{is_access}
use Rattle.source_machine.specs.declared.event.SourceEvent.{SourceEvent}
use Rattle.source_machine.specs.Run.{IsSourceRun}
use Rattle.source_machine.specs.declared.state.NamedNode.{NamedNode}
use Rattle.source_machine.specs.declared.state.SourceCaller.{SourceCaller}
use Rattle.source_machine.specs.declared.state.SourceMachine.{SourceMachine}
use Rattle.target_code.specs.declared.target.Target.{Target}
use Rattle.target_code.specs.declared.target.TargetInstr.{TargetInstr}
use Rattle.target_code.specs.declared.target.TargetInstr.TheVariants.{Plain}
use Rattle.target_laws.specs.Methods.{Method, code_in}
use Rattle.target_laws.specs.Trusted.{trust_along}
use Rattle.run_ahead.specs.Ahead.{IsHoped, IsErased, IsCompiled}
use Rattle.run_ahead.specs.Following.{Walk, Follows}
use Rattle.run_ahead.specs.Guards.{GuardRow, guards_after}
use Rattle.run_ahead.specs.Known.{IsGot, AreGot, IsNameKept}
use Rattle.run_ahead.specs.Standing.{Call, stands_in_list}
use Rattle.run_ahead.specs.Typed.{IsTyped, AreAsked, AreAskedBy}
use Rattle.run_ahead.specs.TypedCallers.{IsTypedCaller}

-- along every source run of a text in normal form memory holds values of their kinds
abbrev pub MemoryIsTyped : Type 0
MemoryIsTyped =
    (text : Text) → IsNormal text → IsWithinLimits text → (callers : ℕ) (events : List SourceEvent) (state : SourceMachine)
    → IsSourceRun text callers events state → IsTyped text state.memory

-- and registers name nodes of kinds that they may have where their callers stand
abbrev pub CallersAreTyped : Type 0
CallersAreTyped =
    (text : Text) → IsNormal text → IsWithinLimits text → (callers : ℕ) (events : List SourceEvent) (state : SourceMachine)
    → IsSourceRun text callers events state → (c : ℕ) (caller : SourceCaller) → slice_get state.callers c ≡ Some caller → IsTypedCaller text state.memory.nodes caller

-- so if the core comes to an access, and the source with it, each register that the access asks to be of a kind names null or a
-- node of the kind
abbrev pub AccessesFindKinds : Type 0 → Type 0
AccessesFindKinds calm =
    (target : Target) (text : Text) → IsErased target text → (home : ℕ → ℕ)
    → (walk : Walk target text) (path : List ℕ) (core : Spot) (mirror : Registers) (accessed : Bool) (caller : SourceCaller) → Follows walk home calm path core mirror accessed caller
    → (nodes : List NamedNode) → IsTypedCaller text nodes caller → (i : Instr) → slice_get (code_in walk.method) core.at ≡ Some (Plain i) → IsTrue (is_access i)
    → AreAsked text i nodes mirror

-- and so it is of each exchange of the executor's list
abbrev pub ListsFindKinds : Type 0
ListsFindKinds =
    (text : Text) → IsNormal text → (op : Op) (at : ℕ) (entries : List CasEntry) (made : ℕ) (registers : Registers) (call : Call) → slice_get text.ops call.number ≡ Some op
    → (nodes : List NamedNode) → IsTypedCaller text nodes (stands_in_list at entries made registers call) → (k : ℕ) (entry : CasEntry) → slice_get entries k ≡ Some entry
    → AreAskedBy text entry nodes registers

-- a method run begins with no name got
abbrev pub StartsGetNothing : Type 0
StartsGetNothing = (target : Target) (text : Text) (method : Method target text) (started : Registers) → AreGot method [] started started []

-- each name that a passed check speaks of is null, or the run has got it, or a wrap-up keeps it. A generator begins without names
abbrev pub HopedAreKnown : Type 0
HopedAreKnown =
    (target : Target) (text : Text) (method : Method target text) (path : List ℕ) (started mirror : Registers) (got : List ℕ)
    → (method.wrapup ≡ false → (r : ℕ) → node_in started r ≡ 0) → AreGot method path started mirror got
    → (n : ℕ) → IsHoped (trust_along method path) mirror n → IsGot got n ⊎ IsNameKept method started mirror n

-- in a wrap-up no instruction takes the guard of a kept register away, if that is validated or null
abbrev pub KeptGuardsStay : Type 0
KeptGuardsStay =
    (target : Target) (text : Text) → IsCompiled target text → (method : Method target text) → IsTrue method.wrapup → (r : ℕ) → IsKept method.op (Ref r)
    → (at : ℕ) (i : TargetInstr) (registers : Registers) (row : GuardRow) → slice_get (code_in method) at ≡ Some i → (row.valid r ≡ true) ⊎ (row.name r ≡ 0)
    → ((guards_after i registers row).name r ≡ row.name r) × (((guards_after i registers row).valid r ≡ true) ⊎ (row.name r ≡ 0))
