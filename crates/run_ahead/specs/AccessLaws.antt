-- Each access of a method, made by the core and by the source.
use Rattle.std.specs.Prelude.{◌≡◌, ℕ, ◌+◌, ◌⊎◌, Bool, true, false, ◌&&◌, not, List, ◌∷◌, Some, None, unwrap_or, is_some, ◌==◌, if◌then◌else◌, slice_get, IsTrue}
use Rattle.std.specs.List.{list_any}
use Rattle.norm_lang.specs.declared.text.Reg.{Reg}
use Rattle.norm_lang.specs.declared.text.Reg.TheVariants.{Ref}
use Rattle.norm_lang.specs.declared.text.Place.{Place}
use Rattle.norm_lang.specs.declared.text.Place.TheVariants as places
use Rattle.norm_lang.specs.declared.text.CasEntry.{CasEntry}
use Rattle.norm_lang.specs.declared.text.Instr.{Instr}
use Rattle.norm_lang.specs.declared.text.Instr.TheVariants as instr
use Rattle.norm_lang.specs.declared.text.Text.{Text}
use Rattle.norm_lang.specs.declared.text.FieldDecl.{FieldDecl}
use Rattle.norm_lang.specs.declared.registers.Registers.{Registers}
use Rattle.norm_lang.specs.Local.{Spot}
use Rattle.norm_lang.specs.Registers.{reference_in, with_reference, node_in}
use Rattle.norm_lang.specs.RegisterUse.{same_register, operands_of, entry_sources}
use Rattle.source_machine.specs.declared.event.SourceEvent.{SourceEvent}
use Rattle.source_machine.specs.declared.event.SourceEvent.TheVariants as events
use Rattle.source_machine.specs.Memory.{value_in, with_value, same_value, loaded, found_at, exchange, access_by}
use Rattle.source_machine.specs.MethodRuns.{MethodRun, with_name, run_with, name_in, run_after}
use Rattle.source_machine.specs.Run.{is_name, is_enabled_for}
use Rattle.source_machine.specs.declared.state.Value.{Value}
use Rattle.source_machine.specs.declared.state.Memory.{Memory}
use Rattle.source_machine.specs.declared.state.SourceCaller.{SourceCaller}
use Rattle.source_machine.specs.Step.{caller_turn}
use Rattle.target_code.specs.declared.target.Target.{Target}
use Rattle.target_code.specs.declared.target.TargetInstr.TheVariants.{Plain}
use Rattle.target_laws.specs.Methods.{code_in}
use Rattle.target_laws.specs.Uses.{entries_of}
use Rattle.run_ahead.specs.Agreeing.{Agree, AreApart}
use Rattle.run_ahead.specs.Ahead.{IsErased, IsCompiled}
use Rattle.run_ahead.specs.Following.{Walk, Follows}
use Rattle.run_ahead.specs.Guards.{GuardRow, guards_after, IsUnderGuard, GuardsStand}
use Rattle.run_ahead.specs.Known.{AreGot}
use Rattle.run_ahead.specs.Standing.{loads_into, IsValueFor, ValuesAgree}
use Rattle.run_ahead.specs.Typed.{IsTyped}
use Rattle.run_ahead.specs.TypedCallers.{IsTypedCaller}

-- the core made an access and came to a spot. The source makes it too, by an event that is enabled: that leaves memory as told,
-- its method run has got the name that is given, if any, and its caller follows the core again
pub record AccessFollows {target : Target} {text : Text} (walk : Walk target text) (home : ℕ → ℕ) (calm : Type 0) (path : List ℕ) (at : ℕ) (next : Spot) (mirror mirror' : Registers)
    (i : Instr) (given : ℕ) (event : SourceEvent) (before after : Memory) (caller : SourceCaller) : Type 0 where
  pub enabled : is_enabled_for text event (Some caller) before ≡ true
  pub memory : (caller_turn text event before caller).memory ≡ after
  pub follows : Follows walk home calm (at ∷ path) next mirror' walk.method.wrapup (caller_turn text event before caller).caller
  pub run : (was : MethodRun) → run_after text event before caller was ≡ run_with given was
  pub got : (names : List ℕ) → AreGot walk.method path walk.started mirror names → AreGot walk.method (at ∷ path) walk.started mirror' (with_name given names)
  pub guards : (row : GuardRow) → GuardsStand walk.method path mirror row → GuardsStand walk.method (at ∷ path) mirror' (guards_after (Plain i) mirror row)

-- a load, of a root, of one of several or of a field: it finds a value of its register's kind, and unless the caller was warned
-- the one that the source finds
abbrev pub LoadsAreFollowed : Type 0 → Type 0
LoadsAreFollowed calm =
    (target : Target) (text : Text) → IsErased target text → (home : ℕ → ℕ) → home 0 ≡ 0
    → (walk : Walk target text) (path : List ℕ) (core : Spot) (mirror : Registers) (accessed : Bool) (caller : SourceCaller) → Follows walk home calm path core mirror accessed caller
    → (i : Instr) (d : Reg) → slice_get (code_in walk.method) core.at ≡ Some (Plain i) → loads_into i ≡ Some d
    → (c : ℕ) (memory : Memory) (found : Value) → IsTyped text memory → IsTypedCaller text memory.nodes caller → IsValueFor d found → (calm → ValuesAgree home found (loaded text i mirror memory))
    → AccessFollows walk home calm path core.at (record { at = core.at + 1; registers = with_value core.registers d found }) mirror (with_value mirror d (loaded text i mirror memory))
    i (name_in (loaded text i mirror memory)) (events.Access c 0) memory memory caller

-- a `new` of a name that isn't in use: the core's register gets the name's home
abbrev pub NewNodesAreFollowed : Type 0 → Type 0
NewNodesAreFollowed calm =
    (target : Target) (text : Text) → IsErased target text → (home : ℕ → ℕ) → home 0 ≡ 0
    → (walk : Walk target text) (path : List ℕ) (core : Spot) (mirror : Registers) (accessed : Bool) (caller : SourceCaller) → Follows walk home calm path core mirror accessed caller
    → (d : Reg) (kind : ℕ) → slice_get (code_in walk.method) core.at ≡ Some (Plain (instr.New d kind)) → (c name : ℕ) (memory : Memory) → IsTrue (is_name true name memory.nodes)
    → AccessFollows walk home calm path core.at (record { at = core.at + 1; registers = with_reference core.registers d (record { node = home name; marked = false }) })
    mirror (with_reference mirror d (record { node = name; marked = false })) (instr.New d kind) name (events.Access c name) memory (access_by text name (instr.New d kind) 0 mirror memory).memory caller

-- a put
abbrev pub PutsAreFollowed : Type 0 → Type 0
PutsAreFollowed calm =
    (target : Target) (text : Text) → IsErased target text → (home : ℕ → ℕ)
    → (walk : Walk target text) (path : List ℕ) (core : Spot) (mirror : Registers) (accessed : Bool) (caller : SourceCaller) → Follows walk home calm path core mirror accessed caller
    → (a b : Reg) (f : ℕ) → slice_get (code_in walk.method) core.at ≡ Some (Plain (instr.Put a f b)) → (c : ℕ) (memory : Memory)
    → AccessFollows walk home calm path core.at (record { at = core.at + 1; registers = core.registers }) mirror mirror
    (instr.Put a f b) 0 (events.Access c 0) memory (access_by text 0 (instr.Put a f b) 0 mirror memory).memory caller

-- an auxiliary exchange, that succeeds on both sides or on neither
abbrev pub ExchangesAreFollowed : Type 0 → Type 0
ExchangesAreFollowed calm =
    (target : Target) (text : Text) → IsErased target text → (home : ℕ → ℕ)
    → (walk : Walk target text) (path : List ℕ) (core : Spot) (mirror : Registers) (accessed : Bool) (caller : SourceCaller) → Follows walk home calm path core mirror accessed caller
    → (entry : CasEntry) (l : ℕ) → slice_get (code_in walk.method) core.at ≡ Some (Plain (instr.Cas entry l))
    → (c : ℕ) (memory : Memory) (succeeds : Bool) → succeeds ≡ is_some (exchange text.fields entry mirror memory)
    → AccessFollows walk home calm path core.at (record { at = if succeeds then core.at + 1 else l; registers = core.registers }) mirror mirror
    (instr.Cas entry l) 0 (events.Access c 0) memory (unwrap_or (exchange text.fields entry mirror memory) memory) caller

-- ---- the test of an exchange

-- the object of a place is null; a root has no object
abbrev pub has_null_object : Place → Registers → Bool
has_null_object (places.Root x) registers = false
has_null_object (places.Field a f) registers = (reference_in registers a).node == 0

-- an exchange succeeds that would find a value: its object isn't null, and it expects that value
abbrev pub succeeds_on : CasEntry → Registers → Value → Bool
succeeds_on entry registers found = not (has_null_object entry.place registers) && same_value found (value_in registers entry.expected)

-- the names that the test of an exchange compares: null, the one that it finds, and those of its operands
abbrev pub IsCompared : CasEntry → Registers → Value → ℕ → Type 0
IsCompared entry mirror found n = (n ≡ 0) ⊎ ((n ≡ name_in found) ⊎ ((r : ℕ) × IsTrue (list_any (same_register (Ref r)) (operands_of entry)) × (node_in mirror r ≡ n)))

-- an exchange whose operands agree succeeds in the core exactly if it does in the source, provided that the names that it compares
-- have different homes, and that unless its object is null both sides find what agrees
abbrev pub TestsAgree : Type 0
TestsAgree =
    (fields : List FieldDecl) (home : ℕ → ℕ) → home 0 ≡ 0 → (entry : CasEntry) (here mirror : Registers) (memory : Memory) (found found' : Value)
    → ((r : Reg) → IsTrue (list_any (same_register r) (operands_of entry)) → Agree home here mirror r) → AreApart home (IsCompared entry mirror found')
    → found_at fields entry.place mirror memory ≡ (if has_null_object entry.place mirror then None else Some found')
    → (has_null_object entry.place mirror ≡ false → ValuesAgree home found found')
    → succeeds_on entry here found ≡ is_some (exchange fields entry mirror memory)

-- what one exchange of an instruction reads is the same on both sides, its register to retire too, and each reference among its
-- operands is under a validated guard, or null
pub record OperandsStand {target : Target} {text : Text} (walk : Walk target text) (home : ℕ → ℕ) (path : List ℕ) (core : Spot) (mirror : Registers) (entry : CasEntry) : Type 0 where
  pub agree : (r : Reg) → IsTrue (list_any (same_register r) (entry_sources entry)) → Agree home core.registers mirror r
  pub guarded : (row : GuardRow) → GuardsStand walk.method path mirror row → (r : ℕ) → IsTrue (list_any (same_register (Ref r)) (operands_of entry)) → IsUnderGuard mirror row r

-- so it is of an auxiliary exchange, and of each exchange of a commit
abbrev pub OperandsAgree : Type 0 → Type 0
OperandsAgree calm =
    (target : Target) (text : Text) → IsCompiled target text → (home : ℕ → ℕ)
    → (walk : Walk target text) (path : List ℕ) (core : Spot) (mirror : Registers) (accessed : Bool) (caller : SourceCaller) → Follows walk home calm path core mirror accessed caller
    → (i : Instr) (k : ℕ) (entry : CasEntry) → slice_get (code_in walk.method) core.at ≡ Some (Plain i) → slice_get (entries_of i) k ≡ Some entry
    → OperandsStand walk home path core mirror entry
