-- A core caller's walk through a method, against the source's caller.
use Rattle.std.specs.Prelude.{◌≡◌, ℕ, Bool, true, false, List}
use Rattle.norm_lang.specs.declared.text.Text.{Text}
use Rattle.norm_lang.specs.declared.registers.Registers.{Registers}
use Rattle.norm_lang.specs.Local.{Spot}
use Rattle.norm_lang.specs.Registers.{first_registers}
use Rattle.target_laws.specs.local_laws.Settling.{Settles}
use Rattle.source_machine.specs.declared.state.SourceCaller.{SourceCaller}
use Rattle.target_code.specs.declared.target.Target.{Target}
use Rattle.target_code.specs.Erasing.{source_place}
use Rattle.target_laws.specs.Methods.{Method, code_in, source_in, generator_of, wrapup_of}
use Rattle.run_ahead.specs.Ahead.{IsStart, Ahead}
use Rattle.run_ahead.specs.Standing.{Call, stands_at, first_spot, run_from}

-- a walk through a method: the call, and the registers with which the method began, the core's and the source's
pub record Walk (target : Target) (text : Text) : Type 0 where
  pub method : Method target text
  pub call : Call
  pub first : Registers
  pub started : Registers

-- through the generator of an operation, which begins with the call's arguments
abbrev pub generator_walk : {target : Target} {text : Text} → Method target text → Call → Walk target text
generator_walk method call = record { method = generator_of method; call = call; first = first_registers call.args; started = first_registers call.args }

-- and through its wrap-up
abbrev pub wrapup_walk : {target : Target} {text : Text} → Method target text → Call → Registers → Registers → Walk target text
wrapup_walk method call first started = record { method = wrapup_of method; call = call; first = first; started = started }

-- how a walk began: it is one of the call's operation, and a generator begins with the arguments
pub record HasBegun {target : Target} {text : Text} (walk : Walk target text) (home : ℕ → ℕ) : Type 0 where
  pub number : walk.call.number ≡ walk.method.number
  pub start : IsStart walk.method home walk.first walk.started
  pub generator : walk.method.wrapup ≡ false → (walk.first ≡ first_registers walk.call.args) × (walk.started ≡ first_registers walk.call.args)

-- the source's caller follows a core caller: its local code ran ahead, to where it stands. `accessed` is what the core keeps of
-- a wrap-up: whether this run of it has made a load or an exchange. As long as it hasn't, the source is where the start of the
-- wrap-up led it; it has then ended already if that is an end. A generator owes no access at its end, so that the core keeps
-- nothing of its accesses
pub record Follows {target : Target} {text : Text} (walk : Walk target text) (home : ℕ → ℕ) (calm : Type 0) (path : List ℕ) (core : Spot) (mirror : Registers) (accessed : Bool) (caller : SourceCaller) : Type 0 where
  pub there : Spot
  pub begun : HasBegun walk home
  pub ahead : Ahead walk.method home calm path core mirror there
  pub stands : caller ≡ stands_at walk.method.op walk.method.wrapup walk.started accessed walk.call there
  pub unmoved : walk.method.wrapup ≡ true → accessed ≡ false → there ≡ run_from walk.method.op walk.method.wrapup (first_spot walk.started)

-- what this says of the source alone: its local code has come from the core's place to where its caller stands. Nothing is asked of
-- the core's registers, nor of what can be trusted of them
pub record StandsAhead {target : Target} {text : Text} (method : Method target text) (started : Registers) (accessed : Bool) (call : Call) (at : ℕ) (mirror : Registers) (there : Spot) (caller : SourceCaller) : Type 0 where
  pub number : call.number ≡ method.number
  pub settles : Settles (source_in method) (record { at = source_place (code_in method) at; registers = mirror }) there
  pub stands : caller ≡ stands_at method.op method.wrapup started accessed call there
