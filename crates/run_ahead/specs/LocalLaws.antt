-- The source follows where the core's local code leads, through a check that passes, and through a guard.
use Rattle.std.specs.Prelude.{◌≡◌, ◌≢◌, ℕ, ◌+◌, Bool, List, ◌∷◌, ◌++◌, length, Some, slice_get, IsTrue, IsSomeAnd}
use Rattle.norm_lang.specs.declared.text.Reg.{Reg}
use Rattle.norm_lang.specs.declared.text.Text.{Text}
use Rattle.norm_lang.specs.declared.registers.Registers.{Registers}
use Rattle.norm_lang.specs.Local.{Spot}
use Rattle.source_machine.specs.declared.state.SourceCaller.{SourceCaller}
use Rattle.target_code.specs.declared.target.Target.{Target}
use Rattle.target_code.specs.declared.target.TargetInstr.TheVariants.{Check, Guard}
use Rattle.target_code.specs.LocalCode.{target_run}
use Rattle.target_laws.specs.LocalCode.{target_may_stop}
use Rattle.target_laws.specs.Methods.{code_in}
use Rattle.target_laws.specs.Trusted.{Trusted, Spoilt, trust_along}
use Rattle.run_ahead.specs.Agreeing.{Agree, AreApart}
use Rattle.run_ahead.specs.Ahead.{IsHoped, IsErased, IsCompiled}
use Rattle.run_ahead.specs.Following.{Walk, Follows}
use Rattle.run_ahead.specs.Guards.{GuardRow, validated, published, GuardsStand}
use Rattle.run_ahead.specs.Known.{AreGot}

-- the core has come along a path, to a spot, and the source's caller follows from where it stood: its run has got no other name,
-- and guards stand as they did
pub record RunsTo {target : Target} {text : Text} (walk : Walk target text) (home : ℕ → ℕ) (calm : Type 0) (path : List ℕ) (mirror : Registers) (accessed : Bool) (caller : SourceCaller) (path' : List ℕ) (next : Spot) : Type 0 where
  pub mirror' : Registers
  pub follows : Follows walk home calm path' next mirror' accessed caller
  pub got : (names : List ℕ) → AreGot walk.method path walk.started mirror names → AreGot walk.method path' walk.started mirror' names
  pub guards : (row : GuardRow) → GuardsStand walk.method path mirror row → GuardsStand walk.method path' mirror' row

-- the path goes on from where it was
abbrev pub RunsOn : {target : Target} {text : Text} → Walk target text → (ℕ → ℕ) → Type 0 → List ℕ → Registers → Bool → SourceCaller → Spot → Type 0
RunsOn walk home calm path mirror accessed caller next = (further : List ℕ) × RunsTo walk home calm path mirror accessed caller (further ++ path) next

-- the core's whole local run is followed, to an instruction of the method where it may stop
abbrev pub LocalRunsAreFollowed : Type 0 → Type 0
LocalRunsAreFollowed calm =
    (target : Target) (text : Text) → IsCompiled target text → (home : ℕ → ℕ) → home 0 ≡ 0
    → (walk : Walk target text) (path : List ℕ) (core : Spot) (mirror : Registers) (accessed : Bool) (caller : SourceCaller) → Follows walk home calm path core mirror accessed caller
    → let next = target_run (code_in walk.method) (length (code_in walk.method)) core in
    RunsOn walk home calm path mirror accessed caller next × IsSomeAnd (slice_get (code_in walk.method) next.at) (λ i. IsTrue (target_may_stop walk.method.wrapup i))

-- after a check that passed, the source's caller follows from where it stood; each register of which anything is known holds what
-- the source's does, and is trusted; what was published is validated
pub record Confirms {target : Target} {text : Text} (walk : Walk target text) (home : ℕ → ℕ) (calm : Type 0) (path : List ℕ) (core : Spot) (mirror : Registers) (accessed : Bool) (caller : SourceCaller) : Type 0 where
  pub follows : Follows walk home calm (core.at ∷ path) (record { at = core.at + 1; registers = core.registers }) mirror accessed caller
  pub agree : (r : Reg) → trust_along walk.method path r ≢ Spoilt → Agree home core.registers mirror r
  pub trusted : (r : Reg) → trust_along walk.method path r ≢ Spoilt → trust_along walk.method (core.at ∷ path) r ≡ Trusted
  pub got : (names : List ℕ) → AreGot walk.method path walk.started mirror names → AreGot walk.method (core.at ∷ path) walk.started mirror names
  pub guards : (row : GuardRow) → GuardsStand walk.method path mirror row → GuardsStand walk.method (core.at ∷ path) mirror (validated row)

-- a check passes if the caller wasn't warned; it confirms what the caller holds, if the names that would be trusted have
-- different homes
abbrev pub PassedChecksConfirm : Type 0 → Type 0
PassedChecksConfirm calm =
    (target : Target) (text : Text) → IsErased target text → (home : ℕ → ℕ)
    → (walk : Walk target text) (path : List ℕ) (core : Spot) (mirror : Registers) (accessed : Bool) (caller : SourceCaller) → Follows walk home calm path core mirror accessed caller
    → slice_get (code_in walk.method) core.at ≡ Some Check → calm → AreApart home (IsHoped (trust_along walk.method path) mirror)
    → Confirms walk home calm path core mirror accessed caller

-- after a guard the source's caller follows from where it stood, and the register's name is published
pub record Publishes {target : Target} {text : Text} (walk : Walk target text) (home : ℕ → ℕ) (calm : Type 0) (path : List ℕ) (core : Spot) (mirror : Registers) (accessed : Bool) (caller : SourceCaller) (guarded : Reg) : Type 0 where
  pub follows : Follows walk home calm (core.at ∷ path) (record { at = core.at + 1; registers = core.registers }) mirror accessed caller
  pub got : (names : List ℕ) → AreGot walk.method path walk.started mirror names → AreGot walk.method (core.at ∷ path) walk.started mirror names
  pub guards : (row : GuardRow) → GuardsStand walk.method path mirror row → GuardsStand walk.method (core.at ∷ path) mirror (published guarded mirror row)

-- each guard does
abbrev pub GuardsPublish : Type 0 → Type 0
GuardsPublish calm =
    (target : Target) (text : Text) → IsErased target text → (home : ℕ → ℕ)
    → (walk : Walk target text) (path : List ℕ) (core : Spot) (mirror : Registers) (accessed : Bool) (caller : SourceCaller) → Follows walk home calm path core mirror accessed caller
    → (guarded : Reg) → slice_get (code_in walk.method) core.at ≡ Some (Guard guarded) → Publishes walk home calm path core mirror accessed caller guarded

-- a caller that is warned knows less, and is followed all the same
abbrev pub WarnedAreFollowed : Type 0 → Type 0 → Type 0
WarnedAreFollowed calm calm' =
    (target : Target) (text : Text) (home : ℕ → ℕ) (walk : Walk target text) (path : List ℕ) (core : Spot) (mirror : Registers) (accessed : Bool) (caller : SourceCaller)
    → (calm' → calm) → Follows walk home calm path core mirror accessed caller → Follows walk home calm' path core mirror accessed caller
