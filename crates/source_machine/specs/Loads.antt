-- Loads, made in place: the event is made, or nothing is.
use Rattle.std.specs.Prelude.{◌≡◌, ℕ, Bool, true, false, List, length, Option, Some, None, slice_get, slice_set}
use Rattle.norm_lang.specs.declared.text.Instr.{Instr}
use Rattle.norm_lang.specs.declared.text.Instr.TheVariants as instr
use Rattle.norm_lang.specs.declared.text.Op.{Op}
use Rattle.norm_lang.specs.declared.text.Text.{Text}
use Rattle.norm_lang.specs.declared.registers.Registers.{Registers}
use Rattle.norm_lang.specs.Local.{local_run}
use Rattle.source_machine.specs.declared.event.SourceEvent.{SourceEvent}
use Rattle.source_machine.specs.declared.event.SourceEvent.TheVariants as events
use Rattle.source_machine.specs.State.{Memory, Stand, Running, SourceCaller, SourceMachine}
use Rattle.source_machine.specs.Memory.{access_at}
use Rattle.source_machine.specs.Step.{goes_on, performed, access_turn, caller_turn}
use Rattle.source_machine.specs.Run.{is_pending, is_new_pending, is_enabled_by, is_enabled, source_step}

-- a load stands at the place
abbrev pub is_load_at : Option Instr → Bool
is_load_at (Some (instr.LoadRoot d x)) = true
is_load_at (Some (instr.LoadPick d x count a)) = true
is_load_at (Some (instr.LoadField d a f)) = true
is_load_at _ = false

-- a commit stands at the place
abbrev pub is_commit_at : Option Instr → Bool
is_commit_at (Some (instr.Commit entries)) = true
is_commit_at _ = false

-- the load at a place of a method is made, and its local code leads on; or nothing is
abbrev pub LoadsOn : Text → Memory → List Instr → ℕ → Registers → Registers → Option ℕ → Type 0
LoadsOn text memory code at old new None = new ≡ old
LoadsOn text memory code at old new (Some next) =
    (is_load_at (slice_get code at) ≡ true)
    × (local_run code (length code) (access_at text 0 (slice_get code at) at old memory).spot ≡ record { at = next; registers = new })

-- and the local code doesn't come to a commit
abbrev pub LoadsBefore : Text → Memory → List Instr → ℕ → Registers → Registers → Option ℕ → Type 0
LoadsBefore text memory code at old new None = new ≡ old
LoadsBefore text memory code at old new (Some next) =
    LoadsOn text memory code at old new (Some next) × (is_commit_at (slice_get code next) ≡ false)

-- the access of an operation changes only where it stands and what its registers hold
abbrev pub StandsAfter : Text → Memory → Op → Registers → Stand → Registers → Stand → Type 0
StandsAfter text memory op old stood new stands =
    (running : Running) (caller : SourceCaller) → running.registers ≡ old
    → access_turn text 0 op stood running memory caller ≡ record { memory = memory; caller = goes_on (record running { registers = new; stand = stands }) caller }

abbrev pub LoadsStanding : Text → Memory → Op → Registers → Stand → Registers → Stand → Bool → Type 0
LoadsStanding text memory op old stood new stands false = (new ≡ old) × (stands ≡ stood)
LoadsStanding text memory op old stood new stands true =
    (is_pending op stood ≡ true) × (is_new_pending op stood ≡ false) × StandsAfter text memory op old stood new stands

abbrev pub LoadsRunning : Text → Memory → Running → Running → Bool → Type 0
LoadsRunning text memory old new false = new ≡ old
LoadsRunning text memory old new true =
    (op : Op) × (slice_get text.ops old.op ≡ Some op) × (is_pending op old.stand ≡ true) × (is_new_pending op old.stand ≡ false)
    × ((caller : SourceCaller) → access_turn text 0 op old.stand old memory caller ≡ record { memory = memory; caller = goes_on new caller })

abbrev pub LoadsBy : Text → Memory → SourceCaller → SourceCaller → Bool → Type 0
LoadsBy text memory old new false = new ≡ old
LoadsBy text memory old new true =
    (c : ℕ) → (is_enabled_by text (events.Access c 0) (performed text old) memory old ≡ true)
    × (caller_turn text (events.Access c 0) memory old ≡ record { memory = memory; caller = new })

-- of the callers, by the number of the one that moves: it is another, and all others stay
pub record CallerLoads (text : Text) (memory : Memory) (c : ℕ) (old new : List SourceCaller) (caller : SourceCaller) : Type 0 where
  pub after : SourceCaller
  pub loads : LoadsBy text memory caller after true
  pub left : new ≡ slice_set old c after

abbrev pub LoadsAt : Text → Memory → ℕ → List SourceCaller → List SourceCaller → Option SourceCaller → Bool → Type 0
LoadsAt text memory c old new caller false = new ≡ old
LoadsAt text memory c old new None true = ⊥
LoadsAt text memory c old new (Some caller) true = CallerLoads text memory c old new caller

abbrev pub Loads : Text → SourceEvent → SourceMachine → SourceMachine → Bool → Type 0
Loads text event old new false = new ≡ old
Loads text event old new true = (is_enabled text old event ≡ true) × (new ≡ source_step text old event)
