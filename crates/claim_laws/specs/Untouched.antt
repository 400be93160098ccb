-- That nothing in a run names a slot but the chain of its kind.
use Rattle.std.specs.Prelude.{◌≡◌, ◌≢◌, ℕ, zero, suc, ◌≤◌, true, Option, Some, None, slice_get, slice_index, All}
use Rattle.norm_lang.specs.declared.text.FieldKind.{FieldKind}
use Rattle.norm_lang.specs.declared.text.FieldKind.TheVariants as holdings
use Rattle.norm_lang.specs.declared.text.Reg.TheVariants.{Ref}
use Rattle.norm_lang.specs.declared.registers.Registers.{Registers}
use Rattle.norm_lang.specs.Registers.{reference_in}
use Rattle.norm_lang.specs.InstructionRules.{root_kind}
use Rattle.target_code.specs.declared.target.Target.{Target}
use Rattle.oa_words.specs.declared.packed.Kind.TheVariants as statuses
use Rattle.oa_words.specs.Words.{Sizes, Word, Phase, Place, Warning, Hazard, Status, FieldOf, Cell, Head, Link, in_row}
use Rattle.oa_words.specs.SlotKinds.{kind_of, range_at}
use Rattle.oa_words.specs.Packed.{slot_part, status_word}
use Rattle.oa_words.specs.Starts.{first_ready}
use Rattle.guard_words.specs.Guards.{guard_at}
use Rattle.phase_pools.specs.declared.stages.ClaimStage.{ClaimStage}
use Rattle.phase_pools.specs.declared.stages.ClaimStage.TheVariants as stages
use Rattle.caller_parts.specs.declared.routine.Routine.{Routine}
use Rattle.caller_parts.specs.declared.routine.Routine.TheVariants.{Retires, Claims}
use Rattle.caller_parts.specs.Settings.{Setting}
use Rattle.caller_steps.specs.Entries.{Entry}
use Rattle.caller_steps.specs.Lawful.{held_at}
use Rattle.core_runs.specs.Machine.{CoreState, word_at}

-- how many initial nodes a kind has
abbrev pub nodes_in : Setting → ℕ → ℕ
nodes_in setting k = slice_index setting.nodes k

-- a slot that held no initial node at the start: those of a kind stand in its first slots
abbrev pub HeldNone : Setting → ℕ → Type 0
HeldNone setting j = first_ready (range_at setting.sizes j) (nodes_in setting (kind_of setting.sizes j)) ≤ j

-- a reference to another slot, or a number
abbrev pub ValueAvoids : ℕ → Option FieldKind → ℕ → Type 0
ValueAvoids j None word = Unit {0}
ValueAvoids j (Some holdings.Number) word = Unit {0}
ValueAvoids j (Some (holdings.Reference k)) word = slot_part word ≢ j

-- a word of the row: a hazard, a field of null, a slot's field or a root that names another slot or null. Heads and links may name it
abbrev pub WordAvoids : Target → Sizes → ℕ → Word → ℕ → Type 0
WordAvoids target n j Phase word = Unit {0}
WordAvoids target n j (Place c) word = Unit {0}
WordAvoids target n j (Warning c) word = Unit {0}
WordAvoids target n j (Hazard c r) word = word ≢ j
WordAvoids target n j (Status i) word = Unit {0}
WordAvoids target n j (FieldOf zero g) word = slot_part word ≢ j
WordAvoids target n j (FieldOf (suc i) g) word = ValueAvoids j (held_at target (kind_of n (suc i)) g) word
WordAvoids target n j (Cell x) word = ValueAvoids j (root_kind target.roots x) word
WordAvoids target n j (Head t) word = Unit {0}
WordAvoids target n j (Link i) word = Unit {0}

abbrev pub RegistersAvoid : ℕ → Registers → Type 0
RegistersAvoid j registers = (r : ℕ) → (reference_in registers (Ref r)).node ≢ j

-- the slot that a claim has taken is another
abbrev pub StageAvoids : ℕ → ClaimStage → Type 0
StageAvoids j stages.ReadHead = Unit {0}
StageAvoids j (stages.ReadLink q t) = Unit {0}
StageAvoids j (stages.Take q t next) = Unit {0}
StageAvoids j (stages.StoreUsed q t) = t ≢ j
StageAvoids j (stages.Withdraw own) = Unit {0}
StageAvoids j stages.Sweeps = Unit {0}

-- what is retired is another slot, and so are the one that a claim has taken, and each that a sweep has gathered
abbrev pub RoutineAvoids : ℕ → Routine → Type 0
RoutineAvoids j (Retires retirement go) = retirement.slot ≢ j
RoutineAvoids j (Claims claim) = All (λ slot. slot ≢ j) claim.sweep.gathered × StageAvoids j claim.stage
RoutineAvoids j _ = Unit {0}

-- nothing that a caller holds names the slot
pub record EntryAvoids (j : ℕ) (e : Entry) : Type 0 where
  pub registers : RegistersAvoid j e.hand.registers
  pub started : RegistersAvoid j e.hand.started
  pub guards : (r : ℕ) → guard_at e.hand.guards r ≢ j
  pub cradles : (k : ℕ) → slice_index e.cradles k ≢ j
  pub routine : RoutineAvoids j e.routine

-- a slot is ready since the start, and only the chain of its kind names it
pub record IsUntouched (target : Target) (setting : Setting) (state : CoreState) (j : ℕ) : Type 0 where
  pub status : word_at setting state (Status j) ≡ status_word setting.first statuses.Ready
  pub words : (w : Word) → in_row setting.sizes w ≡ true → WordAvoids target setting.sizes j w (word_at setting state w)
  pub entries : (c : ℕ) (e : Entry) → slice_get state.entries c ≡ Some e → EntryAvoids j e
