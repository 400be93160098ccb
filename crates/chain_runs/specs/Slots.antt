-- The chains of ready slots in a state of the core, one of each kind, and who has a ready slot that stands in none.
use Rattle.std.specs.Prelude.{ℕ, ◌≡◌, ◌≢◌, ◌≤◌, ◌<◌, ◌⊎◌, List, length, Some}
use Rattle.norm_lang.specs.declared.text.Text.{Text}
use Rattle.target_code.specs.declared.target.Target.{Target}
use Rattle.oa_words.specs.declared.packed.Kind.TheVariants as kinds
use Rattle.oa_words.specs.Words.{Word, Status, Head, Link, slot_range, IsSlot}
use Rattle.oa_words.specs.SlotKinds.{kind_of}
use Rattle.oa_words.specs.Packed.{status_word, head_word}
use Rattle.phase_pools.specs.declared.stages.SweepStage.TheVariants as sweeps
use Rattle.phase_pools.specs.declared.stages.ClaimStage.TheVariants as claims
use Rattle.phase_pools.specs.Pools.{Claim}
use Rattle.chain_laws.specs.Chains.{IsChain, IsOf, links, stamp, times, top}
use Rattle.chain_laws.specs.Standing.{slot_of_claim}
use Rattle.source_machine.specs.Proper.{IsProperFor}
use Rattle.caller_parts.specs.declared.routine.Routine.TheVariants.{Claims}
use Rattle.caller_parts.specs.Settings.{Setting}
use Rattle.core_runs.specs.Machine.{CoreState, CoreEvent, Steps, core_event, core_run, core_start}
use Rattle.core_runs.specs.Views.{view}

-- a slot stands in the chain of a kind: from the top of the kind's head on each slot's link names the one below it, 0 stands below the
-- lowest, and the slot is among them once. Words have at most one such chain
pub record InChain (tops : ℕ) (memory : Word → ℕ) (k j : ℕ) : Type 0 where
  pub chain : List ℕ
  pub linked : IsChain (links memory) (top tops memory k) chain
  pub once : times j chain ≡ 1

-- the words of a state by their names
abbrev pub words : Setting → CoreState → Word → ℕ
words setting state = (view setting state).memory

-- a claim of c has taken the slot and hasn't stored that it is used, or its sweep pushes the slot
pub record Carries (setting : Setting) (state : CoreState) (c j : ℕ) : Type 0 where
  pub claim : Claim
  pub at : ((view setting state).who c).routine ≡ Claims claim
  pub slot : slot_of_claim claim.sweep claim.stage ≡ j

-- c stands before the exchange of a claim that takes slot j, of a kind: it finds the kind's head that it expects, with this phase
pub record TakesTop (setting : Setting) (state : CoreState) (c k phase j : ℕ) : Type 0 where
  pub claim : Claim
  pub next : ℕ
  pub at : ((view setting state).who c).routine ≡ Claims claim
  pub of_kind : claim.kind ≡ k
  pub stage : claim.stage ≡ claims.Take phase j next
  pub found : words setting state (Head k) ≡ head_word setting.sizes.tops phase j

-- c stands before the exchange of a push of slot j onto the chain of a kind: it finds the kind's head that it expects, with this top
pub record PutsOnTop (setting : Setting) (state : CoreState) (c k j below : ℕ) : Type 0 where
  pub claim : Claim
  pub phase : ℕ
  pub at : ((view setting state).who c).routine ≡ Claims claim
  pub in_sweep : claim.stage ≡ claims.Sweeps
  pub stage : claim.sweep.stage ≡ sweeps.PushTop k j phase below
  pub found : words setting state (Head k) ≡ head_word setting.sizes.tops phase below

pub record Chained (target : Target) (setting : Setting) (state : CoreState) : Type 0 where
  -- each kind has a chain, and no slot stands in it twice
  pub chain : ℕ → List ℕ
  pub linked : (k : ℕ) → k < length setting.sizes.kinds → IsChain (links (words setting state)) (top setting.sizes.tops (words setting state) k) (chain k)
  pub single : (k j : ℕ) → times j (chain k) ≤ 1
  -- a slot of a kind's chain has that kind and is ready, with a phase up to the head's
  pub stands : (k j : ℕ) → k < length setting.sizes.kinds → InChain setting.sizes.tops (words setting state) k j
      → IsSlot (slot_range setting.sizes) j × (kind_of setting.sizes j ≡ k) × ((q : ℕ) × (words setting state (Status j) ≡ status_word q kinds.Ready) × (q ≤ stamp setting.sizes.tops (words setting state) k))
  -- a ready slot stands in the chain of its kind, or a caller carries it
  pub ready : (j : ℕ) → IsSlot (slot_range setting.sizes) j → IsOf kinds.Ready (words setting state (Status j))
      → InChain setting.sizes.tops (words setting state) (kind_of setting.sizes j) j ⊎ ((c : ℕ) × Carries setting state c j)
  -- which no two callers do, and none a slot of a chain
  pub alone : (j c d : ℕ) → j ≢ 0 → Carries setting state c j → Carries setting state d j → c ≡ d
  pub apart : (k j c : ℕ) → k < length setting.sizes.kinds → j ≢ 0 → Carries setting state c j → ¬ InChain setting.sizes.tops (words setting state) k j
  -- a claim is of a kind of the row. Its exchange takes its slot from the kind's chain, and leaves on top what the slot's link names
  pub claimed : (c k q j : ℕ) → TakesTop setting state c k q j → k < length setting.sizes.kinds
  pub takes : (c k q j : ℕ) (takes : TakesTop setting state c k q j) → InChain setting.sizes.tops (words setting state) k j × (words setting state (Link j) ≡ takes.next)
  pub taken : (c k q j : ℕ) (later : CoreState) → TakesTop setting state c k q j → core_event target setting state (Steps c) ≡ Some later
      → (¬ InChain setting.sizes.tops (words setting later) k j) × Carries setting later c j
  -- a push goes to the head of its slot's kind. Its exchange puts a slot on top that isn't in the chain and is linked to what was on top
  pub pushed : (c k j below : ℕ) → PutsOnTop setting state c k j below → k ≡ kind_of setting.sizes j
  pub puts : (c k j below : ℕ) → PutsOnTop setting state c k j below → (¬ InChain setting.sizes.tops (words setting state) k j) × (words setting state (Link j) ≡ below)
  pub put : (c k j below : ℕ) (later : CoreState) → PutsOnTop setting state c k j below → core_event target setting state (Steps c) ≡ Some later
      → InChain setting.sizes.tops (words setting later) k j × (top setting.sizes.tops (words setting later) k ≡ j)

-- of a text that is proper for the setting's callers
abbrev pub SlotsAreChained : Target → Text → Setting → Type 0
SlotsAreChained target text setting = IsProperFor setting.sizes.callers text → (events : List CoreEvent) (state : CoreState) → core_run target setting events (core_start target setting) ≡ Some state → Chained target setting state
