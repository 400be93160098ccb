-- No validated guard names a slot that is ready, and so none names a slot of a chain.
use Rattle.std.specs.Prelude.{ℕ, ◌≡◌, ◌≢◌, ◌≤◌, ◌<◌, List, length, Some}
use Rattle.norm_lang.specs.declared.text.Text.{Text}
use Rattle.target_code.specs.declared.target.Target.{Target}
use Rattle.oa_words.specs.declared.packed.Kind.TheVariants as kinds
use Rattle.oa_words.specs.Words.{Word, Hazard, Status, Head, Link, Sizes, slot_range, IsSlot}
use Rattle.oa_words.specs.SlotKinds.{kind_of}
use Rattle.oa_words.specs.Packed.{status_word, head_word}
use Rattle.phase_pools.specs.declared.stages.ClaimStage.TheVariants as claims
use Rattle.phase_pools.specs.Pools.{Claim}
use Rattle.chain_laws.specs.Chains.{IsChain, IsOf, links, times, top}
use Rattle.source_machine.specs.Proper.{IsProperFor}
use Rattle.caller_parts.specs.declared.routine.Routine.TheVariants.{Claims}
use Rattle.caller_parts.specs.Settings.{Setting}
use Rattle.core_runs.specs.Machine.{CoreState, CoreEvent, core_start, core_run}
use Rattle.core_runs.specs.Views.{view}
use Rattle.run_laws.specs.guarded_claims.Marks.{IsValidated}

-- a caller stands before the exchange of a claim, which finds the head that it expects and so takes the slot on top
pub record TakesSlot (setting : Setting) (state : CoreState) (d j : ℕ) : Type 0 where
  pub claim : Claim
  pub phase : ℕ
  pub next : ℕ
  pub at : ((view setting state).who d).routine ≡ Claims claim
  pub stage : claim.stage ≡ claims.Take phase j next
  pub found : (view setting state).memory (Head claim.kind) ≡ head_word setting.sizes.tops phase j

-- the chain of a kind: from its head's top on each slot's link names the one below it
pub record ReadyChain (n : Sizes) (memory : Word → ℕ) (k : ℕ) : Type 0 where
  pub chain : List ℕ
  pub linked : IsChain (links memory) (top n.tops memory k) chain
  pub once : (j : ℕ) → times j chain ≤ 1
  pub ready : (j : ℕ) → times j chain ≡ 1 → IsSlot (slot_range n) j × (kind_of n j ≡ k) × IsOf kinds.Ready (memory (Status j))

-- after a run's events, in the state that they lead to
pub record Spared (target : Target) (setting : Setting) (events : List CoreEvent) (state : CoreState) : Type 0 where
  pub not_ready : (c r q : ℕ) → c < setting.sizes.callers → IsValidated target setting events c r → (view setting state).memory (Status ((view setting state).memory (Hazard c r))) ≢ status_word q kinds.Ready
  -- each slot of a kind's chain has that kind and is ready, and stands in it once
  pub chain : (k : ℕ) → k < length setting.sizes.kinds → ReadyChain setting.sizes (view setting state).memory k
  -- an exchange of a claim takes a slot from the chain of its kind, which is one of the row's. The slot's link is the one that the claim
  -- has loaded, and no validated guard names the slot
  pub from_chain : (d j : ℕ) (takes : TakesSlot setting state d j)
      → (known : takes.claim.kind < length setting.sizes.kinds) × ((times j (chain takes.claim.kind known).chain ≡ 1) × ((view setting state).memory (Link j) ≡ takes.next))
  pub not_taken : (c r d j : ℕ) → c < setting.sizes.callers → IsValidated target setting events c r → TakesSlot setting state d j → (view setting state).memory (Hazard c r) ≢ j

-- of a text that is proper for the setting's callers
abbrev pub GuardsAreSpared : Target → Text → Setting → Type 0
GuardsAreSpared target text setting = IsProperFor setting.sizes.callers text → (events : List CoreEvent) (state : CoreState) → core_run target setting events (core_start target setting) ≡ Some state → Spared target setting events state
