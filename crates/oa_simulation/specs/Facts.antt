-- The facts by which the simulation holds, each by a name of its own. They are parts of the relation, which adds where each caller
-- stands, so that each step keeps it. Two are facts about steps: the one on tags below, and `RunsBeginUnwarned`, which stands beside the
-- relation of core states.
use Rattle.std.specs.Prelude.{ℕ, ◌≡◌, ◌≢◌, ◌≤◌, ◌<◌, true, false, Some}
use Rattle.norm_lang.specs.declared.text.Reg.{Reg}
use Rattle.oa_words.specs.Words.{Phase, Warning, Hazard}
use Rattle.phase_pools.specs.declared.stages.ClaimStage.TheVariants as claims
use Rattle.phase_pools.specs.Pools.{Claim}
use Rattle.source_machine.specs.Proper.{has}
use Rattle.caller_parts.specs.declared.routine.Routine.TheVariants.{At, Claims}
use Rattle.target_laws.specs.Trusted.{trust_along}
use Rattle.run_ahead.specs.Agreeing.{Agree}
use Rattle.run_ahead.specs.Ahead.{AsTrusted}
use Rattle.run_ahead.specs.TypedCallers.{IsTypedCaller}
use Rattle.oa_simulation.specs.sim_relation.Views.{Plan, Shared, Resident, Apart, link}
use Rattle.oa_simulation.specs.sim_relation.Callers.{Calm, Trail, SweepAt, spared}
use Rattle.oa_simulation.specs.sim_relation.Worlds.{World}

-- the mover's step gives no tag below the phase word before it. A tag comes after the exchange that unlinks its name, and the phase
-- word doesn't fall, so that a tag is at least the phase at that exchange, and once the phase is s no name gets a tag below s
abbrev pub TagIsNoLessThanThePhaseAtUnlinking : Shared → Shared → Type 0
TagIsNoLessThanThePhaseAtUnlinking s s' = (n p : ℕ) → s.tag n ≢ Some p → s'.tag n ≡ Some p → s.memory Phase ≤ p

-- what holds in every state
pub record Facts (t : Plan) (w : World) : Type 0 where
  pub seen_is_no_more_than_the_warning : (c : ℕ) → c < t.setting.sizes.callers → (w.who c).entry.hand.seen ≤ w.shared.memory (Warning c)
  pub warning_is_no_more_than_the_phase : (c : ℕ) → w.shared.memory (Warning c) ≤ w.shared.memory Phase
  pub tag_is_no_more_than_the_phase : (n p : ℕ) → w.shared.tag n ≡ Some p → p ≤ w.shared.memory Phase
  -- a name with a tag below a caller's `seen` was retired before the caller's method run began
  pub tagged_below_seen_was_retired_before_the_run : (c n p : ℕ) → c < t.setting.sizes.callers → w.shared.tag n ≡ Some p → p < (w.who c).entry.hand.seen → has n (w.who c).held.old ≡ true
  -- a sweep has left the warnings that it is past at its phase or more, and past a hazard row no name that it hasn't gathered and whose
  -- tag is below its phase is under a validated guard of that row
  pub sweep_has_warned_and_gathered : (c : ℕ) (claim : Claim) → c < t.setting.sizes.callers → (w.who c).entry.routine ≡ Claims claim → claim.stage ≡ claims.Sweeps
      → SweepAt t w.shared claim.sweep.bound claim.sweep.gathered claim.sweep.stage
  -- what a caller before an access of its method has got is resident, if it wasn't warned
  pub got_of_a_caller_that_was_not_warned_is_resident : (c n : ℕ) → c < t.setting.sizes.callers → (w.who c).entry.routine ≡ At → Calm w.shared c (w.who c) → has n (w.who c).held.got ≡ true → Resident t w.shared n
  -- a name under a validated guard is resident, and the hazard word is its slot
  pub guarded_is_resident : (c r : ℕ) → w.shared.protects c r ≢ 0 → Resident t w.shared (w.shared.protects c r)
  pub hazard_is_the_slot_of_what_is_guarded : (c r : ℕ) → w.shared.protects c r ≢ 0 → w.shared.memory (Hazard c r) ≡ t.home (w.shared.protects c r)
  -- what a field of a guarded object names has the slot of a guarded name only if it is that name: so an exchange finds the expected
  -- word there exactly if the source finds the expected name
  pub content_of_what_is_guarded_is_told_by_its_word : (c : ℕ) → c < t.setting.sizes.callers → (w.who c).entry.routine ≡ At
      → (m : Trail t) × ((o e g : ℕ) → spared t m.walk o ≡ false → w.shared.protects c o ≢ 0 → w.shared.protects c e ≢ 0 → Apart t (link w.shared (w.shared.protects c o) g) (w.shared.protects c e))
  -- registers hold the source's values, as far as they are trusted on the way that the caller came
  pub trusted_registers_hold_the_values_of_the_source : (c : ℕ) → c < t.setting.sizes.callers → (w.who c).entry.routine ≡ At
      → (m : Trail t) × ((r : Reg) → AsTrusted (Calm w.shared c (w.who c)) (trust_along m.walk.method m.path r) (Agree t.home (w.who c).entry.hand.registers m.mirror r))
  -- and each of the source's names null or a node of a kind that it may have where its caller stands
  pub registers_of_the_source_have_kinds_that_they_may_have : (c : ℕ) → c < t.setting.sizes.callers → IsTypedCaller t.text w.shared.source.nodes (w.who c).source
