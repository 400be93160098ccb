-- The facts of the simulation hold of every state in the relation.
use Rattle.std.proofs.Common.{ℕ, ◌≡◌, ◌<◌, [], subst}
use Rattle.phase_pools.specs.declared.stages.ClaimStage.{ClaimStage}
use Rattle.source_machine.specs.Proper.{itself}
use Rattle.caller_parts.specs.declared.routine.Routine.{Routine}
use Rattle.caller_parts.specs.declared.routine.Routine.TheVariants.{At, Claims}
use Rattle.oa_simulation.specs.sim_relation.Views.{Plan}
use Rattle.oa_simulation.specs.sim_relation.Callers.{HoldsAt, Running, ClaimAt, spot_of}
use Rattle.oa_simulation.specs.sim_relation.Points.{StaysProper, point, done}
use Rattle.oa_simulation.specs.sim_relation.Worlds.{World, Holds}
use Rattle.oa_simulation.proofs.sim_steps.Guards.Residents.{resident}
use Rattle.oa_simulation.proofs.sim_steps.Accesses.Stepping.{proper_here}
use Rattle.oa_simulation.specs.Facts.{Facts}

pub facts_hold : (t : Plan) (w : World) → t.home 0 ≡ 0 → Holds t w → ((c : ℕ) → c < t.setting.sizes.callers → StaysProper t.text c (point w.shared (w.who c))) → Facts t w
facts_hold t w null_home h proper = record {
  seen_is_no_more_than_the_warning = λ c lt. (h.caller_holds c lt).base.seen;
  warning_is_no_more_than_the_phase = h.shared_holds.warning;
  tag_is_no_more_than_the_phase = h.shared_holds.tag;
  tagged_below_seen_was_retired_before_the_run = λ c n p lt. (h.caller_holds c lt).base.old n p;
  sweep_has_warned_and_gathered = λ c claim lt at in_sweep.
      (let spot : HoldsAt t w.shared c (w.who c) (Claims claim) = subst (λ (r : Routine). HoldsAt t w.shared c (w.who c) r) at (h.caller_holds c lt).spot in
      subst (λ (stage : ClaimStage). ClaimAt t w.shared claim.sweep stage) in_sweep spot.0);
  got_of_a_caller_that_was_not_warned_is_resident = λ c n lt at calm got.
      (let run = running c lt at in
      resident t w.shared c (w.who c) null_home h.shared_holds (h.caller_holds c lt).base lt calm (proper_here t c w.shared (w.who c) (proper c lt) run.2.tied) n n got (itself n));
  guarded_is_resident = λ c r some. (h.shared_holds.guard c r some).resident;
  hazard_is_the_slot_of_what_is_guarded = λ c r some. (h.shared_holds.guard c r some).word;
  content_of_what_is_guarded_is_told_by_its_word = λ c lt at. (let run = running c lt at in (run.0, run.1.sound.pairs));
  trusted_registers_hold_the_values_of_the_source = λ c lt at. (let run = running c lt at in (run.0, run.1.ahead.agree));
  registers_of_the_source_have_kinds_that_they_may_have = λ c lt. (proper c lt [] (point w.shared (w.who c)) (done (point w.shared (w.who c)))).kinds;
} where
  running : (c : ℕ) → c < t.setting.sizes.callers → (w.who c).entry.routine ≡ At → Running t w.shared c (w.who c) (spot_of (w.who c).entry.hand)
  running c lt at = subst (λ (r : Routine). HoldsAt t w.shared c (w.who c) r) at (h.caller_holds c lt).spot
