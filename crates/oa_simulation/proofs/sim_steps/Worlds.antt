-- A step that one caller keeps is kept by all; and what follows for guards.
use Rattle.std.proofs.Common.{ℕ, ◌≡◌, ◌≢◌, ◌<◌, ◌∙◌, Bool, sym, ap}
use Rattle.oa_words.specs.Words.{Word, Hazard, Status}
use Rattle.oa_words.specs.declared.packed.Kind.TheVariants as kinds
use Rattle.oa_words.specs.Packed.{status_word}
use Rattle.caller_steps.specs.Signs.{Moved}
use Rattle.source_machine.specs.MethodRuns.{put}
use Rattle.source_machine.specs.Proper.{has}
use Rattle.source_machine.proofs.Places.{each_put}
use Rattle.oa_simulation.specs.sim_relation.Views.{Plan, Shared}
use Rattle.oa_simulation.specs.sim_relation.Shared.{SharedHolds}
use Rattle.oa_simulation.specs.sim_relation.Callers.{CallerHolds}
use Rattle.oa_simulation.specs.sim_relation.Steps.{KeptWith}
use Rattle.run_ahead.specs.Guards.{GuardRow}
use Rattle.oa_simulation.specs.sim_relation.Worlds.{World, Holds}
use Rattle.oa_simulation.proofs.sim_relation.Stable.{stable}
use Rattle.oa_simulation.proofs.sim_steps.Pools.Slots.{in_pool}

pub holds_on : (t : Plan) (w : World) (c : ℕ) (row : GuardRow) (were : ℕ → Bool) (memory' : Word → ℕ) (m : Moved) (present' : ℕ → ℕ) → t.home 0 ≡ 0 → Holds t w → (k : KeptWith t c w.shared (w.who c) row were memory' m present') → Holds t (record { shared = k.s'; who = put w.who c k.x' })
holds_on t w c row were memory' m present' null_home h k = record {
  shared_holds = k.shared_holds;
  caller_holds = each_put (λ d x. d < t.setting.sizes.callers → CallerHolds t k.s' d x) w.who c k.x' (λ lt. k.caller_holds) (λ d ne lt. stable t c d w.shared k.s' (w.who d) null_home k.goes h.shared_holds k.shared_holds ne (h.caller_holds d lt));
}

-- no validated guard names a ready slot
pub no_guarded_ready : (t : Plan) (s : Shared) → SharedHolds t s → (c r q : ℕ) → s.protects c r ≢ 0 → s.memory (Status (s.memory (Hazard c r))) ≡ status_word q kinds.Ready → ⊥
no_guarded_ready t s f c r q some ready =
    let g = f.guard c r some in
    let j : ℕ = s.memory (Hazard c r) in
    let pool = in_pool (s.owner j) q (s.memory (Status j)) (s.present j) (s.tag (s.present j)) (has (s.present j) s.source.retired) (s.public (s.present j)) ready (f.slot j) in
    some (sym g.resident ∙ (ap s.present (sym g.word) ∙ pool.1))
