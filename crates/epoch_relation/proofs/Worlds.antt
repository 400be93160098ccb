-- All callers beside what they share: a step that is kept by its caller is kept by all.
use Rattle.std.proofs.Common.{ℕ, ◌≡◌, ◌≢◌, ◌==◌, ◌<◌, true, false, ⊎_elim, sym, subst, refl}
use Rattle.std.proofs.lemmas.Bool.Decides.{eqb_tells}
use Rattle.oa_words.specs.Words.{Word}
use Rattle.caller_parts.specs.declared.call.Call.{Call}
use Rattle.caller_steps.specs.Signs.{Moved}
use Rattle.caller_steps.specs.After.{taken}
use Rattle.caller_parts.specs.declared.setting.Reclamation.{Reclamation}
use Rattle.caller_parts.specs.declared.setting.Reclamation.TheVariants.{Epochs}
use Rattle.epoch_relation.specs.Laws.{CallsAreTaken, WorldsStep}
use Rattle.oa_simulation.specs.sim_relation.Views.{Plan, Shared}
use Rattle.epoch_relation.specs.Callers.{Caller, Base}
use Rattle.epoch_relation.proofs.Moving.{becomes, base_changed}
use Rattle.epoch_relation.specs.Walking.{IsPlan, IsIdle, CallerHolds}
use Rattle.epoch_relation.specs.Keeping.{KeptWith}
use Rattle.epoch_relation.specs.Worlds.{World, Holds, after_step, with_caller}
use Rattle.epoch_relation.proofs.Stable.{stable}

pub world_step : (t : Plan) (c : ℕ) (w : World) (memory' : Word → ℕ) (m : Moved) (present' : ℕ → ℕ) → IsPlan t → Holds t w → (k : KeptWith t c w.shared w.since (w.who c) memory' m present') → Holds t (after_step t c w memory' m present' k)
world_step t c w memory' m present' plan h k = record {
  shared_holds = k.shared_holds;
  caller_holds = λ d below. ⊎_elim
      (λ (e : ((d == c) ≡ true) × (d ≡ c)). rw e.0 (subst (λ (i : ℕ). CallerHolds t k.s' k.since' i k.x') (sym e.1) k.caller_holds))
      (λ (e : ((d == c) ≡ false) × (d ≢ c)). rw e.0 (stable t c d w.shared w.since k.s' k.since' (w.who d)
      (record { plan = plan; goes = k.goes; before = h.shared_holds; after = k.shared_holds; other = e.1; below = below; base = (h.caller_holds d below).base }) (h.caller_holds d below)))
      (eqb_tells d c);
}

-- ---- an idle caller takes a call, and the source doesn't move

pub call_taken : (t : Plan) (s : Shared) (since : ℕ → ℕ) (c : ℕ) (x : Caller) (call : Call) → Base t s since c x → IsIdle x → CallerHolds t s since c (becomes x (taken Epochs call x.entry))
call_taken t s since c x call b idle = record { base = base_changed t s since c x (taken Epochs call x.entry) x.source x.watch refl refl b; spot = idle }

-- the others stay as they are
pub world_takes : (t : Plan) (c : ℕ) (w : World) (call : Call) → Holds t w → IsIdle (w.who c) → Holds t (with_caller w c (becomes (w.who c) (taken Epochs call (w.who c).entry)))
world_takes t c w call h idle = record {
  shared_holds = h.shared_holds;
  caller_holds = λ d below. ⊎_elim
      (λ (e : ((d == c) ≡ true) × (d ≡ c)). rw e.0 (subst (λ (i : ℕ). CallerHolds t w.shared w.since i (becomes (w.who c) (taken Epochs call (w.who c).entry))) (sym e.1) (call_taken t w.shared w.since c (w.who c) call (h.caller_holds c (subst (λ (i : ℕ). i < t.setting.sizes.callers) e.1 below)).base idle)))
      (λ (e : ((d == c) ≡ false) × (d ≢ c)). rw e.0 (h.caller_holds d below))
      (eqb_tells d c);
}

-- by the scheme of the plan's setting
pub calls_are_taken : CallsAreTaken
calls_are_taken t plan c w call h idle =
    subst (λ (by : Reclamation). Holds t (with_caller w c (becomes (w.who c) (taken by call (w.who c).entry)))) (sym plan.epochs) (world_takes t c w call h idle)

pub worlds_step : WorldsStep
worlds_step t c w memory' m present' plan h k = world_step t c w memory' m present' plan h k
