-- What an event of one caller does to the whole source.
use Rattle.std.proofs.Common.{ℕ, zero, suc, ◌≡◌, ◌≢◌, ◌∙◌, Bool, List, [], ◌∷◌, Some, None, set, ap, subst, refl}
use Rattle.std.specs.Prelude.{slice_get}
use Rattle.norm_lang.specs.declared.text.Text.{Text}
use Rattle.source_machine.specs.declared.event.SourceEvent.{SourceEvent}
use Rattle.source_machine.specs.declared.state.SourceCaller.{SourceCaller}
use Rattle.source_machine.specs.Step.{caller_turn}
use Rattle.source_machine.specs.Run.{mover, is_enabled, is_enabled_for}
use Rattle.source_machine.specs.MethodRuns.{run_after, run_at, Watched, watched_step}
use Rattle.source_machine.proofs.Places.{put_same, put_other}

set_same : (xs : List SourceCaller) (k : ℕ) (x y : SourceCaller) → slice_get xs k ≡ Some x → slice_get (set xs k y) k ≡ Some y
set_same [] k x y at = absurd (let z : None ≡ Some x = at in cc)
set_same (a ∷ xs) zero x y at = refl
set_same (a ∷ xs) (suc k) x y at = set_same xs k x y at

set_away : (xs : List SourceCaller) (k d : ℕ) (y : SourceCaller) → d ≢ k → slice_get (set xs k y) d ≡ slice_get xs d
set_away [] k d y ne = refl
set_away (a ∷ xs) zero zero y ne = absurd (ne refl)
set_away (a ∷ xs) zero (suc d) y ne = refl
set_away (a ∷ xs) (suc k) zero y ne = refl
set_away (a ∷ xs) (suc k) (suc d) y ne = set_away xs k d y (λ e. ne (ap suc e))

abbrev pub Others : Watched → Watched → ℕ → Type 0
Others v v' c = (d : ℕ) → d ≢ c → (slice_get v'.machine.callers d ≡ slice_get v.machine.callers d) × (v'.runs d ≡ v.runs d)

-- one event of a caller
pub record Stepped (text : Text) (v : Watched) (event : SourceEvent) (c : ℕ) (x : SourceCaller) : Type 0 where
  pub caller : slice_get (watched_step text v event).machine.callers c ≡ Some (caller_turn text event v.machine.memory x).caller
  pub memory : (watched_step text v event).machine.memory ≡ (caller_turn text event v.machine.memory x).memory
  pub run : (watched_step text v event).runs c ≡ run_after text event v.machine.memory x (v.runs c)
  pub others : Others v (watched_step text v event) c

stepped_here : (text : Text) (v : Watched) (event : SourceEvent) (x : SourceCaller) → slice_get v.machine.callers (mover event) ≡ Some x → Stepped text v event (mover event) x
stepped_here text v event x at = record {
  caller = rw at (set_same v.machine.callers (mover event) x (caller_turn text event v.machine.memory x).caller at);
  memory = rw at refl;
  run = put_same v.runs (mover event) (run_at text event v.machine.memory (slice_get v.machine.callers (mover event)) (v.runs (mover event)))
      ∙ ap (λ o. run_at text event v.machine.memory o (v.runs (mover event))) at;
  others = λ d ne. (
    rw at (set_away v.machine.callers (mover event) d (caller_turn text event v.machine.memory x).caller ne),
    put_other v.runs (mover event) d (run_at text event v.machine.memory (slice_get v.machine.callers (mover event)) (v.runs (mover event))) ne,
  );
}

pub stepped : (text : Text) (v : Watched) (event : SourceEvent) (c : ℕ) (x : SourceCaller) → mover event ≡ c → slice_get v.machine.callers c ≡ Some x → Stepped text v event c x
stepped text v event c x is at =
    subst (λ k. Stepped text v event k x) is (stepped_here text v event x (ap (slice_get v.machine.callers) is ∙ at))

-- whether an event is enabled
pub enabled_is : (text : Text) (v : Watched) (event : SourceEvent) (c : ℕ) (x : SourceCaller) (b : Bool) → mover event ≡ c → slice_get v.machine.callers c ≡ Some x
    → is_enabled_for text event (Some x) v.machine.memory ≡ b → is_enabled text v.machine event ≡ b
enabled_is text v event c x b is at open_ = ap (λ o. is_enabled_for text event o v.machine.memory) (ap (slice_get v.machine.callers) is ∙ at) ∙ open_
