-- Several steps on a list of words.
use Rattle.std.proofs.Common.{◌≡◌, ◌≤◌, ◌<◌, ◌-◌, ℕ, zero, suc, false, List, refl, sym, ap, ◌∙◌, subst, arith}
use Rattle.target_code.specs.declared.target.Target.{Target}
use Rattle.caller_parts.specs.Settings.{Setting}
use Rattle.caller_steps.specs.Entries.{RoomyEntry, is_idle}
use Rattle.core_entries.specs.Steps.{StepIs, StepsAre}

-- after so many, one more
pub steps_more : (target : Target) (setting : Setting) (n : ℕ) (words mid later : List ℕ) (e moved e' : RoomyEntry) → StepsAre target setting n words mid e moved → is_idle moved.core.routine ≡ false
    → StepIs target setting mid later moved e' → StepsAre target setting (suc n) words later e e'
steps_more target setting zero words mid later e moved e' so_far busy step = (
  ap (λ (x : RoomyEntry). is_idle x.core.routine) (sym so_far.1) ∙ busy,
  later,
  e',
  subst (λ (x : RoomyEntry). StepIs target setting words later x e') so_far.1 (subst (λ (l : List ℕ). StepIs target setting l later moved e') so_far.0 step),
  (refl, refl),
)
steps_more target setting (suc n) words mid later e moved e' so_far busy step =
    (so_far.0, so_far.1, so_far.2, so_far.3, steps_more target setting n so_far.1 mid later so_far.2 moved e' so_far.4 busy step)

-- counted down from the most
pub runs_more : (target : Target) (setting : Setting) (most left : ℕ) (words mid later : List ℕ) (e moved e' : RoomyEntry) → left ≤ most → 0 < left → StepsAre target setting (most - left) words mid e moved
    → is_idle moved.core.routine ≡ false → StepIs target setting mid later moved e' → StepsAre target setting (most - (left - 1)) words later e e'
runs_more target setting most left words mid later e moved e' le some so_far busy step =
    let more : most - (left - 1) ≡ suc (most - left) = omega (arith, le, some) in
    subst (λ (n : ℕ). StepsAre target setting n words later e e') (sym more) (steps_more target setting (most - left) words mid later e moved e' so_far busy step)
