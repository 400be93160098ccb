-- Counts of faults, and when a fault may be answered.
use Rattle.std.specs.Prelude.{◌≡◌, ℕ, ◌+◌, ◌-◌, ◌^◌, ◌≤◌, min, Result, Ok, Err, OnOk, OnErr}

-- a count of 64 bits, one higher unless it stands at its end
abbrev pub one_more : ℕ → ℕ
one_more n = min (n + 1) (2 ^ 64 - 1)

-- the count rose by one, or stood at its end and stays there: at the end it tells nothing more
abbrev pub Rose : ℕ → ℕ → Type 0
Rose before now = now ≡ one_more before

-- the count never falls; at `Ok` it is as it was, and at a fault it rose by one
pub record HasCause {T E : Type 0} (before now : ℕ) (result : Result T E) : Type 0 where
  pub later : before ≤ now
  pub kept : OnOk result (now ≡ before)
  pub failed : OnErr result (Rose before now)

-- the count after a call that raises it at a fault and leaves it otherwise
abbrev pub faults_after : {T E : Type 0} → Result T E → ℕ → ℕ
faults_after (Ok x) before = before
faults_after (Err e) before = one_more before
