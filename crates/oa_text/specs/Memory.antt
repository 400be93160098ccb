-- Sources and sinks over memory, as contracts see them.
use Rattle.std.specs.Prelude.{ℕ, List, Bool, ◌==◌}
use Rattle.std.specs.List.{list_any}

-- what a source has left, the most bytes that a call gives, the numbers of the calls that fail, and how many calls and faults there were
pub record MemoryInput : Type 0 where
  pub left : List ℕ
  pub most : ℕ
  pub fails : List ℕ
  pub calls : ℕ
  pub faults : ℕ

-- what was written to a sink, the most bytes that a call takes, the numbers of the calls that fail, and how many calls and faults there were
pub record MemoryOutput : Type 0 where
  pub written : List ℕ
  pub most : ℕ
  pub fails : List ℕ
  pub calls : ℕ
  pub faults : ℕ

-- a call with this number is to fail
abbrev pub is_to_fail : List ℕ → ℕ → Bool
is_to_fail fails call = list_any (λ number. number == call) fails
