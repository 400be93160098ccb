-- The adapters over std's readers and writers, as contracts see them.
use Rattle.std.specs.Prelude.{ℕ, List, Option}

-- the bytes that a reader has left, if it tells them, and how many faults there were
pub record StdInput : Type 0 where
  pub left : Option (List ℕ)
  pub faults : ℕ

-- the bytes that a writer holds, if it tells them, and how many faults there were
pub record StdOutput : Type 0 where
  pub written : Option (List ℕ)
  pub faults : ℕ
