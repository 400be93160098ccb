-- Calls by their names, of the shipped texts.
use Rattle.std.specs.Prelude.{◌≡◌, codes, [], ◌∷◌}
use Rattle.core_rows.specs.Short.{call_of}
use Rattle.core_rows.specs.ShippedTargets.{list_target, queue_target}
use Rattle.shipped_claims.specs.NeverFull.{calls_named, calls_named_in}
use Rattle.law_rows.specs.CallRuns.{run_with, list_runs, queue_runs, both_entries}

pub record NamedRows : Type 0 where
  pub inserts : calls_named list_target (codes "insert") list_runs ≡ 3
  pub removes : calls_named list_target (codes "remove") list_runs ≡ 1
  pub looks : calls_named list_target (codes "contains") list_runs ≡ 1
  -- by part of a name, and by one of another text
  pub part : calls_named list_target (codes "inser") list_runs ≡ 0
  pub other : calls_named list_target (codes "enqueue") list_runs ≡ 0
  -- a call of an operation that isn't there
  pub no_operation : calls_named list_target (codes "insert") (run_with (call_of 3 0) ∷ []) ≡ 0
  pub enqueues : calls_named queue_target (codes "enqueue") queue_runs ≡ 2
  pub dequeues : calls_named queue_target (codes "dequeue") queue_runs ≡ 3
  -- those with a reply, and the one that runs
  pub of_callers : calls_named_in list_target (codes "insert") both_entries ≡ 3
  pub removes_of_callers : calls_named_in list_target (codes "remove") both_entries ≡ 1
