-- What holds of the documents of a workload.
use Rattle.std.specs.Prelude.{◌≡◌, ℕ, ◌+◌, ◌*◌, ◌≤◌, ◌<◌}
use Rattle.documents.specs.DocumentLimits.{most_calls, IsWithinDocumentLimits}
use Rattle.oa_words.specs.declared.limits.TheConstants.{MOST_CALLERS}
use Rattle.script_plans.specs.Plans.{IsRunnable}
use Rattle.script_driver.specs.declared.rounds.TheConstants.{KEYS, KEYS_APART}
use Rattle.script_driver.specs.Workload.{next_seed, seed_at, key_at, workload_document}

-- with so many calls as a document may have, for 1 to as many callers as a row may have, a part can be run
abbrev pub PartsCanBeRun : Type 0
PartsCanBeRun = (part count callers : ℕ) → 1 ≤ callers → callers ≤ MOST_CALLERS → IsRunnable (workload_document part count callers)

abbrev pub PartsAreWithinLimits : Type 0
PartsAreWithinLimits = (part count callers : ℕ) → count ≤ most_calls → IsWithinDocumentLimits (workload_document part count callers)

-- the numbers of the sequence one after another, and which keys are a caller's
pub record KeysAreOwn : Type 0 where
  pub first : (caller : ℕ) → seed_at caller 0 ≡ caller + 1
  pub next : (caller j : ℕ) → seed_at caller (j + 1) ≡ next_seed (seed_at caller j)
  pub from : (caller j : ℕ) → KEYS_APART * caller ≤ key_at caller j
  pub below : (caller j : ℕ) → key_at caller j < KEYS_APART * caller + KEYS
