-- The callers at a run's start: idle, with no guards and no cradles.
use Rattle.std.proofs.Common.{ℕ, zero, suc, ◌≡◌, ◌<◌, ◌∙◌, Bool, true, false, [], replicate, Some, None, sym, ap, refl, arith, if◌then◌else◌}
use Rattle.std.specs.Prelude.{slice_get, slice_index}
use Rattle.target_code.specs.declared.target.Target.{Target}
use Rattle.oa_words.specs.Words.{Word, Hazard, address_of, in_row}
use Rattle.oa_words.specs.Starts.{Suits}
use Rattle.source_machine.specs.State.{idle_caller}
use Rattle.caller_parts.specs.Operands.{cradle_count}
use Rattle.caller_parts.specs.Settings.{Setting}
use Rattle.caller_steps.specs.Entries.{idle_entry}
use Rattle.core_runs.specs.Machine.{beginning_of, core_start}
use Rattle.core_runs.specs.Views.{StartIsSeen, view}
use Rattle.oa_simulation.specs.sim_relation.Views.{Plan, Caller}
use Rattle.oa_simulation.specs.sim_relation.Callers.{CallerHolds}
use Rattle.oa_simulation.specs.sim_relation.WasSet.{none_set}
use Rattle.oa_simulation.proofs.Starting.{first_shared}
use Rattle.guard_words.proofs.Rows.{guards_follow}

pub no_cradle : (n k : ℕ) → slice_index (replicate n 0) k ≡ 0
no_cradle zero k = refl
no_cradle (suc n) zero = refl
no_cradle (suc n) (suc k) = no_cradle n k

abbrev pub first_caller : ℕ → Caller
first_caller d = record {
  entry = idle_entry d;
  names = record { name = λ r. 0; valid = λ r. false };
  was_set = none_set;
  held = record { got = []; old = [] };
  source = idle_caller;
  watch = record { got = []; old = [] };
}

pub told_first : (t : Plan) (memory : Word → ℕ) (d : ℕ) → ((r : ℕ) → memory (Hazard d r) ≡ 0) → CallerHolds t (first_shared t memory) d (first_caller d)
told_first t memory d hazards = record {
  base = record {
    number = refl;
    seen = omega arith;
    old = λ n p is. absurd (let z : None ≡ Some p = is in cc);
    hazard = λ r. hazards r ∙ sym (guards_follow.first_slot r);
    protects = λ r. refl;
    known = λ n got. absurd (let z : false ≡ true = got in cc);
    cradle = λ k some. absurd (some (no_cradle cradle_count k));
  };
  spot = (guards_follow.first_slot, λ r valid. refl, refl);
}

pub all_idle : (n d : ℕ) → d < n → slice_get (replicate n idle_caller) d ≡ Some idle_caller
all_idle zero d lt = absurd (omega (arith, lt))
all_idle (suc n) zero lt = refl
all_idle (suc n) (suc d) lt = all_idle n d (omega (arith, lt))

pub no_hazard : (target : Target) (setting : Setting) → StartIsSeen target setting → Suits setting.sizes (beginning_of target setting) → (d r : ℕ) → (view setting (core_start target setting)).memory (Hazard d r) ≡ 0
no_hazard target setting s suits d r = of (in_row setting.sizes (Hazard d r)) refl where
  of : (b : Bool) → in_row setting.sizes (Hazard d r) ≡ b → (view setting (core_start target setting)).memory (Hazard d r) ≡ 0
  of true row = s.memory suits (Hazard d r) row
  of false row = ap (λ (b : Bool). if b then slice_index (core_start target setting).words (address_of setting.sizes (Hazard d r)) else 0) row
