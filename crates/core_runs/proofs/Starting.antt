-- The start, seen.
use Rattle.std.proofs.Common.{◌≡◌, ℕ, zero, suc, ◌+◌, Bool, true, refl, ap, ◌∙◌, subst, arith, if◌then◌else◌}
use Rattle.std.specs.Prelude.{slice_get, slice_index, unwrap_or}
use Rattle.target_code.specs.declared.target.Target.{Target}
use Rattle.oa_words.specs.Words.{Word, in_row, address_of}
use Rattle.oa_words.specs.Starts.{Suits, start_word, start_words}
use Rattle.oa_words.proofs.StartPlaces.{starts_as_named}
use Rattle.caller_parts.specs.Settings.{Setting}
use Rattle.caller_steps.specs.Entries.{idle_entry}
use Rattle.core_runs.specs.Machine.{core_start, beginning_of, idle_from, OfAll}
use Rattle.core_runs.specs.Views.{view, StartIsSeen}

-- past the callers there are idle ones too
who_idle : (i n c : ℕ) → unwrap_or (slice_get (idle_from i n) c) (idle_entry (i + c)) ≡ idle_entry (i + c)
who_idle i zero c = refl
who_idle i (suc n) zero = ap idle_entry (omega arith)
who_idle i (suc n) (suc c) = subst (λ (k : ℕ). unwrap_or (slice_get (idle_from (i + 1) n) c) (idle_entry k) ≡ idle_entry k) (let e : (i + 1) + c ≡ i + suc c = omega arith in e) (who_idle (i + 1) n c)

start_memory : (target : Target) (setting : Setting) → Suits setting.sizes (beginning_of target setting) → (w : Word) → in_row setting.sizes w ≡ true
    → (view setting (core_start target setting)).memory w ≡ start_word setting.sizes (beginning_of target setting) w
start_memory target setting suits w row =
    ap (λ (b : Bool). if b then slice_index (start_words setting.sizes (beginning_of target setting)) (address_of setting.sizes w) else 0) row
    ∙ (starts_as_named setting.sizes (beginning_of target setting) suits).words w row

pub start_is_seen : OfAll StartIsSeen
start_is_seen target setting = record {
  memory = λ suits w row. start_memory target setting suits w row;
  who = λ c. (let e : 0 + c ≡ c = omega arith in subst (λ (k : ℕ). unwrap_or (slice_get (idle_from 0 setting.sizes.callers) c) (idle_entry k) ≡ idle_entry k) e (who_idle 0 setting.sizes.callers c));
}
