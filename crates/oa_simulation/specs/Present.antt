-- Which name each slot has in a core run.
--
-- A slot's name comes at the last store of 0 of a `new`, and initial nodes have theirs from the start. It goes at the exchange that
-- makes the slot ready, and at the first store of 0 of a `new` from a cradle.
use Rattle.std.specs.Prelude.{ℕ, zero, suc, ◌+◌, ◌-◌, ◌≡◌, List, [], ◌∷◌, Option, Some, None, nat_lt, slice_index, if◌then◌else◌}
use Rattle.norm_lang.specs.declared.text.Text.{Text}
use Rattle.target_code.specs.declared.target.Target.{Target}
use Rattle.oa_words.specs.SlotKinds.{sum_before, first_of, kind_of}
use Rattle.caller_parts.specs.Settings.{Setting}
use Rattle.core_runs.specs.Machine.{CoreState, CoreEvent, Takes, Steps, core_event, core_start}
use Rattle.core_runs.specs.RunSigns.{event_signs}
use Rattle.core_runs.specs.Views.{CoreView, view}
use Rattle.oa_simulation.specs.sim_relation.Naming.{present_at}
use Rattle.oa_simulation.specs.Shadow.{Shadow, shadow_run, shadow_start, home_of}

-- the number of the initial node at a place among those of its kind, counted from 1; 0 if there is none
abbrev pub node_number : Setting → ℕ → ℕ → ℕ
node_number setting t place = if nat_lt place (slice_index setting.nodes t) then suc (sum_before setting.nodes t + place) else 0

-- at the start: the initial nodes of a kind stand in its first slots, and initial node J has the name J
abbrev pub first_present : Setting → ℕ → ℕ
first_present setting zero = 0
first_present setting (suc j) = node_number setting (kind_of setting.sizes (suc j)) (suc j - first_of setting.sizes (kind_of setting.sizes (suc j)))

-- after an event, where `drawn` is the least name above all used ones; taking a call changes no slot
abbrev pub present_after : Target → Setting → CoreView → CoreEvent → ℕ → (ℕ → ℕ) → ℕ → ℕ
present_after target setting seen (Takes c call) drawn present = present
present_after target setting seen (Steps c) drawn present = present_at target seen.memory drawn (seen.who c) (seen.who c).routine present

abbrev pub present_on : Option CoreState → (CoreState → ℕ → ℕ) → (ℕ → ℕ) → ℕ → ℕ
present_on None next present = present
present_on (Some state) next present = next state

-- after events one after another, beside the shadow, which knows the names that were drawn
abbrev pub present_run : Target → Text → Setting → List CoreEvent → CoreState → Shadow → (ℕ → ℕ) → ℕ → ℕ
present_run target text setting [] state z present = present
present_run target text setting (event ∷ events) state z present =
    let later = present_after target setting (view setting state) event z.unused present in
    present_on (core_event target setting state event) (λ next. present_run target text setting events next (shadow_run text (event_signs target setting state event) z) later) later

-- the slots' names after a run from the start
abbrev pub present_in : Target → Text → Setting → List CoreEvent → ℕ → ℕ
present_in target text setting events = present_run target text setting events (core_start target setting) (shadow_start text setting) (first_present setting)

-- a name is resident while its slot has it; null is, since slot 0 has no name
abbrev pub IsResident : Target → Text → Setting → List CoreEvent → ℕ → Type 0
IsResident target text setting events name = present_in target text setting events (home_of target text setting events name) ≡ name
