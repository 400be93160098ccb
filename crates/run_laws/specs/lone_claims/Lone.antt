-- The claim of a lone caller, from its begin to its end.
use Rattle.std.specs.Prelude.{ℕ, ◌≡◌, ◌≢◌, ◌≤◌, ◌↔◌, Bool, true, false, List, Some}
use Rattle.norm_lang.specs.declared.text.Reg.{Reg}
use Rattle.norm_lang.specs.declared.text.Instr.TheVariants as instr
use Rattle.norm_lang.specs.declared.text.Text.{Text}
use Rattle.target_code.specs.declared.target.TargetInstr.TheVariants.{Plain}
use Rattle.target_code.specs.declared.target.Target.{Target}
use Rattle.oa_words.specs.declared.packed.Kind.TheVariants as kinds
use Rattle.oa_words.specs.Words.{Sizes, Word, Status}
use Rattle.oa_words.specs.SlotKinds.{first_of, range_of}
use Rattle.oa_words.specs.Packed.{status_word}
use Rattle.phase_pools.specs.declared.access.ClaimEnd.{ClaimEnd}
use Rattle.phase_pools.specs.declared.access.ClaimEnd.TheVariants as ends
use Rattle.phase_pools.specs.declared.stages.Scheme.TheVariants.{Warned}
use Rattle.phase_pools.specs.Accesses.{word_of}
use Rattle.phase_pools.specs.Pools.{Claim, claim_begun, claim_wants, claim_accepts}
use Rattle.source_machine.specs.Proper.{IsProperFor, has}
use Rattle.caller_parts.specs.declared.routine.Routine.{Routine}
use Rattle.caller_parts.specs.declared.routine.Routine.TheVariants.{Idle, LoadSeen, At, InList, Retires, Restarts, Clears, Claims, Zeroes, Announces}
use Rattle.caller_parts.specs.Settings.{Setting}
use Rattle.caller_steps.specs.Entries.{instr_in}
use Rattle.core_runs.specs.Machine.{CoreState, CoreEvent, core_run, core_start}
use Rattle.core_runs.specs.Views.{view}
use Rattle.oa_simulation.specs.Shadow.{shadow}
use Rattle.oa_simulation.specs.Present.{present_in}
use Rattle.oa_simulation.specs.Throughout.{throughout}

abbrev pub is_claiming : Routine → Bool
is_claiming (Claims claim) = true
is_claiming Idle = false
is_claiming (LoadSeen why) = false
is_claiming At = false
is_claiming (InList k) = false
is_claiming (Retires retirement go) = false
is_claiming Restarts = false
is_claiming (Clears next) = false
is_claiming (Zeroes k field) = false
is_claiming (Announces announcing) = false

-- caller 0 is in a claim before each of the events
abbrev pub stays_in_claim : Target → Setting → List CoreEvent → CoreState → Bool
stays_in_claim target setting = throughout target setting (λ state event. is_claiming ((view setting state).who 0).routine)

-- a slot's status is used
abbrev pub IsUsed : (Word → ℕ) → ℕ → Type 0
IsUsed memory j = (q : ℕ) × (memory (Status j) ≡ status_word q kinds.Used)

-- after a run a slot holds a name that isn't retired
abbrev pub HoldsName : Target → Text → Setting → List CoreEvent → ℕ → Type 0
HoldsName target text setting events j =
    (present_in target text setting events j ≢ 0) × (has (present_in target text setting events j) (shadow target text setting events).machine.memory.retired ≡ false)

-- the status of each slot of a kind is used
abbrev pub AreUsed : Sizes → ℕ → (Word → ℕ) → Type 0
AreUsed n k memory = (j : ℕ) → first_of n k ≤ j → j ≤ (range_of n k).last → IsUsed memory j

-- each slot of a kind holds a name that isn't retired
abbrev pub AreNamed : Target → Text → Setting → List CoreEvent → ℕ → Type 0
AreNamed target text setting events k = (j : ℕ) → first_of setting.sizes k ≤ j → j ≤ (range_of setting.sizes k).last → HoldsName target text setting events j

-- caller 0 is at the begin of a claim of a slot of a kind
abbrev pub BeginsAt : Setting → CoreState → ℕ → Type 0
BeginsAt setting state k = ((view setting state).who 0).routine ≡ Claims (claim_begun setting.sizes k Warned)

-- a claim of caller 0 that was at its begin ends in this way with the caller's next step, events of the claim alone lying between
pub record EndsIn (target : Target) (setting : Setting) (state : CoreState) (k : ℕ) (end : ClaimEnd) : Type 0 where
  pub begun : BeginsAt setting state k
  pub more : List CoreEvent
  pub later : CoreState
  pub runs : core_run target setting more state ≡ Some later
  pub stays : stays_in_claim target setting more state ≡ true
  pub claim : Claim
  pub at : ((view setting later).who 0).routine ≡ Claims claim
  pub ends : (claim_accepts setting.sizes setting.last claim ((view setting later).memory (word_of (claim_wants claim)))).ended ≡ Some end

pub record LoneClaim (target : Target) (text : Text) (setting : Setting) (events : List CoreEvent) (state : CoreState) : Type 0 where
  -- if no sweep of it found the last phase, it ends with Full exactly if each slot of its kind held a name that isn't retired at its begin
  pub full : (k : ℕ) (end : ClaimEnd) → EndsIn target setting state k end → ((p : ℕ) → end ≢ ends.PhasesOver p) → (end ≡ ends.Full) ↔ AreNamed target text setting events k
  -- that is, exactly if the status of each was used
  pub full_as_used : (k : ℕ) (end : ClaimEnd) → EndsIn target setting state k end → ((p : ℕ) → end ≢ ends.PhasesOver p) → (end ≡ ends.Full) ↔ AreUsed setting.sizes k (view setting state).memory
  -- at its begin a slot holds a name that isn't retired exactly if the slot's status is used
  pub alike : (k : ℕ) → BeginsAt setting state k → (j : ℕ) → 1 ≤ j → HoldsName target text setting events j ↔ IsUsed (view setting state).memory j
  -- at any moment a slot that holds a name that isn't retired has a used status
  pub used : (j : ℕ) → HoldsName target text setting events j → IsUsed (view setting state).memory j
  -- a claim that begins is of the kind of the `new` at which its caller stands
  pub of_new : (k : ℕ) → BeginsAt setting state k → (d : Reg) × (instr_in target ((view setting state).who 0) ≡ Some (Plain (instr.New d k)))

-- of a text that is proper for it, with one caller
abbrev pub LoneClaimsAreFull : Target → Text → Setting → Type 0
LoneClaimsAreFull target text setting = IsProperFor setting.sizes.callers text → setting.sizes.callers ≡ 1 → (events : List CoreEvent) (state : CoreState) → core_run target setting events (core_start target setting) ≡ Some state
    → LoneClaim target text setting events state
