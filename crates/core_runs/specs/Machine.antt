-- The core: the words, the entries, and the events of a run.
use Rattle.std.specs.Prelude.{◌≡◌, ◌↔◌, ◌⊎◌, ℕ, zero, suc, ◌+◌, Bool, true, false, ◌&&◌, List, [], ◌∷◌, map, Option, Some, None, if◌then◌else◌, slice_get, slice_set, slice_index}
use Rattle.norm_lang.specs.declared.text.Start.{Start}
use Rattle.norm_lang.specs.declared.text.Start.TheVariants as starts
use Rattle.norm_lang.specs.declared.text.NodeDecl.{NodeDecl}
use Rattle.norm_lang.specs.declared.text.RootDecl.{RootDecl}
use Rattle.target_code.specs.declared.target.Target.{Target}
use Rattle.oa_words.specs.Words.{Sizes, Word, address_of}
use Rattle.oa_words.specs.Packed.{ref_word}
use Rattle.oa_words.specs.Starts.{Beginning, first_home, start_words}
use Rattle.phase_pools.specs.Accesses.{WordAccess, word_of, word_after}
use Rattle.caller_parts.specs.declared.call.Call.{Call}
use Rattle.caller_parts.specs.KindCounts.{node_counts}
use Rattle.caller_parts.specs.declared.setting.Reclamation.{Reclamation}
use Rattle.caller_parts.specs.Settings.{Setting, first_warning}
use Rattle.caller_steps.specs.Entries.{Entry, idle_entry, is_idle}
use Rattle.caller_parts.specs.Calls.{is_call}
use Rattle.caller_steps.specs.Wants.{wants}
use Rattle.caller_steps.specs.After.{after, taken}

-- the words in the order of their addresses, and an entry for each caller
pub record CoreState : Type 0 where
  pub words : List ℕ
  pub entries : List Entry

-- ---- the start

-- the slot of an initial node by its number: those of a kind stand in the kind's first slots
abbrev pub node_home : Target → Sizes → ℕ → ℕ
node_home target n j = first_home n (node_counts target) j

-- first values as words, by the slots of the initial nodes
abbrev pub value_word : (ℕ → ℕ) → Start → ℕ
value_word home (starts.Value v) = v
value_word home (starts.Node j) = ref_word (home j) false

abbrev pub node_words : (ℕ → ℕ) → NodeDecl → List ℕ
node_words home node = map (value_word home) node.values

abbrev pub root_word : (ℕ → ℕ) → RootDecl → ℕ
root_word home root = value_word home root.start

-- each caller has been warned of the first phase, or has announced none
abbrev pub beginning_of : Target → Setting → Beginning
beginning_of target setting = record {
  first = setting.first;
  warnings = first_warning setting.reclamation setting.first;
  nodes = map (node_words (node_home target setting.sizes)) target.nodes;
  counts = node_counts target;
  cells = map (root_word (node_home target setting.sizes)) target.roots;
}

abbrev pub idle_from : ℕ → ℕ → List Entry
idle_from c zero = []
idle_from c (suc n) = idle_entry c ∷ idle_from (c + 1) n

abbrev pub core_start : Target → Setting → CoreState
core_start target setting = record {
  words = start_words setting.sizes (beginning_of target setting);
  entries = idle_from 0 setting.sizes.callers;
}

-- ---- events

-- a caller takes a call, or makes the access that it wants
pub data CoreEvent : Type 0 where
  Takes : (c : ℕ) (call : Call) → CoreEvent
  Steps : (c : ℕ) → CoreEvent

abbrev pub word_at : Setting → CoreState → Word → ℕ
word_at setting state w = slice_index state.words (address_of setting.sizes w)

-- the word that an access finds, and the words after it
abbrev pub found_by : Setting → CoreState → WordAccess → ℕ
found_by setting state a = word_at setting state (word_of a)

abbrev pub made : Setting → CoreState → WordAccess → List ℕ
made setting state a = slice_set state.words (address_of setting.sizes (word_of a)) (word_after a (found_by setting state a))

-- an idle caller may take any call of the target
abbrev pub takes : Reclamation → Target → CoreState → ℕ → Call → Entry → Option CoreState
takes by target state c call e =
    if is_idle e.routine && is_call target call then Some (record state { entries = slice_set state.entries c (taken by call e) }) else None

-- one that runs may make its access
abbrev pub stepped : Target → Setting → CoreState → ℕ → Entry → Option WordAccess → Option CoreState
stepped target setting state c e None = None
stepped target setting state c e (Some a) = Some (record {
  words = made setting state a;
  entries = slice_set state.entries c (after target setting e (found_by setting state a));
})

abbrev pub event_by : Target → Setting → CoreState → CoreEvent → Option Entry → Option CoreState
event_by target setting state event None = None
event_by target setting state (Takes c call) (Some e) = takes setting.reclamation target state c call e
event_by target setting state (Steps c) (Some e) = stepped target setting state c e (wants target e)

abbrev pub core_mover : CoreEvent → ℕ
core_mover (Takes c call) = c
core_mover (Steps c) = c

-- one event, if it is enabled; all other words and entries stay
abbrev pub core_event : Target → Setting → CoreState → CoreEvent → Option CoreState
core_event target setting state event = event_by target setting state event (slice_get state.entries (core_mover event))

-- ---- runs

abbrev pub run_on : Option CoreState → (CoreState → Option CoreState) → Option CoreState
run_on None next = None
run_on (Some state) next = next state

-- events one after another, if each is enabled
abbrev pub core_run : Target → Setting → List CoreEvent → CoreState → Option CoreState
core_run target setting [] state = Some state
core_run target setting (event ∷ events) state = run_on (core_event target setting state event) (core_run target setting events)

-- some events lead to a state from the start
pub record Reachable (target : Target) (setting : Setting) (state : CoreState) : Type 0 where
  pub events : List CoreEvent
  pub runs : core_run target setting events (core_start target setting) ≡ Some state

-- ---- laws

-- of each target with each setting
abbrev pub OfAll : (Target → Setting → Type 0) → Type 0
OfAll Holds = (target : Target) (setting : Setting) → Holds target setting

-- one enabled event leads to the state from a reachable one
pub record OneMore (target : Target) (setting : Setting) (state : CoreState) : Type 0 where
  pub before : CoreState
  pub event : CoreEvent
  pub reachable : Reachable target setting before
  pub leads : core_event target setting before event ≡ Some state

pub record EventsLead (target : Target) (setting : Setting) : Type 0 where
  -- a state is reachable exactly if it is the start, or one more event leads there
  pub reach : (state : CoreState) → Reachable target setting state ↔ ((state ≡ core_start target setting) ⊎ OneMore target setting state)
  -- a test that the start passes, and that each enabled event keeps, each reachable state passes
  pub holds : (test : CoreState → Bool) → test (core_start target setting) ≡ true
      → ((state later : CoreState) (event : CoreEvent) → test state ≡ true → core_event target setting state event ≡ Some later → test later ≡ true)
      → (state : CoreState) → Reachable target setting state → test state ≡ true
