-- How a run under epochs is told: the lines that optimistic access doesn't have. A text runs as it is, without checks and guards.
use Rattle.std.specs.Prelude.{ℕ, List, [], ◌∷◌, Option, Some, None, slice_index}
use Rattle.norm_lang.specs.Shipped.{set_text}
use Rattle.oa_words.specs.Words.{Word, Phase, Warning, Head, address_of}
use Rattle.target_code.specs.declared.target.Target.{Target}
use Rattle.target_code.specs.Bare.{bare}
use Rattle.caller_parts.specs.declared.call.Call.{Call}
use Rattle.caller_parts.specs.declared.setting.Reclamation.TheVariants.{Epochs}
use Rattle.caller_parts.specs.Settings.{Setting}
use Rattle.caller_steps.specs.Signs.{Begins, Accesses, Renews, GivesUp}
use Rattle.core_runs.specs.Machine.{CoreState, CoreEvent, core_run, core_start}
use Rattle.core_rows.specs.Short.{setting_of}
use Rattle.core_rows.specs.Stories.{Line, Load, Store, gives, silent}

-- the list, for so many callers and slots, to a last phase
abbrev pub list_code : Target
list_code = bare (set_text 1)

abbrev pub list_setting : ℕ → ℕ → ℕ → Setting
list_setting callers slots last = record (setting_of callers slots 2 1 1 last) { reclamation = Epochs }

-- ---- lines

-- a call begins: the load of the phase, and its store in the own warning word
abbrev pub enters : ℕ → ℕ → Call → List Line
enters c phase call = silent (Load Phase phase) ∷ gives (Store (Warning c) phase) (Begins call ∷ []) ∷ []

-- the same, if the generator begins again
abbrev pub enters_again : ℕ → ℕ → List Line
enters_again c phase = silent (Load Phase phase) ∷ gives (Store (Warning c) phase) (Renews ∷ []) ∷ []

-- the own announcement is withdrawn: before the first sweep, and with a reply
abbrev pub withdraws : ℕ → Line
withdraws c = silent (Store (Warning c) 0)

abbrev pub leaves : ℕ → Line
leaves c = silent (Store (Warning c) 0)

-- a sweep's load of what a caller has announced
abbrev pub heeds : ℕ → ℕ → Line
heeds c word = silent (Load (Warning c) word)

-- a load after which local code comes to the end of an empty list, and on to the reply
abbrev pub reads_last : Word → ℕ → Line
reads_last w found = gives (Load w found) (Accesses ∷ Accesses ∷ [])

-- a third look that finds no slot on top, and a sweep that finds the last phase
abbrev pub gives_up : ℕ → Line
gives_up head = gives (Load (Head 0) head) (GivesUp None ∷ [])

abbrev pub is_over : ℕ → Line
is_over phase = gives (Load Phase phase) (GivesUp (Some phase) ∷ [])

-- ---- words

abbrev pub word_in : Setting → Word → Option CoreState → Option ℕ
word_in setting w None = None
word_in setting w (Some state) = Some (slice_index state.words (address_of setting.sizes w))

-- what stands at a word after events from the start
abbrev pub word_after : Target → Setting → List CoreEvent → Word → Option ℕ
word_after target setting events w = word_in setting w (core_run target setting events (core_start target setting))
