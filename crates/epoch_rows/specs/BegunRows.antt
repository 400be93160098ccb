-- Which calls of a script have begun, of one caller of the counter: none before the store of the announcement, a spent one if its fuel reaches that
-- far, and all of a caller that is idle. And from where a load of the list goes.
use Rattle.std.specs.Prelude.{ℕ, List, [], ◌∷◌, ◌++◌}
use Rattle.std.specs.Option.{unwrap_or}
use Rattle.norm_lang.specs.Shipped.{set_text}
use Rattle.target_code.specs.declared.target.Target.{Target}
use Rattle.target_code.specs.Bare.{bare}
use Rattle.caller_parts.specs.declared.call.Call.{Call}
use Rattle.caller_parts.specs.declared.setting.Reclamation.TheVariants.{Epochs}
use Rattle.caller_parts.specs.Settings.{Setting}
use Rattle.core_runs.specs.Machine.{CoreState, CoreEvent, core_run, core_start}
use Rattle.core_rows.specs.Short.{call_of, setting_of}
use Rattle.core_rows.specs.SmallTexts.{counter_text}
use Rattle.core_rows.specs.Stories.{calls}
use Rattle.epoch_relation.specs.Simulated.{BasesAreResident}
use Rattle.epoch_runs.specs.Begins.{EpochBeginsOfScripts}
use Rattle.epoch_rows.specs.EpochStories.{list_code}
use Rattle.epoch_rows.specs.HeldRows.{held_setting, begun}

abbrev pub counter_code : Target
counter_code = bare counter_text

abbrev pub counter_setting : Setting
counter_setting = record (setting_of 1 1 1 1 0 1000) { reclamation = Epochs }

-- the state after events
abbrev pub state_after : Target → Setting → List CoreEvent → CoreState
state_after target setting events = unwrap_or (core_run target setting events (core_start target setting)) (core_start target setting)

-- after so many steps of an `add 5`, which five end
abbrev pub Begins : List Call → ℕ → ℕ → Type 0
Begins script fuel made =
    EpochBeginsOfScripts counter_code counter_text counter_setting (script ∷ []) fuel (calls 0 (call_of 0 5) made) (state_after counter_code counter_setting (calls 0 (call_of 0 5) made))

pub record BegunRows : Type 0 where
  -- with a fuel of one step the call has not begun, with two it has
  pub one_step : Begins (call_of 0 5 ∷ []) 1 1
  pub two_steps : Begins (call_of 0 5 ∷ []) 2 2
  pub not_by_two : Begins (call_of 0 5 ∷ []) 1 2 → ⊥
  pub not_by_one : Begins (call_of 0 5 ∷ []) 2 1 → ⊥
  -- one that is idle has begun its script, and no more
  pub ended : Begins (call_of 0 5 ∷ []) 5 5
  pub not_another : Begins (call_of 0 5 ∷ call_of 1 0 ∷ []) 5 5 → ⊥
  pub not_without : Begins [] 5 5 → ⊥

-- ---- from where a load goes

-- The list as it is, with one slot for its nodes, and callers that announce nothing: so nothing holds back what one of them still reads
abbrev pub unannounced_setting : Setting
unannounced_setting = setting_of 2 2 2 1 1 1000000000

-- caller 0 inserts 5 in slot 2. Caller 1 comes, with its `contains 5`, to its load of that node's `next`. Caller 0 removes 5
abbrev pub five_out : List CoreEvent
five_out = calls 0 (call_of 0 5) 13 ++ (calls 1 (call_of 2 5) 3 ++ calls 0 (call_of 1 5) 10)

-- Its `insert 8` makes 26 steps: the load of its warning, two of the search, a look, two that raise the phase, two warnings, 16 loads of
-- hazards, the load of slot 2's status, and the exchange that makes the slot ready
abbrev pub eight_begun : List CoreEvent
eight_begun = five_out ++ calls 0 (call_of 0 8) 26

-- and without that exchange
abbrev pub eight_near : List CoreEvent
eight_near = five_out ++ calls 0 (call_of 0 8) 25

abbrev pub HaveBases : Setting → List CoreEvent → List CoreEvent → Type 0
HaveBases setting told made = BasesAreResident list_code (set_text 1) setting told (state_after list_code setting made)

pub record BaseRows : Type 0 where
  -- caller 1 stands before its load from the sentinel, an initial node
  pub sentinel : HaveBases held_setting begun begun
  -- if nothing is told of that, null stands in the register of the source's caller
  pub not_untold : HaveBases held_setting [] begun → ⊥
  -- the node that caller 1 loads from is retired, and its slot not ready; and then it is
  pub retired : HaveBases unannounced_setting eight_near eight_near
  pub not_recycled : HaveBases unannounced_setting eight_begun eight_begun → ⊥
