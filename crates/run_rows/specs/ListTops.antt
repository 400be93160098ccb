-- The list by two callers: what is on top of the chain where the laws of `chain_runs` speak of it.
use Rattle.std.specs.Prelude.{◌≡◌, ℕ, List, ◌++◌, Some, unwrap_or}
use Rattle.oa_words.specs.Words.{Word, Head, Link}
use Rattle.oa_words.specs.Packed.{head_parts}
use Rattle.phase_pools.specs.Accesses.{Exchanges}
use Rattle.chain_laws.specs.Chains.{stamp}
use Rattle.caller_steps.specs.Wants.{wants}
use Rattle.core_runs.specs.Machine.{CoreState, CoreEvent, core_run, core_start}
use Rattle.core_runs.specs.Views.{view}
use Rattle.core_rows.specs.Short.{call_of}
use Rattle.core_rows.specs.ShippedTargets.{list_target}
use Rattle.core_rows.specs.SharedRows.{shared_setting}
use Rattle.core_rows.specs.Stories.{calls, steps}
use Rattle.chain_runs.specs.Slots.{InChain, PutsOnTop, TakesTop, words}
use Rattle.chain_runs.specs.Tops.{LastLoad, Moment, NotAfter, StepsNext}
use Rattle.run_rows.specs.ListNames.{inserting}

abbrev pub state_after : ℕ → List CoreEvent → CoreState
state_after slots events = unwrap_or (core_run list_target (shared_setting slots) events (core_start list_target (shared_setting slots))) (core_start list_target (shared_setting slots))

abbrev pub memory_after : ℕ → List CoreEvent → Word → ℕ
memory_after slots events = words (shared_setting slots) (state_after slots events)

-- ---- two slots: slot 1 holds the sentinel, and slot 2 alone is in the chain

-- `insert 5`, after so many of its 22 steps: the sixth loads the head, the seventh the link, the eighth is the exchange
abbrev pub five : ℕ → List CoreEvent
five n = calls 0 (call_of 0 5) n

-- slot 2 has been taken and retired. Of the 56 steps of `insert 6` the 29th loads the head, the 30th stores the link, and the 31st is the
-- exchange of the push

pub record TakenAndPushed : Type 0 where
  -- the claim's exchange finds the head that it has loaded, phase 1 over slot 2
  pub exchange : wants list_target ((view (shared_setting 2) (state_after 2 (five 7))).who 0) ≡ Some (Exchanges (Head 0) 8194 8192)
  pub load : LastLoad list_target (shared_setting 2) (five 7) 0 0 8194
  pub found : memory_after 2 (five 7) (Head 0) ≡ 8194
  pub top : (head_parts 8192 8194).top ≡ 2
  pub stands : InChain 8192 (memory_after 2 (five 7)) 0 2
  -- and takes slot 2
  pub moment : Moment list_target (shared_setting 2) (inserting 30)
  pub there : moment.before ≡ five 7
  pub next : StepsNext list_target (shared_setting 2) (inserting 30) moment 0
  pub takes : TakesTop (shared_setting 2) moment.state 0 0 1 2
  pub taken : memory_after 2 (five 8) (Head 0) ≡ 8192
  pub gone : ¬ InChain 8192 (memory_after 2 (five 8)) 0 2
  -- its push finds the head as the take left it, and stamps it with phase 2
  pub puts : PutsOnTop (shared_setting 2) (state_after 2 (inserting 30)) 0 0 2 0
  pub before : stamp 8192 (memory_after 2 (inserting 30)) 0 ≡ 1
  pub after : stamp 8192 (memory_after 2 (inserting 31)) 0 ≡ 2
  pub back : InChain 8192 (memory_after 2 (inserting 31)) 0 2

-- ---- three slots: caller 0 has put in and taken out a node twice, so that slots 2 and 3 are retired and the chain is empty. In its third
-- `insert 7` a sweep has pushed slot 3

abbrev pub emptied : List CoreEvent
emptied = calls 0 (call_of 0 7) 22 ++ (calls 0 (call_of 1 7) 21 ++ (calls 0 (call_of 0 7) 22 ++ calls 0 (call_of 1 7) 21))

abbrev pub three_pushed : List CoreEvent
three_pushed = emptied ++ calls 0 (call_of 0 7) 31

-- `insert 9` of caller 1 has loaded the head and the link of slot 3, and stands before its exchange
abbrev pub looked : List CoreEvent
looked = three_pushed ++ calls 1 (call_of 0 9) 7

-- so many steps of caller 0 later: the fifth pushes slot 2 over slot 3, and the ninth takes it
abbrev pub meanwhile : ℕ → List CoreEvent
meanwhile n = looked ++ steps 0 n

pub record HeadAgain : Type 0 where
  pub load : LastLoad list_target (shared_setting 3) (meanwhile 9) 1 0 16387
  pub exchange : wants list_target ((view (shared_setting 3) (state_after 3 (meanwhile 9))).who 1) ≡ Some (Exchanges (Head 0) 16387 16384)
  -- the head isn't as it was loaded between, and is again
  pub loaded : memory_after 3 looked (Head 0) ≡ 16387
  pub between : memory_after 3 (meanwhile 5) (Head 0) ≡ 16386
  pub again : memory_after 3 (meanwhile 9) (Head 0) ≡ 16387
  -- all the while slot 3 stands in the chain
  pub moment : Moment list_target (shared_setting 3) (meanwhile 9)
  pub there : moment.before ≡ meanwhile 5
  pub since : NotAfter list_target (shared_setting 3) (meanwhile 9) load.at moment
  pub stands : InChain 8192 (memory_after 3 (meanwhile 5)) 0 3
  pub link : memory_after 3 (meanwhile 5) (Link 3) ≡ 0
