-- The list by two callers: the names of its two slots, and a load whose base was recycled.
--
-- The sentinel is node 1 in slot 1. `insert 5` draws name 2 in slot 2. `contains 5` of caller 1 has found that node and stands before
-- the load of its `next`, while caller 0 removes 5 and inserts 6: a sweep frees slot 2, name 3 is drawn there, the check after the
-- `new` fails, and the generator begins again with the slot in its cradle, where name 4 is drawn.
use Rattle.std.specs.Prelude.{◌≡◌, ℕ, true, List, ◌++◌, unwrap_or}
use Rattle.norm_lang.specs.declared.text.Reg.TheVariants.{Ref}
use Rattle.norm_lang.specs.Shipped.{set_text}
use Rattle.oa_words.specs.Words.{Warning}
use Rattle.core_runs.specs.Machine.{CoreState, CoreEvent, core_run, core_start}
use Rattle.core_runs.specs.Views.{CoreView, view}
use Rattle.core_rows.specs.Short.{call_of}
use Rattle.core_rows.specs.ShippedTargets.{list_target}
use Rattle.core_rows.specs.SharedRows.{shared_setting, five_in, searching, five_out, recycled}
use Rattle.core_rows.specs.Stories.{calls, steps}
use Rattle.oa_simulation.specs.Present.{present_in, IsResident}
use Rattle.run_laws.specs.stale_laws.Stale.{register_name, IsStaleLoad, begins_none}
use Rattle.run_laws.specs.lone_claims.Lone.{HoldsName}

-- the name of a slot after a run
abbrev pub name_after : List CoreEvent → ℕ → ℕ
name_after events j = present_in list_target (set_text 1) (shared_setting 2) events j

-- `insert 6` after so many of its 56 steps
abbrev pub inserting : ℕ → List CoreEvent
inserting n = five_out ++ calls 0 (call_of 0 6) n

pub record RecycledNames : Type 0 where
  pub sentinel : name_after recycled 1 ≡ 1
  pub given : name_after five_in 2 ≡ 2
  -- a name that is retired stays in its slot
  pub retired : name_after (inserting 27) 2 ≡ 2
  -- until the exchange of the sweep
  pub freed : name_after (inserting 28) 2 ≡ 0
  -- the claim and the first store of 0 give none
  pub claimed : name_after (inserting 37) 2 ≡ 0
  pub drawn : name_after (inserting 38) 2 ≡ 3
  -- the first store of 0 from the cradle takes it away
  pub emptied : name_after (inserting 44) 2 ≡ 0
  pub again : name_after (inserting 45) 2 ≡ 4

-- which slots hold a name that isn't retired
abbrev pub Holds : List CoreEvent → ℕ → Type 0
Holds events j = HoldsName list_target (set_text 1) (shared_setting 2) events j

pub record HeldNames : Type 0 where
  pub sentinel : Holds five_in 1
  pub node : Holds five_in 2
  -- the name of the node that was taken out is still there, but retired
  pub retired : ¬ Holds five_out 2
  -- no name is there after the sweep's exchange, nor while the stores of 0 go on
  pub freed : ¬ Holds (inserting 28) 2
  pub claimed : ¬ Holds (inserting 37) 2
  pub drawn : Holds (inserting 38) 2

abbrev pub state_after : List CoreEvent → CoreState
state_after events = unwrap_or (core_run list_target (shared_setting 2) events (core_start list_target (shared_setting 2))) (core_start list_target (shared_setting 2))

abbrev pub seen_after : List CoreEvent → CoreView
seen_after events = view (shared_setting 2) (state_after events)

pub record RecycledLoad : Type 0 where
  -- r1 of caller 1 holds name 2, before and after the slot was recycled
  pub before : register_name list_target (set_text 1) (shared_setting 2) searching 1 (Ref 1) ≡ 2
  pub resident : IsResident list_target (set_text 1) (shared_setting 2) searching 2
  pub later : register_name list_target (set_text 1) (shared_setting 2) recycled 1 (Ref 1) ≡ 2
  pub stale : IsStaleLoad list_target (set_text 1) (shared_setting 2) recycled 1 ((seen_after recycled).who 1) (Ref 1)
  -- it was warned, and its next check fails
  pub warning : (seen_after recycled).memory (Warning 1) ≡ 2
  pub seen : ((seen_after recycled).who 1).hand.seen ≡ 1
  pub goes_on : begins_none list_target (shared_setting 2) 1 (steps 1 1) (state_after recycled) ≡ true
