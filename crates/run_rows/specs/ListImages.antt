-- The list by two callers: what the source machine is told of two runs, whose steps stand in the rows of the core.
--
-- A call begins with the load of the own warning. Each load, put and exchange of the text is an access without a name, and the last
-- store of 0 of a `new` one with the name that is drawn: 2, 3 and so on, as the sentinel is named 1. A check that fails restarts the
-- method. The load of the own warning at a wrap-up's start, and after `again`, restarts it only if the source may still do so:
-- if the wrap-up's local code has led to the reply already, it is left out.
use Rattle.std.specs.Prelude.{◌≡◌, ℕ, List, [], ◌∷◌, ◌++◌, replicate}
use Rattle.norm_lang.specs.Shipped.{set_text}
use Rattle.source_machine.specs.declared.event.SourceEvent.{SourceEvent}
use Rattle.source_machine.specs.declared.event.SourceEvent.TheVariants as events
use Rattle.core_rows.specs.ShippedTargets.{list_target}
use Rattle.core_rows.specs.SharedRows.{shared_setting, recycled, spared}
use Rattle.core_rows.specs.Stories.{steps}
use Rattle.oa_simulation.specs.Shadow.{shadow, image}

-- the operations by their numbers, each with a key
abbrev pub inserts : ℕ → ℕ → SourceEvent
inserts c key = events.Begin c 0 (key ∷ 0 ∷ 0 ∷ 0 ∷ [])

abbrev pub removes : ℕ → ℕ → SourceEvent
removes c key = events.Begin c 1 (key ∷ 0 ∷ 0 ∷ 0 ∷ [])

abbrev pub looks_for : ℕ → ℕ → SourceEvent
looks_for c key = events.Begin c 2 (key ∷ 0 ∷ 0 ∷ 0 ∷ [])

-- so many accesses without a name
abbrev pub makes : ℕ → ℕ → List SourceEvent
makes c n = replicate n (events.Access c 0)

-- an `insert` into the empty list: the root, the sentinel's `next`, the `new`, two puts and the exchange
abbrev pub links : ℕ → ℕ → List SourceEvent
links c name = makes c 2 ++ events.Access c name ∷ makes c 3

-- one whose check after the `new` fails: the search and the `new` are made once more
abbrev pub links_again : ℕ → ℕ → ℕ → List SourceEvent
links_again c name again = makes c 2 ++ events.Access c name ∷ events.Restart c ∷ links c again

-- a search that finds a node after the sentinel: the root, the sentinel's `next`, the node's `next` and its key
abbrev pub finds : ℕ → List SourceEvent
finds c = makes c 4

-- ---- two slots: `contains 5` stands before its load of slot 2's `next` while 5 is removed and 6 is inserted in slot 2

abbrev pub recycled_image : List SourceEvent
recycled_image =
    inserts 0 5 ∷ links 0 2
    ++ looks_for 1 5 ∷ makes 1 2
    -- the search, the mark and the unlinking
    ++ removes 0 5 ∷ finds 0 ++ makes 0 2
    ++ inserts 0 6 ∷ links_again 0 3 4
    -- the stale load, the failed check, the search, and the end of the empty list
    ++ makes 1 1 ++ events.Restart 1 ∷ finds 1 ++ makes 1 1

pub record RecycledImage : Type 0 where
  pub image_is : image list_target (set_text 1) (shared_setting 2) (recycled ++ steps 1 11) ≡ recycled_image
  -- names 2, 3 and 4 were all drawn in slot 2
  pub second : (shadow list_target (set_text 1) (shared_setting 2) (recycled ++ steps 1 11)).home 2 ≡ 2
  pub third : (shadow list_target (set_text 1) (shared_setting 2) (recycled ++ steps 1 11)).home 3 ≡ 2
  pub fourth : (shadow list_target (set_text 1) (shared_setting 2) (recycled ++ steps 1 11)).home 4 ≡ 2
  pub unused : (shadow list_target (set_text 1) (shared_setting 2) (recycled ++ steps 1 11)).unused ≡ 5

-- ---- three slots: `remove 5` stands before its marking exchange with slot 2 guarded, while another caller removes 5, inserts and
-- removes 6, and inserts 8

abbrev pub guarded_image : List SourceEvent
guarded_image =
    inserts 0 5 ∷ links 0 2
    ++ removes 1 5 ∷ finds 1
    ++ removes 0 5 ∷ finds 0 ++ makes 0 2
    ++ inserts 0 6 ∷ links 0 3
    ++ removes 0 6 ∷ finds 0 ++ makes 0 2
    ++ inserts 0 8 ∷ links_again 0 4 5
    -- the exchange fails, the wrap-up leads to `again` without an access, and the generator is restarted at the wrap-up's start and
    -- once more after `again`; then the search, and the end of the empty list
    ++ makes 1 1 ++ events.Restart 1 ∷ events.Restart 1 ∷ finds 1 ++ makes 1 1

pub record GuardedImage : Type 0 where
  pub image_is : image list_target (set_text 1) (shared_setting 3) (spared ++ steps 1 14) ≡ guarded_image
  -- slot 2 keeps name 2, and names 3 to 5 were drawn in slot 3
  pub second : (shadow list_target (set_text 1) (shared_setting 3) (spared ++ steps 1 14)).home 2 ≡ 2
  pub third : (shadow list_target (set_text 1) (shared_setting 3) (spared ++ steps 1 14)).home 3 ≡ 3
  pub fourth : (shadow list_target (set_text 1) (shared_setting 3) (spared ++ steps 1 14)).home 4 ≡ 3
  pub fifth : (shadow list_target (set_text 1) (shared_setting 3) (spared ++ steps 1 14)).home 5 ≡ 3
  pub unused : (shadow list_target (set_text 1) (shared_setting 3) (spared ++ steps 1 14)).unused ≡ 6
