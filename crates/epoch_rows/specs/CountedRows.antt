-- Which steps count a restart: none before the sweeps of a claim that finds no slot, and one, once a claim that has swept stores its slot's status.
use Rattle.std.specs.Prelude.{◌≡◌}
use Rattle.core_runs.specs.Machine.{core_start}
use Rattle.core_runs.specs.Swept.{restarts_in}
use Rattle.epoch_rows.specs.EpochStories.{list_code}
use Rattle.epoch_rows.specs.HeldRows.{held_setting, held, eight_there}

pub record CountedRows : Type 0 where
  pub full : restarts_in list_code held_setting 0 held (core_start list_code held_setting) ≡ 0
  pub claimed : restarts_in list_code held_setting 0 eight_there (core_start list_code held_setting) ≡ 1
  pub other : restarts_in list_code held_setting 1 eight_there (core_start list_code held_setting) ≡ 0
