-- Names that a run draws at a `new` which the source doesn't enable: of a caller of the counter that runs nothing. The event stands in the image, the
-- machine stays, and the name is used.
use Rattle.std.specs.Prelude.{◌≡◌, ℕ, List, [], ◌∷◌}
use Rattle.source_machine.specs.State.{source_start}
use Rattle.source_machine.specs.declared.event.SourceEvent.TheVariants.{Access}
use Rattle.caller_parts.specs.Settings.{Setting}
use Rattle.caller_steps.specs.Signs.{Draws, Renews}
use Rattle.core_runs.specs.RunSigns.{Signed}
use Rattle.core_rows.specs.Short.{setting_of}
use Rattle.core_rows.specs.SmallTexts.{counter_text}
use Rattle.oa_simulation.specs.Shadow.{Shadow, shadow_run, shadow_start}

abbrev pub drawn_setting : Setting
drawn_setting = setting_of 1 9 1 1 0 1000

abbrev pub draws : ℕ → Signed
draws slot = record { caller = 0; sign = Draws slot }

abbrev pub after_signs : List Signed → Shadow
after_signs signs = shadow_run counter_text signs (shadow_start counter_text drawn_setting)

pub record DrawnRows : Type 0 where
  pub events : (after_signs (draws 5 ∷ draws 7 ∷ [])).events ≡ Access 0 1 ∷ Access 0 2 ∷ []
  pub machine : (after_signs (draws 5 ∷ draws 7 ∷ [])).machine ≡ source_start counter_text 1
  pub unused : (after_signs (draws 5 ∷ draws 7 ∷ [])).unused ≡ 3
  pub first : (after_signs (draws 5 ∷ draws 7 ∷ [])).home 1 ≡ 5
  pub second : (after_signs (draws 5 ∷ draws 7 ∷ [])).home 2 ≡ 7
  -- a restart that isn't enabled is left out
  pub restart : (after_signs (record { caller = 0; sign = Renews } ∷ draws 5 ∷ [])).events ≡ Access 0 1 ∷ []
