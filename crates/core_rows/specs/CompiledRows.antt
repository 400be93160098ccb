-- The targets written by hand are what a scheme of compiling makes of their texts: the first scheme, with a check after each load, of
-- all of them, and the compiler's own of those whose loads share no check.
use Rattle.std.specs.Prelude.{◌≡◌}
use Rattle.norm_lang.specs.Shipped.{set_text, queue_text}
use Rattle.target_code.specs.SecondScheme.{second_scheme}
use Rattle.scheme_laws.specs.FirstScheme.{first_scheme}
use Rattle.core_rows.specs.SmallTexts.{counter_text, tally_text, numbers_text, swap_text, drops_text, branches_text, stale_text, press_text, touch_text, pair_text}
use Rattle.core_rows.specs.SmallTargets.{counter_target, tally_target, numbers_target, swap_target, drops_target, branches_target, stale_target, press_target, touch_target, pair_target}
use Rattle.core_rows.specs.ShippedTargets.{list_target, queue_target}

pub record CompiledRows : Type 0 where
  pub counter : first_scheme counter_text ≡ counter_target
  pub tally : first_scheme tally_text ≡ tally_target
  pub numbers : first_scheme numbers_text ≡ numbers_target
  pub swap : first_scheme swap_text ≡ swap_target
  pub drops : first_scheme drops_text ≡ drops_target
  pub branches : first_scheme branches_text ≡ branches_target
  pub stale : first_scheme stale_text ≡ stale_target
  pub press : first_scheme press_text ≡ press_target
  pub touch : first_scheme touch_text ≡ touch_target
  pub pair : first_scheme pair_text ≡ pair_target
  pub list : first_scheme (set_text 1) ≡ list_target
  pub queue : first_scheme queue_text ≡ queue_target
  pub counter_compiled : second_scheme counter_text ≡ counter_target
  pub list_compiled : second_scheme (set_text 1) ≡ list_target
