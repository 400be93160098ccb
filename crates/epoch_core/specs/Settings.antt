-- The setting of a text that is run as it is.
use Rattle.std.specs.Prelude.{ℕ}
use Rattle.norm_lang.specs.declared.text.Text.{Text}
use Rattle.target_code.specs.Bare.{bare}
use Rattle.oa_words.specs.Words.{Sizes}
use Rattle.caller_parts.specs.KindCounts.{node_counts}
use Rattle.caller_parts.specs.Settings.{Setting}
use Rattle.caller_parts.specs.declared.setting.Reclamation.TheVariants.{Epochs}

-- epochs over a row of these sizes and with these phases, and with the text's initial nodes
abbrev pub epoch_setting : Text → Sizes → ℕ → ℕ → Setting
epoch_setting text sizes first last = record { reclamation = Epochs; sizes = sizes; first = first; last = last; nodes = node_counts (bare text) }

-- that of an entry: phases from 1 on
abbrev pub entry_setting : Text → Sizes → ℕ → Setting
entry_setting text sizes last = epoch_setting text sizes 1 last
