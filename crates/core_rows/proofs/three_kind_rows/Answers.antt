use Rattle.core_rows.proofs.ThreeKinds.{three_kind_settings, three_kind_cradles, three_kind_words}
use Rattle.core_rows.proofs.three_kind_rows.Goals as goal

pub returns-clause-settings : goal.returns-clause-settings
returns-clause-settings c = three_kind_settings

pub returns-clause-cradles : goal.returns-clause-cradles
returns-clause-cradles c = three_kind_cradles

pub returns-clause-words : goal.returns-clause-words
returns-clause-words c = three_kind_words
