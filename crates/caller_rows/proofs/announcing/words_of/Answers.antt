use Rattle.std.proofs.Common.{ap, sym}
use Rattle.norm_lang.specs.declared.text.Text.{Text}
use Rattle.caller_parts.specs.Settings.{Setting}
use Rattle.caller_rows.proofs.BareRows.{starts_sound}
use Rattle.caller_rows.proofs.announcing.words_of.Goals as goal

pub returns : goal.returns
returns c =
    starts_sound c.args.row.now c.row.inside.normal.now c.setting-setting.result c.in_ok-words.words (ap (λ (r : Text × Setting). r.0) (sym c.row.view_is)) c.setting-setting.ensures c.kept.ensures.may
    c.kept.ensures.setting c.kept.ensures.fits c.in_ok-words.ensures.start
