use Rattle.std.proofs.Common.{ℕ, sym, subst}
use Rattle.target_code.specs.Bare.{bare}
use Rattle.caller_steps.specs.Lawful.{MayBeTold}
use Rattle.caller_steps.specs.Wants.{wants}
use Rattle.epoch_core.specs.Settings.{entry_setting}
use Rattle.caller_rows.proofs.BareStepping.{told_at, lawful_at}
use Rattle.caller_rows.proofs.announcing.step.Goals as goal

pub accept-requires-clause-lawful : goal.accept-requires-clause-lawful
accept-requires-clause-lawful c =
    let text = c.row.inside.normal.now in
    let setting = entry_setting text c.row.inside.shape c.row.inside.last in
    subst (λ (word : ℕ). MayBeTold (bare text) setting (wants (bare text) c.args.entry.now.core) word) (sym c.access-word.ensures.found)
    (told_at c.args.row.now text setting c.args.entry.now.core c.args.words.now c.in-Some.access (sym c.row.view_is) c.kept.ensures.may c.kept.ensures.setting c.requires.belongs c.requires.lawful
    c.in-Some.ensures.wanted)

pub returns-in-Some-clause-lawful : goal.returns-in-Some-clause-lawful
returns-in-Some-clause-lawful c =
    let text = c.row.inside.normal.now in
    lawful_at c.args.row.now text (entry_setting text c.row.inside.shape c.row.inside.last) c.args.entry.now.core c.args.words.now c.access-word.new.self c.in-Some.access (sym c.row.view_is)
    c.kept.ensures.may c.kept.ensures.setting c.requires.belongs c.requires.lawful c.in-Some.ensures.wanted c.access-word.ensures.left
