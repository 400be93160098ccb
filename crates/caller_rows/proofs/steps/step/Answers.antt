use Rattle.std.proofs.Common.{ℕ, sym, subst}
use Rattle.caller_steps.specs.Lawful.{MayBeTold}
use Rattle.caller_steps.specs.Wants.{wants}
use Rattle.core_entries.proofs.Stepping.{step_told, step_lawful}
use Rattle.caller_rows.proofs.steps.step.Goals as goal

pub accept-requires-clause-lawful : goal.accept-requires-clause-lawful
accept-requires-clause-lawful c =
    subst (λ (word : ℕ). MayBeTold c.args.barred.now.target c.args.setting.now (wants c.args.barred.now.target c.args.entry.now.core) word) (sym c.access-word.ensures.found)
    (step_told c.args.barred.now c.args.setting.now c.args.entry.now.core c.args.words.now c.in-Some.access c.kept.ensures c.kept-2.ensures c.requires.belongs c.requires.lawful c.in-Some.ensures.wanted)

pub signs-signs-requires-clause-lawful : goal.signs-signs-requires-clause-lawful
signs-signs-requires-clause-lawful c =
    subst (λ (word : ℕ). MayBeTold c.args.barred.now.target c.args.setting.now (wants c.args.barred.now.target c.args.entry.now.core) word) (sym c.access-word.ensures.found)
    (step_told c.args.barred.now c.args.setting.now c.args.entry.now.core c.args.words.now c.in-Some.access c.kept.ensures c.kept-2.ensures c.requires.belongs c.requires.lawful c.in-Some.ensures.wanted)

pub returns-in-Some-clause-lawful : goal.returns-in-Some-clause-lawful
returns-in-Some-clause-lawful c =
    step_lawful c.args.barred.now c.args.setting.now c.args.entry.now.core c.args.words.now c.in-Some.access c.kept.ensures c.kept-2.ensures c.requires.belongs c.requires.lawful c.in-Some.ensures.wanted
    c.access-word.new.self c.access-word.ensures.left
