use Rattle.std.proofs.Common.{◌≡◌, ℕ, sym, subst}
use Rattle.caller_steps.specs.Lawful.{MayBeTold}
use Rattle.caller_steps.specs.Wants.{wants}
use Rattle.caller_steps.specs.After.{after}
use Rattle.core_entries.proofs.Stepping.{step_told, step_lawful, step_is}
use Rattle.core_entries.proofs.step.step_apart.Goals as goal

pub accept_in-requires-clause-lawful : goal.accept_in-requires-clause-lawful
accept_in-requires-clause-lawful c =
    subst (λ (word : ℕ). MayBeTold c.args.barred.now.target c.args.setting.now (wants c.args.barred.now.target c.args.entry.now.core) word) (sym c.access-word.ensures.found)
    (step_told c.args.barred.now c.args.setting.now c.args.entry.now.core c.args.words.now c.in-Some.access c.kept-2.ensures c.kept.ensures c.requires.belongs c.requires.lawful c.in-Some.ensures.wanted)

pub returns-in-Some-clause-step : goal.returns-in-Some-clause-step
returns-in-Some-clause-step c =
    step_is c.args.barred.now c.args.setting.now c.args.entry.now c.args.words.now c.access-word.new.self c.accept_in.new.self c.in-Some.access c.kept-2.ensures c.kept.ensures c.requires.belongs c.requires.lawful
    c.in-Some.ensures.wanted c.access-word.ensures.left
    (subst (λ (word : ℕ). c.accept_in.new.self ≡ record c.args.entry.now { core = after c.args.barred.now.target c.args.setting.now c.args.entry.now.core word }) c.access-word.ensures.found c.accept_in.ensures.after)

pub returns-in-Some-clause-lawful : goal.returns-in-Some-clause-lawful
returns-in-Some-clause-lawful c =
    step_lawful c.args.barred.now c.args.setting.now c.args.entry.now.core c.args.words.now c.in-Some.access c.kept-2.ensures c.kept.ensures c.requires.belongs c.requires.lawful c.in-Some.ensures.wanted
    c.access-word.new.self c.access-word.ensures.left
