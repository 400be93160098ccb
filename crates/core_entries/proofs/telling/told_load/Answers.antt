use Rattle.std.proofs.Common.{◌≡◌, Bool, true, Some, ap, subst, ◌∙◌}
use Rattle.target_code.specs.declared.target.Target.{Target}
use Rattle.caller_steps.specs.Entries.{instr_in}
use Rattle.core_entries.specs.declared.signs.Sign.TheVariants.{Access}
use Rattle.core_entries.specs.StepRuns.{signs_of}
use Rattle.core_entries.specs.Told.{is_load_at, told_by}
use Rattle.core_entries.proofs.StepsTold.{load_told}
use Rattle.core_entries.proofs.telling.told_load.Goals as goal

pub returns-clause-told : goal.returns-clause-told
returns-clause-told c =
    let loads : is_load_at (instr_in c.args.barred.now.target c.args.entry.now.core) ≡ true =
    subst (λ (t : Target). is_load_at (instr_in t c.args.entry.now.core) ≡ true) c.requires.program c.requires.loads in
    c.of.ensures
    ∙ ap (signs_of (Some Access)) (c.has_ended.ensures ∙ ap (λ (b : Bool). told_by b c.step_with.new.entry.core.routine) c.is_wrap_up-owes.ensures)
    ∙ load_told c.args.barred.now.target c.args.setting.now c.args.words.now c.step_with.new.words c.args.entry.now c.step_with.new.entry c.requires.optimistic c.step_with.ensures.step c.requires.stands loads
