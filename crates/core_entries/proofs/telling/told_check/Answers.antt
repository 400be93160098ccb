use Rattle.std.proofs.Common.{◌≡◌, ℕ, ◌&&◌, Bool, sym, ap, ◌∙◌}
use Rattle.std.specs.Prelude.{◌==◌}
use Rattle.target_code.specs.declared.target.Target.{Target}
use Rattle.caller_steps.specs.Entries.{instr_in}
use Rattle.core_entries.specs.StepRuns.{check_named, signs_of}
use Rattle.core_entries.specs.Told.{told_by}
use Rattle.core_entries.proofs.StepsTold.{check_told}
use Rattle.core_entries.proofs.telling.told_check.Goals as goal

pub returns-clause-told : goal.returns-clause-told
returns-clause-told c =
    let passes : Bool = c.seen.result == c.seen-seen.result in
    let test : c.step_with.new.entry.core.hand.seen == c.args.entry.now.core.hand.seen ≡ passes =
    ap (λ (n : ℕ). n == c.args.entry.now.core.hand.seen) (sym c.seen.ensures) ∙ ap (λ (n : ℕ). c.seen.result == n) (sym c.seen-seen.ensures) in
    c.check_signs.ensures
    ∙ ap (λ (b : Bool). signs_of (check_named passes) (told_by (passes && b) c.step_with.new.entry.core.routine)) c.owes-owes.ensures
    ∙ check_told c.args.barred.now.target c.args.setting.now c.args.words.now c.step_with.new.words c.args.entry.now c.step_with.new.entry c.requires.optimistic c.step_with.ensures.step c.requires.stands
    (ap (λ (t : Target). instr_in t c.args.entry.now.core) (sym c.requires.program) ∙ c.requires.check) passes test
