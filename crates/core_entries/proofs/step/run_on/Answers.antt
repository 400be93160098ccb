use Rattle.std.proofs.Common.{rules, arith, false, ◌≡◌, ◌≤◌}
use Rattle.caller_steps.specs.Entries.{is_idle}
use Rattle.core_entries.proofs.Running.{runs_more}
use Rattle.core_entries.proofs.step.run_on.Goals as goal

pub steps-preserved : goal.steps-preserved
steps-preserved c =
    let busy : is_idle c.steps.entry.core.routine ≡ false = search rules in
    let le = c.steps.invariant.fewer in
    record {
      belongs = c.step_on.ensures.belongs;
      lawful = c.step_on.ensures.lawful;
      fewer = omega (arith, le);
      made =
          runs_more c.args.barred.now.target c.args.setting.now c.args.most c.steps.left c.args.words.now c.steps.words c.step_on.new.words c.args.entry.now c.steps.entry c.step_on.new.entry le c.steps-test.true
          c.steps.invariant.made busy c.step_on.ensures.step;
    }
