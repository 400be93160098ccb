use Rattle.std.proofs.Common.{◌<◌, length, subst}
use Rattle.caller_parts.specs.Codes.{code_shown, step_shown}
use Rattle.caller_parts.proofs.Turns.{goes_further, stays_near}
use Rattle.caller_parts.proofs.local.run_target.Goals as goal

pub loop-preserved : goal.loop-preserved
loop-preserved c =
    let lt : c.loop.counter < length (code_shown c.args.code) = subst (λ n. c.loop.counter < n) c.len-end.ensures c.loop-test.true in
    record {
      near = stays_near (code_shown c.args.code) (step_shown c.in-Some.instr) c.args.start c.loop.at c.in-Some-target_step.next c.in-Some.ensures c.in-Some-target_step.ensures.near c.loop.invariant.near;
      same = goes_further (code_shown c.args.code) (length (code_shown c.args.code)) c.loop.counter c.loop.at c.loop.registers (step_shown c.in-Some.instr) _ _ lt c.in-Some.ensures c.in-Some-target_step.ensures.gives c.loop.invariant.same;
    }
