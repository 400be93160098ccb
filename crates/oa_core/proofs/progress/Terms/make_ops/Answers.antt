use Rattle.std.proofs.Common.{◌≤◌, ◌<◌, suc, arith}
use Rattle.std.proofs.lemmas.Result.{err_from_is_err_and}
use Rattle.core_runs.specs.Replays.{ended_calls}
use Rattle.oa_core.specs.Shown.{replay_by, shown, refusal_of}
use Rattle.oa_core.proofs.Looping.{ops_stop, ops_end}
use Rattle.oa_core.proofs.Calling.{ops_on}
use Rattle.oa_core.proofs.progress.Terms.make_ops.Goals as goal

pub calls-preserved : goal.calls-preserved
calls-preserved c =
    let is = c.ended_calls.ensures.count in
    let test = c.calls-test.true in
    let lt : ended_calls c.args.caller (shown c.calls.now) < c.goal_of-goal.result = omega (arith, is, test) in
    record {
      way = c.in_ok-call_of.ensures.under_way;
      same =
          ops_on c.args.self.now c.args.caller (ended_calls c.args.caller (shown c.calls.now)) c.goal_of-goal.result (suc c.in_ok-call_of.ensures.made.further) c.calls.now c.call_of.new.now _ lt c.in_ok-call_of.ensures.made.steps
          c.calls.invariant.same;
    }

pub returns-in_err-call_of-clause-made : goal.returns-in_err-call_of-clause-made
returns-in_err-call_of-clause-made c =
    let is = c.ended_calls.ensures.count in
    let test = c.calls-test.true in
    let lt : ended_calls c.args.caller (shown c.calls.now) < c.goal_of-goal.result = omega (arith, is, test) in
    let p = err_from_is_err_and c.from_residual.result c.from_residual.ensures.1 in
    rw (p.1, p.2)
    (ops_stop (replay_by c.args.self.now) c.args.caller c.goal_of-goal.result c.calls.now (refusal_of c.in_err-call_of.field-0.0) _ lt c.in_err-call_of.ensures.made c.calls.invariant.same)

pub returns-clause-made : goal.returns-clause-made
returns-clause-made c =
    let is = c.ended_calls.ensures.count in
    let test = c.calls-test.false in
    let le : c.goal_of-goal.result ≤ ended_calls c.args.caller (shown c.calls.now) = omega (arith, is, test) in
    ops_end (replay_by c.args.self.now) c.args.caller c.goal_of-goal.result c.calls.now _ le c.calls.invariant.same
