use Rattle.std.proofs.Common.{suc, sym, ◌∙◌}
use Rattle.std.proofs.lemmas.Result.{err_from_is_err_and}
use Rattle.core_runs.specs.Replays.{ended_calls}
use Rattle.oa_core.specs.Shown.{replay_by, shown, refusal_of}
use Rattle.oa_core.proofs.Looping.{caller_stop, caller_end}
use Rattle.oa_core.proofs.Moving.{has_next, has_none}
use Rattle.oa_core.proofs.Calling.{ended_on}
use Rattle.oa_core.proofs.progress.Terms.end_caller.Goals as goal

pub calls-preserved : goal.calls-preserved
calls-preserved c = record {
  way = c.in_ok-make_call.ensures.under_way;
  same =
      ended_on c.args.self.now c.args.caller (ended_calls c.args.caller (shown c.calls.now)) (suc c.in_ok-make_call.ensures.made.further) c.calls.now c.make_call.new.now _ c.in_ok-make_call.ensures.made.steps c.calls.invariant.same;
}

pub returns-in_err-make_call-clause-made : goal.returns-in_err-make_call-clause-made
returns-in_err-make_call-clause-made c =
    let p = err_from_is_err_and c.from_residual.result c.from_residual.ensures.1 in
    rw (p.1, p.2)
    (caller_stop (replay_by c.args.self.now) c.args.caller c.calls.now (refusal_of c.in_err-make_call.field-0.0) _ (has_next c.args.self.now c.args.caller c.calls.now c.in-Some.next c.in-Some.ensures)
    c.in_err-make_call.ensures.made c.calls.invariant.same)

pub returns-clause-made : goal.returns-clause-made
returns-clause-made c =
    caller_end (replay_by c.args.self.now) c.args.caller c.calls.now _ (has_none c.args.self.now c.args.caller c.calls.now (sym c.next_of.ensures ∙ c.in_default.is)) c.calls.invariant.same
