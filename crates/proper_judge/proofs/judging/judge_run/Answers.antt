use Rattle.std.proofs.Common.{rules, ◌≡◌, ◌∙◌, length, sym, subst, true, false, Some, None}
use Rattle.proper_judge.specs.Events.{is_made, breach_of}
use Rattle.proper_judge.proofs.Verdicts.{Along, along_start, stop_told, breach_told, next_told, along_end}
use Rattle.proper_judge.proofs.judging.judge_run.Goals as goal

pub loop-at-init : goal.loop-at-init
loop-at-init c = record {
  along = along_start c.args.normal.now c.args.callers c.args.events.now c.in_ok-state.state c.in_ok-kept.kept c.requires c.in_ok-state.ensures.starts c.in_ok-kept.ensures c.in_ok-state.ensures.callers;
  of_run = c.in_ok-state.ensures.runs;
}

pub returns-then-not-is_made : goal.returns-then-not-is_made
returns-then-not-is_made c =
    let not_made : is_made c.in_ok-told.told ≡ false = search rules in
    stop_told c.args.normal.now c.args.callers c.loop-at.at c.args.events.now _ c.loop-at.state c.judge_event.new.state c.loop-at.kept c.judge_event.new.kept c.loop-at-test.true c.loop-at.invariant.along
    c.in_ok-told.told not_made c.in_ok-told.ensures.judges

pub returns-in-Some : goal.returns-in-Some
returns-in-Some c =
    let breaks : breach_of c.in_ok-told.told ≡ Some c.in-Some.breach = sym c.breach_of.ensures ∙ c.in-Some.is in
    breach_told c.args.normal.now c.args.callers c.loop-at.at c.args.events.now _ c.loop-at.state c.judge_event.new.state c.loop-at.kept c.judge_event.new.kept c.loop-at-test.true c.loop-at.invariant.along
    c.in_ok-told.told c.in-Some.breach breaks c.in_ok-told.ensures.judges

pub loop-at-preserved : goal.loop-at-preserved
loop-at-preserved c =
    let made : is_made c.in_ok-told.told ≡ true = search rules in
    let breaks : breach_of c.in_ok-told.told ≡ None = sym c.breach_of.ensures ∙ c.in_default.is in
    record {
      along = next_told c.args.normal.now c.args.callers c.loop-at.at c.args.events.now _ c.loop-at.state c.judge_event.new.state c.loop-at.kept c.judge_event.new.kept c.loop-at-test.true c.loop-at.invariant.along
          c.in_ok-told.told made breaks c.in_ok-told.ensures.judges;
      of_run = c.in_ok-told.ensures.runs;
    }

pub returns : goal.returns
returns c =
    let e : c.loop-at.at ≡ length c.args.events.now = search rules in
    along_end c.args.normal.now c.args.callers c.args.events.now c.loop-at.state c.loop-at.kept
    (subst (λ n. Along c.args.normal.now c.args.callers c.args.events.now n c.loop-at.state c.loop-at.kept) e c.loop-at.invariant.along)
