use Rattle.std.proofs.Common.{refl}
use Rattle.state_judge.proofs.Gaining.{follows_read}
use Rattle.state_judge.proofs.runs.follow_machine.Goals as goal

pub returns : goal.returns
returns c =
    follows_read c.args.text.now c.args.text.now c.args.machine.now c.step_machine.new.machine c.step_machine.new.machine c.args.machine.now c.args.event.now c.mover-c.result c.gain_at-gain.result
    c.args.runs.now c.place.new.runs c.items.result.now c.step_machine.new.machine.callers _ _ c.in_ok-next.next
    c.mover-c.ensures refl refl c.gain_at-gain.ensures refl c.in-Ok.ensures.0 c.in-Ok.ensures.1
    refl c.caller_at.ensures c.items.ensures c.run_of.ensures c.in_ok-next.ensures c.place.ensures
