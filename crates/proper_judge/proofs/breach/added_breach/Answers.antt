use Rattle.std.proofs.Common.{rules, ◌≡◌, true}
use Rattle.source_machine.specs.Proper.{has}
use Rattle.proper_judge.specs.Numbers.{numbering, is_among}
use Rattle.proper_judge.specs.Reach.{targets, LeadsFrom}
use Rattle.proper_judge.proofs.Reaching.{known_target, known_led}
use Rattle.proper_judge.proofs.breach.added_breach.Goals as goal

pub returns-then-is_target : goal.returns-then-is_target
returns-then-is_target c roots others =
    let at : has c.args.name (targets c.args.memory.now.roots) ≡ true = search rules in
    known_target c.args.memory.now c.args.memory.now.roots c.args.name (is_among (numbering c.args.retirements.now) c.args.run.now.before) at roots

pub returns-then-is_led_to : goal.returns-then-is_led_to
returns-then-is_led_to c roots others =
    let led : LeadsFrom c.args.memory.now c.args.run.now.got c.args.name = search rules in
    known_led c.args.memory.now c.args.run.now.got c.args.name (is_among (numbering c.args.retirements.now) c.args.run.now.before) led others
