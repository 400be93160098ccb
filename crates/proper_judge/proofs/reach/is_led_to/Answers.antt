use Rattle.std.proofs.Common.{rules, ◌≡◌, ◌-◌, ◌<◌, true, length}
use Rattle.std.specs.Prelude.{slice_index}
use Rattle.source_machine.specs.Proper.{has}
use Rattle.proper_judge.specs.Reach.{targets, fields_at}
use Rattle.proper_judge.proofs.Reaching.{leads_from}
use Rattle.proper_judge.proofs.reach.is_led_to.Goals as goal

pub returns-then-leads : goal.returns-then-leads
returns-then-leads c is =
    let lt : c.back.left - 1 < length c.args.names.now = search rules in
    let e : has c.args.name (targets (fields_at c.args.memory.now (slice_index c.args.names.now (c.back.left - 1)))) ≡ true = search rules in
    leads_from c.args.memory.now c.args.names.now (c.back.left - 1) 0 c.args.name lt (λ same. search rules) e
