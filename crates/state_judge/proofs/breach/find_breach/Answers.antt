use Rattle.std.proofs.Common.{rules, ◌≡◌, subst, Some, None, true, false}
use Rattle.proper_judge.specs.Reach.{targets}
use Rattle.state_judge.specs.Reach.{Found}
use Rattle.state_judge.specs.Breaches.{is_once, ShowsGot, Shows}
use Rattle.state_judge.proofs.Breaching.{once_is, twice_is, root_shown, all_shown, if_ok}
use Rattle.state_judge.proofs.breach.find_breach.Goals as goal

pub returns-then-not-is_once : goal.returns-then-not-is_once
returns-then-not-is_once c runs holds = let e : is_once c.args.machine.now.memory.retired ≡ false = search rules in twice_is c.args.machine.now.memory.retired e

pub returns-in-Some : goal.returns-in-Some
returns-in-Some c runs holds =
    let e : is_once c.args.machine.now.memory.retired ≡ true = search rules in
    let found : Found c.args.machine.now.memory (targets c.args.machine.now.memory.roots) c.args.machine.now.memory.retired (Some c.in-Some.name) =
    subst (Found c.args.machine.now.memory (targets c.args.machine.now.memory.roots) c.args.machine.now.memory.retired) c.in-Some.is c.in_ok-name.ensures in
    (once_is c.args.machine.now.memory.retired e, root_shown c.args.machine.now c.in-Some.name found)

pub returns : goal.returns
returns c =
    let e : is_once c.args.machine.now.memory.retired ≡ true = search rules in
    let none : c.in_ok-name.field-0 ≡ None = search rules in
    if_ok (ShowsGot c.args.machine.now c.args.runs.now) (Shows c.args.machine.now c.args.runs.now) c.got_breach.result
    (all_shown c.args.machine.now c.args.runs.now c.requires e
    (subst (Found c.args.machine.now.memory (targets c.args.machine.now.memory.roots) c.args.machine.now.memory.retired) none c.in_ok-name.ensures))
    c.got_breach.ensures
