use Rattle.std.proofs.Common.{◌≡◌, ◌+◌, ◌/◌, ap, ◌∙◌, arith}
use Rattle.script_driver.specs.Rounds.{round_at}
use Rattle.script_driver.proofs.rounds.round_after.Goals as goal

pub returns-else-i-eq3 : goal.returns-else-i-eq3
returns-else-i-eq3 c =
    let same : c.args.i / 4 ≡ (c.args.i + 1) / 4 = omega (arith, c.if-i-eq3.false) in
    c.requires.round ∙ ap (round_at c.args.caller) same
