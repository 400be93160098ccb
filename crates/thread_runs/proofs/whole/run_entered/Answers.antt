use Rattle.std.proofs.Common.{rules, ◌<◌, ◌^◌, refl}
use Rattle.thread_runs.proofs.Entered.{completes}
use Rattle.thread_runs.proofs.whole.run_entered.Goals as goal

pub returns : goal.returns
returns g c =
    let fuel : c.args.fuel < 2 ^ 64 = search rules in
    completes c.args.arena.fixed c.args.arena.fixed c.args.scripts.now c.args.fuel c.close.result.phase c.run_callers-rest.result.entries c.close.result.entries refl c.requires.fuel fuel c.close.ensures c.run_callers-rest.ensures.ended
