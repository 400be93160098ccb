use Rattle.std.proofs.Common.{rules, ◌≡◌, length}
use Rattle.std.specs.Prelude.{All}
use Rattle.thread_runs.specs.Scripts.{Finished}
use Rattle.thread_runs.proofs.Written.{popped_all}
use Rattle.thread_runs.proofs.whole.run_callers.Goals as goal

pub gather-requires-clause-others : goal.gather-requires-clause-others
gather-requires-clause-others g c =
    let F = Finished c.args.arena.now c.args.scripts.now c.args.fuel in
    let ran : All F c.run_all.new.callers = search rules in
    let same : length c.run_all.new.callers ≡ length c.args.callers.items = search rules in
    let len : c.args.callers.len ≡ length c.args.callers.items = search rules in
    let popped = popped_all F c.args.callers.items c.run_all.new.callers c.pop.new.self.items c.args.callers.len c.pop.result same len c.pop.ensures.items ran in
    popped.0

pub gather-requires-clause-first : goal.gather-requires-clause-first
gather-requires-clause-first g c =
    let F = Finished c.args.arena.now c.args.scripts.now c.args.fuel in
    let ran : All F c.run_all.new.callers = search rules in
    let same : length c.run_all.new.callers ≡ length c.args.callers.items = search rules in
    let len : c.args.callers.len ≡ length c.args.callers.items = search rules in
    let popped = popped_all F c.args.callers.items c.run_all.new.callers c.pop.new.self.items c.args.callers.len c.pop.result same len c.pop.ensures.items ran in
    search rules
