use Rattle.std.proofs.Common.{length, refl}
use Rattle.thread_runs.proofs.Entered.{ready_so}
use Rattle.thread_runs.proofs.whole.ReadyCallers.bare.Goals as goal

pub returns-clause-ready : goal.returns-clause-ready
returns-clause-ready c =
    ready_so c.of.result c.in_ok-arena.arena.fixed _ c.args.scripts.now (length c.args.scripts.now) c.longest-room.result c.in_ok-arena.ensures.arena c.of.ensures c.requires.suit refl
    (record { rooms = c.longest-room.ensures.rooms; least = c.longest-room.ensures.least }) c.requires.short
