use Rattle.std.proofs.Common.{sym, ap, ◌∙◌}
use Rattle.core_runs.specs.Replays.{is_of_kind}
use Rattle.replay_steps.proofs.Wanting.{wants_some, wants_none}
use Rattle.replay_steps.proofs.looking.wants_kind.Goals as goal

pub kind_wanted-requires : goal.kind_wanted-requires
kind_wanted-requires c = record { belongs = c.requires.each c.args.caller c.in-Some.entry.now (sym c.in-Some.ensures) }

pub returns-in-None : goal.returns-in-None
returns-in-None c = wants_none c.args.prepared.now.target c.args.kind c.args.entries.now c.args.caller c.in-None.ensures

pub returns-in-Some : goal.returns-in-Some
returns-in-Some c =
    wants_some c.args.prepared.now.target c.args.kind c.args.entries.now c.args.caller c.in-Some.entry.now c.is_of_kind.result c.in-Some.ensures
    (c.is_of_kind.ensures ∙ ap (is_of_kind c.args.kind) c.kind_wanted.ensures)
