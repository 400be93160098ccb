use Rattle.std.proofs.Common.{true, sym, ap, ◌∙◌}
use Rattle.std.specs.Prelude.{slice_set}
use Rattle.guard_words.specs.Guards.{next_to_clear}
use Rattle.caller_steps.specs.Entries.{RoomyEntry}
use Rattle.core_entries.proofs.SecondClear.{second}
use Rattle.core_entries.proofs.signs.restart_after.Goals as goal

pub returns-in-Some : goal.returns-in-Some
returns-in-Some c =
    c.next_to_clear-in-Some.ensures
    ∙ ap (λ (e : RoomyEntry). next_to_clear e.core.hand.guards (slice_set c.spared-spared.result c.in-Some.r true)) c.state.view_is
    ∙ second c.args.program.now c.args.state.now.core c.spared-spared.result c.in-Some.r
    (c.spared-spared.ensures)
    (sym c.in-Some.is ∙ c.next_to_clear.ensures ∙ ap (λ (e : RoomyEntry). next_to_clear e.core.hand.guards c.spared-spared.result) c.state.view_is)
    c.requires
