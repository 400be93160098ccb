use Rattle.word_runner.specs.Shown.{CameFrom}
use Rattle.arena_rows.proofs.places.enter_some.Given as goal

abbrev pub invariant-loop : goal.invariant-loop
invariant-loop l = CameFrom l.hall l.blank.table l.blank.fixed
