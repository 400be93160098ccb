use Rattle.arena_rows.proofs.budgets.go_alone.Given as goal

abbrev pub invariant-loop-who : goal.invariant-loop-who
invariant-loop-who g l = g.H.Hall.has_caller l.hall l.caller
