use Rattle.arena_rows.proofs.budgets.go_together.Given as goal

abbrev pub invariant-loop-who : goal.invariant-loop-who
invariant-loop-who g l = record {
  one : g.H.Hall.has_caller l.hall l.one;
  two : g.H.Hall.has_caller l.hall l.two;
}
