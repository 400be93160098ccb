use Rattle.oax_cli.proofs.program.answer.Goals as goal

pub returns : goal.returns
returns g c = (c.serve_if_had-outcome.result, c.serve_if_had-outcome.ensures, c.conclude.ensures)
