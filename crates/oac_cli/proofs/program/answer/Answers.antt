use Rattle.oac_cli.proofs.program.answer.Goals as goal

pub returns : goal.returns
returns g c =
    let served = c.serve_if_had-status.ensures in
    (c.serve_if_had-status.result, served.0, served.1, served.2, c.conclude.ensures.explained, c.conclude.ensures.number)
