use Rattle.caller_rows.proofs.steps.begin_on.Goals as goal

pub returns : goal.returns
returns c = c.begin.ensures.belongs.each c.args.setting.now c.requires.optimistic c.requires.belongs
