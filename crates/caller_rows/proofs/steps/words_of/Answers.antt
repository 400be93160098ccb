use Rattle.caller_rows.proofs.Starting.{sound_at_start}
use Rattle.caller_rows.proofs.steps.words_of.Goals as goal

pub returns-clause-sound : goal.returns-clause-sound
returns-clause-sound c = sound_at_start c.args.barred.now.target c.args.setting.now c.in_ok-words.words c.runs_in_row.ensures c.in_ok-words.ensures.start
