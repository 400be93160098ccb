use Rattle.text_laws.proofs.TextsSaid.{texts_are_said}
use Rattle.text_laws.proofs.laws.texts_are_said.Goals as goal

pub returns : goal.returns
returns c = texts_are_said
