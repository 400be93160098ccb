use Rattle.kind_laws.proofs.InText.{kinds_are_in_text}
use Rattle.kind_laws.proofs.laws.kinds_are_in_text.Goals as goal

pub returns : goal.returns
returns c = kinds_are_in_text
