use Rattle.document_spelling.proofs.SpellingsRead.{spellings_are_read}
use Rattle.document_spelling.proofs.laws.spellings_are_read.Goals as goal

pub returns : goal.returns
returns c = spellings_are_read
