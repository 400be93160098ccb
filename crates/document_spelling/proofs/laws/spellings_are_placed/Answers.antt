use Rattle.document_spelling.proofs.CallsPlaced.{spellings_are_placed}
use Rattle.document_spelling.proofs.laws.spellings_are_placed.Goals as goal

pub returns : goal.returns
returns c = spellings_are_placed
