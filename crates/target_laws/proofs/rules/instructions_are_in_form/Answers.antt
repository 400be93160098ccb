use Rattle.target_laws.proofs.Forms.{instructions_are_in_form}
use Rattle.target_laws.proofs.rules.instructions_are_in_form.Goals as goal

pub returns : goal.returns
returns c = instructions_are_in_form
