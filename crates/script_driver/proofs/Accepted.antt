-- A document that can be run isn't refused.
use Rattle.std.proofs.Common.{◌≡◌, ℕ, Some, None, sym, ◌∙◌}
use Rattle.norm_check.specs.declared.refusal.Refusal.{Refusal}
use Rattle.norm_check.specs.Refusals.{breach_of}
use Rattle.documents.specs.declared.document.Document.{Document}
use Rattle.script_plans.specs.declared.fault.ShapeFault.{ShapeFault}
use Rattle.script_plans.specs.declared.fault.RunFault.TheVariants as faults
use Rattle.script_plans.specs.Plans.{IsFaultOf, IsRunnable}

pub keeps_rules : (document : Document) (refusal : Refusal) → IsRunnable document → IsFaultOf document (faults.Refused refusal) → ⊥
keeps_rules document refusal runs refused = runs.normal (breach_of refusal) refused.first.0

none_is_some : (fault : ShapeFault) → None ≡ Some fault → ⊥
none_is_some fault same = cc

pub has_shape : (document : Document) (number at : ℕ) → IsRunnable document → IsFaultOf document (faults.Shape number at) → ⊥
has_shape document number at runs refused = none_is_some (record { number = number; at = at }) (sym runs.shape ∙ refused.1)
